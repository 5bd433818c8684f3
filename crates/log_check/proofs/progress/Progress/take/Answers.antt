use Rattle.std.proofs.Common.{◌≡◌, [], ◌∷◌, ◌∙◌, List, arith, refl, ap, subst}
use Rattle.geo_model.specs.declared.plan.Node.{Node}
use Rattle.bound_log.specs.Counted.{counts_with}
use Rattle.bound_log.specs.declared.line_kind.LineKind.{LineKind}
use Rattle.bound_log.specs.Rules.{IsAllowedLine}
use Rattle.bound_log.specs.declared.log_line.LogLine.{LogLine}
use Rattle.log_check.proofs.PlaceLemmas.{split_fits}
use Rattle.log_check.proofs.TakeLemmas.{split_taken, leaf_taken}
use Rattle.log_check.proofs.progress.Progress.take.Goals as goal

pub overflow_cast-candidate : goal.overflow_cast-candidate
overflow_cast-candidate c =
    let stack = c.args.self.now.stack in
    let allowed = subst (λ (l : LogLine). (node : Node) (rest : List Node) → stack.nodes ≡ node ∷ rest → IsAllowedLine c.args.network.now node l) c.in-Split.is c.requires.allowed in
    let fits = split_fits c.args.network.now stack c.in-Split.candidate c.requires.ready c.requires.some allowed in
    omega (arith, fits.small)

pub split-requires-clause-few : goal.split-requires-clause-few
split-requires-clause-few c =
    let stack = c.args.self.now.stack in
    let allowed = subst (λ (l : LogLine). (node : Node) (rest : List Node) → stack.nodes ≡ node ∷ rest → IsAllowedLine c.args.network.now node l) c.in-Split.is c.requires.allowed in
    (split_fits c.args.network.now stack c.in-Split.candidate c.requires.ready c.requires.some allowed).few

pub split-requires-clause-candidate : goal.split-requires-clause-candidate
split-requires-clause-candidate c =
    let stack = c.args.self.now.stack in
    let allowed = subst (λ (l : LogLine). (node : Node) (rest : List Node) → stack.nodes ≡ node ∷ rest → IsAllowedLine c.args.network.now node l) c.in-Split.is c.requires.allowed in
    (split_fits c.args.network.now stack c.in-Split.candidate c.requires.ready c.requires.some allowed).within

pub returns-in-Split-clause-taken : goal.returns-in-Split-clause-taken
returns-in-Split-clause-taken c = λ node rest is.
    split_taken c.args.network.now node rest c.args.line.now c.in-Split.candidate c.args.self.now _ c.in-Split.is (c.split.ensures node rest is) refl (c.count_line.ensures ∙ ap (λ (k : LineKind). counts_with c.args.self.now.counts (k ∷ [])) c.kind.ensures) refl refl refl

pub returns-in-Leaf-clause-taken : goal.returns-in-Leaf-clause-taken
returns-in-Leaf-clause-taken c = λ node rest is.
    leaf_taken c.args.network.now node rest c.args.line.now c.in-Leaf.leaf c.args.self.now _ _ c.in-Leaf.is refl refl (c.count_line.ensures ∙ ap (λ (k : LineKind). counts_with c.args.self.now.counts (k ∷ [])) c.kind.ensures) refl refl refl (c.close.ensures.ends node rest is)

pub close-requires-clause-allowed : goal.close-requires-clause-allowed
close-requires-clause-allowed c = λ node rest is.
    subst (λ (l : LogLine). IsAllowedLine c.args.network.now node l) c.in-Leaf.is (c.requires.allowed node rest is)

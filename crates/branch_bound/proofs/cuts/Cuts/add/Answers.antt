use Rattle.std.proofs.Common.{rules, ◌≡◌, ◌++◌, ◌∷◌, [], List, Ok, arith, ap, ◌∙◌, length}
use Rattle.cut_pool.specs.Cut.{CutOf}
use Rattle.branch_bound.specs.Cuts.{SearchCuts}
use Rattle.branch_bound.proofs.CutLemmas.{is_cut_for}
use Rattle.branch_bound.proofs.GrownLemmas.{GotCuts-none, GotCuts-one}
use Rattle.branch_bound.proofs.PointLemmas.{adds}
use Rattle.branch_bound.proofs.cuts.Cuts.add.Goals as goal

pub returns-then-not-is_new-clause-got : goal.returns-then-not-is_new-clause-got
returns-then-not-is_new-clause-got c =
    let now : SearchCuts = record { pool = c.add.new.self; idle = c.self.inside.idle; names = c.self.inside.names } in
    let kept : c.add.new.self ≡ c.self.inside.pool = c.in_ok-is_new.ensures.kept (ap Ok c.if-not-is_new.true) in
    let with_pool : List CutOf → SearchCuts = λ p. record { pool = p; idle = c.self.inside.idle; names = c.self.inside.names } in
    GotCuts-none c.args.network.now c.args.self.now now c.requires.cuts (ap with_pool kept ∙ c.self.view_is)

pub returns-clause-got : goal.returns-clause-got
returns-clause-got c =
    let now : SearchCuts = record { pool = c.add.new.self; idle = c.self.inside.idle; names = c.self.inside.names } in
    let pool : c.self.inside.pool ≡ c.args.self.now.pool = ap (λ (s : SearchCuts). s.pool) c.self.view_is in
    let added : c.add.new.self ≡ c.args.self.now.pool ++ c.in_ok-cut.cut ∷ [] =
    c.in_ok-is_new.ensures.added (ap Ok c.if-not-is_new.false) ∙ ap (λ (p : List CutOf). p ++ c.in_ok-cut.cut ∷ []) pool in
    GotCuts-one c.args.network.now c.args.self.now now c.in_ok-cut.cut c.requires.cuts
    (is_cut_for c.args.network.now c.args.proposal.limit c.args.proposal.x c.in_ok-cut.cut (c.is_for.ensures.limit (search rules)) (c.is_for.ensures.places (search rules)) c.entries-bounds.ensures.narrow c.in_ok-cut.ensures)
    c.len-distinct.ensures.pool
    (adds c.args.self.now.pool c.add.new.self c.in_ok-cut.cut c.in_ok-is_new.is_new (λ e. absurd (cc)) (λ e. added) (λ e. absurd (cc)))
    added (omega (arith, ap (λ (p : List CutOf). length p) pool)) (ap (λ (s : SearchCuts). s.idle) c.self.view_is) (ap (λ (s : SearchCuts). s.names) c.self.view_is)

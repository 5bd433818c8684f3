use Rattle.std.proofs.Common.{◌≡◌, ◌∙◌, ap, length}
use Rattle.std.proofs.lemmas.Result.{err_from_is_err_and}
use Rattle.geo_model.specs.Nodes.{all_plans}
use Rattle.bound_log.specs.LogTree.{root_of}
use Rattle.branch_bound.proofs.ExploreLemmas.{IsNode-root, IsNode-same}
use Rattle.branch_bound.proofs.SearchLemmas.{BreaksLog-nothing, BreaksLog-head, BreaksLog-tree, IsStart-same, IsTrueBest-start, Searches-done}
use Rattle.branch_bound.proofs.InheritedLemmas.{IsInherited-nothing}
use Rattle.branch_bound.proofs.NamingLemmas.{names_once}
use Rattle.branch_bound.specs.Cuts.{named_cuts}
use Rattle.branch_bound.proofs.run.search.Goals as goal

pub returns-in_err-node-clause-refused : goal.returns-in_err-node-clause-refused
returns-in_err-node-clause-refused g c =
    let p = err_from_is_err_and c.from_residual.result c.from_residual.ensures.1 in
    rw (p.1, p.2)
    (BreaksLog-nothing c.args.network.now c.args.name.now (g.H.Shelf.state c.args.shelf.now)
    (λ files held. g.met.H.Shelf.started_is_held c.args.shelf.now files c.args.name.now held c.requires.started))

pub returns-in_err-verdicts-clause-refused : goal.returns-in_err-verdicts-clause-refused
returns-in_err-verdicts-clause-refused g c =
    let p = err_from_is_err_and c.from_residual-in_err-verdicts.result c.from_residual-in_err-verdicts.ensures.1 in
    rw (p.1, p.2)
    (BreaksLog-nothing c.args.network.now c.args.name.now (g.H.Shelf.state c.args.shelf.now)
    (λ files held. g.met.H.Shelf.started_is_held c.args.shelf.now files c.args.name.now held c.requires.started))

pub returns-in_err-first-clause-refused : goal.returns-in_err-first-clause-refused
returns-in_err-first-clause-refused g c =
    let p = err_from_is_err_and c.from_residual-in_err-first.result c.from_residual-in_err-first.ensures.1 in
    rw (p.1, p.2)
    (BreaksLog-nothing c.args.network.now c.args.name.now (g.H.Shelf.state c.args.shelf.now)
    (λ files held. g.met.H.Shelf.started_is_held c.args.shelf.now files c.args.name.now held c.requires.started))

pub returns-in_err-cuts-clause-refused : goal.returns-in_err-cuts-clause-refused
returns-in_err-cuts-clause-refused g c =
    let p = err_from_is_err_and c.from_residual-in_err-cuts.result c.from_residual-in_err-cuts.ensures.1 in
    rw (p.1, p.2)
    (BreaksLog-nothing c.args.network.now c.args.name.now (g.H.Shelf.state c.args.shelf.now)
    (λ files held. g.met.H.Shelf.started_is_held c.args.shelf.now files c.args.name.now held c.requires.started))

pub returns-in_err-begin_log-clause-refused : goal.returns-in_err-begin_log-clause-refused
returns-in_err-begin_log-clause-refused g c =
    let p = err_from_is_err_and c.from_residual-in_err-begin_log.result c.from_residual-in_err-begin_log.ensures.1 in
    rw (p.1, p.2)
    (BreaksLog-head c.args.network.now c.args.name.now c.in_err-begin_log.field-0.0
    (g.H.Shelf.state c.args.shelf.now)
    (g.H.Shelf.state c.begin_log.new.shelf)
    c.in_err-begin_log.ensures.refused)

pub returns-in_err-explore-clause-refused : goal.returns-in_err-explore-clause-refused
returns-in_err-explore-clause-refused g c =
    let root : c.in_ok-node.node ≡ root_of c.args.network.now = c.in_ok-node.ensures ∙ ap (λ cs. all_plans (length cs)) c.candidates.ensures.value in
    let p = err_from_is_err_and c.from_residual-in_err-explore.result c.from_residual-in_err-explore.ensures.1 in
    rw (p.1, p.2)
    (BreaksLog-tree c.args.network.now c.in_ok-node.node c.args.name.now (named_cuts c.new-findings.result.cuts) c.in_err-explore.field-0.0
    (g.H.Shelf.state c.args.shelf.now)
    (g.H.Shelf.state c.begin_log.new.shelf)
    (g.H.Shelf.state c.explore.new.shelf)
    root (ap named_cuts c.new-findings.ensures.cuts ∙ c.in_ok-cuts.ensures.names) c.in_ok-begin_log.ensures.added c.in_err-explore.ensures.refused)

pub returns-clause-searched : goal.returns-clause-searched
returns-clause-searched g c =
    let root : c.in_ok-node.node ≡ root_of c.args.network.now = c.in_ok-node.ensures ∙ ap (λ cs. all_plans (length cs)) c.candidates.ensures.value in
    Searches-done c.args.network.now c.in_ok-node.node c.args.name.now (named_cuts c.new-findings.result.cuts) (named_cuts c.explore.new.findings.cuts) c.new-findings.result.best c.explore.new.findings.best c.new-findings.result.counts c.explore.new.findings.counts c.done.result
    (g.H.Shelf.state c.args.shelf.now)
    (g.H.Shelf.state c.begin_log.new.shelf)
    (g.H.Shelf.state c.explore.new.shelf)
    c.in_ok-first.ensures.bounds root (ap named_cuts c.new-findings.ensures.cuts ∙ c.in_ok-cuts.ensures.names) (names_once c.args.network.now c.explore.new.findings.cuts c.in_ok-explore.ensures.cuts) (IsStart-same c.args.network.now c.in_ok-first.first c.new-findings.result.best c.new-findings.ensures.best c.in_ok-first.ensures.first) c.new-findings.ensures.counts c.in_ok-begin_log.ensures.added c.in_ok-explore.ensures.explored c.done.ensures.answer c.done.ensures.counts

pub explore-requires-clause-node : goal.explore-requires-clause-node
explore-requires-clause-node g c =
    let root : c.in_ok-node.node ≡ root_of c.args.network.now = c.in_ok-node.ensures ∙ ap (λ cs. all_plans (length cs)) c.candidates.ensures.value in
    IsNode-same c.args.network.now (root_of c.args.network.now) c.in_ok-node.node root (IsNode-root c.args.network.now)

pub explore-requires-clause-inherited : goal.explore-requires-clause-inherited
explore-requires-clause-inherited g c = IsInherited-nothing c.args.network.now c.in_ok-node.node

pub explore-requires-clause-kept : goal.explore-requires-clause-kept
explore-requires-clause-kept g c =
    IsTrueBest-start c.args.network.now c.new-findings.result.best
    (IsStart-same c.args.network.now c.in_ok-first.first c.new-findings.result.best c.new-findings.ensures.best c.in_ok-first.ensures.first)

pub explore-requires-clause-verdicts : goal.explore-requires-clause-verdicts
explore-requires-clause-verdicts g c = rw c.new-findings.ensures.verdicts c.in_ok-verdicts.ensures

pub explore-requires-clause-cuts : goal.explore-requires-clause-cuts
explore-requires-clause-cuts g c = rw c.new-findings.ensures.cuts c.in_ok-cuts.ensures.cuts

pub returns-in_err-first-clause-searched : goal.returns-in_err-first-clause-searched
returns-in_err-first-clause-searched g c =
    let p = err_from_is_err_and c.from_residual-in_err-first.result c.from_residual-in_err-first.ensures.1 in
    rw p.1 tt

pub returns-in_err-verdicts-clause-searched : goal.returns-in_err-verdicts-clause-searched
returns-in_err-verdicts-clause-searched g c =
    let p = err_from_is_err_and c.from_residual-in_err-verdicts.result c.from_residual-in_err-verdicts.ensures.1 in
    rw p.1 tt

pub returns-in_err-begin_log-clause-searched : goal.returns-in_err-begin_log-clause-searched
returns-in_err-begin_log-clause-searched g c =
    let p = err_from_is_err_and c.from_residual-in_err-begin_log.result c.from_residual-in_err-begin_log.ensures.1 in
    rw p.1 tt

pub returns-in_err-explore-clause-searched : goal.returns-in_err-explore-clause-searched
returns-in_err-explore-clause-searched g c =
    let p = err_from_is_err_and c.from_residual-in_err-explore.result c.from_residual-in_err-explore.ensures.1 in
    rw p.1 tt

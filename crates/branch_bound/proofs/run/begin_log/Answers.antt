use Rattle.std.proofs.lemmas.Result.{err_from_is_err_and}
use Rattle.bound_log.specs.NamedText.{second_head_text}
use Rattle.branch_bound.proofs.PieceLemmas.{BreaksText-nothing}
use Rattle.branch_bound.proofs.run.begin_log.Goals as goal

pub returns-in_err-put_head2-clause-refused : goal.returns-in_err-put_head2-clause-refused
returns-in_err-put_head2-clause-refused g c =
    let p = err_from_is_err_and c.from_residual.result c.from_residual.ensures.1 in
    rw (p.1, p.2)
    (BreaksText-nothing c.args.name.now second_head_text (g.H.Shelf.state c.args.shelf.now)
    (λ files held. g.met.H.Shelf.started_is_held c.args.shelf.now files c.args.name.now held c.requires))

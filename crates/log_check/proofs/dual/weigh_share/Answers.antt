use Rattle.std.proofs.Common.{◌≡◌, ◌∙◌, ℕ, true, ap, sym}
use Rattle.whole_algebra.specs.Matrices.{at}
use Rattle.bound_log.specs.CutText.{displaced_by}
use Rattle.bound_log.specs.Rules.{is_displacement}
use Rattle.log_check.proofs.dual.weigh_share.Goals as goal

-- the displacement of the cut was written
moved : (c : goal.After-weigh_moves) → (i : ℕ) → displaced_by c.args.cut.now.pairs i ≡ at c.write_moves-written.new.x i
moved c =
    let cut = c.args.cut.now in
    let moves : c.write_moves-written.result ≡ true = c.write_moves-written.ensures.are ∙ ap (λ n. is_displacement n cut.pairs) c.requires.room.moves ∙ c.requires.share.displacement in
    c.write_moves-written.ensures.written moves

pub returns-clause-paid : goal.returns-clause-paid
returns-clause-paid c = c.weigh_moves.ensures.paid c.args.cut.now (sym c.limit.ensures) (moved c)

pub returns-clause-taken : goal.returns-clause-taken
returns-clause-taken c = c.weigh_moves.ensures.taken c.args.cut.now (sym c.limit.ensures) (moved c)

use Rattle.std.proofs.Common.{◌∙◌, ap, slice_set}
use Rattle.lent_parts.proofs.Triangles.{put_back}
use Rattle.lent_parts.proofs.tri.exchange.Goals as goal

pub returns-clause-rows : goal.returns-clause-rows
returns-clause-rows c =
    let given = slice_set c.args.rows.now.items c.args.at c.swap.new.x in
    ap (λ row. slice_set (slice_set given c.args.k c.swap-2.new.x) c.args.k row) (c.swap-2.ensures.y_after ∙ c.index_mut-2.ensures.value)
    ∙ put_back given c.args.k c.swap-2.new.x c.index_mut-2.result.now
    ∙ ap (λ row. slice_set c.args.rows.now.items c.args.at row) c.swap.ensures.x_after

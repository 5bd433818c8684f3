use Rattle.std.proofs.Common.{◌≡◌, [], length, pos, ◌∙◌, ap}
use Rattle.lent_parts.proofs.Triangles.{length-IsTri}
use Rattle.limit_forms.proofs.GridReads.{length-grid_of}
use Rattle.pivot_chain.proofs.room.chains_for.Goals as goal

pub returns : goal.returns
returns c =
    let size : length c.unknowns.result.now ≡ length c.args.network.now.unknowns = ap length c.unknowns.ensures.value in
    record {
      normal = c.in_ok-normal.ensures.sum;
      other = c.in_ok-other.ensures.sum;
      grid = length-grid_of c.args.network.now (pos 1) [] c.in_ok-grid.grid c.in_ok-grid.ensures;
      diagonal = c.in_ok-diagonal.ensures;
      lower = length-IsTri (length c.unknowns.result.now) c.in_ok-lower.lower c.in_ok-lower.ensures.shape ∙ size;
      upper = length-IsTri (length c.unknowns.result.now) c.in_ok-upper.upper c.in_ok-upper.ensures.shape ∙ size;
      rows = length-IsTri (length c.unknowns.result.now) c.in_ok-rows.rows c.in_ok-rows.ensures.shape ∙ size;
      gaps = length-IsTri (length c.unknowns.result.now) c.in_ok-gaps.gaps c.in_ok-gaps.ensures.shape ∙ size;
    }

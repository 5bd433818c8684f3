use Rattle.std.proofs.Common.{◌≡◌, ◌-◌, length, ◌∙◌, ap, arith, w64, FitsSigned}
use Rattle.std.proofs.lemmas.Int.{to_z-of_z}
use Rattle.lent_parts.specs.Triangle.{tri_row, refilled}
use Rattle.lent_parts.proofs.Triangles.{length-IsTri}
use Rattle.chain_step.proofs.WrittenRows.{row_kept, row_shape, row_written}
use Rattle.pivot_chain.proofs.grids.write_rows.Goals as goal

pub grid_row-requires-clause-lower_room : goal.grid_row-requires-clause-lower_room
grid_row-requires-clause-lower_room c =
    let places = c.row_mut.ensures.places in
    let room = c.requires.lower_room in
    let within = c.requires.within in
    omega arith

pub grid_row-requires-clause-upper_room : goal.grid_row-requires-clause-upper_room
grid_row-requires-clause-upper_room c =
    let places = c.row_mut-2.ensures.places in
    let room = c.requires.upper_room in
    let within = c.requires.within in
    omega arith

use Rattle.std.proofs.Common.{◌+◌, ◌<◌, ◌^◌, sym, ◌∙◌, subst, arith, unsigned_abs, pos, ◌≤ℤ◌}
use Rattle.whole_algebra.specs.Matrices.{at}
use Rattle.pivot_chain.specs.Judging.{lower_of, upper_of}
use Rattle.pivot_chain.proofs.Judged.{small_lower_of, small_upper_of, tall_lower_of, tall_upper_of}
use Rattle.factor_stack.proofs.run.step_place.Goals as goal

pub take_row-requires-clause-within : goal.take_row-requires-clause-within
take_row-requires-clause-within g c =
    let places = c.requires.run.lower.places in
    let tall = tall_lower_of c.args.grids.now in
    let within = c.requires.within in
    omega arith

pub take_row-requires-clause-same : goal.take_row-requires-clause-same
take_row-requires-clause-same g c =
    c.write_rows.ensures.lower_size ∙ (c.requires.room.lower ∙ (sym (tall_lower_of c.args.grids.now) ∙ sym c.requires.run.lower.places))

pub take_row-requires-clause-few : goal.take_row-requires-clause-few
take_row-requires-clause-few g c =
    let places = c.requires.run.lower.places in
    let tall = tall_lower_of c.args.grids.now in
    let few = c.candidates-bounds.ensures.bounds.unknowns in
    omega arith

pub take_row-requires-clause-size : goal.take_row-requires-clause-size
take_row-requires-clause-size g c = λ m.
    subst (λ row. unsigned_abs (at row m) < 2 ^ 109) (sym c.write_rows.ensures.lower) ((small_lower_of c.args.grids.now c.candidates-bounds.ensures.bounds c.requires.made).each_size c.args.k m)

pub take_row-requires-clause-head : goal.take_row-requires-clause-head
take_row-requires-clause-head g c =
    subst (λ row. at row 0 ≤ℤ pos (2 ^ 60 + 64)) (sym c.write_rows.ensures.lower) ((small_lower_of c.args.grids.now c.candidates-bounds.ensures.bounds c.requires.made).heads c.args.k)

pub take_row-requires-2-clause-within : goal.take_row-requires-2-clause-within
take_row-requires-2-clause-within g c =
    let places = c.requires.run.upper.places in
    let tall = tall_upper_of c.args.grids.now in
    let within = c.requires.within in
    omega arith

pub take_row-requires-2-clause-same : goal.take_row-requires-2-clause-same
take_row-requires-2-clause-same g c =
    c.write_rows.ensures.upper_size ∙ (c.requires.room.upper ∙ (sym (tall_upper_of c.args.grids.now) ∙ sym c.requires.run.upper.places))

pub take_row-requires-2-clause-few : goal.take_row-requires-2-clause-few
take_row-requires-2-clause-few g c =
    let places = c.requires.run.upper.places in
    let tall = tall_upper_of c.args.grids.now in
    let few = c.candidates-bounds.ensures.bounds.unknowns in
    omega arith

pub take_row-requires-2-clause-size : goal.take_row-requires-2-clause-size
take_row-requires-2-clause-size g c = λ m.
    subst (λ row. unsigned_abs (at row m) < 2 ^ 109) (sym c.write_rows.ensures.upper) ((small_upper_of c.args.grids.now c.candidates-bounds.ensures.bounds c.requires.made).each_size c.args.k m)

pub take_row-requires-2-clause-head : goal.take_row-requires-2-clause-head
take_row-requires-2-clause-head g c =
    subst (λ row. at row 0 ≤ℤ pos (2 ^ 60 + 64)) (sym c.write_rows.ensures.upper) ((small_upper_of c.args.grids.now c.candidates-bounds.ensures.bounds c.requires.made).heads c.args.k)

pub returns-clause-run : goal.returns-clause-run
returns-clause-run g c = record {
  lower = c.take_row.ensures.run (lower_of c.args.grids.now) (small_lower_of c.args.grids.now c.candidates-bounds.ensures.bounds c.requires.made) c.requires.run.lower c.write_rows.ensures.lower;
  upper = c.take_row-2.ensures.run (upper_of c.args.grids.now) (small_upper_of c.args.grids.now c.candidates-bounds.ensures.bounds c.requires.made) c.requires.run.upper c.write_rows.ensures.upper;
  lower_gaps = c.take_row.ensures.gaps ∙ (c.requires.run.lower_gaps ∙ sym c.take_row.ensures.places);
  upper_gaps = c.take_row-2.ensures.gaps ∙ (c.requires.run.upper_gaps ∙ sym c.take_row-2.ensures.places);
  counted = record { lower = c.take_row.ensures.counted; upper = c.take_row-2.ensures.counted };
}

use Rattle.std.proofs.Common.{◌≡◌, ℕ, ◌+◌, ◌<◌, ◌≤◌, ◌^◌, ℤ, pos, ◌+ℤ◌, ◌*ℤ◌, List, length, take, get_or, arith, w64, FitsSigned, to_z, of_z, ◌-◌, lit<}
use mir.Syntax.{w128}
use Rattle.std.specs.Prelude.{unsigned_abs}
use Rattle.std.proofs.lemmas.Int.{to_z-of_z, fits_signed_mul, fits_signed_from_abs}
use Rattle.whole_algebra.specs.Matrices.{at}
use Rattle.geo_model.specs.Row.{Entries, total_size}
use Rattle.geo_model.proofs.SumSteps.{coefficient_size}
use Rattle.normal_matrix.specs.Entries.{coefficient}
use Rattle.whole_algebra.proofs.Order.{size-add, size-mul}
use Rattle.normal_matrix.proofs.SumSteps.{line_step, line_kept, coefficient-take-size}
use Rattle.normal_matrix.proofs.sums.add_products.Goals as goal
use Rattle.normal_matrix.proofs.sums.add_products.Goals.{then-column-first, else-column-first}

record Sized (factor size : ℤ) : Type 0 where
  pub narrow : FitsSigned w64 size
  pub wide : FitsSigned w128 size
  pub product : FitsSigned w128 (factor *ℤ size)
  pub small : unsigned_abs (factor *ℤ size) ≤ 2 ^ 66

sized : (factor : ℤ) (entries : Entries) (q : ℕ) → unsigned_abs factor ≤ 2 ^ 43 → total_size entries < 2 ^ 23 → q < length entries → Sized factor (get_or entries q (0, pos 0)).1
sized factor entries q small total inside =
    let one = coefficient_size entries q (0, pos 0) inside in
    let size : unsigned_abs (get_or entries q (0, pos 0)).1 ≤ 2 ^ 23 = omega arith in record {
      narrow = fits_signed_from_abs w64 (get_or entries q (0, pos 0)).1 (omega arith);
      wide = fits_signed_from_abs w128 (get_or entries q (0, pos 0)).1 (omega arith);
      product = fits_signed_mul w128 factor (get_or entries q (0, pos 0)).1 (2 ^ 43) (2 ^ 23) small size (lit< tt);
      small = size-mul factor (get_or entries q (0, pos 0)).1 (2 ^ 43) (2 ^ 23) small size;
    }

-- an entry of the line, with what was added to it
line_size : (old now factor : ℤ) (entries : Entries) (q i : ℕ) → FitsSigned w128 factor → now ≡ old +ℤ to_z w128 (of_z w128 factor) *ℤ coefficient (take q entries) i
    → unsigned_abs old ≤ 2 ^ 102 → unsigned_abs factor ≤ 2 ^ 43 → total_size entries < 2 ^ 23 → unsigned_abs now ≤ 2 ^ 103
line_size old now factor entries q i fits is before small total =
    let plain : now ≡ old +ℤ factor *ℤ coefficient (take q entries) i = simp to_z-of_z at is in
    let taken = coefficient-take-size entries q i in
    let part = size-mul factor (coefficient (take q entries) i) (2 ^ 43) (2 ^ 23) small (omega arith) in
    let both = size-add old (factor *ℤ coefficient (take q entries) i) in
    rw plain (omega arith)

pub overflow_mul-line : goal.overflow_mul-line
overflow_mul-line c =
    let f : FitsSigned w128 c.args.factor = c.ranges.factor in
    let s = sized c.args.factor c.args.entries.now c.loop-column.column-index c.requires.factor c.requires.total c.loop-column-test.true in
    let n = s.narrow in
    let w = s.wide in
    simp to_z-of_z s.product

inside_line : (length_line column first : ℕ) → column < first + length_line → first ≤ column → column - first < length_line
inside_line length_line column first h k = omega arith

-- the entry of the line, and what it becomes
record Written (now factor size : ℤ) : Type 0 where
  pub before : FitsSigned w128 now
  pub after : FitsSigned w128 (now +ℤ factor *ℤ size)

written : (old line : List ℤ) (first q : ℕ) (factor : ℤ) (entries : Entries) → FitsSigned w128 factor
    → ((k : ℕ) → k < length old → unsigned_abs (at old k) ≤ 2 ^ 102) → unsigned_abs factor ≤ 2 ^ 43 → total_size entries < 2 ^ 23 → q < length entries
    → length line ≡ length old → (get_or entries q (0, pos 0)).0 < first + length old → first ≤ (get_or entries q (0, pos 0)).0
    → ((k : ℕ) → k < length line → at line k ≡ at old k +ℤ to_z w128 (of_z w128 factor) *ℤ coefficient (take q entries) (first + k))
    → Written (at line ((get_or entries q (0, pos 0)).0 - first)) factor (get_or entries q (0, pos 0)).1
written old line first q factor entries fits size small total inside same column from so_far =
    let entry = get_or entries q (0, pos 0) in
    let k = entry.0 - first in
    let there : k < length old = inside_line (length old) entry.0 first column from in
    let here : k < length line = omega arith in
    let big : unsigned_abs (at line k) ≤ 2 ^ 103 = line_size (at old k) (at line k) factor entries q (first + k) fits (so_far k here) (size k there) small total in
    let s = sized factor entries q small total inside in
    let part = s.small in
    let both = size-add (at line k) (factor *ℤ entry.1) in record {
      before = fits_signed_from_abs w128 (at line k) (omega arith);
      after = fits_signed_from_abs w128 (at line k +ℤ factor *ℤ entry.1) (omega arith);
    }

pub overflow_add-line : goal.overflow_add-line
overflow_add-line c =
    let entry = get_or c.args.entries.now c.loop-column.column-index (0, pos 0) in
    let f : FitsSigned w128 c.args.factor = c.ranges.factor in
    let s = sized c.args.factor c.args.entries.now c.loop-column.column-index c.requires.factor c.requires.total c.loop-column-test.true in
    let n = s.narrow in
    let w = s.wide in
    let p = s.product in
    let v = written c.args.line.now c.loop-column.line c.args.first c.loop-column.column-index c.args.factor c.args.entries.now f c.requires.size c.requires.factor c.requires.total c.loop-column-test.true c.loop-column.auto.line (c.requires.columns c.loop-column.column-index (0, pos 0) c.loop-column-test.true) c.if-column-first.true c.loop-column.invariant in
    let a = v.before in
    simp to_z-of_z v.after

pub loop-column-preserved : goal.loop-column-preserved
loop-column-preserved c =
    let f : FitsSigned w128 c.args.factor = c.ranges.factor in
    let s = sized c.args.factor c.args.entries.now c.loop-column.column-index c.requires.factor c.requires.total c.loop-column-test.true in
    let n = s.narrow in
    let d = s.wide in
    let p = s.product in
    let so_far = simp to_z-of_z at c.loop-column.invariant in
    elim c.if-column-first.branch [
      | then-column-first w ↦
          let v = written c.args.line.now c.loop-column.line c.args.first c.loop-column.column-index c.args.factor c.args.entries.now f c.requires.size c.requires.factor c.requires.total c.loop-column-test.true c.loop-column.auto.line (c.requires.columns c.loop-column.column-index (0, pos 0) c.loop-column-test.true) w.if-column-first.true c.loop-column.invariant in
          let a = v.before in
          let b = v.after in
          let line = simp to_z-of_z at w.line-is in
          rw line (simp to_z-of_z (line_step c.args.line.now c.loop-column.line c.args.first c.loop-column.column-index c.args.factor c.args.entries.now (0, pos 0) c.loop-column-test.true w.if-column-first.true so_far))
      | else-column-first w ↦
          rw w.line-is (simp to_z-of_z (line_kept c.args.line.now c.loop-column.line c.args.first c.loop-column.column-index c.args.factor c.args.entries.now (0, pos 0) c.loop-column-test.true w.if-column-first.false so_far))
    ]

use Rattle.std.proofs.Common.{rules, ap, ap₂, ◌+ℤ◌, ◌∙◌, ◌≡◌, ℕ, ◌<◌, ◌≤◌, ℤ, ◌*ℤ◌, List, length, get_or, arith, w64, FitsSigned, sym, subst, lit<}
use Rattle.std.specs.Prelude.{unsigned_abs, All}
use Rattle.std.proofs.lemmas.Int.{to_z-of_z, fits_signed_from_abs, fits_signed_mul}
use Rattle.std.proofs.lemmas.List.{take_all}
use Rattle.whole_algebra.specs.Sums.{int_sum_by}
use Rattle.whole_algebra.specs.Grid.{entry}
use Rattle.lent_parts.specs.Triangle.{IsTri}
use Rattle.lent_parts.proofs.Triangles.{length-IsTri}
use Rattle.geo_model.specs.Row.{Entries, RowOf, IsRow}
use Rattle.geo_model.proofs.SizeLemmas.{light}
use Rattle.normal_matrix.specs.declared.change.Change.{Change}
use Rattle.normal_matrix.specs.declared.change.Change.TheVariants.{Add, Remove}
use Rattle.normal_matrix.specs.Entries.{row_entry}
use Rattle.normal_matrix.specs.Changes.{sign_of}
use Rattle.normal_matrix.proofs.RowSteps.{sum_is_small, rows_step}
use Rattle.normal_matrix.proofs.sums.add_rows.Goals as goal

one_of : (sign : ℤ) (change : Change) → sign ≡ sign_of change → unsigned_abs sign ≡ 1
one_of sign Add is = ap unsigned_abs is
one_of sign Remove is = ap unsigned_abs is

pub add_row-requires-clause-size : goal.add_row-requires-clause-size
add_row-requires-clause-size c i j le lt =
    let f : FitsSigned w64 c.sign-sign.result = search rules in
    let len = c.loop-row.invariant.size in
    let plain = simp to_z-of_z at c.loop-row.invariant.sum in
    let below : j < length c.args.sums.now = omega arith in
    sum_is_small (entry c.args.sums.now i j) (entry c.loop-row.sums i j) c.sign-sign.result c.args.rows.now c.loop-row.row-index i j (plain i j le below) (c.requires.size i j le below) (one_of c.sign-sign.result c.args.change c.sign-sign.ensures) c.requires.each_row c.requires.few

row_columns : (n m k index : ℕ) (d : ℕ × ℤ) (rows : List RowOf) (row : RowOf) (entries : Entries) → All (λ row. All (λ entry. entry.0 < n) row.entries) rows
    → index < length rows → row ≡ get_or rows index row → entries ≡ row.entries → m ≡ n → k < length entries → (get_or entries k d).0 < m
row_columns n m k index d rows row entries all inside is same size lt =
    let mine : All (λ (entry : ℕ × ℤ). entry.0 < n) row.entries = subst (λ (r : RowOf). All (λ (entry : ℕ × ℤ). entry.0 < n) r.entries) (sym is) (all index row inside) in
    let given : All (λ (entry : ℕ × ℤ). entry.0 < n) entries = subst (λ (e : Entries). All (λ (entry : ℕ × ℤ). entry.0 < n) e) (sym same) mine in
    let here = given k d lt in
    omega arith

pub add_row-requires-clause-columns : goal.add_row-requires-clause-columns
add_row-requires-clause-columns c k d lt =
    let len = c.loop-row.invariant.size in
    row_columns (length c.args.sums.now) (length c.loop-row.sums) k c.loop-row.row-index d c.args.rows.now c.row-item.result c.entries.result.now c.requires.columns c.loop-row-test.true c.row-item.is c.entries.ensures len lt

signed_weight : (sign weight : ℤ) → unsigned_abs sign ≡ 1 → unsigned_abs weight ≤ 1000000 → FitsSigned w64 (sign *ℤ weight)
signed_weight sign weight one small = fits_signed_mul w64 sign weight 1 1000000 (omega arith) small (lit< tt)

pub loop-row-preserved : goal.loop-row-preserved
loop-row-preserved c =
    let n = length c.args.sums.now in
    let f : FitsSigned w64 c.sign-sign.result = search rules in
    let bounds : IsRow c.row-item.result = subst IsRow (sym c.row-item.is) (c.requires.each_row c.loop-row.row-index c.row-item.result c.loop-row-test.true) in
    let small : unsigned_abs c.row-item.result.weight ≤ 1000000 = light c.row-item.result.weight bounds.weight_low bounds.weight_high in
    let g : FitsSigned w64 c.row-item.result.weight = fits_signed_from_abs w64 c.row-item.result.weight (omega arith) in
    let h : FitsSigned w64 (c.sign-sign.result *ℤ c.row-item.result.weight) = signed_weight c.sign-sign.result c.row-item.result.weight (one_of c.sign-sign.result c.args.change c.sign-sign.ensures) small in
    let len = c.loop-row.invariant.size in
    let before = simp to_z-of_z at c.loop-row.invariant.sum in
    let named = rw (c.weight.ensures, c.entries.ensures) at c.add_row.ensures.sum in
    let added = simp to_z-of_z at named in
    record {
      size = c.add_row.ensures.size ∙ len;
      sum = simp to_z-of_z (λ i j le lt. rows_step (entry c.args.sums.now i j) (entry c.loop-row.sums i j) (entry c.add_row.new.sums i j) c.sign-sign.result c.row-item.result.weight c.args.rows.now c.loop-row.row-index i j c.row-item.result c.loop-row-test.true c.row-item.is (before i j le lt) (added i j le (omega arith)));
    }

pub returns-clause-sum : goal.returns-clause-sum
returns-clause-sum c i j le lt =
    let f : FitsSigned w64 c.sign-sign.result = search rules in
    let so_far = simp to_z-of_z at c.loop-row.invariant.sum in
    let all = take_all c.loop-row.row-index c.args.rows.now c.loop-row-test.false in
    so_far i j le lt ∙ ap₂ (λ s rows. entry c.args.sums.now i j +ℤ s *ℤ int_sum_by (λ row. row_entry row i j) rows) c.sign-sign.ensures all

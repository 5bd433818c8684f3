-- The rows of a normal matrix that a candidate doesn't touch.
use Rattle.std.proofs.Common.{◌≡◌, ℕ, ◌<◌, Bool, true, false, not, ◌==◌, if◌then◌else◌, List, [], ◌∷◌, length, get_or, refl, sym, ◌∙◌, ap, ap₂, arith, ℤ, pos, ◌+ℤ◌, ◌*ℤ◌}
use Rattle.std.specs.Prelude.{Some, slice_get, slice_set}
use Rattle.std.specs.List.{list_any}
use Rattle.std.proofs.lemmas.Int.{ints}
use Rattle.std.proofs.lemmas.List.Sums.{prefix_len_passes}
use Rattle.std.proofs.lemmas.Option.{get_or_from_slice_get}
use Rattle.whole_algebra.specs.Sums.{int_sum_by}
use Rattle.whole_algebra.proofs.Ring.{mul_zero}
use Rattle.whole_algebra.proofs.Sizes.{or_parts}
use Rattle.geo_model.specs.Row.{Entries, RowOf}
use Rattle.geo_model.specs.Candidate.{CandidateOf}
use Rattle.geo_model.specs.Limit.{LimitOf}
use Rattle.geo_model.specs.Network.{NetworkOf}
use Rattle.normal_matrix.specs.Entries.{coefficient, row_entry, normal_entry}
use Rattle.normal_matrix.proofs.PlanSteps.{part_entry, normal_entry-set}
use Rattle.limit_forms.specs.Grid.{has_column, order_of, AgreeOnFirst}
use Rattle.factor_stack.specs.Image.{touches, first_place}

-- a form without an entry at an unknown has the coefficient 0 there
no_coefficient : (entries : Entries) (unknown : ℕ) → has_column entries unknown ≡ false → coefficient entries unknown ≡ pos 0
no_coefficient [] unknown e = refl
no_coefficient (entry ∷ rest) unknown e =
    let here = (or_parts (entry.0 == unknown) (has_column rest unknown) e).0 in
    let later = no_coefficient rest unknown (or_parts (entry.0 == unknown) (has_column rest unknown) e).1 in
    ap₂ (λ a b. a +ℤ b) (ap (λ (b : Bool). entry.1 *ℤ (if b then pos 1 else pos 0)) here ∙ mul_zero entry.1) later

zero_times : (z : ℤ) → pos 0 *ℤ z ≡ pos 0
zero_times z = omega (arith, ints)

no_row_entry : (row : RowOf) (unknown j : ℕ) → has_column row.entries unknown ≡ false → row_entry row unknown j ≡ pos 0
no_row_entry row unknown j e =
    ap (λ z. row.weight *ℤ (z *ℤ coefficient row.entries j)) (no_coefficient row.entries unknown e)
    ∙ (ap (λ z. row.weight *ℤ z) (zero_times (coefficient row.entries j)) ∙ mul_zero row.weight)

no_rows : (rows : List RowOf) (unknown j : ℕ) → list_any (λ row. has_column row.entries unknown) rows ≡ false → int_sum_by (λ row. row_entry row unknown j) rows ≡ pos 0
no_rows [] unknown j e = refl
no_rows (row ∷ rest) unknown j e =
    let both = or_parts (has_column row.entries unknown) (list_any (λ r. has_column r.entries unknown) rest) e in
    ap₂ (λ a b. a +ℤ b) (no_row_entry row unknown j both.0) (no_rows rest unknown j both.1)

-- a candidate adds nothing to the row of an unknown that it doesn't touch
no_part : (chosen : Bool) (candidate : CandidateOf) (unknown j : ℕ) → touches candidate unknown ≡ false → part_entry chosen candidate unknown j ≡ pos 0
no_part true candidate unknown j e = no_rows candidate.rows unknown j e
no_part false candidate unknown j e = refl

same_entry : (candidates : List CandidateOf) (plan : List Bool) (i unknown j : ℕ) (candidate : CandidateOf) (old new : Bool) → slice_get plan i ≡ Some old → i < length candidates
    → slice_get candidates i ≡ Some candidate → touches candidate unknown ≡ false → normal_entry candidates plan unknown j ≡ normal_entry candidates (slice_set plan i new) unknown j
same_entry candidates plan i unknown j candidate old new flag inside found e =
    let one = get_or_from_slice_get candidates i candidate candidate found in
    let here : touches (get_or candidates i candidate) unknown ≡ false = ap (λ c. touches c unknown) one ∙ e in
    let sum = normal_entry-set candidates plan i unknown j candidate old new flag inside in
    by (normal_entry candidates (slice_set plan i new) unknown j) (part_entry old (get_or candidates i candidate) unknown j) (normal_entry candidates plan unknown j) (part_entry new (get_or candidates i candidate) unknown j)
    sum (no_part old (get_or candidates i candidate) unknown j here) (no_part new (get_or candidates i candidate) unknown j here)
  where
    by : (a p b q : ℤ) → a +ℤ p ≡ b +ℤ q → p ≡ pos 0 → q ≡ pos 0 → b ≡ a
    by a p b q e f g = omega (arith, ints)

-- before the first place the plans agree
pub agree_before : (network : NetworkOf) (limit : LimitOf) (candidate : CandidateOf) (plan : List Bool) (i first : ℕ) (old new : Bool) → slice_get plan i ≡ Some old → i < length network.candidates
    → slice_get network.candidates i ≡ Some candidate → first ≡ first_place network limit candidate → AgreeOnFirst first network plan (slice_set plan i new) limit.squares
agree_before network limit candidate plan i first old new flag inside found is place unknown j lt there =
    let order = order_of (length network.unknowns) limit.squares in
    let passes = prefix_len_passes (λ u. not (touches candidate u)) order place 0 (omega arith) in
    same_entry network.candidates plan i unknown j candidate old new flag inside found
    (ap (touches candidate) (sym (get_or_from_slice_get order place unknown 0 there)) ∙ untouched (touches candidate (get_or order place 0)) passes)
  where
    untouched : (b : Bool) → not b ≡ true → b ≡ false
    untouched true e = absurd (cc)
    untouched false e = refl

-- Rows that are saved and put back.
use Rattle.std.proofs.Common.{◌≡◌, ℕ, ◌+◌, ◌-◌, ◌<◌, ◌≤◌, List, [], ◌++◌, length, take, drop, sym, ◌∙◌, subst, arith, inl, inr, ℤ, length-append, length-drop}
use Rattle.std.proofs.lemmas.Bool.{cases_lt}
use Rattle.std.proofs.lemmas.List.{ext_get_or, get_or-drop, get_or-take, get_or_append_left, get_or-append_right, length-take-le}
use Rattle.lent_parts.specs.Triangle.{tri_row}

pub saved_all : (from to : List (List ℤ)) (first : ℕ) → first + length to ≡ length from → ((j : ℕ) → first + j < length from → tri_row to j ≡ tri_row from (first + j)) → to ≡ drop first from
saved_all from to first size done =
    ext_get_or [] to (drop first from) (let e = length-drop first from in omega arith) (λ j lt. done j (omega arith) ∙ sym (get_or-drop first from j []))

pub put_all : (old new from : List (List ℤ)) (first : ℕ) → first + length from ≡ length old → length new ≡ length old
    → ((j : ℕ) → j < first → tri_row new j ≡ tri_row old j) → ((j : ℕ) → first + j < length old → tri_row new (first + j) ≡ tri_row from j)
    → new ≡ take first old ++ from
put_all old new from first size places before done =
    let long : length (take first old) ≡ first = length-take-le first old (omega arith) in
    let all = length-append (take first old) from in
    ext_get_or [] new (take first old ++ from) (omega arith) (λ i lt. elim (cases_lt i first) [
      | inl l ↦ before i l ∙ sym (get_or_append_left (take first old) from [] i (omega arith) ∙ get_or-take first old i [] l)
      | inr g ↦ there i g (omega arith) ∙ sym (get_or-append_right (take first old) from first i [] long g)
    ])
  where
    there : (i : ℕ) → first ≤ i → i < length old → tri_row new i ≡ tri_row from (i - first)
    there i g lt =
        let e : first + (i - first) ≡ i = omega arith in
        subst (λ k. tri_row new k ≡ tri_row from (i - first)) e (done (i - first) (omega arith))

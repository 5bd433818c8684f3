-- The lines of the rows of chosen candidates.
use Rattle.std.proofs.Common.{◌≡◌, ℕ, zero, suc, ◌+◌, ◌<◌, ◌≤◌, Bool, true, false, List, [], ◌∷◌, ◌++◌, Some, pos, length, take, get_or, slice_get, sym, ◌∙◌, ap, arith}
use Rattle.std.specs.Prelude.{sum_by}
use Rattle.std.proofs.lemmas.List.{append-nil}
use Rattle.std.proofs.lemmas.List.Sums.{sum_by-cons}
use Rattle.std.proofs.lemmas.Option.{get_or_from_slice_get, slice_get-get_or}
use Rattle.geo_model.specs.Row.{RowOf}
use Rattle.geo_model.specs.Candidate.{CandidateOf}
use Rattle.geo_model.specs.Network.{NetworkOf}
use Rattle.plan_report.specs.ReportText.{chosen_text, row_redundancy_text}
use Rattle.plan_report.specs.RowsText.{numbered}
use Rattle.plan_report.proofs.Numbered.{numbered-grows, get_or-inside}

-- a row that plays no part
abbrev pub no_row : RowOf
no_row = record { entries = []; weight = pos 0 }

-- the lines of one row more
pub rows_more : (network : NetworkOf) (plan : List Bool) (q owner place : ℕ) (name other : List ℕ) (candidates : List CandidateOf) (candidate : CandidateOf) (t0 t1 t2 : List ℕ)
    → name ≡ other → place < length candidate.rows
    → t1 ≡ t0 ++ numbered (row_redundancy_text network plan q name owner) 0 (take place candidate.rows)
    → ((row : RowOf) → slice_get candidate.rows place ≡ Some row → t2 ≡ t1 ++ row_redundancy_text network plan q other owner place row)
    → t2 ≡ t0 ++ numbered (row_redundancy_text network plan q name owner) 0 (take (place + 1) candidate.rows)
rows_more network plan q owner place name other candidates candidate t0 t1 t2 same inside so_far put =
    let row = get_or candidate.rows place no_row in
    let put_here = put row (slice_get-get_or candidate.rows place no_row inside) ∙ ap (λ n. t1 ++ row_redundancy_text network plan q n owner place row) (sym same) in
    numbered-grows (row_redundancy_text network plan q name owner) 0 place place candidate.rows row t0 t1 t2 inside
    (get_or-inside candidate.rows place no_row row inside) (omega arith) so_far put_here

-- those of a candidate that is chosen, and of one that isn't
pub chosen_is : (network : NetworkOf) (plan : List Bool) (q owner : ℕ) (names : List (List ℕ)) (candidate : CandidateOf) (chosen : Bool) (old new : List ℕ)
    → slice_get plan owner ≡ Some chosen → chosen ≡ true → new ≡ old ++ numbered (row_redundancy_text network plan q (get_or names owner []) owner) 0 candidate.rows
    → new ≡ old ++ chosen_text network plan q names owner candidate
unfolding chosen_text
chosen_is network plan q owner names candidate chosen old new found is put =
    let here : get_or plan owner false ≡ true = get_or_from_slice_get plan owner chosen false found ∙ is in
    rw here put

pub left_is : (network : NetworkOf) (plan : List Bool) (q owner : ℕ) (names : List (List ℕ)) (candidate : CandidateOf) (chosen : Bool) (text : List ℕ)
    → slice_get plan owner ≡ Some chosen → chosen ≡ false → text ≡ text ++ chosen_text network plan q names owner candidate
unfolding chosen_text
left_is network plan q owner names candidate chosen text found is =
    let here : get_or plan owner false ≡ false = get_or_from_slice_get plan owner chosen false found ∙ is in
    rw here (sym (append-nil text))

-- a candidate has no more rows than all together
pub rows_within : (candidates : List CandidateOf) (k : ℕ) (candidate : CandidateOf) → slice_get candidates k ≡ Some candidate
    → length candidate.rows ≤ sum_by (λ candidate. length candidate.rows) candidates
rows_within [] k candidate here = absurd (cc)
rows_within (first ∷ rest) zero candidate here =
    let same : first ≡ candidate = cc in
    let many = ap (λ (v : CandidateOf). length v.rows) same in
    omega (arith, many, sum_by-cons (λ (v : CandidateOf). length v.rows) first rest)
rows_within (first ∷ rest) (suc k) candidate here =
    let within = rows_within rest k candidate here in
    omega (arith, within, sum_by-cons (λ (v : CandidateOf). length v.rows) first rest)

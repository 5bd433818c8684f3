-- The steps of the loops, each of which takes one more element of a list.
use Rattle.std.proofs.Common.{◌≡◌, ◌∙◌, ◌+◌, ℕ, List, [], ◌∷◌, ◌++◌, Some, length, map, take, sym, ap, ap₂, slice_get, append_assoc}
use Rattle.std.specs.Prelude.{All, sum_by}
use Rattle.std.specs.List.{enumerate_from}
use Rattle.std.proofs.lemmas.List.{map-append}
use Rattle.std.proofs.lemmas.List.Elements.{All-more}
use Rattle.std.proofs.lemmas.List.Sums.{sum_by_push}
use Rattle.std.proofs.lemmas.Option.{slice_get_within, get_or_from_slice_get}
use Rattle.geo_model.specs.declared.network.Unknown.{Unknown}
use Rattle.point_tables.specs.declared.record.PointRecord.{PointRecord}
use Rattle.candidate_tables.specs.declared.record.CandidateRecord.{CandidateRecord}
use Rattle.design_rows.specs.Rows.{rows_of}
pub use Rattle.design_rows.proofs.NumberingFacts.{take-one}
use Rattle.design_rows.proofs.NumberingFacts.{numbered-more}
use Rattle.net_build.specs.Build.{row_count}

-- what one more numbered element adds to a list of all that they give
pub numbered-one : {X Y : Type 0} (f : ℕ × X → Y) (start before after : List Y) (xs : List X) (k : ℕ) (x : X) (y : Y) → slice_get xs k ≡ Some x
    → before ≡ start ++ map f (enumerate_from 0 (take k xs)) → after ≡ before ++ y ∷ [] → y ≡ f (k, x)
    → after ≡ start ++ map f (enumerate_from 0 (take (k + 1) xs))
numbered-one f start before after xs k x y at is next here =
    next
    ∙ ap₂ (λ l z. l ++ z ∷ []) is here
    ∙ append_assoc start (map f (enumerate_from 0 (take k xs))) (f (k, x) ∷ [])
    ∙ ap (λ l. start ++ l) (sym (ap (map f) (numbered-more xs k x at) ∙ map-append f (enumerate_from 0 (take k xs)) ((k, x) ∷ [])))

pub map-one : {X Y : Type 0} (f : X → Y) (xs : List X) (k : ℕ) (x : X) → slice_get xs k ≡ Some x → map f (take k xs) ++ f x ∷ [] ≡ map f (take (k + 1) xs)
map-one f xs k x at = sym (ap (map f) (take-one xs k x at) ∙ map-append f (take k xs) (x ∷ []))

pub All-one : {X : Type 0} (P : X → Type 0) (xs : List X) (k : ℕ) (x : X) → slice_get xs k ≡ Some x → All P (take k xs) → P x → All P (take (k + 1) xs)
All-one P xs k x at all here = All-more P xs k x (slice_get_within xs k x at) all (rw (get_or_from_slice_get xs k x x at) here)

-- how many rows one more candidate makes
pub rows-one : (points : List PointRecord) (unknowns : List Unknown) (candidates : List CandidateRecord) (k : ℕ) (candidate : CandidateRecord) (count more : ℕ)
    → slice_get candidates k ≡ Some candidate → count ≡ row_count points unknowns (take k candidates) → more ≡ length (rows_of points unknowns candidate)
    → count + more ≡ row_count points unknowns (take (k + 1) candidates)
unfolding row_count
rows-one points unknowns candidates k candidate count more at before here =
    ap₂ (λ (m n : ℕ). m + n) before here
    ∙ sym (ap (sum_by (λ (c : CandidateRecord). length (rows_of points unknowns c))) (take-one candidates k candidate at)
    ∙ sum_by_push (λ (c : CandidateRecord). length (rows_of points unknowns c)) (take k candidates) candidate)

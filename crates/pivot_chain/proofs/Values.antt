-- Limits that were looked up, with another value, and rows.
use Rattle.std.proofs.Common.{◌≡◌, ℕ, ◌<◌, ◌≤◌, ℤ, Bool, List, Some, length, get_or, slice_get, sym, ◌∙◌, ap, subst}
use Rattle.std.proofs.lemmas.Bool.{false≢true}
use Rattle.std.proofs.lemmas.Option.{slice_get-get_or, slice_get_within, get_or_from_slice_get}
use Rattle.geo_model.specs.Row.{Displaced, RowOf}
use Rattle.geo_model.specs.Candidate.{CandidateOf}
use Rattle.geo_model.specs.Limit.{SquareOf, LimitOf, IsLoad}
use Rattle.geo_model.specs.Network.{NetworkOf, IsNetwork, IsLimit}
use Rattle.geo_model.specs.Meeting.{MeetsLimit, Breaks}
use Rattle.geo_model.specs.Values.{factor_at, with_value, row_square, row_limit, BearsValue}
use Rattle.geo_model.specs.declared.limit.LimitKind.{LimitKind}
use Rattle.geo_model.specs.declared.verdict.Verdict.{Verdict}
use Rattle.geo_model.specs.declared.verdict.Verdict.TheVariants.{Met, Refuted}
use Rattle.geo_model.proofs.RowLoads.{network-row-load}
use Rattle.pivot_chain.specs.Verdict.{verdict_of}
use Rattle.pivot_chain.proofs.Verdicts.{met_sound, refuted_sound}

-- what was looked up stands there
pub found_at : {X : Type 0} (xs seen : List X) (i : ℕ) (x : X) → seen ≡ xs → i < length xs → x ≡ get_or seen i x → slice_get xs i ≡ Some x
found_at xs seen i x same lt is = slice_get-get_or xs i x lt ∙ ap Some (ap (λ ys. get_or ys i x) (sym same) ∙ sym is)

-- .. with another default
pub read_at : {X : Type 0} (xs : List X) (i : ℕ) (x d : X) → i < length xs → x ≡ get_or xs i d → slice_get xs i ≡ Some x
read_at xs i x d lt is = slice_get-get_or xs i d lt ∙ ap Some (sym is)

pub factor_is : (form : LimitOf) (kind : LimitKind) (alpha factor : ℤ) (value : ℕ) → kind ≡ form.kind → alpha ≡ form.alpha → factor ≡ factor_at kind alpha value
    → (with_value form value).alpha ≡ factor
factor_is form kind alpha factor value same_kind same_alpha made =
    sym (made ∙ ap (λ (k : LimitKind). factor_at k alpha value) same_kind ∙ ap (λ (a : ℤ). factor_at form.kind a value) same_alpha)

pub bears : (network : NetworkOf) (form : LimitOf) (factor : ℤ) (squares : List SquareOf) (value : ℕ) → BearsValue network form value
    → (with_value form value).alpha ≡ factor → squares ≡ form.squares → IsLoad (length network.unknowns) network.candidates factor squares
bears network form factor squares value bounded made same =
    subst (λ (a : ℤ). IsLoad (length network.unknowns) network.candidates a squares) made
    (subst (λ (s : List SquareOf). IsLoad (length network.unknowns) network.candidates (with_value form value).alpha s) (sym same) bounded)

-- ---- such limits keep the bounds of limits

pub value_limit : (network : NetworkOf) (form : LimitOf) (value : ℕ) → IsLimit network form → BearsValue network form value → IsLimit network (with_value form value)
value_limit network form value is bounded = record { bounded = bounded; owner = is.owner; unowned = is.unowned }

pub row_limit_bounded : (network : NetworkOf) (owner place value : ℕ) (candidate : CandidateOf) (row : RowOf) → IsNetwork network → value ≤ 999
    → slice_get network.candidates owner ≡ Some candidate → slice_get candidate.rows place ≡ Some row → IsLimit network (row_limit owner place row value)
row_limit_bounded network owner place value candidate row bounds within found there = record {
  bounded = network-row-load network owner place value candidate row bounds within found there;
  owner = λ other e. let same : owner ≡ other = cc e in subst (λ k. k < length network.candidates) same (slice_get_within network.candidates owner candidate found);
  unowned = λ point. absurd (false≢true point);
}

-- ---- verdicts on them

pub met_there : (network : NetworkOf) (plan : List Bool) (limit : LimitOf) (verdict : Verdict) → IsNetwork network → IsLimit network limit
    → verdict ≡ verdict_of network plan limit → verdict ≡ Met → MeetsLimit network plan limit
met_there network plan limit verdict bounds is exact e = met_sound network plan limit bounds is (sym exact ∙ e)

pub refuted_there : (network : NetworkOf) (plan : List Bool) (limit : LimitOf) (verdict : Verdict) → IsNetwork network → IsLimit network limit
    → verdict ≡ verdict_of network plan limit → verdict ≡ Refuted → (x : Displaced) × Breaks network plan limit x
refuted_there network plan limit verdict bounds is exact e = refuted_sound network plan limit bounds is (sym exact ∙ e)

-- the square of a row, as it was read
pub read_square : (squares : List SquareOf) (i k : ℕ) (d square : SquareOf) (row : RowOf) → square ≡ get_or squares i d → i ≡ k → slice_get squares k ≡ Some (row_square row) → square ≡ row_square row
read_square squares i k d square row read same found =
    read ∙ subst (λ j. get_or squares j d ≡ row_square row) (sym same) (get_or_from_slice_get squares k (row_square row) d found)

pub load_along : (network : NetworkOf) (alpha factor : ℤ) (squares read : List SquareOf) → factor ≡ alpha → read ≡ squares
    → IsLoad (length network.unknowns) network.candidates alpha squares → IsLoad (length network.unknowns) network.candidates factor read
load_along network alpha factor squares read same_factor same_squares load =
    subst (λ (a : ℤ). IsLoad (length network.unknowns) network.candidates a read) (sym same_factor)
    (subst (λ (s : List SquareOf). IsLoad (length network.unknowns) network.candidates alpha s) (sym same_squares) load)

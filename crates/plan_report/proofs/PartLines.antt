-- The line of a part of a point.
use Rattle.std.proofs.Common.{◌≡◌, ℕ, ◌+◌, Bool, List, ◌++◌, Some, length, slice_get, refl, sym, ◌∙◌, ap, subst, arith}
use Rattle.std.proofs.lemmas.List.{append-nil}
use Rattle.geo_model.specs.Limit.{LimitOf}
use Rattle.geo_model.specs.Network.{NetworkOf}
use Rattle.geo_model.specs.Values.{with_value}
use Rattle.point_tables.specs.declared.part.Part.{Part}
use Rattle.point_tables.specs.declared.part.Part.TheVariants as part
use Rattle.net_build.specs.Build.{axis_limit, height_limit, limits_of_part}
use Rattle.pivot_chain.specs.Verdict.{verdict_of}
use Rattle.plan_report.specs.declared.length_kind.LengthKind.{LengthKind}
use Rattle.plan_report.specs.declared.length_kind.LengthKind.TheVariants as kinds
use Rattle.plan_report.specs.Reported.{StandFrom}
use Rattle.plan_report.specs.ReportText.{length_text, part_text}
use Rattle.plan_report.specs.Shown.{length_limit, length_of, shown_length}
use Rattle.plan_report.proofs.LimitPlaces.{limit_stands}

-- a part that is not new has no line, and no limit
pub no_line : (network : NetworkOf) (plan : List Bool) (kind : LengthKind) (place : ℕ) (name text : List ℕ) (given here : Part) → given ≡ here → ((x : ℕ) → given ≡ part.New x → ⊥)
    → text ≡ text ++ part_text network plan kind place name here
unfolding part_text
no_line network plan kind place name text given part.Absent e other = sym (append-nil text)
no_line network plan kind place name text given part.Fixed e other = sym (append-nil text)
no_line network plan kind place name text given (part.New limit) e other = absurd (other limit e)

pub no_limit : (limit_of : ℕ → LimitOf) (number : ℕ) (given here : Part) → given ≡ here → ((x : ℕ) → given ≡ part.New x → ⊥) → number ≡ number + length (limits_of_part limit_of here)
no_limit limit_of number given part.Absent e other = omega arith
no_limit limit_of number given part.Fixed e other = omega arith
no_limit limit_of number given (part.New limit) e other = absurd (other limit e)

-- the limit of a part that is new
pub part_stands : (limits : List LimitOf) (number limit : ℕ) (limit_of : ℕ → LimitOf) (here : Part) → part.New limit ≡ here → StandFrom limits number (limits_of_part limit_of here)
    → slice_get limits number ≡ Some (limit_of limit)
part_stands limits number limit limit_of here e stand =
    limit_stands limits number (limit_of limit) (subst (λ p. StandFrom limits number (limits_of_part limit_of p)) (sym e) stand)

pub one_limit : (limit_of : ℕ → LimitOf) (number limit : ℕ) (here : Part) → part.New limit ≡ here → number + 1 ≡ number + length (limits_of_part limit_of here)
one_limit limit_of number limit here e = subst (λ p. number + 1 ≡ number + length (limits_of_part limit_of p)) e refl

-- what is shown of it
pub shown_is : (network : NetworkOf) (plan : List Bool) (kind : LengthKind) (place limit : ℕ)
    → shown_length (λ v. verdict_of network plan (with_value (length_limit kind network.unknowns place limit) v)) limit ≡ length_of network plan kind place limit
unfolding length_of axis_limit height_limit
shown_is network plan kinds.Axis place limit = refl
shown_is network plan kinds.Height place limit = refl

-- its line
pub one_line : (network : NetworkOf) (plan : List Bool) (kind : LengthKind) (place limit shown : ℕ) (name old new : List ℕ) (here : Part) → part.New limit ≡ here
    → shown ≡ length_of network plan kind place limit → new ≡ old ++ length_text kind name shown limit → new ≡ old ++ part_text network plan kind place name here
unfolding part_text
one_line network plan kind place limit shown name old new here e is put =
    put ∙ ap (λ v. old ++ length_text kind name v limit) is ∙ ap (λ p. old ++ part_text network plan kind place name p) e

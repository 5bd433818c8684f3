use Rattle.std.specs.Prelude.{◌≡◌, List, All, Any, Bool}
use Rattle.geo_model.specs.Limit.{LimitOf, IsInForce}
use Rattle.geo_model.specs.Network.{NetworkOf}
use Rattle.geo_model.specs.declared.verdict.Verdict.{Verdict}
use Rattle.geo_model.specs.declared.verdict.Verdict.TheVariants.{Met, Refuted}

-- Certified, refuted and unsettled plans. This project's own.

-- what says of a plan and a limit whether the limit is met, refuted or open
abbrev pub Judge : Type 0
Judge = List Bool → LimitOf → Verdict

-- a plan is certified: each limit in force is met
abbrev pub IsCertifiedBy : Judge → NetworkOf → List Bool → Type 0
IsCertifiedBy judge network plan = All (λ limit. IsInForce limit plan → judge plan limit ≡ Met) network.limits

-- a plan is refuted: some limit in force is refuted
abbrev pub IsRefutedBy : Judge → NetworkOf → List Bool → Type 0
IsRefutedBy judge network plan = Any (λ limit. IsInForce limit plan × (judge plan limit ≡ Refuted)) network.limits

-- a plan is unsettled: it is neither certified nor refuted
abbrev pub IsUnsettledBy : Judge → NetworkOf → List Bool → Type 0
IsUnsettledBy judge network plan =
    (IsCertifiedBy judge network plan → ⊥) × (IsRefutedBy judge network plan → ⊥)

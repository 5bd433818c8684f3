-- What stands once the network of a seed is searched.
use Rattle.std.proofs.Common.{◌≡◌, inl, inr, ℕ, Bool, true, false, List, refl, sym, subst}
use Rattle.shelf_io.specs.States.{ShelfState}
use Rattle.gen_bench.specs.Bench.{IsBench}
use Rattle.geoplan.specs.declared.status.Status.{Status}
use Rattle.geoplan.specs.declared.verb.Verb.{Verb}
use Rattle.geoplan.specs.declared.verb.Verb.TheVariants as verb
use Rattle.geoplan.specs.CommandOf.{SourcesOf}
use Rattle.geoplan.specs.Reporting.{bench_status, Benches}
use Rattle.geoplan.specs.Standing.{IsOutcomeOf}

-- the status and the text are those of the answer
pub Benches-shown : (seed : ℕ) (is_decided : Bool) (shown text : List ℕ) (ends : Status) → IsBench seed is_decided shown → text ≡ shown
    → ends ≡ bench_status is_decided → Benches seed ends text
Benches-shown seed true shown text ends is same ended = inl (ended, subst (λ t. IsBench seed true t) (sym same) is)
Benches-shown seed false shown text ends is same ended = inr (inl (ended, subst (λ t. IsBench seed false t) (sym same) is))

benched : (sources : SourcesOf) (state : ShelfState) (ends : Status) (text : List ℕ) → Benches sources.seed ends text → IsOutcomeOf (record { verb = verb.Bench; sources = sources }) state state ends text
benched sources state ends text (inl (is, shown)) =
    subst (λ s. IsOutcomeOf (record { verb = verb.Bench; sources = sources }) state state s text) (sym is) (record { same = refl; shown = shown })
benched sources state ends text (inr (inl (is, shown))) =
    subst (λ s. IsOutcomeOf (record { verb = verb.Bench; sources = sources }) state state s text) (sym is) (record { same = refl; shown = shown })
benched sources state ends text (inr (inr (is, none))) =
    subst (λ s. IsOutcomeOf (record { verb = verb.Bench; sources = sources }) state state s text) (sym is) (record { held = inl refl; cause = inl (record { same_count = refl; same_last = refl }); printed = none })

-- .. of the command that it is known to be
pub IsOutcomeOf-bench : (which : Verb) (sources : SourcesOf) (state : ShelfState) (ends : Status) (text : List ℕ) → which ≡ verb.Bench → Benches sources.seed ends text → IsOutcomeOf (record { verb = which; sources = sources }) state state ends text
IsOutcomeOf-bench which sources state ends text is shown =
    subst (λ v. IsOutcomeOf (record { verb = v; sources = sources }) state state ends text) (sym is) (benched sources state ends text shown)

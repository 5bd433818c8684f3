-- What stands once the tables of a seed are written.
use Rattle.std.proofs.Common.{◌≡◌, inl, inr, ℕ, List, [], sym, ◌∙◌, subst, Result, Ok, Err, Vec, Global}
use Rattle.std.specs.Prelude.{IfOk, MatchResult}
use Rattle.geo_base.specs.declared.no_memory.NoMemory.{NoMemory}
use Rattle.shelf_io.specs.States.{ShelfState}
use Rattle.shelf_io.specs.declared.write_answer.WriteAnswer.{WriteAnswer}
use Rattle.shelf_io.specs.declared.write_answer.WriteAnswer.TheVariants as write_answer
use Rattle.geoplan.specs.declared.status.Status.{Status}
use Rattle.geoplan.specs.declared.status.Status.TheVariants as status
use Rattle.geoplan.specs.declared.verb.Verb.{Verb}
use Rattle.geoplan.specs.declared.verb.Verb.TheVariants as verb
use Rattle.geoplan.specs.CommandOf.{SourcesOf}
use Rattle.geoplan.specs.Reporting.{Ends, HasNoText}
use Rattle.geoplan.specs.Standing.{IsOutcomeOf}
use Rattle.geoplan.specs.Writing.{WritesBoth, FailsBoth, Generates}
use Rattle.geoplan.specs.WrittenTables.{written_text}
use Rattle.geoplan.proofs.GenFacts.{both_began}

module _ (sources : SourcesOf) (before now : ShelfState) (ends : Status) (text : List ℕ) where
  -- memory ran out once both were written
  out_after : WritesBoth sources before now → HasNoText ends text → Generates sources before now ends text
  out_after writes (is, none) = subst (λ s. Generates sources before now s text) (sym is) (record {
    held = inr (both_began sources before.held now.held writes.written);
    quiet = writes.quiet;
    printed = none;
  })

  -- both were written
  pub Generates-written : (made : Result (Vec ℕ Global) NoMemory) → WritesBoth sources before now → IfOk made (λ words. words.items ≡ written_text)
      → MatchResult made (λ words. Ends status.Found words.items ends text) (λ _. HasNoText ends text) → Generates sources before now ends text
  Generates-written (Ok words) writes same (inl (is, said)) =
      subst (λ s. Generates sources before now s text) (sym is) (record { written = writes.written; quiet = writes.quiet; printed = said ∙ same })
  Generates-written (Ok words) writes same (inr none) = out_after writes none
  Generates-written (Err why) writes same none = out_after writes none

  -- a write failed
  pub Generates-unwritten : (why : WriteAnswer) → FailsBoth sources why before now → why ≡ write_answer.Failed → ends ≡ status.WriteFault → text ≡ [] → Generates sources before now ends text
  Generates-unwritten why fails failed is none = subst (λ s. Generates sources before now s text) (sym is) (fails.failed failed, none)

  -- memory ran out
  pub Generates-out : (why : WriteAnswer) → FailsBoth sources why before now → why ≡ write_answer.NoMemory → ends ≡ status.NoMemory → text ≡ [] → Generates sources before now ends text
  Generates-out why fails out is none = subst (λ s. Generates sources before now s text) (sym is) (record { held = fails.held; quiet = fails.no_memory out; printed = none })

-- ---- the outcome

generated : (sources : SourcesOf) (before now : ShelfState) (ends : Status) (text : List ℕ) → Generates sources before now ends text → IsOutcomeOf (record { verb = verb.Gen; sources = sources }) before now ends text
generated sources before now status.Found text writes = writes
generated sources before now status.NoPlan text never = absurd never
generated sources before now status.WordsRefused text never = absurd never
generated sources before now status.TableRefused text never = absurd never
generated sources before now status.Undecided text never = absurd never
generated sources before now status.ReadFault text never = absurd never
generated sources before now status.WriteFault text failed = failed
generated sources before now status.NoMemory text out = record { held = out.held; cause = inl out.quiet; printed = out.printed }
generated sources before now status.LogRefused text never = absurd never
generated sources before now status.FileTooLong text never = absurd never
generated sources before now status.TooManyCuts text never = absurd never

-- .. of the command that it is known to be
pub IsOutcomeOf-gen : (which : Verb) (sources : SourcesOf) (before now : ShelfState) (ends : Status) (text : List ℕ) → which ≡ verb.Gen → Generates sources before now ends text → IsOutcomeOf (record { verb = which; sources = sources }) before now ends text
IsOutcomeOf-gen which sources before now ends text is generates =
    subst (λ v. IsOutcomeOf (record { verb = v; sources = sources }) before now ends text) (sym is) (generated sources before now ends text generates)

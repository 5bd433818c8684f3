-- What stands once a script is answered.
use Rattle.std.proofs.Common.{◌≡◌, inl, inr, ℕ, List, [], refl, sym, ◌∙◌, subst}
use Rattle.shelf_io.specs.States.{ShelfState}
use Rattle.geoplan.specs.declared.file_kind.FileKind.TheVariants as kind
use Rattle.geoplan.specs.declared.status.Status.{Status}
use Rattle.geoplan.specs.declared.verb.Verb.{Verb}
use Rattle.geoplan.specs.declared.verb.Verb.TheVariants as verb
use Rattle.geoplan.specs.CommandOf.{SourcesOf, file_of}
use Rattle.geoplan.specs.Loading.{ReadsFile, LoadsTables, Loads}
use Rattle.geoplan.specs.Standing.{IsOutcomeOf}
use Rattle.geoplan.specs.Tables.{TablesOf}
use Rattle.geoplan.specs.Trying.{Tries}
use Rattle.geoplan.proofs.LoadLemmas.{ReadsAll-none, ReadsAll-one, FailsLoad-after, Loads-all}
use Rattle.geoplan.proofs.StandLemmas.{out_loaded, IsOutcomeOf-refused}
use Rattle.geoplan.proofs.TrialFacts.{reads_tables}

module _ (sources : SourcesOf) (tables : TablesOf) (before middle now : ShelfState) (has : LoadsTables (record { verb = verb.Trial; sources = sources }) tables before middle) (ends : Status) (text : List ℕ) where
  -- the script was read after the tables
  all_read : (script : List ℕ) → ReadsFile (file_of sources kind.Script) script middle now → Loads (record { verb = verb.Trial; sources = sources }) tables before now
  all_read script read =
      Loads-all (record { verb = verb.Trial; sources = sources }) reads_tables tables before middle now has
      (ReadsAll-one [] (file_of sources kind.Script) script middle middle now (ReadsAll-none middle) read)

  -- .. and answered, or was not read
  IsOutcomeOf-tried : Tries tables sources middle now ends text → IsOutcomeOf (record { verb = verb.Trial; sources = sources }) before now ends text
  IsOutcomeOf-tried (inl (script, read, inl (is, said))) =
      let all = all_read script read in
      subst (λ s. IsOutcomeOf (record { verb = verb.Trial; sources = sources }) before now s text) (sym is) (
        tables,
        all.input,
        (script, λ files told. sym (read.has.1 files (has.read.held ∙ told)), record { held = all.held; quiet = all.quiet; printed = said }),
      )
  IsOutcomeOf-tried (inl (script, read, inr out)) = out_loaded (record { verb = verb.Trial; sources = sources }) tables before now (all_read script read) ends text out
  IsOutcomeOf-tried (inr (why, fails, said)) =
      IsOutcomeOf-refused (record { verb = verb.Trial; sources = sources }) why before now ends text reads_tables
      (FailsLoad-after (record { verb = verb.Trial; sources = sources }) reads_tables before middle now has.read why (record { file = file_of sources kind.Script; one = refl; fails = fails })) said

-- .. of the command that it is known to be
pub IsOutcomeOf-trial : (which : Verb) (sources : SourcesOf) (tables : TablesOf) (before middle now : ShelfState) (ends : Status) (text : List ℕ) → which ≡ verb.Trial →
    LoadsTables (record { verb = which; sources = sources }) tables before middle → Tries tables sources middle now ends text → IsOutcomeOf (record { verb = which; sources = sources }) before now ends text
IsOutcomeOf-trial which sources tables before middle now ends text is has tried =
    let known : LoadsTables (record { verb = verb.Trial; sources = sources }) tables before middle =
    subst (λ v. LoadsTables (record { verb = v; sources = sources }) tables before middle) is has in
    subst (λ v. IsOutcomeOf (record { verb = v; sources = sources }) before now ends text) (sym is) (IsOutcomeOf-tried sources tables before middle now known ends text tried)

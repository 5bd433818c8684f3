-- What stands once a log is replayed.
use Rattle.std.proofs.Common.{◌≡◌, inl, inr, ℕ, List, [], refl, sym, ◌∙◌, subst}
use Rattle.shelf_io.specs.States.{ShelfState}
use Rattle.bound_log.proofs.SoundLemmas.{HasBound-below}
use Rattle.geoplan.specs.declared.status.Status.{Status}
use Rattle.geoplan.specs.declared.verb.Verb.{Verb}
use Rattle.geoplan.specs.declared.verb.Verb.TheVariants as verb
use Rattle.geoplan.specs.CommandOf.{SourcesOf}
use Rattle.geoplan.specs.Ends.{AreBytes}
use Rattle.geoplan.specs.Loading.{LoadsTables, Loads}
use Rattle.geoplan.specs.Parts.{log_file, Checks}
use Rattle.geoplan.specs.Reporting.{ReportsReplay}
use Rattle.geoplan.specs.Standing.{IsOutcomeOf}
use Rattle.geoplan.specs.Tables.{TablesOf}
use Rattle.geoplan.proofs.LoadLemmas.{ReadsAll-none, ReadsAll-one, FailsLoad-after, Loads-all}
use Rattle.geoplan.proofs.CheckFacts.{reads_tables}
use Rattle.geoplan.proofs.StandLemmas.{out_loaded, IsOutcomeOf-refused}

-- the log was replayed
module _ (sources : SourcesOf) (tables : TablesOf) (log : List ℕ) (before now : ShelfState) (has : Loads (record { verb = verb.Check; sources = sources }) tables before now) (are : AreBytes sources.log before.held log) (ends : Status) (text : List ℕ) where
  pub IsOutcomeOf-replayed : ReportsReplay tables.network log ends text → IsOutcomeOf (record { verb = verb.Check; sources = sources }) before now ends text
  IsOutcomeOf-replayed (inl (done, is, inl (e, said))) = subst (λ s. IsOutcomeOf (record { verb = verb.Check; sources = sources }) before now s text) (sym e) (
    tables,
    has.input,
    (
      log,
      are,
      record {
        done = done;
        network = has.good.bounds;
        replayed = is;
        lower = HasBound-below tables.network log done.bound has.good.bounds (record { tree = is.tree; log = is.log; least = is.least });
        held = has.held;
        quiet = has.quiet;
        printed = said;
      },
    ),
  )
  IsOutcomeOf-replayed (inl (done, is, inr out)) = out_loaded (record { verb = verb.Check; sources = sources }) tables before now has ends text out
  IsOutcomeOf-replayed (inr (inl (fault, is, inl (e, said)))) = subst (λ s. IsOutcomeOf (record { verb = verb.Check; sources = sources }) before now s text) (sym e) (
    tables,
    has.input,
    (log, are, record { fault = fault; network = has.good.bounds; first = is; held = has.held; quiet = has.quiet; printed = said }),
  )
  IsOutcomeOf-replayed (inr (inl (fault, is, inr out))) = out_loaded (record { verb = verb.Check; sources = sources }) tables before now has ends text out
  IsOutcomeOf-replayed (inr (inr out)) = out_loaded (record { verb = verb.Check; sources = sources }) tables before now has ends text out

-- the log was read and replayed, or was not read
IsOutcomeOf-checked : (sources : SourcesOf) (tables : TablesOf) (before middle now : ShelfState) → LoadsTables (record { verb = verb.Check; sources = sources }) tables before middle → (ends : Status) (text : List ℕ) → Checks tables.network sources.log middle now ends text → IsOutcomeOf (record { verb = verb.Check; sources = sources }) before now ends text
IsOutcomeOf-checked sources tables before middle now has ends text (inl (log, read, replayed)) =
    let all = Loads-all (record { verb = verb.Check; sources = sources }) reads_tables tables before middle now has (ReadsAll-one [] (log_file sources.log) log middle middle now (ReadsAll-none middle) read) in
    IsOutcomeOf-replayed sources tables log before now all (λ files told. sym (read.has.1 files (has.read.held ∙ told))) ends text replayed
IsOutcomeOf-checked sources tables before middle now has ends text (inr (why, fails, said)) =
    IsOutcomeOf-refused (record { verb = verb.Check; sources = sources }) why before now ends text reads_tables
    (FailsLoad-after (record { verb = verb.Check; sources = sources }) reads_tables before middle now has.read why (record { file = log_file sources.log; one = refl; fails = fails })) said

-- .. of the command that it is known to be
pub IsOutcomeOf-check : (which : Verb) (sources : SourcesOf) (tables : TablesOf) (before middle now : ShelfState) (ends : Status) (text : List ℕ) → which ≡ verb.Check →
    LoadsTables (record { verb = which; sources = sources }) tables before middle → Checks tables.network sources.log middle now ends text → IsOutcomeOf (record { verb = which; sources = sources }) before now ends text
IsOutcomeOf-check which sources tables before middle now ends text is has checked =
    let known : LoadsTables (record { verb = verb.Check; sources = sources }) tables before middle =
    subst (λ v. LoadsTables (record { verb = v; sources = sources }) tables before middle) is has in
    subst (λ v. IsOutcomeOf (record { verb = v; sources = sources }) before now ends text) (sym is) (IsOutcomeOf-checked sources tables before middle now known ends text checked)

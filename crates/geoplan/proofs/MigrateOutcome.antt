-- What stands once a log is migrated.
use Rattle.std.proofs.Common.{◌≡◌, ◌⊎◌, inl, inr, ℕ, List, [], refl, sym, ◌∙◌, subst, Result, Ok, Err, Vec, Global}
use Rattle.std.specs.Prelude.{IfOk, MatchResult}
use Rattle.geo_base.specs.declared.no_memory.NoMemory.{NoMemory}
use Rattle.shelf_io.specs.Files.{with_bytes}
use Rattle.shelf_io.specs.Faults.{Rose, KeepsFaults}
use Rattle.shelf_io.specs.States.{ShelfState}
use Rattle.shelf_io.specs.declared.write_answer.WriteAnswer.{WriteAnswer}
use Rattle.shelf_io.specs.declared.write_answer.WriteAnswer.TheVariants as write_answer
use Rattle.geo_model.specs.Network.{IsNetwork}
use Rattle.bound_log.proofs.SoundLemmas.{HasBound-below}
use Rattle.log_check.specs.declared.fault.LogFault.{LogFault}
use Rattle.log_check.specs.declared.replaying.Replayed.{Replayed}
use Rattle.log_check.specs.FirstFault.{IsFirstFault}
use Rattle.log_check.specs.Replayed.{IsReplayed}
use Rattle.log_migrate.specs.Migrated.{IsMigrated, IsWhy}
use Rattle.log_migrate.specs.declared.answer.MigrateAnswer.{MigrateAnswer}
use Rattle.log_migrate.specs.declared.answer.MigrateAnswer.TheVariants as migrate_answer
use Rattle.geoplan.specs.declared.file_kind.FileKind.TheVariants as kind
use Rattle.geoplan.specs.declared.status.Status.{Status}
use Rattle.geoplan.specs.declared.status.Status.TheVariants as status
use Rattle.geoplan.specs.declared.verb.Verb.{Verb}
use Rattle.geoplan.specs.declared.verb.Verb.TheVariants as verb
use Rattle.geoplan.specs.CommandOf.{SourcesOf, file_of}
use Rattle.geoplan.specs.Ends.{AreBytes, AreHeldTables, Began}
use Rattle.geoplan.specs.Loading.{ReadsFile, LoadsTables, Loads}
use Rattle.geoplan.specs.Migrates.{migrated_text, too_many_cuts_text, IsNewLog, MigratesLog, BeganNewLog}
use Rattle.geoplan.specs.Migrating.{Migrates, MigratesRead}
use Rattle.geoplan.specs.Reporting.{Ends, HasNoText}
use Rattle.geoplan.specs.Standing.{IsOutcomeOf}
use Rattle.geoplan.specs.Tables.{TablesOf}
use Rattle.geoplan.specs.Texts.{log_fault_text}
use Rattle.geoplan.specs.Writing.{WritesFile, FailsFile}
use Rattle.geoplan.specs.WrittenTables.{MayHaveBegun}
use Rattle.geoplan.proofs.LoadLemmas.{keeps, ReadsAll-none, ReadsAll-one, FailsLoad-after, Loads-all}
use Rattle.geoplan.proofs.MigrateFacts.{migrating, reads_tables, whole_began}
use Rattle.geoplan.proofs.StandLemmas.{IsOutcomeOf-refused}

-- no fault is counted where nothing is done
still : (state : ShelfState) → KeepsFaults state state
still state = record { same_count = refl; same_last = refl }

-- ---- a log that is at hand

-- memory ran out
Migrates-out : (tables : TablesOf) (name log : List ℕ) (before now : ShelfState) (ends : Status) (text : List ℕ) →
    (now.held ≡ before.held) ⊎ BeganNewLog tables name log before.held now.held → KeepsFaults before now → HasNoText ends text → Migrates tables name log before now ends text
Migrates-out tables name log before now ends text held quiet (is, none) =
    subst (λ s. Migrates tables name log before now s text) (sym is) (record { held = held; quiet = quiet; printed = none })

-- .. before anything was written
pub Migrates-none : (tables : TablesOf) (name log : List ℕ) (state : ShelfState) (ends : Status) (text : List ℕ) → ends ≡ status.NoMemory → text ≡ [] → Migrates tables name log state state ends text
Migrates-none tables name log state ends text is none = Migrates-out tables name log state state ends text (inl refl) (still state) (is, none)

-- it is none
pub Migrates-fault : (tables : TablesOf) (name log : List ℕ) (state : ShelfState) (ends : Status) (text : List ℕ) (fault : LogFault) (made : Result (Vec ℕ Global) NoMemory) → IsNetwork tables.network → IsFirstFault tables.network log fault →
    IfOk made (λ words. words.items ≡ log_fault_text fault) → MatchResult made (λ words. Ends status.LogRefused words.items ends text) (λ _. HasNoText ends text) → Migrates tables name log state state ends text
Migrates-fault tables name log state ends text fault (Ok words) network first same (inl (is, said)) =
    subst (λ s. Migrates tables name log state state s text) (sym is)
    (record { fault = fault; network = network; first = first; held = refl; quiet = still state; printed = said ∙ same })
Migrates-fault tables name log state ends text fault (Ok words) network first same (inr out) = Migrates-out tables name log state state ends text (inl refl) (still state) out
Migrates-fault tables name log state ends text fault (Err why) network first same out = Migrates-out tables name log state state ends text (inl refl) (still state) out

module _ (tables : TablesOf) (name log : List ℕ) (done : Replayed) (network : IsNetwork tables.network) (replayed : IsReplayed tables.network log done) (ends : Status) (text : List ℕ) where
  -- it uses too many cuts
  pub Migrates-many : (state : ShelfState) (why : MigrateAnswer) (made : Result (Vec ℕ Global) NoMemory) → why ≡ migrate_answer.TooManyCuts → IsWhy replayed.tree log why →
      IfOk made (λ words. words.items ≡ too_many_cuts_text) → MatchResult made (λ words. Ends status.TooManyCuts words.items ends text) (λ _. HasNoText ends text) → Migrates tables name log state state ends text
  Migrates-many state why (Ok words) too_many cause same (inl (is, said)) =
      subst (λ s. Migrates tables name log state state s text) (sym is)
      (record { done = done; network = network; replayed = replayed; many = subst (IsWhy replayed.tree log) too_many cause; held = refl; quiet = still state; printed = said ∙ same })
  Migrates-many state why (Ok words) too_many cause same (inr out) = Migrates-out tables name log state state ends text (inl refl) (still state) out
  Migrates-many state why (Err refused) too_many cause same out = Migrates-out tables name log state state ends text (inl refl) (still state) out

  module _ (new : List ℕ) (migrated : IsMigrated tables.network replayed.tree log new) (before now : ShelfState) where
    comes : IsNewLog tables log new done
    comes = record {
      replayed = replayed;
      again = record { tree = replayed.tree; log = migrated.log; least = replayed.least; counted = replayed.counted };
      migrated = migrated;
    }

    -- the new log was written
    migrates : WritesFile name new before now → text ≡ migrated_text → MigratesLog tables name log before now text
    migrates writes said = record {
      done = done;
      new = new;
      network = network;
      comes = comes;
      lower = HasBound-below tables.network log done.bound network (record { tree = replayed.tree; log = replayed.log; least = replayed.least });
      written = writes.written;
      quiet = writes.quiet;
      printed = said;
    }

    -- .. and memory ran out then
    out_after : WritesFile name new before now → HasNoText ends text → Migrates tables name log before now ends text
    out_after writes out =
        Migrates-out tables name log before now ends text
        (inr (record { done = done; new = new; comes = comes; began = whole_began name new before.held now.held writes.written }))
        writes.quiet out

    pub Migrates-written : (made : Result (Vec ℕ Global) NoMemory) → WritesFile name new before now →
        IfOk made (λ words. words.items ≡ migrated_text) → MatchResult made (λ words. Ends status.Found words.items ends text) (λ _. HasNoText ends text) → Migrates tables name log before now ends text
    Migrates-written (Ok words) writes same (inl (is, said)) = subst (λ s. Migrates tables name log before now s text) (sym is) (migrates writes (said ∙ same))
    Migrates-written (Ok words) writes same (inr out) = out_after writes out
    Migrates-written (Err why) writes same out = out_after writes out

    -- it was not
    stands : MayHaveBegun name new before.held now.held → (now.held ≡ before.held) ⊎ BeganNewLog tables name log before.held now.held
    stands (inl same) = inl same
    stands (inr began) = inr (record { done = done; new = new; comes = comes; began = began })

    pub Migrates-unwritten : (why : WriteAnswer) → FailsFile name new why before now → why ≡ write_answer.Failed → ends ≡ status.WriteFault → text ≡ [] → Migrates tables name log before now ends text
    Migrates-unwritten why fails failed is none =
        let fault = fails.failed failed in
        subst (λ s. Migrates tables name log before now s text) (sym is) (record { rose = fault.0; last = fault.1; held = stands fails.held }, none)

    pub Migrates-stopped : (why : WriteAnswer) → FailsFile name new why before now → why ≡ write_answer.NoMemory → ends ≡ status.NoMemory → text ≡ [] → Migrates tables name log before now ends text
    Migrates-stopped why fails out is none = Migrates-out tables name log before now ends text (stands fails.held) (fails.no_memory out) (is, none)

-- ---- .. after it was read

module _ (tables : TablesOf) (name log : List ℕ) (before middle now : ShelfState) (held : middle.held ≡ before.held) (quiet : KeepsFaults before middle) where
  held_before : (now.held ≡ middle.held) ⊎ BeganNewLog tables name log middle.held now.held → (now.held ≡ before.held) ⊎ BeganNewLog tables name log before.held now.held
  held_before (inl same) = inl (same ∙ held)
  held_before (inr began) = inr (subst (λ h. BeganNewLog tables name log h now.held) held began)

  pub Migrates-before : (ends : Status) (text : List ℕ) → Migrates tables name log middle now ends text → Migrates tables name log before now ends text
  Migrates-before status.Found text found = record {
    done = found.done;
    new = found.new;
    network = found.network;
    comes = found.comes;
    lower = found.lower;
    written = subst (λ h. now.held ≡ with_bytes h name found.new) held found.written;
    quiet = keeps before middle now found.quiet quiet;
    printed = found.printed;
  }
  Migrates-before status.NoPlan text never = absurd never
  Migrates-before status.WordsRefused text never = absurd never
  Migrates-before status.TableRefused text never = absurd never
  Migrates-before status.Undecided text never = absurd never
  Migrates-before status.ReadFault text never = absurd never
  Migrates-before status.WriteFault text (failed, none) =
      (record { rose = subst (λ n. Rose n now.faults) quiet.same_count failed.rose; last = failed.last; held = held_before failed.held }, none)
  Migrates-before status.NoMemory text out = record { held = held_before out.held; quiet = keeps before middle now out.quiet quiet; printed = out.printed }
  Migrates-before status.LogRefused text refused = record {
    fault = refused.fault;
    network = refused.network;
    first = refused.first;
    held = refused.held ∙ held;
    quiet = keeps before middle now refused.quiet quiet;
    printed = refused.printed;
  }
  Migrates-before status.FileTooLong text never = absurd never
  Migrates-before status.TooManyCuts text refused = record {
    done = refused.done;
    network = refused.network;
    replayed = refused.replayed;
    many = refused.many;
    held = refused.held ∙ held;
    quiet = keeps before middle now refused.quiet quiet;
    printed = refused.printed;
  }

-- ---- the outcome

module _ (sources : SourcesOf) (tables : TablesOf) (log : List ℕ) (before now : ShelfState) (input : AreHeldTables (migrating sources) before.held tables) (are : AreBytes sources.log before.held log) where
  migrated_as : (ends : Status) (text : List ℕ) → Migrates tables sources.new_log log before now ends text → IsOutcomeOf (migrating sources) before now ends text
  migrated_as status.Found text found = (tables, input, (log, are, found))
  migrated_as status.NoPlan text never = absurd never
  migrated_as status.WordsRefused text never = absurd never
  migrated_as status.TableRefused text never = absurd never
  migrated_as status.Undecided text never = absurd never
  migrated_as status.ReadFault text never = absurd never
  migrated_as status.WriteFault text (failed, none) = ((tables, input, (log, are, failed)), none)
  migrated_as status.NoMemory text out = record { held = began out.held; cause = inl out.quiet; printed = out.printed }
    where
      began : (now.held ≡ before.held) ⊎ BeganNewLog tables sources.new_log log before.held now.held → (now.held ≡ before.held) ⊎ Began (migrating sources) before.held now.held
      began (inl same) = inl same
      began (inr piece) = inr (tables, input, (log, are, piece))
  migrated_as status.LogRefused text refused = (tables, input, (log, are, refused))
  migrated_as status.FileTooLong text never = absurd never
  migrated_as status.TooManyCuts text refused = (tables, input, (log, are, refused))

module _ (sources : SourcesOf) (tables : TablesOf) (before middle now : ShelfState) (has : LoadsTables (migrating sources) tables before middle) (ends : Status) (text : List ℕ) where
  -- the log was read after the tables
  all_read : (log : List ℕ) (read_to : ShelfState) → ReadsFile (file_of sources kind.Log) log middle read_to → Loads (migrating sources) tables before read_to
  all_read log read_to read =
      Loads-all (migrating sources) reads_tables tables before middle read_to has
      (ReadsAll-one [] (file_of sources kind.Log) log middle middle read_to (ReadsAll-none middle) read)

  -- .. and migrated, or was not read
  IsOutcomeOf-migrated : MigratesRead tables sources middle now ends text → IsOutcomeOf (migrating sources) before now ends text
  IsOutcomeOf-migrated (inl (log, read_to, read, migrates)) =
      let all = all_read log read_to read in
      migrated_as sources tables log before now all.input (λ files told. sym (read.has.1 files (has.read.held ∙ told))) ends text
      (Migrates-before tables sources.new_log log before read_to now all.held all.quiet ends text migrates)
  IsOutcomeOf-migrated (inr (why, fails, said)) =
      IsOutcomeOf-refused (migrating sources) why before now ends text reads_tables
      (FailsLoad-after (migrating sources) reads_tables before middle now has.read why (record { file = file_of sources kind.Log; one = refl; fails = fails })) said

-- .. of the command that it is known to be
pub IsOutcomeOf-migrate : (which : Verb) (sources : SourcesOf) (tables : TablesOf) (before middle now : ShelfState) (ends : Status) (text : List ℕ) → which ≡ verb.Migrate →
    LoadsTables (record { verb = which; sources = sources }) tables before middle → MigratesRead tables sources middle now ends text → IsOutcomeOf (record { verb = which; sources = sources }) before now ends text
IsOutcomeOf-migrate which sources tables before middle now ends text is has migrates =
    let known : LoadsTables (migrating sources) tables before middle = subst (λ v. LoadsTables (record { verb = v; sources = sources }) tables before middle) is has in
    subst (λ v. IsOutcomeOf (record { verb = v; sources = sources }) before now ends text) (sym is) (IsOutcomeOf-migrated sources tables before middle now known ends text migrates)

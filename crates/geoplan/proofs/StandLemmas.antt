-- What stands where the files of a command were not loaded, or memory ran out after they were.
use Rattle.std.proofs.Common.{◌≡◌, ◌⊎◌, inl, inr, ℕ, List, [], ◌∷◌, refl, sym, subst}
use Rattle.std.specs.Prelude.{map}
use Rattle.shelf_io.specs.Faults.{KeepsFaults}
use Rattle.shelf_io.specs.States.{ShelfState}
use Rattle.geoplan.specs.declared.file_kind.FileKind.TheVariants as kind
use Rattle.geoplan.specs.declared.load.LoadFault.{LoadFault}
use Rattle.geoplan.specs.declared.load.LoadFault.TheVariants as load
use Rattle.geoplan.specs.declared.status.Status.{Status}
use Rattle.geoplan.specs.declared.status.Status.TheVariants as status
use Rattle.geoplan.specs.CommandOf.{CommandOf, file_of, behind_tables, files_read}
use Rattle.geoplan.specs.Loading.{refused_view, more_kinds, ReadsTables, Loads, FailsInOrder, HasLoadFault, FailsLoad}
use Rattle.geoplan.specs.Outcomes.{FailsToRead, IsUnread}
use Rattle.geoplan.specs.Reporting.{Ends, Refused, HasNoText}
use Rattle.geoplan.specs.Standing.{IsOutcomeOf}
use Rattle.geoplan.specs.Tables.{TablesOf}
use Rattle.geoplan.specs.Texts.{cannot_read_text}

-- memory ran out after the files were loaded
pub out_loaded : (command : CommandOf) (tables : TablesOf) (before now : ShelfState) → Loads command tables before now → (ends : Status) (text : List ℕ) → HasNoText ends text → IsOutcomeOf command before now ends text
out_loaded command tables before now has ends text (is, none) =
    subst (λ s. IsOutcomeOf command before now s text) (sym is) (record { held = inl has.held; cause = inl has.quiet; printed = none })

-- a command over two tables reads files
reads_files : (command : CommandOf) → ReadsTables command.verb → files_read command ≡ [] → ⊥
reads_files command tables none =
    let e : map (file_of command.sources) (behind_tables (kind.Points ∷ kind.Candidates ∷ more_kinds command.verb) command.sources.stations) ≡ [] =
    subst (λ kinds. map (file_of command.sources) (behind_tables kinds command.sources.stations) ≡ []) tables.first none in cc

-- ---- the files were not loaded

module _ (command : CommandOf) (reads : files_read command ≡ [] → ⊥) (before now : ShelfState) (held : now.held ≡ before.held) (ends : Status) (text : List ℕ) where
  -- no fault was counted, or a read failed
  abbrev Cause : Type 0
  Cause = KeepsFaults before now ⊎ IsUnread (files_read command) before now

  refused_out : Cause → HasNoText ends text → IsOutcomeOf command before now ends text
  refused_out cause (is, none) = subst (λ s. IsOutcomeOf command before now s text) (sym is) (record { held = inl held; cause = cause; printed = none })

  said_or_out : (meant : Status) (words : List ℕ) → Cause → (text ≡ words → IsOutcomeOf command before now meant text) → Ends meant words ends text → IsOutcomeOf command before now ends text
  said_or_out meant words cause stands (inl (is, said)) = subst (λ s. IsOutcomeOf command before now s text) (sym is) (stands said)
  said_or_out meant words cause stands (inr out) = refused_out cause out

  unread_as : (name words : List ℕ) → FailsInOrder (files_read command) name before now → words ≡ cannot_read_text name → FailsToRead (files_read command) before now words
  unread_as name words failed said = record {
    earlier = failed.earlier;
    file = failed.file;
    later = failed.later;
    order = failed.order;
    within = failed.within;
    rose = failed.fault.rose;
    last = failed.fault.last;
    held = held;
    printed = subst (λ n. words ≡ cannot_read_text n) failed.same_name said;
  }

  refused_for : (why : LoadFault) → HasLoadFault command why before now → Refused why ends text → IsOutcomeOf command before now ends text
  refused_for (load.TooLong name) (is, quiet) ended =
      said_or_out status.FileTooLong _ (inl quiet) (λ said. record { name = name.now; refuses = record { reads = reads; input = is; held = held; quiet = quiet }; printed = said }) ended
  refused_for (load.Unread name) failed ended =
      said_or_out status.ReadFault _ (inr (cannot_read_text name.now, unread_as name.now (cannot_read_text name.now) failed refl)) (λ said. unread_as name.now text failed said) ended
  refused_for (load.Refused refused) (is, quiet) ended =
      said_or_out status.TableRefused _ (inl quiet) (λ said. record { fault = refused_view refused; refuses = record { reads = reads; input = is; held = held; quiet = quiet }; printed = said }) ended
  refused_for load.NoMemory quiet out = refused_out (inl quiet) out

pub IsOutcomeOf-refused : (command : CommandOf) (why : LoadFault) (before now : ShelfState) (ends : Status) (text : List ℕ) → ReadsTables command.verb → FailsLoad command why before now → Refused why ends text → IsOutcomeOf command before now ends text
IsOutcomeOf-refused command why before now ends text tables fails said = refused_for command (reads_files command tables) before now fails.held ends text why fails.cause said

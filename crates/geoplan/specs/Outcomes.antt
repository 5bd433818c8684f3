use Rattle.std.specs.Prelude.{◌≡◌, ◌⊎◌, ℕ, ◌<◌, ℤ, Bool, List, [], ◌∷◌, ◌++◌, All, Option, Some, None}
use Rattle.std.specs.Option.{ForSome}
use Rattle.shelf_io.specs.Files.{Files, with_bytes}
use Rattle.shelf_io.specs.Faults.{Rose, KeepsFaults, read_of, write_of}
use Rattle.shelf_io.specs.States.{ShelfState}
use Rattle.geo_model.specs.Prices.{price_of}
use Rattle.geo_model.specs.Meeting.{MeetsLimits}
use Rattle.covariance_words.specs.Meaning.{HoldsAndIsPrecise}
use Rattle.geo_model.specs.Network.{IsNetwork}
use Rattle.geo_model.specs.declared.answer.Counts.{Counts}
use Rattle.bound_log.specs.declared.bound.Bound.TheVariants.{NoPlan, AtLeast}
use Rattle.bound_log.specs.LogTree.{IsLog, root_of}
use Rattle.bound_log.specs.Placed.{placed}
use Rattle.bound_log.specs.Sound.{IsLowerBound}
use Rattle.bound_log.specs.Tree.{Tree}
use Rattle.branch_bound.specs.Searched.{IsCertified, IsUnsettled, IsFirstOpen}
use Rattle.log_check.specs.declared.fault.LogFault.{LogFault}
use Rattle.log_check.specs.declared.replaying.Replayed.{Replayed}
use Rattle.log_check.specs.FirstFault.{IsFirstFault}
use Rattle.log_check.specs.Replayed.{IsReplayed}
use Rattle.idle_splits.specs.NoIdle.{NoSplitIsIdle}
use Rattle.geoplan.specs.CommandOf.{CommandOf, FileOf, command_of, files_read}
use Rattle.geoplan.specs.Input.{InputOf, too_long_input, refused_input, IsFileWithin, input_of}
use Rattle.geoplan.specs.Tables.{TablesOf, RefusedOf}
use Rattle.plan_report.specs.ReportText.{no_plan_text}
use Rattle.geoplan.specs.Texts.{words_text, cannot_read_text, too_long_text, table_text, tables_plan_text, tables_undecided_text, tables_rows_text, replayed_text, log_fault_text}

-- What a command may end with: what was read, what the shelf holds before and now, and the text that is meant to be
-- printed. Each is stated once, over the tables and texts that were read and the name that is written, whatever the command.
-- How much of its text was printed is said beside it. This project's own.

-- ---- a plan, none, or one that is not decided

-- Under the name stands a log of the tables' network, with this bound and these counts of its lines, and every other name
-- holds what it held. Every plan that meets the limits costs at least the bound, and where that is `NoPlan` none meets them.
-- No split of the log is idle.
pub record LeavesLog (tables : TablesOf) (name : List ℕ) (done : Replayed) (before now : ShelfState) : Type 0 where
  pub log : List ℕ
  pub network : IsNetwork tables.network
  pub replayed : IsReplayed tables.network log done
  pub lower : IsLowerBound tables.network done.bound
  pub no_idle : NoSplitIsIdle tables.network (placed (root_of tables.network) replayed.tree)
  pub written : now.held ≡ with_bytes before.held name log
  pub quiet : KeepsFaults before now

-- what a replay answers where the bound is this price
abbrev pub priced : ℕ → Counts → Replayed
priced price counts = record { bound = AtLeast price; counts = counts }

-- A certified plan: it meets every limit for all whole-number displacements, and its price is the bound of the log. In an
-- office's words: no new point can move without energy, and each new point's standard ellipse, each new height and the
-- redundancy number of each chosen row are within their limits.
pub record FindsPlan (tables : TablesOf) (name : List ℕ) (before now : ShelfState) (text : List ℕ) : Type 0 where
  pub plan : List Bool
  pub counts : Counts
  pub leaves : LeavesLog tables name (priced (price_of tables.network plan) counts) before now
  pub certified : IsCertified tables.network plan
  pub meets : MeetsLimits tables.network plan
  pub precise : HoldsAndIsPrecise tables.points tables.network tables.redundancy plan
  pub printed : text ≡ tables_plan_text tables plan counts

-- No plan meets the limits, so that none is certified, and the bound of the log says so.
pub record FindsNone (tables : TablesOf) (name : List ℕ) (before now : ShelfState) (text : List ℕ) : Type 0 where
  pub counts : Counts
  pub leaves : LeavesLog tables name (record { bound = NoPlan; counts = counts }) before now
  pub uncertified : (plan : List Bool) → IsCertified tables.network plan → ⊥
  pub printed : text ≡ no_plan_text counts

-- A plan that is neither certified nor refuted. Its price is the bound of the log, every certified plan costs more, and the
-- named limit is the first one in force that is Open, at this step, with 0 in this interval.
pub record LeavesOpen (tables : TablesOf) (name : List ℕ) (before now : ShelfState) (text : List ℕ) : Type 0 where
  pub plan : List Bool
  pub number : ℕ
  pub step : ℕ
  pub lo : ℤ
  pub hi : ℤ
  pub counts : Counts
  pub leaves : LeavesLog tables name (priced (price_of tables.network plan) counts) before now
  pub unsettled : IsUnsettled tables.network plan
  pub dearer : (other : List Bool) → IsCertified tables.network other → price_of tables.network plan < price_of tables.network other
  pub open_limit : IsFirstOpen tables.network plan number step lo hi
  pub printed : text ≡ tables_undecided_text tables plan counts open_limit.here.limit.kind step lo hi

-- the name holds the beginning of a log of the tables' network, and every other name what it held
pub record BeganLog (tables : TablesOf) (name : List ℕ) (before now : Option Files) : Type 0 where
  pub tree : Tree
  pub text : List ℕ
  pub piece : List ℕ
  pub rest : List ℕ
  pub log : IsLog tables.network text tree
  pub begins : text ≡ piece ++ rest
  pub written : now ≡ with_bytes before name piece

-- a write of the name failed, which holds what it held, or the beginning of a log
pub record FailsToWrite (tables : TablesOf) (name : List ℕ) (before now : ShelfState) : Type 0 where
  pub rose : Rose before.faults now.faults
  pub last : now.last_fault ≡ Some (write_of name)
  pub held : (now.held ≡ before.held) ⊎ BeganLog tables name before.held now.held

-- ---- the unknowns and rows, and a log that is checked

-- the unknowns and rows of the tables' network
pub record ListsRows (tables : TablesOf) (before now : ShelfState) (text : List ℕ) : Type 0 where
  pub held : now.held ≡ before.held
  pub quiet : KeepsFaults before now
  pub printed : text ≡ tables_rows_text tables

-- The text that was read is a log of the tables' network with this bound and these counts. Every plan that meets the limits
-- costs at least the bound.
pub record AcceptsLog (tables : TablesOf) (log : List ℕ) (before now : ShelfState) (text : List ℕ) : Type 0 where
  pub done : Replayed
  pub network : IsNetwork tables.network
  pub replayed : IsReplayed tables.network log done
  pub lower : IsLowerBound tables.network done.bound
  pub held : now.held ≡ before.held
  pub quiet : KeepsFaults before now
  pub printed : text ≡ replayed_text done

-- this is the first fault of the text that was read, for the tables' network
pub record RefusesLog (tables : TablesOf) (log : List ℕ) (before now : ShelfState) (text : List ℕ) : Type 0 where
  pub fault : LogFault
  pub network : IsNetwork tables.network
  pub first : IsFirstFault tables.network log fault
  pub held : now.held ≡ before.held
  pub quiet : KeepsFaults before now
  pub printed : text ≡ log_fault_text fault

-- a text is a log of the tables' network, and has no first fault
pub record IsRightLog (tables : TablesOf) (log : List ℕ) : Type 0 where
  pub done : Replayed
  pub replayed : IsReplayed tables.network log done
  pub faultless : (fault : LogFault) → IsFirstFault tables.network log fault → ⊥

-- a text has a first fault for the tables' network, and is no log of it
pub record IsWrongLog (tables : TablesOf) (log : List ℕ) : Type 0 where
  pub fault : LogFault
  pub first : IsFirstFault tables.network log fault
  pub no_log : (tree : Tree) → IsLog tables.network log tree → ⊥

-- the status of a replay: 0 exactly where the text is a log, 8 exactly where it is none, or want of memory
abbrev pub IsCheckStatus : TablesOf → List ℕ → ℕ → Type 0
IsCheckStatus tables log status = ((status ≡ 0) × IsRightLog tables log) ⊎ (((status ≡ 8) × IsWrongLog tables log) ⊎ (status ≡ 7))

-- ---- refusals

-- the words are not those of a command, and the shelf is as it was
pub record RefusesWords (words : List (List ℕ)) (before now : ShelfState) (text : List ℕ) : Type 0 where
  pub none : command_of words ≡ None
  pub same : now ≡ before
  pub printed : text ≡ words_text

-- the command reads files, they give this, where the shelf tells it, and it holds what it held
pub record Refuses (command : CommandOf) (given : InputOf) (before now : ShelfState) : Type 0 where
  pub reads : files_read command ≡ [] → ⊥
  pub input : ForSome before.held (λ files. input_of command files ≡ given)
  pub held : now.held ≡ before.held
  pub quiet : KeepsFaults before now

-- a table, or the network of both, has a fault, and this is the first one
pub record RefusesTable (command : CommandOf) (before now : ShelfState) (text : List ℕ) : Type 0 where
  pub fault : RefusedOf
  pub refuses : Refuses command (refused_input fault) before now
  pub printed : text ≡ table_text fault

-- a file is too long, and this is the first one in the order of reading
pub record RefusesLength (command : CommandOf) (before now : ShelfState) (text : List ℕ) : Type 0 where
  pub name : List ℕ
  pub refuses : Refuses command (too_long_input name) before now
  pub printed : text ≡ too_long_text name

-- A read of one of the files failed in this call. Those before it in the order of reading are not too long.
pub record FailsToRead (files : List FileOf) (before now : ShelfState) (text : List ℕ) : Type 0 where
  pub earlier : List FileOf
  pub file : FileOf
  pub later : List FileOf
  pub order : files ≡ earlier ++ file ∷ later
  pub within : ForSome before.held (λ held. All (IsFileWithin held) earlier)
  pub rose : Rose before.faults now.faults
  pub last : now.last_fault ≡ Some (read_of file.name)
  pub held : now.held ≡ before.held
  pub printed : text ≡ cannot_read_text file.name

-- .. whatever was printed of it
abbrev pub IsUnread : List FileOf → ShelfState → ShelfState → Type 0
IsUnread files before now = (text : List ℕ) × FailsToRead files before now text

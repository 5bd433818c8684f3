use Rattle.std.specs.Prelude.{◌≡◌, ◌⊎◌, ℕ, Bool, true, false, List, []}
use Rattle.geo_model.specs.Network.{NetworkOf}
use Rattle.geo_model.specs.declared.answer.Answer.{Answer}
use Rattle.geo_model.specs.declared.answer.Answer.TheVariants as answer
use Rattle.geo_model.specs.declared.answer.Counts.{Counts}
use Rattle.log_check.specs.declared.fault.LogFault.{LogFault}
use Rattle.log_check.specs.declared.replaying.Replayed.{Replayed}
use Rattle.log_check.specs.FirstFault.{IsFirstFault}
use Rattle.log_check.specs.Replayed.{IsReplayed}
use Rattle.gen_bench.specs.Bench.{BenchesPlan, BenchesOpen}
use Rattle.geoplan.specs.Tables.{TablesOf}
use Rattle.geoplan.specs.Loading.{refused_view}
use Rattle.plan_report.specs.Reported.{IsReport}
use Rattle.geoplan.specs.Texts.{cannot_read_text, too_long_text, table_text, replayed_text, log_fault_text}
use Rattle.geoplan.specs.declared.load.LoadFault.{LoadFault}
use Rattle.geoplan.specs.declared.load.LoadFault.TheVariants as load
use Rattle.geoplan.specs.declared.status.Status.{Status}
use Rattle.geoplan.specs.declared.status.Status.TheVariants as status

-- The text of an answer. Only private clauses and proofs cite it. This project's own.

-- the status of an answer
abbrev pub status_of : Answer → Status
status_of (answer.Best plan) = status.Found
status_of answer.NoPlan = status.NoPlan
status_of (answer.Undecided plan number step lo hi) = status.Undecided

-- memory ran out before there was a text
abbrev pub HasNoText : Status → List ℕ → Type 0
HasNoText ends text = (ends ≡ status.NoMemory) × (text ≡ [])

-- a status and its text, where there was memory for the text
abbrev pub Ends : Status → List ℕ → Status → List ℕ → Type 0
Ends meant words ends text = ((ends ≡ meant) × (text ≡ words)) ⊎ HasNoText ends text

-- the status and the report of an answer, where there was memory for the report
abbrev pub Reports : TablesOf → Counts → Answer → Status → List ℕ → Type 0
Reports tables counts given ends text =
    ((ends ≡ status_of given) × IsReport tables.points tables.candidates tables.redundancy tables.network counts given text)
    ⊎ HasNoText ends text

-- the status and the text of a log that is replayed over a network
abbrev pub ReportsReplay : NetworkOf → List ℕ → Status → List ℕ → Type 0
ReportsReplay network log ends text =
    ((done : Replayed) × IsReplayed network log done × Ends status.Found (replayed_text done) ends text)
    ⊎ (((fault : LogFault) × IsFirstFault network log fault × Ends status.LogRefused (log_fault_text fault) ends text)
    ⊎ HasNoText ends text)

-- the status and the text of a command whose files were not loaded
abbrev pub Refused : LoadFault → Status → List ℕ → Type 0
Refused (load.TooLong name) ends text = Ends status.FileTooLong (too_long_text name.now) ends text
Refused (load.Unread name) ends text = Ends status.ReadFault (cannot_read_text name.now) ends text
Refused (load.Refused refused) ends text = Ends status.TableRefused (table_text (refused_view refused)) ends text
Refused load.NoMemory ends text = HasNoText ends text

-- the status of a run over the network of a seed, whose plan is decided or not
abbrev pub bench_status : Bool → Status
bench_status true = status.Found
bench_status false = status.Undecided

-- the status and the summary of a run over the network of a seed, where there was memory for it
abbrev pub Benches : ℕ → Status → List ℕ → Type 0
Benches seed ends text =
    ((ends ≡ status.Found) × BenchesPlan seed text) ⊎ (((ends ≡ status.Undecided) × BenchesOpen seed text) ⊎ HasNoText ends text)

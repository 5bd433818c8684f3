-- Which status a code is, and which statuses printing ends with.
use Rattle.std.proofs.Common.{◌≡◌, inl, inr, ℕ, if◌then◌else◌, List, refl, sym, ap, ◌∙◌}
use Rattle.std.specs.Prelude.{◌==◌}
use Rattle.geoplan.specs.Codes.{code_of, after_failed_put}
use Rattle.shelf_io.specs.States.{SinkState}
use Rattle.geoplan.specs.Printing.{WritesAll, IsSaid}
use Rattle.geoplan.specs.Running.{Prints}
use Rattle.geoplan.specs.declared.status.Status.{Status}
use Rattle.geoplan.specs.declared.status.Status.TheVariants as status

-- the status of a code
abbrev pub status_of : ℕ → Status
status_of n =
    if n == 0 then status.Found
    else (if n == 1 then status.NoPlan
    else (if n == 2 then status.WordsRefused
    else (if n == 3 then status.TableRefused
    else (if n == 4 then status.Undecided
    else (if n == 5 then status.ReadFault
    else (if n == 6 then status.WriteFault
    else (if n == 7 then status.NoMemory
    else (if n == 8 then status.LogRefused
    else (if n == 9 then status.FileTooLong
    else status.TooManyCuts)))))))))

read_back : (s : Status) → status_of (code_of s) ≡ s
read_back status.Found = refl
read_back status.NoPlan = refl
read_back status.WordsRefused = refl
read_back status.TableRefused = refl
read_back status.Undecided = refl
read_back status.ReadFault = refl
read_back status.WriteFault = refl
read_back status.NoMemory = refl
read_back status.LogRefused = refl
read_back status.FileTooLong = refl
read_back status.TooManyCuts = refl

pub from_code : (s : Status) (n : ℕ) → code_of s ≡ n → s ≡ status_of n
from_code s n is = sym (read_back s) ∙ ap status_of is

-- a status other than a write fault that stands after a failed put stood before it
pub kept : (begun target : Status) → after_failed_put begun ≡ target → (target ≡ status.WriteFault → ⊥) → begun ≡ target
kept status.Found target is other = absurd (other (sym is))
kept status.NoPlan target is other = absurd (other (sym is))
kept status.WordsRefused target is other = is
kept status.TableRefused target is other = is
kept status.Undecided target is other = absurd (other (sym is))
kept status.ReadFault target is other = is
kept status.WriteFault target is other = is
kept status.NoMemory target is other = is
kept status.LogRefused target is other = is
kept status.FileTooLong target is other = is
kept status.TooManyCuts target is other = is

-- how a status other than of a fault was printed
pub says-of : (target begun ended : Status) (text : List ℕ) (sink sink_now : SinkState) → (target ≡ status.WriteFault → ⊥) → (target ≡ status.NoMemory → ⊥) → ended ≡ target → Prints begun text ended sink sink_now → (begun ≡ target) × IsSaid text sink sink_now
says-of target begun ended text sink sink_now no_fault enough is (inl printed) = (sym printed.same ∙ is, inl printed.all)
says-of target begun ended text sink sink_now no_fault enough is (inr (inl failed)) = (kept begun target (sym failed.after ∙ is) no_fault, inr failed.cut)
says-of target begun ended text sink sink_now no_fault enough is (inr (inr out)) = absurd (enough (sym is ∙ out.after))

-- how the status of a report was printed: whole
pub whole-of : (target begun ended : Status) (text : List ℕ) (sink sink_now : SinkState) → (target ≡ status.WriteFault → ⊥) → (target ≡ status.NoMemory → ⊥) → (after_failed_put target ≡ target → ⊥) → ended ≡ target → Prints begun text ended sink sink_now → (begun ≡ target) × WritesAll text sink sink_now
whole-of target begun ended text sink sink_now no_fault enough is_report is (inl printed) = (sym printed.same ∙ is, printed.all)
whole-of target begun ended text sink sink_now no_fault enough is_report is (inr (inl failed)) =
    absurd (is_report (ap after_failed_put (sym (kept begun target (sym failed.after ∙ is) no_fault)) ∙ (sym failed.after ∙ is)))
whole-of target begun ended text sink sink_now no_fault enough is_report is (inr (inr out)) = absurd (enough (sym is ∙ out.after))

use Rattle.std.specs.Prelude.{◌==◌}
use Rattle.std.proofs.lemmas.Bool.Decides.{nat_tests}
use Rattle.std.proofs.lemmas.List.{nil_from_length}
use Rattle.std.proofs.Common.{true, false, length, arith, ◌≡◌, inl, inr, ℕ, List, [], take, drop, refl, sym, ap, ◌∙◌, subst}
use Rattle.std.proofs.lemmas.List.{take-append-drop}
use Rattle.shelf_io.specs.Faults.{Rose}
use Rattle.shelf_io.specs.Written.{with_written}
use Rattle.shelf_io.proofs.WrittenLaws.{with_written-nothing}
use Rattle.geoplan.specs.Codes.{after_failed_put}
use Rattle.shelf_io.specs.States.{SinkState}
use Rattle.geoplan.specs.Printing.{WritesPrefix}
use Rattle.geoplan.specs.Running.{Prints}
use Rattle.geoplan.specs.declared.status.Status.{Status}
use Rattle.geoplan.specs.declared.status.Status.TheVariants as status

-- Laws of printing.

-- with no text nothing is put
pub Prints-nothing : (begun : Status) (text : List ℕ) (sink : SinkState) → text ≡ [] → Prints begun text begun sink sink
Prints-nothing begun text sink none = inl (record {
  same = refl;
  all = record { written = sym (with_written-nothing sink.written) ∙ ap (with_written sink.written) (sym none); quiet = refl };
})

-- a prefix that `take` names
prefix : (text given : List ℕ) (n : ℕ) (before now : SinkState) → given ≡ text → now.written ≡ with_written before.written (take n given) → WritesPrefix text before now
prefix text given n before now same written = record {
  piece = take n given;
  rest = drop n given;
  begins = sym same ∙ sym (take-append-drop n given);
  written = written;
}

-- a put failed
pub Prints-failed : (begun : Status) (text given : List ℕ) (ended : Status) (n : ℕ) (before now : SinkState) → (text ≡ [] → ⊥) → ended ≡ after_failed_put begun → given ≡ text → Rose before.faults now.faults → now.written ≡ with_written before.written (take n given) → Prints begun text ended before now
Prints-failed begun text given ended n before now some after same rose written =
    inr (inl (record { some = some; after = after; cut = (rose, prefix text given n before now same written) }))

-- memory ran out in a put
pub Prints-out : (begun : Status) (text given : List ℕ) (n : ℕ) (before now : SinkState) → (text ≡ [] → ⊥) → given ≡ text → now.faults ≡ before.faults → now.written ≡ with_written before.written (take n given) → Prints begun text status.NoMemory before now
Prints-out begun text given n before now some same quiet written =
    inr (inr (record { some = some; after = refl; quiet = quiet; begins = prefix text given n before now same written }))

-- a list of length 0 is empty
pub no_bytes : (bytes : List ℕ) → (length bytes == 0) ≡ true → bytes ≡ []
no_bytes bytes is =
    let short : length bytes ≡ 0 = grind (arith, nat_tests) in
    nil_from_length bytes short

-- .. and one of another length isn't
pub some_bytes : (bytes : List ℕ) → (length bytes == 0) ≡ false → bytes ≡ [] → ⊥
some_bytes bytes is none = let e : true ≡ false = subst (λ (b : List ℕ). (length b == 0) ≡ false) none is in cc

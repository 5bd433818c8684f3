use Rattle.std.proofs.Common.{◌≡◌, ◌≤◌, ℕ, List, [], ◌++◌, Some, None, refl, sym, ap, ◌∙◌, arith, append_assoc, subst}
use Rattle.std.specs.Prelude.{Option}
use Rattle.shelf_io.specs.Files.{Files, IsHeld, with_piece}
use Rattle.shelf_io.specs.Faults.{Rose}
use Rattle.shelf_io.proofs.FileLaws.{with_piece-nothing, with_piece-with_piece}
use Rattle.shelf_io.specs.States.{ShelfState}
use Rattle.branch_bound.specs.Explored.{AddsText, BreaksText}
use Rattle.branch_bound.specs.declared.search_fault.SearchFault.{SearchFault}
use Rattle.branch_bound.specs.declared.search_fault.SearchFault.TheVariants as fault

-- Laws of pieces that are added one after another.

none_added : (held : Option Files) (name : List ℕ) → ((files : Files) → held ≡ Some files → IsHeld files name) → held ≡ with_piece held name []
unfolding with_piece
none_added None name told = refl
none_added (Some files) name told = sym (with_piece-nothing files name (told files refl))

-- memory ran out before anything was added
pub BreaksText-nothing : (name text : List ℕ) (state : ShelfState) → ((files : Files) → state.held ≡ Some files → IsHeld files name) →
    BreaksText name text fault.NoMemory state state
BreaksText-nothing name text state told = record {
  piece = [];
  rest = text;
  begins = refl;
  written = none_added state.held name told;
  later = omega arith;
  failed = λ why. absurd (cc);
  no_memory = λ why. record { same_count = refl; same_last = refl };
}

-- two pieces, one after the other, are their text
pub AddsText-then : (name first second : List ℕ) (before middle now : ShelfState) → AddsText name first before middle → AddsText name second middle now →
    AddsText name (first ++ second) before now
AddsText-then name first second before middle now one two = record {
  written = two.written ∙ ap (λ held. with_piece held name second) one.written ∙ with_piece-with_piece before.held name first second;
  started = two.started;
  quiet = record { same_count = two.quiet.same_count ∙ one.quiet.same_count; same_last = two.quiet.same_last ∙ one.quiet.same_last };
}

-- a piece, and then a beginning of another, are a beginning of their text
pub BreaksText-after : (name first second : List ℕ) (why : SearchFault) (before middle now : ShelfState) → AddsText name first before middle →
    BreaksText name second why middle now → BreaksText name (first ++ second) why before now
BreaksText-after name first second why before middle now one two = record {
  piece = first ++ two.piece;
  rest = two.rest;
  begins = ap (λ t. first ++ t) two.begins ∙ sym (append_assoc first two.piece two.rest);
  written = two.written ∙ ap (λ held. with_piece held name two.piece) one.written ∙ with_piece-with_piece before.held name first two.piece;
  later = subst (λ n. n ≤ now.faults) one.quiet.same_count two.later;
  failed = λ is. let rose = two.failed is in (subst (λ n. Rose n now.faults) one.quiet.same_count rose.0, rose.1);
  no_memory = λ is. let quiet = two.no_memory is in
      record { same_count = quiet.same_count ∙ one.quiet.same_count; same_last = quiet.same_last ∙ one.quiet.same_last };
}

-- a beginning of a text is one of a longer text
pub BreaksText-longer : (name first second : List ℕ) (why : SearchFault) (before now : ShelfState) → BreaksText name first why before now →
    BreaksText name (first ++ second) why before now
BreaksText-longer name first second why before now one = record {
  piece = one.piece;
  rest = one.rest ++ second;
  begins = ap (λ t. t ++ second) one.begins ∙ append_assoc one.piece one.rest second;
  written = one.written;
  later = one.later;
  failed = one.failed;
  no_memory = one.no_memory;
}

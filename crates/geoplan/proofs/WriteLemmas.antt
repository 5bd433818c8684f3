-- Laws of files that are written whole, and of the two tables of a seed.
use Rattle.std.proofs.Common.{◌≡◌, ◌⊎◌, inl, inr, ℕ, ◌≤◌, List, [], take, drop, take-append-drop, refl, sym, ap, ◌∙◌, subst, arith, Result, Ok, Err}
use Rattle.std.specs.Prelude.{IfErr, OnOk, OnErr}
use Rattle.shelf_io.specs.Files.{with_bytes, with_piece}
use Rattle.shelf_io.specs.Faults.{Rose, KeepsFaults, HasWriteCause}
use Rattle.shelf_io.specs.States.{ShelfState}
use Rattle.shelf_io.specs.declared.write_answer.WriteAnswer.{WriteAnswer}
use Rattle.shelf_io.specs.declared.write_answer.WriteAnswer.TheVariants as write_answer
use Rattle.shelf_io.proofs.FileLaws.{with_piece-with_bytes}
use Rattle.gen_net.specs.Candidates.{candidates_text}
use Rattle.gen_net.specs.Points.{points_text}
use Rattle.geoplan.specs.CommandOf.{SourcesOf}
use Rattle.geoplan.specs.Writing.{WritesFile, FailsFile, WritesBoth, FailsBoth}
use Rattle.geoplan.specs.WrittenTables.{MayHaveBegun}
use Rattle.geoplan.proofs.GenFacts.{kept_points, kept_candidates}
use Rattle.geoplan.proofs.LoadLemmas.{keeps}

-- ---- one file

-- a name that could not be started holds what it held, or nothing
not_started : (name text : List ℕ) (before now : ShelfState) → (now.held ≡ before.held) ⊎ (now.held ≡ with_bytes before.held name []) → MayHaveBegun name text before.held now.held
not_started name text before now (inl same) = inl same
not_started name text before now (inr empty) = inr (record { piece = []; rest = text; begins = refl; written = empty })

pub FailsFile-start : (name text : List ℕ) (why : WriteAnswer) (answer : Result (Unit {0}) WriteAnswer) (before now : ShelfState) → answer ≡ Err why → (now.held ≡ before.held) ⊎ (now.held ≡ with_bytes before.held name []) → HasWriteCause answer name before now → FailsFile name text why before now
FailsFile-start name text why answer before now is held cause = record {
  held = not_started name text before now held;
  later = cause.later;
  failed = λ failed. cause.failed (is ∙ ap Err failed);
  no_memory = λ out. cause.no_memory (is ∙ ap Err out);
}

module _ (name text : List ℕ) (before middle now : ShelfState) (started : middle.held ≡ with_bytes before.held name []) (quiet : KeepsFaults before middle) where
  -- a piece that was added to an empty file is all of it
  holds_piece : (piece : List ℕ) → now.held ≡ with_piece middle.held name piece → now.held ≡ with_bytes before.held name piece
  holds_piece piece added = added ∙ ap (λ held. with_piece held name piece) started ∙ with_piece-with_bytes before.held name [] piece

  pub written-answer : (answer : Result (Unit {0}) WriteAnswer) → OnOk answer (now.held ≡ with_piece middle.held name text) → HasWriteCause answer name middle now → OnOk answer (WritesFile name text before now)
  written-answer (Ok done) added cause = record { written = holds_piece text added; quiet = keeps before middle now (cause.done refl) quiet }
  written-answer (Err why) added cause = tt

  pub unwritten-answer : (answer : Result (Unit {0}) WriteAnswer) → OnErr answer ((n : ℕ) × (now.held ≡ with_piece middle.held name (take n text))) → HasWriteCause answer name middle now → IfErr answer (λ why. FailsFile name text why before now)
  unwritten-answer (Ok done) refused cause = tt
  unwritten-answer (Err why) refused cause = record {
    held = inr (record {
      piece = take refused.0 text;
      rest = drop refused.0 text;
      begins = sym (take-append-drop refused.0 text);
      written = holds_piece (take refused.0 text) refused.1;
    });
    later = subst (λ n. n ≤ now.faults) quiet.same_count cause.later;
    failed = λ failed. let fault = cause.failed (ap Err failed) in (subst (λ n. Rose n now.faults) quiet.same_count fault.0, fault.1);
    no_memory = λ out. keeps before middle now (cause.no_memory (ap Err out)) quiet;
  }

-- ---- the two tables of a seed

-- before one is written memory ran out
pub FailsBoth-none : (sources : SourcesOf) (state : ShelfState) → FailsBoth sources write_answer.NoMemory state state
FailsBoth-none sources state = record { held = inl refl; later = omega arith; failed = λ is. absurd (cc); no_memory = λ is. record { same_count = refl; same_last = refl } }

module _ (sources : SourcesOf) (points : List ℕ) (points_are : points ≡ points_text sources.seed) where
  -- the points were not written
  pub FailsBoth-points : (why : WriteAnswer) (before now : ShelfState) → FailsFile sources.points points why before now → FailsBoth sources why before now
  FailsBoth-points why before now fails = record {
    held = kept_points sources before.held now.held held;
    later = fails.later;
    failed = λ is. let fault = fails.failed is in record { rose = fault.0; stands = inl (record { last = fault.1; held = held }) };
    no_memory = fails.no_memory;
  }
    where
      held : MayHaveBegun sources.points (points_text sources.seed) before.held now.held
      held = subst (λ text. MayHaveBegun sources.points text before.held now.held) points_are fails.held

  module _ (candidates : List ℕ) (candidates_are : candidates ≡ candidates_text sources.seed) (before middle now : ShelfState) (first : WritesFile sources.points points before middle) where
    points_stand : middle.held ≡ with_bytes before.held sources.points (points_text sources.seed)
    points_stand = first.written ∙ ap (λ text. with_bytes before.held sources.points text) points_are

    -- the candidates were, or were not
    pub both-answer : (answer : Result (Unit {0}) WriteAnswer) → OnOk answer (WritesFile sources.candidates candidates middle now) → OnOk answer (WritesBoth sources before now)
    both-answer (Ok done) second = record {
      written = second.written ∙ ap (λ text. with_bytes middle.held sources.candidates text) candidates_are
          ∙ ap (λ held. with_bytes held sources.candidates (candidates_text sources.seed)) points_stand;
      quiet = keeps before middle now second.quiet first.quiet;
    }
    both-answer (Err why) second = tt

    not_both : (why : WriteAnswer) → FailsFile sources.candidates candidates why middle now → FailsBoth sources why before now
    not_both why fails = record {
      held = kept_candidates sources before.held now.held held;
      later = subst (λ n. n ≤ now.faults) first.quiet.same_count fails.later;
      failed = λ is. let fault = fails.failed is in record { rose = subst (λ n. Rose n now.faults) first.quiet.same_count fault.0; stands = inr (record { last = fault.1; held = held }) };
      no_memory = λ is. keeps before middle now (fails.no_memory is) first.quiet;
    }
      where
        held : MayHaveBegun sources.candidates (candidates_text sources.seed) (with_bytes before.held sources.points (points_text sources.seed)) now.held
        held = subst (λ text. MayHaveBegun sources.candidates text (with_bytes before.held sources.points (points_text sources.seed)) now.held) candidates_are
            (subst (λ was. MayHaveBegun sources.candidates candidates was now.held) points_stand fails.held)

    pub not_both-answer : (answer : Result (Unit {0}) WriteAnswer) → IfErr answer (λ why. FailsFile sources.candidates candidates why middle now) → IfErr answer (λ why. FailsBoth sources why before now)
    not_both-answer (Ok done) fails = tt
    not_both-answer (Err why) fails = not_both why fails

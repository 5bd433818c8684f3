-- The facts of `gen`.
use Rattle.std.proofs.Common.{◌≡◌, ◌⊎◌, inl, inr, [], ◌∷◌, refl, sym, subst, arith, Option}
use Rattle.std.specs.Prelude.{Contains}
use Rattle.std.proofs.lemmas.List.{append-nil}
use Rattle.shelf_io.specs.Files.{Files}
use Rattle.shelf_io.specs.States.{ShelfState}
use Rattle.gen_net.specs.Candidates.{candidates_text}
use Rattle.gen_net.specs.Points.{points_text}
use Rattle.geoplan.specs.declared.verb.Verb.{Verb}
use Rattle.geoplan.specs.declared.verb.Verb.TheVariants as verb
use Rattle.geoplan.specs.CommandOf.{SourcesOf, CommandOf, names_written}
use Rattle.geoplan.specs.Ends.{gen_ends}
use Rattle.geoplan.specs.Input.{no_input, judged_input, input_of}
use Rattle.geoplan.specs.Loading.{ReadsTables}
use Rattle.geoplan.specs.WrittenTables.{with_points, with_both, MayHaveBegun, BeganTables, FailsAtPoints, FailsAtCandidates}
use Rattle.geoplan.proofs.OwedFacts.{HoldsPieces, EndsKeep, EndsQuiet, EndsAnswer, OwedFacts, nothing_unrefused, nothing_refused, nothing_long}

module _ (sources : SourcesOf) where
  abbrev generating : CommandOf
  generating = record { verb = verb.Gen; sources = sources }

  -- ---- what stands after it

  -- both tables
  pub both_began : (before now : Option Files) → now ≡ with_both sources before → BeganTables sources before now
  both_began before now written = inr (record {
    piece = candidates_text sources.seed;
    rest = [];
    begins = sym (append-nil (candidates_text sources.seed));
    written = written;
  })

  -- the points alone
  pub points_began : (before now : Option Files) → now ≡ with_points sources before → BeganTables sources before now
  points_began before now written = inl (record {
    piece = points_text sources.seed;
    rest = [];
    begins = sym (append-nil (points_text sources.seed));
    written = written;
  })

  abbrev Kept : Option Files → Option Files → Type 0
  Kept before now = (now ≡ before) ⊎ BeganTables sources before now

  pub kept_points : (before now : Option Files) → MayHaveBegun sources.points (points_text sources.seed) before now → Kept before now
  kept_points before now (inl same) = inl same
  kept_points before now (inr began) = inr (inl began)

  pub kept_candidates : (before now : Option Files) → MayHaveBegun sources.candidates (candidates_text sources.seed) (with_points sources before) now → Kept before now
  kept_candidates before now (inl same) = inr (points_began before now same)
  kept_candidates before now (inr began) = inr (inr began)

  failed_kept : (before now : ShelfState) → FailsAtPoints sources before now ⊎ FailsAtCandidates sources before now → Kept before.held now.held
  failed_kept before now (inl failed) = kept_points before.held now.held failed.held
  failed_kept before now (inr failed) = kept_candidates before.held now.held failed.held

  first_name : Contains (sources.points ∷ sources.candidates ∷ []) sources.points
  first_name = (0, omega arith, refl)

  second_name : Contains (sources.points ∷ sources.candidates ∷ []) sources.candidates
  second_name = (1, omega arith, refl)

  pieces_of : (before now : Option Files) → BeganTables sources before now → HoldsPieces (names_written generating) before now
  pieces_of before now (inl began) = record { pieces = (sources.points, began.piece) ∷ []; named = (first_name, tt); held = began.written }
  pieces_of before now (inr began) = record {
    pieces = (sources.points, points_text sources.seed) ∷ (sources.candidates, began.piece) ∷ [];
    named = (first_name, (second_name, tt));
    held = began.written;
  }

  keeps : EndsKeep (gen_ends sources) (names_written generating)
  keeps = record {
    completed = λ before now text writes. inr (both_began before.held now.held writes.written);
    none = λ before now text never. absurd never;
    undecided = λ before now text never. absurd never;
    log_refused = λ before now text never. absurd never;
    cuts_refused = λ before now text never. absurd never;
    unwritten = λ before now failed. failed_kept before now failed.stands;
    pieces = pieces_of;
  }

  quiet : EndsQuiet (gen_ends sources)
  quiet = record {
    completed = λ before now text writes. writes.quiet;
    none = λ before now text never. absurd never;
    undecided = λ before now text never. absurd never;
    log_refused = λ before now text never. absurd never;
    cuts_refused = λ before now text never. absurd never;
  }

  -- ---- its statuses: it reads no file

  no_file : (files : Files) → input_of generating files ≡ no_input
  unfolding input_of judged_input
  no_file files = refl

  answers : EndsAnswer generating (gen_ends sources)
  answers = record {
    memory = λ files. inr refl;
    refused = λ files fault is. absurd (nothing_refused generating no_file files fault is);
    too_long = λ files name is. absurd (nothing_long generating no_file files name is);
    completed = λ files before now text told writes. record { answers = inl refl; unrefused = nothing_unrefused generating no_file files };
    none = λ files before now text told never. absurd never;
    undecided = λ files before now text told never. absurd never;
    log_refused = λ files before now text told never. absurd never;
    cuts_refused = λ files before now text told never. absurd never;
    unwritten = λ before now failed. failed.rose;
    unwritten_files = λ files before now told failed. nothing_unrefused generating no_file files;
  }

pub facts : OwedFacts verb.Gen
facts = record { keeps = keeps; quiet = quiet; answers = answers }

-- it reads no tables
pub never_tables : (which : Verb) → which ≡ verb.Gen → ReadsTables which → ⊥
never_tables which is reads = let first = (subst ReadsTables is reads).first in cc

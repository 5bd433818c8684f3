-- The facts of `bench`.
use Rattle.std.proofs.Common.{◌≡◌, inl, inr, [], refl, ap, subst}
use Rattle.shelf_io.specs.Files.{Files}
use Rattle.shelf_io.specs.Faults.{KeepsFaults}
use Rattle.shelf_io.specs.States.{ShelfState}
use Rattle.geoplan.specs.declared.verb.Verb.{Verb}
use Rattle.geoplan.specs.declared.verb.Verb.TheVariants as verb
use Rattle.geoplan.specs.CommandOf.{SourcesOf, CommandOf}
use Rattle.geoplan.specs.Ends.{bench_ends}
use Rattle.geoplan.specs.Input.{no_input, judged_input, input_of}
use Rattle.geoplan.specs.Loading.{ReadsTables}
use Rattle.geoplan.proofs.OwedFacts.{EndsKeep, EndsQuiet, EndsAnswer, OwedFacts, nothing_unrefused, nothing_refused, nothing_long}

module _ (sources : SourcesOf) where
  abbrev benching : CommandOf
  benching = record { verb = verb.Bench; sources = sources }

  same_held : (before now : ShelfState) → now ≡ before → now.held ≡ before.held
  same_held before now same = ap (λ (s : ShelfState). s.held) same

  keeps : EndsKeep (bench_ends sources) []
  keeps = record {
    completed = λ before now text shows. inl (same_held before now shows.same);
    none = λ before now text never. absurd never;
    undecided = λ before now text shows. inl (same_held before now shows.same);
    log_refused = λ before now text never. absurd never;
    cuts_refused = λ before now text never. absurd never;
    unwritten = λ before now never. absurd never;
    pieces = λ before now never. absurd never;
  }

  same_faults : (before now : ShelfState) → now ≡ before → KeepsFaults before now
  same_faults before now same = record { same_count = ap (λ (s : ShelfState). s.faults) same; same_last = ap (λ (s : ShelfState). s.last_fault) same }

  quiet : EndsQuiet (bench_ends sources)
  quiet = record {
    completed = λ before now text shows. same_faults before now shows.same;
    none = λ before now text never. absurd never;
    undecided = λ before now text shows. same_faults before now shows.same;
    log_refused = λ before now text never. absurd never;
    cuts_refused = λ before now text never. absurd never;
  }

  no_file : (files : Files) → input_of benching files ≡ no_input
  unfolding input_of judged_input
  no_file files = refl

  answers : EndsAnswer benching (bench_ends sources)
  answers = record {
    memory = λ files. inr (inr refl);
    refused = λ files fault is. absurd (nothing_refused benching no_file files fault is);
    too_long = λ files name is. absurd (nothing_long benching no_file files name is);
    completed = λ files before now text told shows. record { answers = inl refl; unrefused = nothing_unrefused benching no_file files };
    none = λ files before now text told never. absurd never;
    undecided = λ files before now text told shows. record { answers = inr (inl refl); unrefused = nothing_unrefused benching no_file files };
    log_refused = λ files before now text told never. absurd never;
    cuts_refused = λ files before now text told never. absurd never;
    unwritten = λ before now never. absurd never;
    unwritten_files = λ files before now told never. absurd never;
  }

pub facts : OwedFacts verb.Bench
facts = record { keeps = keeps; quiet = quiet; answers = answers }

-- it reads no tables
pub bench_never_tables : (which : Verb) → which ≡ verb.Bench → ReadsTables which → ⊥
bench_never_tables which is reads = let first = (subst ReadsTables is reads).first in cc

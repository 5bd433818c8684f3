-- The facts of every command.
use Rattle.std.proofs.Common.{◌≡◌, ◌⊎◌, inl, inr, sym, subst}
use Rattle.geoplan.specs.declared.verb.Verb.{Verb}
use Rattle.geoplan.specs.declared.verb.Verb.TheVariants as verb
use Rattle.geoplan.specs.Loading.{ReadsTables}
use Rattle.geoplan.proofs.OwedFacts.{OwedFacts}
use Rattle.geoplan.proofs.PlanFacts as plan
use Rattle.geoplan.proofs.RowsFacts as rows
use Rattle.geoplan.proofs.CheckFacts as check
use Rattle.geoplan.proofs.TrialFacts as trial
use Rattle.geoplan.proofs.GenFacts as gen
use Rattle.geoplan.proofs.BenchFacts as bench
use Rattle.geoplan.proofs.MigrateFacts as migrate

pub facts_of : (which : Verb) → OwedFacts which
facts_of verb.Plan = plan.facts
facts_of verb.Rows = rows.facts
facts_of verb.Check = check.facts
facts_of verb.Trial = trial.facts
facts_of verb.Gen = gen.facts
facts_of verb.Bench = bench.facts
facts_of verb.Migrate = migrate.facts

-- the commands that read tables
pub reads_tables-of : (which : Verb) → (which ≡ verb.Plan) ⊎ ((which ≡ verb.Rows) ⊎ ((which ≡ verb.Check) ⊎ ((which ≡ verb.Trial) ⊎ (which ≡ verb.Migrate)))) → ReadsTables which
reads_tables-of which (inl is) = subst ReadsTables (sym is) plan.reads_tables
reads_tables-of which (inr (inl is)) = subst ReadsTables (sym is) rows.reads_tables
reads_tables-of which (inr (inr (inl is))) = subst ReadsTables (sym is) check.reads_tables
reads_tables-of which (inr (inr (inr (inl is)))) = subst ReadsTables (sym is) trial.reads_tables
reads_tables-of which (inr (inr (inr (inr is)))) = subst ReadsTables (sym is) migrate.reads_tables

-- .. and those that don't
pub never_reads : (which : Verb) → (which ≡ verb.Gen) ⊎ (which ≡ verb.Bench) → ReadsTables which → ⊥
never_reads which (inl is) reads = gen.never_tables which is reads
never_reads which (inr is) reads = bench.bench_never_tables which is reads

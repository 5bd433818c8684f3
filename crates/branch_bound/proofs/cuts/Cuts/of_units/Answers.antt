use Rattle.std.proofs.Common.{ap, ℕ, List, map}
use Rattle.branch_bound.specs.Naming.{text_at}
use Rattle.branch_bound.proofs.NamingLemmas.{naming_none}
use Rattle.branch_bound.proofs.cuts.Cuts.of_units.Goals as goal

pub returns-clause-cuts : goal.returns-clause-cuts
returns-clause-cuts c = record {
  pool = c.in_ok-pool.ensures;
  distinct = c.len-distinct.ensures.pool;
  idle = c.in_ok-idle.ensures;
  naming = naming_none c.in_ok-pool.pool c.new-4.result c.new-4.ensures;
}

pub returns-clause-names : goal.returns-clause-names
returns-clause-names c = ap (λ (ns : List ℕ). map (text_at c.in_ok-pool.pool) ns) c.new-4.ensures

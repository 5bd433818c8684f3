use Rattle.std.proofs.Common.{arith}
use Rattle.net_build.proofs.PartFacts.{no-rows}
use Rattle.net_build.proofs.StepFacts.{rows-one}
use Rattle.net_build.proofs.counts.count_rows.Goals as goal

pub candidates-init : goal.candidates-init
candidates-init c = record { rows = λ points unknowns. no-rows points unknowns; few = omega arith }

pub candidates-preserved : goal.candidates-preserved
candidates-preserved c = record {
  rows = λ points unknowns. rows-one points unknowns c.args.candidates.now c.candidates.place c.get.result.now c.candidates.count c.rows_by-count.result
      c.get.ensures (c.candidates.invariant.rows points unknowns) (c.rows_by-count.ensures.rows points unknowns);
  few = omega (arith, c.candidates.invariant.few, c.rows_by-count.ensures.few);
}

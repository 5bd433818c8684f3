use Rattle.std.proofs.Common.{◌∙◌, length, refl, sym, ap, arith}
use Rattle.net_build.proofs.PartFacts.{fault-is}
use Rattle.net_build.proofs.network.build.Goals as goal

pub overflow_cast-unknowns : goal.overflow_cast-unknowns
overflow_cast-unknowns c = omega (arith, ap length c.unknowns.ensures.value, c.unknowns.ensures.bounds.few)

pub returns-in-Some-clause-answer : goal.returns-in-Some-clause-answer
returns-in-Some-clause-answer c = (
  sym (fault-is c.args.points.now c.args.candidates.now c.in-Ok.columns (length c.unknowns.result.now) c.count_rows.result c.in-Ok.ensures (ap length c.unknowns.ensures.value) c.count_rows.ensures)
      ∙ sym c.fault_of.ensures ∙ c.in-Some.is,
  refl,
)

pub network_of-requires-clause-small : goal.network_of-requires-clause-small
network_of-requires-clause-small c =
    sym (fault-is c.args.points.now c.args.candidates.now c.in-Ok.columns (length c.unknowns.result.now) c.count_rows.result c.in-Ok.ensures (ap length c.unknowns.ensures.value) c.count_rows.ensures)
    ∙ sym c.fault_of.ensures ∙ c.in_default.is

pub returns-in-Ok-network_of-clause-answer : goal.returns-in-Ok-network_of-clause-answer
returns-in-Ok-network_of-clause-answer c = (
  sym (fault-is c.args.points.now c.args.candidates.now c.in-Ok.columns (length c.unknowns.result.now) c.count_rows.result c.in-Ok.ensures (ap length c.unknowns.ensures.value) c.count_rows.ensures)
      ∙ sym c.fault_of.ensures ∙ c.in_default.is,
  c.in-Ok-network_of.ensures.network,
)

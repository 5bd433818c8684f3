use Rattle.std.proofs.Common.{◌∙◌, ap, rules, FitsSigned, w64}
use Rattle.std.specs.Prelude.{unsigned_abs}
use Rattle.std.proofs.lemmas.Int.{to_z-of_z}
use Rattle.table_rows.specs.Faults.{first_broken}
use Rattle.candidate_tables.proofs.RuleFacts.{price-is, price-read}
use Rattle.station_tables.proofs.StationFacts.{price-few}
use Rattle.station_tables.proofs.read.read_price.Goals as goal

pub returns-in-Ok-clause-price : goal.returns-in-Ok-clause-price
returns-in-Ok-clause-price c =
    let fits : FitsSigned w64 c.in-Ok.value = search rules in (
      ap first_broken (price-is c.args.text.now) ∙ c.in-Ok.ensures.0,
      price-read c.args.text.now c.in-Ok.value _ c.in-Ok.ensures.1 (ap unsigned_abs (to_z-of_z w64 c.in-Ok.value fits)),
    )

pub returns-in-Ok-clause-bound : goal.returns-in-Ok-clause-bound
returns-in-Ok-clause-bound c =
    let fits : FitsSigned w64 c.in-Ok.value = search rules in
    price-few c.args.text.now c.in-Ok.value _ c.in-Ok.ensures.1 (ap unsigned_abs (to_z-of_z w64 c.in-Ok.value fits))

pub returns-in-Err-clause-price : goal.returns-in-Err-clause-price
returns-in-Err-clause-price c = ap first_broken (price-is c.args.text.now) ∙ c.in-Err.ensures

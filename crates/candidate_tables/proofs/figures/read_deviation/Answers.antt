use Rattle.std.proofs.Common.{◌∙◌, ap, rules, FitsSigned, w64}
use Rattle.std.specs.Prelude.{unsigned_abs}
use Rattle.std.proofs.lemmas.Int.{to_z-of_z}
use Rattle.table_rows.specs.Faults.{first_broken}
use Rattle.candidate_tables.proofs.RuleFacts.{deviation-is, deviation-read}
use Rattle.candidate_tables.proofs.figures.read_deviation.Goals as goal

pub returns-in-Ok : goal.returns-in-Ok
returns-in-Ok c =
    let fits : FitsSigned w64 c.in-Ok.value = search rules in (
      ap first_broken (deviation-is c.args.text.now) ∙ c.in-Ok.ensures.0,
      deviation-read c.args.text.now c.in-Ok.value _ c.in-Ok.ensures.1 (ap unsigned_abs (to_z-of_z w64 c.in-Ok.value fits)),
    )

pub returns-in-Err : goal.returns-in-Err
returns-in-Err c = ap first_broken (deviation-is c.args.text.now) ∙ c.in-Err.ensures

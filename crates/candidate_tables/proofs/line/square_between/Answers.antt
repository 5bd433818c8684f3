use Rattle.std.proofs.Common.{◌∙◌, ◌-ℤ◌, ap₂, ℤ}
use Rattle.coefficient_round.specs.Coefficient.{square_length}
use Rattle.candidate_tables.proofs.PlaceFacts.{difference-is, squared-is}
use Rattle.candidate_tables.proofs.line.square_between.Goals as goal

pub returns : goal.returns
returns c =
    let x =
    difference-is c.x.result c.x-2.result c.x.ensures.size c.x-2.ensures.size
    ∙ ap₂ (λ (a b : ℤ). a -ℤ b) c.x.ensures.value c.x-2.ensures.value in
    let y =
    difference-is c.y.result c.y-2.result c.y.ensures.size c.y-2.ensures.size
    ∙ ap₂ (λ (a b : ℤ). a -ℤ b) c.y.ensures.value c.y-2.ensures.value in
    c.length_squared.ensures ∙ ap₂ square_length x y ∙ squared-is c.args.points.now c.args.from c.args.to

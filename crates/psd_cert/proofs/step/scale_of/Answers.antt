use Rattle.std.proofs.Common.{rules, get_or, pos, sym, ◌∙◌, FitsSigned}
use Rattle.std.specs.Int.{w128}
use Rattle.std.proofs.lemmas.Int.{to_z-of_z}
use Rattle.whole_algebra.proofs.Refutation.{false_is_not_true}
use Rattle.psd_cert.proofs.ScaleLaws.{scale_of_zeros, no_scale}
use Rattle.psd_cert.proofs.step.scale_of.Goals as goal

pub returns-then-is_zero_row : goal.returns-then-is_zero_row
returns-then-is_zero_row c = scale_of_zeros c.args.first.now c.requires (c.is_zero_row.ensures.0 c.if-is_zero_row.true)

pub returns-else-is_zero_row : goal.returns-else-is_zero_row
returns-else-is_zero_row c =
    let f : FitsSigned w128 (get_or c.args.first.now 0 (pos 0)) = search rules in
    let test = simp (to_z-of_z, f) at c.if-a-gt0.false in
    no_scale c.args.first.now test (λ zeros. false_is_not_true (sym c.if-is_zero_row.false ∙ c.is_zero_row.ensures.1 zeros))

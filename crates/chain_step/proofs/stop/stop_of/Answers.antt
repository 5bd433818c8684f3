use Rattle.std.proofs.Common.{rules, get_or, pos, ◌*ℤ◌, ◌≤ℤ◌, sym, ◌∙◌, subst, FitsSigned}
use Rattle.std.specs.Prelude.{All}
use Rattle.std.specs.Int.{w128}
use Rattle.std.proofs.lemmas.Int.{to_z-of_z}
use Rattle.whole_algebra.specs.Chains.{size_limit}
use Rattle.whole_algebra.proofs.Refutation.{false_is_not_true}
use Rattle.chain_step.proofs.RowLaws.{rest_is_beside}
use Rattle.chain_step.proofs.Stops.{small_goes_on, zeros_go_on, low_stops, is_above, not_above}
use Rattle.chain_step.proofs.stop.stop_of.Goals as goal

pub returns-then-are_small : goal.returns-then-are_small
returns-then-are_small c =
    let head = get_or c.args.row.now 0 (pos 0) in
    let f : FitsSigned w128 head = search rules in
    let above = is_above head (simp (to_z-of_z, f) at c.if-head-gt0.true) in
    let e = simp (to_z-of_z, f) at c.are_small.ensures in
    small_goes_on c.args.row.now above
    (subst (λ b. All (λ z. (z *ℤ z) ≤ℤ (head *ℤ size_limit)) b) (rest_is_beside c.args.row.now) (e.0 c.if-are_small.true))

pub returns-then-is_zero_row : goal.returns-then-is_zero_row
returns-then-is_zero_row c = zeros_go_on c.args.row.now (c.is_zero_row.ensures.0 c.if-is_zero_row.true)

pub returns-else-is_zero_row : goal.returns-else-is_zero_row
returns-else-is_zero_row c =
    let head = get_or c.args.row.now 0 (pos 0) in
    let f : FitsSigned w128 head = search rules in
    let low = simp (to_z-of_z, f) at c.if-head-gt0.false in
    simp (to_z-of_z, f)
    (low_stops c.args.row.now c.requires.some (λ above. not_above head low above) (λ zeros. false_is_not_true (sym c.if-is_zero_row.false ∙ c.is_zero_row.ensures.1 zeros)))

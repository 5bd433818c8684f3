use Rattle.std.proofs.Common.{◌≡◌, ◌+◌, ◌<◌, ◌≤◌, ℕ, zero, suc, FitsSigned, to_z, of_z, w32, length, rules, arith, refl, ap, sym, ◌∙◌, subst}
use Rattle.std.specs.Int.{w128}
use Rattle.std.specs.Prelude.{ℤ, pos, negsuc, unsigned_abs, slice_set, List}
use Rattle.std.proofs.lemmas.Int.{to_z-of_z}
use Rattle.log_check.specs.Writing.{Writes}
use Rattle.log_check.proofs.MoveLemmas.{writes_next}
use Rattle.log_check.proofs.moves.write_moves.Goals as goal

-- a number that isn't 0 has a size
some_size : (z : ℤ) → (of_z w128 z ≡ 0 → ⊥) → 0 < unsigned_abs z
some_size (pos zero) other = absurd (other refl)
some_size (pos (suc n)) other = omega arith
some_size (negsuc n) other = omega arith

pub pairs-preserved : goal.pairs-preserved
pairs-preserved c =
    let by = c.in-Some.by in
    let unknowns = length c.entries.result.now in
    let wide : FitsSigned w128 by = search rules in
    let same : to_z w128 (of_z w128 by) ≡ by = to_z-of_z w128 by wide in
    let small : unsigned_abs by ≤ 32768 = omega (arith, c.if-unsigned_abs-gt-MOST_MOVED.false, c.unsigned_abs.ensures.value, ap unsigned_abs same) in
    let narrow : FitsSigned w32 by = search rules in
    let put : to_z w32 (of_z w32 (to_z w128 (of_z w128 by))) ≡ by = ap (λ z. to_z w32 (of_z w32 z)) same ∙ to_z-of_z w32 by narrow in
    let at = c.pairs.invariant in
    let now = subst (λ (p : List (ℕ × ℤ)). Writes unknowns c.args.cut.now.pairs p c.pairs.least c.pairs.x) c.in-Some.ensures.steps at in
    subst (λ (x : List ℤ). Writes unknowns c.args.cut.now.pairs c.next.new.self (c.in-Some.unknown + 1) x)
    (sym (c.set.ensures ∙ ap (λ z. slice_set c.pairs.x c.in-Some.unknown z) put))
    (writes_next unknowns c.args.cut.now.pairs c.next.new.self (c.in-Some.unknown, by) c.pairs.least c.pairs.x
    c.if-unknown-least.false c.if-unknown-unknowns.false (some_size by c.if-by-eq0.false) small now)

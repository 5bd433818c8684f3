use Rattle.std.proofs.Common.{◌≡◌, ◌+◌, ◌≤◌, ◌^◌, ℕ, List, Vec, Global, refl, get_or, drop, ap, sym, ◌∙◌, ◌++◌, subst, arith, FitsSigned, w32, to_z, of_z}
use mir.Syntax.{w128}
use Rattle.std.specs.Prelude.{ℤ, pos, unsigned_abs}
use Rattle.std.proofs.lemmas.Int.{to_z-of_z, fits_signed_from_abs}
use Rattle.bound_log.specs.CutSpelling.{pair_text, pairs_text}
use Rattle.bound_log.specs.CutText.{moves_from}
use Rattle.bound_log.proofs.CutSpellLemmas.{Put, put_one}
use Rattle.bound_log.proofs.MoveLemmas.{next_moves, next_still}
use Rattle.bound_log.proofs.cut_line.put_moves.Goals as goal
use Rattle.bound_log.proofs.cut_line.put_moves.Goals.{then-by-ne0+in_ok-put_pair, else-by-ne0}

-- a number whose bits are 0
bits_zero : (z : ℤ) → unsigned_abs z ≤ 2 ^ 15 → of_z w32 z ≡ 0 → z ≡ pos 0
bits_zero z narrow is =
    let fits : FitsSigned w32 z = fits_signed_from_abs w32 z (omega (arith, narrow)) in
    sym (to_z-of_z w32 z fits) ∙ ap (to_z w32) is

-- a number that is read from 32 bits and written to 128
same_bits : (z : ℤ) → unsigned_abs z ≤ 2 ^ 15 → to_z w128 (of_z w128 (to_z w32 (of_z w32 z))) ≡ z
same_bits z narrow =
    let fits : FitsSigned w32 z = fits_signed_from_abs w32 z (omega (arith, narrow)) in
    let wide : FitsSigned w128 z = fits_signed_from_abs w128 z (omega (arith, narrow)) in
    ap (λ y. to_z w128 (of_z w128 y)) (to_z-of_z w32 z fits) ∙ to_z-of_z w128 z wide

zero_bits : (z : ℤ) → (of_z w32 z ≡ 0 → ⊥) → z ≡ pos 0 → ⊥
zero_bits z apart is = apart (ap (of_z w32) is)

pub loop-i-preserved : goal.loop-i-preserved
loop-i-preserved c =
    let x = c.entries-entries.result.now in
    let i = c.loop-i.i in
    let by = get_or x i (pos 0) in
    let narrow : unsigned_abs by ≤ 2 ^ 15 = subst (λ (entries : List ℤ). unsigned_abs (get_or entries i (pos 0)) ≤ 2 ^ 15) (sym c.entries-entries.ensures.value) (c.entries-entries.ensures.narrow i) in
    let old = c.args.out.now.items in
    let text = pairs_text (moves_from 0 x) in
    elim c.if-by-ne0.branch [
      | then-by-ne0+in_ok-put_pair w ↦
          let next = next_moves i x by c.loop-i-test.true refl (zero_bits by w.if-by-ne0.true) in
          let put = subst (λ (ps : List (ℕ × ℤ)). Put old text c.loop-i.out.items (pairs_text ps)) next c.loop-i.invariant in
          put_one old text c.loop-i.out.items (pair_text (i, by)) (pairs_text (moves_from (i + 1) (drop (i + 1) x))) c.if-by-ne0.out.items put
          (ap (λ (v : Vec ℕ Global). v.items) w.out-is ∙ w.in_ok-put_pair.ensures.put ∙ ap (λ v. c.loop-i.out.items ++ pair_text (i, v)) (same_bits by narrow))
      | else-by-ne0 w ↦
          let next = next_still i x c.loop-i-test.true (bits_zero by narrow w.if-by-ne0.false) in
          let put = subst (λ (ps : List (ℕ × ℤ)). Put old text c.loop-i.out.items (pairs_text ps)) next c.loop-i.invariant in
          subst (λ (now : List ℕ). Put old text now (pairs_text (moves_from (i + 1) (drop (i + 1) x)))) (sym (ap (λ (v : Vec ℕ Global). v.items) w.out-is)) put
    ]

use Rattle.std.proofs.Common.{◌∙◌, ◌+ℤ◌, ℤ, pos, get_or, to_z, w64, sym, ap}
use Rattle.std.proofs.lemmas.Int.{to_z-of_z}
use Rattle.geo_model.specs.declared.network.Component.TheVariants as component
use Rattle.design_rows.specs.declared.term.Term.{Term}
use Rattle.design_rows.specs.Equations.{term}
use Rattle.design_rows.proofs.EntryFacts.{coefficient-none}
use Rattle.design_rows.proofs.EntrySteps.{coefficient-elsewhere, coefficient-here, step}
use Rattle.design_rows.proofs.entries.coefficient_at.Goals as goal
use Rattle.design_rows.proofs.entries.coefficient_at.Goals.{then-is_same, else-is_same}

none : Term
none = term (pos 0) component.X 0

pub overflow_add-sum : goal.overflow_add-sum
unfolding none
overflow_add-sum c =
    let s = step (to_z w64 c.loop-term.sum-bits) c.args.terms.now c.args.wanted c.loop-term.term-index none c.loop-term.invariant c.requires c.loop-term-test.true in
    let f = s.size in
    simp to_z-of_z s.sum

pub loop-term-init : goal.loop-term-init
loop-term-init c = sym (coefficient-none c.args.wanted)

pub loop-term-preserved : goal.loop-term-preserved
unfolding none
loop-term-preserved c =
    let part = get_or c.args.terms.now c.loop-term.term-index none in
    let s = step (to_z w64 c.loop-term.sum-bits) c.args.terms.now c.args.wanted c.loop-term.term-index none c.loop-term.invariant c.requires c.loop-term-test.true in
    let f = s.size in
    let g = s.sum in
    elim c.if-is_same.branch [
      | then-is_same w ↦
          let here = coefficient-here c.args.terms.now c.args.wanted c.loop-term.term-index none c.loop-term-test.true (sym c.is_same.ensures ∙ w.if-is_same.true) in
          let is = simp to_z-of_z at w.sum-is in
          is ∙ ap (λ (t : ℤ). t +ℤ part.coefficient) c.loop-term.invariant ∙ sym here
      | else-is_same w ↦
          let elsewhere = coefficient-elsewhere c.args.terms.now c.args.wanted c.loop-term.term-index none c.loop-term-test.true (sym c.is_same.ensures ∙ w.if-is_same.false) in
          w.sum-is ∙ c.loop-term.invariant ∙ sym elsewhere
    ]

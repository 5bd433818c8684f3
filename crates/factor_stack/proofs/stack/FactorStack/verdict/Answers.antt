use Rattle.std.proofs.Common.{rules, length, get_or, pos, ◌∙◌, ap, arith, FitsSigned}
use Rattle.std.specs.Int.{w128}
use Rattle.std.proofs.lemmas.Int.{to_z-of_z}
use Rattle.pivot_chain.specs.Verdict.{verdict_of}
use Rattle.factor_stack.specs.Image.{ImageOf}
use Rattle.factor_stack.specs.Stack.{StackOf}
use Rattle.factor_stack.proofs.Verdicts.{held_told, met_told, refuted_told, open_told, stop_range}
use Rattle.factor_stack.proofs.stack.FactorStack.verdict.Goals as goal

pub returns-in_default : goal.returns-in_default
returns-in_default c = record {
  exact = λ network limit bounds is found.
      let e = ap (λ (v : StackOf). v.now) c.self.view_is in
      met_told network limit c.self.inside.held (held_told network limit c.self.inside.held c.args.self.now.now e (is.now limit found)) c.in_default.is
      ∙ ap (λ (i : ImageOf). verdict_of network i.plan limit) e;
}

pub returns-in-Some-stop : goal.returns-in-Some-stop
returns-in-Some-stop c = record {
  exact = λ network limit bounds is found.
      let e = ap (λ (v : StackOf). v.now) c.self.view_is in
      refuted_told network limit c.self.inside.held c.in-Some.low c.in-Some-stop._high (held_told network limit c.self.inside.held c.args.self.now.now e (is.now limit found)) c.in-Some.is c.in-Some-stop.is
      ∙ ap (λ (i : ImageOf). verdict_of network i.plan limit) e;
}

pub returns-in-None : goal.returns-in-None
returns-in-None c = record {
  exact = λ network limit bounds is found.
      let f : FitsSigned w128 c.in-Some.low.value = search rules in
      let g : FitsSigned w128 (get_or c.row.result.now 0 (pos 0)) = search rules in
      let e = ap (λ (v : StackOf). v.now) c.self.view_is in
      let lower = c.self.invariant.held_rows.lower in
      let upper = c.self.invariant.held_rows.upper in
      let range = stop_range (length c.self.inside.grid.order) c.self.inside.held.factors.lower c.in-Some.low lower c.in-Some.is in
      let high = range.1 in
      let places = upper.places in
      simp (to_z-of_z, f, g)
      (open_told network limit c.self.inside.held c.in-Some.low c.row.result.now (held_told network limit c.self.inside.held c.args.self.now.now e (is.now limit found)) c.in-Some.is c.in-None.is c.row.ensures.value (omega arith)
      ∙ ap (λ (i : ImageOf). verdict_of network i.plan limit) e);
}

use Rattle.std.proofs.Common.{ℕ, ◌≤◌, ℤ, List, refl, ◌∙◌, ap, length, take, arith}
use Rattle.std.proofs.lemmas.Grind.{common_steps}
use Rattle.lent_parts.proofs.Triangles.{taken_out, IsKeptTriangle-refilled, long_row, row_given, rows_kept}
use Rattle.lent_parts.proofs.tri.Tri.rows_before.Goals as goal

at_most : (k : ℕ) (rows : List (List ℤ)) → length rows ≤ 64 → length (take k rows) ≤ 64
at_most k rows few = grind (arith, common_steps)

pub of-before-requires : goal.of-before-requires
of-before-requires c = at_most c.args.k c.deref.result.now (let few = c.self.invariant.few in let len = c.exchange.ensures.len in let same = ap length c.deref.ensures.value in omega arith)

pub invariant_of-self-lent : goal.invariant_of-self-lent
invariant_of-self-lent c =
    let out = taken_out c.self.inside.rows.items c.self.inside.at c.self.inside.held c.args.self.now c.exchange.new.rows.items c.args.k c.exchange.new.held
    c.self.invariant c.self.view_is c.requires c.exchange.ensures.held c.exchange.ensures.rows c.exchange.ensures.len in
    IsKeptTriangle-refilled out

pub returns : goal.returns
returns c =
    let out = taken_out c.self.inside.rows.items c.self.inside.at c.self.inside.held c.args.self.now c.exchange.new.rows.items c.args.k c.exchange.new.held
    c.self.invariant c.self.view_is c.requires c.exchange.ensures.held c.exchange.ensures.rows c.exchange.ensures.len in
    let lent = c.entries_mut.ensures.value in (
      (refl, row_given out),
      record { writes_back = tt; before = c.of-before.ensures ∙ (ap (take c.args.k) c.deref.ensures.value ∙ rows_kept out); value = lent ∙ out.row; places = ap length lent ∙ long_row out; shape = out.shape },
    )

use Rattle.std.proofs.Common.{rules, length, ◌∙◌, ap, arith}
use Rattle.std.proofs.lemmas.Grind.{common_steps}
use Rattle.lent_parts.proofs.Triangles.{kept_shape, length-tri_row}
use Rattle.lent_parts.proofs.tri.Tri.row.Goals as goal

pub returns-then-place-self-clause-value : goal.returns-then-place-self-clause-value
returns-then-place-self-clause-value c = search rules

pub returns-else-place-self-clause-value : goal.returns-else-place-self-clause-value
returns-else-place-self-clause-value c = grind (arith, common_steps)

pub returns-then-place-self-clause-shape : goal.returns-then-place-self-clause-shape
returns-then-place-self-clause-shape c = kept_shape c.self.inside.rows.items c.self.inside.at c.self.inside.held c.args.self.now c.self.invariant c.self.view_is

pub returns-then-place-self-clause-places : goal.returns-then-place-self-clause-places
returns-then-place-self-clause-places c =
    ap length (returns-then-place-self-clause-value c)
    ∙ length-tri_row (length c.args.self.now) c.args.self.now c.args.k (returns-then-place-self-clause-shape c) c.requires

pub returns-else-place-self-clause-shape : goal.returns-else-place-self-clause-shape
returns-else-place-self-clause-shape c = kept_shape c.self.inside.rows.items c.self.inside.at c.self.inside.held c.args.self.now c.self.invariant c.self.view_is

pub returns-else-place-self-clause-places : goal.returns-else-place-self-clause-places
returns-else-place-self-clause-places c =
    ap length (returns-else-place-self-clause-value c)
    ∙ length-tri_row (length c.args.self.now) c.args.self.now c.args.k (returns-else-place-self-clause-shape c) c.requires

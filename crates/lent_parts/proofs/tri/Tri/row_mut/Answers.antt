use Rattle.std.proofs.Common.{refl, ◌∙◌, ap, length}
use Rattle.lent_parts.proofs.Triangles.{taken_out, IsKeptTriangle-refilled, long_row, row_given}
use Rattle.lent_parts.proofs.tri.Tri.row_mut.Goals as goal

pub invariant_of-self-lent : goal.invariant_of-self-lent
invariant_of-self-lent c =
    let out = taken_out c.self.inside.rows.items c.self.inside.at c.self.inside.held c.args.self.now c.exchange.new.rows.items c.args.k c.exchange.new.held
    c.self.invariant c.self.view_is c.requires c.exchange.ensures.held c.exchange.ensures.rows c.exchange.ensures.len in
    IsKeptTriangle-refilled out

pub returns : goal.returns
returns c =
    let out = taken_out c.self.inside.rows.items c.self.inside.at c.self.inside.held c.args.self.now c.exchange.new.rows.items c.args.k c.exchange.new.held
    c.self.invariant c.self.view_is c.requires c.exchange.ensures.held c.exchange.ensures.rows c.exchange.ensures.len in
    let lent = c.entries_mut.ensures.value in (
      (refl, row_given out),
      record { writes_back = tt; value = lent ∙ out.row; places = ap length lent ∙ long_row out; shape = out.shape },
    )

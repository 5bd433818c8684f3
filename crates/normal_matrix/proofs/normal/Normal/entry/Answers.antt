use Rattle.std.proofs.Common.{rules, ◌≡◌, FitsSigned, ap}
use mir.Syntax.{w128}
use Rattle.std.proofs.lemmas.Int.{to_z-of_z}
use Rattle.normal_matrix.specs.Normal.{NormalOf}
use Rattle.normal_matrix.proofs.PlanSteps.{exact_entry}
use Rattle.normal_matrix.proofs.normal.Normal.entry.Goals as goal

pub returns : goal.returns
returns c network made =
    let rows : c.self.inside.sums ≡ c.args.self.now.rows = ap (λ (v : NormalOf). v.rows) c.self.view_is in
    let fits : FitsSigned w128 c.entry_of.result = search rules in
    simp to_z-of_z (exact_entry network c.args.self.now c.self.inside.sums c.args.i c.args.j c.entry_of.result made rows c.requires.row c.requires.column c.entry_of.ensures.upper c.entry_of.ensures.lower)

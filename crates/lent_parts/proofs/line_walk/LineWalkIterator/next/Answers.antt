use Rattle.std.proofs.Common.{rules, [], ◌∷◌, length, ap, sym, ◌∙◌}
use Rattle.std.specs.List.{slice_split}
use Rattle.std.specs.Option.{option_map_or}
use Rattle.lent_parts.specs.Pieces.{is_line_feed}
use Rattle.lent_parts.proofs.PieceLemmas.{first_line}
use Rattle.lent_parts.proofs.line_walk.LineWalkIterator.next.Goals as goal

pub returns-in-Some-clause-steps : goal.returns-in-Some-clause-steps
returns-in-Some-clause-steps c =
    sym c.self.view_is
    ∙ first_line c.self.inside.rest.now c.split_first_piece.result.0.now c.in-Some.after.now
    (c.split_first_piece.ensures.pieces
    ∙ ap (λ after. c.split_first_piece.result.0.now ∷ option_map_or (λ rest. slice_split is_line_feed rest.now) after []) c.in-Some.is)

pub returns-in-Some-clause-goes : goal.returns-in-Some-clause-goes
returns-in-Some-clause-goes c =
    let step = returns-in-Some-clause-steps c in
    let fewer = ap length step in
    search rules

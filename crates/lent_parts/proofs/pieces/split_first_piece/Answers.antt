use Rattle.std.proofs.Common.{rules}
use Rattle.std.proofs.lemmas.List.{take_rest}
use Rattle.lent_parts.proofs.PieceLemmas.{split_here, split_nowhere}
use Rattle.lent_parts.proofs.pieces.split_first_piece.Goals as goal

pub returns-in-Some-clause-pieces : goal.returns-in-Some-clause-pieces
returns-in-Some-clause-pieces c =
    rw take_rest (split_here c.args.byte c.args.text.now c.in-Some.at (search rules) (search rules) (search rules))

pub returns-in-None-clause-pieces : goal.returns-in-None-clause-pieces
returns-in-None-clause-pieces c = split_nowhere c.args.byte c.args.text.now (search rules)

use Rattle.std.proofs.lemmas.Bool.{iff_false}
use Rattle.bound_log.proofs.NumberLemmas.{no_leading_zero, no_number, number_read}
use Rattle.bound_log.proofs.number.read_number.Goals as goal

pub returns-then-has_leading_zero-clause-none : goal.returns-then-has_leading_zero-clause-none
returns-then-has_leading_zero-clause-none c = no_leading_zero c.args.text.now (c.has_leading_zero.ensures.0 c.if-has_leading_zero.true)

pub returns-clause-some : goal.returns-clause-some
returns-clause-some c =
    number_read c.args.text.now c.read_digits.result c.read_digits.ensures.read (iff_false c.has_leading_zero.ensures c.if-has_leading_zero.false)

pub returns-clause-none : goal.returns-clause-none
returns-clause-none c = no_number c.args.text.now c.read_digits.result c.read_digits.ensures.none

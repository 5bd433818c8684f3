use Rattle.std.proofs.Common.{sym, ap, ◌∙◌}
use Rattle.std.specs.Prelude.{pos, neg_ℤ}
use Rattle.std.specs.Option.{option_map}
use Rattle.text_num.proofs.Reading.{unsigned_room, decimal_of-empty, decimal_of-minus, decimal_of-plus, decimal_of-unsigned, answer-read, answer-none, answer-size}
use Rattle.text_num.proofs.read.read_decimal.Goals as goal

pub returns-in_default-clause-value : goal.returns-in_default-clause-value
returns-in_default-clause-value c = decimal_of-empty c.args.places c.args.text.now c.in_default.ensures.cases

pub returns-in_default-clause-none : goal.returns-in_default-clause-none
returns-in_default-clause-none c = answer-none c.args.places c.args.text.now _ (returns-in_default-clause-value c)

pub negated-requires : goal.negated-requires
negated-requires c n is = unsigned_room c.args.places n c.in-Some.rest.now c.requires (sym c.read_unsigned.ensures ∙ is)

pub signed-requires : goal.signed-requires
signed-requires c n is = unsigned_room c.args.places n c.in-Some.rest.now c.requires (sym c.read_unsigned-then-first-eq43.ensures ∙ is)

pub signed-requires-else-first-eq43 : goal.signed-requires-else-first-eq43
signed-requires-else-first-eq43 c n is = unsigned_room c.args.places n c.args.text.now c.requires (sym c.read_unsigned-else-first-eq43.ensures ∙ is)

pub returns-then-first-eq45-clause-value : goal.returns-then-first-eq45-clause-value
returns-then-first-eq45-clause-value c =
    c.negated.ensures ∙ ap (option_map (λ n. neg_ℤ (pos n))) c.read_unsigned.ensures
    ∙ decimal_of-minus c.args.places c.in-Some.first.now c.args.text.now c.in-Some.rest.now c.in-Some.ensures.cases.0 c.if-first-eq45.true

pub returns-then-first-eq43-clause-value : goal.returns-then-first-eq43-clause-value
returns-then-first-eq43-clause-value c =
    c.signed.ensures ∙ ap (option_map pos) c.read_unsigned-then-first-eq43.ensures
    ∙ decimal_of-plus c.args.places c.in-Some.first.now c.args.text.now c.in-Some.rest.now c.in-Some.ensures.cases.0 c.if-first-eq45.false c.if-first-eq43.true

pub returns-else-first-eq43-clause-value : goal.returns-else-first-eq43-clause-value
returns-else-first-eq43-clause-value c =
    c.signed-else-first-eq43.ensures ∙ ap (option_map pos) c.read_unsigned-else-first-eq43.ensures
    ∙ decimal_of-unsigned c.args.places c.in-Some.first.now c.args.text.now c.in-Some.rest.now c.in-Some.ensures.cases.0 c.if-first-eq45.false c.if-first-eq43.false

pub returns-then-first-eq45-clause-read : goal.returns-then-first-eq45-clause-read
returns-then-first-eq45-clause-read c = answer-read c.args.places c.args.text.now c.negated.result (returns-then-first-eq45-clause-value c)

pub returns-then-first-eq45-clause-none : goal.returns-then-first-eq45-clause-none
returns-then-first-eq45-clause-none c = answer-none c.args.places c.args.text.now c.negated.result (returns-then-first-eq45-clause-value c)

pub returns-then-first-eq45-clause-size : goal.returns-then-first-eq45-clause-size
returns-then-first-eq45-clause-size c = answer-size c.args.places c.args.text.now c.negated.result (returns-then-first-eq45-clause-value c)

pub returns-then-first-eq43-clause-read : goal.returns-then-first-eq43-clause-read
returns-then-first-eq43-clause-read c = answer-read c.args.places c.args.text.now c.signed.result (returns-then-first-eq43-clause-value c)

pub returns-then-first-eq43-clause-none : goal.returns-then-first-eq43-clause-none
returns-then-first-eq43-clause-none c = answer-none c.args.places c.args.text.now c.signed.result (returns-then-first-eq43-clause-value c)

pub returns-then-first-eq43-clause-size : goal.returns-then-first-eq43-clause-size
returns-then-first-eq43-clause-size c = answer-size c.args.places c.args.text.now c.signed.result (returns-then-first-eq43-clause-value c)

pub returns-else-first-eq43-clause-read : goal.returns-else-first-eq43-clause-read
returns-else-first-eq43-clause-read c = answer-read c.args.places c.args.text.now c.signed-else-first-eq43.result (returns-else-first-eq43-clause-value c)

pub returns-else-first-eq43-clause-none : goal.returns-else-first-eq43-clause-none
returns-else-first-eq43-clause-none c = answer-none c.args.places c.args.text.now c.signed-else-first-eq43.result (returns-else-first-eq43-clause-value c)

pub returns-else-first-eq43-clause-size : goal.returns-else-first-eq43-clause-size
returns-else-first-eq43-clause-size c = answer-size c.args.places c.args.text.now c.signed-else-first-eq43.result (returns-else-first-eq43-clause-value c)

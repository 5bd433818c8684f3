use Rattle.lent_parts.specs.Pieces.{words_of}
use Rattle.bound_log.specs.Reading.{words_in}
use Rattle.bound_log.proofs.UseLemmas.{use_kind}
use Rattle.bound_log.proofs.ItemLemmas.{items_spelled, left_words, no_head}
use Rattle.bound_log.proofs.next_uses.next_use_dual.Goals as goal

pub of-requires : goal.of-requires
of-requires c =
    (items_spelled use_kind c.in-Some-next_number.count (words_of c.next_number-2.new.words) (words_in c.rest-spelled.result.now) (words_of c.take_uses.new.words)
    (left_words c.next_number-2.new.words (words_in c.rest-spelled.result.now) c.rest-spelled.ensures.some) (c.take_uses.ensures.taken c.if-take_uses.true)).0

pub returns-else-take_uses-clause-none : goal.returns-else-take_uses-clause-none
returns-else-take_uses-clause-none c = λ divisor uses after begins.
    no_head use_kind (words_of c.args.words.now) (words_of c.next_number.new.words) (words_of c.next_number-2.new.words) c.in-Some.ensures.some.0 c.in-Some-next_number.ensures.some.0
    c.in-Some.divisor c.in-Some-next_number.count c.in-Some.ensures.some.1 c.in-Some.ensures.some.2 c.in-Some-next_number.ensures.some.1 c.in-Some-next_number.ensures.some.2
    (c.take_uses.ensures.missing c.if-take_uses.false) divisor uses after (record { spelled = begins.spelled; short = begins.short })

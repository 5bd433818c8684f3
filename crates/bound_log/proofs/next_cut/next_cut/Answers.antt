use Rattle.bound_log.specs.Reading.{words_in}
use Rattle.lent_parts.specs.Pieces.{words_of}
use Rattle.bound_log.proofs.CutLemmas.{pair_kind}
use Rattle.bound_log.proofs.ItemLemmas.{items_spelled, left_words, no_head}
use Rattle.bound_log.proofs.next_cut.next_cut.Goals as goal

pub of-requires : goal.of-requires
of-requires c =
    (items_spelled pair_kind c.in-Some-next_number.count (words_of c.next_number-2.new.words) (words_in c.rest-spelled.result.now) (words_of c.take_pairs.new.words)
    (left_words c.next_number-2.new.words (words_in c.rest-spelled.result.now) c.rest-spelled.ensures.some) (c.take_pairs.ensures.taken c.if-take_pairs.true)).0

pub returns-else-take_pairs-clause-none : goal.returns-else-take_pairs-clause-none
returns-else-take_pairs-clause-none c = λ cut after begins.
    no_head pair_kind (words_of c.args.words.now) (words_of c.next_number.new.words) (words_of c.next_number-2.new.words) c.in-Some.ensures.some.0 c.in-Some-next_number.ensures.some.0
    c.in-Some.limit c.in-Some-next_number.count c.in-Some.ensures.some.1 c.in-Some.ensures.some.2 c.in-Some-next_number.ensures.some.1 c.in-Some-next_number.ensures.some.2
    (c.take_pairs.ensures.missing c.if-take_pairs.false) cut.limit cut.pairs after (record { spelled = begins.spelled; short = begins.short })

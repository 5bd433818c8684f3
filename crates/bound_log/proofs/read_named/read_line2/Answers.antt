use Rattle.std.proofs.Common.{[], ◌++◌, ap, sym, ◌∙◌, subst}
use Rattle.lent_parts.specs.Pieces.{words_of}
use Rattle.bound_log.specs.NamedText.{NamedBegins, named_words}
use Rattle.bound_log.proofs.NamedLemmas.{begins_of_named, more_named_words, named_of_words, words_of_named}
use Rattle.bound_log.proofs.read_named.read_line2.Goals as goal

pub returns-in_default-clause-none : goal.returns-in_default-clause-none
returns-in_default-clause-none c = λ other is.
    c.in_default.ensures.none other []
    (subst (λ left. NamedBegins (words_of left) other []) (sym c.tokens-words.ensures) (begins_of_named c.args.line.now other is))

pub returns-in-None-clause-some : goal.returns-in-None-clause-some
returns-in-None-clause-some c =
    let after = words_of c.read_named_words.new.words in
    named_of_words c.args.line.now c.in-Some.read after
    (subst (λ left. NamedBegins (words_of left) c.in-Some.read after) c.tokens-words.ensures c.in-Some.ensures.some)
    (ap words_of c.in-None.ensures.steps.0)

pub returns-in-Some-next-clause-none : goal.returns-in-Some-next-clause-none
returns-in-Some-next-clause-none c = λ other is.
    let read = c.in-Some.read in
    let word = c.in-Some-next.field-0.text.now in
    more_named_words read other word (words_of c.next.new.self) c.in-Some.ensures.some.numbers is.numbers
    (ap (λ after. named_words read ++ after) (sym (ap words_of c.in-Some-next.ensures.steps))
    ∙ sym c.in-Some.ensures.some.spelled
    ∙ ap words_of c.tokens-words.ensures
    ∙ words_of_named c.args.line.now other is)

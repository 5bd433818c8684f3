use Rattle.std.proofs.Common.{[], ap, sym, ◌∙◌}
use Rattle.std.specs.Prelude.{map}
use Rattle.std.specs.Option.{option_map_or}
use Rattle.lent_parts.specs.Pieces.{tokens_from}
use Rattle.lent_parts.proofs.PieceLemmas.{tokens_from-some, tokens_from-texts}
use Rattle.lent_parts.proofs.token_walk.TokenWalk.rest.Goals as goal

pub returns-in-Some-clause-some : goal.returns-in-Some-clause-some
returns-in-Some-clause-some c = λ some.
    let view = sym c.self.view_is ∙ ap (λ o. option_map_or (λ rest. tokens_from c.self.inside.start rest.now) o []) c.in-Some.is in
    ap (λ tokens. map (λ token. token.text) tokens) view ∙ tokens_from-texts c.self.inside.start c.in-Some.rest.now

pub returns-in-Some-clause-none : goal.returns-in-Some-clause-none
returns-in-Some-clause-none c = λ none.
    let view = sym c.self.view_is ∙ ap (λ o. option_map_or (λ rest. tokens_from c.self.inside.start rest.now) o []) c.in-Some.is in
    absurd (tokens_from-some c.self.inside.start c.in-Some.rest.now (sym view ∙ none))

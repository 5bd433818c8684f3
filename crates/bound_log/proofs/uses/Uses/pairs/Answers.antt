use Rattle.std.proofs.Common.{List, ℕ, ap, sym, ◌∙◌, subst}
use Rattle.lent_parts.proofs.PieceLemmas.{tokens_of-texts}
use Rattle.bound_log.specs.UseReading.{CanReadUses, uses_in}
use Rattle.lent_parts.specs.Pieces.{words_of}
use Rattle.bound_log.proofs.uses.Uses.pairs.Goals as goal

pub invariant_of-result : goal.invariant_of-result
invariant_of-result c =
    let words = ap words_of c.tokens.ensures ∙ tokens_of-texts c.self.inside.spelled.now in
    subst (λ (w : List (List ℕ)). CanReadUses c.self.inside.count w) (sym words) c.self.invariant

pub returns : goal.returns
returns c =
    let words = ap words_of c.tokens.ensures ∙ tokens_of-texts c.self.inside.spelled.now in
    ap (uses_in c.self.inside.count) words ∙ c.self.view_is

use Rattle.std.proofs.Common.{List, ℕ, ap, sym, ◌∙◌, subst}
use Rattle.lent_parts.proofs.PieceLemmas.{tokens_of-texts}
use Rattle.bound_log.specs.CutReading.{CanRead, pairs_in}
use Rattle.lent_parts.specs.Pieces.{words_of}
use Rattle.bound_log.specs.CutText.{CutTextOf}
use Rattle.bound_log.proofs.cut_text.CutText.pairs.Goals as goal

pub invariant_of-result : goal.invariant_of-result
invariant_of-result c =
    let words = ap words_of c.tokens.ensures ∙ tokens_of-texts c.self.inside.spelled.now in
    subst (λ (w : List (List ℕ)). CanRead c.self.inside.count w) (sym words) c.self.invariant

pub returns : goal.returns
returns c =
    let words = ap words_of c.tokens.ensures ∙ tokens_of-texts c.self.inside.spelled.now in
    ap (pairs_in c.self.inside.count) words ∙ ap (λ (cut : CutTextOf). cut.pairs) c.self.view_is

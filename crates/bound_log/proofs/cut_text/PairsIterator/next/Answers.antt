use Rattle.std.proofs.Common.{◌-◌, List, ℕ, subst}
use Rattle.std.specs.Prelude.{ℤ}
use Rattle.std.specs.Iterator.{YieldsFirst}
use Rattle.bound_log.specs.CutReading.{pairs_in}
use Rattle.lent_parts.specs.Pieces.{words_of}
use Rattle.bound_log.proofs.CutLemmas.{pair_kind}
use Rattle.bound_log.proofs.ItemLemmas.{next_reads}
use Rattle.bound_log.proofs.cut_text.PairsIterator.next.Goals as goal

pub invariant_of-self : goal.invariant_of-self
invariant_of-self c =
    (next_reads pair_kind c.self.inside.left (words_of c.self.inside.words) (words_of c.next_pair.new.words) c.next_pair.result c.if-self-eq0.false c.self.invariant c.next_pair.ensures.some c.next_pair.ensures.none).reads

pub returns-clause-steps : goal.returns-clause-steps
returns-clause-steps c =
    let next = next_reads pair_kind c.self.inside.left (words_of c.self.inside.words) (words_of c.next_pair.new.words) c.next_pair.result c.if-self-eq0.false c.self.invariant c.next_pair.ensures.some c.next_pair.ensures.none in
    subst (λ (s : List (ℕ × ℤ)). YieldsFirst {S = List (ℕ × ℤ)} {A = ℕ × ℤ} (λ pairs. pairs) s c.next_pair.result (pairs_in (c.self.inside.left - 1) (words_of c.next_pair.new.words))) c.self.view_is next.steps

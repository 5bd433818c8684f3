use Rattle.std.proofs.Common.{◌-◌, List, ℕ, subst}
use Rattle.std.specs.Iterator.{YieldsFirst}
use Rattle.bound_log.specs.UseReading.{uses_in}
use Rattle.lent_parts.specs.Pieces.{words_of}
use Rattle.bound_log.proofs.UseLemmas.{use_kind}
use Rattle.bound_log.proofs.ItemLemmas.{next_reads}
use Rattle.bound_log.proofs.uses.UsePairsIterator.next.Goals as goal

pub invariant_of-self : goal.invariant_of-self
invariant_of-self c =
    (next_reads use_kind c.self.inside.left (words_of c.self.inside.words) (words_of c.next_use.new.words) c.next_use.result c.if-self-eq0.false c.self.invariant c.next_use.ensures.some c.next_use.ensures.none).reads

pub returns-clause-steps : goal.returns-clause-steps
returns-clause-steps c =
    let next = next_reads use_kind c.self.inside.left (words_of c.self.inside.words) (words_of c.next_use.new.words) c.next_use.result c.if-self-eq0.false c.self.invariant c.next_use.ensures.some c.next_use.ensures.none in
    subst (λ (s : List (ℕ × ℕ)). YieldsFirst {S = List (ℕ × ℕ)} {A = ℕ × ℕ} (λ uses. uses) s c.next_use.result (uses_in (c.self.inside.left - 1) (words_of c.next_use.new.words))) c.self.view_is next.steps

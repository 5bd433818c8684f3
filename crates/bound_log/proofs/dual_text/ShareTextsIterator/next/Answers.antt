use Rattle.std.proofs.Common.{◌≡◌, ◌-◌, ◌<◌, List, ◌∷◌, length, Option, Some, None, ℕ, arith, ap, subst}
use Rattle.bound_log.specs.CutText.{CutTextOf}
use Rattle.std.specs.Iterator.{MakesProgress, YieldsFirst, item_count}
use Rattle.bound_log.specs.DualReading.{shares_in}
use Rattle.lent_parts.specs.Pieces.{words_of}
use Rattle.bound_log.proofs.DualLemmas.{share_kind}
use Rattle.bound_log.proofs.ItemLemmas.{next_reads}
use Rattle.bound_log.proofs.dual_text.ShareTextsIterator.next.Goals as goal

pub invariant_of-self : goal.invariant_of-self
invariant_of-self c =
    (next_reads share_kind c.self.inside.left (words_of c.self.inside.words) (words_of c.next_share.new.words) c.next_share.result c.if-self-eq0.false c.self.invariant c.next_share.ensures.some c.next_share.ensures.none).reads

pub returns-clause-steps : goal.returns-clause-steps
returns-clause-steps c =
    let next = next_reads share_kind c.self.inside.left (words_of c.self.inside.words) (words_of c.next_share.new.words) c.next_share.result c.if-self-eq0.false c.self.invariant c.next_share.ensures.some c.next_share.ensures.none in
    subst (λ (s : List (ℕ × CutTextOf)). YieldsFirst {S = List (ℕ × CutTextOf)} {A = ℕ × CutTextOf} (λ shares. shares) s c.next_share.result (shares_in (c.self.inside.left - 1) (words_of c.next_share.new.words))) c.self.view_is next.steps

-- what gives its first item leaves fewer
progress : {A : Type 0} (s t : List A) (r : Option A) → YieldsFirst (λ (xs : List A). xs) s r t → MakesProgress (λ _. Unit {0}) (item_count (λ (xs : List A). xs)) s r t
progress s t None steps = record { on = λ _. tt; keeps = tt; rests = λ _. tt }
progress s t (Some x) steps =
    let long : length s ≡ length (x ∷ t) = ap length steps in
    let fewer : length t < length s = omega (arith, long) in
    record { on = λ _. (tt, tt, fewer); keeps = tt; rests = λ _. tt }

pub returns-clause-goes : goal.returns-clause-goes
returns-clause-goes c = progress c.args.self.now (shares_in (c.self.inside.left - 1) (words_of c.next_share.new.words)) c.next_share.result (returns-clause-steps c)

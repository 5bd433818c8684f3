use Rattle.std.proofs.Common.{ℕ, arith, ◌≤◌, ◌≡◌}
use Rattle.lent_parts.specs.Pieces.{words_of}
use Rattle.bound_log.proofs.UseLemmas.{use_kind}
use Rattle.bound_log.proofs.ItemLemmas.{took_all, took_missing, took_one}
use Rattle.bound_log.proofs.next_uses.take_uses.Goals as goal

pub returns-in_default-clause-missing : goal.returns-in_default-clause-missing
returns-in_default-clause-missing c = λ no. took_missing use_kind c.args.count c.uses.left (words_of c.args.words.now) (words_of c.uses.words) c.uses-test.true c.uses.invariant c.in_default.ensures.none

pub uses-preserved : goal.uses-preserved
uses-preserved c =
    took_one use_kind c.args.count c.uses.left (words_of c.args.words.now) (words_of c.uses.words) (words_of c.next_use.new.words) c.in-Some._one c.uses-test.true c.uses.invariant c.in-Some.ensures.some

none_left : (n : ℕ) → n ≤ 0 → n ≡ 0
none_left n low = omega arith

pub returns-clause-taken : goal.returns-clause-taken
returns-clause-taken c = λ yes. took_all use_kind c.args.count c.uses.left (words_of c.args.words.now) (words_of c.uses.words) (none_left c.uses.left c.uses-test.false) c.uses.invariant

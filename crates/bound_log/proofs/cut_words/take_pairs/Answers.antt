use Rattle.std.proofs.Common.{ℕ, arith, ◌≤◌, ◌≡◌}
use Rattle.lent_parts.specs.Pieces.{words_of}
use Rattle.bound_log.proofs.CutLemmas.{pair_kind}
use Rattle.bound_log.proofs.ItemLemmas.{took_all, took_missing, took_one}
use Rattle.bound_log.proofs.cut_words.take_pairs.Goals as goal

pub returns-in_default-clause-missing : goal.returns-in_default-clause-missing
returns-in_default-clause-missing c = λ no. took_missing pair_kind c.args.count c.pairs.left (words_of c.args.words.now) (words_of c.pairs.words) c.pairs-test.true c.pairs.invariant c.in_default.ensures.none

pub pairs-preserved : goal.pairs-preserved
pairs-preserved c =
    took_one pair_kind c.args.count c.pairs.left (words_of c.args.words.now) (words_of c.pairs.words) (words_of c.next_pair.new.words) c.in-Some._pair c.pairs-test.true c.pairs.invariant c.in-Some.ensures.some

none_left : (n : ℕ) → n ≤ 0 → n ≡ 0
none_left n low = omega arith

pub returns-clause-taken : goal.returns-clause-taken
returns-clause-taken c = λ yes. took_all pair_kind c.args.count c.pairs.left (words_of c.args.words.now) (words_of c.pairs.words) (none_left c.pairs.left c.pairs-test.false) c.pairs.invariant

use Rattle.std.proofs.Common.{ℕ, arith, ◌≤◌, ◌≡◌}
use Rattle.lent_parts.specs.Pieces.{words_of}
use Rattle.bound_log.proofs.DualLemmas.{share_kind}
use Rattle.bound_log.proofs.ItemLemmas.{took_all, took_missing, took_one}
use Rattle.bound_log.proofs.next_dual.take_shares.Goals as goal

pub returns-in_default-clause-missing : goal.returns-in_default-clause-missing
returns-in_default-clause-missing c = λ no. took_missing share_kind c.args.count c.shares.left (words_of c.args.words.now) (words_of c.shares.words) c.shares-test.true c.shares.invariant c.in_default.ensures.none

pub shares-preserved : goal.shares-preserved
shares-preserved c =
    took_one share_kind c.args.count c.shares.left (words_of c.args.words.now) (words_of c.shares.words) (words_of c.next_share.new.words) c.in-Some._share c.shares-test.true c.shares.invariant c.in-Some.ensures.some

none_left : (n : ℕ) → n ≤ 0 → n ≡ 0
none_left n low = omega arith

pub returns-clause-taken : goal.returns-clause-taken
returns-clause-taken c = λ yes. took_all share_kind c.args.count c.shares.left (words_of c.args.words.now) (words_of c.shares.words) (none_left c.shares.left c.shares-test.false) c.shares.invariant

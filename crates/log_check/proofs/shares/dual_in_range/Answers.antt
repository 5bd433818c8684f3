use Rattle.std.proofs.Common.{◌∙◌, ◌≤◌, length, arith, sym}
use Rattle.std.proofs.lemmas.Bool.{le-leb}
use Rattle.log_check.proofs.ShareLemmas.{shares_decide}
use Rattle.log_check.proofs.shares.dual_in_range.Goals as goal

pub returns-clause-are : goal.returns-clause-are
returns-clause-are c =
    let few : length c.args.shares.now ≤ 64 = omega (arith, c.count.ensures, c.if-count-gt-MOST_SHARES.false) in
    c.shares_in_range.ensures.are ∙ sym (shares_decide c.args.network.now c.args.divisor c.args.shares.now (sym c.if-not-is_weight.ensures) (le-leb (length c.args.shares.now) 64 few))

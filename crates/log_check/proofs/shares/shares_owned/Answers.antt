use Rattle.std.proofs.Common.{◌∙◌, ℕ, ap, sym}
use Rattle.std.specs.List.{list_all}
use Rattle.bound_log.specs.CutText.{CutTextOf}
use Rattle.log_check.specs.Weighing.{is_owned_at}
use Rattle.log_check.proofs.ShareLemmas.{fails_at, owners_are}
use Rattle.log_check.proofs.shares.shares_owned.Goals as goal

pub returns-then-not-is_owned_at : goal.returns-then-not-is_owned_at
returns-then-not-is_owned_at c =
    let network = c.args.network.now in
    let node = c.args.node.now in
    let test = λ (share : ℕ × CutTextOf). is_owned_at network node share.1.limit in
    sym (owners_are network node c.args.divisor c.args.shares.now
    ∙ fails_at test c.args.shares.now c.next.new.self (c.in-Some.field-0-0, c.in-Some.cut)
    (c.shares.invariant ∙ ap (list_all test) c.in-Some.ensures.steps)
    (sym (c.if-not-is_owned_at.ensures ∙ ap (is_owned_at network node) c.limit.ensures)))

pub returns : goal.returns
returns c =
    let network = c.args.network.now in
    let node = c.args.node.now in
    let test = λ (share : ℕ × CutTextOf). is_owned_at network node share.1.limit in
    sym (owners_are network node c.args.divisor c.args.shares.now ∙ c.shares.invariant ∙ ap (list_all test) c.in_default.ensures.steps.0)

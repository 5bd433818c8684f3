use Rattle.std.proofs.Common.{◌&&◌, ◌<◌, ◌≤◌, length, arith, ap, sym, ◌∙◌}
use Rattle.std.specs.Prelude.{ℕ}
use Rattle.std.specs.List.{list_all}
use Rattle.std.proofs.lemmas.Bool.{le-leb}
use Rattle.bound_log.specs.Rules.{are_few, is_weight}
use Rattle.log_check.specs.Naming.{is_use_in_range}
use Rattle.log_check.proofs.UsingLemmas.{fails_few, fails_later, fails_weight, uses_kept, uses_named, uses_not_owned, uses_out_of_range}
use Rattle.log_check.proofs.uses.broken_by_uses.Goals as goal

pub returns-then-not-is_weight : goal.returns-then-not-is_weight
returns-then-not-is_weight c =
    let uses = c.args.uses.now in
    let cuts = c.args.cuts.now in
    sym (uses_out_of_range c.args.network.now cuts c.args.node.now c.args.divisor uses c.requires.names
    (fails_weight (is_weight c.args.divisor) (are_few (length uses) && list_all (is_use_in_range (length cuts)) uses) (sym c.if-not-is_weight.ensures)))

pub returns-then-count-gt-MOST_SHARES : goal.returns-then-count-gt-MOST_SHARES
returns-then-count-gt-MOST_SHARES c =
    let uses = c.args.uses.now in
    let cuts = c.args.cuts.now in
    let many : 64 < length uses = omega (arith, c.count.ensures, c.if-count-gt-MOST_SHARES.true) in
    sym (uses_out_of_range c.args.network.now cuts c.args.node.now c.args.divisor uses c.requires.names
    (fails_few (is_weight c.args.divisor) (length uses) (list_all (is_use_in_range (length cuts)) uses) many))

pub returns-then-not-uses_in_range : goal.returns-then-not-uses_in_range
returns-then-not-uses_in_range c =
    let uses = c.args.uses.now in
    let cuts = c.args.cuts.now in
    let few : length uses ≤ 64 = omega (arith, c.count.ensures, c.if-count-gt-MOST_SHARES.false) in
    sym (uses_out_of_range c.args.network.now cuts c.args.node.now c.args.divisor uses c.requires.names
    (fails_later (is_weight c.args.divisor) (are_few (length uses)) (list_all (is_use_in_range (length cuts)) uses) (sym c.if-not-is_weight.ensures) (le-leb (length uses) 64 few)
    (ap (λ (n : ℕ). list_all (is_use_in_range n) uses) (sym c.count-2.ensures) ∙ sym c.if-not-uses_in_range.ensures)))

pub uses_owned-requires-clause-named : goal.uses_owned-requires-clause-named
uses_owned-requires-clause-named c =
    let uses = c.args.uses.now in
    uses_named c.args.cuts.now uses (ap (λ (n : ℕ). list_all (is_use_in_range n) uses) (sym c.count-2.ensures) ∙ sym c.if-not-uses_in_range.ensures)

pub returns-then-not-uses_owned : goal.returns-then-not-uses_owned
returns-then-not-uses_owned c =
    let uses = c.args.uses.now in
    let few : length uses ≤ 64 = omega (arith, c.count.ensures, c.if-count-gt-MOST_SHARES.false) in
    sym (uses_not_owned c.args.network.now c.args.cuts.now c.args.node.now c.args.divisor uses c.requires.names (sym c.if-not-is_weight.ensures) (le-leb (length uses) 64 few)
    (ap (λ (n : ℕ). list_all (is_use_in_range n) uses) (sym c.count-2.ensures) ∙ sym c.if-not-uses_in_range.ensures) (sym c.if-not-uses_owned.ensures))

pub returns : goal.returns
returns c =
    let uses = c.args.uses.now in
    let few : length uses ≤ 64 = omega (arith, c.count.ensures, c.if-count-gt-MOST_SHARES.false) in
    sym (uses_kept c.args.network.now c.args.cuts.now c.args.node.now c.args.divisor uses c.requires.names (sym c.if-not-is_weight.ensures) (le-leb (length uses) 64 few)
    (ap (λ (n : ℕ). list_all (is_use_in_range n) uses) (sym c.count-2.ensures) ∙ sym c.if-not-uses_in_range.ensures) (sym c.if-not-uses_owned.ensures))

use Rattle.std.proofs.Common.{◌≡◌, ◌≢◌, ◌≤◌, length, arith, refl, rules, ap, sym, ◌∙◌}
use Rattle.std.proofs.lemmas.Bool.{false≢true}
use Rattle.std.proofs.lemmas.Option.{slice_get_read}
use Rattle.geo_model.specs.declared.verdict.Verdict.TheVariants.{Refuted}
use Rattle.bound_log.proofs.AllowedLemmas.{pivot_allowed}
use Rattle.log_check.proofs.RuleLemmas.{pivot_out_of_range, owner_broken, verdict_broken}
use Rattle.log_check.proofs.rules.broken_by_pivot.Goals as goal

pub returns-then-number-limits-clause-rule : goal.returns-then-number-limits-clause-rule
returns-then-number-limits-clause-rule c =
    let past : length c.args.network.now.limits ≤ c.args.number = omega (arith, ap length c.limits-limits.ensures.value, c.if-number-limits.true) in
    sym (pivot_out_of_range c.args.network.now c.args.node.now c.args.number past)

pub returns-then-not-is_in_force-clause-rule : goal.returns-then-not-is_in_force-clause-rule
returns-then-not-is_in_force-clause-rule c =
    let limits = c.args.network.now.limits in
    let named = slice_get_read limits (length limits) c.args.number c.index-limits-number.result refl
    (rw (← c.limits-limits.ensures.value) c.if-number-limits.false) (rw (← c.limits-limits.ensures.value) c.index-limits-number.is) in
    sym (owner_broken c.args.network.now c.args.node.now c.args.number c.index-limits-number.result named
    (λ chosen. false≢true (c.if-not-is_in_force.ensures.1 chosen)))

pub returns-then-ne-clause-rule : goal.returns-then-ne-clause-rule
returns-then-ne-clause-rule c =
    let limits = c.args.network.now.limits in
    let named = slice_get_read limits (length limits) c.args.number c.index-limits-number.result refl
    (rw (← c.limits-limits.ensures.value) c.if-number-limits.false) (rw (← c.limits-limits.ensures.value) c.index-limits-number.is) in
    let other : c.verdict.result ≢ Refuted = search rules in
    sym (verdict_broken c.args.network.now c.args.node.now c.args.number c.index-limits-number.result named
    (c.if-not-is_in_force.ensures.0 refl)
    (λ same. other (c.verdict.ensures.exact c.index-limits-number.result named ∙ same)))

pub returns-clause-rule : goal.returns-clause-rule
returns-clause-rule c =
    let limits = c.args.network.now.limits in
    let named = slice_get_read limits (length limits) c.args.number c.index-limits-number.result refl
    (rw (← c.limits-limits.ensures.value) c.if-number-limits.false) (rw (← c.limits-limits.ensures.value) c.index-limits-number.is) in
    let same : c.verdict.result ≡ Refuted = search rules in
    sym (pivot_allowed c.args.network.now c.args.node.now c.args.number
    (record {
      limit = c.index-limits-number.result;
      named = named;
      owned = c.if-not-is_in_force.ensures.0 refl;
      refuted = sym (c.verdict.ensures.exact c.index-limits-number.result named) ∙ same;
    }))

use Rattle.std.proofs.Common.{rules, ◌≡◌, Some, slice_get, sym, ◌∙◌, ap, subst, w64, FitsSigned}
use Rattle.std.proofs.lemmas.Int.{to_z-of_z}
use Rattle.std.proofs.lemmas.Option.{same_Some}
use Rattle.geo_model.specs.Limit.{LimitOf}
use Rattle.geo_model.specs.Network.{IsLimit}
use Rattle.geo_model.specs.Values.{with_value, IsValueOf}
use Rattle.geo_model.specs.declared.limit.LimitKind.{LimitKind}
use Rattle.pivot_chain.specs.Verdict.{verdict_of}
use Rattle.pivot_chain.specs.Room.{RoomOf, IsChainsOf, HasEachLength}
use Rattle.pivot_chain.proofs.Judged.{limit_at, verdict_on_limit}
use Rattle.pivot_chain.proofs.Values.{found_at, factor_is, bears, value_limit, met_there, refuted_there}
use Rattle.pivot_chain.proofs.Verdicts.{open_interval}
use Rattle.pivot_chain.proofs.judging.verdict_at.Goals as goal

pub factor_of-factor-requires : goal.factor_of-factor-requires
factor_of-factor-requires c =
    let found = found_at c.args.network.now.limits c.limits.result.now c.args.limit c.index-limits-limit.result c.limits.ensures.value c.requires.limit c.index-limits-limit.is in
    subst (λ (k : LimitKind). IsValueOf k c.args.value) (sym (ap (λ (v : LimitOf). v.kind) c.form.view_is)) (c.requires.value c.index-limits-limit.result found)

pub verdict_on-requires-clause-chains : goal.verdict_on-requires-clause-chains
verdict_on-requires-clause-chains c = subst (IsChainsOf c.args.network.now) (sym (ap (λ (v : RoomOf). v.chains) c.room.view_is)) c.requires.room.chains

pub verdict_on-requires-clause-bounds : goal.verdict_on-requires-clause-bounds
verdict_on-requires-clause-bounds c =
    let f : FitsSigned w64 c.form.inside.alpha = search rules in
    let g : FitsSigned w64 c.factor_of-factor.result = search rules in
    let found = found_at c.args.network.now.limits c.limits.result.now c.args.limit c.index-limits-limit.result c.limits.ensures.value c.requires.limit c.index-limits-limit.is in
    let form = c.index-limits-limit.result in
    let made = factor_is form c.form.inside.kind c.form.inside.alpha c.factor_of-factor.result c.args.value (ap (λ (v : LimitOf). v.kind) c.form.view_is) (ap (λ (v : LimitOf). v.alpha) c.form.view_is) (simp (to_z-of_z, f) at c.factor_of-factor.ensures) in
    simp (to_z-of_z, g)
    (bears c.args.network.now form c.factor_of-factor.result c.as_slice.result.now c.args.value (c.requires.bounds form found) made
    (c.as_slice.ensures.value ∙ ap (λ (v : LimitOf). v.squares) c.form.view_is))

-- what was looked up
found : (c : goal.After-verdict_on) → slice_get c.args.network.now.limits c.args.limit ≡ Some c.index-limits-limit.result
found c = found_at c.args.network.now.limits c.limits.result.now c.args.limit c.index-limits-limit.result c.limits.ensures.value c.requires.limit c.index-limits-limit.is

judged : (c : goal.After-verdict_on) → c.verdict_on.result ≡ verdict_of c.args.network.now c.args.plan.now (with_value c.index-limits-limit.result c.args.value)
judged c =
    let f : FitsSigned w64 c.form.inside.alpha = search rules in
    let g : FitsSigned w64 c.factor_of-factor.result = search rules in
    let form = c.index-limits-limit.result in
    let made = factor_is form c.form.inside.kind c.form.inside.alpha c.factor_of-factor.result c.args.value (ap (λ (v : LimitOf). v.kind) c.form.view_is) (ap (λ (v : LimitOf). v.alpha) c.form.view_is) (simp (to_z-of_z, f) at c.factor_of-factor.ensures) in
    let known = simp (to_z-of_z, g) at c.verdict_on.ensures.exact in
    known
    ∙ verdict_on_limit c.args.network.now c.args.plan.now c.factor_of-factor.result c.as_slice.result.now (with_value form c.args.value) made (sym (c.as_slice.ensures.value ∙ ap (λ (v : LimitOf). v.squares) c.form.view_is))

is_limit : (c : goal.After-verdict_on) → IsLimit c.args.network.now (with_value c.index-limits-limit.result c.args.value)
is_limit c =
    value_limit c.args.network.now c.index-limits-limit.result c.args.value
    (limit_at c.args.network.now c.limits.result.now c.args.limit c.index-limits-limit.result c.limits.ensures.bounds c.limits.ensures.value c.requires.limit c.index-limits-limit.is)
    (c.requires.bounds c.index-limits-limit.result (found c))

same : (c : goal.After-verdict_on) (l : LimitOf) → slice_get c.args.network.now.limits c.args.limit ≡ Some l → c.index-limits-limit.result ≡ l
same c l e = same_Some c.index-limits-limit.result l (sym (found c) ∙ e)

pub returns-clause-exact : goal.returns-clause-exact
returns-clause-exact c = λ l e. judged c ∙ ap (λ (v : LimitOf). verdict_of c.args.network.now c.args.plan.now (with_value v c.args.value)) (same c l e)

pub returns-clause-met : goal.returns-clause-met
returns-clause-met c = λ l e met.
    met_there c.args.network.now c.args.plan.now (with_value l c.args.value) c.verdict_on.result c.limits.ensures.bounds
    (subst (λ (v : LimitOf). IsLimit c.args.network.now (with_value v c.args.value)) (same c l e) (is_limit c))
    (judged c ∙ ap (λ (v : LimitOf). verdict_of c.args.network.now c.args.plan.now (with_value v c.args.value)) (same c l e)) met

pub returns-clause-refuted : goal.returns-clause-refuted
returns-clause-refuted c = λ l e refuted.
    refuted_there c.args.network.now c.args.plan.now (with_value l c.args.value) c.verdict_on.result c.limits.ensures.bounds
    (subst (λ (v : LimitOf). IsLimit c.args.network.now (with_value v c.args.value)) (same c l e) (is_limit c))
    (judged c ∙ ap (λ (v : LimitOf). verdict_of c.args.network.now c.args.plan.now (with_value v c.args.value)) (same c l e)) refuted

pub returns-clause-interval : goal.returns-clause-interval
returns-clause-interval c = λ step lo hi e.
    open_interval c.args.network.now c.args.plan.now (with_value c.index-limits-limit.result c.args.value) step lo hi (sym (judged c) ∙ e)

pub returns-clause-kept : goal.returns-clause-kept
returns-clause-kept c = record {
  chains = c.verdict_on.ensures.kept;
  squares = subst (HasEachLength 7) (sym (ap (λ (v : RoomOf). v.squares) c.room.view_is)) c.requires.room.squares;
}

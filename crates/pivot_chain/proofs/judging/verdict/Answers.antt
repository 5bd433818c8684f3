use Rattle.std.proofs.Common.{rules, ◌≡◌, get_or, sym, ◌∙◌, ap, subst, w64, FitsSigned}
use Rattle.std.proofs.lemmas.Int.{to_z-of_z}
use Rattle.std.proofs.lemmas.Option.{slice_get-get_or}
use Rattle.geo_model.specs.Limit.{LimitOf}
use Rattle.geo_model.proofs.SumSteps.{same_limit}
use Rattle.pivot_chain.specs.Room.{RoomOf, IsChainsOf, HasEachLength}
use Rattle.pivot_chain.proofs.Judged.{limit_at, load_of, verdict_on_limit}
use Rattle.pivot_chain.proofs.Verdicts.{open_interval, met_holds, refuted_breaks, met_grows}
use Rattle.pivot_chain.proofs.judging.verdict.Goals as goal

pub verdict_on-requires-clause-chains : goal.verdict_on-requires-clause-chains
verdict_on-requires-clause-chains c = subst (IsChainsOf c.args.network.now) (sym (ap (λ (v : RoomOf). v.chains) c.room.view_is)) c.requires.room.chains

pub verdict_on-requires-clause-bounds : goal.verdict_on-requires-clause-bounds
verdict_on-requires-clause-bounds c =
    let bounds = c.limits.ensures.bounds in
    let f : FitsSigned w64 c.form.inside.alpha = search rules in
    let limit = limit_at c.args.network.now c.limits.result.now c.args.limit c.index-limits-limit.result bounds c.limits.ensures.value c.requires.limit c.index-limits-limit.is in
    let alpha : c.form.inside.alpha ≡ c.index-limits-limit.result.alpha = ap (λ (v : LimitOf). v.alpha) c.form.view_is in
    let squares : c.as_slice.result.now ≡ c.index-limits-limit.result.squares = c.as_slice.ensures.value ∙ ap (λ (v : LimitOf). v.squares) c.form.view_is in
    simp (to_z-of_z, f) (load_of c.args.network.now c.index-limits-limit.result c.form.inside.alpha c.as_slice.result.now limit alpha squares)

exact : goal.returns-clause-exact
exact c = λ l e.
    let f : FitsSigned w64 c.form.inside.alpha = search rules in
    let alpha : c.form.inside.alpha ≡ c.index-limits-limit.result.alpha = ap (λ (v : LimitOf). v.alpha) c.form.view_is in
    let squares : c.as_slice.result.now ≡ c.index-limits-limit.result.squares = c.as_slice.ensures.value ∙ ap (λ (v : LimitOf). v.squares) c.form.view_is in
    let same = same_limit c.args.network.now c.limits.result.now c.args.limit c.index-limits-limit.result l c.limits.ensures.value c.index-limits-limit.is e in
    let judged = simp (to_z-of_z, f) at c.verdict_on.ensures.exact in
    judged
    ∙ verdict_on_limit c.args.network.now c.args.plan.now c.form.inside.alpha c.as_slice.result.now l
    (ap (λ (v : LimitOf). v.alpha) (sym same) ∙ sym alpha) (ap (λ (v : LimitOf). v.squares) (sym same) ∙ sym squares)

pub returns-clause-exact : goal.returns-clause-exact
returns-clause-exact c = exact c

pub returns-clause-met : goal.returns-clause-met
returns-clause-met c = λ l found e. met_holds c.args.network.now c.args.plan.now c.args.limit l c.verdict_on.result c.limits.ensures.bounds found (exact c l found) e

pub returns-clause-refuted : goal.returns-clause-refuted
returns-clause-refuted c = λ l found e. refuted_breaks c.args.network.now c.args.plan.now c.args.limit l c.verdict_on.result c.limits.ensures.bounds found (exact c l found) e

pub returns-clause-interval : goal.returns-clause-interval
returns-clause-interval c = λ step lo hi e.
    let limits = c.args.network.now.limits in
    let l = get_or limits c.args.limit c.index-limits-limit.result in
    open_interval c.args.network.now c.args.plan.now l step lo hi (sym (exact c l (slice_get-get_or limits c.args.limit c.index-limits-limit.result c.requires.limit)) ∙ e)

pub returns-clause-larger : goal.returns-clause-larger
returns-clause-larger c = λ l large found e within.
    met_grows c.args.network.now c.args.plan.now large c.args.limit l c.verdict_on.result c.limits.ensures.bounds found (exact c l found) e within

pub returns-clause-kept : goal.returns-clause-kept
returns-clause-kept c = record {
  chains = c.verdict_on.ensures.kept;
  squares = subst (HasEachLength 7) (sym (ap (λ (v : RoomOf). v.squares) c.room.view_is)) c.requires.room.squares;
}

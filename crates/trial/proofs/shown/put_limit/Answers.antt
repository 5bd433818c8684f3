use Rattle.std.proofs.Common.{◌≡◌, ◌+◌, ◌++◌, List, ℕ, Bool, length, ap, ap₂, sym, ◌∙◌, arith, subst, append_assoc, OnOk}
use Rattle.std.specs.Prelude.{slice_get}
use Rattle.std.proofs.lemmas.List.{append-nil}
use Rattle.geo_model.specs.Limit.{LimitOf}
use Rattle.geo_model.specs.declared.limit.LimitKind.{LimitKind}
use Rattle.geo_model.specs.declared.verdict.Verdict.{Verdict}
use Rattle.factor_stack.specs.Stack.{StackOf}
use Rattle.pivot_chain.specs.Verdict.{verdict_of}
use Rattle.geo_model.proofs.SumSteps.{same_limit}
use Rattle.trial.specs.Stacks.{IsStackAt}
use Rattle.trial.specs.Surveyed.{survey_of}
use Rattle.limit_lines.specs.LimitText.{limit_text}
use Rattle.trial.specs.TrialText.{verdict_text}
use Rattle.trial.proofs.Zips.{zip_at, zip_long}
use Rattle.trial.proofs.Lines.{no_line, one_line}
use Rattle.trial.proofs.shown.put_limit.Goals as goal

pub returns-then-not-is_in_force : goal.returns-then-not-is_in_force
returns-then-not-is_in_force c = λ limit found.
    let network = c.args.survey.now.network.now in
    let same = same_limit network c.limits.result.now c.args.number c.index-limits-number.result limit c.limits.ensures.value c.index-limits-number.is found in
    sym (ap (λ (t : List ℕ). c.args.text.now.items ++ t) (no_line (survey_of c.args.survey.now) c.args.session.now.plan c.index-limits-number.result limit c.is_in_force.result same c.is_in_force.ensures c.if-not-is_in_force.true)
    ∙ append-nil c.args.text.now.items)

pub index-requires : goal.index-requires
index-requires c =
    let long = zip_long (IsStackAt c.args.survey.now.network.now c.args.session.now.plan c.args.session.now.before.items) 0 (length c.args.survey.now.network.now.limits) c.args.session.now.stacks.items c.requires.made.stacks in
    omega arith

pub returns : goal.returns
returns c = λ limit found.
    let survey = survey_of c.args.survey.now in
    let network = c.args.survey.now.network.now in
    let session = c.args.session.now in
    let before = c.args.text.now.items in
    let read = c.index-limits-number.result in
    let same = same_limit network c.limits.result.now c.args.number read limit c.limits.ensures.value c.index-limits-number.is found in
    let first : 0 + c.args.number ≡ c.args.number = omega arith in
    let one : IsStackAt c.args.survey.now.network.now c.args.session.now.plan c.args.session.now.before.items c.args.number c.index.result.now =
    subst (λ (k : ℕ). IsStackAt c.args.survey.now.network.now c.args.session.now.plan c.args.session.now.before.items k c.index.result.now) first
    (subst (λ (s : StackOf). IsStackAt c.args.survey.now.network.now c.args.session.now.plan c.args.session.now.before.items (0 + c.args.number) s) (sym c.index.ensures)
    (zip_at (IsStackAt network session.plan session.before.items) 0 (length network.limits) session.stacks.items c.args.number c.index.result.now c.requires.made.stacks c.requires.inside)) in
    let verdict = c.verdict.ensures.exact network limit c.limits.ensures.bounds one.made (ap (slice_get network.limits) one.limit ∙ found) ∙ ap (λ (p : List Bool). verdict_of c.args.survey.now.network.now p limit) one.holds in
    let kind = ap (λ (l : LimitOf). l.kind) c.limit.view_is in
    subst (λ (t : List ℕ). OnOk c.put_verdict.result (c.put_verdict.new.text.items ≡ t))
    (ap (λ (t : List ℕ). t ++ verdict_text c.verdict.result) c.in_ok-put_limit_name.ensures ∙ append_assoc before (limit_text survey.points survey.candidates c.limit.inside.kind) (verdict_text c.verdict.result)
    ∙ ap (λ (t : List ℕ). c.args.text.now.items ++ t)
    (ap₂ (λ (k : LimitKind) (v : Verdict). limit_text survey.points survey.candidates k ++ verdict_text v) kind verdict
    ∙ sym (one_line survey session.plan read limit c.is_in_force.result same c.is_in_force.ensures c.if-not-is_in_force.false))) c.put_verdict.ensures

use Rattle.std.proofs.Common.{◌≡◌, length, sym, ◌∙◌, ap, subst}
use Rattle.std.proofs.lemmas.Int.{to_z-of_z}
use Rattle.limit_forms.proofs.GridReads.{length-grid_of}
use Rattle.limit_forms.specs.Form.{IsFullDiagonal}
use Rattle.pivot_chain.specs.Room.{ChainsOf}
use Rattle.pivot_chain.proofs.Judged.{verdict_is}
use Rattle.pivot_chain.proofs.judging.verdict_on.Goals as goal

pub retake_known-requires-clause-known : goal.retake_known-requires-clause-known
retake_known-requires-clause-known c =
    subst (IsFullDiagonal c.args.network.now) (sym (c.as_slice-diagonal.ensures.value ∙ ap (λ (v : ChainsOf). v.diagonal) c.chains.view_is)) c.requires.chains.diagonal

pub judge-requires-clause-made : goal.judge-requires-clause-made
judge-requires-clause-made c =
    simp (to_z-of_z, c.ranges.factor)
    (record { normal_made = c.bring_to.ensures.sum; load = c.requires.bounds; grid_made = simp (to_z-of_z, c.ranges.factor) at c.retake_known.ensures })

pub returns-clause-exact : goal.returns-clause-exact
returns-clause-exact c =
    simp (to_z-of_z, c.ranges.factor) at c.judge.ensures.exact
    ∙ verdict_is c.args.network.now c.args.plan.now c.bring_to.new.normal.plan c.args.factor c.args.squares.now c.bring_to.ensures.plan

pub returns-clause-kept : goal.returns-clause-kept
returns-clause-kept c = record {
  normal = c.bring_to.ensures.sum;
  other = c.take_nearer.ensures.other_made;
  grid = length-grid_of _ _ _ c.retake_known.new.self c.retake_known.ensures;
  diagonal = subst (IsFullDiagonal c.args.network.now) (sym (ap (λ (v : ChainsOf). v.diagonal) c.chains.view_is)) c.requires.chains.diagonal;
  lower = c.judge.ensures.lower_size ∙ (ap (λ (v : ChainsOf). length v.lower) c.chains.view_is ∙ c.requires.chains.lower);
  rows = c.judge.ensures.rows_size ∙ (ap (λ (v : ChainsOf). length v.rows) c.chains.view_is ∙ c.requires.chains.rows);
  gaps = c.judge.ensures.gaps_size ∙ (ap (λ (v : ChainsOf). length v.gaps) c.chains.view_is ∙ c.requires.chains.gaps);
  upper = c.judge.ensures.upper_size ∙ (ap (λ (v : ChainsOf). length v.upper) c.chains.view_is ∙ c.requires.chains.upper);
}

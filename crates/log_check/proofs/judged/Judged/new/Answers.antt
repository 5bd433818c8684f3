use Rattle.std.proofs.Common.{ap, sym, subst}
use Rattle.log_check.specs.Places.{OpenOf, IsReady}
use Rattle.bound_log.specs.Meanings.{AreNames}
use Rattle.log_check.proofs.FormatRuns.{no_names}
use Rattle.log_check.proofs.PlaceLemmas.{ready_root}
use Rattle.log_check.proofs.ReachLemmas.{taken_nothing}
use Rattle.log_check.proofs.judged.Judged.new.Goals as goal

pub returns-clause-sound : goal.returns-clause-sound
returns-clause-sound c = record {
  bounds = c.in_ok-progress.ensures.bounds;
  room = c.in_ok-room.ensures;
  ready = subst (λ (s : OpenOf). IsReady c.args.network.now s) (sym c.in_ok-progress.ensures.stack) (ready_root c.args.network.now c.in_ok-progress.ensures.few);
  names = subst (AreNames c.args.network.now) (sym c.in_ok-progress.ensures.cuts) (no_names c.args.network.now);
}

pub returns-clause-start : goal.returns-clause-start
returns-clause-start c =
    let made = c.in_ok-progress.progress in
    let e = c.in_ok-progress.ensures in
    taken_nothing c.args.network.now made e.lines (ap (λ (s : OpenOf). s.candidates) e.stack)
    (record { leads = sym (ap (λ (s : OpenOf). s.nodes) e.stack); least = e.bound; counted = e.counts }) e.cuts

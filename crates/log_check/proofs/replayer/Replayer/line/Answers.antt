use Rattle.std.proofs.Common.{sym, subst}
use Rattle.lent_parts.specs.Walks.{line_of}
use Rattle.log_check.specs.Fed.{ReplayerOf, IsLineNext, replay_at}
use Rattle.log_check.proofs.FedLemmas.{line_leaves, line_fault, line_right}
use Rattle.log_check.proofs.replayer.Replayer.line.Goals as goal
use Rattle.log_check.proofs.replayer.Replayer.line.Goals.{in-Some, in-None}

pub returns-clause-fed : goal.returns-clause-fed
returns-clause-fed c = λ text next.
    let line = line_of c.args.line in
    let network = c.self.inside.network.now in
    let kept = c.self.inside.unfinished.items in
    let now : ReplayerOf = replay_at network c.judge.new.self kept in
    let bounds = c.self.invariant.bounds in
    let leaves = line_leaves network c.self.inside.judged c.judge.new.self kept text line bounds
    (subst (λ (r : ReplayerOf). IsLineNext text line r) (sym c.self.view_is) next) c.judge.ensures.judged in
    record {
      read = leaves.read;
      fed = leaves.fed;
      says = elim c.match-self.branch [
        | in-Some w ↦ line_fault network text line now c.match-self.result w.in-Some.fault leaves w.in-Some.is w.result-is
        | in-None w ↦ line_right network text line now c.match-self.result bounds leaves w.in-None.is w.result-is
      ];
    }

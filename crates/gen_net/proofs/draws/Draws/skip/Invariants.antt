use Rattle.std.proofs.Common.{◌≡◌, ◌+◌}
use Rattle.gen_net.proofs.draws.Draws.skip.Given as goal

abbrev pub invariant-loop-passed : goal.invariant-loop-passed
invariant-loop-passed l = (l.self.0 ≡ l.initial.self.0) × (l.self.1 ≡ l.initial.self.1 + l._passed)

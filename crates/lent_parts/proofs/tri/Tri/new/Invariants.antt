use Rattle.std.proofs.Common.{◌≡◌, ◌++◌, ◌-◌, length}
use Rattle.lent_parts.specs.Triangle.{zero_tri}
use Rattle.lent_parts.proofs.tri.Tri.new.Given as goal

abbrev pub invariant-loop-k : goal.invariant-loop-k
invariant-loop-k l = (l.rows.items ++ zero_tri (l.n - l.k) ≡ zero_tri l.n) × (length l.rows.items ≡ l.k)

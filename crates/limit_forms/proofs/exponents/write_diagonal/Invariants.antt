use Rattle.std.proofs.Common.{◌≡◌, ℕ, ◌<◌}
use Rattle.whole_algebra.specs.Matrices.{at}
use Rattle.limit_forms.specs.Form.{full_entry}
use Rattle.limit_forms.proofs.exponents.write_diagonal.Given as goal

abbrev pub invariant-loop-unknown : goal.invariant-loop-unknown
invariant-loop-unknown l = (i : ℕ) → i < l.unknown → at l.diagonal i ≡ full_entry l.network.candidates i i

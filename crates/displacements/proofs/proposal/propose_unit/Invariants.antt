use Rattle.std.proofs.Common.{◌≡◌, ℕ, ◌<◌, length, replicate, pos, Some}
use Rattle.std.specs.Prelude.{slice_get}
use Rattle.geo_model.specs.Row.{unit_at}
use Rattle.geo_model.specs.Limit.{LimitOf}
use Rattle.geo_model.specs.Meeting.{Breaks}
use Rattle.displacements.proofs.proposal.propose_unit.Given as goal

abbrev pub invariant-loop-unknown : goal.invariant-loop-unknown
invariant-loop-unknown l = record {
  still : l.x ≡ replicate (length l.network.unknowns) (pos 0);
  size : l.size ≡ length l.network.unknowns;
  none : (i : ℕ) → i < l.unknown → (limit : LimitOf) → slice_get l.network.limits l.limit ≡ Some limit → Breaks l.network l.plan limit (unit_at i) → ⊥;
}

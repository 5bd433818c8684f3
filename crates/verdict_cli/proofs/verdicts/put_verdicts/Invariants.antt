use Rattle.std.proofs.Common.{◌≡◌, ◌++◌, take}
use Rattle.std.specs.List.{flat_map}
use Rattle.geo_model.specs.Limit.{LimitOf}
use Rattle.pivot_chain.specs.Room.{IsRoomOf}
use Rattle.pivot_chain.specs.Verdict.{verdict_of}
use Rattle.verdict_cli.specs.Answer.{verdict_line}
use Rattle.verdict_cli.proofs.verdicts.put_verdicts.Given as goal

abbrev pub invariant-loop-limit : goal.invariant-loop-limit
invariant-loop-limit l = record {
  room : IsRoomOf l.network l.room;
  lines : l.out.items ≡ l.fn.out.items ++ flat_map (λ (form : LimitOf). verdict_line (verdict_of l.network l.plan form)) (take l.limit l.network.limits);
}

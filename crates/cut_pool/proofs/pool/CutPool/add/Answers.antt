use Rattle.std.proofs.Common.{rules, ◌≡◌, map}
use Rattle.cut_pool.specs.Pool.{IsPool, cut_key}
use Rattle.cut_pool.proofs.Keys.{keys-more}
use Rattle.cut_pool.proofs.pool.CutPool.add.Goals as goal

pub invariant_of-self-2 : goal.invariant_of-self-2
invariant_of-self-2 c =
    let pool : IsPool c.push-2.new.self.items = search rules in
    let kept : c.truncate.new.self.items ≡ map cut_key c.self.inside.cuts.items = search rules in (
      pool,
      keys-more c.self.inside.cuts.items c.push-2.new.self.items c.truncate.new.self.items c.push.new.self.items c.args.cut c.cut_key-key.result
          kept c.cut_key-key.ensures c.in_ok-push-2.ensures.items c.in_ok-push.ensures.items,
    )

use Rattle.std.proofs.Common.{length, sym}
use Rattle.std.proofs.lemmas.List.{length-map}
use Rattle.bound_log.specs.DualText.{text_of_share, texts_of_shares}
use Rattle.bound_log.proofs.CutSpellLemmas.{dual_put}
use Rattle.bound_log.proofs.dual_line.put_pool_parts.Goals as goal

pub returns-clause-put : goal.returns-clause-put
returns-clause-put c =
    dual_put c.args.out.now.items c.push.new.self.items c.put_numbers.new.out.items c.put_pool_shares.new.out.items c.push-2.new.self.items c.args.d (length c.args.shares.now) (texts_of_shares c.args.pool.now c.args.shares.now)
    (sym (length-map c.args.shares.now (text_of_share c.args.pool.now)))
    c.in_ok-push.ensures.items c.in_ok-put_numbers.ensures.put c.in_ok-put_pool_shares.ensures.put c.in_ok-push-2.ensures.items

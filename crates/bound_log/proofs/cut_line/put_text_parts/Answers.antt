use Rattle.bound_log.proofs.CutSpellLemmas.{cut_put}
use Rattle.bound_log.proofs.cut_line.put_text_parts.Goals as goal

pub returns-clause-put : goal.returns-clause-put
returns-clause-put c =
    cut_put c.args.out.now.items c.push.new.self.items c.put_lent_cut.new.out.items c.push-2.new.self.items c.args.kind c.args.cut.now c.in_ok-push.ensures.items c.in_ok-put_lent_cut.ensures.put c.in_ok-push-2.ensures.items

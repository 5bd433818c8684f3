use Rattle.std.proofs.Common.{List, ℕ, ap, ◌∙◌, ◌++◌}
use Rattle.bound_log.specs.CutSpelling.{shares_text}
use Rattle.bound_log.specs.CutText.{CutTextOf}
use Rattle.bound_log.proofs.CutSpellLemmas.{dual_put}
use Rattle.bound_log.proofs.dual_line.put_text_parts.Goals as goal

pub returns-clause-put : goal.returns-clause-put
returns-clause-put c =
    dual_put c.args.out.now.items c.push.new.self.items c.put_numbers.new.out.items c.put_lent_shares.new.out.items c.push-2.new.self.items c.args.d c.count.result c.args.shares.now
    c.count.ensures
    c.in_ok-push.ensures.items c.in_ok-put_numbers.ensures.put
    (c.in_ok-put_lent_shares.ensures.put ∙ ap (λ (shares : List (ℕ × CutTextOf)). c.put_numbers.new.out.items ++ shares_text shares) c.shares.ensures)
    c.in_ok-push-2.ensures.items

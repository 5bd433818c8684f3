use Rattle.text_num.proofs.Appending.{on_ok, no_digits, digits_joined}
use Rattle.text_num.proofs.put.+put_last_digits.Goals as goal

pub returns-then-places-eq0-clause-ok : goal.returns-then-places-eq0-clause-ok
returns-then-places-eq0-clause-ok t c = no_digits c.args.out.now.items c.args.places c.args.n c.if-places-eq0.true

pub returns-clause-ok : goal.returns-clause-ok
returns-clause-ok t c =
    on_ok c.put_last_digits.result _ _ c.put_last_digits.ensures.ok
    (digits_joined c.args.out.now.items c.push.new.self.items c.put_last_digits.new.out.items c.power_of_ten.result c.args.places c.args.n c.if-places-eq0.false c.power_of_ten.ensures.value c.in_ok-push.ensures.items)

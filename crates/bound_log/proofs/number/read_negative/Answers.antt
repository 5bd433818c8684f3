use Rattle.std.proofs.Common.{ℕ, subst}
use Rattle.bound_log.specs.Numbers.{IsNumberText}
use Rattle.bound_log.proofs.CutLemmas.{not_minus_zero, not_negative}
use Rattle.bound_log.proofs.number.read_negative.Goals as goal

pub returns-in-Some-eq0-clause-none : goal.returns-in-Some-eq0-clause-none
returns-in-Some-eq0-clause-none c = λ value signed.
    not_minus_zero c.args.digits.now value (subst (λ (n : ℕ). IsNumberText c.args.digits.now n) c.in-Some-eq0.field-0-test c.in-Some-eq0.ensures.some) signed

pub returns-in-None-clause-none : goal.returns-in-None-clause-none
returns-in-None-clause-none c = λ value signed. not_negative c.args.digits.now value c.in-None.ensures.none signed

use Rattle.std.proofs.Common.{rules, ◌∙◌, ◌++◌, sym, ap, FitsSigned}
use Rattle.std.specs.Int.{w128}
use Rattle.std.proofs.lemmas.Int.{to_z-of_z}
use Rattle.verdict_cli.specs.Answer.{verdict_line}
use Rattle.verdict_cli.proofs.Texts.{open_line}
use Rattle.verdict_cli.proofs.verdicts.put_verdict.Goals as goal

pub returns-in_ok-extend_from_slice-in-Met : goal.returns-in_ok-extend_from_slice-in-Met
unfolding verdict_line
returns-in_ok-extend_from_slice-in-Met c = c.in_ok-extend_from_slice-in-Met.ensures.items ∙ ap (λ v. c.args.out.now.items ++ verdict_line v) (sym c.in-Met.is)

pub returns-in_ok-extend_from_slice-in-Refuted : goal.returns-in_ok-extend_from_slice-in-Refuted
unfolding verdict_line
returns-in_ok-extend_from_slice-in-Refuted c = c.in_ok-extend_from_slice-in-Refuted.ensures.items ∙ ap (λ v. c.args.out.now.items ++ verdict_line v) (sym c.in-Refuted.is)

pub returns-in_ok-push-in-Open-3 : goal.returns-in_ok-push-in-Open-3
returns-in_ok-push-in-Open-3 c =
    let told : FitsSigned w128 c.from.result = search rules in
    let low : FitsSigned w128 c.in-Open.lo = search rules in
    let high : FitsSigned w128 c.in-Open.hi = search rules in
    open_line c.in-Open.step c.from.result c.in-Open.lo c.in-Open.hi
    c.args.out.now.items c.extend_from_slice-in-Open.new.self.items c.put_whole.new.out.items c.push.new.self.items
    c.put_whole-in-Open.new.out.items c.push-in-Open.new.self.items c.put_whole-in-Open-2.new.out.items c.push-in-Open-2.new.self.items
    c.from.ensures
    c.in_ok-extend_from_slice-in-Open.ensures.items
    (simp (to_z-of_z, told) at c.in_ok-put_whole-in-Open.ensures.ok)
    c.in_ok-push-in-Open.ensures.items
    (simp (to_z-of_z, low) at c.in_ok-put_whole-in-Open-2.ensures.ok)
    c.in_ok-push-in-Open-2.ensures.items
    (simp (to_z-of_z, high) at c.in_ok-put_whole-in-Open-3.ensures.ok)
    c.in_ok-push-in-Open-3.ensures.items
    ∙ ap (λ v. c.args.out.now.items ++ verdict_line v) (sym c.in-Open.is)

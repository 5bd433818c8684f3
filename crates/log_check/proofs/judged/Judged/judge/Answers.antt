use Rattle.std.proofs.Common.{◌≡◌, ℕ, Some, None, refl, ap, sym, ◌∙◌}
use Rattle.log_check.specs.declared.fault.LogFault.{LogFault}
use Rattle.log_check.specs.declared.progress.Progress.{Progress}
use Rattle.log_check.specs.Fed.{after_fault, right, wrong}
use Rattle.log_check.specs.Taking.{next_count}
use Rattle.log_check.proofs.FedLemmas.{some_fault, no_fault}
use Rattle.log_check.proofs.PlaceLemmas.{names_next, ready_next}
use Rattle.log_check.proofs.judged.Judged.judge.Goals as goal

pub returns-then-is_some-clause-judged : goal.returns-then-is_some-clause-judged
returns-then-is_some-clause-judged c = let (fault, is) = some_fault c.args.self.now.fault (sym c.is_some.ensures ∙ c.if-is_some.true) in after_fault fault is refl

pub returns-in-Err-clause-judged : goal.returns-in-Err-clause-judged
returns-in-Err-clause-judged c =
    let made : ℕ → LogFault = λ (n : ℕ). record { line = n; kind = c.in-Err.kind } in
    let same : c.take_line-judged.new.progress ≡ c.args.self.now.progress = c.in-Err.ensures.refused in
    wrong c.in-Err.kind (no_fault c.args.self.now.fault (sym c.is_some.ensures ∙ c.if-is_some.false))
    (ap (λ (n : ℕ). Some (made n)) (c.saturating_add-line.ensures ∙ ap (λ (p : Progress). next_count p.lines) same))
    c.in-Err.ensures.stopped

pub returns-in_default-clause-judged : goal.returns-in_default-clause-judged
returns-in_default-clause-judged c =
    let none : c.args.self.now.fault ≡ None = no_fault c.args.self.now.fault (sym c.is_some.ensures ∙ c.if-is_some.false) in
    right none none c.in_default.ensures.taken

pub returns-in_default-clause-sound : goal.returns-in_default-clause-sound
returns-in_default-clause-sound c = record {
  bounds = c.requires.bounds;
  room = c.take_line-judged.ensures.kept;
  ready = ready_next c.args.network.now c.args.line.text.now c.args.line.ended c.args.self.now.progress c.take_line-judged.new.progress c.requires.ready c.in_default.ensures.taken;
  names = names_next c.args.network.now c.args.line.text.now c.args.line.ended c.args.self.now.progress c.take_line-judged.new.progress c.requires.names c.in_default.ensures.taken;
}

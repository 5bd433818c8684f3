use Rattle.std.proofs.Common.{◌≡◌, List, ℕ, [], false, length, ap, sym, ◌∙◌, subst}
use Rattle.std.proofs.lemmas.Bool.{eq-eqb, eqb-true, false≢true}
use Rattle.log_check.specs.declared.judged.Judged.{Judged}
use Rattle.log_check.specs.Fed.{ReplayerOf, HasRead, Judges, IsAnswerAtEnd, Finishes, replay_at}
use Rattle.log_check.proofs.FedLemmas.{finish_whole, finish_rest, length-zero}
use Rattle.log_check.proofs.replayer.Replayer.finish.Goals as goal
use Rattle.log_check.proofs.replayer.Replayer.finish.Goals.{then-not-is_empty, else-not-is_empty}

pub returns : goal.returns
returns c = λ text read few.
    let network = c.self.inside.network.now in
    let kept : List ℕ = c.self.inside.unfinished.items in
    let rest : List ℕ = c.as_slice-text.result.now in
    let before : Judged = c.self.inside.judged in
    let was : HasRead text (replay_at network before kept) = subst (λ (r : ReplayerOf). HasRead text r) (sym c.self.view_is) read in
    elim c.if-not-is_empty.branch [
      | then-not-is_empty w ↦
          let some : kept ≡ [] → ⊥ = λ none.
          let long : length rest ≡ 0 = ap length (c.as_slice-text.ensures.value ∙ none) in
          false≢true (sym w.if-not-is_empty.true ∙ c.is_empty.ensures ∙ eq-eqb (length rest) 0 long) in
          let now : Judged = w.judge.new.self in
          subst (λ (r : ReplayerOf). Finishes r.network text c.end.result) c.self.view_is
          (finish_rest network before now kept text c.end.result c.self.invariant.bounds some was few
          (subst (λ (t : List ℕ). Judges network (record { text = t; ended = false }) before now) c.as_slice-text.ensures.value w.judge.ensures.judged)
          (subst (λ (j : Judged). IsAnswerAtEnd j c.end.result) w.judged-is c.end.ensures))
      | else-not-is_empty w ↦
          let none : kept ≡ [] = sym c.as_slice-text.ensures.value ∙ length-zero rest (eqb-true (length rest) 0 (sym c.is_empty.ensures ∙ w.if-not-is_empty.false)) in
          subst (λ (r : ReplayerOf). Finishes r.network text c.end.result) c.self.view_is
          (finish_whole network before text c.end.result c.self.invariant.bounds (subst (λ (k : List ℕ). HasRead text (replay_at network before k)) none was) few
          (subst (λ (j : Judged). IsAnswerAtEnd j c.end.result) w.judged-is c.end.ensures))
    ]

use Rattle.std.proofs.Common.{◌≡◌, Bool, true, false, ap, sym, ◌∙◌}
use Rattle.std.proofs.lemmas.Bool.{false≢true}
use Rattle.std.proofs.lemmas.Bool.Decides.{Decides-int_eq}
use Rattle.std.proofs.lemmas.Slice.Eq.{slice_eq-Decides}
use Rattle.cut_pool.specs.Cut.{CutOf}
use Rattle.cut_pool.proofs.pool.is_same.Goals as goal

pub returns-then-other-cut-clause-same : goal.returns-then-other-cut-clause-same
returns-then-other-cut-clause-same c =
    let other = ap (λ (v : CutOf). v.x) c.other.view_is in
    let mine = ap (λ (v : CutOf). v.x) c.cut.view_is in
    let decides = slice_eq-Decides Decides-int_eq c.entries.result.now c.entries-then-other-cut.result.now c.eq.result c.eq.ensures in
    λ e. (
      sym (ap (λ (v : CutOf). v.limit) c.other.view_is) ∙ c.if-other-cut.true ∙ ap (λ (v : CutOf). v.limit) c.cut.view_is,
      sym (c.entries.ensures.value ∙ other) ∙ decides.0 e ∙ c.entries-then-other-cut.ensures.value ∙ mine,
    )

apart : (b : Bool) → b ≡ false → b ≡ true → ⊥
apart b e h = false≢true (sym e ∙ h)

pub returns-then-other-cut-clause-apart : goal.returns-then-other-cut-clause-apart
returns-then-other-cut-clause-apart c =
    let other = ap (λ (v : CutOf). v.x) c.other.view_is in
    let mine = ap (λ (v : CutOf). v.x) c.cut.view_is in
    let decides = slice_eq-Decides Decides-int_eq c.entries.result.now c.entries-then-other-cut.result.now c.eq.result c.eq.ensures in
    λ e same. apart c.eq.result e (decides.1 (c.entries.ensures.value ∙ other ∙ same.1 ∙ sym (c.entries-then-other-cut.ensures.value ∙ mine)))

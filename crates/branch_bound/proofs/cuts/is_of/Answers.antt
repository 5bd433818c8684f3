use Rattle.std.proofs.Common.{◌≡◌, Bool, true, false, ap, sym, ◌∙◌}
use Rattle.std.proofs.lemmas.Bool.{false≢true}
use Rattle.std.proofs.lemmas.Bool.Decides.{Decides-int_eq}
use Rattle.std.proofs.lemmas.Slice.Eq.{slice_eq-Decides}
use Rattle.cut_pool.specs.Cut.{CutOf}
use Rattle.branch_bound.proofs.cuts.is_of.Goals as goal

pub returns-then-cut-limit-clause-same : goal.returns-then-cut-limit-clause-same
returns-then-cut-limit-clause-same c =
    let moved = ap (λ (v : CutOf). v.x) c.cut.view_is in
    let decides = slice_eq-Decides Decides-int_eq c.entries.result.now c.entries-then-cut-limit.result.now c.eq.result c.eq.ensures in
    λ e. (sym (ap (λ (v : CutOf). v.limit) c.cut.view_is) ∙ c.if-cut-limit.true, sym (c.entries.ensures.value ∙ moved) ∙ decides.0 e ∙ c.entries-then-cut-limit.ensures.value)

apart : (b : Bool) → b ≡ false → b ≡ true → ⊥
apart b e h = false≢true (sym e ∙ h)

pub returns-then-cut-limit-clause-apart : goal.returns-then-cut-limit-clause-apart
returns-then-cut-limit-clause-apart c =
    let moved = ap (λ (v : CutOf). v.x) c.cut.view_is in
    let decides = slice_eq-Decides Decides-int_eq c.entries.result.now c.entries-then-cut-limit.result.now c.eq.result c.eq.ensures in
    λ e same. apart c.eq.result e (decides.1 (c.entries.ensures.value ∙ moved ∙ same.1 ∙ sym c.entries-then-cut-limit.ensures.value))

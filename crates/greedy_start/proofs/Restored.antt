use Rattle.std.proofs.Common.{◌≡◌, ℕ, Bool, false, List, IfSome, ap, ◌∙◌, Some, None}
use Rattle.std.specs.Prelude.{Option, slice_get, slice_set}
use Rattle.pivot_chain.proofs.Plans.{set_back}

-- a plan from which a candidate was taken, and to which it was given back, is as it was
pub restored : (plan without again : List Bool) (i : ℕ) (b : Bool) → slice_get plan i ≡ Some b → without ≡ slice_set plan i false → again ≡ slice_set without i b →
    again ≡ plan
restored plan without again i b is taken given =
    given ∙ ap (λ (p : List Bool). slice_set p i b) taken ∙ set_back plan i b false is

-- what holds anyway holds where there is a value
pub whichever : {A : Type 0} {P : Type 0} (found : Option A) → P → IfSome found (λ _. P)
whichever (Some x) p = p
whichever None p = tt

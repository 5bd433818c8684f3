use Rattle.std.proofs.Common.{◌≡◌, ◌<◌, ◌+◌, ℕ, zero, suc, Bool, List, [], ◌∷◌, length, arith, refl, ap, ap₂, sym, ◌∙◌, Some, below_more}
use Rattle.std.specs.Prelude.{slice_get, slice_set}
use Rattle.geo_model.specs.Network.{NetworkOf}
use Rattle.pivot_chain.proofs.CertifiedLemmas.{limit_named}
use Rattle.factor_stack.specs.Stack.{StackOf, IsStackOf}

-- A plan that is brought to another one, candidate by candidate.

-- the first entries of two plans are the same
abbrev pub Agree : ℕ → List Bool → List Bool → Type 0
Agree count plan other = (j : ℕ) → j < count → slice_get plan j ≡ slice_get other j

-- an entry that is set, where the plan has it
get_set : (plan : List Bool) (i : ℕ) (b : Bool) → i < length plan → slice_get (slice_set plan i b) i ≡ Some b
get_set [] i b below = absurd (omega arith)
get_set (x ∷ plan) zero b below = refl
get_set (x ∷ plan) (suc i) b below = get_set plan i b (omega arith)

-- and the ones before it
get_before : (plan : List Bool) (i j : ℕ) (b : Bool) → j < i → slice_get (slice_set plan i b) j ≡ slice_get plan j
get_before [] i j b below = refl
get_before (x ∷ plan) zero j b below = absurd (omega arith)
get_before (x ∷ plan) (suc i) zero b below = refl
get_before (x ∷ plan) (suc i) (suc j) b below = get_before plan i j b (omega arith)

-- one entry more
pub agree_more : (plan now other : List Bool) (i : ℕ) (b : Bool) → Agree i plan other → i < length plan → now ≡ slice_set plan i b → slice_get other i ≡ Some b →
    Agree (i + 1) now other
agree_more plan now other i b agree below set_there is =
    below_more (λ (j : ℕ). slice_get now j ≡ slice_get other j) i
    (λ j before. ap (λ (p : List Bool). slice_get p j) set_there ∙ get_before plan i j b before ∙ agree j before)
    (ap (λ (p : List Bool). slice_get p i) set_there ∙ get_set plan i b below ∙ sym is)

-- plans that are as long and agree to their end are the same
pub same_by_agree : (plan other : List Bool) → length plan ≡ length other → Agree (length plan) plan other → plan ≡ other
same_by_agree [] [] same agree = refl
same_by_agree [] (y ∷ other) same agree = absurd (omega (arith, same))
same_by_agree (x ∷ plan) [] same agree = absurd (omega (arith, same))
same_by_agree (x ∷ plan) (y ∷ other) same agree =
    ap₂ (λ (a : Bool) (rest : List Bool). a ∷ rest) (inner x y (agree zero (omega arith)))
    (same_by_agree plan other (omega (arith, same)) (λ j below. agree (suc j) (omega arith)))
  where
    inner : (a b : Bool) → Some a ≡ Some b → a ≡ b
    inner a b e = cc

-- the plan of a stack has an entry for each candidate
pub stack_places : (network : NetworkOf) (stack : StackOf) → IsStackOf network stack → length stack.now.plan ≡ length network.candidates
stack_places network stack made = let named = limit_named network.limits stack.limit made.limit in (made.now named.0 named.1).places

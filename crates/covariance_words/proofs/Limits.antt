-- What each limit means: its load is a sum of squares of forms, and the law of covariances speaks of those.
use Rattle.std.proofs.Common.{◌≡◌, ◌↔◌, ℕ, ◌*◌, ◌^◌, ◌<◌, ◌≤◌, List, [], ◌∷◌, Bool, Some, length, slice_get, refl, sym, ◌∙◌, ap, ap₂, subst, arith, ℤ, pos, ◌+ℤ◌, ◌-ℤ◌, ◌*ℤ◌, ◌≤ℤ◌, ◌<ℤ◌}
use Rattle.std.specs.Prelude.{All}
use Rattle.std.specs.List.{IsDistinct}
use Rattle.std.proofs.Math.Nat.{mul-le-mul}
use Rattle.std.proofs.lemmas.Int.{ints}
use Rattle.std.proofs.lemmas.Option.{slice_get_within, get_or_from_slice_get}
use Rattle.whole_algebra.proofs.Ring.{mul_zero}
use Rattle.whole_algebra.proofs.Order.{le_of_mul_le, mul_pos, square_nonneg}
use Rattle.whole_algebra.proofs.Normal.{ring, x0, x1, x2, lit, ◌⊕◌, ◌⊗◌}
use Rattle.covariance_law.specs.Vectors.{Vector, Matrix, inner, applied, form}
use Rattle.covariance_law.specs.Covariance.{squares, EnergyBearsLoad, VarianceIsWithin}
use Rattle.covariance_law.proofs.Cauchy.{zero-of-square}
use Rattle.covariance_law.proofs.Law.{energies_and_covariances}
use Rattle.geo_model.specs.declared.network.Component.TheVariants as component
use Rattle.geo_model.specs.declared.network.Unknown.{Unknown}
use Rattle.geo_model.specs.Row.{Displaced, RowOf, IsRow, form_at}
use Rattle.geo_model.specs.Candidate.{IsCandidate}
use Rattle.geo_model.specs.Energy.{energy}
use Rattle.geo_model.specs.Limit.{SquareOf, load}
use Rattle.geo_model.specs.Network.{NetworkOf}
use Rattle.geo_model.specs.Meeting.{MeetsLimit}
use Rattle.normal_matrix.specs.Entries.{coefficient, normal_entry}
use Rattle.design_rows.specs.Unknowns.{is_same, unknown}
use Rattle.design_rows.proofs.PlaceFacts.{number-of-at}
use Rattle.net_build.specs.Build.{axis_limit, height_limit, redundancy_limit, square_on}
use Rattle.net_build.proofs.EntryFacts.{square-some}
use Rattle.covariance_words.specs.Precision.{IsCovariance, HasAxisWithin, HasHeightWithin, HasRedundancy}
use Rattle.covariance_words.proofs.EnergyForm.{energy-form, form_at-inner, normal-is}
use Rattle.covariance_words.proofs.Directions.{le_moved, unit_row, inner-unit_row, between-units, within-one, within-axes, pair, complement}

pub through : {A B C : Type 0} → A ↔ B → B ↔ C → A ↔ C
through f g = (λ a. g.0 (f.0 a), λ c. f.1 (g.1 c))

pub All-at : {X : Type 0} (P : X → Type 0) (xs : List X) (k : ℕ) (x : X) → All P xs → slice_get xs k ≡ Some x → P x
All-at P xs k x all is = subst P (get_or_from_slice_get xs k x x is) (all k x (slice_get_within xs k x is))

-- what a network of tables has
pub record IsOrderly (network : NetworkOf) : Type 0 where
  pub apart : IsDistinct is_same network.unknowns
  pub candidates : All (IsCandidate (length network.unknowns)) network.candidates

-- ---- a limit whose load is a sum of squares of forms
pub load-law : (network : NetworkOf) (plan : List Bool) (c : Matrix) (d : ℤ) (p : ℕ) (h : Matrix) (alpha beta : ℤ) (list : List SquareOf)
    → IsOrderly network → IsCovariance network plan c d → pos 0 <ℤ alpha → pos 0 <ℤ beta
    → ((z : Displaced) → load list z ≡ beta *ℤ squares p (length network.unknowns) h z)
    → ((z : Displaced) → load list z ≤ℤ (alpha *ℤ energy network.candidates plan z)) ↔ VarianceIsWithin (length network.unknowns) p c h d alpha beta
load-law network plan c d p h alpha beta list orderly covariance a b same =
    through (down, up) (energies_and_covariances n p m c h d alpha beta (normal-is n network.candidates plan orderly.candidates) covariance a b)
  where
    n : ℕ
    n = length network.unknowns

    m : Matrix
    m = normal_entry network.candidates plan

    energies : (z : Displaced) → alpha *ℤ energy network.candidates plan z ≡ alpha *ℤ form n m z
    energies z = ap (λ t. alpha *ℤ t) (sym (energy-form n network.candidates plan z orderly.candidates))

    down : ((z : Displaced) → load list z ≤ℤ (alpha *ℤ energy network.candidates plan z)) → EnergyBearsLoad n p m h alpha beta
    down meets z = le_moved (load list z) (beta *ℤ squares p n h z) (alpha *ℤ energy network.candidates plan z) (alpha *ℤ form n m z) (same z) (energies z) (meets z)

    up : EnergyBearsLoad n p m h alpha beta → (z : Displaced) → load list z ≤ℤ (alpha *ℤ energy network.candidates plan z)
    up bears z =
        le_moved (beta *ℤ squares p n h z) (load list z) (alpha *ℤ form n m z) (alpha *ℤ energy network.candidates plan z)
        (sym (same z)) (sym (energies z)) (bears z)

-- ---- the square of an unknown
square-at : (unknowns : List Unknown) (u : Unknown) (k : ℕ) → IsDistinct is_same unknowns → slice_get unknowns k ≡ Some u
    → record { beta = pos (10 ^ 14); entries = (k, pos 1) ∷ [] } ≡ square_on unknowns u
square-at unknowns u k apart at =
    square-some unknowns u k (Some k) ((k, pos 1) ∷ [])
    (λ j. (
      λ same. let e : k ≡ j = cc same in subst (λ (i : ℕ). slice_get unknowns i ≡ Some u) e at,
      λ there. sym (number-of-at unknowns apart k u at) ∙ number-of-at unknowns apart j u there,
    ))
    refl refl

load-one : (unknowns : List Unknown) (u : Unknown) (k : ℕ) (rest : List SquareOf) (z : Displaced) → IsDistinct is_same unknowns → slice_get unknowns k ≡ Some u
    → load (square_on unknowns u ∷ rest) z ≡ pos (10 ^ 14) *ℤ (z k *ℤ z k) +ℤ load rest z
load-one unknowns u k rest z apart at =
    ap (λ (s : SquareOf). load (s ∷ rest) z) (sym (square-at unknowns u k apart at))
    ∙ numbers (pos (10 ^ 14)) (z k) (load rest z)
  where
    numbers : (b x r : ℤ) → b *ℤ ((pos 1 *ℤ x +ℤ pos 0) *ℤ (pos 1 *ℤ x +ℤ pos 0)) +ℤ r ≡ b *ℤ (x *ℤ x) +ℤ r
    numbers b x r = ring (x0 ⊗ ((lit 1 ⊗ x1 ⊕ lit 0) ⊗ (lit 1 ⊗ x1 ⊕ lit 0)) ⊕ x2) (x0 ⊗ (x1 ⊗ x1) ⊕ x2) (b ∷ x ∷ r ∷ []) refl

pub axis-load : (unknowns : List Unknown) (place x y : ℕ) (z : Displaced) → IsDistinct is_same unknowns
    → slice_get unknowns x ≡ Some (unknown place component.X) → slice_get unknowns y ≡ Some (unknown place component.Y)
    → load (square_on unknowns (unknown place component.X) ∷ square_on unknowns (unknown place component.Y) ∷ []) z
    ≡ pos (10 ^ 14) *ℤ (z x *ℤ z x +ℤ z y *ℤ z y)
axis-load unknowns place x y z apart at_x at_y =
    load-one unknowns (unknown place component.X) x (square_on unknowns (unknown place component.Y) ∷ []) z apart at_x
    ∙ ap (λ t. pos (10 ^ 14) *ℤ (z x *ℤ z x) +ℤ t) (load-one unknowns (unknown place component.Y) y [] z apart at_y)
    ∙ numbers (pos (10 ^ 14)) (z x *ℤ z x) (z y *ℤ z y)
  where
    numbers : (b s t : ℤ) → b *ℤ s +ℤ (b *ℤ t +ℤ pos 0) ≡ b *ℤ (s +ℤ t)
    numbers b s t = ring (x0 ⊗ x1 ⊕ (x0 ⊗ x2 ⊕ lit 0)) (x0 ⊗ (x1 ⊕ x2)) (b ∷ s ∷ t ∷ []) refl

pub height-load : (unknowns : List Unknown) (place k : ℕ) (z : Displaced) → IsDistinct is_same unknowns
    → slice_get unknowns k ≡ Some (unknown place component.Z)
    → load (square_on unknowns (unknown place component.Z) ∷ []) z ≡ pos (10 ^ 14) *ℤ (z k *ℤ z k)
height-load unknowns place k z apart at =
    load-one unknowns (unknown place component.Z) k [] z apart at ∙ numbers (pos (10 ^ 14)) (z k *ℤ z k)
  where
    numbers : (b s : ℤ) → b *ℤ s +ℤ pos 0 ≡ b *ℤ s
    numbers b s = ring (x0 ⊗ x1 ⊕ lit 0) (x0 ⊗ x1) (b ∷ s ∷ []) refl

square-positive : (s : ℕ) → 1 ≤ s → pos 0 <ℤ pos (s * s)
square-positive s least = let h : 1 * 1 ≤ s * s = mul-le-mul least least in omega (arith, ints)

big-positive : pos 0 <ℤ pos (10 ^ 14)
big-positive = omega (arith, ints)

-- ---- the three limits
pub axis-law : (network : NetworkOf) (plan : List Bool) (c : Matrix) (d : ℤ) (place s x y : ℕ) → IsOrderly network → IsCovariance network plan c d → 1 ≤ s
    → slice_get network.unknowns x ≡ Some (unknown place component.X) → slice_get network.unknowns y ≡ Some (unknown place component.Y)
    → MeetsLimit network plan (axis_limit network.unknowns place s) ↔ HasAxisWithin c d x y s
unfolding axis_limit
axis-law network plan c d place s x y orderly covariance least at_x at_y =
    through
    (load-law network plan c d 2 (pair (unit_row x) (unit_row y)) (pos (s * s)) (pos (10 ^ 14))
    (square_on us (unknown place component.X) ∷ square_on us (unknown place component.Y) ∷ []) orderly covariance (square-positive s least) big-positive
    (λ z. axis-load us place x y z orderly.apart at_x at_y
    ∙ sym (forms (pos (10 ^ 14)) (inner n (unit_row x) z) (inner n (unit_row y) z) (z x) (z y) (inner-unit_row n x z inside_x) (inner-unit_row n y z inside_y))))
    (within-axes n c d (pos (s * s)) (pos (10 ^ 14)) x y inside_x inside_y)
  where
    us : List Unknown
    us = network.unknowns

    n : ℕ
    n = length network.unknowns

    inside_x : x < n
    inside_x = slice_get_within network.unknowns x (unknown place component.X) at_x

    inside_y : y < n
    inside_y = slice_get_within network.unknowns y (unknown place component.Y) at_y

    forms : (b f g s t : ℤ) → f ≡ s → g ≡ t → b *ℤ ((pos 0 +ℤ f *ℤ f) +ℤ g *ℤ g) ≡ b *ℤ (s *ℤ s +ℤ t *ℤ t)
    forms b f g s t e h =
        ap₂ (λ p q. b *ℤ ((pos 0 +ℤ p *ℤ p) +ℤ q *ℤ q)) e h
        ∙ ring (x0 ⊗ ((lit 0 ⊕ x1 ⊗ x1) ⊕ x2 ⊗ x2)) (x0 ⊗ (x1 ⊗ x1 ⊕ x2 ⊗ x2)) (b ∷ s ∷ t ∷ []) refl

one-form : (b f s : ℤ) → f ≡ s → b *ℤ (pos 0 +ℤ f *ℤ f) ≡ b *ℤ (s *ℤ s)
one-form b f s e = ap (λ p. b *ℤ (pos 0 +ℤ p *ℤ p)) e ∙ ring (x0 ⊗ (lit 0 ⊕ x1 ⊗ x1)) (x0 ⊗ (x1 ⊗ x1)) (b ∷ s ∷ []) refl

pub height-law : (network : NetworkOf) (plan : List Bool) (c : Matrix) (d : ℤ) (place s k : ℕ) → IsOrderly network → IsCovariance network plan c d → 1 ≤ s
    → slice_get network.unknowns k ≡ Some (unknown place component.Z)
    → MeetsLimit network plan (height_limit network.unknowns place s) ↔ HasHeightWithin c d k s
unfolding height_limit
height-law network plan c d place s k orderly covariance least at =
    through
    (load-law network plan c d 1 (λ i. unit_row k) (pos (s * s)) (pos (10 ^ 14)) (square_on us (unknown place component.Z) ∷ []) orderly covariance (square-positive s least) big-positive
    (λ z. height-load us place k z orderly.apart at ∙ sym (one-form (pos (10 ^ 14)) (inner n (unit_row k) z) (z k) (inner-unit_row n k z inside))))
    (through (within-one n c (unit_row k) d (pos (s * s)) (pos (10 ^ 14))) (
      λ h. subst (λ t. (pos (10 ^ 14) *ℤ t) ≤ℤ (pos (s * s) *ℤ d)) (between-units n c k k inside inside) h,
      λ h. subst (λ t. (pos (10 ^ 14) *ℤ t) ≤ℤ (pos (s * s) *ℤ d)) (sym (between-units n c k k inside inside)) h,
    ))
  where
    us : List Unknown
    us = network.unknowns

    n : ℕ
    n = length network.unknowns

    inside : k < n
    inside = slice_get_within network.unknowns k (unknown place component.Z) at

pub redundancy-law : (network : NetworkOf) (plan : List Bool) (c : Matrix) (d : ℤ) (q owner k : ℕ) (row : RowOf) → IsOrderly network → IsCovariance network plan c d → q ≤ 999
    → IsRow row → All (λ entry. entry.0 < length network.unknowns) row.entries
    → MeetsLimit network plan (redundancy_limit q owner (k, row)) ↔ HasRedundancy (length network.unknowns) c d row q
unfolding redundancy_limit
redundancy-law network plan c d q owner k row orderly covariance within bounds columns =
    through
    (load-law network plan c d 1 (λ i. a) (pos 1000 -ℤ pos q) (pos 1000 *ℤ row.weight) (record { beta = pos 1000 *ℤ row.weight; entries = row.entries } ∷ []) orderly covariance
    (let h : pos 0 <ℤ (pos 1000 -ℤ pos q) = omega (arith, ints) in h)
    (mul_pos (pos 1000) row.weight (omega (arith, ints)) (let w = bounds.weight_low in omega (arith, ints)))
    (λ z. numbers (pos 1000 *ℤ row.weight) (form_at row.entries z) ∙ sym (one-form (pos 1000 *ℤ row.weight) (inner n a z) (form_at row.entries z) (form_at-inner n row.entries z columns))))
    (through (within-one n c a d (pos 1000 -ℤ pos q) (pos 1000 *ℤ row.weight))
    (complement (pos q) d row.weight (inner n a (applied n c a))))
  where
    n : ℕ
    n = length network.unknowns

    a : Vector
    a = coefficient row.entries

    numbers : (b f : ℤ) → b *ℤ (f *ℤ f) +ℤ pos 0 ≡ b *ℤ (f *ℤ f)
    numbers b f = ring (x0 ⊗ (x1 ⊗ x1) ⊕ lit 0) (x0 ⊗ (x1 ⊗ x1)) (b ∷ f ∷ []) refl

-- ---- displacements that cost no energy
no-load : (l alpha e b t : ℤ) → pos 0 <ℤ b → l ≤ℤ (alpha *ℤ e) → e ≡ pos 0 → l ≡ b *ℤ t → t ≤ℤ pos 0
no-load l alpha e b t positive h none is =
    let f : alpha *ℤ e ≡ pos 0 = ap (λ z. alpha *ℤ z) none ∙ mul_zero alpha in
    let g : b *ℤ pos 0 ≡ pos 0 = mul_zero b in
    le_of_mul_le b t (pos 0) positive (le_moved l (b *ℤ t) (alpha *ℤ e) (b *ℤ pos 0) is (f ∙ sym g) h)

pub axis-still : (network : NetworkOf) (plan : List Bool) (z : Displaced) (place s x y : ℕ) → IsOrderly network → energy network.candidates plan z ≡ pos 0
    → MeetsLimit network plan (axis_limit network.unknowns place s)
    → slice_get network.unknowns x ≡ Some (unknown place component.X) → slice_get network.unknowns y ≡ Some (unknown place component.Y)
    → (z x ≡ pos 0) × (z y ≡ pos 0)
unfolding axis_limit
axis-still network plan z place s x y orderly none meets at_x at_y =
    let us = network.unknowns in
    let sum = no-load (load (square_on us (unknown place component.X) ∷ square_on us (unknown place component.Y) ∷ []) z) (pos (s * s))
    (energy network.candidates plan z) (pos (10 ^ 14)) (z x *ℤ z x +ℤ z y *ℤ z y) big-positive (meets z) none (axis-load us place x y z orderly.apart at_x at_y) in
    let f = square_nonneg (z x) in
    let g = square_nonneg (z y) in
    (zero-of-square (z x) (first (z x *ℤ z x) (z y *ℤ z y) sum g), zero-of-square (z y) (second (z x *ℤ z x) (z y *ℤ z y) sum f))
  where
    first : (a b : ℤ) → (a +ℤ b) ≤ℤ pos 0 → pos 0 ≤ℤ b → a ≤ℤ pos 0
    first a b h k = omega (arith, ints)

    second : (a b : ℤ) → (a +ℤ b) ≤ℤ pos 0 → pos 0 ≤ℤ a → b ≤ℤ pos 0
    second a b h k = omega (arith, ints)

pub height-still : (network : NetworkOf) (plan : List Bool) (z : Displaced) (place s k : ℕ) → IsOrderly network → energy network.candidates plan z ≡ pos 0
    → MeetsLimit network plan (height_limit network.unknowns place s)
    → slice_get network.unknowns k ≡ Some (unknown place component.Z) → z k ≡ pos 0
unfolding height_limit
height-still network plan z place s k orderly none meets at =
    let us = network.unknowns in
    zero-of-square (z k)
    (no-load (load (square_on us (unknown place component.Z) ∷ []) z) (pos (s * s)) (energy network.candidates plan z) (pos (10 ^ 14)) (z k *ℤ z k) big-positive
    (meets z) none (height-load us place k z orderly.apart at))

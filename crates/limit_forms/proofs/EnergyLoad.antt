-- The form of a limit is the factor times the energy, less the load.
use Rattle.std.proofs.Common.{◌≡◌, ℕ, ◌<◌, ℤ, pos, negsuc, ◌+ℤ◌, ◌-ℤ◌, ◌*ℤ◌, Bool, List, [], ◌∷◌, map, length, refl, sym, ◌∙◌, ap, ap₂}
use Rattle.std.specs.Prelude.{All}
use Rattle.std.proofs.lemmas.List.Elements.{All-head, All-tail}
use Rattle.whole_algebra.specs.Sums.{int_sum_by, dot}
use Rattle.whole_algebra.specs.Matrices.{quad}
use Rattle.whole_algebra.specs.Grid.{packed}
use Rattle.whole_algebra.proofs.GridLaws.{quad-packed_sum, quad-packed_rows, packed-same}
use Rattle.whole_algebra.proofs.Normal.{ring, x0, x1, x2, lit, opposite_of, ◌⊕◌, ◌⊗◌, ◌⊖◌}
use Rattle.geo_model.specs.Row.{Displaced}
use Rattle.geo_model.specs.Energy.{energy}
use Rattle.geo_model.specs.Limit.{SquareOf, IsLoad, load}
use Rattle.geo_model.specs.Network.{NetworkOf, IsNetwork}
use Rattle.normal_matrix.specs.Entries.{coefficient, normal_entry, HasEachOnce}
use Rattle.normal_matrix.proofs.EnergyForm.{form_at-dot, energy_is_quad}
use Rattle.limit_forms.specs.Form.{load_entry}
use Rattle.limit_forms.specs.Grid.{order_of, form_matrix}
use Rattle.limit_forms.proofs.Orders.{order_of-each_once}

squares_load : (n : ℕ) (squares : List SquareOf) (us : List ℕ) (x : Displaced) → All (λ square. All (λ entry. entry.0 < n) square.entries) squares → HasEachOnce n us
    → int_sum_by (λ square. square.beta *ℤ (dot (map (coefficient square.entries) us) (map x us) *ℤ dot (map (coefficient square.entries) us) (map x us))) squares
    ≡ load squares x
squares_load n [] us x below once = refl
squares_load n (square ∷ rest) us x below once =
    let form = form_at-dot n square.entries us x (All-head (λ (s : SquareOf). All (λ (entry : ℕ × ℤ). entry.0 < n) s.entries) square rest below) once in
    ap₂ (λ s t. s +ℤ t) (ap (λ z. square.beta *ℤ (z *ℤ z)) form)
    (squares_load n rest us x (All-tail (λ (s : SquareOf). All (λ (entry : ℕ × ℤ). entry.0 < n) s.entries) square rest below) once)

-- the load is the form of its matrix
load_quad : (n : ℕ) (squares : List SquareOf) (us : List ℕ) (x : Displaced) → All (λ square. All (λ entry. entry.0 < n) square.entries) squares → HasEachOnce n us
    → quad (packed (load_entry squares) us) (map x us) ≡ load squares x
load_quad n squares us x below once =
    quad-packed_rows (λ (square : SquareOf). square.beta) (λ (square : SquareOf). coefficient square.entries) squares us (map x us)
    ∙ squares_load n squares us x below once

difference_quad : (a : ℤ) (f g : ℕ → ℕ → ℤ) (us : List ℕ) (y : List ℤ)
    → quad (packed (λ i j. a *ℤ f i j -ℤ g i j) us) y ≡ a *ℤ quad (packed f us) y -ℤ quad (packed g us) y
difference_quad a f g us y =
    ap (λ m. quad m y)
    (packed-same (λ i j. a *ℤ f i j -ℤ g i j) (λ i j. (f i j +ℤ (a -ℤ pos 1) *ℤ f i j) +ℤ negsuc 0 *ℤ g i j) us
    (λ i j. ring (x0 ⊗ x1 ⊖ x2) ((x1 ⊕ (x0 ⊖ lit 1) ⊗ x1) ⊕ opposite_of (lit 1) ⊗ x2) (a ∷ f i j ∷ g i j ∷ []) refl))
    ∙ quad-packed_sum (negsuc 0) (λ i j. f i j +ℤ (a -ℤ pos 1) *ℤ f i j) g us y
    ∙ ap (λ t. t +ℤ negsuc 0 *ℤ quad (packed g us) y) (quad-packed_sum (a -ℤ pos 1) f f us y)
    ∙ ring ((x1 ⊕ (x0 ⊖ lit 1) ⊗ x1) ⊕ opposite_of (lit 1) ⊗ x2) (x0 ⊗ x1 ⊖ x2) (a ∷ quad (packed f us) y ∷ quad (packed g us) y ∷ []) refl

pub form_is_energy_less : (network : NetworkOf) (plan : List Bool) (alpha : ℤ) (squares : List SquareOf) (x : Displaced)
    → IsNetwork network → IsLoad (length network.unknowns) network.candidates alpha squares
    → quad (form_matrix network plan alpha squares) (map x (order_of (length network.unknowns) squares))
    ≡ alpha *ℤ energy network.candidates plan x -ℤ load squares x
form_is_energy_less network plan alpha squares x bounds limit =
    let n = length network.unknowns in
    let order = order_of n squares in
    let once = order_of-each_once n squares in
    difference_quad alpha (normal_entry network.candidates plan) (load_entry squares) order (map x order)
    ∙ ap₂ (λ s t. alpha *ℤ s -ℤ t)
    (sym (energy_is_quad n network.candidates plan order x bounds.each_candidate once))
    (load_quad n squares order x limit.columns once)

-- What a verdict on the two grid matrices says of the limit.
use Rattle.std.proofs.Common.{◌≡◌, ℕ, ◌+◌, ◌-◌, ◌*◌, ◌^◌, ◌≤◌, Bool, List, [], ◌∷◌, length, map, replicate, refl, sym, ◌∙◌, ap, ap₂, subst, arith, ℤ, pos, ◌+ℤ◌, ◌-ℤ◌, ◌*ℤ◌, ◌≤ℤ◌, ◌<ℤ◌}
use Rattle.std.specs.Prelude.{unsigned_abs}
use Rattle.std.proofs.lemmas.Int.{ints}
use Rattle.std.proofs.lemmas.Nat.{pow-add}
use Rattle.std.proofs.lemmas.List.{length-map}
use Rattle.whole_algebra.specs.Matrices.{quad, lower_over, upper_over, IsTriangle}
use Rattle.whole_algebra.specs.Chains.{met, refuted, chains_outcome, size_limit}
use Rattle.whole_algebra.specs.Grid.{times_lists}
use Rattle.whole_algebra.proofs.Slack.{lower_is_below, upper_is_above}
use Rattle.whole_algebra.proofs.GridLaws.{quad-scaled, grid-met, grid-refuted, triangle-packed}
use Rattle.geo_model.specs.Row.{Displaced}
use Rattle.geo_model.specs.Energy.{energy}
use Rattle.geo_model.specs.Limit.{SquareOf, IsLoad, load}
use Rattle.geo_model.specs.Network.{NetworkOf, IsNetwork}
use Rattle.limit_forms.specs.Form.{form_of}
use Rattle.limit_forms.specs.Grid.{order_of, exponent_at, scale_of, scales_of, form_matrix, on_grid, grid_step, lower_grid, upper_grid}
use Rattle.limit_forms.proofs.Orders.{length-order_of, spread, spread_over_order}
use Rattle.limit_forms.proofs.EnergyLoad.{form_is_energy_less}
use Rattle.limit_forms.proofs.Sizes.{scaled_unknown}
use Rattle.limit_forms.proofs.GridEntries.{step_above, upper_heads}

pub form_triangle : (network : NetworkOf) (plan : List Bool) (alpha : ℤ) (squares : List SquareOf) → IsTriangle (length network.unknowns) (form_matrix network plan alpha squares)
form_triangle network plan alpha squares =
    subst (λ n. IsTriangle n (form_matrix network plan alpha squares)) (length-order_of (length network.unknowns) squares)
    (triangle-packed (form_of network.candidates plan alpha squares) (order_of (length network.unknowns) squares))

pub length-scales : (network : NetworkOf) (alpha : ℤ) (squares : List SquareOf) → length (scales_of network alpha squares) ≡ length network.unknowns
length-scales network alpha squares =
    length-map (order_of (length network.unknowns) squares) (scale_of network.candidates alpha) ∙ length-order_of (length network.unknowns) squares

-- ---- below and above
pub lower_below : (network : NetworkOf) (plan : List Bool) (alpha : ℤ) (squares : List SquareOf) (z : List ℤ)
    → (grid_step *ℤ quad (lower_grid network plan alpha squares) z) ≤ℤ quad (form_matrix network plan alpha squares) (times_lists (scales_of network alpha squares) z)
unfolding lower_grid
lower_below network plan alpha squares z =
    subst (λ q. (grid_step *ℤ quad (lower_over grid_step (on_grid network plan alpha squares)) z) ≤ℤ q)
    (quad-scaled (scales_of network alpha squares) (form_matrix network plan alpha squares) z)
    (lower_is_below grid_step (on_grid network plan alpha squares) z step_above)

pub upper_above : (network : NetworkOf) (plan : List Bool) (alpha : ℤ) (squares : List SquareOf) (z : List ℤ)
    → quad (form_matrix network plan alpha squares) (times_lists (scales_of network alpha squares) z) ≤ℤ (grid_step *ℤ quad (upper_grid network plan alpha squares) z)
unfolding upper_grid
upper_above network plan alpha squares z =
    subst (λ q. q ≤ℤ (grid_step *ℤ quad (upper_over grid_step (on_grid network plan alpha squares)) z))
    (quad-scaled (scales_of network alpha squares) (form_matrix network plan alpha squares) z)
    (upper_is_above grid_step (on_grid network plan alpha squares) z step_above)

-- ---- the verdicts
-- what a scale is short of 2 ^ 89
part_of : NetworkOf → ℤ → ℕ → ℤ
part_of network alpha i = pos (2 ^ (89 - unsigned_abs (pos 60 -ℤ exponent_at network.candidates alpha i)))

scale_times_part : (network : NetworkOf) (alpha : ℤ) → IsNetwork network → pos 1 ≤ℤ alpha → alpha ≤ℤ pos 1000000 → (i : ℕ) → scale_of network.candidates alpha i *ℤ part_of network alpha i ≡ pos (2 ^ 89)
unfolding part_of
scale_times_part network alpha bounds low high i =
    let s = (scaled_unknown network alpha i bounds low high).scale in
    by (unsigned_abs (pos 60 -ℤ exponent_at network.candidates alpha i)) s.high
  where
    by : (u : ℕ) → u ≤ 89 → pos (2 ^ u) *ℤ pos (2 ^ (89 - u)) ≡ pos (2 ^ 89)
    by u le =
        let sum : u + (89 - u) ≡ 89 = omega arith in
        ap pos (sym (pow-add 2 u (89 - u)) ∙ ap (λ (t : ℕ). 2 ^ t) sum)

times_maps : (f g : ℕ → ℤ) (p : ℤ) (us : List ℕ) → ((u : ℕ) → f u *ℤ g u ≡ p) → times_lists (map f us) (map g us) ≡ replicate (length us) p
times_maps f g p [] e = refl
times_maps f g p (u ∷ us) e = ap₂ ◌∷◌ (e u) (times_maps f g p us e)

pub met_everywhere : (network : NetworkOf) (plan : List Bool) (alpha : ℤ) (squares : List SquareOf) (x : Displaced)
    → IsNetwork network → IsLoad (length network.unknowns) network.candidates alpha squares
    → chains_outcome (lower_grid network plan alpha squares) (upper_grid network plan alpha squares) ≡ met
    → load squares x ≤ℤ (alpha *ℤ energy network.candidates plan x)
unfolding lower_grid upper_grid
met_everywhere network plan alpha squares x bounds limit is =
    let n = length network.unknowns in
    let order = order_of n squares in
    let parts = map (part_of network alpha) order in
    let product = times_maps (scale_of network.candidates alpha) (part_of network alpha) (pos (2 ^ 89)) order (scale_times_part network alpha bounds limit.alpha_low limit.alpha_high) in
    let nonneg = grid-met n (form_matrix network plan alpha squares) (scales_of network alpha squares) parts grid_step (pos (2 ^ 89))
    (form_triangle network plan alpha squares) (length-scales network alpha squares) (length-map order (part_of network alpha) ∙ length-order_of n squares)
    step_above (omega (arith, ints)) (product ∙ ap (λ k. replicate k (pos (2 ^ 89))) (length-order_of n squares)) is (map x order) in
    by (quad (form_matrix network plan alpha squares) (map x order)) (alpha *ℤ energy network.candidates plan x) (load squares x) nonneg (form_is_energy_less network plan alpha squares x bounds limit)
  where
    by : (q a l : ℤ) → pos 0 ≤ℤ q → q ≡ a -ℤ l → l ≤ℤ a
    by q a l h e = omega (arith, ints)

room : (n : ℕ) → n ≤ 64 → (pos (2 ^ 60 + 64) +ℤ pos (64 * n)) ≤ℤ size_limit
room n le = omega (arith, ints)

on_lists : (network : NetworkOf) (plan : List Bool) (alpha : ℤ) (squares : List SquareOf)
    → IsNetwork network → IsLoad (length network.unknowns) network.candidates alpha squares
    → chains_outcome (lower_grid network plan alpha squares) (upper_grid network plan alpha squares) ≡ refuted
    → (x : List ℤ) × (length x ≡ length network.unknowns) × (quad (form_matrix network plan alpha squares) x <ℤ pos 0)
unfolding lower_grid upper_grid
on_lists network plan alpha squares bounds limit is =
    grid-refuted (length network.unknowns) (form_matrix network plan alpha squares) (scales_of network alpha squares) grid_step (pos (2 ^ 60 + 64))
    (form_triangle network plan alpha squares) (length-scales network alpha squares) step_above bounds.unknowns
    (λ i. upper_heads network plan alpha squares i bounds limit) (room (length network.unknowns) bounds.unknowns) is

pub refuted_somewhere : (network : NetworkOf) (plan : List Bool) (alpha : ℤ) (squares : List SquareOf)
    → IsNetwork network → IsLoad (length network.unknowns) network.candidates alpha squares
    → chains_outcome (lower_grid network plan alpha squares) (upper_grid network plan alpha squares) ≡ refuted
    → (x : Displaced) × ((alpha *ℤ energy network.candidates plan x) <ℤ load squares x)
refuted_somewhere network plan alpha squares bounds limit is =
    let n = length network.unknowns in
    let order = order_of n squares in
    let few = bounds.unknowns in
    let some = on_lists network plan alpha squares bounds limit is in
    let x = spread some.0 order in
    let same = spread_over_order n squares some.0 some.1 in
    let e = form_is_energy_less network plan alpha squares x bounds limit in
    let f = ap (λ z. quad (form_matrix network plan alpha squares) z) same in
    (x, by (quad (form_matrix network plan alpha squares) (map x order)) (quad (form_matrix network plan alpha squares) some.0) (alpha *ℤ energy network.candidates plan x) (load squares x) f some.2 e)
  where
    by : (q r a l : ℤ) → q ≡ r → r <ℤ pos 0 → q ≡ a -ℤ l → a <ℤ l
    by q r a l f h e = omega (arith, ints)

-- Two plans of a node that satisfy a covering inequality where each is counted so many times: no
-- dual bound of the inequality alone is above what they cost together.
use Rattle.std.proofs.Common.{◌≡◌, ◌<◌, ◌≤◌, ℕ, suc, ◌+◌, ◌-◌, ◌*◌, ◌/◌, inl, inr, ℤ, pos, negsuc, ◌+ℤ◌, ◌≤ℤ◌, Bool, List, [], ◌∷◌, length, get_or, None, arith, refl, ap, sym, ◌∙◌}
use Rattle.std.specs.Prelude.{sum_by}
use Rattle.std.proofs.lemmas.Bool.{cases_lt}
use Rattle.std.proofs.lemmas.Int.{ints}
use Rattle.std.proofs.lemmas.List.Elements.{All-nil, All-cons}
use Rattle.std.proofs.lemmas.List.Sums.{sum_by-cons}
use Rattle.std.proofs.Math.Nat.{div-lt_iff_lt-mul, mul-le-mul_left}
use Rattle.geo_model.specs.Cover.{chosen_sum, Satisfies}
use Rattle.geo_model.specs.Below.{int_sum_below}
use Rattle.geo_model.specs.Dual.{WeighedCover, dual_sum, dual_bound, at_least_zero, reduced_price, inner_sum, open_sum, station_term, has_none}
use Rattle.geo_model.specs.Energy.{IsWithin}
use Rattle.geo_model.specs.Prices.{PricesOf, HasStationPrices, plan_price}
use Rattle.geo_model.specs.declared.plan.Node.{Node}
use Rattle.geo_model.proofs.DualLemmas.{dual_sum-below}

-- one covering inequality with its multiplier
abbrev alone : ℕ → List ℕ → ℕ → List WeighedCover
alone y coefficients bound = record { multiplier = y; cover = record { coefficients = coefficients; bound = bound } } ∷ []

paid_alone : (y : ℕ) (coefficients : List ℕ) (bound : ℕ) → sum_by (λ share. share.multiplier * share.cover.bound) (alone y coefficients bound) ≡ y * bound
paid_alone y coefficients bound =
    sum_by-cons (λ (share : WeighedCover). share.multiplier * share.cover.bound) (record { multiplier = y; cover = record { coefficients = coefficients; bound = bound } }) []
    ∙ nothing (y * bound)
  where
    nothing : (n : ℕ) → n + 0 ≡ n
    nothing n = omega arith

swapped : (a : ℤ) (m n : ℕ) → (a +ℤ pos m) +ℤ pos n ≡ (a +ℤ pos n) +ℤ pos m
swapped a m n = omega (arith, ints)

-- another bound of the inequality
other_bound : (prices : PricesOf) (d y : ℕ) (coefficients : List ℕ) (b c : ℕ) (node : Node)
    → dual_sum prices d (alone y coefficients b) node +ℤ pos (y * c) ≡ dual_sum prices d (alone y coefficients c) node +ℤ pos (y * b)
unfolding dual_sum
other_bound prices d y coefficients b c node =
    let r = reduced_price prices d (alone y coefficients b) in
    let head = (inner_sum r node +ℤ open_sum r node (λ i. has_none (get_or prices.stations i None))) +ℤ int_sum_below (station_term prices d r node) (length prices.station_prices) in
    ap (λ (n : ℕ). (head +ℤ pos n) +ℤ pos (y * c)) (paid_alone y coefficients b)
    ∙ swapped head (y * b) (y * c)
    ∙ sym (ap (λ (n : ℕ). (head +ℤ pos n) +ℤ pos (y * b)) (paid_alone y coefficients c))

-- ---- numbers

mixed_numbers : (n y d b e u v first second p q : ℕ) → n + y * first ≤ d * p + y * b → n + y * second ≤ d * q + y * b → u * b + v * b ≤ u * first + v * second → u * p + v * q ≤ u * e + v * e → 0 < u + v → n ≤ d * e
mixed_numbers n y d b e u v first second p q one two reaches cheap some =
    let a1 = mul-le-mul_left u one in
    let a2 = mul-le-mul_left v two in
    let a3 = mul-le-mul_left y reaches in
    let a4 = mul-le-mul_left d cheap in
    elim (cases_lt (d * e) n) [
      | inr le ↦ le
      | inl less ↦ absurd (let most : suc (d * e) ≤ n = omega arith in let bad = mul-le-mul_left (u + v) most in omega arith)
    ]

rounded_below : (n d e : ℕ) → 0 < d → n ≤ d * e → (n + (d - 1)) / d ≤ e
rounded_below n d e positive le =
    let room : n + (d - 1) < suc e * d = omega arith in
    let less : (n + (d - 1)) / d < suc e = (div-lt_iff_lt-mul {k = d} {x = n + (d - 1)} {y = suc e} positive).1 room in
    omega arith

-- ---- the bound

-- d times the price of a plan, beside what the plan has of the inequality
one_plan : (prices : PricesOf) (d y : ℕ) (coefficients : List ℕ) (b n : ℕ) (node : Node) (plan : List Bool) → HasStationPrices prices → IsWithin node.inside plan → IsWithin plan node.upper
    → dual_sum prices d (alone y coefficients b) node ≡ pos n → n + y * chosen_sum coefficients plan ≤ d * plan_price prices plan + y * b
one_plan prices d y coefficients b n node plan stations above below is =
    let c = chosen_sum coefficients plan in
    let enough : c ≤ c = omega arith in
    let low : dual_sum prices d (alone y coefficients c) node ≤ℤ pos (d * plan_price prices plan) =
    dual_sum-below prices d (alone y coefficients c) node plan stations above below
    (All-cons (λ (share : WeighedCover). Satisfies share.cover plan) (record { multiplier = y; cover = record { coefficients = coefficients; bound = c } }) [] enough (All-nil (λ (share : WeighedCover). Satisfies share.cover plan))) in
    numbers n (y * c) (y * b) (d * plan_price prices plan) (dual_sum prices d (alone y coefficients c) node)
    (ap (λ (z : ℤ). z +ℤ pos (y * c)) (sym is) ∙ other_bound prices d y coefficients b c node) low
  where
    numbers : (n m k p : ℕ) (z : ℤ) → pos n +ℤ pos m ≡ z +ℤ pos k → z ≤ℤ pos p → n + m ≤ p + k
    numbers n m k p z same le = omega (arith, ints)

least_of : (z : ℤ) (d e : ℕ) → ((n : ℕ) → z ≡ pos n → n ≤ d * e) → at_least_zero z ≤ d * e
least_of (pos n) d e each = each n refl
least_of (negsuc n) d e each = omega arith

pub mixed_bound : (prices : PricesOf) (d y : ℕ) (coefficients : List ℕ) (b e u v : ℕ) (node : Node) (one two : List Bool) → HasStationPrices prices → 0 < d
    → IsWithin node.inside one → IsWithin one node.upper → IsWithin node.inside two → IsWithin two node.upper → 0 < u + v
    → u * b + v * b ≤ u * chosen_sum coefficients one + v * chosen_sum coefficients two → u * plan_price prices one + v * plan_price prices two ≤ u * e + v * e
    → dual_bound prices d (record { multiplier = y; cover = record { coefficients = coefficients; bound = b } } ∷ []) node ≤ e
unfolding dual_bound
mixed_bound prices d y coefficients b e u v node one two stations positive one_above one_below two_above two_below some reaches cheap =
    rounded_below (at_least_zero (dual_sum prices d (alone y coefficients b) node)) d e positive
    (least_of (dual_sum prices d (alone y coefficients b) node) d e
    (λ n is. mixed_numbers n y d b e u v (chosen_sum coefficients one) (chosen_sum coefficients two) (plan_price prices one) (plan_price prices two)
    (one_plan prices d y coefficients b n node one stations one_above one_below is) (one_plan prices d y coefficients b n node two stations two_above two_below is) reaches cheap some))

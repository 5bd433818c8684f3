use Rattle.std.proofs.lemmas.Bool.{false≢true}
use Rattle.std.proofs.Common.{◌≡◌, ◌<◌, ◌≤◌, ℕ, zero, suc, ◌+◌, ◌-◌, ◌*◌, ◌/◌, ℤ, pos, negsuc, ◌+ℤ◌, ◌-ℤ◌, ◌≤ℤ◌, Bool, true, false, ◌&&◌, ◌||◌, not, if◌then◌else◌, List, [], ◌∷◌, length, get_or, Option, Some, None, arith, refl, ap, sym, ◌∙◌, subst, below_more}
use Rattle.std.specs.Prelude.{All, sum_by}
use Rattle.std.specs.Int.{int_min}
use Rattle.std.proofs.lemmas.Int.{ints}
use Rattle.std.proofs.lemmas.List.Elements.{All-head, All-tail}
use Rattle.std.proofs.lemmas.List.Sums.{sum_by-cons}
use Rattle.std.proofs.Math.Nat.{div-lt_iff_lt-mul, mul-le-mul_left}
use Rattle.whole_algebra.proofs.Order.{add_le_add, le_refl, le_trans, le_of_eq}
use Rattle.geo_model.specs.Below.{sum_below, int_sum_below, any_below}
use Rattle.geo_model.specs.Cover.{chosen_sum, Satisfies}
use Rattle.geo_model.specs.Dual.{WeighedCover, taken_off, reduced_price, is_open, inner_sum, open_sum, has_none, station_term, dual_sum, at_least_zero, dual_bound}
use Rattle.geo_model.specs.Energy.{IsWithin}
use Rattle.geo_model.specs.Prices.{PricesOf, HasStationPrices, chooses, chooses_at, is_station, uses_station, station_part, stations_price, plan_price}
use Rattle.geo_model.specs.declared.plan.Node.{Node}
use Rattle.geo_model.proofs.BelowLemmas.{chosen_at, chosen_sum-below, int_sum_below-le}
use Rattle.geo_model.proofs.IntSums.{int_sum_below-eq, int_sum_below-add, int_sum_below-zero, int_sum_below-swap, int_sum_below-one}
use Rattle.geo_model.proofs.PlanLemmas.{IsWithin-length}
use Rattle.geo_model.proofs.PriceLemmas.{chooses-grows, uses_station-grows}

-- Why the dual bound of a node is a lower bound: weak duality, with stations.

-- a number that counts where a test holds
abbrev kept : Bool → ℤ → ℤ
kept b z = if b then z else pos 0

-- ---- one candidate

-- what a larger plan has, it has from the smaller one or beside it
chosen_split : (small large : Bool) (z : ℤ) → (small ≡ true → large ≡ true) → kept large z ≡ kept small z +ℤ kept (large && not small) z
chosen_split true true z within = omega (arith, ints)
chosen_split true false z within = absurd (false≢true (within refl))
chosen_split false true z within = omega (arith, ints)
chosen_split false false z within = omega (arith, ints)

int_min_below_zero : (z : ℤ) → int_min (pos 0) z ≤ℤ pos 0
int_min_below_zero z = grind (arith, ints)

int_min_below : (z : ℤ) → int_min (pos 0) z ≤ℤ z
int_min_below z = grind (arith, ints)

-- the least that an open candidate can give is at most what a plan has of it beside the inner plan
open_below : (upper plan inside test : Bool) (z : ℤ) → (plan ≡ true → upper ≡ true) → kept ((upper && not inside) && test) (int_min (pos 0) z) ≤ℤ kept test (kept (plan && not inside) z)
open_below true true true true z within = le_refl (pos 0)
open_below true true true false z within = le_refl (pos 0)
open_below true true false true z within = int_min_below z
open_below true true false false z within = le_refl (pos 0)
open_below true false true true z within = le_refl (pos 0)
open_below true false true false z within = le_refl (pos 0)
open_below true false false true z within = int_min_below_zero z
open_below true false false false z within = le_refl (pos 0)
open_below false true inside test z within = absurd (false≢true (within refl))
open_below false false inside true z within = le_refl (pos 0)
open_below false false inside false z within = le_refl (pos 0)

-- a candidate has no station or is of one below n
one_group : (n : ℕ) (station : Option ℕ) (z : ℤ) → ((s : ℕ) → station ≡ Some s → s < n) → kept (has_none station) z +ℤ int_sum_below (λ k. kept (is_station k station) z) n ≡ z
one_group n None z inside = ap (λ s. z +ℤ s) (int_sum_below-zero n) ∙ alone z
  where
    alone : (z : ℤ) → z +ℤ pos 0 ≡ z
    alone z = omega (arith, ints)
one_group n (Some s) z inside = ap (λ t. pos 0 +ℤ t) (int_sum_below-one s z n (inside s refl)) ∙ alone z
  where
    alone : (z : ℤ) → pos 0 +ℤ z ≡ z
    alone z = omega (arith, ints)

-- ---- groups by station

in_range : (n : ℕ) (stations : List (Option ℕ)) (i s : ℕ) → All (λ station. (k : ℕ) → station ≡ Some k → k < n) stations → get_or stations i None ≡ Some s → s < n
in_range n [] i s all is = absurd (cc)
in_range n (station ∷ rest) zero s all is = All-head (λ (st : Option ℕ). (k : ℕ) → st ≡ Some k → k < n) station rest all s is
in_range n (station ∷ rest) (suc i) s all is = in_range n rest i s (All-tail (λ (st : Option ℕ). (k : ℕ) → st ≡ Some k → k < n) station rest all) is

-- what the candidates of a group give
abbrev group_sum : (ℕ → ℤ) → (ℕ → Bool) → ℕ → ℤ
group_sum f test m = int_sum_below (λ i. kept (test i) (f i)) m

-- a sum splits into those without a station and those of each station
grouped : (n : ℕ) (stations : List (Option ℕ)) (f : ℕ → ℤ) (m : ℕ) → All (λ station. (k : ℕ) → station ≡ Some k → k < n) stations
    → int_sum_below f m ≡ group_sum f (λ i. has_none (get_or stations i None)) m +ℤ int_sum_below (λ k. group_sum f (λ i. is_station k (get_or stations i None)) m) n
grouped n stations f m all =
    int_sum_below-eq f (λ i. kept (has_none (get_or stations i None)) (f i) +ℤ int_sum_below (λ k. kept (is_station k (get_or stations i None)) (f i)) n) m
    (λ i h. sym (one_group n (get_or stations i None) (f i) (λ s is. in_range n stations i s all is)))
    ∙ int_sum_below-add (λ i. kept (has_none (get_or stations i None)) (f i)) (λ i. int_sum_below (λ k. kept (is_station k (get_or stations i None)) (f i)) n) m
    ∙ ap (λ t. group_sum f (λ i. has_none (get_or stations i None)) m +ℤ t) (int_sum_below-swap (λ i k. kept (is_station k (get_or stations i None)) (f i)) m n)

-- ---- the shares

taken_none : (plan : List Bool) (m : ℕ) → int_sum_below (λ i. kept (chooses plan i) (pos (taken_off [] i))) m ≡ pos 0
taken_none plan m =
    int_sum_below-eq (λ i. kept (chooses plan i) (pos 0)) (λ i. pos 0) m (λ i h. nothing (chooses plan i)) ∙ int_sum_below-zero m
  where
    nothing : (b : Bool) → kept b (pos 0) ≡ pos 0
    nothing true = refl
    nothing false = refl

scaled_if : (b : Bool) (w n : ℕ) → w * (if b then n else 0) ≡ (if b then w * n else 0)
scaled_if true w n = refl
scaled_if false w n = omega arith

pos_if : (b : Bool) (n : ℕ) → pos (if b then n else 0) ≡ kept b (pos n)
pos_if true n = refl
pos_if false n = refl

scaled_sum : (w : ℕ) (f : ℕ → ℕ) (n : ℕ) → pos (w * sum_below f n) ≡ int_sum_below (λ i. pos (w * f i)) n
unfolding sum_below int_sum_below
scaled_sum w f zero = ap pos (none w)
  where
    none : (w : ℕ) → w * 0 ≡ 0
    none w = omega arith
scaled_sum w f (suc n) = ap pos (spread w (sum_below f n) (f n)) ∙ ap (λ t. t +ℤ pos (w * f n)) (scaled_sum w f n)
  where
    spread : (w a b : ℕ) → w * (a + b) ≡ w * a + w * b
    spread w a b = omega arith

-- a multiple of the sum of the chosen numbers, place by place
scaled_chosen : (w : ℕ) (numbers : List ℕ) (plan : List Bool) → pos (w * chosen_sum numbers plan) ≡ int_sum_below (λ i. kept (chooses plan i) (pos (w * get_or numbers i 0))) (length plan)
scaled_chosen w numbers plan =
    ap (λ s. pos (w * s)) (chosen_sum-below numbers plan)
    ∙ scaled_sum w (chosen_at numbers plan) (length plan)
    ∙ int_sum_below-eq (λ i. pos (w * chosen_at numbers plan i)) (λ i. kept (chooses plan i) (pos (w * get_or numbers i 0))) (length plan)
    (λ i h. ap pos (scaled_if (chooses plan i) w (get_or numbers i 0)) ∙ pos_if (chooses plan i) (w * get_or numbers i 0))

kept_add : (b : Bool) (m n : ℕ) → kept b (pos (m + n)) ≡ kept b (pos m) +ℤ kept b (pos n)
kept_add true m n = refl
kept_add false m n = refl

-- what the shares take off a plan that satisfies them
shares_paid : (shares : List WeighedCover) (plan : List Bool) → All (λ share. Satisfies share.cover plan) shares
    → pos (sum_by (λ share. share.multiplier * share.cover.bound) shares) ≤ℤ int_sum_below (λ i. kept (chooses plan i) (pos (taken_off shares i))) (length plan)
shares_paid [] plan all = le_of_eq (pos 0) (int_sum_below (λ i. kept (chooses plan i) (pos (taken_off [] i))) (length plan)) (sym (taken_none plan (length plan)))
shares_paid (share ∷ rest) plan all =
    let w = share.multiplier in
    let cs = share.cover.coefficients in
    let first : share.cover.bound ≤ chosen_sum cs plan = All-head (λ (s : WeighedCover). Satisfies s.cover plan) share rest all in
    let scaled : w * share.cover.bound ≤ w * chosen_sum cs plan = mul-le-mul_left w first in
    let here : pos (w * share.cover.bound) ≤ℤ int_sum_below (λ i. kept (chooses plan i) (pos (w * get_or cs i 0))) (length plan) =
    rw (← scaled_chosen w cs plan) (pos_le (w * share.cover.bound) (w * chosen_sum cs plan) scaled) in
    let later = shares_paid rest plan (All-tail (λ (s : WeighedCover). Satisfies s.cover plan) share rest all) in
    let split : int_sum_below (λ i. kept (chooses plan i) (pos (taken_off (share ∷ rest) i))) (length plan)
    ≡ int_sum_below (λ i. kept (chooses plan i) (pos (w * get_or cs i 0))) (length plan) +ℤ int_sum_below (λ i. kept (chooses plan i) (pos (taken_off rest i))) (length plan) =
    int_sum_below-eq (λ i. kept (chooses plan i) (pos (taken_off (share ∷ rest) i))) (λ i. kept (chooses plan i) (pos (w * get_or cs i 0)) +ℤ kept (chooses plan i) (pos (taken_off rest i))) (length plan)
    (λ i h. ap (λ n. kept (chooses plan i) (pos n)) (sum_by-cons (λ (s : WeighedCover). s.multiplier * get_or s.cover.coefficients i 0) share rest)
    ∙ kept_add (chooses plan i) (w * get_or cs i 0) (taken_off rest i))
    ∙ int_sum_below-add (λ i. kept (chooses plan i) (pos (w * get_or cs i 0))) (λ i. kept (chooses plan i) (pos (taken_off rest i))) (length plan) in
    let bounds : sum_by (λ (s : WeighedCover). s.multiplier * s.cover.bound) (share ∷ rest) ≡ w * share.cover.bound + sum_by (λ (s : WeighedCover). s.multiplier * s.cover.bound) rest =
    sum_by-cons (λ (s : WeighedCover). s.multiplier * s.cover.bound) share rest in
    let both = add_le_add (pos (w * share.cover.bound)) (int_sum_below (λ i. kept (chooses plan i) (pos (w * get_or cs i 0))) (length plan))
    (pos (sum_by (λ (s : WeighedCover). s.multiplier * s.cover.bound) rest)) (int_sum_below (λ i. kept (chooses plan i) (pos (taken_off rest i))) (length plan)) here later in
    let P : ℕ → ℤ → Type 0 = λ n t. pos n ≤ℤ t in
    subst (λ (n : ℕ). P n (int_sum_below (λ i. kept (chooses plan i) (pos (taken_off (share ∷ rest) i))) (length plan))) (sym bounds)
    (subst (P (w * share.cover.bound + sum_by (λ (s : WeighedCover). s.multiplier * s.cover.bound) rest)) (sym split) both)
  where
    pos_le : (m n : ℕ) → m ≤ n → pos m ≤ℤ pos n
    pos_le m n h = omega (arith, ints)

-- ---- the candidates of a plan

-- what a plan has beside the inner one
abbrev beside : (ℕ → ℤ) → List Bool → List Bool → ℕ → ℤ
beside reduced inside plan i = kept (chooses plan i && not (chooses inside i)) (reduced i)

-- d times the prices of a plan's candidates: those of the inner plan and those beside it, reduced, and what the shares take off
candidates_split : (prices : PricesOf) (d : ℕ) (shares : List WeighedCover) (inside plan : List Bool) → IsWithin inside plan
    → pos (d * chosen_sum prices.candidates plan)
    ≡ (int_sum_below (λ i. kept (chooses inside i) (reduced_price prices d shares i)) (length plan) +ℤ int_sum_below (beside (reduced_price prices d shares) inside plan) (length plan))
    +ℤ int_sum_below (λ i. kept (chooses plan i) (pos (taken_off shares i))) (length plan)
candidates_split prices d shares inside plan within =
    let r = reduced_price prices d shares in
    scaled_chosen d prices.candidates plan
    ∙ int_sum_below-eq (λ i. kept (chooses plan i) (pos (d * get_or prices.candidates i 0))) (λ i. (kept (chooses inside i) (r i) +ℤ beside r inside plan i) +ℤ kept (chooses plan i) (pos (taken_off shares i))) (length plan)
    (λ i h. unreduced (chooses plan i) (d * get_or prices.candidates i 0) (taken_off shares i)
    ∙ ap (λ t. t +ℤ kept (chooses plan i) (pos (taken_off shares i))) (chosen_split (chooses inside i) (chooses plan i) (r i) (chooses-grows inside plan i within)))
    ∙ int_sum_below-add (λ i. kept (chooses inside i) (r i) +ℤ beside r inside plan i) (λ i. kept (chooses plan i) (pos (taken_off shares i))) (length plan)
    ∙ ap (λ t. t +ℤ int_sum_below (λ i. kept (chooses plan i) (pos (taken_off shares i))) (length plan)) (int_sum_below-add (λ i. kept (chooses inside i) (r i)) (beside r inside plan) (length plan))
  where
    unreduced : (b : Bool) (p y : ℕ) → kept b (pos p) ≡ kept b (pos p -ℤ pos y) +ℤ kept b (pos y)
    unreduced true p y = omega (arith, ints)
    unreduced false p y = refl

-- open candidates of a group give at most what the plan has of it beside the inner plan
open_group : (reduced : ℕ → ℤ) (node : Node) (plan : List Bool) (test : ℕ → Bool) → IsWithin plan node.upper
    → open_sum reduced node test ≤ℤ group_sum (beside reduced node.inside plan) test (length node.upper)
open_group reduced node plan test within =
    int_sum_below-le (λ i. if is_open node i && test i then int_min (pos 0) (reduced i) else pos 0) (λ i. kept (test i) (beside reduced node.inside plan i)) (length node.upper)
    (λ i h. open_below (chooses node.upper i) (chooses plan i) (chooses node.inside i) (test i) (reduced i) (chooses-grows plan node.upper i within))

-- ---- a station

or_first : (a b : Bool) → (a || b) ≡ false → a ≡ false
or_first true b e = e
or_first false b e = refl

or_second : (a b : Bool) → (a || b) ≡ false → b ≡ false
or_second true b e = absurd (false≢true (sym e))
or_second false b e = e

none_passes : (test : ℕ → Bool) (n i : ℕ) → any_below test n ≡ false → i < n → test i ≡ false
unfolding any_below
none_passes test zero i none inside = absurd (omega arith)
none_passes test (suc n) i none inside =
    below_more (λ k. test k ≡ false) n (λ k before. none_passes test n k (or_first (any_below test n) (test n) none) before) (or_second (any_below test n) (test n) none) i (omega arith)

-- what a plan has beside the inner one of a station that it doesn't use
unused_group : (reduced : ℕ → ℤ) (stations : List (Option ℕ)) (inside plan : List Bool) (k : ℕ) → uses_station stations plan k ≡ false
    → group_sum (beside reduced inside plan) (λ i. is_station k (get_or stations i None)) (length plan) ≡ pos 0
unused_group reduced stations inside plan k unused =
    int_sum_below-eq (λ i. kept (is_station k (get_or stations i None)) (beside reduced inside plan i)) (λ i. pos 0) (length plan)
    (λ i h. nothing (is_station k (get_or stations i None)) (chooses plan i) (chooses inside i) (reduced i) (none_passes (chooses_at stations plan k) (length plan) i unused h))
    ∙ int_sum_below-zero (length plan)
  where
    nothing : (at plan inside : Bool) (z : ℤ) → (plan && at) ≡ false → kept at (kept (plan && not inside) z) ≡ pos 0
    nothing false plan inside z none = refl
    nothing true true inside z none = absurd (false≢true (sym none))
    nothing true false inside z none = refl

-- what a station costs a plan, and what the plan has of it beside the inner plan, is at least the station's term
term_below : (used inside : Bool) (price : ℕ) (d : ℕ) (open_part group : ℤ) → (inside ≡ true → used ≡ true) → open_part ≤ℤ group → (used ≡ false → group ≡ pos 0)
    → (if inside then pos (d * price) +ℤ open_part else int_min (pos 0) (pos (d * price) +ℤ open_part)) ≤ℤ (pos (d * (if used then price else 0)) +ℤ group)
term_below true true price d open_part group grows le unused = add_le_add (pos (d * price)) (pos (d * price)) open_part group (le_refl (pos (d * price))) le
term_below true false price d open_part group grows le unused =
    le_trans (int_min (pos 0) (pos (d * price) +ℤ open_part)) (pos (d * price) +ℤ open_part) (pos (d * price) +ℤ group) (int_min_below (pos (d * price) +ℤ open_part))
    (add_le_add (pos (d * price)) (pos (d * price)) open_part group (le_refl (pos (d * price))) le)
term_below false true price d open_part group grows le unused = absurd (false≢true (grows refl))
term_below false false price d open_part group grows le unused =
    rw (unused refl) (le_trans (int_min (pos 0) (pos (d * price) +ℤ open_part)) (pos 0) (pos (d * 0) +ℤ pos 0) (int_min_below_zero (pos (d * price) +ℤ open_part)) (nothing d))
  where
    nothing : (d : ℕ) → pos 0 ≤ℤ (pos (d * 0) +ℤ pos 0)
    nothing d = omega (arith, ints)

station_below : (prices : PricesOf) (d : ℕ) (reduced : ℕ → ℤ) (node : Node) (plan : List Bool) (k : ℕ) → IsWithin node.inside plan → IsWithin plan node.upper
    → station_term prices d reduced node k ≤ℤ (pos (d * station_part prices plan k) +ℤ group_sum (beside reduced node.inside plan) (λ i. is_station k (get_or prices.stations i None)) (length node.upper))
station_below prices d reduced node plan k above below =
    let test = λ (i : ℕ). is_station k (get_or prices.stations i None) in
    term_below (uses_station prices.stations plan k) (uses_station prices.stations node.inside k) (get_or prices.station_prices k 0) d
    (open_sum reduced node test) (group_sum (beside reduced node.inside plan) test (length node.upper))
    (uses_station-grows prices.stations node.inside plan k above)
    (open_group reduced node plan test below)
    (λ unused. subst (λ (m : ℕ). group_sum (beside reduced node.inside plan) test m ≡ pos 0) (IsWithin-length plan node.upper below) (unused_group reduced prices.stations node.inside plan k unused))

stations_below : (prices : PricesOf) (d : ℕ) (reduced : ℕ → ℤ) (node : Node) (plan : List Bool) → IsWithin node.inside plan → IsWithin plan node.upper
    → int_sum_below (station_term prices d reduced node) (length prices.station_prices)
    ≤ℤ (pos (d * stations_price prices plan) +ℤ int_sum_below (λ k. group_sum (beside reduced node.inside plan) (λ i. is_station k (get_or prices.stations i None)) (length node.upper)) (length prices.station_prices))
stations_below prices d reduced node plan above below =
    let groups = λ (k : ℕ). group_sum (beside reduced node.inside plan) (λ i. is_station k (get_or prices.stations i None)) (length node.upper) in
    let n = length prices.station_prices in
    let paid : int_sum_below (λ k. pos (d * station_part prices plan k) +ℤ groups k) n ≡ pos (d * stations_price prices plan) +ℤ int_sum_below groups n =
    int_sum_below-add (λ k. pos (d * station_part prices plan k)) groups n
    ∙ ap (λ t. t +ℤ int_sum_below groups n) (sym (scaled_sum d (station_part prices plan) n)) in
    rw (← paid) (int_sum_below-le (station_term prices d reduced node) (λ k. pos (d * station_part prices plan k) +ℤ groups k) n (λ k h. station_below prices d reduced node plan k above below))

-- ---- the bound

-- sums that are ordered in three parts
three_parts : (inner none_low none group_low groups paid_low paid stations : ℤ) → none_low ≤ℤ none → group_low ≤ℤ (stations +ℤ groups) → paid_low ≤ℤ paid
    → (((inner +ℤ none_low) +ℤ group_low) +ℤ paid_low) ≤ℤ (((inner +ℤ (none +ℤ groups)) +ℤ paid) +ℤ stations)
three_parts inner none_low none group_low groups paid_low paid stations first second third = omega (arith, ints)

pos_spread : (d a b : ℕ) → pos (d * (a + b)) ≡ pos (d * a) +ℤ pos (d * b)
pos_spread d a b = ap pos (spread d a b)
  where
    spread : (w a b : ℕ) → w * (a + b) ≡ w * a + w * b
    spread w a b = omega arith

-- d times the price of a plan is at least the sum
pub dual_sum-below : (prices : PricesOf) (d : ℕ) (shares : List WeighedCover) (node : Node) (plan : List Bool) → HasStationPrices prices → IsWithin node.inside plan → IsWithin plan node.upper
    → All (λ share. Satisfies share.cover plan) shares → dual_sum prices d shares node ≤ℤ pos (d * plan_price prices plan)
unfolding dual_sum plan_price
dual_sum-below prices d shares node plan stations above below all =
    let r = reduced_price prices d shares in
    let m = length node.upper in
    let n = length prices.station_prices in
    let long : length plan ≡ m = IsWithin-length plan node.upper below in
    let has_no = λ (i : ℕ). has_none (get_or prices.stations i None) in
    let extra = beside r node.inside plan in
    let none = group_sum extra has_no m in
    let groups = int_sum_below (λ k. group_sum extra (λ i. is_station k (get_or prices.stations i None)) m) n in
    let paid = int_sum_below (λ i. kept (chooses plan i) (pos (taken_off shares i))) m in
    let low = three_parts (inner_sum r node) (open_sum r node has_no) none (int_sum_below (station_term prices d r node) n) groups
    (pos (sum_by (λ (s : WeighedCover). s.multiplier * s.cover.bound) shares)) paid (pos (d * stations_price prices plan))
    (open_group r node plan has_no below)
    (stations_below prices d r node plan above below)
    (subst (λ (l : ℕ). pos (sum_by (λ (s : WeighedCover). s.multiplier * s.cover.bound) shares) ≤ℤ int_sum_below (λ i. kept (chooses plan i) (pos (taken_off shares i))) l) long (shares_paid shares plan all)) in
    let split : pos (d * chosen_sum prices.candidates plan) ≡ (inner_sum r node +ℤ int_sum_below extra m) +ℤ paid =
    subst (λ (l : ℕ). pos (d * chosen_sum prices.candidates plan) ≡ (int_sum_below (λ i. kept (chooses node.inside i) (r i)) l +ℤ int_sum_below extra l) +ℤ int_sum_below (λ i. kept (chooses plan i) (pos (taken_off shares i))) l) long
    (candidates_split prices d shares node.inside plan above) in
    let whole : pos (d * (chosen_sum prices.candidates plan + stations_price prices plan)) ≡ ((inner_sum r node +ℤ (none +ℤ groups)) +ℤ paid) +ℤ pos (d * stations_price prices plan) =
    pos_spread d (chosen_sum prices.candidates plan) (stations_price prices plan)
    ∙ ap (λ t. t +ℤ pos (d * stations_price prices plan)) (split ∙ ap (λ e. (inner_sum r node +ℤ e) +ℤ paid) (grouped n prices.stations extra m stations)) in
    rw whole low

at_least_zero-below : (z : ℤ) (n : ℕ) → z ≤ℤ pos n → at_least_zero z ≤ n
at_least_zero-below (pos m) n le = omega (arith, ints)
at_least_zero-below (negsuc m) n le = omega arith

rounded_below : (n d price : ℕ) → 0 < d → n ≤ d * price → (n + (d - 1)) / d ≤ price
rounded_below n d price positive le =
    let room : n + (d - 1) < suc price * d = omega arith in
    let less : (n + (d - 1)) / d < suc price = (div-lt_iff_lt-mul {k = d} {x = n + (d - 1)} {y = suc price} positive).1 room in
    omega arith

-- so the dual bound is at most the price of each plan of the node that satisfies the covering inequalities
pub dual_bound-below : (prices : PricesOf) (d : ℕ) (shares : List WeighedCover) (node : Node) (plan : List Bool) → 0 < d → HasStationPrices prices → IsWithin node.inside plan → IsWithin plan node.upper
    → All (λ share. Satisfies share.cover plan) shares → dual_bound prices d shares node ≤ plan_price prices plan
unfolding dual_bound
dual_bound-below prices d shares node plan positive stations above below all =
    rounded_below (at_least_zero (dual_sum prices d shares node)) d (plan_price prices plan) positive
    (at_least_zero-below (dual_sum prices d shares node) (d * plan_price prices plan) (dual_sum-below prices d shares node plan stations above below all))

use Rattle.std.proofs.lemmas.Bool.{false≢true, and_parts, and_from}
use Rattle.std.proofs.Common.{◌≡◌, ◌<◌, ◌≤◌, ℕ, zero, suc, ◌+◌, Bool, true, false, ◌||◌, if◌then◌else◌, List, [], ◌∷◌, length, map, get_or, Option, Some, None, arith, refl, ap, ap₂, sym, ◌∙◌, subst}
use Rattle.std.specs.Prelude.{slice_get}
use Rattle.std.proofs.lemmas.Option.{get_or_from_slice_get}
use Rattle.geo_model.specs.Below.{sum_below, any_below}
use Rattle.geo_model.specs.Candidate.{CandidateOf, IsCandidate}
use Rattle.geo_model.specs.Cover.{chosen_sum}
use Rattle.geo_model.specs.Energy.{IsWithin}
use Rattle.geo_model.specs.Network.{NetworkOf, IsNetwork}
use Rattle.geo_model.specs.Prices.{PricesOf, HasStationPrices, chooses, chooses_at, is_station, uses_station, station_part, stations_price, plan_price, prices_of}
use Rattle.geo_model.proofs.BelowLemmas.{sum_below-more, sum_below-le, any_below-some, chosen_at}
use Rattle.geo_model.proofs.PlanLemmas.{IsWithin-length}

-- Laws of the price of a plan.

-- ---- what one number more adds

-- a number of a sum, where it counts or not
pub counted_if : (b : Bool) (n m sum : ℕ) → (b ≡ true → sum ≡ n + m) → (b ≡ false → sum ≡ n) → sum ≡ n + (if b then m else 0)
counted_if true n m sum counts not = counts refl
counted_if false n m sum counts not = omega (arith, not refl)

-- ---- larger plans

-- what a plan chooses, each larger plan chooses
pub chooses-grows : (small large : List Bool) (i : ℕ) → IsWithin small large → chooses small i ≡ true → chooses large i ≡ true
chooses-grows [] large i within chosen = absurd (false≢true chosen)
chooses-grows (x ∷ small) [] i within chosen = absurd within
chooses-grows (true ∷ small) (y ∷ large) zero within chosen = within.0 refl
chooses-grows (false ∷ small) (y ∷ large) zero within chosen = absurd (false≢true chosen)
chooses-grows (x ∷ small) (y ∷ large) (suc i) within chosen = chooses-grows small large i within.1 chosen

pub chooses_at-grows : (stations : List (Option ℕ)) (small large : List Bool) (k i : ℕ) → IsWithin small large → chooses_at stations small k i ≡ true → chooses_at stations large k i ≡ true
chooses_at-grows stations small large k i within at =
    let both = and_parts (chooses small i) (is_station k (get_or stations i None)) at in
    and_from (chooses large i) (is_station k (get_or stations i None)) (chooses-grows small large i within both.0) both.1

or_cases : (a b : Bool) (C : Type 0) → (a || b) ≡ true → (a ≡ true → C) → (b ≡ true → C) → C
or_cases true b C e left right = left refl
or_cases false b C e left right = right e

-- where a test holds of some number below n, so does one that holds wherever it does
pub any_below-grows : (test wider : ℕ → Bool) (n : ℕ) → ((i : ℕ) → test i ≡ true → wider i ≡ true) → any_below test n ≡ true → any_below wider n ≡ true
unfolding any_below
any_below-grows test wider zero each some = absurd (false≢true some)
any_below-grows test wider (suc n) each some =
    or_cases (any_below test n) (test n) (any_below wider (suc n) ≡ true) some
    (λ before. left (any_below wider n) (wider n) (any_below-grows test wider n each before))
    (λ here. any_below-some wider (suc n) n (omega arith) (each n here))
  where
    left : (a b : Bool) → a ≡ true → (a || b) ≡ true
    left a b e = rw e refl

pub uses_station-grows : (stations : List (Option ℕ)) (small large : List Bool) (k : ℕ) → IsWithin small large → uses_station stations small k ≡ true → uses_station stations large k ≡ true
uses_station-grows stations small large k within uses =
    any_below-grows (chooses_at stations small k) (chooses_at stations large k) (length large)
    (λ i at. chooses_at-grows stations small large k i within at)
    (subst (λ (n : ℕ). any_below (chooses_at stations small k) n ≡ true) (IsWithin-length small large within) uses)

part_grows : (few more : Bool) (price : ℕ) → (few ≡ true → more ≡ true) → (if few then price else 0) ≤ (if more then price else 0)
part_grows false more price within = omega arith
part_grows true true price within = omega arith
part_grows true false price within = absurd (false≢true (within refl))

chosen_sum-grows : (numbers : List ℕ) (small large : List Bool) → IsWithin small large → chosen_sum numbers small ≤ chosen_sum numbers large
chosen_sum-grows [] small large within = omega arith
chosen_sum-grows (number ∷ rest) [] large within = omega arith
chosen_sum-grows (number ∷ rest) (few ∷ small) [] within = absurd within
chosen_sum-grows (number ∷ rest) (few ∷ small) (more ∷ large) within =
    omega (arith, part_grows few more number within.0, chosen_sum-grows rest small large within.1)

-- a larger plan costs at least as much
pub plan_price-grows : (prices : PricesOf) (small large : List Bool) → IsWithin small large → plan_price prices small ≤ plan_price prices large
unfolding plan_price
plan_price-grows prices small large within =
    omega (
      arith,
      chosen_sum-grows prices.candidates small large within,
      sum_below-le (station_part prices small) (station_part prices large) (length prices.station_prices)
          (λ k inside. part_grows (uses_station prices.stations small k) (uses_station prices.stations large k) (get_or prices.station_prices k 0) (uses_station-grows prices.stations small large k within)),
    )

-- ---- sums one number at a time

-- the price of a candidate, in the list of all prices
pub listed_price : (candidates : List CandidateOf) (n : ℕ) (candidate : CandidateOf) → n < length candidates → candidate ≡ get_or candidates n candidate → get_or (map (λ (c : CandidateOf). c.price) candidates) n 0 ≡ candidate.price
listed_price [] n candidate inside here = absurd (omega arith)
listed_price (first ∷ rest) zero candidate inside here = ap (λ (c : CandidateOf). c.price) (sym here)
listed_price (first ∷ rest) (suc n) candidate inside here = let later : n < length rest = omega arith in listed_price rest n candidate later here

-- one candidate more, of those of a network
pub candidates-more : (network : NetworkOf) (plan : List Bool) (n : ℕ) (candidate : CandidateOf) (chosen : Bool) (before now : ℕ) → n < length network.candidates → candidate ≡ get_or network.candidates n candidate → slice_get plan n ≡ Some chosen
    → before ≡ sum_below (chosen_at (prices_of network).candidates plan) n → (chosen ≡ true → now ≡ before + candidate.price) → (chosen ≡ false → now ≡ before)
    → now ≡ sum_below (chosen_at (prices_of network).candidates plan) (n + 1)
unfolding prices_of
candidates-more network plan n candidate chosen before now inside here flag so_far counts not =
    let price_is : get_or (map (λ (c : CandidateOf). c.price) network.candidates) n 0 ≡ candidate.price = listed_price network.candidates n candidate inside here in
    let flag_is : get_or plan n false ≡ chosen = get_or_from_slice_get plan n chosen false flag in
    let part : chosen_at (prices_of network).candidates plan n ≡ (if chosen then candidate.price else 0) = ap₂ (λ (b : Bool) (m : ℕ). if b then m else 0) flag_is price_is in
    counted_if chosen before candidate.price now counts not
    ∙ ap₂ (λ (s t : ℕ). s + t) so_far (sym part)
    ∙ sym (sum_below-more (chosen_at (prices_of network).candidates plan) n)

-- one station more
pub stations-more : (network : NetworkOf) (plan : List Bool) (k price : ℕ) (used : Bool) (before now : ℕ) → price ≡ get_or network.station_prices k 0 → used ≡ uses_station network.stations plan k
    → before ≡ sum_below (station_part (prices_of network) plan) k → (used ≡ true → now ≡ before + price) → (used ≡ false → now ≡ before)
    → now ≡ sum_below (station_part (prices_of network) plan) (k + 1)
unfolding prices_of
stations-more network plan k price used before now here flag so_far counts not =
    let part : (if used then price else 0) ≡ station_part (prices_of network) plan k = ap₂ (λ (b : Bool) (m : ℕ). if b then m else 0) flag here in
    counted_if used before price now counts not
    ∙ ap₂ (λ (s t : ℕ). s + t) so_far part
    ∙ sym (sum_below-more (station_part (prices_of network) plan) k)

-- the sum over all stations
pub stations-all : (network : NetworkOf) (plan : List Bool) (k : ℕ) → k ≡ length network.station_prices → sum_below (station_part (prices_of network) plan) k ≡ stations_price (prices_of network) plan
unfolding prices_of
stations-all network plan k is = ap (sum_below (station_part (prices_of network) plan)) is

-- the price of a candidate of a network
pub candidate_price-few : (network : NetworkOf) (n : ℕ) (candidate : CandidateOf) → IsNetwork network → n < length network.candidates → candidate ≡ get_or network.candidates n candidate → candidate.price ≤ 1000000000
candidate_price-few network n candidate kept inside here =
    let bounds : IsCandidate (length network.unknowns) (get_or network.candidates n candidate) = kept.each_candidate n candidate inside in
    omega (arith, bounds.price, ap (λ (c : CandidateOf). c.price) here)

-- the price of a station of a network
pub station_price-few : (network : NetworkOf) (k : ℕ) → IsNetwork network → k < length network.station_prices → get_or network.station_prices k 0 ≤ 1000000000
station_price-few network k kept inside = kept.stations.price k 0 inside

-- each station of a network has a price
pub network_stations : (network : NetworkOf) → IsNetwork network → HasStationPrices (prices_of network)
unfolding prices_of
network_stations network kept = kept.stations.in_range

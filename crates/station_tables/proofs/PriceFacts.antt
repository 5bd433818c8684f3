-- The prices of points as stations, and the stations of candidates, one after the other.
use Rattle.std.proofs.Common.{◌≡◌, ◌∙◌, ◌+◌, ◌<◌, ◌≤◌, ◌^◌, ℕ, Bool, true, false, List, [], ◌∷◌, ◌++◌, Option, Some, None, length, map, take, drop, ap, sym, arith, slice_get}
use Rattle.std.specs.Prelude.{All, if◌then◌else◌, ◌==◌}
use Rattle.std.specs.List.{range_with_len}
use Rattle.std.specs.Option.{ForSome}
use Rattle.std.proofs.lemmas.Bool.Decides.{nat_tests}
use Rattle.std.proofs.lemmas.List.{at_drop_all, at_drop_more, length-map, map-append, take_more}
use Rattle.std.proofs.lemmas.List.Elements.{All-map, All-weaker}
use Rattle.std.proofs.lemmas.List.FromFn.{length-map-range_with_len}
use Rattle.std.proofs.lemmas.Option.{slice_get_within, get_or_from_slice_get}
use Rattle.geo_model.specs.Network.{AreStations}
use Rattle.point_tables.specs.declared.record.PointRecord.{PointRecord}
use Rattle.candidate_tables.specs.declared.record.CandidateRecord.{CandidateRecord}
use Rattle.candidate_tables.specs.Accepted.{AreCandidates, IsCandidateRecord}
use Rattle.candidate_tables.specs.Kinds.{rules_of}
use Rattle.station_tables.specs.declared.record.StationRecord.{StationRecord}
use Rattle.station_tables.specs.Occupied.{point_prices, station_of}
use Rattle.station_tables.specs.StationTable.{station_price}

-- the price among the records from a place on, by the record there
price-at : (stations : List StationRecord) (point k : ℕ) (station : StationRecord) → slice_get stations k ≡ Some station
    → station_price (drop k stations) point ≡ (if station.point == point then station.price else station_price (drop (k + 1) stations) point)
price-at stations point k station at =
    at_drop_more (λ (s : List StationRecord). station_price s point) stations k station (slice_get_within stations k station at)
    ∙ ap (λ (s : StationRecord). if s.point == point then s.price else station_price (drop (k + 1) stations) point) (get_or_from_slice_get stations k station station at)

-- .. which is that record's where it is of the point, and else one of the later ones
pub price-here : (stations : List StationRecord) (point k : ℕ) (station : StationRecord) → slice_get stations k ≡ Some station → station.point ≡ point
    → station_price (drop k stations) point ≡ station.price
price-here stations point k station at same =
    let passes : (station.point == point) ≡ true = grind (arith, nat_tests) in
    price-at stations point k station at ∙ ap (λ (t : Bool). if t then station.price else station_price (drop (k + 1) stations) point) passes

pub price-later : (stations : List StationRecord) (point k : ℕ) (station : StationRecord) → slice_get stations k ≡ Some station → (station.point ≡ point → ⊥)
    → station_price (drop k stations) point ≡ station_price (drop (k + 1) stations) point
price-later stations point k station at other =
    let fails : (station.point == point) ≡ false = grind (arith, nat_tests) in
    price-at stations point k station at ∙ ap (λ (t : Bool). if t then station.price else station_price (drop (k + 1) stations) point) fails

-- there is none past their end
pub price-past : (stations : List StationRecord) (point k : ℕ) → length stations ≤ k → station_price (drop k stations) point ≡ 0
price-past stations point k past = at_drop_all (λ (s : List StationRecord). station_price s point) stations k past

-- one more of a list, by a function
pub mapped-one : {X Y : Type 0} (f : X → Y) (xs : List X) (k : ℕ) (x : X) → slice_get xs k ≡ Some x → map f (take k xs) ++ f x ∷ [] ≡ map f (take (k + 1) xs)
mapped-one f xs k x at =
    sym (ap (map f) (take_more xs k x (slice_get_within xs k x at) ∙ ap (λ y. take k xs ++ y ∷ []) (get_or_from_slice_get xs k x x at)) ∙ map-append f (take k xs) (x ∷ []))

-- ---- within the bounds of networks

-- the station of a candidate is one of the points
station-within : (points : List PointRecord) (candidate : CandidateRecord) → IsCandidateRecord points candidate → ForSome (station_of candidate) (λ k. k < length points)
unfolding station_of
station-within points candidate is = by (rules_of candidate.kind).occupies_station (slice_get_within points candidate.from is.from.point is.from.is)
  where
    by : (t : Bool) → candidate.from < length points → ForSome (if t then Some candidate.from else None) (λ k. k < length points)
    by true within = λ k e. let same : candidate.from ≡ k = cc e in omega arith
    by false within = λ k e. cc e

pub stations-within : (points : List PointRecord) (candidates : List CandidateRecord) (stations : List (Option ℕ)) (prices : List ℕ) → AreCandidates points candidates
    → stations ≡ map station_of candidates → length prices ≡ length points → length prices ≤ 1000 → All (λ price. price ≤ 10 ^ 9) prices
    → AreStations (length candidates) stations prices
stations-within points candidates stations prices are made long few bound = rw (made) record {
  each_candidate = length-map candidates station_of;
  in_range =
      All-map (λ (station : Option ℕ). ForSome station (λ k. k < length prices)) station_of candidates
      (All-weaker (IsCandidateRecord points) (λ candidate. ForSome (station_of candidate) (λ k. k < length prices))
      (λ candidate is. rw long (station-within points candidate is)) candidates are.each);
  few = few;
  price = All-weaker (λ price. price ≤ 10 ^ 9) (λ price. price ≤ 1000000000) (λ price le. omega arith) prices bound;
}

pub prices-are : (points : List PointRecord) (stations : List StationRecord) (prices : List ℕ) (count : ℕ) → prices ≡ map (station_price stations) (range_with_len 0 count)
    → count ≡ length points → prices ≡ point_prices points stations
unfolding point_prices
prices-are points stations prices count are all = are ∙ ap (λ (n : ℕ). map (station_price stations) (range_with_len 0 n)) all

pub prices-long : (points : List PointRecord) (stations : List StationRecord) → length (point_prices points stations) ≡ length points
unfolding point_prices
prices-long points stations = length-map-range_with_len (station_price stations) 0 (length points)

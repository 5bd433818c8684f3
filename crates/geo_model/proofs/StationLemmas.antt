use Rattle.std.proofs.Common.{◌≡◌, ◌<◌, ◌≤◌, ℕ, zero, suc, [], length, replicate, Option, None, arith, ap}
use Rattle.std.specs.Prelude.{All}
use Rattle.std.specs.Option.{ForSome}
use Rattle.std.proofs.lemmas.List.Elements.{All-nil, All-cons}
use Rattle.geo_model.specs.Network.{AreStations}

-- A network without stations is within their bounds.

no_station : ForSome None (λ k. k < 0)
no_station k e = absurd (cc)

none_in_range : (count : ℕ) → All (λ (station : Option ℕ). ForSome station (λ k. k < 0)) (replicate count None)
none_in_range zero = All-nil (λ (station : Option ℕ). ForSome station (λ k. k < 0))
none_in_range (suc n) = All-cons (λ (station : Option ℕ). ForSome station (λ k. k < 0)) None (replicate n None) no_station (none_in_range n)

none_each : (count : ℕ) → length (replicate count (let none : Option ℕ = None in none)) ≡ count
none_each zero = omega arith
none_each (suc n) = ap suc (none_each n)

pub no_stations : (count : ℕ) → AreStations count (replicate count None) []
no_stations count = record {
  each_candidate = none_each count;
  in_range = none_in_range count;
  few = omega arith;
  price = All-nil (λ price. price ≤ 1000000000);
}

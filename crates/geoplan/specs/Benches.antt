use Rattle.std.specs.Prelude.{◌≡◌, ℕ, List}
use Rattle.shelf_io.specs.States.{ShelfState}
use Rattle.gen_bench.specs.Bench.{BenchesPlan, BenchesOpen}

-- What `bench` ends with: its files are its own, so that the shelf is as it was. This project's own.

-- the network of the seed has a certified plan, and none that meets the limits costs less
pub record ShowsPlan (seed : ℕ) (before now : ShelfState) (text : List ℕ) : Type 0 where
  pub same : now ≡ before
  pub shown : BenchesPlan seed text

-- .. or it has a plan that is not decided, and none that meets the limits costs less
pub record ShowsOpen (seed : ℕ) (before now : ShelfState) (text : List ℕ) : Type 0 where
  pub same : now ≡ before
  pub shown : BenchesOpen seed text

-- Laws of the count of faults: a rise is seen over any calls before and after it, since a count never falls.
use Rattle.std.proofs.Common.{ℕ, ◌≤◌, arith}
use Rattle.shelf_io.specs.Faults.{Rose}

pub Rose-later : (before middle now : ℕ) → Rose before middle → middle ≤ now → Rose before now
Rose-later before middle now rose later = omega arith

pub later-Rose : (before middle now : ℕ) → before ≤ middle → Rose middle now → Rose before now
later-Rose before middle now later rose = omega arith

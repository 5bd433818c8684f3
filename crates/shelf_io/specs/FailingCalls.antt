-- Calls that are counted from 1 on, some of which are to fail. This project's own.
use Rattle.std.specs.Prelude.{◌≡◌, ℕ, List, Contains}
use Rattle.shelf_io.specs.declared.failing_calls.FailingCalls.{FailingCalls}
use Rattle.shelf_io.specs.Faults.{next_count}

-- the next call is one of those that are to fail
abbrev pub IsNextFailing : FailingCalls → Type 0
IsNextFailing calls = Contains calls.failing.items (next_count calls.made)

-- one call was counted, and the same ones are to fail
pub record CountsCall (before now : FailingCalls) : Type 0 where
  pub counted : now.made ≡ next_count before.made
  pub listed : now.failing.items ≡ before.failing.items

-- no call was counted yet, and those with these numbers are to fail
pub record AwaitsCalls (failing : List ℕ) (calls : FailingCalls) : Type 0 where
  pub none_counted : calls.made ≡ 0
  pub listed : calls.failing.items ≡ failing

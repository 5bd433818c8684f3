-- What a sink was given to write. This project's own.
use Rattle.std.specs.Prelude.{ℕ, List, ◌++◌, Option}
use Rattle.std.specs.Option.{option_map}

-- what was written once the piece stands at the end
unfoldable pub with_written : Option (List ℕ) → List ℕ → Option (List ℕ)
with_written written piece = option_map (λ bytes. bytes ++ piece) written

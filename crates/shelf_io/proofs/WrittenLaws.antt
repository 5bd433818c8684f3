-- Laws of what was given to a sink.
--     is_some-with_written      whether it is told doesn't change
--     with_written-with_written, with_written-nothing      two pieces are one, and an empty one changes nothing
--     with_written-told      the bytes, where they are told
use Rattle.std.proofs.Common.{◌≡◌, ℕ, List, [], ◌++◌, refl, ap, append_assoc}
use Rattle.std.proofs.lemmas.List.{append-nil}
use Rattle.std.specs.Prelude.{Option, Some, None, is_some}
use Rattle.shelf_io.specs.Written.{with_written}

pub is_some-with_written : (written : Option (List ℕ)) (piece : List ℕ) → is_some (with_written written piece) ≡ is_some written
unfolding with_written
is_some-with_written None piece = refl
is_some-with_written (Some bytes) piece = refl

pub with_written-with_written : (written : Option (List ℕ)) (first second : List ℕ) → with_written (with_written written first) second ≡ with_written written (first ++ second)
unfolding with_written
with_written-with_written None first second = refl
with_written-with_written (Some bytes) first second = ap Some (append_assoc bytes first second)

pub with_written-nothing : (written : Option (List ℕ)) → with_written written [] ≡ written
unfolding with_written
with_written-nothing None = refl
with_written-nothing (Some bytes) = ap Some (append-nil bytes)

pub with_written-told : (bytes piece : List ℕ) → with_written (Some bytes) piece ≡ Some (bytes ++ piece)
unfolding with_written
with_written-told bytes piece = refl

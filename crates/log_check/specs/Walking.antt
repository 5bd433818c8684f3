-- How far a text has been walked line by line. This project's own; it serves the proof of the
-- replay, and no public clause cites it.
use Rattle.std.specs.Prelude.{◌≡◌, ℕ, ◌+◌, ◌≤◌, List, [], ◌++◌, length}
use Rattle.lent_parts.specs.Pieces.{TextLineOf, lines_of}
use Rattle.geo_model.specs.Network.{NetworkOf}
use Rattle.log_check.specs.declared.judged.Judged.{Judged}
use Rattle.log_check.specs.Fed.{ReplayerOf, HasFed, IsSound, TakesPart}

-- so much of a piece was taken, these lines of it are left, and there is room to keep them
pub record Walks (network : NetworkOf) (piece : List ℕ) (before : Judged) (kept : List ℕ) (walk : List TextLineOf) (now : Judged) (kept_now : List ℕ) (long room : ℕ) : Type 0 where
  pub front : List ℕ
  pub left : List ℕ
  pub whole : piece ≡ front ++ left
  pub walked : walk ≡ lines_of left
  pub sound : IsSound network now
  pub taken : TakesPart network front before kept now kept_now
  pub space : long + length left ≤ room

-- so much of a log was judged, and these lines of it are left
pub record Replays (network : NetworkOf) (log : List ℕ) (walk : List TextLineOf) (replayer : ReplayerOf) : Type 0 where
  pub front : List ℕ
  pub left : List ℕ
  pub whole : log ≡ front ++ left
  pub walked : walk ≡ lines_of left
  pub of_network : replayer.network ≡ network
  pub fed : HasFed front replayer
  pub finished : replayer.unfinished ≡ []

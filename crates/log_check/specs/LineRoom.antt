-- The room that judging lines takes. This project's own; it serves the proof of the replay, and no
-- public clause cites it.
use Rattle.std.specs.Prelude.{◌≡◌, length}
use Rattle.geo_model.specs.Network.{NetworkOf}
use Rattle.pivot_chain.specs.Room.{IsRoomOf}
use Rattle.log_check.specs.declared.line_room.LineRoom.{LineRoom}

-- the room for verdicts is one for the network, the displacement has an entry for each unknown, and
-- the numbers of a dual bound have one for each candidate
pub record IsLineRoom (network : NetworkOf) (room : LineRoom) : Type 0 where
  pub chains : IsRoomOf network room.chains
  pub moves : length room.moves ≡ length network.unknowns
  pub coefficients : length room.coefficients.items ≡ length network.candidates
  pub reduced : length room.reduced.items ≡ length network.candidates

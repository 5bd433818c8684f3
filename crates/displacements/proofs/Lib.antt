pub mod UnitMoves

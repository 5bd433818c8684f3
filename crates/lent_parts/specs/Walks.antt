-- What the items of the walks stand for. This project's own.
use Rattle.lent_parts.specs.Pieces.{TokenOf, TextLineOf}
use Rattle.lent_parts.specs.declared.token_walk.Token.{Token}
use Rattle.lent_parts.specs.declared.line_walk.Line.{Line}

abbrev pub token_of : Token → TokenOf
token_of token = record { text = token.text.now; start = token.start }

abbrev pub line_of : Line → TextLineOf
line_of line = record { text = line.text.now; ended = line.ended }

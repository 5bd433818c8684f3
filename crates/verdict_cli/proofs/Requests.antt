-- The parts of an input by what its first line says.
use Rattle.std.proofs.Common.{◌≡◌, ◌∙◌, ◌+◌, ℕ, List, [], ◌∷◌, None, Some, length, drop, sym, ap}
use Rattle.lent_parts.specs.Pieces.{TextLineOf, lines_of}
use Rattle.verdict_cli.specs.declared.header.Header.{Header}
use Rattle.verdict_cli.specs.Request.{header_of, parts_after, parts_of, request_from, request_of}

pub without_line : (input : List ℕ) → lines_of input ≡ [] → request_of input ≡ None
unfolding request_of
without_line input e = ap (λ l. request_from l input) e

pub after_line : (input : List ℕ) (line : TextLineOf) (later : List TextLineOf) → lines_of input ≡ line ∷ later
    → request_of input ≡ parts_after (header_of line.text) (drop (length line.text + 1) input)
unfolding request_of
after_line input line later e = ap (λ l. request_from l input) e

pub without_header : (input : List ℕ) (line : TextLineOf) (later : List TextLineOf) → lines_of input ≡ line ∷ later → header_of line.text ≡ None
    → request_of input ≡ None
without_header input line later e none = after_line input line later e ∙ ap (λ h. parts_after h (drop (length line.text + 1) input)) none

pub with_header : (input : List ℕ) (line : TextLineOf) (later : List TextLineOf) (header : Header) (rest : List ℕ)
    → lines_of input ≡ line ∷ later → header_of line.text ≡ Some header → rest ≡ drop (length line.text + 1) input
    → request_of input ≡ parts_of header rest
with_header input line later header rest e is cut =
    after_line input line later e
    ∙ ap (λ h. parts_after h (drop (length line.text + 1) input)) is
    ∙ ap (λ l. parts_of header l) (sym cut)

-- What stands on the standard input: a first line of four numbers, two tables, and plans. This project's own.
use Rattle.std.specs.Prelude.{ℕ, ◌+◌, nat_le, ◌&&◌, if◌then◌else◌, List, [], ◌∷◌, length, take, drop, Option, None, Some, ℤ, pos, negsuc}
use Rattle.lent_parts.specs.Pieces.{TextLineOf, lines_of, tokens_of, words_of}
use Rattle.text_num.specs.Decimal.{decimal_of}
use Rattle.verdict_cli.specs.declared.header.Header.{Header}
use Rattle.verdict_cli.specs.declared.request.Request.{Request}

-- ---- the first line

-- the value, where it is a number within these bounds
abbrev pub within : ℕ → ℕ → Option ℤ → Option ℕ
within least most None = None
within least most (Some (negsuc n)) = None
within least most (Some (pos n)) = if nat_le least n && nat_le n most then Some n else None

-- the whole number that a word stands for, where it is within these bounds
abbrev pub number_in : ℕ → ℕ → List ℕ → Option ℕ
number_in least most word = within least most (decimal_of 0 word)

-- four numbers as a first line
abbrev pub header_from : Option ℕ → Option ℕ → Option ℕ → Option ℕ → Option Header
header_from (Some points) (Some candidates) (Some redundancy) (Some times) =
    Some (record { points = points; candidates = candidates; redundancy = redundancy; times = times })
header_from _ _ _ _ = None

-- the words of a first line: the bytes of the points table and of the candidates table, the redundancy limit in thousandths,
-- and how often each verdict is reckoned, 0 where stacks of factors that follow the plans are to give it
abbrev pub header_of_words : List (List ℕ) → Option Header
header_of_words (points ∷ candidates ∷ redundancy ∷ times ∷ []) =
    header_from (number_in 0 1048576 points) (number_in 0 1048576 candidates) (number_in 0 999 redundancy) (number_in 0 1000000 times)
header_of_words _ = None

abbrev pub header_of : List ℕ → Option Header
header_of line = header_of_words (words_of (tokens_of line))

-- ---- the whole input

-- the two tables, the redundancy limit in thousandths, how often each verdict is reckoned, and the text of the plans
pub record RequestOf : Type 0 where
  pub points : List ℕ
  pub candidates : List ℕ
  pub redundancy : ℕ
  pub times : ℕ
  pub plans : List ℕ

abbrev pub request_seen : Request → RequestOf
request_seen request = record {
  points = request.points.now;
  candidates = request.candidates.now;
  redundancy = request.redundancy;
  times = request.times;
  plans = request.plans.now;
}

-- the parts of what follows a first line
abbrev pub parts_of : Header → List ℕ → Option RequestOf
parts_of header rest = if nat_le (header.points + header.candidates) (length rest)
    then Some (record {
      points = take header.points rest;
      candidates = take header.candidates (drop header.points rest);
      redundancy = header.redundancy;
      times = header.times;
      plans = drop header.candidates (drop header.points rest);
    })
    else None

abbrev pub parts_after : Option Header → List ℕ → Option RequestOf
parts_after None rest = None
parts_after (Some header) rest = parts_of header rest

abbrev pub request_from : List TextLineOf → List ℕ → Option RequestOf
request_from [] input = None
request_from (line ∷ later) input = parts_after (header_of line.text) (drop (length line.text + 1) input)

-- the parts of an input
unfoldable pub request_of : List ℕ → Option RequestOf
request_of input = request_from (lines_of input) input

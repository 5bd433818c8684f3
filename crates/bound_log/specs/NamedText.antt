-- The lines of a log of format 2. This project's own.
use Rattle.std.specs.Prelude.{◌≡◌, ℕ, List, [], ◌∷◌, ◌++◌, codes}
use Rattle.std.specs.Fmt.{decimal}
use Rattle.std.specs.List.{join_with_byte}
use Rattle.lent_parts.specs.Pieces.{space}
use Rattle.bound_log.specs.CutText.{cut_numbers, cut_words}
use Rattle.bound_log.specs.LogText.{line_end}
use Rattle.bound_log.specs.Numbers.{AreShort}
use Rattle.bound_log.specs.UseText.{use_dual_numbers, use_dual_words}
use Rattle.bound_log.specs.declared.named_line.NamedLine.{NamedLine}
use Rattle.bound_log.specs.declared.named_line.NamedLine.TheVariants.{Split, Cost, Pivot, Named, UseCut, UseDual}

-- the first line of a log of format 2 without its LF
abbrev pub second_head_body : List ℕ
second_head_body = codes "geoplan-log 2"

-- the first line of a log of format 2
abbrev pub second_head_text : List ℕ
second_head_text = second_head_body ++ line_end

-- the words of a line: `s C`, `c`, `p L`, `k L M` and M pairs `I V`, `x J`, or `d D R` and R uses `Y J`
abbrev pub named_words : NamedLine → List (List ℕ)
named_words (Split candidate) = codes "s" ∷ decimal candidate ∷ []
named_words Cost = codes "c" ∷ []
named_words (Pivot limit) = codes "p" ∷ decimal limit ∷ []
named_words (Named cut) = codes "k" ∷ cut_words cut
named_words (UseCut number) = codes "x" ∷ decimal number ∷ []
named_words (UseDual divisor uses) = codes "d" ∷ use_dual_words divisor uses

-- the numbers in the text of a line, from left to right, without their signs
abbrev pub named_numbers : NamedLine → List ℕ
named_numbers (Split candidate) = candidate ∷ []
named_numbers Cost = []
named_numbers (Pivot limit) = limit ∷ []
named_numbers (Named cut) = cut_numbers cut
named_numbers (UseCut number) = number ∷ []
named_numbers (UseDual divisor uses) = use_dual_numbers divisor uses

-- a line without its LF: its words, with one space between two
abbrev pub named_body : NamedLine → List ℕ
named_body line = join_with_byte space (named_words line)

-- a line with its LF
abbrev pub named_text : NamedLine → List ℕ
named_text line = named_body line ++ line_end

-- the text, without LF, is that of the line, and the line's numbers have at most 19 digits
pub record IsNamedLine (text : List ℕ) (line : NamedLine) : Type 0 where
  pub spelled : text ++ line_end ≡ named_text line
  pub numbers : AreShort (named_numbers line)

-- the words begin with those of the line, and these are the words after it
pub record NamedBegins (words : List (List ℕ)) (line : NamedLine) (after : List (List ℕ)) : Type 0 where
  pub spelled : words ≡ named_words line ++ after
  pub numbers : AreShort (named_numbers line)

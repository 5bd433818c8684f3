-- The words of uses of cuts: how they are read, and their bytes.
use Rattle.std.proofs.Common.{◌≡◌, ℕ, List, [], ◌∷◌, All, ap, ap₂, sym, ◌∙◌}
use Rattle.std.specs.Fmt.{decimal}
use Rattle.std.specs.Int.{IsInRange}
use Rattle.std.specs.Str.Parse.{digits_value}
use Rattle.std.proofs.lemmas.List.Elements.{All-nil, All-cons}
use Rattle.bound_log.specs.Numbers.{AreShort}
use Rattle.bound_log.specs.UseReading.{UseBegins, after_use, use_in}
use Rattle.bound_log.specs.UseText.{use_dual_numbers, use_dual_words, use_numbers, use_words}
use Rattle.bound_log.proofs.ItemLemmas.{Kind, some_words, head_bytes, number_bytes}
use Rattle.bound_log.proofs.NumberLemmas.{decimal-value}

-- ---- uses are read from their words

pub use_reads : (front : List (List ℕ)) (one : ℕ × ℕ) (rest : List (List ℕ)) → UseBegins front one rest → (one ≡ use_in front) × (rest ≡ after_use front)
use_reads front one rest begins =
    let multiplier : digits_value 10 (decimal one.0) ≡ one.0 = decimal-value one.0 begins.short.0 in
    let cut : digits_value 10 (decimal one.1) ≡ one.1 = decimal-value one.1 begins.short.1.0 in
    (ap₂ (λ (y : ℕ) (j : ℕ). let made : ℕ × ℕ = (y, j) in made) (sym multiplier) (sym cut) ∙ ap use_in (sym begins.spelled), ap after_use (sym begins.spelled))

-- uses as items
abbrev pub use_kind : Kind (ℕ × ℕ)
use_kind = record { words = use_words; numbers = use_numbers; read = use_in; after = after_use; reads = use_reads; some = λ one rest is. some_words (decimal one.0) (decimal one.1 ∷ rest) is }

-- ---- bytes

-- what holds of digits holds of each byte of a dual bound
module _ (P : ℕ → Type 0) (digit : (c : ℕ) → IsInRange 48 57 c → P c) where
  use_bytes : (one : ℕ × ℕ) → AreShort (use_numbers one) → All (All P) (use_words one)
  use_bytes one short =
      All-cons (All P) (decimal one.0) (decimal one.1 ∷ []) (number_bytes P digit one.0 short.0)
      (All-cons (All P) (decimal one.1) [] (number_bytes P digit one.1 short.1.0) (All-nil (All P)))

  pub use_dual_bytes : (divisor : ℕ) (uses : List (ℕ × ℕ)) → AreShort (use_dual_numbers divisor uses) → All (All P) (use_dual_words divisor uses)
  use_dual_bytes divisor uses short = head_bytes use_kind P digit use_bytes divisor uses short

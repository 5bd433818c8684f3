-- The words of shares and of dual bounds: how they are read, and their bytes.
use Rattle.std.proofs.Common.{◌≡◌, ℕ, List, ◌++◌, All, refl, ap, ap₂, sym, ◌∙◌}
use Rattle.std.specs.Fmt.{decimal}
use Rattle.std.specs.Int.{IsInRange}
use Rattle.std.specs.Str.Parse.{digits_value}
use Rattle.std.proofs.lemmas.List.Elements.{All-cons}
use Rattle.bound_log.specs.CutText.{CutTextOf, cut_words}
use Rattle.bound_log.specs.DualReading.{ShareBegins, after_share, share_in}
use Rattle.bound_log.specs.DualText.{dual_numbers, dual_words, share_numbers, share_words}
use Rattle.bound_log.specs.Numbers.{AreShort}
use Rattle.bound_log.proofs.CutLemmas.{cut_bytes, cut_reads}
use Rattle.bound_log.proofs.ItemLemmas.{Kind, some_words, head_bytes, number_bytes}
use Rattle.bound_log.proofs.NumberLemmas.{decimal-value}

-- ---- shares are read from their words

abbrev share : ℕ → CutTextOf → ℕ × CutTextOf
share multiplier cut = (multiplier, cut)

pub share_reads : (front : List (List ℕ)) (one : ℕ × CutTextOf) (rest : List (List ℕ)) → ShareBegins front one rest → (one ≡ share_in front) × (rest ≡ after_share front)
share_reads front one rest begins =
    let multiplier : digits_value 10 (decimal one.0) ≡ one.0 = decimal-value one.0 begins.short.0 in
    let cut = cut_reads (cut_words one.1 ++ rest) one.1 rest (record { spelled = refl; short = begins.short.1 }) in
    (ap₂ share (sym multiplier) cut.0 ∙ ap share_in (sym begins.spelled), cut.1 ∙ ap after_share (sym begins.spelled))

-- shares as items
abbrev pub share_kind : Kind (ℕ × CutTextOf)
share_kind = record { words = share_words; numbers = share_numbers; read = share_in; after = after_share; reads = share_reads; some = λ one rest is. some_words (decimal one.0) (cut_words one.1 ++ rest) is }

-- ---- bytes

-- what holds of digits and of `-` holds of each byte of a dual bound
module _ (P : ℕ → Type 0) (digit : (c : ℕ) → IsInRange 48 57 c → P c) (minus : P 45) where
  share_bytes : (one : ℕ × CutTextOf) → AreShort (share_numbers one) → All (All P) (share_words one)
  share_bytes one short = All-cons (All P) (decimal one.0) (cut_words one.1) (number_bytes P digit one.0 short.0) (cut_bytes P digit minus one.1 short.1)

  pub dual_bytes : (divisor : ℕ) (shares : List (ℕ × CutTextOf)) → AreShort (dual_numbers divisor shares) → All (All P) (dual_words divisor shares)
  dual_bytes divisor shares short = head_bytes share_kind P digit share_bytes divisor shares short

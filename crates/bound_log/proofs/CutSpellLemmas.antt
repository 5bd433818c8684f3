-- The lines of cuts and of dual bounds, put together from their parts.
use Rattle.std.proofs.Common.{◌≡◌, ℕ, List, [], ◌∷◌, ◌++◌, length, take, refl, ap, ap₂, sym, ◌∙◌, append-nil, append_assoc}
use Rattle.std.specs.Prelude.{ℤ, flat_map}
use Rattle.std.specs.Fmt.{decimal, signed_decimal}
use Rattle.std.specs.List.{join_with_byte}
use Rattle.std.proofs.lemmas.Grind.{flat_map-append}
use Rattle.bound_log.specs.CutSpelling.{cut_line_text, cut_text, numbers_text, pairs_text, shares_text, spaced, uses_text}
use Rattle.bound_log.specs.CutText.{CutTextOf, cut_words, pairs_words}
use Rattle.bound_log.specs.DualText.{dual_words, share_words}
use Rattle.bound_log.specs.LogText.{line_text}
use Rattle.bound_log.specs.NamedText.{named_text}
use Rattle.bound_log.specs.UseText.{use_dual_words, use_words}
use Rattle.bound_log.specs.declared.named_line.NamedLine.TheVariants.{UseDual}
use Rattle.bound_log.specs.declared.log_leaf.LogLeaf.TheVariants.{Dual}
use Rattle.bound_log.specs.declared.log_line.LogLine.TheVariants.{Leaf}

-- words with a space between two are the first word, and each other one behind its space
joined : (first : List ℕ) (words : List (List ℕ)) → join_with_byte 32 (first ∷ words) ≡ first ++ flat_map spaced words
joined first [] = sym (append-nil first)
joined first (word ∷ words) = ap (λ (t : List ℕ). first ++ (32 ∷ t)) (joined word words)

spaced_pairs : (pairs : List (ℕ × ℤ)) → flat_map spaced (pairs_words pairs) ≡ pairs_text pairs
spaced_pairs [] = refl
spaced_pairs (pair ∷ pairs) =
    ap (λ (t : List ℕ). spaced (decimal pair.0) ++ (spaced (signed_decimal pair.1) ++ t)) (spaced_pairs pairs)
    ∙ sym (append_assoc (spaced (decimal pair.0)) (spaced (signed_decimal pair.1)) (pairs_text pairs))

pub spaced_cut : (cut : CutTextOf) → flat_map spaced (cut_words cut) ≡ cut_text cut
spaced_cut cut =
    ap (λ (t : List ℕ). spaced (decimal cut.limit) ++ (spaced (decimal (length cut.pairs)) ++ t)) (spaced_pairs cut.pairs)
    ∙ sym (append_assoc (spaced (decimal cut.limit)) (spaced (decimal (length cut.pairs))) (pairs_text cut.pairs))

spaced_shares : (shares : List (ℕ × CutTextOf)) → flat_map spaced (flat_map share_words shares) ≡ shares_text shares
spaced_shares [] = refl
spaced_shares (share ∷ shares) =
    flat_map-append spaced (share_words share) (flat_map share_words shares)
    ∙ ap₂ (λ (s t : List ℕ). (spaced (decimal share.0) ++ s) ++ t) (spaced_cut share.1) (spaced_shares shares)

pub spaced_dual : (divisor : ℕ) (shares : List (ℕ × CutTextOf)) → flat_map spaced (dual_words divisor shares) ≡ numbers_text divisor (length shares) ++ shares_text shares
spaced_dual divisor shares =
    ap (λ (t : List ℕ). spaced (decimal divisor) ++ (spaced (decimal (length shares)) ++ t)) (spaced_shares shares)
    ∙ sym (append_assoc (spaced (decimal divisor)) (spaced (decimal (length shares))) (shares_text shares))

-- a line, put behind what is there: the byte of its kind, and each word behind its space
pub line_put : (old begun now ended : List ℕ) (kind : ℕ) (words : List (List ℕ)) → begun ≡ old ++ kind ∷ [] → now ≡ begun ++ flat_map spaced words → ended ≡ now ++ 10 ∷ [] →
    ended ≡ old ++ (join_with_byte 32 ((kind ∷ []) ∷ words) ++ 10 ∷ [])
line_put old begun now ended kind words begin put end =
    let body : now ≡ old ++ join_with_byte 32 ((kind ∷ []) ∷ words) =
    put ∙ ap (λ (t : List ℕ). t ++ flat_map spaced words) begin ∙ append_assoc old (kind ∷ []) (flat_map spaced words)
    ∙ ap (λ (t : List ℕ). old ++ t) (sym (joined (kind ∷ []) words)) in
    end ∙ ap (λ (t : List ℕ). t ++ 10 ∷ []) body ∙ append_assoc old (join_with_byte 32 ((kind ∷ []) ∷ words)) (10 ∷ [])

-- the line of a kind with the words of a cut
pub cut_put : (old begun now ended : List ℕ) (kind : ℕ) (cut : CutTextOf) → begun ≡ old ++ kind ∷ [] → now ≡ begun ++ cut_text cut → ended ≡ now ++ 10 ∷ [] → ended ≡ old ++ cut_line_text kind cut
cut_put old begun now ended kind cut begin put end =
    line_put old begun now ended kind (cut_words cut) begin (put ∙ ap (λ (t : List ℕ). begun ++ t) (sym (spaced_cut cut))) end

-- the line of a dual bound
pub dual_put : (old begun headed now ended : List ℕ) (divisor count : ℕ) (shares : List (ℕ × CutTextOf)) → count ≡ length shares → begun ≡ old ++ 100 ∷ [] → headed ≡ begun ++ numbers_text divisor count →
    now ≡ headed ++ shares_text shares → ended ≡ now ++ 10 ∷ [] → ended ≡ old ++ line_text (Leaf (Dual divisor shares))
dual_put old begun headed now ended divisor count shares count_is begin head put end =
    line_put old begun now ended 100 (dual_words divisor shares) begin
    (put ∙ ap (λ (t : List ℕ). t ++ shares_text shares) (head ∙ ap (λ (n : ℕ). begun ++ numbers_text divisor n) count_is)
    ∙ append_assoc begun (numbers_text divisor (length shares)) (shares_text shares)
    ∙ ap (λ (t : List ℕ). begun ++ t) (sym (spaced_dual divisor shares)))
    end

spaced_uses : (uses : List (ℕ × ℕ)) → flat_map spaced (flat_map use_words uses) ≡ uses_text uses
spaced_uses [] = refl
spaced_uses (one ∷ uses) =
    ap (λ (t : List ℕ). spaced (decimal one.0) ++ (spaced (decimal one.1) ++ t)) (spaced_uses uses)
    ∙ sym (append_assoc (spaced (decimal one.0)) (spaced (decimal one.1)) (uses_text uses))

spaced_use_dual : (divisor : ℕ) (uses : List (ℕ × ℕ)) → flat_map spaced (use_dual_words divisor uses) ≡ numbers_text divisor (length uses) ++ uses_text uses
spaced_use_dual divisor uses =
    ap (λ (t : List ℕ). spaced (decimal divisor) ++ (spaced (decimal (length uses)) ++ t)) (spaced_uses uses)
    ∙ sym (append_assoc (spaced (decimal divisor)) (spaced (decimal (length uses))) (uses_text uses))

-- .. of a dual bound of format 2
pub use_dual_put : (old begun headed now ended : List ℕ) (divisor count : ℕ) (uses : List (ℕ × ℕ)) → count ≡ length uses → begun ≡ old ++ 100 ∷ [] → headed ≡ begun ++ numbers_text divisor count →
    now ≡ headed ++ uses_text uses → ended ≡ now ++ 10 ∷ [] → ended ≡ old ++ named_text (UseDual divisor uses)
use_dual_put old begun headed now ended divisor count uses count_is begin head put end =
    line_put old begun now ended 100 (use_dual_words divisor uses) begin
    (put ∙ ap (λ (t : List ℕ). t ++ uses_text uses) (head ∙ ap (λ (n : ℕ). begun ++ numbers_text divisor n) count_is)
    ∙ append_assoc begun (numbers_text divisor (length uses)) (uses_text uses)
    ∙ ap (λ (t : List ℕ). begun ++ t) (sym (spaced_use_dual divisor uses)))
    end

-- ---- what stood before stays at the front

pub record Begins (old now : List ℕ) : Type 0 where
  pub front : take (length old) now ≡ old

pub begins_itself : (old : List ℕ) → take (length old) old ≡ old
begins_itself [] = refl
begins_itself (x ∷ old) = ap (λ (t : List ℕ). x ∷ t) (begins_itself old)

pub begins_with : (old more : List ℕ) → take (length old) (old ++ more) ≡ old
begins_with [] more = refl
begins_with (x ∷ old) more = ap (λ (t : List ℕ). x ∷ t) (begins_with old more)

pub begins_then : (old middle now : List ℕ) → take (length old) middle ≡ old → take (length middle) now ≡ middle → take (length old) now ≡ old
begins_then [] middle now first second = refl
begins_then (x ∷ old) [] now first second = absurd (cc)
begins_then (x ∷ old) (y ∷ middle) [] first second = absurd (cc)
begins_then (x ∷ old) (y ∷ middle) (z ∷ now) first second =
    let same : z ≡ x = cc in
    let one : take (length old) middle ≡ old = cc in
    let two : take (length middle) now ≡ middle = cc in
    ap₂ (λ (c : ℕ) (t : List ℕ). c ∷ t) same (begins_then old middle now one two)

-- ---- pairs one by one

pub record Put (old text now rest : List ℕ) : Type 0 where
  pub all : now ++ rest ≡ old ++ text
  pub front : take (length old) now ≡ old

pub put_none : (old text : List ℕ) → Put old text old text
put_none old text = record { all = refl; front = begins_itself old }

pub put_one : (old text now word more after : List ℕ) → Put old text now (word ++ more) → after ≡ now ++ word → Put old text after more
put_one old text now word more after put is = record {
  all = ap (λ (t : List ℕ). t ++ more) is ∙ append_assoc now word more ∙ put.all;
  front = begins_then old now after put.front (ap (take (length now)) is ∙ begins_with now word);
}

pub put_all : (old text now : List ℕ) → Put old text now [] → now ≡ old ++ text
put_all old text now put = sym (append-nil now) ∙ put.all

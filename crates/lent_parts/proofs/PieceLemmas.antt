-- Pieces of a text: how they are cut off one by one, and what they are to the text.
use Rattle.std.proofs.Common.{◌≡◌, ℕ, ◌+◌, ◌<◌, ◌≤◌, ◌==◌, Bool, true, false, List, [], ◌∷◌, ◌++◌, length, get_or, take, drop, map, flat_map, All, refl, sym, ap, subst, ◌∙◌, inl, inr, append_assoc, append-nil, eq-eqb, arith}
use Rattle.std.specs.Prelude.{count_by}
use Rattle.std.specs.List.{slice_split, onto_first, join_with_byte}
use Rattle.std.proofs.lemmas.Bool.{cases_Bool, ne_eqb}
use Rattle.std.proofs.lemmas.List.{drop_more, take-append-drop, get_or-take, length-take, length-append}
use Rattle.std.proofs.Math.Seq.{drop-append_seam, take-append_seam}
use Rattle.std.proofs.lemmas.List.Splits.{slice_split-cons_yes, slice_split-cons_no, slice_split_none, slice_split_at, join_with_byte-slice_split, length-slice_split}
use Rattle.std.proofs.lemmas.List.Elements.{All-nil, All-cons, All-head, All-tail, All-from_get_or}
use Rattle.lent_parts.specs.Pieces.{TextLineOf, TokenOf, is_space, space, is_line_feed, line_feed, placed_from, tokens_from, tokens_of, lines_between, lines_of, line_bytes}
use Rattle.lent_parts.specs.PieceLaws.{IsSliceOf}

-- ---- the first piece

-- a text with a byte at a place is its front, the byte and the rest
around : (xs : List ℕ) (i byte : ℕ) → i < length xs → get_or xs i 0 ≡ byte → xs ≡ take i xs ++ byte ∷ drop (i + 1) xs
around xs i byte inside here = sym (take-append-drop i xs) ∙ ap (λ l. take i xs ++ l) (drop_more xs i 0 inside ∙ ap (λ c. c ∷ drop (i + 1) xs) here)

-- what is no piece's end, at each place before i
all_before : (P : ℕ → Type 0) (xs : List ℕ) (i : ℕ) → i ≤ length xs → ((k : ℕ) → k < i → P (get_or xs k 0)) → All P (take i xs)
all_before P xs i within reads =
    All-from_get_or P (take i xs) 0 (λ k lt.
    let below : k < i = omega (arith, length-take {A = ℕ}) in
    subst P (sym (get_or-take i xs k 0 below)) (reads k below))

-- the first piece ends where the byte stands first
pub split_here : (byte : ℕ) (xs : List ℕ) (i : ℕ) → i < length xs → get_or xs i 0 ≡ byte → ((k : ℕ) → k < i → get_or xs k 0 ≡ byte → ⊥) → slice_split (λ c. c == byte) xs ≡ take i xs ∷ slice_split (λ c. c == byte) (drop (i + 1) xs)
split_here byte xs i inside here before =
    ap (slice_split (λ c. c == byte)) (around xs i byte inside here)
    ∙ slice_split_at (λ c. c == byte) (take i xs) byte (drop (i + 1) xs)
    (all_before (λ c. (c == byte) ≡ false) xs i (omega arith) (λ k lt. ne_eqb (get_or xs k 0) byte (before k lt)))
    (eq-eqb byte byte refl)

-- without the byte there is one piece
pub split_nowhere : (byte : ℕ) (xs : List ℕ) → ((k : ℕ) → k < length xs → get_or xs k 0 ≡ byte → ⊥) → slice_split (λ c. c == byte) xs ≡ xs ∷ []
split_nowhere byte xs lacks =
    slice_split_none (λ c. c == byte) xs (All-from_get_or (λ c. (c == byte) ≡ false) xs 0 (λ k lt. ne_eqb (get_or xs k 0) byte (lacks k lt)))

-- there is a first piece
record FirstPiece (pieces : List (List ℕ)) : Type 0 where
  first : List ℕ
  more : List (List ℕ)
  is : pieces ≡ first ∷ more

first_piece : (test : ℕ → Bool) (text : List ℕ) → FirstPiece (slice_split test text)
first_piece test [] = record { first = []; more = []; is = refl }
first_piece test (c ∷ text) =
    let after = first_piece test text in
    elim (cases_Bool (test c)) [
      | inl yes' ↦ record { first = []; more = slice_split test text; is = slice_split-cons_yes test c text yes' }
      | inr no' ↦ record { first = c ∷ after.first; more = after.more; is = slice_split-cons_no test c text no' ∙ ap (onto_first c) after.is }
    ]

-- no piece has a byte at which the text is cut
pub pieces_lack : (test : ℕ → Bool) (text : List ℕ) → All (λ piece. All (λ c. test c ≡ false) piece) (slice_split test text)
pieces_lack test [] = All-cons (All (λ c. test c ≡ false)) [] [] (All-nil (λ c. test c ≡ false)) (All-nil (All (λ c. test c ≡ false)))
pieces_lack test (c ∷ text) =
    let P = All (λ c. test c ≡ false) in
    let after = first_piece test text in
    let each = subst (All P) after.is (pieces_lack test text) in
    elim (cases_Bool (test c)) [
      | inl yes' ↦ subst (All P) (sym (slice_split-cons_yes test c text yes')) (All-cons P [] (slice_split test text) (All-nil (λ c. test c ≡ false)) (pieces_lack test text))
      | inr no' ↦
          subst (All P) (sym (slice_split-cons_no test c text no' ∙ ap (onto_first c) after.is))
          (All-cons P (c ∷ after.first) after.more
          (All-cons (λ c. test c ≡ false) c after.first no' (All-head P after.first after.more each))
          (All-tail P after.first after.more each))
    ]

-- ---- lines

-- a line with its LF is followed by the lines of the rest
pub first_line : (text piece rest : List ℕ) → slice_split is_line_feed text ≡ piece ∷ slice_split is_line_feed rest → lines_of text ≡ record { text = piece; ended = true } ∷ lines_of rest
first_line text piece rest split =
    let after = first_piece is_line_feed rest in
    ap lines_between (split ∙ ap (λ more. piece ∷ more) after.is)
    ∙ ap (λ more. record { text = piece; ended = true } ∷ lines_between more) (sym after.is)

-- a text without LF that isn't empty is one line
pub last_line : (text : List ℕ) → 0 < length text → slice_split is_line_feed text ≡ text ∷ [] → lines_of text ≡ record { text = text; ended = false } ∷ []
last_line [] some split = absurd (omega arith)
last_line (c ∷ text) some split = ap lines_between split

-- the lines with their LFs are the pieces with LF between each two
lines_joined : (pieces : List (List ℕ)) → flat_map line_bytes (lines_between pieces) ≡ join_with_byte line_feed pieces
lines_joined [] = refl
lines_joined ([] ∷ []) = refl
lines_joined ((c ∷ last) ∷ []) = append-nil (c ∷ last)
lines_joined (piece ∷ next ∷ rest) =
    append_assoc piece (line_feed ∷ []) (flat_map line_bytes (lines_between (next ∷ rest)))
    ∙ ap (λ after. piece ++ line_feed ∷ after) (lines_joined (next ∷ rest))

pub lines_of-joined : (text : List ℕ) → flat_map line_bytes (lines_of text) ≡ text
lines_of-joined text = lines_joined (slice_split is_line_feed text) ∙ join_with_byte-slice_split line_feed text

-- what holds of each piece holds of each line
each_line : (P : List ℕ → Type 0) (pieces : List (List ℕ)) → All P pieces → All (λ line. P line.text) (lines_between pieces)
each_line P [] each = All-nil (λ line. P line.text)
each_line P ([] ∷ []) each = All-nil (λ line. P line.text)
each_line P ((c ∷ last) ∷ []) each =
    All-cons (λ line. P line.text) (record { text = c ∷ last; ended = false }) [] (All-head P (c ∷ last) [] each) (All-nil (λ line. P line.text))
each_line P (piece ∷ next ∷ rest) each =
    All-cons (λ line. P line.text) (record { text = piece; ended = true }) (lines_between (next ∷ rest))
    (All-head P piece (next ∷ rest) each)
    (each_line P (next ∷ rest) (All-tail P piece (next ∷ rest) each))

pub lines_of-lack : (text : List ℕ) → All (λ line. All (λ c. is_line_feed c ≡ false) line.text) (lines_of text)
lines_of-lack text = each_line (All (λ c. is_line_feed c ≡ false)) (slice_split is_line_feed text) (pieces_lack is_line_feed text)

-- only a last line lacks its LF, and it isn't empty
unended : (pieces : List (List ℕ)) (front rest : List TextLineOf) (line : TextLineOf) → lines_between pieces ≡ front ++ line ∷ rest → line.ended ≡ false → (rest ≡ []) × (0 < length line.text)
unended [] [] rest line are open' = absurd (cc)
unended [] (f ∷ front) rest line are open' = absurd (cc)
unended ([] ∷ []) [] rest line are open' = absurd (cc)
unended ([] ∷ []) (f ∷ front) rest line are open' = absurd (cc)
unended ((c ∷ last) ∷ []) [] rest line are open' =
    let text : line.text ≡ c ∷ last = cc in
    let long : length line.text ≡ length (c ∷ last) = ap length text in
    (cc, omega arith)
unended ((c ∷ last) ∷ []) (f ∷ []) rest line are open' = absurd (cc)
unended ((c ∷ last) ∷ []) (f ∷ g ∷ front) rest line are open' = absurd (cc)
unended (piece ∷ next ∷ more) [] rest line are open' = absurd (cc)
unended (piece ∷ next ∷ more) (f ∷ front) rest line are open' = unended (next ∷ more) front rest line (cc) open'

pub lines_of-unended : (text : List ℕ) (front rest : List TextLineOf) (line : TextLineOf) → lines_of text ≡ front ++ line ∷ rest → line.ended ≡ false → (rest ≡ []) × (0 < length line.text)
lines_of-unended text = unended (slice_split is_line_feed text)

-- ---- tokens

placed_texts : (start : ℕ) (pieces : List (List ℕ)) → map (λ token. token.text) (placed_from start pieces) ≡ pieces
placed_texts start [] = refl
placed_texts start (piece ∷ rest) = ap (λ more. piece ∷ more) (placed_texts (start + length piece + 1) rest)

-- .. of the end of a line
pub tokens_from-texts : (start : ℕ) (text : List ℕ) → map (λ token. token.text) (tokens_from start text) ≡ slice_split is_space text
tokens_from-texts start text = placed_texts start (slice_split is_space text)

-- even an empty text has a token
pub tokens_from-some : (start : ℕ) (text : List ℕ) → tokens_from start text ≡ [] → ⊥
tokens_from-some start text none =
    let pieces : slice_split is_space text ≡ [] = sym (placed_texts start (slice_split is_space text)) ∙ ap (map {A = TokenOf} {B = List ℕ} (λ token. token.text)) none in
    let many : length (slice_split is_space text) ≡ count_by is_space text + 1 = length-slice_split is_space text in
    let few : length (slice_split is_space text) ≡ 0 = ap length pieces in
    absurd (omega arith)

-- the texts of the tokens of a line are its pieces
pub tokens_of-texts : (line : List ℕ) → map (λ token. token.text) (tokens_of line) ≡ slice_split is_space line
tokens_of-texts line = placed_texts 0 (slice_split is_space line)

pub tokens_of-joined : (line : List ℕ) → join_with_byte space (map (λ token. token.text) (tokens_of line)) ≡ line
tokens_of-joined line = ap (join_with_byte space) (tokens_of-texts line) ∙ join_with_byte-slice_split space line

-- a piece is the slice of the text at its place
slice_at : (line front piece after : List ℕ) (start : ℕ) → start ≡ length front → line ≡ front ++ (piece ++ after) → take (length piece) (drop start line) ≡ piece
slice_at line front piece after start at is =
    ap (λ n. take (length piece) (drop n line)) at
    ∙ ap (λ l. take (length piece) (drop (length front) l)) is
    ∙ ap (take (length piece)) (drop-append_seam front (piece ++ after))
    ∙ take-append_seam piece after

placed_slices : (line front : List ℕ) (start : ℕ) (pieces : List (List ℕ)) → start ≡ length front → line ≡ front ++ join_with_byte space pieces → All (λ piece. All (λ c. is_space c ≡ false) piece) pieces → All (IsSliceOf line) (placed_from start pieces)
placed_slices line front start [] at is each = All-nil (IsSliceOf line)
placed_slices line front start (piece ∷ []) at is each =
    All-cons (IsSliceOf line) (record { text = piece; start = start }) []
    (record { slice = slice_at line front piece [] start at (is ∙ ap (λ l. front ++ l) (sym (append-nil piece))); whole = All-head (All (λ c. is_space c ≡ false)) piece [] each })
    (All-nil (IsSliceOf line))
placed_slices line front start (piece ∷ next ∷ rest) at is each =
    All-cons (IsSliceOf line) (record { text = piece; start = start }) (placed_from (start + length piece + 1) (next ∷ rest))
    (record { slice = slice_at line front piece (space ∷ join_with_byte space (next ∷ rest)) start at is; whole = All-head (All (λ c. is_space c ≡ false)) piece (next ∷ rest) each })
    (placed_slices line (front ++ (piece ++ space ∷ [])) (start + length piece + 1) (next ∷ rest)
    (omega (arith, length-append {A = ℕ}))
    (is ∙ regroup front piece (join_with_byte space (next ∷ rest)))
    (All-tail (All (λ c. is_space c ≡ false)) piece (next ∷ rest) each))
  where
    regroup : (a b after : List ℕ) → a ++ (b ++ space ∷ after) ≡ (a ++ (b ++ space ∷ [])) ++ after
    regroup a b after = sym (append_assoc a (b ++ space ∷ []) after ∙ ap (λ l. a ++ l) (append_assoc b (space ∷ []) after))

pub tokens_of-slices : (line : List ℕ) → All (IsSliceOf line) (tokens_of line)
tokens_of-slices line =
    placed_slices line [] 0 (slice_split is_space line) refl (sym (join_with_byte-slice_split space line)) (pieces_lack is_space line)

-- no other pieces without a space make the line
pub tokens_of-only : (line first : List ℕ) (rest : List (List ℕ)) → All (λ piece. All (λ c. is_space c ≡ false) piece) (first ∷ rest) → line ≡ join_with_byte space (first ∷ rest) → map (λ token. token.text) (tokens_of line) ≡ first ∷ rest
tokens_of-only line first rest each is = tokens_of-texts line ∙ ap (slice_split is_space) is ∙ split_joined first rest each
  where
    split_joined : (first : List ℕ) (rest : List (List ℕ)) → All (λ piece. All (λ c. is_space c ≡ false) piece) (first ∷ rest) → slice_split is_space (join_with_byte space (first ∷ rest)) ≡ first ∷ rest
    split_joined first [] each = slice_split_none is_space first (All-head (All (λ c. is_space c ≡ false)) first [] each)
    split_joined first (next ∷ rest) each =
        slice_split_at is_space first space (join_with_byte space (next ∷ rest)) (All-head (All (λ c. is_space c ≡ false)) first (next ∷ rest) each) refl
        ∙ ap (λ more. first ∷ more) (split_joined next rest (All-tail (All (λ c. is_space c ≡ false)) first (next ∷ rest) each))

-- a text that begins with a line and its LF has that line first
pub lines_of-more : (line rest : List ℕ) → All (λ c. is_line_feed c ≡ false) line → lines_of (line ++ line_feed ∷ rest) ≡ record { text = line; ended = true } ∷ lines_of rest
lines_of-more line rest lacks = first_line (line ++ line_feed ∷ rest) line rest (slice_split_at is_line_feed line line_feed rest lacks refl)

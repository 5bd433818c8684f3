-- What a text that is a name has, and one that is none.
use Rattle.std.proofs.Common.{◌≡◌, ℕ, ◌<◌, ◌≤◌, List, length, true, false, arith}
use Rattle.std.proofs.lemmas.Bool.{false_from_ne_true}
use Rattle.std.proofs.lemmas.Bool.Decides.{nat_tests}
use Rattle.std.proofs.lemmas.Str.{IsUtf8-from_is_utf8, is_utf8-from_IsUtf8}
use Rattle.std.specs.Prelude.{IsUtf8}
use Rattle.std.specs.List.{list_all}
use Rattle.std.specs.Str.{is_utf8}
use Rattle.table_columns.specs.Names.{is_name, is_name_byte}

pub is_name-empty : (text : List ℕ) → length text ≡ 0 → is_name text ≡ false
unfolding is_name
is_name-empty text is = grind (arith, nat_tests)

pub is_name-long : (text : List ℕ) → 32 < length text → is_name text ≡ false
unfolding is_name
is_name-long text long = grind (arith, nat_tests)

pub is_name-bad : (text : List ℕ) → list_all is_name_byte text ≡ false → is_name text ≡ false
unfolding is_name
is_name-bad text bad = grind (arith, nat_tests)

pub is_name-within : (text : List ℕ) → 0 < length text → length text ≤ 32 → list_all is_name_byte text ≡ true → is_name text ≡ is_utf8 text
unfolding is_name
is_name-within text low high good = grind (arith, nat_tests)

pub ruleset name_tests = (is_name-empty, is_name-long, is_name-bad, is_name-within)

-- a text that is within its length and bytes is a name exactly where it is UTF-8
pub is_name-utf8 : (text : List ℕ) → 0 < length text → length text ≤ 32 → list_all is_name_byte text ≡ true → IsUtf8 text → is_name text ≡ true
is_name-utf8 text low high good utf8 = rw (is_name-within text low high good) (is_utf8-from_IsUtf8 text utf8)

pub is_name-other : (text : List ℕ) → 0 < length text → length text ≤ 32 → list_all is_name_byte text ≡ true → ¬ (IsUtf8 text) → is_name text ≡ false
is_name-other text low high good other =
    rw (is_name-within text low high good) (false_from_ne_true (is_utf8 text) (λ t. other (IsUtf8-from_is_utf8 text t)))

-- What the lines of format 2 that name or use cuts mean, and when they are allowed.
use Rattle.std.proofs.Common.{◌≡◌, ℕ, ◌<◌, ◌≤◌, ◌^◌, ltb, ◌&&◌, Bool, true, false, if◌then◌else◌, List, [], ◌∷◌, length, map, All, Some, None, arith, refl, ap, ap₂, sym, ◌∙◌, subst, inl, inr}
use Rattle.std.specs.Prelude.{flat_map, slice_get}
use Rattle.std.specs.List.{list_all}
use Rattle.std.proofs.lemmas.Bool.{cases_Bool, le-ltb, ltb-true, lt-ltb}
use Rattle.std.proofs.lemmas.List.{length-map}
use Rattle.std.proofs.lemmas.List.Elements.{All-nil, All-cons, All-head, All-tail}
use Rattle.std.proofs.lemmas.Option.{get_or_from_slice_get, slice_get_within}
use Rattle.geo_model.specs.Network.{NetworkOf}
use Rattle.geo_model.specs.declared.plan.Node.{Node}
use Rattle.cut_pool.specs.declared.share.Share.{Share}
use Rattle.bound_log.specs.CutText.{CutTextOf}
use Rattle.bound_log.specs.LogTree.{IsBrokenBy, IsDualLineAt}
use Rattle.bound_log.specs.Meanings.{Meaning, cut_named, found_share, found_use, is_cut_in_range, is_named, lacking, may_name, named_meaning, naming, meaning_rules, share_used, standing}
use Rattle.bound_log.specs.NamedText.{IsNamedLine, named_body}
use Rattle.bound_log.specs.Numbers.{AreShort}
use Rattle.bound_log.specs.Rules.{IsAllowedLine, first_unkept}
use Rattle.bound_log.specs.UseText.{use_numbers, use_of, uses_of}
use Rattle.bound_log.specs.declared.log_kind.LogKind.TheVariants.{Range}
use Rattle.bound_log.specs.declared.log_leaf.LogLeaf.TheVariants.{Cut, Dual}
use Rattle.bound_log.specs.declared.log_line.LogLine.{LogLine}
use Rattle.bound_log.specs.declared.log_line.LogLine.TheVariants.{Leaf}
use Rattle.bound_log.specs.declared.named_line.NamedLine.TheVariants.{UseCut, UseDual}
use Rattle.bound_log.proofs.AllowedLemmas.{cut_allowed, cut_broken, dual_allowed, dual_at}
use Rattle.bound_log.proofs.NamedLemmas.{IsNamedLine-body}

-- ---- what a number of a cut means

-- an answer of two that a test picks
picked : {X : Type 0} (b : Bool) (one other : X) → b ≡ true → (if b then one else other) ≡ one
picked b one other is = ap (λ c. if c then one else other) is

passed_over : {X : Type 0} (b : Bool) (one other : X) → b ≡ false → (if b then one else other) ≡ other
passed_over b one other is = ap (λ c. if c then one else other) is

abbrev no_cut : CutTextOf
no_cut = record { limit = 0; pairs = [] }

pub use_means : (cuts : List CutTextOf) (number : ℕ) (cut : CutTextOf) → slice_get cuts number ≡ Some cut → named_meaning cuts (UseCut number) ≡ standing (Leaf (Cut cut))
use_means cuts number cut named =
    picked (is_named cuts number) (standing (Leaf (Cut (cut_named cuts number)))) lacking (lt-ltb number (length cuts) (slice_get_within cuts number cut named))
    ∙ ap (λ (c : CutTextOf). standing (Leaf (Cut c))) (get_or_from_slice_get cuts number cut no_cut named)

pub use_lacks : (cuts : List CutTextOf) (number : ℕ) → length cuts ≤ number → named_meaning cuts (UseCut number) ≡ lacking
use_lacks cuts number high = passed_over (is_named cuts number) (standing (Leaf (Cut (cut_named cuts number)))) lacking (le-ltb number (length cuts) high)

-- .. and those of the uses of a dual bound
abbrev used : List CutTextOf → ℕ × ℕ → Bool
used cuts one = is_named cuts one.1

abbrev pub IsUsed : List CutTextOf → ℕ × ℕ → Type 0
IsUsed cuts one = one.1 < length cuts

both_hold : (a b : Bool) → a ≡ true → b ≡ true → (a && b) ≡ true
both_hold a b one two = ap (λ x. x && b) one ∙ two

first_holds : (a b : Bool) → (a && b) ≡ true → a ≡ true
first_holds true b is = refl
first_holds false b is = absurd (cc)

second_holds : (a b : Bool) → (a && b) ≡ true → b ≡ true
second_holds true b is = is
second_holds false b is = absurd (cc)

pub all_used : (cuts : List CutTextOf) (uses : List (ℕ × ℕ)) → All (IsUsed cuts) uses → list_all (used cuts) uses ≡ true
all_used cuts [] each = refl
all_used cuts (one ∷ uses) each =
    both_hold (used cuts one) (list_all (used cuts) uses) (lt-ltb one.1 (length cuts) (All-head (IsUsed cuts) one uses each)) (all_used cuts uses (All-tail (IsUsed cuts) one uses each))

pub used_all : (cuts : List CutTextOf) (uses : List (ℕ × ℕ)) → list_all (used cuts) uses ≡ true → All (IsUsed cuts) uses
used_all cuts [] is = All-nil (IsUsed cuts)
used_all cuts (one ∷ uses) is =
    All-cons (IsUsed cuts) one uses (ltb-true one.1 (length cuts) (first_holds (used cuts one) (list_all (used cuts) uses) is))
    (used_all cuts uses (second_holds (used cuts one) (list_all (used cuts) uses) is))

record SameUse (cuts : List CutTextOf) (one : ℕ × ℕ) (uses : List (ℕ × ℕ)) (share : ℕ × CutTextOf) (shares : List (ℕ × CutTextOf)) : Type 0 where
  weight : one.0 ≡ share.0
  cut : slice_get cuts one.1 ≡ Some share.1
  rest : map (found_use cuts) uses ≡ map found_share shares

same_use : (cuts : List CutTextOf) (one : ℕ × ℕ) (uses : List (ℕ × ℕ)) (share : ℕ × CutTextOf) (shares : List (ℕ × CutTextOf)) →
    map (found_use cuts) (one ∷ uses) ≡ map found_share (share ∷ shares) → SameUse cuts one uses share shares
same_use cuts one uses share shares same =
    let first : found_use cuts one ≡ found_share share = cc in
    record { weight = ap (λ p. p.0) first; cut = ap (λ p. p.1) first; rest = cc }

pub uses_used : (cuts : List CutTextOf) (uses : List (ℕ × ℕ)) (shares : List (ℕ × CutTextOf)) → map (found_use cuts) uses ≡ map found_share shares → All (IsUsed cuts) uses
uses_used cuts [] shares same = All-nil (IsUsed cuts)
uses_used cuts (one ∷ uses) [] same = absurd (cc)
uses_used cuts (one ∷ uses) (share ∷ shares) same =
    let both = same_use cuts one uses share shares same in
    All-cons (IsUsed cuts) one uses (slice_get_within cuts one.1 share.1 both.cut) (uses_used cuts uses shares both.rest)

shares_are : (cuts : List CutTextOf) (uses : List (ℕ × ℕ)) (shares : List (ℕ × CutTextOf)) → map (found_use cuts) uses ≡ map found_share shares → map (share_used cuts) uses ≡ shares
shares_are cuts [] [] same = refl
shares_are cuts [] (share ∷ shares) same = absurd (cc)
shares_are cuts (one ∷ uses) [] same = absurd (cc)
shares_are cuts (one ∷ uses) (share ∷ shares) same =
    let both = same_use cuts one uses share shares same in
    let made : ℕ → CutTextOf → ℕ × CutTextOf = λ y cut. (y, cut) in
    ap₂ (λ (s : ℕ × CutTextOf) (rest : List (ℕ × CutTextOf)). s ∷ rest)
    (ap₂ made both.weight (get_or_from_slice_get cuts one.1 share.1 no_cut both.cut)) (shares_are cuts uses shares both.rest)

pub dual_means : (cuts : List CutTextOf) (divisor : ℕ) (uses : List (ℕ × ℕ)) (shares : List (ℕ × CutTextOf)) → map (found_use cuts) uses ≡ map found_share shares →
    named_meaning cuts (UseDual divisor uses) ≡ standing (Leaf (Dual divisor shares))
dual_means cuts divisor uses shares same =
    picked (list_all (used cuts) uses) (standing (Leaf (Dual divisor (map (share_used cuts) uses)))) lacking (all_used cuts uses (uses_used cuts uses shares same))
    ∙ ap (λ (s : List (ℕ × CutTextOf)). standing (Leaf (Dual divisor s))) (shares_are cuts uses shares same)

pub dual_lacks : (cuts : List CutTextOf) (divisor : ℕ) (uses : List (ℕ × ℕ)) → (All (IsUsed cuts) uses → ⊥) → named_meaning cuts (UseDual divisor uses) ≡ lacking
dual_lacks cuts divisor uses other = elim (cases_Bool (list_all (used cuts) uses)) [
  | inl is ↦ absurd (other (used_all cuts uses is))
  | inr not ↦ passed_over (list_all (used cuts) uses) (standing (Leaf (Dual divisor (map (share_used cuts) uses)))) lacking not
]

-- ---- what is allowed

abbrev pub IsUnbroken : NetworkOf → List CutTextOf → Node → Meaning → Type 0
IsUnbroken network cuts node meaning = first_unkept (meaning_rules network cuts node meaning) ≡ None

name_kept : (network : NetworkOf) (cuts : List CutTextOf) (node : Node) (cut : CutTextOf) (kept : Bool) → may_name network cuts cut ≡ kept → IsUnbroken network cuts node (naming cut) → kept ≡ true
name_kept network cuts node cut true is none = refl
name_kept network cuts node cut false is none =
    let both : Some Range ≡ None = sym (ap (λ (b : Bool). first_unkept (record { kept = b; kind = Range } ∷ [])) is) ∙ none in
    absurd (cc)

pub name_rules : (network : NetworkOf) (cuts : List CutTextOf) (node : Node) (cut : CutTextOf) → IsUnbroken network cuts node (naming cut) → (length cuts < 65536) × (is_cut_in_range network cut ≡ true)
name_rules network cuts node cut none =
    let kept : may_name network cuts cut ≡ true = name_kept network cuts node cut (may_name network cuts cut) refl none in
    (ltb-true (length cuts) 65536 (first_holds (ltb (length cuts) 65536) (is_cut_in_range network cut) kept), second_holds (ltb (length cuts) 65536) (is_cut_in_range network cut) kept)

pub name_allowed : (network : NetworkOf) (cuts : List CutTextOf) (node : Node) (cut : CutTextOf) → length cuts < 65536 → is_cut_in_range network cut ≡ true → IsUnbroken network cuts node (naming cut)
name_allowed network cuts node cut few range =
    let kept : may_name network cuts cut ≡ true = both_hold (ltb (length cuts) 65536) (is_cut_in_range network cut) (lt-ltb (length cuts) 65536 few) range in
    ap (λ (b : Bool). first_unkept (record { kept = b; kind = Range } ∷ [])) kept

-- a line that stands where a test passes
record StandsWhere (network : NetworkOf) (node : Node) (b : Bool) (line : LogLine) : Type 0 where
  passes : b ≡ true
  allowed : IsAllowedLine network node line

stands_where : (network : NetworkOf) (cuts : List CutTextOf) (node : Node) (b : Bool) (line : LogLine) → IsUnbroken network cuts node (if b then standing line else lacking) → StandsWhere network node b line
stands_where network cuts node true line none = record { passes = refl; allowed = none }
stands_where network cuts node false line none = absurd (cc)

where_stands : (network : NetworkOf) (cuts : List CutTextOf) (node : Node) (b : Bool) (line : LogLine) → b ≡ true → IsAllowedLine network node line → IsUnbroken network cuts node (if b then standing line else lacking)
where_stands network cuts node b line passes allowed =
    subst (λ (m : Meaning). IsUnbroken network cuts node m) (sym (picked b (standing line) lacking passes)) allowed

pub use_rules : (network : NetworkOf) (cuts : List CutTextOf) (node : Node) (number : ℕ) → IsUnbroken network cuts node (named_meaning cuts (UseCut number)) → (number < length cuts) × IsBrokenBy network node (cut_named cuts number)
use_rules network cuts node number none =
    let both = stands_where network cuts node (is_named cuts number) (Leaf (Cut (cut_named cuts number))) none in
    (ltb-true number (length cuts) both.passes, cut_broken network node (cut_named cuts number) both.allowed)

pub use_allowed : (network : NetworkOf) (cuts : List CutTextOf) (node : Node) (number : ℕ) → number < length cuts → IsBrokenBy network node (cut_named cuts number) → IsUnbroken network cuts node (named_meaning cuts (UseCut number))
use_allowed network cuts node number few broken =
    where_stands network cuts node (is_named cuts number) (Leaf (Cut (cut_named cuts number))) (lt-ltb number (length cuts) few) (cut_allowed network node (cut_named cuts number) broken)

pub dual_rules : (network : NetworkOf) (cuts : List CutTextOf) (node : Node) (divisor : ℕ) (uses : List (ℕ × ℕ)) → IsUnbroken network cuts node (named_meaning cuts (UseDual divisor uses)) →
    All (IsUsed cuts) uses × IsDualLineAt network node divisor (map (share_used cuts) uses)
dual_rules network cuts node divisor uses none =
    let both = stands_where network cuts node (list_all (used cuts) uses) (Leaf (Dual divisor (map (share_used cuts) uses))) none in
    (used_all cuts uses both.passes, dual_at network node divisor (map (share_used cuts) uses) both.allowed)

pub use_dual_allowed : (network : NetworkOf) (cuts : List CutTextOf) (node : Node) (divisor : ℕ) (uses : List (ℕ × ℕ)) → All (IsUsed cuts) uses → IsDualLineAt network node divisor (map (share_used cuts) uses) →
    IsUnbroken network cuts node (named_meaning cuts (UseDual divisor uses))
use_dual_allowed network cuts node divisor uses each here =
    where_stands network cuts node (list_all (used cuts) uses) (Leaf (Dual divisor (map (share_used cuts) uses))) (all_used cuts uses each)
    (dual_allowed network node divisor (map (share_used cuts) uses) here)

-- ---- lines that are read again

-- the numbers of a share whose line is read again
abbrev pub IsShortShare : Share → Type 0
IsShortShare share = (share.y ≤ 2 ^ 44) × (share.cut < 2 ^ 32)

uses_short : (shares : List Share) → All IsShortShare shares → AreShort (flat_map use_numbers (uses_of shares))
uses_short [] each = tt
uses_short (share ∷ shares) each =
    let one = All-head IsShortShare share shares each in
    let high : share.y ≤ 2 ^ 44 = one.0 in
    let few : share.cut < 2 ^ 32 = one.1 in
    (omega (arith, high), (omega (arith, few), uses_short shares (All-tail IsShortShare share shares each)))

pub use_read : (number : ℕ) → number < 2 ^ 32 → IsNamedLine (named_body (UseCut number)) (UseCut number)
use_read number few = IsNamedLine-body (UseCut number) (omega (arith, few), tt)

pub use_dual_read : (d : ℕ) (shares : List Share) → d ≤ 2 ^ 44 → length shares ≤ 64 → All IsShortShare shares → IsNamedLine (named_body (UseDual d (uses_of shares))) (UseDual d (uses_of shares))
use_dual_read d shares low few each =
    let long : length (uses_of shares) ≡ length shares = length-map shares use_of in
    IsNamedLine-body (UseDual d (uses_of shares)) (omega (arith, low), (omega (arith, long, few), uses_short shares each))

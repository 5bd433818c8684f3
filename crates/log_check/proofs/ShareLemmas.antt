-- The tests of the shares of a dual bound, one share after another.
use Rattle.std.proofs.Common.{◌≡◌, ℕ, ◌&&◌, ltb, Bool, true, false, List, [], ◌∷◌, length, map, refl, ap, ◌∙◌, sym}
use Rattle.std.specs.Prelude.{ℤ}
use Rattle.std.specs.List.{list_all}
use Rattle.std.proofs.lemmas.List.Folds.{list_all-map}
use Rattle.geo_model.specs.Network.{NetworkOf}
use Rattle.geo_model.specs.declared.plan.Node.{Node}
use Rattle.bound_log.specs.declared.log_leaf.LogLeaf.TheVariants.{Dual}
use Rattle.bound_log.specs.declared.log_line.LogLine.TheVariants.{Leaf}
use Rattle.bound_log.specs.CutText.{CutTextOf}
use Rattle.bound_log.specs.Rules.{are_few, is_displacement, is_in_range, is_owned, is_weight}
use Rattle.log_check.specs.Weighing.{is_owned_at, is_share_in_range}

-- ---- a list of tests

-- an element that fails
pub fails_at : {X : Type 0} (test : X → Bool) (all left : List X) (x : X) → list_all test all ≡ list_all test (x ∷ left) → test x ≡ false → list_all test all ≡ false
fails_at test all left x so_far fails = so_far ∙ ap (λ b. b && list_all test left) fails

-- .. and one that passes
pub holds_at : {X : Type 0} (test : X → Bool) (all left : List X) (x : X) → list_all test all ≡ list_all test (x ∷ left) → test x ≡ true → list_all test all ≡ list_all test left
holds_at test all left x so_far holds = so_far ∙ ap (λ b. b && list_all test left) holds

-- ---- ranges

three_parts : (a b c x y z : Bool) → ((a && (b && c)) && (x && (y && z))) ≡ ((a && x) && ((b && y) && (c && z)))
three_parts false b c x y z = refl
three_parts true false c false y z = refl
three_parts true false c true y z = refl
three_parts true true false false y z = refl
three_parts true true false true false z = refl
three_parts true true false true true z = refl
three_parts true true true x y z = refl

regroup : (a w b l d : Bool) → ((a && w) && ((b && true) && (l && d))) ≡ (a && (b && (w && (l && d))))
regroup false w b l d = refl
regroup true false true l d = refl
regroup true false false l d = refl
regroup true true true l d = refl
regroup true true false l d = refl

abbrev multiplier_of : ℕ × CutTextOf → ℕ
multiplier_of share = share.0

abbrev limit_of : ℕ × CutTextOf → ℕ
limit_of share = share.1.limit

abbrev pairs_of : ℕ × CutTextOf → List (ℕ × ℤ)
pairs_of share = share.1.pairs

abbrev below_limits : NetworkOf → ℕ → Bool
below_limits network number = ltb number (length network.limits)

-- the test of each share is each test of the shares
shares_tested : (network : NetworkOf) (shares : List (ℕ × CutTextOf)) → list_all (is_share_in_range network) shares
    ≡ (list_all is_weight (map multiplier_of shares) && (list_all (below_limits network) (map limit_of shares) && list_all (is_displacement (length network.unknowns)) (map pairs_of shares)))
shares_tested network [] = refl
shares_tested network (share ∷ shares) =
    ap (λ b. is_share_in_range network share && b) (shares_tested network shares)
    ∙ three_parts (is_weight share.0) (below_limits network share.1.limit) (is_displacement (length network.unknowns) share.1.pairs)
    (list_all is_weight (map multiplier_of shares)) (list_all (below_limits network) (map limit_of shares)) (list_all (is_displacement (length network.unknowns)) (map pairs_of shares))

-- the range of a line is the range of its divisor, of the number of its shares, and of each share
pub ranges_are : (network : NetworkOf) (divisor : ℕ) (shares : List (ℕ × CutTextOf)) → is_in_range network (Leaf (Dual divisor shares)) ≡ (is_weight divisor && (are_few (length shares) && list_all (is_share_in_range network) shares))
ranges_are network divisor shares =
    regroup (is_weight divisor) (list_all is_weight (map multiplier_of shares)) (are_few (length shares)) (list_all (below_limits network) (map limit_of shares)) (list_all (is_displacement (length network.unknowns)) (map pairs_of shares))
    ∙ ap (λ b. is_weight divisor && (are_few (length shares) && b)) (sym (shares_tested network shares))

pub shares_decide : (network : NetworkOf) (divisor : ℕ) (shares : List (ℕ × CutTextOf)) → is_weight divisor ≡ true → are_few (length shares) ≡ true → is_in_range network (Leaf (Dual divisor shares)) ≡ list_all (is_share_in_range network) shares
shares_decide network divisor shares weight few =
    ranges_are network divisor shares
    ∙ ap (λ b. b && (are_few (length shares) && list_all (is_share_in_range network) shares)) weight
    ∙ ap (λ b. b && list_all (is_share_in_range network) shares) few

-- ---- owners

pub owners_are : (network : NetworkOf) (node : Node) (divisor : ℕ) (shares : List (ℕ × CutTextOf)) → is_owned network node (Leaf (Dual divisor shares)) ≡ list_all (λ share. is_owned_at network node share.1.limit) shares
owners_are network node divisor shares = list_all-map (is_owned_at network node) limit_of shares

use Rattle.std.proofs.Common.{◌≡◌, ◌<◌, ◌≤◌, ◌^◌, ℕ, ◌+◌, ◌*◌, ℤ, pos, ◌-ℤ◌, ◌++◌, List, [], ◌∷◌, length, map, take, get_or, Option, Some, arith, ap, ◌∙◌, add-one, subst, sym}
use Rattle.std.specs.Prelude.{slice_get, unsigned_abs}
use Rattle.std.proofs.Math.Seq.{take-suc}
use Rattle.std.proofs.lemmas.List.{take_all, map-append, length-map, length-take}
use Rattle.whole_algebra.specs.Matrices.{at}
use Rattle.geo_model.specs.Dual.{WeighedCover}
use Rattle.geo_model.specs.Prices.{PricesOf}
use Rattle.cut_pool.specs.Cut.{CutOf, cover}
use Rattle.cut_pool.specs.declared.share.Share.{Share}
use Rattle.reduced_sums.specs.Weighed.{AreWeighed}
use Rattle.reduced_sums.proofs.WeighedLemmas.{weighed_more, weighed_small}
use Rattle.dual_bound.specs.Shares.{cover_or_none, weighed, weighed_covers, IsShare, AreShares}

-- Shares of a pool, taken off the prices one after another.

abbrev pub nothing : Share
nothing = record { y = 0; cut = 0 }

-- a share at a place
pub share_at : (count : ℕ) (pool : List CutOf) (d : ℕ) (shares : List Share) (i : ℕ) → AreShares count pool d shares → i < length shares → IsShare count pool (get_or shares i nothing)
share_at count pool d shares i are inside = are.each i nothing inside

-- the shares before a place and the one there
more_covers : (pool : List CutOf) (shares : List Share) (i : ℕ) (cut : CutOf) → i < length shares → slice_get pool (get_or shares i nothing).cut ≡ Some cut
    → weighed_covers pool (take (i + 1) shares) ≡ weighed_covers pool (take i shares) ++ record { multiplier = (get_or shares i nothing).y; cover = cover cut } ∷ []
more_covers pool shares i cut inside named =
    let share = get_or shares i nothing in
    let taken : take (i + 1) shares ≡ take i shares ++ (share ∷ []) = rw add-one (take-suc shares i nothing inside) in
    ap (map (weighed pool)) taken ∙ map-append (weighed pool) (take i shares) (share ∷ [])
    ∙ ap (λ (found : Option CutOf). weighed_covers pool (take i shares) ++ record { multiplier = share.y; cover = cover_or_none found } ∷ []) named

-- the share at a place is taken off
pub weighed_next : (prices : PricesOf) (d : ℕ) (pool : List CutOf) (shares : List Share) (i : ℕ) (cut : CutOf) (reduced now : List ℤ) (paid part : ℕ) → i < length shares → slice_get pool (get_or shares i nothing).cut ≡ Some cut
    → AreWeighed prices d (weighed_covers pool (take i shares)) reduced paid → part ≡ (get_or shares i nothing).y * cut.bound → part ≤ 2 ^ 68
    → ((k : ℕ) → at now k ≡ at reduced k -ℤ pos ((get_or shares i nothing).y * get_or cut.coefficients k 0)) → ((k : ℕ) → unsigned_abs (at now k) ≤ unsigned_abs (at reduced k) + 2 ^ 68)
    → AreWeighed prices d (weighed_covers pool (take (i + 1) shares)) now (paid + part)
weighed_next prices d pool shares i cut reduced now paid part inside named so_far is few taken near =
    subst (λ (l : List WeighedCover). AreWeighed prices d l now (paid + part)) (sym (more_covers pool shares i cut inside named))
    (weighed_more prices d (weighed_covers pool (take i shares)) (record { multiplier = (get_or shares i nothing).y; cover = cover cut }) reduced now paid part so_far is few taken near)

-- what shares leave of the prices, and what they pay, is small on the way
pub small_so_far : (prices : PricesOf) (d : ℕ) (pool : List CutOf) (shares : List Share) (i : ℕ) (reduced : List ℤ) (paid : ℕ) → length shares ≤ 64
    → AreWeighed prices d (weighed_covers pool (take i shares)) reduced paid → ((k : ℕ) → unsigned_abs (at reduced k) ≤ 2 ^ 75) × (paid ≤ 2 ^ 74)
small_so_far prices d pool shares i reduced paid few so_far =
    let fewer : length (weighed_covers pool (take i shares)) ≤ 64 = omega (arith, few, length-map (take i shares) (weighed pool), length-take i shares) in
    weighed_small prices d (weighed_covers pool (take i shares)) reduced paid fewer so_far

-- all shares are taken off
pub weighed_all : (prices : PricesOf) (d : ℕ) (pool : List CutOf) (shares : List Share) (i : ℕ) (reduced : List ℤ) (paid : ℕ) → length shares ≤ i
    → AreWeighed prices d (weighed_covers pool (take i shares)) reduced paid → AreWeighed prices d (weighed_covers pool shares) reduced paid
weighed_all prices d pool shares i reduced paid whole so_far = subst (λ (l : List Share). AreWeighed prices d (weighed_covers pool l) reduced paid) (take_all i shares whole) so_far

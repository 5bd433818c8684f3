-- A stack whose changes come and go.
use Rattle.std.proofs.Common.{◌≡◌, ℕ, suc, ◌+◌, ◌<◌, ℤ, List, [], ◌∷◌, ◌++◌, length, refl, sym, ◌∙◌, ap, subst, arith, length-append, length-set, take}
use Rattle.std.specs.Prelude.{All, reverse, Some, IfSome, slice_get, option_to_list}
use Rattle.std.proofs.lemmas.List.{length-reverse, reverse-append, length-take-le}
use Rattle.std.proofs.lemmas.Grind.{reverse_onto}
use Rattle.std.proofs.lemmas.List.Elements.{All-pop}
use Rattle.geo_model.specs.Limit.{LimitOf}
use Rattle.geo_model.specs.Network.{NetworkOf}
use Rattle.normal_matrix.specs.Normal.{IsNormalOf}
use Rattle.factor_stack.specs.declared.held.Held.{Held}
use Rattle.factor_stack.specs.declared.held.Saved.{Saved}
use Rattle.factor_stack.specs.declared.chain.Chain.{Chain}
use Rattle.factor_stack.specs.declared.run.GridRows.{GridRows}
use Rattle.factor_stack.specs.Stored.{images_before, held_image, taken_back, put_chain, IsHeldChain, IsSavedChain, IsSaved, AreCounted}
use Rattle.factor_stack.specs.Stack.{StackOf, IsImage, IsStackOf, IsKeptStack}

-- ---- the number of changes
length-images : (held : Held) (saves : List Saved) → length (images_before held saves) ≡ length saves
length-images held [] = refl
length-images held (saved ∷ rest) = ap (λ n. suc n) (length-images (taken_back held saved) rest)

pub depth_of : (held : Held) (saves : List Saved) → length (reverse (images_before held (reverse saves))) ≡ length saves
depth_of held saves = length-reverse (images_before held (reverse saves)) ∙ (length-images held (reverse saves) ∙ length-reverse saves)

-- ---- a change that is taken back
put_kept : (n first : ℕ) (chain saved : Chain) → IsHeldChain n chain → IsSavedChain n first saved → IsHeldChain n (put_chain first chain saved)
put_kept n first chain saved held kept =
    let places = held.places in
    let room = kept.places in
    let all = length-append (take first chain.rows) saved.rows in
    let some = length-take-le first chain.rows (omega arith) in
    record { places = omega arith; stop = kept.stop }

put_long : (n first : ℕ) (gaps saved : List (List ℤ)) → length gaps ≡ n → first + length saved ≡ n → length (take first gaps ++ saved) ≡ n
put_long n first gaps saved long room =
    let all = length-append (take first gaps) saved in
    let some = length-take-le first gaps (omega arith) in
    omega arith

pub kept_back : (n : ℕ) (held : Held) (room : GridRows) (saves rest : List Saved) (saved : Saved) → IsKeptStack n held room saves → saves ≡ rest ++ option_to_list (Some saved)
    → IsKeptStack n (taken_back held saved) room rest
kept_back n held room saves rest saved kept e =
    let m = length held.plan in
    let both = All-pop (IsSaved n m) saves rest (Some saved) e kept.each in
    let one = both.1 in
    let few = kept.few in
    let size = ap length e ∙ length-append rest (saved ∷ []) in
    record {
      held_rows = record {
        lower = put_kept n saved.first held.factors.lower saved.factors.lower kept.held_rows.lower one.lower;
        upper = put_kept n saved.first held.factors.upper saved.factors.upper kept.held_rows.upper one.upper;
        lower_gaps = put_long n saved.first held.factors.lower_gaps saved.factors.lower_gaps kept.held_rows.lower_gaps one.lower_gaps;
        upper_gaps = put_long n saved.first held.factors.upper_gaps saved.factors.upper_gaps kept.held_rows.upper_gaps one.upper_gaps;
      };
      room_rows = kept.room_rows;
      few = omega arith;
      each = subst (λ k. All (IsSaved n k) rest) (sym (length-set held.plan saved.candidate saved.chosen)) both.0;
      counted = (subst (AreCounted n held) (ap reverse e ∙ reverse-append rest (saved ∷ [])) kept.counted).1;
    }

pub undone : (network : NetworkOf) (old new : StackOf) → old.before ≡ new.before ++ new.now ∷ [] → new.limit ≡ old.limit → new.normal ≡ old.normal → new.grid ≡ old.grid
    → IsStackOf network old → IsStackOf network new
undone network old new e limit normal grid is = record {
  limit = subst (λ l. l < length network.limits) (sym limit) is.limit;
  normal = subst (λ n. IsNormalOf network n) (sym normal) is.normal;
  grid = λ l found. grid ∙ is.grid l (found_old l found);
  now = λ l found. (parts l (found_old l found)).1;
  before = λ l found. (parts l (found_old l found)).0;
}
  where
    found_old : (l : LimitOf) → slice_get network.limits new.limit ≡ Some l → slice_get network.limits old.limit ≡ Some l
    found_old l found = ap (slice_get network.limits) (sym limit) ∙ found

    parts : (l : LimitOf) → slice_get network.limits old.limit ≡ Some l → All (IsImage network l) new.before × IfSome (Some new.now) (IsImage network l)
    parts l found = All-pop (IsImage network l) old.before new.before (Some new.now) e (is.before l found)

-- the images before a change that is taken back
pub before_undo : (held : Held) (rest : List Saved) (saved : Saved)
    → reverse (images_before held (reverse (rest ++ saved ∷ []))) ≡ reverse (images_before (taken_back held saved) (reverse rest)) ++ held_image (taken_back held saved) ∷ []
before_undo held rest saved =
    ap (λ s. reverse (images_before held s)) (reverse-append rest (saved ∷ []))
    ∙ reverse_onto (images_before (taken_back held saved) (reverse rest)) (held_image (taken_back held saved)) []

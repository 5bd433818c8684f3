-- What a change stores, and what an undo would make of it.
use Rattle.std.proofs.Common.{◌≡◌, ℕ, suc, zero, ◌+◌, ◌<◌, ◌≤◌, ◌^◌, Bool, List, [], ◌∷◌, ◌++◌, length, refl, sym, ◌∙◌, ap, ap₂, subst, arith, length-append, length-set, length-drop, take, drop, ℤ}
use Rattle.std.specs.Prelude.{All, reverse, slice_set, Some, Option, IfSome, slice_get}
use Rattle.std.proofs.lemmas.List.{ext_get_or, get_or-take, length-take-le, take-append-drop, set-set, reverse-append}
use Rattle.std.proofs.lemmas.List.Elements.{All-push, All-same}
use Rattle.std.proofs.lemmas.Option.{slice_get_within}
use Rattle.geo_model.specs.Limit.{LimitOf}
use Rattle.geo_model.specs.Candidate.{CandidateOf}
use Rattle.geo_model.specs.Network.{NetworkOf}
use Rattle.limit_forms.specs.Grid.{GridOf, grid_of, order_of}
use Rattle.limit_forms.proofs.GridReads.{length-grid_of}
use Rattle.lent_parts.specs.Triangle.{tri_row}
use Rattle.pivot_chain.proofs.Plans.{set_same}
use Rattle.pivot_chain.specs.declared.chain.Stop.{Stop}
use Rattle.factor_stack.specs.declared.held.Held.{Held}
use Rattle.factor_stack.specs.declared.held.Saved.{Saved}
use Rattle.factor_stack.specs.declared.factors.Factors.{Factors}
use Rattle.factor_stack.specs.declared.chain.Chain.{Chain}
use Rattle.factor_stack.specs.declared.run.GridRows.{GridRows}
use Rattle.factor_stack.specs.Image.{touches, first_place}
use Rattle.factor_stack.specs.Stored.{images_before, held_image, taken_back, put_back, put_chain, saved_from, saved_chain, IsHeldChain, AreHeldFactors, IsSavedChain, IsSaved, HasPlace, HaveCounted, AreCounted}
use Rattle.factor_stack.specs.Running.{KeepsFirst, IsRoom}
use Rattle.factor_stack.specs.Stack.{StackOf, IsStackOf, IsKeptStack}
use Rattle.factor_stack.proofs.Counted.{counted_more}
use Rattle.factor_stack.proofs.Stacks.{before_undo}
use Rattle.std.specs.List.{position_or_len}

-- ---- the grid and the first place
pub some_at : {X : Type 0} (xs : List X) (k : ℕ) → k < length xs → (x : X) × (slice_get xs k ≡ Some x)
some_at [] k lt = absurd (omega arith)
some_at (x ∷ xs) zero lt = (x, refl)
some_at (x ∷ xs) (suc k) lt = some_at xs k (omega arith)

pub order_long : (network : NetworkOf) (stack : StackOf) → IsStackOf network stack → length stack.grid.order ≡ length network.unknowns
order_long network stack is =
    let l = some_at network.limits stack.limit is.limit in
    length-grid_of network l.0.alpha l.0.squares stack.grid (is.grid l.0 l.1)

order_is : (network : NetworkOf) (limit : LimitOf) (grid : GridOf) → grid ≡ grid_of network limit.alpha limit.squares → grid.order ≡ order_of (length network.unknowns) limit.squares
unfolding grid_of
order_is network limit grid e = ap (λ (g : GridOf). g.order) e

pub first_place_is : (network : NetworkOf) (limit : LimitOf) (candidate found : CandidateOf) (grid : GridOf) (place : ℕ) → grid ≡ grid_of network limit.alpha limit.squares → found ≡ candidate
    → place ≡ position_or_len (touches found) grid.order → place ≡ first_place network limit candidate
first_place_is network limit candidate found grid place e f g =
    g ∙ ap₂ (λ c order. position_or_len (touches c) order) f (order_is network limit grid e)

-- ---- what is put back is what was there
same_first : (old new : List (List ℤ)) (first : ℕ) → length new ≡ length old → first ≤ length old → ((j : ℕ) → j < first → tri_row new j ≡ tri_row old j) → take first new ≡ take first old
same_first old new first places within kept =
    let long = length-take-le first new (omega arith) in
    let short = length-take-le first old within in
    ext_get_or [] (take first new) (take first old) (omega arith) (λ i lt.
    let inside : i < first = omega arith in
    get_or-take first new i [] inside ∙ (kept i inside ∙ sym (get_or-take first old i [] inside)))

rows_again : (old new : List (List ℤ)) (first : ℕ) → length new ≡ length old → first ≤ length old → ((j : ℕ) → j < first → tri_row new j ≡ tri_row old j) → take first new ++ drop first old ≡ old
rows_again old new first places within kept =
    ap (λ (t : List (List ℤ)). t ++ drop first old) (same_first old new first places within kept) ∙ take-append-drop first old

chain_again : (old new : Chain) (first : ℕ) → length new.rows ≡ length old.rows → first ≤ length old.rows → ((j : ℕ) → j < first → tri_row new.rows j ≡ tri_row old.rows j)
    → put_chain first new (saved_chain first old) ≡ old
chain_again old new first places within kept =
    ap (λ (rows : List (List ℤ)). let c : Chain = record { rows = rows; stop = old.stop } in c) (rows_again old.rows new.rows first places within kept)

factors_again : (old new : Factors) (first : ℕ) → KeepsFirst first old new → HasPlace first old → put_back first new (saved_from first old) ≡ old
factors_again old new first kept room =
    ap₂ (λ (a b : Chain). let f : Factors = record { lower = a; upper = b; lower_gaps = take first new.lower_gaps ++ drop first old.lower_gaps; upper_gaps = take first new.upper_gaps ++ drop first old.upper_gaps } in f)
    (chain_again old.lower new.lower first kept.lower_places room.lower kept.lower) (chain_again old.upper new.upper first kept.upper_places room.upper kept.upper)
    ∙ ap₂ (λ (a b : List (List ℤ)). let f : Factors = record { lower = old.lower; upper = old.upper; lower_gaps = a; upper_gaps = b } in f)
    (rows_again old.lower_gaps new.lower_gaps first kept.lower_counts room.lower_gaps kept.lower_gaps) (rows_again old.upper_gaps new.upper_gaps first kept.upper_counts room.upper_gaps kept.upper_gaps)

plan_again : (plan new : List Bool) (i : ℕ) (chosen old : Bool) → slice_get plan i ≡ Some old → new ≡ slice_set plan i chosen → slice_set new i old ≡ plan
plan_again plan new i chosen old flag e =
    ap (λ p. slice_set p i old) e ∙ (set-set plan i chosen old ∙ sym (set_same plan i old flag))

-- a change that took these is one that they take back
pub record HasSaved (held : Held) (saved : Saved) (i first : ℕ) : Type 0 where
  pub candidate : saved.candidate ≡ i
  pub chosen : slice_get held.plan i ≡ Some saved.chosen
  pub place : saved.first ≡ first
  pub factors : saved.factors ≡ saved_from first held.factors

pub back_again : (held : Held) (saved : Saved) (i first : ℕ) (chosen : Bool) (plan : List Bool) (factors : Factors) → HasSaved held saved i first → plan ≡ slice_set held.plan i chosen
    → KeepsFirst first held.factors factors → HasPlace first held.factors
    → taken_back (record { plan = plan; factors = factors }) saved ≡ held
back_again held saved i first chosen plan factors is e kept room =
    ap₂ (λ (p : List Bool) (f : Factors). let h : Held = record { plan = p; factors = f } in h)
    (ap (λ c. slice_set plan c saved.chosen) is.candidate ∙ plan_again held.plan plan i chosen saved.chosen is.chosen e)
    (ap₂ (λ f s. put_back f factors s) is.place is.factors ∙ factors_again held.factors factors first kept room)

pub before_change : (held new : Held) (saves : List Saved) (saved : Saved) → taken_back new saved ≡ held
    → reverse (images_before new (reverse (saves ++ saved ∷ []))) ≡ reverse (images_before held (reverse saves)) ++ held_image held ∷ []
before_change held new saves saved e =
    before_undo new saves saved ∙ ap (λ (h : Held). reverse (images_before h (reverse saves)) ++ held_image h ∷ []) e

-- ---- what is kept
saved_kept : (n first place : ℕ) (chain saved : Chain) → IsHeldChain n chain → first ≤ n → place ≡ first → saved ≡ saved_chain first chain → IsSavedChain n place saved
saved_kept n first place chain saved held within at is =
    let places = held.places in
    let long = ap (λ (c : Chain). length c.rows) is ∙ length-drop first chain.rows in
    record { places = omega arith; stop = subst (λ (s : Option Stop). IfSome s (λ t. (1 ≤ t.step) × (t.step ≤ n))) (sym (ap (λ (c : Chain). c.stop) is)) held.stop }

saved_long : (n first place : ℕ) (gaps saved : List (List ℤ)) → length gaps ≡ n → first ≤ n → place ≡ first → saved ≡ drop first gaps → place + length saved ≡ n
saved_long n first place gaps saved long within at is =
    let left = ap length is ∙ length-drop first gaps in
    omega arith

-- what is held has a place for each that it may be saved from
pub has_place : (n first : ℕ) (factors : Factors) → AreHeldFactors n factors → first ≤ n → HasPlace first factors
has_place n first factors rows within =
    let lower = rows.lower.places in
    let upper = rows.upper.places in
    let lower_gaps = rows.lower_gaps in
    let upper_gaps = rows.upper_gaps in
    record { lower = omega arith; upper = omega arith; lower_gaps = omega arith; upper_gaps = omega arith }

pub saved_is : (n i first : ℕ) (held : Held) (saved : Saved) → HasSaved held saved i first → AreHeldFactors n held.factors → first ≤ n → i < length held.plan → IsSaved n (length held.plan) saved
saved_is n i first held saved is rows within inside =
    let candidate = is.candidate in
    record {
      candidate = omega arith;
      lower = saved_kept n first saved.first held.factors.lower saved.factors.lower rows.lower within is.place (ap (λ (f : Factors). f.lower) is.factors);
      upper = saved_kept n first saved.first held.factors.upper saved.factors.upper rows.upper within is.place (ap (λ (f : Factors). f.upper) is.factors);
      lower_gaps = saved_long n first saved.first held.factors.lower_gaps saved.factors.lower_gaps rows.lower_gaps within is.place (ap (λ (f : Factors). f.lower_gaps) is.factors);
      upper_gaps = saved_long n first saved.first held.factors.upper_gaps saved.factors.upper_gaps rows.upper_gaps within is.place (ap (λ (f : Factors). f.upper_gaps) is.factors);
    }

pub kept_more : (n i : ℕ) (held : Held) (chosen : Bool) (plan : List Bool) (factors : Factors) (room new : GridRows) (saves more : List Saved) (saved : Saved) → IsKeptStack n held room saves
    → plan ≡ slice_set held.plan i chosen → AreHeldFactors n factors → IsRoom n new → IsSaved n (length held.plan) saved → more ≡ saves ++ saved ∷ [] → length saves < 2 ^ 31
    → taken_back (record { plan = plan; factors = factors }) saved ≡ held → HaveCounted n factors
    → IsKeptStack n (record { plan = plan; factors = factors }) new more
kept_more n i held chosen plan factors room new saves more saved kept e rows space one is few again counted =
    let size = ap length is ∙ length-append saves (saved ∷ []) in
    let same : length plan ≡ length held.plan = ap length e ∙ length-set held.plan i chosen in
    record {
      held_rows = rows;
      room_rows = space;
      few = omega arith;
      each = All-same (IsSaved n (length plan)) more (saves ++ saved ∷ []) is
          (subst (λ m. All (IsSaved n m) (saves ++ saved ∷ [])) (sym same) (All-push (IsSaved n (length held.plan)) saves saved kept.each one));
      counted = subst (AreCounted n (record { plan = plan; factors = factors })) (sym (ap reverse is ∙ reverse-append saves (saved ∷ [])))
          (counted_more n held (record { plan = plan; factors = factors }) (reverse saves) saved again kept.counted counted);
    }

-- a candidate whose choice is known is one of the network
pub inside_plan : (network : NetworkOf) (stack : StackOf) (i : ℕ) (b : Bool) → IsStackOf network stack → slice_get stack.now.plan i ≡ Some b → i < length network.candidates
inside_plan network stack i b is flag =
    let l = some_at network.limits stack.limit is.limit in
    let inside = slice_get_within stack.now.plan i b flag in
    let places = (is.now l.0 l.1).places in
    omega arith

pub plan_long : (network : NetworkOf) (stack : StackOf) → IsStackOf network stack → length stack.now.plan ≡ length network.candidates
plan_long network stack is = let l = some_at network.limits stack.limit is.limit in (is.now l.0 l.1).places

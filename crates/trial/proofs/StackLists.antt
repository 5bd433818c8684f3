-- Stacks whose changes come and go, all at once.
use Rattle.std.proofs.Common.{◌≡◌, ℕ, ◌<◌, ◌≤◌, List, [], ◌∷◌, ◌++◌, length, map, ap, ap₂, subst, sym, ◌∙◌, arith, Some}
use Rattle.std.specs.Prelude.{All, Bool, not, slice_get, slice_set}
use Rattle.std.specs.List.{AllZip}
use Rattle.std.proofs.lemmas.List.{length-map, map-append, same_from_push}
use Rattle.std.proofs.lemmas.List.Elements.{All-cons}
use Rattle.geo_model.specs.Network.{NetworkOf}
use Rattle.factor_stack.specs.Stack.{StackOf}
use Rattle.factor_stack.specs.Image.{ImageOf}
use Rattle.trial.specs.Stacks.{plans_before, IsStackAt, CanChange, IsChanged, IsUndone}

changed_one : (network : NetworkOf) (plan : List Bool) (before : List (List Bool)) (number i : ℕ) (chosen : Bool) (old new : StackOf)
    → IsStackAt network plan before number old → IsChanged network i chosen old new → IsStackAt network (slice_set plan i chosen) (before ++ plan ∷ []) number new
changed_one network plan before number i chosen old new is changed = record {
  made = changed.made;
  limit = changed.limit ∙ is.limit;
  holds = changed.plan ∙ ap (λ (p : List Bool). slice_set p i chosen) is.holds;
  keeps = ap (map (λ (image : ImageOf). image.plan)) changed.before ∙ map-append (λ (image : ImageOf). image.plan) old.before (old.now ∷ []) ∙ ap₂ (λ (s : List (List Bool)) (t : List Bool). s ++ t ∷ []) is.keeps is.holds;
}

pub changed_stacks : (network : NetworkOf) (plan : List Bool) (before : List (List Bool)) (numbers : List ℕ) (i : ℕ) (chosen : Bool) (old new : List StackOf)
    → AllZip (IsStackAt network plan before) numbers old → AllZip (IsChanged network i chosen) old new
    → AllZip (IsStackAt network (slice_set plan i chosen) (before ++ plan ∷ [])) numbers new
changed_stacks network plan before [] i chosen [] [] are become = tt
changed_stacks network plan before [] i chosen [] (new ∷ news) are become = absurd become
changed_stacks network plan before [] i chosen (old ∷ olds) new are become = absurd are
changed_stacks network plan before (number ∷ numbers) i chosen [] new are become = absurd are
changed_stacks network plan before (number ∷ numbers) i chosen (old ∷ olds) [] are become = absurd become
changed_stacks network plan before (number ∷ numbers) i chosen (old ∷ olds) (new ∷ news) are become =
    (changed_one network plan before number i chosen old new are.0 become.0, changed_stacks network plan before numbers i chosen olds news are.1 become.1)

undone_one : (network : NetworkOf) (plan last : List Bool) (before rest : List (List Bool)) (number : ℕ) (old new : StackOf)
    → before ≡ rest ++ last ∷ [] → IsStackAt network plan before number old → IsUndone old new → IsStackAt network last rest number new
undone_one network plan last before rest number old new e is undone =
    let parts = same_from_push (plans_before new) rest new.now.plan last
    (sym (map-append (λ (image : ImageOf). image.plan) new.before (new.now ∷ [])) ∙ sym (ap (map (λ (image : ImageOf). image.plan)) undone.before) ∙ is.keeps ∙ e) in
    record { made = undone.made network is.made; limit = undone.limit ∙ is.limit; holds = parts.1; keeps = parts.0 }

pub undone_stacks : (network : NetworkOf) (plan last : List Bool) (before rest : List (List Bool)) (numbers : List ℕ) (old new : List StackOf) → before ≡ rest ++ last ∷ []
    → AllZip (IsStackAt network plan before) numbers old → AllZip IsUndone old new → AllZip (IsStackAt network last rest) numbers new
undone_stacks network plan last before rest [] [] [] e are become = tt
undone_stacks network plan last before rest [] [] (new ∷ news) e are become = absurd become
undone_stacks network plan last before rest [] (old ∷ olds) new e are become = absurd are
undone_stacks network plan last before rest (number ∷ numbers) [] new e are become = absurd are
undone_stacks network plan last before rest (number ∷ numbers) (old ∷ olds) [] e are become = absurd become
undone_stacks network plan last before rest (number ∷ numbers) (old ∷ olds) (new ∷ news) e are become =
    (undone_one network plan last before rest number old new e are.0 become.0, undone_stacks network plan last before rest numbers olds news e are.1 become.1)

-- what a change leaves, in the words of the code
pub changed_session : (network : NetworkOf) (plan next copy : List Bool) (before later : List (List Bool)) (numbers : List ℕ) (i : ℕ) (chosen : Bool) (lent old new : List StackOf)
    → next ≡ slice_set plan i chosen → later ≡ before ++ copy ∷ [] → copy ≡ plan → lent ≡ old
    → AllZip (IsStackAt network plan before) numbers old → AllZip (IsChanged network i chosen) lent new → AllZip (IsStackAt network next later) numbers new
changed_session network plan next copy before later numbers i chosen lent old new planned kept copied same are become =
    subst (λ (p : List Bool). AllZip (IsStackAt network p later) numbers new) (sym planned)
    (subst (λ (b : List (List Bool)). AllZip (IsStackAt network (slice_set plan i chosen) b) numbers new) (sym (kept ∙ ap (λ (q : List Bool). before ++ q ∷ []) copied))
    (changed_stacks network plan before numbers i chosen old new are (subst (λ (s : List StackOf). AllZip (IsChanged network i chosen) s new) same become)))

-- what holds of each stack
pub all_stacks : (P : StackOf → Type 0) (network : NetworkOf) (plan : List Bool) (before : List (List Bool)) (numbers : List ℕ) (stacks : List StackOf)
    → ((number : ℕ) (stack : StackOf) → IsStackAt network plan before number stack → P stack)
    → AllZip (IsStackAt network plan before) numbers stacks → All P stacks
all_stacks P network plan before [] [] each are = λ k d inside. absurd (omega arith)
all_stacks P network plan before [] (stack ∷ stacks) each are = absurd are
all_stacks P network plan before (number ∷ numbers) [] each are = absurd are
all_stacks P network plan before (number ∷ numbers) (stack ∷ stacks) each are = All-cons P stack stacks (each number stack are.0) (all_stacks P network plan before numbers stacks each are.1)

deep : (stack : StackOf) (before : List (List Bool)) → plans_before stack ≡ before → length stack.before ≡ length before
deep stack before same = sym (length-map stack.before (λ (image : ImageOf). image.plan)) ∙ ap length same

-- a candidate can be chosen in each stack, or left out
pub can_change : (network : NetworkOf) (plan : List Bool) (before : List (List Bool)) (numbers : List ℕ) (stacks : List StackOf) (i : ℕ) (chosen : Bool)
    → slice_get plan i ≡ Some (not chosen) → length before ≤ 32 → AllZip (IsStackAt network plan before) numbers stacks → All (CanChange network i chosen) stacks
can_change network plan before numbers stacks i chosen differs few are =
    all_stacks (CanChange network i chosen) network plan before numbers stacks each are
  where
    each : (number : ℕ) (stack : StackOf) → IsStackAt network plan before number stack → CanChange network i chosen stack
    each number stack is =
        let depth = deep stack before is.keeps in
        record { made = is.made; differs = ap (λ (p : List Bool). slice_get p i) is.holds ∙ differs; depth = omega arith }

-- a change can be taken back in each stack
pub can_undo : (network : NetworkOf) (plan : List Bool) (before : List (List Bool)) (numbers : List ℕ) (stacks : List StackOf)
    → 0 < length before → AllZip (IsStackAt network plan before) numbers stacks → All (λ stack. 0 < length stack.before) stacks
can_undo network plan before numbers stacks some are =
    all_stacks (λ stack. 0 < length stack.before) network plan before numbers stacks each are
  where
    each : (number : ℕ) (stack : StackOf) → IsStackAt network plan before number stack → 0 < length stack.before
    each number stack is = let depth = deep stack before is.keeps in omega arith

-- The answer of a command from the status that it has.
use Rattle.std.proofs.Common.{◌≡◌, ◌⊎◌, inl, inr, ℕ, List, sym, ◌∙◌, subst, None, Some}
use Rattle.shelf_io.specs.States.{ShelfState}
use Rattle.geoplan.specs.CommandOf.{CommandOf, command_of, OnCommand}
use Rattle.geoplan.specs.Running.{IsWordsRefusal, Answered}
use Rattle.geoplan.specs.Standing.{IsOutcomeOf}
use Rattle.geoplan.specs.declared.status.Status.{Status}
use Rattle.geoplan.specs.declared.status.Status.TheVariants as status

-- words have one command
pub same_command : (words : List (List ℕ)) (one other : CommandOf) → command_of words ≡ Some one → command_of words ≡ Some other → one ≡ other
same_command words one other is is_other = let e : Some one ≡ Some other = sym is ∙ is_other in cc

-- words of a command aren't refused
pub not_refused : (words : List (List ℕ)) (command : CommandOf) → command_of words ≡ Some command → command_of words ≡ None → ⊥
not_refused words command is none = let e : None ≡ Some command = sym none ∙ is in cc

said_status : (begun : Status) (text : List ℕ) → IsWordsRefusal begun text → (begun ≡ status.WordsRefused) ⊎ (begun ≡ status.NoMemory)
said_status begun text (inl (e, t)) = inl e
said_status begun text (inr (e, t)) = inr e

never_said : (target begun : Status) → (target ≡ status.WordsRefused → ⊥) → (target ≡ status.NoMemory → ⊥) → begun ≡ target → (begun ≡ status.WordsRefused) ⊎ (begun ≡ status.NoMemory) → ⊥
never_said target begun accepted enough is (inl words) = accepted (sym is ∙ words)
never_said target begun accepted enough is (inr out) = enough (sym is ∙ out)

-- a status that refused words don't have is that of a command
pub by_command : (words : List (List ℕ)) (target begun : Status) (before now : ShelfState) (text : List ℕ) → (target ≡ status.WordsRefused → ⊥) → (target ≡ status.NoMemory → ⊥) → begun ≡ target → Answered words before now begun text → OnCommand words (λ command. IsOutcomeOf command before now target text)
by_command words target begun before now text accepted enough is (inl (command, of, stands)) = (command, of, subst (λ s. IsOutcomeOf command before now s text) is stands)
by_command words target begun before now text accepted enough is (inr (none, refused)) = absurd (never_said target begun accepted enough is (said_status begun text refused.says))

-- the answer of the command that the words are known to be
pub stands_for : (words : List (List ℕ)) (command : CommandOf) (begun : Status) (before now : ShelfState) (text : List ℕ) → command_of words ≡ Some command → Answered words before now begun text → IsOutcomeOf command before now begun text
stands_for words command begun before now text is (inl (other, of, stands)) = subst (λ c. IsOutcomeOf c before now begun text) (same_command words other command of is) stands
stands_for words command begun before now text is (inr (none, refused)) = absurd (not_refused words command is none)

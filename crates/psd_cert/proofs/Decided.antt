-- What a test's answer says of a fact.
use Rattle.std.proofs.Common.{Bool, true, false, refl, IsTrue}
use Rattle.whole_algebra.proofs.Refutation.{false_is_not_true}

pub decided_true : {P : Type 0} → P → (IsTrue true → P) × (P → IsTrue true)
decided_true h = ((λ t. h), λ p. refl)

pub decided_false : {P : Type 0} → (P → ⊥) → (IsTrue false → P) × (P → IsTrue false)
decided_false h = ((λ t. absurd (false_is_not_true t)), λ p. absurd (h p))

pub decided_by : {P Q : Type 0} (b : Bool) → (IsTrue b → Q) × (Q → IsTrue b) → (Q → P) × (P → Q) → (IsTrue b → P) × (P → IsTrue b)
decided_by b tells both = ((λ t. both.0 (tells.0 t)), λ p. tells.1 (both.1 p))

-- What a stack stores of its plan and of its changes, in the words of the private functions that store it. This project's
-- own layout.
use Rattle.std.specs.Prelude.{◌≡◌, ℕ, ◌+◌, ◌<◌, ◌≤◌, if◌then◌else◌, List, [], ◌∷◌, ◌++◌, length, take, drop, Option, Some, None, slice_set, nat_le, IfSome}
use Rattle.factor_stack.specs.declared.chain.Chain.{Chain}
use Rattle.factor_stack.specs.declared.factors.Factors.{Factors}
use Rattle.factor_stack.specs.declared.held.Held.{Held}
use Rattle.factor_stack.specs.declared.held.Saved.{Saved}
use Rattle.pivot_chain.specs.Chain.{HasGaps}
use Rattle.pivot_chain.specs.declared.chain.Stop.{Stop}
use Rattle.factor_stack.specs.Image.{ChainOf, ImageOf}

-- ---- a chain
-- how many of n rows there are up to and including a stop
abbrev pub count_of : ℕ → Option Stop → ℕ
count_of n None = n
count_of n (Some stop) = stop.step

-- the chain that is stored: the rows after its stop play no part
abbrev pub held_chain : Chain → ChainOf
held_chain chain = record { rows = take (count_of (length chain.rows) chain.stop) chain.rows; stop = chain.stop }

-- a stop, where it lies in the first rows
abbrev pub stop_within : ℕ → Option Stop → Option Stop
stop_within first None = None
stop_within first (Some stop) = if nat_le stop.step first then Some stop else None

abbrev pub cut_chain : ℕ → Chain → Chain
cut_chain first chain = record { rows = chain.rows; stop = stop_within first chain.stop }

-- ---- a plan with both chains
abbrev pub held_image : Held → ImageOf
held_image held = record { plan = held.plan; lower = held_chain held.factors.lower; upper = held_chain held.factors.upper }

-- both chains and their counts from a place on, to be saved, and saved ones that are put back in their places
abbrev pub saved_chain : ℕ → Chain → Chain
saved_chain first chain = record { rows = drop first chain.rows; stop = chain.stop }

abbrev pub saved_from : ℕ → Factors → Factors
saved_from first factors = record {
  lower = saved_chain first factors.lower;
  upper = saved_chain first factors.upper;
  lower_gaps = drop first factors.lower_gaps;
  upper_gaps = drop first factors.upper_gaps;
}

abbrev pub put_chain : ℕ → Chain → Chain → Chain
put_chain first chain saved = record { rows = take first chain.rows ++ saved.rows; stop = saved.stop }

abbrev pub put_back : ℕ → Factors → Factors → Factors
put_back first factors saved = record {
  lower = put_chain first factors.lower saved.lower;
  upper = put_chain first factors.upper saved.upper;
  lower_gaps = take first factors.lower_gaps ++ saved.lower_gaps;
  upper_gaps = take first factors.upper_gaps ++ saved.upper_gaps;
}

abbrev pub cut_at : ℕ → Factors → Factors
cut_at first factors = record {
  lower = cut_chain first factors.lower;
  upper = cut_chain first factors.upper;
  lower_gaps = factors.lower_gaps;
  upper_gaps = factors.upper_gaps;
}

-- what was held before a change
abbrev pub taken_back : Held → Saved → Held
taken_back held saved = record {
  plan = slice_set held.plan saved.candidate saved.chosen;
  factors = put_back saved.first held.factors saved.factors;
}

-- the images before the changes, of which the latest comes first
abbrev pub images_before : Held → List Saved → List ImageOf
images_before held [] = []
images_before held (saved ∷ rest) = held_image (taken_back held saved) ∷ images_before (taken_back held saved) rest

-- both chains of n rows, of which none is computed
pub record AreFresh (n : ℕ) (factors : Factors) : Type 0 where
  pub lower : length factors.lower.rows ≡ n
  pub upper : length factors.upper.rows ≡ n
  pub lower_stop : factors.lower.stop ≡ None
  pub upper_stop : factors.upper.stop ≡ None
  pub lower_gaps : length factors.lower_gaps ≡ n
  pub upper_gaps : length factors.upper_gaps ≡ n

-- a place up to which they have rows
pub record HasPlace (first : ℕ) (factors : Factors) : Type 0 where
  pub lower : first ≤ length factors.lower.rows
  pub upper : first ≤ length factors.upper.rows
  pub lower_gaps : first ≤ length factors.lower_gaps
  pub upper_gaps : first ≤ length factors.upper_gaps

-- as many saved rows as stand from a place on
pub record AreRest (first : ℕ) (saved factors : Factors) : Type 0 where
  pub lower : first + length saved.lower.rows ≡ length factors.lower.rows
  pub upper : first + length saved.upper.rows ≡ length factors.upper.rows
  pub lower_gaps : first + length saved.lower_gaps ≡ length factors.lower_gaps
  pub upper_gaps : first + length saved.upper_gaps ≡ length factors.upper_gaps

-- ---- what is kept
-- n rows, and a stop among them
pub record IsHeldChain (n : ℕ) (chain : Chain) : Type 0 where
  pub places : length chain.rows ≡ n
  pub stop : IfSome chain.stop (λ stop. (1 ≤ stop.step) × (stop.step ≤ n))

pub record AreHeldFactors (n : ℕ) (factors : Factors) : Type 0 where
  pub lower : IsHeldChain n factors.lower
  pub upper : IsHeldChain n factors.upper
  pub lower_gaps : length factors.lower_gaps ≡ n
  pub upper_gaps : length factors.upper_gaps ≡ n

-- the rows up to place k, or to the stop before it, counted theirs
pub record HaveCounted (k : ℕ) (factors : Factors) : Type 0 where
  pub lower : HasGaps factors.lower.rows factors.lower_gaps (count_of k factors.lower.stop)
  pub upper : HasGaps factors.upper.rows factors.upper_gaps (count_of k factors.upper.stop)

-- so did those before each change, of which the latest comes first
abbrev pub AreCounted : ℕ → Held → List Saved → Type 0
AreCounted n held [] = HaveCounted n held.factors
AreCounted n held (saved ∷ rest) = HaveCounted n held.factors × AreCounted n (taken_back held saved) rest

-- saved rows of a chain from a place on
pub record IsSavedChain (n first : ℕ) (chain : Chain) : Type 0 where
  pub places : first + length chain.rows ≡ n
  pub stop : IfSome chain.stop (λ stop. (1 ≤ stop.step) × (stop.step ≤ n))

pub record IsSaved (n candidates : ℕ) (saved : Saved) : Type 0 where
  pub candidate : saved.candidate < candidates
  pub lower : IsSavedChain n saved.first saved.factors.lower
  pub upper : IsSavedChain n saved.first saved.factors.upper
  pub lower_gaps : saved.first + length saved.factors.lower_gaps ≡ n
  pub upper_gaps : saved.first + length saved.factors.upper_gaps ≡ n

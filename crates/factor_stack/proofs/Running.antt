-- A chain that is computed place by place.
use Rattle.std.proofs.Common.{◌≡◌, ℕ, ◌+◌, ◌<◌, ◌≤◌, List, length, sym, ◌∙◌, subst, arith, ℤ}
use Rattle.std.specs.Prelude.{Option, Some, None, is_some, false}
use Rattle.whole_algebra.specs.Chains.{step_of, stop as halt, matrix_after}
use Rattle.whole_algebra.specs.Grid.{row_at}
use Rattle.lent_parts.specs.Triangle.{tri_row}
use Rattle.chain_step.specs.Step.{over_of, IsPivotRow}
use Rattle.chain_step.specs.declared.side.Side.{Side}
use Rattle.pivot_chain.specs.Chain.{IsSmall}
use Rattle.pivot_chain.specs.declared.chain.Stop.{Stop}
use Rattle.pivot_chain.proofs.ChainRun.{IsSoFar, done_more, one_more, stops_here}
use Rattle.pivot_chain.proofs.Judged.{step_range}
use Rattle.factor_stack.specs.declared.chain.Chain.{Chain}
use Rattle.factor_stack.specs.Stored.{IsHeldChain, stop_within, cut_chain}
use Rattle.factor_stack.specs.Running.{HasRun}

pub none_yet : (side : Side) (first : List (List ℤ)) (k : ℕ) (chain : Chain) → false ≡ is_some chain.stop → HasRun side first k chain → HasRun side first k (record { rows = chain.rows; stop = None })
none_yet side first k chain e run = by chain.rows chain.stop e run
  where
    by : (rows : List (List ℤ)) (stop : Option Stop) → false ≡ is_some stop → HasRun side first k (record { rows = rows; stop = stop }) → HasRun side first k (record { rows = rows; stop = None })
    by rows None e run = run
    by rows (Some stop) e run = absurd (cc)

pub so_far : (side : Side) (first rows : List (List ℤ)) (k : ℕ) → HasRun side first k (record { rows = rows; stop = None }) → IsSoFar side first k rows
so_far side first rows k run = record { places = run.places; done = run.state.done; pivots = run.state.pivots }

-- it goes on at place k
pub goes_further : (side : Side) (first rows new : List (List ℤ)) (k : ℕ) → HasRun side first k (record { rows = rows; stop = None }) → length new ≡ length rows
    → ((j : ℕ) → (j ≡ k → ⊥) → tri_row new j ≡ tri_row rows j) → tri_row new k ≡ row_at (matrix_after (over_of side) k first) 0 → IsPivotRow (tri_row new k)
    → HasRun side first (k + 1) (record { rows = new; stop = None })
goes_further side first rows new k run places others here pivot =
    let more = one_more side first rows new k (so_far side first rows k run) places others here pivot in
    record { places = more.places; state = record { done = more.done; pivots = more.pivots } }

-- it stops there
pub stops_there : (side : Side) (first rows new : List (List ℤ)) (k : ℕ) (v : ℤ) → IsSmall first → k < length rows → HasRun side first k (record { rows = rows; stop = None }) → length new ≡ length rows
    → ((j : ℕ) → (j ≡ k → ⊥) → tri_row new j ≡ tri_row rows j) → tri_row new k ≡ row_at (matrix_after (over_of side) k first) 0 → step_of (tri_row new k) ≡ halt v
    → HasRun side first (k + 1) (record { rows = new; stop = Some (record { step = k + 1; value = v }) })
stops_there side first rows new k v small lt run places others here e =
    let tall = run.places in
    record {
      places = places ∙ run.places;
      state = record {
        before = omega arith;
        done = done_more side first rows new k (so_far side first rows k run) others here;
        stops = stops_here side first rows k (tri_row new k) v small.shape (omega arith) (so_far side first rows k run) here e;
      };
    }

-- a chain that stopped before is computed up to any later place
pub stays_stopped : (side : Side) (first rows : List (List ℤ)) (k later : ℕ) (stop : Stop) → k ≤ later → HasRun side first k (record { rows = rows; stop = Some stop })
    → HasRun side first later (record { rows = rows; stop = Some stop })
stays_stopped side first rows k later stop le run =
    let state = run.state in
    let before = state.before in
    record { places = run.places; state = record { before = omega arith; done = state.done; stops = state.stops } }

-- what a chain that is computed keeps
kept_by : (side : Side) (n k : ℕ) (first rows : List (List ℤ)) (stop : Option Stop) → length first ≡ n → HasRun side first k (record { rows = rows; stop = stop }) → IsHeldChain n (record { rows = rows; stop = stop })
kept_by side n k first rows None tall run = record { places = run.places ∙ tall; stop = tt }
kept_by side n k first rows (Some stop) tall run =
    let range = step_range side first stop run.state.stops in
    record { places = run.places ∙ tall; stop = (range.0, omega (arith, range.1)) }

pub kept_by_run : (side : Side) (n k : ℕ) (first : List (List ℤ)) (chain : Chain) → length first ≡ n → HasRun side first k chain → IsHeldChain n chain
kept_by_run side n k first chain tall run = kept_by side n k first chain.rows chain.stop tall run

-- a chain of which nothing is computed
pub not_begun : (side : Side) (first : List (List ℤ)) (chain : Chain) → length chain.rows ≡ length first → chain.stop ≡ None → HasRun side first 0 (cut_chain 0 chain)
not_begun side first chain places e =
    subst (λ s. HasRun side first 0 (record { rows = chain.rows; stop = stop_within 0 s })) (sym e)
    (record { places = places; state = record { done = λ j lt. absurd (omega arith); pivots = λ j lt. absurd (omega arith) } })

-- Rows that a chain keeps where the first rows of its matrix stay.
use Rattle.std.proofs.Common.{◌≡◌, ℕ, suc, ◌-◌, ◌^◌, ◌<◌, ◌≤◌, Bool, true, false, if◌then◌else◌, List, [], length, take, get_or, refl, sym, ◌∙◌, ap, subst, arith, ℤ, pos, ◌≤ℤ◌}
use Rattle.std.specs.Prelude.{Option, Some, None, nat_le, MatchOption}
use Rattle.std.proofs.lemmas.List.{get_or-take}
use Rattle.std.proofs.lemmas.Bool.Decides.{nat_tests}
use Rattle.whole_algebra.specs.Matrices.{at, IsTriangle}
use Rattle.whole_algebra.specs.Chains.{Step, free, stop as halt, step_of, is_stop, chain_rows, chain_steps, matrix_after, stops, stop_place, stop_value}
use Rattle.whole_algebra.specs.Grid.{row_at, SameFirstRows}
use Rattle.whole_algebra.proofs.Places.{row_at-chain_rows}
use Rattle.whole_algebra.proofs.Shapes.{length-row_at}
use Rattle.whole_algebra.proofs.VerdictLaws.{stop_place-range}
use Rattle.lent_parts.specs.Triangle.{tri_row}
use Rattle.chain_step.specs.Step.{over_of}
use Rattle.chain_step.specs.declared.side.Side.{Side}
use Rattle.chain_step.proofs.Matrices.{GoesOn, triangle_after}
use Rattle.chain_step.proofs.SameRows.{chain_rows_same}
use Rattle.pivot_chain.specs.Chain.{chain_of, StopsAt}
use Rattle.pivot_chain.specs.declared.chain.Stop.{Stop}
use Rattle.pivot_chain.proofs.ChainSteps.{each_goes_on, step_of_row, stops_at}
use Rattle.factor_stack.specs.declared.chain.Chain.{Chain}
use Rattle.factor_stack.specs.Image.{ChainOf, stop_in, chain_image}
use Rattle.factor_stack.specs.Stored.{count_of, held_chain, cut_chain}
use Rattle.factor_stack.specs.Running.{GoesOnTo, HasStopped, HasRun}
use Rattle.factor_stack.proofs.StopReads.{stop_read, goes_before}

-- rows and a stop that are those of a chain of matrix m, and another matrix with the same first rows
pub record IsCarried (side : Side) (n first : ℕ) (m o rows : List (List ℤ)) (stop : Option Stop) : Type 0 where
  pub left : IsTriangle n m
  pub right : IsTriangle n o
  pub few : n ≤ 64
  pub tall : length m ≡ n
  pub wide : length o ≡ n
  pub places : length rows ≡ n
  pub within : first ≤ n
  pub low : (t : ℕ) → t < n → at (row_at (matrix_after (over_of side) t o) 0) 0 ≤ℤ pos (2 ^ 61)
  pub same : SameFirstRows first m o
  pub image : held_chain (record { rows = rows; stop = stop }) ≡ chain_image side m

-- ---- what the image says
pub image_rows : (side : Side) (m : List (List ℤ)) (chain : Chain) → held_chain chain ≡ chain_image side m
    → take (count_of (length chain.rows) chain.stop) chain.rows ≡ chain_rows (over_of side) (length m) m
unfolding chain_image
image_rows side m chain e = ap (λ (c : ChainOf). c.rows) e

pub image_stop : (side : Side) (m : List (List ℤ)) (chain : Chain) → held_chain chain ≡ chain_image side m → chain.stop ≡ stop_in (chain_of side m)
unfolding chain_image
image_stop side m chain e = ap (λ (c : ChainOf). c.stop) e

pub never_in : (steps : List Step) → None ≡ stop_in steps → stops steps ≡ false
never_in steps e = by (stops steps) (record { step = stop_place steps; value = stop_value steps }) e
  where
    by : (b : Bool) (s : Stop) → None ≡ (if b then Some s else None) → b ≡ false
    by true s e = absurd (cc)
    by false s e = refl

pub stop_here : (steps : List Step) (stop : Stop) → Some stop ≡ stop_in steps → StopsAt steps stop
stop_here steps stop e = by (stops steps) (stop_place steps) (stop_value steps) refl e
  where
    got : (s t : Stop) → Some s ≡ Some t → s ≡ t
    got s t e = cc

    by : (b : Bool) (p : ℕ) (v : ℤ) → stops steps ≡ b → Some stop ≡ (if b then Some (record { step = stop_place steps; value = stop_value steps }) else None) → StopsAt steps stop
    by true p v here e =
        let same = got stop (record { step = stop_place steps; value = stop_value steps }) e in
        record { stops_here = here; place = ap (λ (s : Stop). s.step) same; number = ap (λ (s : Stop). s.value) same }
    by false p v here e = absurd (cc)

-- ---- a row that stays
old_row : (side : Side) (n first : ℕ) (m o rows : List (List ℤ)) (stop : Option Stop) (j : ℕ) → IsCarried side n first m o rows stop → j < count_of (length rows) stop
    → tri_row rows j ≡ row_at (chain_rows (over_of side) (length m) m) j
old_row side n first m o rows stop j h lt =
    sym (get_or-take (count_of (length rows) stop) rows j [] lt) ∙ ap (λ (r : List (List ℤ)). tri_row r j) (image_rows side m (record { rows = rows; stop = stop }) h.image)

new_row : (side : Side) (n first : ℕ) (m o rows : List (List ℤ)) (stop : Option Stop) (j : ℕ) → IsCarried side n first m o rows stop → j < first
    → row_at (chain_rows (over_of side) (length m) m) j ≡ row_at (matrix_after (over_of side) j o) 0
new_row side n first m o rows stop j h lt =
    let tall = h.tall in
    let within = h.within in
    chain_rows_same side (length m) n first m o h.left h.right h.same j lt ∙ row_at-chain_rows (over_of side) (length m) j o (omega arith)

goes_at : (side : Side) (m : List (List ℤ)) (j : ℕ) → is_stop (get_or (chain_of side m) j free) ≡ false → is_stop (step_of (row_at (chain_rows (over_of side) (length m) m) j)) ≡ false
goes_at side m j e = ap is_stop (sym (step_of_row (chain_rows (over_of side) (length m) m) j)) ∙ e

-- so many rows stay, of which none stops
kept_rows : (side : Side) (n first : ℕ) (m o rows : List (List ℤ)) (stop : Option Stop) (count : ℕ) → IsCarried side n first m o rows stop → count ≤ first → count ≤ count_of (length rows) stop
    → ((j : ℕ) → j < count → is_stop (get_or (chain_of side m) j free) ≡ false) → GoesOnTo side o count rows
kept_rows side n first m o rows stop count h le room goes = record {
  done = λ j lt. row j lt;
  pivots = λ j lt. record { goes_on = ap (λ r. is_stop (step_of r)) (old j lt) ∙ goes_at side m j (goes j lt); few = short j lt; head = subst (λ r. at r 0 ≤ℤ pos (2 ^ 61)) (sym (row j lt)) (h.low j (let within = h.within in omega arith)) };
}
  where
    old : (j : ℕ) → j < count → tri_row rows j ≡ row_at (chain_rows (over_of side) (length m) m) j
    old j lt = old_row side n first m o rows stop j h (omega arith)

    row : (j : ℕ) → j < count → tri_row rows j ≡ row_at (matrix_after (over_of side) j o) 0
    row j lt = old j lt ∙ new_row side n first m o rows stop j h (omega arith)

    goes_on : (j : ℕ) → j < count → GoesOn side j o
    goes_on j lt s less =
        let inside : s < count = omega arith in
        ap (λ r. is_stop (step_of r)) (sym (new_row side n first m o rows stop s h (omega arith))) ∙ goes_at side m s (goes s inside)

    short : (j : ℕ) → j < count → length (tri_row rows j) ≤ 64
    short j lt =
        let within = h.within in
        let few = h.few in
        let after = triangle_after side j n o h.right (omega arith) (goes_on j lt) in
        let long = length-row_at (n - j) (matrix_after (over_of side) j o) 0 after (omega arith) in
        let same = ap length (row j lt) in
        omega arith

-- ---- what is carried over, up to place `first`
went_on : (side : Side) (n first : ℕ) (m o rows : List (List ℤ)) → IsCarried side n first m o rows None → GoesOnTo side o first rows
went_on side n first m o rows h =
    let places = h.places in
    let within = h.within in
    let never = never_in (chain_of side m) (image_stop side m (record { rows = rows; stop = None }) h.image) in
    kept_rows side n first m o rows None first h (omega arith) (omega arith) (λ j lt. each_goes_on (chain_of side m) j never)

stopped_later : (side : Side) (n first : ℕ) (m o rows : List (List ℤ)) (stop : Stop) → IsCarried side n first m o rows (Some stop) → first < stop.step → GoesOnTo side o first rows
stopped_later side n first m o rows stop h lt =
    let here = stop_here (chain_of side m) stop (image_stop side m (record { rows = rows; stop = Some stop }) h.image) in
    let place = here.place in
    kept_rows side n first m o rows (Some stop) first h (omega arith) (omega arith) (λ j less. goes_before (chain_of side m) here.stops_here j (omega arith))

stopped_before : (side : Side) (n first : ℕ) (m o rows : List (List ℤ)) (stop : Stop) → IsCarried side n first m o rows (Some stop) → stop.step ≤ first → HasStopped side o first rows stop
stopped_before side n first m o rows stop h le =
    let here = stop_here (chain_of side m) stop (image_stop side m (record { rows = rows; stop = Some stop }) h.image) in
    let place = here.place in
    let range = stop_place-range (chain_of side m) here.stops_here in
    let low = range.0 in
    let within = h.within in
    let tall = h.tall in
    let wide = h.wide in
    let k : ℕ = stop.step - 1 in
    let next : suc k ≡ stop.step = omega arith in
    let before : k < first = omega arith in
    let last : k < n = omega arith in
    let known = new_row side n first m o rows (Some stop) k h before in
    let steps = stops_at side k n o stop.value last h.right
    (λ s less. ap (λ r. is_stop (step_of r)) (sym (new_row side n first m o rows (Some stop) s h (omega arith))) ∙ goes_at side m s (goes_before (chain_of side m) here.stops_here s (omega arith)))
    (ap step_of (sym known) ∙ (sym (step_of_row (chain_rows (over_of side) (length m) m) k)
    ∙ (ap (λ p. get_or (chain_of side m) p free) (ap (λ p. p - 1) place) ∙ (stop_read (chain_of side m) here.stops_here ∙ ap halt (sym here.number))))) in
    record {
      before = le;
      done = λ j lt. old_row side n first m o rows (Some stop) j h lt ∙ new_row side n first m o rows (Some stop) j h (omega arith);
      stops = subst (λ q. StopsAt (chain_steps (over_of side) q o) stop) (sym wide)
          (record { stops_here = steps.stops_here; place = sym next ∙ sym steps.place; number = sym steps.number });
    }

-- a chain of which the first rows stay, cut at the place from which on it is computed anew
pub carried : (side : Side) (n first : ℕ) (m o rows : List (List ℤ)) (stop : Option Stop) → IsCarried side n first m o rows stop → HasRun side o first (cut_chain first (record { rows = rows; stop = stop }))
carried side n first m o rows None h = record { places = h.places ∙ sym h.wide; state = went_on side n first m o rows h }
carried side n first m o rows (Some stop) h = record {
  places = h.places ∙ sym h.wide;
  state = by (nat_le stop.step first) refl;
}
  where
    by : (b : Bool) → nat_le stop.step first ≡ b → MatchOption (if b then Some stop else None) (GoesOnTo side o first rows) (HasStopped side o first rows)
    by true e = stopped_before side n first m o rows stop h (grind (arith, nat_tests))
    by false e = stopped_later side n first m o rows stop h (grind (arith, nat_tests))

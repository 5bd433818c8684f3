-- Both chains of a limit, carried over from one plan to another that agrees with it in the first rows.
use Rattle.std.proofs.Common.{◌≡◌, ℕ, ◌^◌, ◌≤◌, Bool, List, length, refl, sym, ◌∙◌, ap, ap₂, subst, arith, ℤ, pos, ◌≤ℤ◌, ◌<ℤ◌}
use Rattle.std.proofs.lemmas.Int.{ints}
use Rattle.whole_algebra.specs.Matrices.{at}
use Rattle.whole_algebra.specs.Chains.{matrix_after}
use Rattle.whole_algebra.specs.Grid.{row_at}
use Rattle.whole_algebra.proofs.Places.{at-diagonal}
use Rattle.geo_model.specs.Limit.{LimitOf, SquareOf, IsLoad}
use Rattle.geo_model.specs.Network.{NetworkOf, IsNetwork}
use Rattle.limit_forms.specs.Grid.{lower_grid, upper_grid, AgreeOnFirst}
use Rattle.limit_forms.proofs.GridEntries.{lower_triangle, upper_triangle}
use Rattle.limit_forms.proofs.GridRows.{lower_chain_low, upper_chain_low, lower_first_rows, upper_first_rows}
use Rattle.chain_step.specs.Step.{over_of}
use Rattle.chain_step.specs.declared.side.Side.TheVariants.{Lower, Upper}
use Rattle.pivot_chain.proofs.Judged.{tall_lower, tall_upper}
use Rattle.factor_stack.specs.declared.held.Held.{Held}
use Rattle.factor_stack.specs.Image.{image_of}
use Rattle.factor_stack.specs.Stored.{held_image, cut_chain, AreHeldFactors}
use Rattle.factor_stack.specs.Running.{HasRun}
use Rattle.factor_stack.proofs.CarriedRows.{carried}
use Rattle.factor_stack.proofs.Verdicts.{lower_image, upper_image}

below : (z : ℤ) → z <ℤ pos (2 ^ 61) → z ≤ℤ pos (2 ^ 61)
below z h = omega (arith, ints)

-- what is known when a change begins: the image of the plan that is held, and that it agrees with the other plan
pub record IsChanging (network : NetworkOf) (limit : LimitOf) (held : Held) (other : List Bool) (first : ℕ) : Type 0 where
  pub bounds : IsNetwork network
  pub load : IsLoad (length network.unknowns) network.candidates limit.alpha limit.squares
  pub image : held_image held ≡ image_of network limit held.plan
  pub rows : AreHeldFactors (length network.unknowns) held.factors
  pub within : first ≤ length network.unknowns
  pub agree : AgreeOnFirst first network held.plan other limit.squares

lower_carried : (network : NetworkOf) (limit : LimitOf) (held : Held) (other : List Bool) (first : ℕ) → IsChanging network limit held other first
    → HasRun Lower (lower_grid network other limit.alpha limit.squares) first (cut_chain first held.factors.lower)
lower_carried network limit held other first h =
    let alpha = limit.alpha in
    let squares = limit.squares in
    carried Lower (length network.unknowns) first (lower_grid network held.plan alpha squares) (lower_grid network other alpha squares) held.factors.lower.rows held.factors.lower.stop
    (record {
      left = lower_triangle network held.plan alpha squares;
      right = lower_triangle network other alpha squares;
      few = h.bounds.unknowns;
      tall = tall_lower network held.plan alpha squares (lower_grid network held.plan alpha squares) refl;
      wide = tall_lower network other alpha squares (lower_grid network other alpha squares) refl;
      places = h.rows.lower.places;
      within = h.within;
      low = λ t lt. below (at (row_at (matrix_after (over_of Lower) t (lower_grid network other alpha squares)) 0) 0)
          (subst (λ z. z <ℤ pos (2 ^ 61)) (at-diagonal (matrix_after (over_of Lower) t (lower_grid network other alpha squares)) 0) (lower_chain_low network other alpha squares t 0 h.bounds h.load));
      same = lower_first_rows network held.plan other alpha squares first h.agree;
      image = lower_image network limit held h.image;
    })

upper_carried : (network : NetworkOf) (limit : LimitOf) (held : Held) (other : List Bool) (first : ℕ) → IsChanging network limit held other first
    → HasRun Upper (upper_grid network other limit.alpha limit.squares) first (cut_chain first held.factors.upper)
upper_carried network limit held other first h =
    let alpha = limit.alpha in
    let squares = limit.squares in
    carried Upper (length network.unknowns) first (upper_grid network held.plan alpha squares) (upper_grid network other alpha squares) held.factors.upper.rows held.factors.upper.stop
    (record {
      left = upper_triangle network held.plan alpha squares;
      right = upper_triangle network other alpha squares;
      few = h.bounds.unknowns;
      tall = tall_upper network held.plan alpha squares (upper_grid network held.plan alpha squares) refl;
      wide = tall_upper network other alpha squares (upper_grid network other alpha squares) refl;
      places = h.rows.upper.places;
      within = h.within;
      low = λ t lt. below (at (row_at (matrix_after (over_of Upper) t (upper_grid network other alpha squares)) 0) 0)
          (subst (λ z. z <ℤ pos (2 ^ 61)) (at-diagonal (matrix_after (over_of Upper) t (upper_grid network other alpha squares)) 0) (upper_chain_low network other alpha squares t 0 h.bounds h.load (omega arith)));
      same = upper_first_rows network held.plan other alpha squares first h.agree;
      image = upper_image network limit held h.image;
    })

-- the same, over what the grids are made of
pub lower_known : (network : NetworkOf) (limit : LimitOf) (held : Held) (other plan : List Bool) (first : ℕ) (alpha : ℤ) (squares : List SquareOf) → IsChanging network limit held other first
    → plan ≡ other → alpha ≡ limit.alpha → squares ≡ limit.squares → HasRun Lower (lower_grid network plan alpha squares) first (cut_chain first held.factors.lower)
lower_known network limit held other plan first alpha squares h e f g =
    subst (λ m. HasRun Lower m first (cut_chain first held.factors.lower))
    (sym (ap₂ (λ p a. lower_grid network p a squares) e f ∙ ap (lower_grid network other limit.alpha) g)) (lower_carried network limit held other first h)

pub upper_known : (network : NetworkOf) (limit : LimitOf) (held : Held) (other plan : List Bool) (first : ℕ) (alpha : ℤ) (squares : List SquareOf) → IsChanging network limit held other first
    → plan ≡ other → alpha ≡ limit.alpha → squares ≡ limit.squares → HasRun Upper (upper_grid network plan alpha squares) first (cut_chain first held.factors.upper)
upper_known network limit held other plan first alpha squares h e f g =
    subst (λ m. HasRun Upper m first (cut_chain first held.factors.upper))
    (sym (ap₂ (λ p a. upper_grid network p a squares) e f ∙ ap (upper_grid network other limit.alpha) g)) (upper_carried network limit held other first h)

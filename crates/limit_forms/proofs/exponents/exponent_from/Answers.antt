use Rattle.std.proofs.Common.{rules, ◌≡◌, ℕ, List, ◌+◌, ◌*◌, ◌<◌, ◌≤◌, ◌^◌, ◌++◌, [], ◌∷◌, ℤ, pos, ◌*ℤ◌, ◌≤ℤ◌, ◌<ℤ◌, length, take, set, map, w32, w64, FitsSigned, ap, ap₂, sym, ◌∙◌, arith}
use mir.Syntax.{w128}
use Rattle.std.specs.Prelude.{unsigned_abs}
use Rattle.std.specs.List.{range_with_len}
use Rattle.std.proofs.lemmas.Int.{ints, to_z-of_z, fits_signed_from_abs}
use Rattle.std.proofs.lemmas.List.{take_more_set}
use Rattle.std.proofs.lemmas.List.FromFn.{map-range_with_len_more}
use Rattle.geo_base.specs.Grid.{exponent_of}
use Rattle.geo_model.specs.Network.{NetworkOf, IsNetwork}
use Rattle.limit_forms.specs.Form.{full_entry}
use Rattle.limit_forms.specs.Grid.{exponent_at}
use Rattle.limit_forms.proofs.Scales.{IsDiagonal, diagonal_range, full_entry-size}
use Rattle.limit_forms.proofs.exponents.exponent_from.Goals as goal

record IsStep (alpha diagonal : ℤ) : Type 0 where
  pub range : IsDiagonal (alpha *ℤ diagonal)
  pub narrow : FitsSigned w64 alpha
  pub wide : FitsSigned w128 alpha
  pub number : FitsSigned w128 diagonal
  pub product : FitsSigned w128 (alpha *ℤ diagonal)

step : (network : NetworkOf) (alpha diagonal : ℤ) (i : ℕ) → IsNetwork network → pos 1 ≤ℤ alpha → alpha ≤ℤ pos 1000000 → diagonal ≡ full_entry network.candidates i i
    → IsStep alpha diagonal
step network alpha diagonal i bounds low high is =
    let size : unsigned_abs diagonal ≤ 512 * 2 ^ 66 = rw is (full_entry-size network i i bounds) in
    let range : IsDiagonal (alpha *ℤ diagonal) = rw is (diagonal_range network alpha i bounds low high) in
    let a = range.low in
    let b = range.high in
    record {
      range = range;
      narrow = fits_signed_from_abs w64 alpha (small alpha low high);
      wide = fits_signed_from_abs w128 alpha (small_wide alpha low high);
      number = fits_signed_from_abs w128 diagonal (omega arith);
      product = fits_signed_from_abs w128 (alpha *ℤ diagonal) (between (alpha *ℤ diagonal) a b);
    }
  where
    small : (a : ℤ) → pos 1 ≤ℤ a → a ≤ℤ pos 1000000 → unsigned_abs a < 2 ^ 63
    small a h k = omega (arith, ints)

    small_wide : (a : ℤ) → pos 1 ≤ℤ a → a ≤ℤ pos 1000000 → unsigned_abs a < 2 ^ 127
    small_wide a h k = omega (arith, ints)

    between : (z : ℤ) → pos 0 ≤ℤ z → z <ℤ pos (2 ^ 100) → unsigned_abs z < 2 ^ 127
    between z h k = omega (arith, ints)

pub overflow_mul-scaled : goal.overflow_mul-scaled
overflow_mul-scaled c =
    let s = step c.args.network.now c.args.alpha c.args.diagonal c.args.unknown c.candidates-bounds.ensures.bounds c.requires.low c.requires.high c.requires.diagonal in
    let a = s.narrow in
    let b = s.wide in
    let d = s.number in
    let e = s.product in
    simp to_z-of_z s.product

pub grid_exponent-requires-clause-low : goal.grid_exponent-requires-clause-low
grid_exponent-requires-clause-low c =
    let s = step c.args.network.now c.args.alpha c.args.diagonal c.args.unknown c.candidates-bounds.ensures.bounds c.requires.low c.requires.high c.requires.diagonal in
    let a = s.narrow in
    let b = s.wide in
    let d = s.number in
    let e = s.product in
    simp to_z-of_z s.range.low

pub grid_exponent-requires-clause-high : goal.grid_exponent-requires-clause-high
grid_exponent-requires-clause-high c =
    let s = step c.args.network.now c.args.alpha c.args.diagonal c.args.unknown c.candidates-bounds.ensures.bounds c.requires.low c.requires.high c.requires.diagonal in
    let a = s.narrow in
    let b = s.wide in
    let d = s.number in
    let e = s.product in
    simp to_z-of_z s.range.high

exponent_is : (network : NetworkOf) (alpha diagonal result : ℤ) (i : ℕ) → result ≡ exponent_of (alpha *ℤ diagonal) → diagonal ≡ full_entry network.candidates i i → result ≡ exponent_at network.candidates alpha i
unfolding exponent_at
exponent_is network alpha diagonal result i e is = e ∙ ap (λ d. exponent_of (alpha *ℤ d)) is

pub returns : goal.returns
returns c =
    let s = step c.args.network.now c.args.alpha c.args.diagonal c.args.unknown c.candidates-bounds.ensures.bounds c.requires.low c.requires.high c.requires.diagonal in
    let a = s.narrow in
    let b = s.wide in
    let d = s.number in
    let e = s.product in
    let plain = simp to_z-of_z at c.grid_exponent.ensures.value in
    let fits : FitsSigned w32 c.grid_exponent.result = search rules in
    simp to_z-of_z (exponent_is c.args.network.now c.args.alpha c.args.diagonal c.grid_exponent.result c.args.unknown plain c.requires.diagonal)

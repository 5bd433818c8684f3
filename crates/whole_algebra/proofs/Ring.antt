-- The whole numbers are a commutative ring.
use Rattle.std.proofs.Common.{◌≡◌, ◌*◌, ap, ◌∙◌, sym, arith, ℤ, pos, ◌+ℤ◌, ◌*ℤ◌, neg_ℤ}
use Rattle.std.proofs.lemmas.Int.{ints}
use borrow.Author.Differences.{up, down, same_in, sum_is_lem, neg_is, product_is}

pub add_comm : (a b : ℤ) → a +ℤ b ≡ b +ℤ a
add_comm a b = omega (arith, ints)

pub add_assoc : (a b c : ℤ) → (a +ℤ b) +ℤ c ≡ a +ℤ (b +ℤ c)
add_assoc a b c = omega (arith, ints)

pub add_zero : (a : ℤ) → a +ℤ pos 0 ≡ a
add_zero a = omega (arith, ints)

pub zero_add : (a : ℤ) → pos 0 +ℤ a ≡ a
zero_add a = omega (arith, ints)

pub add_neg : (a : ℤ) → a +ℤ neg_ℤ a ≡ pos 0
add_neg a = omega (arith, ints)

pub neg_neg : (a : ℤ) → neg_ℤ (neg_ℤ a) ≡ a
neg_neg a = omega (arith, ints)

pub neg_add : (a b : ℤ) → neg_ℤ (a +ℤ b) ≡ neg_ℤ a +ℤ neg_ℤ b
neg_add a b = omega (arith, ints)

pub mul_comm : (a b : ℤ) → a *ℤ b ≡ b *ℤ a
mul_comm a b = omega (arith, ints)

pub mul_one : (a : ℤ) → a *ℤ pos 1 ≡ a
mul_one a = omega (arith, ints)

pub one_mul : (a : ℤ) → pos 1 *ℤ a ≡ a
one_mul a = omega (arith, ints)

pub mul_zero : (a : ℤ) → a *ℤ pos 0 ≡ pos 0
mul_zero a = omega (arith, ints)

pub zero_mul : (a : ℤ) → pos 0 *ℤ a ≡ pos 0
zero_mul a = omega (arith, ints)

pub neg_mul : (a b : ℤ) → neg_ℤ a *ℤ b ≡ neg_ℤ (a *ℤ b)
neg_mul a b =
    let n = neg_is a in
    same_in (neg_ℤ a *ℤ b) (neg_ℤ (a *ℤ b)) (omega (
      arith,
      product_is (neg_ℤ a) b,
      product_is a b,
      neg_is (a *ℤ b),
      ap (λ t. t * up b) n.0,
      ap (λ t. t * down b) n.0,
      ap (λ t. t * up b) n.1,
      ap (λ t. t * down b) n.1,
    ))

pub mul_neg : (a b : ℤ) → a *ℤ neg_ℤ b ≡ neg_ℤ (a *ℤ b)
mul_neg a b = mul_comm a (neg_ℤ b) ∙ neg_mul b a ∙ ap neg_ℤ (mul_comm b a)

pub neg_is_mul : (a : ℤ) → neg_ℤ a ≡ neg_ℤ (pos 1) *ℤ a
neg_is_mul a = omega (arith, ints)

pub mul_assoc : (a b c : ℤ) → (a *ℤ b) *ℤ c ≡ a *ℤ (b *ℤ c)
mul_assoc a b c =
    let ab = product_is a b in
    let bc = product_is b c in
    same_in ((a *ℤ b) *ℤ c) (a *ℤ (b *ℤ c)) (omega (
      arith,
      product_is (a *ℤ b) c,
      product_is a (b *ℤ c),
      ap (λ t. t * up c) ab.0,
      ap (λ t. t * down c) ab.0,
      ap (λ t. t * up c) ab.1,
      ap (λ t. t * down c) ab.1,
      ap (λ t. up a * t) bc.0,
      ap (λ t. down a * t) bc.0,
      ap (λ t. up a * t) bc.1,
      ap (λ t. down a * t) bc.1,
    ))

pub mul_add : (a b c : ℤ) → a *ℤ (b +ℤ c) ≡ a *ℤ b +ℤ a *ℤ c
mul_add a b c =
    let bc = sum_is_lem b c in
    same_in (a *ℤ (b +ℤ c)) (a *ℤ b +ℤ a *ℤ c) (omega (
      arith,
      product_is a (b +ℤ c),
      sum_is_lem (a *ℤ b) (a *ℤ c),
      product_is a b,
      product_is a c,
      ap (λ t. up a * t) bc,
      ap (λ t. down a * t) bc,
    ))

pub add_mul : (a b c : ℤ) → (a +ℤ b) *ℤ c ≡ a *ℤ c +ℤ b *ℤ c
add_mul a b c =
    let s = mul_add c a b in
    let x = mul_comm (a +ℤ b) c in
    let y = mul_comm a c in
    let z = mul_comm b c in
    omega (arith, ints)

-- the middle factors of two products change places
pub mul_swap : (a b c d : ℤ) → (a *ℤ b) *ℤ (c *ℤ d) ≡ (a *ℤ c) *ℤ (b *ℤ d)
mul_swap a b c d =
    mul_assoc a b (c *ℤ d)
    ∙ ap (λ t. a *ℤ t) (sym (mul_assoc b c d) ∙ ap (λ t. t *ℤ d) (mul_comm b c) ∙ mul_assoc c b d)
    ∙ sym (mul_assoc a c (b *ℤ d))

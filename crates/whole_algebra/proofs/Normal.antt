-- An identity of sums and products of whole numbers, by computing: `ring e f atoms refl` proves that the
-- expressions e and f have one value wherever their normal forms, sums of sorted products, are the same.
use Rattle.std.proofs.Common.{◌≡◌, ℕ, zero, suc, Bool, true, false, cond, ◌&&◌, T, nat_eq, nat_lt, nat_le, List, [], ◌∷◌, refl, sym, ◌∙◌, ap, ap₂, ℤ, pos, negsuc, ◌+ℤ◌, ◌-ℤ◌, ◌*ℤ◌, neg_ℤ}
use lib.Dec.{eqb→eq}
use Rattle.whole_algebra.specs.Rounding.{is_zero}
use Rattle.whole_algebra.proofs.Ring.{add_comm, add_assoc, add_zero, zero_add, mul_comm, mul_assoc, mul_one, one_mul, mul_zero, zero_mul, mul_add, add_mul, neg_is_mul, mul_swap}

-- sums, products and opposites of the atoms of a list, which are named by their places, and of numbers
pub data Expression : Type 0 where
  atom : ℕ → Expression
  number : ℤ → Expression
  sum_of : Expression → Expression → Expression
  product_of : Expression → Expression → Expression
  opposite_of : Expression → Expression

infixl 6 ◌⊕◌ ◌⊖◌
infixl 7 ◌⊗◌
abbrev pub ◌⊕◌ : Expression → Expression → Expression
e ⊕ f = sum_of e f

abbrev pub ◌⊗◌ : Expression → Expression → Expression
e ⊗ f = product_of e f

abbrev pub ◌⊖◌ : Expression → Expression → Expression
e ⊖ f = sum_of e (opposite_of f)

-- the first atoms of the list
abbrev pub x0 : Expression
x0 = atom 0

abbrev pub x1 : Expression
x1 = atom 1

abbrev pub x2 : Expression
x2 = atom 2

abbrev pub x3 : Expression
x3 = atom 3

abbrev pub x4 : Expression
x4 = atom 4

abbrev pub x5 : Expression
x5 = atom 5

abbrev pub x6 : Expression
x6 = atom 6

abbrev pub x7 : Expression
x7 = atom 7

-- the number n
abbrev pub lit : ℕ → Expression
lit n = number (pos n)

abbrev pub atom_value : List ℤ → ℕ → ℤ
atom_value [] i = pos 0
atom_value (z ∷ zs) zero = z
atom_value (z ∷ zs) (suc i) = atom_value zs i

abbrev pub value_of : List ℤ → Expression → ℤ
value_of zs (atom i) = atom_value zs i
value_of zs (number z) = z
value_of zs (sum_of e f) = value_of zs e +ℤ value_of zs f
value_of zs (product_of e f) = value_of zs e *ℤ value_of zs f
value_of zs (opposite_of e) = neg_ℤ (value_of zs e)

-- a number times a sorted product of atoms
pub data Term : Type 0 where
  term : ℤ → List ℕ → Term

abbrev product_value : List ℤ → List ℕ → ℤ
product_value zs [] = pos 1
product_value zs (i ∷ m) = atom_value zs i *ℤ product_value zs m

abbrev term_value : List ℤ → Term → ℤ
term_value zs (term c m) = c *ℤ product_value zs m

abbrev terms_value : List ℤ → List Term → ℤ
terms_value zs [] = pos 0
terms_value zs (t ∷ p) = term_value zs t +ℤ terms_value zs p

abbrev same_product : List ℕ → List ℕ → Bool
same_product [] [] = true
same_product [] (j ∷ n) = false
same_product (i ∷ m) [] = false
same_product (i ∷ m) (j ∷ n) = nat_eq i j && same_product m n

abbrev comes_before : List ℕ → List ℕ → Bool
comes_before [] n = true
comes_before (i ∷ m) [] = false
comes_before (i ∷ m) (j ∷ n) = cond (nat_eq i j) (comes_before m n) (nat_lt i j)

abbrev with_atom : ℕ → List ℕ → List ℕ
with_atom i [] = i ∷ []
with_atom i (j ∷ m) = cond (nat_le i j) (i ∷ j ∷ m) (j ∷ with_atom i m)

abbrev merged : List ℕ → List ℕ → List ℕ
merged [] n = n
merged (i ∷ m) n = with_atom i (merged m n)

abbrev placed : Bool → Bool → ℤ → List ℕ → ℤ → List ℕ → List Term → List Term → List Term
placed true u c m d n p r = term (c +ℤ d) n ∷ p
placed false true c m d n p r = term c m ∷ term d n ∷ p
placed false false c m d n p r = term d n ∷ r

abbrev with_term : ℤ → List ℕ → List Term → List Term
with_term c m [] = term c m ∷ []
with_term c m (term d n ∷ p) = placed (same_product m n) (comes_before m n) c m d n p (with_term c m p)

abbrev plus_terms : List Term → List Term → List Term
plus_terms [] q = q
plus_terms (term c m ∷ p) q = with_term c m (plus_terms p q)

abbrev times_term : ℤ → List ℕ → List Term → List Term
times_term c m [] = []
times_term c m (term d n ∷ q) = with_term (c *ℤ d) (merged m n) (times_term c m q)

abbrev times_terms : List Term → List Term → List Term
times_terms [] q = []
times_terms (term c m ∷ p) q = plus_terms (times_term c m q) (times_terms p q)

abbrev without_zeros : List Term → List Term
without_zeros [] = []
without_zeros (term c m ∷ p) = cond (is_zero c) (without_zeros p) (term c m ∷ without_zeros p)

abbrev terms_of : Expression → List Term
terms_of (atom i) = term (pos 1) (i ∷ []) ∷ []
terms_of (number z) = term z [] ∷ []
terms_of (sum_of e f) = plus_terms (terms_of e) (terms_of f)
terms_of (product_of e f) = times_terms (terms_of e) (terms_of f)
terms_of (opposite_of e) = times_term (neg_ℤ (pos 1)) [] (terms_of e)

abbrev pub normal_form : Expression → List Term
normal_form e = without_zeros (terms_of e)

-- ---- each step keeps the value
both : (a b : Bool) → T (a && b) → T a × T b
both true true h = (tt, tt)
both true false h = absurd h
both false b h = absurd h

same_product_lem : (m n : List ℕ) → T (same_product m n) → m ≡ n
same_product_lem [] [] h = refl
same_product_lem [] (j ∷ n) h = absurd h
same_product_lem (i ∷ m) [] h = absurd h
same_product_lem (i ∷ m) (j ∷ n) h =
    let h' = both (nat_eq i j) (same_product m n) h in
    ap₂ ◌∷◌ (eqb→eq i j h'.0) (same_product_lem m n h'.1)

turned : (a b c : ℤ) → a *ℤ (b *ℤ c) ≡ b *ℤ (a *ℤ c)
turned a b c = sym (mul_assoc a b c) ∙ ap (λ t. t *ℤ c) (mul_comm a b) ∙ mul_assoc b a c

with_atom_by : (zs : List ℤ) (i j : ℕ) (m n : List ℕ) (t : Bool) → product_value zs n ≡ atom_value zs i *ℤ product_value zs m
    → product_value zs (cond t (i ∷ j ∷ m) (j ∷ n)) ≡ atom_value zs i *ℤ (atom_value zs j *ℤ product_value zs m)
with_atom_by zs i j m n true e = refl
with_atom_by zs i j m n false e = ap (λ t. atom_value zs j *ℤ t) e ∙ turned (atom_value zs j) (atom_value zs i) (product_value zs m)

with_atom_lem : (zs : List ℤ) (i : ℕ) (m : List ℕ) → product_value zs (with_atom i m) ≡ atom_value zs i *ℤ product_value zs m
with_atom_lem zs i [] = refl
with_atom_lem zs i (j ∷ m) = with_atom_by zs i j m (with_atom i m) (nat_le i j) (with_atom_lem zs i m)

merged_lem : (zs : List ℤ) (m n : List ℕ) → product_value zs (merged m n) ≡ product_value zs m *ℤ product_value zs n
merged_lem zs [] n = sym (one_mul (product_value zs n))
merged_lem zs (i ∷ m) n =
    with_atom_lem zs i (merged m n)
    ∙ ap (λ t. atom_value zs i *ℤ t) (merged_lem zs m n)
    ∙ sym (mul_assoc (atom_value zs i) (product_value zs m) (product_value zs n))

gathered : (c d a b r : ℤ) → a ≡ b → (c +ℤ d) *ℤ b +ℤ r ≡ c *ℤ a +ℤ (d *ℤ b +ℤ r)
gathered c d a b r e =
    ap (λ t. t +ℤ r) (add_mul c d b ∙ ap (λ t. c *ℤ t +ℤ d *ℤ b) (sym e)) ∙ add_assoc (c *ℤ a) (d *ℤ b) r

moved : (x y z r : ℤ) → r ≡ x +ℤ z → y +ℤ r ≡ x +ℤ (y +ℤ z)
moved x y z r e =
    ap (λ t. y +ℤ t) e ∙ sym (add_assoc y x z) ∙ ap (λ t. t +ℤ z) (add_comm y x) ∙ add_assoc x y z

placed_lem : (zs : List ℤ) (t u : Bool) (c : ℤ) (m : List ℕ) (d : ℤ) (n : List ℕ) (p r : List Term) → (T t → m ≡ n)
    → terms_value zs r ≡ c *ℤ product_value zs m +ℤ terms_value zs p
    → terms_value zs (placed t u c m d n p r) ≡ c *ℤ product_value zs m +ℤ (d *ℤ product_value zs n +ℤ terms_value zs p)
placed_lem zs true u c m d n p r same e =
    gathered c d (product_value zs m) (product_value zs n) (terms_value zs p) (ap (product_value zs) (same tt))
placed_lem zs false true c m d n p r same e = refl
placed_lem zs false false c m d n p r same e =
    moved (c *ℤ product_value zs m) (d *ℤ product_value zs n) (terms_value zs p) (terms_value zs r) e

with_term_lem : (zs : List ℤ) (c : ℤ) (m : List ℕ) (p : List Term) → terms_value zs (with_term c m p) ≡ c *ℤ product_value zs m +ℤ terms_value zs p
with_term_lem zs c m [] = refl
with_term_lem zs c m (term d n ∷ p) =
    placed_lem zs (same_product m n) (comes_before m n) c m d n p (with_term c m p) (same_product_lem m n) (with_term_lem zs c m p)

plus_terms_lem : (zs : List ℤ) (p q : List Term) → terms_value zs (plus_terms p q) ≡ terms_value zs p +ℤ terms_value zs q
plus_terms_lem zs [] q = sym (zero_add (terms_value zs q))
plus_terms_lem zs (term c m ∷ p) q =
    with_term_lem zs c m (plus_terms p q)
    ∙ ap (λ t. c *ℤ product_value zs m +ℤ t) (plus_terms_lem zs p q)
    ∙ sym (add_assoc (c *ℤ product_value zs m) (terms_value zs p) (terms_value zs q))

times_term_lem : (zs : List ℤ) (c : ℤ) (m : List ℕ) (q : List Term) → terms_value zs (times_term c m q) ≡ (c *ℤ product_value zs m) *ℤ terms_value zs q
times_term_lem zs c m [] = sym (mul_zero (c *ℤ product_value zs m))
times_term_lem zs c m (term d n ∷ q) =
    with_term_lem zs (c *ℤ d) (merged m n) (times_term c m q)
    ∙ ap₂ (λ s t. s +ℤ t)
    (ap (λ t. (c *ℤ d) *ℤ t) (merged_lem zs m n) ∙ mul_swap c d (product_value zs m) (product_value zs n))
    (times_term_lem zs c m q)
    ∙ sym (mul_add (c *ℤ product_value zs m) (d *ℤ product_value zs n) (terms_value zs q))

times_terms_lem : (zs : List ℤ) (p q : List Term) → terms_value zs (times_terms p q) ≡ terms_value zs p *ℤ terms_value zs q
times_terms_lem zs [] q = sym (zero_mul (terms_value zs q))
times_terms_lem zs (term c m ∷ p) q =
    plus_terms_lem zs (times_term c m q) (times_terms p q)
    ∙ ap₂ (λ s t. s +ℤ t) (times_term_lem zs c m q) (times_terms_lem zs p q)
    ∙ sym (add_mul (c *ℤ product_value zs m) (terms_value zs p) (terms_value zs q))

pub is_zero_lem : (c : ℤ) → T (is_zero c) → c ≡ pos 0
is_zero_lem (pos zero) h = refl
is_zero_lem (pos (suc n)) h = absurd h
is_zero_lem (negsuc n) h = absurd h

without_by : (zs : List ℤ) (t : Bool) (c : ℤ) (m : List ℕ) (p : List Term) → (T t → c ≡ pos 0)
    → terms_value zs (cond t p (term c m ∷ p)) ≡ c *ℤ product_value zs m +ℤ terms_value zs p
without_by zs true c m p none =
    sym (zero_add (terms_value zs p))
    ∙ ap (λ t. t +ℤ terms_value zs p) (sym (zero_mul (product_value zs m)) ∙ ap (λ t. t *ℤ product_value zs m) (sym (none tt)))
without_by zs false c m p none = refl

without_zeros_lem : (zs : List ℤ) (p : List Term) → terms_value zs (without_zeros p) ≡ terms_value zs p
without_zeros_lem zs [] = refl
without_zeros_lem zs (term c m ∷ p) =
    without_by zs (is_zero c) c m (without_zeros p) (is_zero_lem c)
    ∙ ap (λ t. c *ℤ product_value zs m +ℤ t) (without_zeros_lem zs p)

atom_lem : (a : ℤ) → pos 1 *ℤ (a *ℤ pos 1) +ℤ pos 0 ≡ a
atom_lem a = add_zero (pos 1 *ℤ (a *ℤ pos 1)) ∙ one_mul (a *ℤ pos 1) ∙ mul_one a

number_lem : (a : ℤ) → a *ℤ pos 1 +ℤ pos 0 ≡ a
number_lem a = add_zero (a *ℤ pos 1) ∙ mul_one a

opposite_lem : (a : ℤ) → (neg_ℤ (pos 1) *ℤ pos 1) *ℤ a ≡ neg_ℤ a
opposite_lem a = sym (neg_is_mul a)

terms_of_lem : (zs : List ℤ) (e : Expression) → terms_value zs (terms_of e) ≡ value_of zs e
terms_of_lem zs (atom i) = atom_lem (atom_value zs i)
terms_of_lem zs (number z) = number_lem z
terms_of_lem zs (sum_of e f) =
    plus_terms_lem zs (terms_of e) (terms_of f) ∙ ap₂ (λ s t. s +ℤ t) (terms_of_lem zs e) (terms_of_lem zs f)
terms_of_lem zs (product_of e f) =
    times_terms_lem zs (terms_of e) (terms_of f) ∙ ap₂ (λ s t. s *ℤ t) (terms_of_lem zs e) (terms_of_lem zs f)
terms_of_lem zs (opposite_of e) =
    times_term_lem zs (neg_ℤ (pos 1)) [] (terms_of e)
    ∙ opposite_lem (terms_value zs (terms_of e))
    ∙ ap neg_ℤ (terms_of_lem zs e)

normal_form_lem : (zs : List ℤ) (e : Expression) → terms_value zs (normal_form e) ≡ value_of zs e
normal_form_lem zs e = without_zeros_lem zs (terms_of e) ∙ terms_of_lem zs e

-- expressions with one normal form have one value
pub ring : (e f : Expression) (zs : List ℤ) → normal_form e ≡ normal_form f → value_of zs e ≡ value_of zs f
ring e f zs same = sym (normal_form_lem zs e) ∙ ap (terms_value zs) same ∙ normal_form_lem zs f

-- for example: completing the square in two variables
square_example : (a b x y : ℤ) → a *ℤ (a *ℤ (x *ℤ x) +ℤ pos 2 *ℤ (x *ℤ (b *ℤ y))) ≡ (a *ℤ x +ℤ b *ℤ y) *ℤ (a *ℤ x +ℤ b *ℤ y) -ℤ (b *ℤ y) *ℤ (b *ℤ y)
square_example a b x y =
    ring (x0 ⊗ (x0 ⊗ (x2 ⊗ x2) ⊕ lit 2 ⊗ (x2 ⊗ (x1 ⊗ x3)))) ((x0 ⊗ x2 ⊕ x1 ⊗ x3) ⊗ (x0 ⊗ x2 ⊕ x1 ⊗ x3) ⊖ (x1 ⊗ x3) ⊗ (x1 ⊗ x3)) (a ∷ b ∷ x ∷ y ∷ []) refl

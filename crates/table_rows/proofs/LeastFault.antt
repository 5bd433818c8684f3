-- The first fault is the least pair of a record and a place.
use Rattle.std.proofs.Common.{◌≡◌, ◌≤◌, ◌+◌, ◌∙◌, ℕ, zero, suc, Bool, true, false, List, [], ◌∷◌, Option, Some, None, refl, sym, ap, ap₂, arith, inl, inr, subst}
use Rattle.std.specs.Prelude.{if◌then◌else◌, slice_get}
use Rattle.table_rows.specs.Faults.{BrokenAt, FindsLeast, IsLeastFault, IsUpTo, Rule, TableRules, asked, faults_from, first_broken, first_fault}
use Rattle.table_rows.proofs.FaultFacts.{faults_at-none, faults_at-some}

-- the rule at a place of a list is broken, and has this kind
abbrev BrokenIn : {K : Type 0} → List (Rule K) → ℕ → K → Type 0
BrokenIn {K} rules place kind = (rule : Rule K) × (slice_get rules place ≡ Some rule) × (rule.broken ≡ true) × (rule.kind ≡ kind)

-- the first broken rule of a list is at the least place
abbrev IsLeastIn : {K : Type 0} → List (Rule K) → ℕ → Type 0
IsLeastIn {K} rules place = (other : ℕ) (kind : K) → BrokenIn rules other kind → place ≤ other

none-in : {K : Type 0} (rules : List (Rule K)) → first_broken rules ≡ None → (place : ℕ) (kind : K) → BrokenIn rules place kind → ⊥
unfolding first_broken
none-in [] e place kind (rule, at, broken, told) = cc at
none-in {K} (first ∷ rules) e place kind broken = by first.broken refl e place broken (λ f p. none-in rules f p kind)
  where
    by : (t : Bool) → first.broken ≡ t → (if t then Some first.kind else first_broken rules) ≡ None → (p : ℕ) → BrokenIn (first ∷ rules) p kind
        → (first_broken rules ≡ None → (p : ℕ) → BrokenIn rules p kind → ⊥) → ⊥
    by true t f p b more = cc f
    by false t f zero (rule, at, broken, told) more =
        let same : first ≡ rule = cc at in
        let kept : rule.broken ≡ false = sym (ap (λ (r : Rule K). r.broken) same) ∙ t in
        cc (kept, broken)
    by false t f (suc p) b more = more f p b

least-in : {K : Type 0} (rules : List (Rule K)) (kind : K) → first_broken rules ≡ Some kind → (place : ℕ) × BrokenIn rules place kind × IsLeastIn rules place
unfolding first_broken
least-in [] kind e = cc e
least-in {K} (first ∷ rules) kind e = by first.broken refl e (least-in rules kind)
  where
    after : (place other : ℕ) (k : K) → first.broken ≡ false → IsLeastIn rules place → BrokenIn (first ∷ rules) other k → suc place ≤ other
    after place zero k t least (rule, at, broken, told) =
        let same : first ≡ rule = cc at in
        let kept : rule.broken ≡ false = sym (ap (λ (r : Rule K). r.broken) same) ∙ t in
        cc (kept, broken)
    after place (suc other) k t least b =
        let low = least other k b in
        omega arith

    by : (t : Bool) → first.broken ≡ t → (if t then Some first.kind else first_broken rules) ≡ Some kind
        → (first_broken rules ≡ Some kind → (place : ℕ) × BrokenIn rules place kind × IsLeastIn rules place)
        → (place : ℕ) × BrokenIn (first ∷ rules) place kind × IsLeastIn (first ∷ rules) place
    by true t f more =
        let told : first.kind ≡ kind = cc f in
        (0, (first, refl, t, told), (λ other k b. omega arith))
    by false t f more =
        let (place, here, least) = more f in
        (suc place, here, (λ other k b. after place other k t least b))

-- the same of the records of a list, the first of which has this number
abbrev BrokenFrom : {K : Type 0} → ℕ → List (List (Rule K)) → ℕ → ℕ → K → Type 0
BrokenFrom {K} start all number place kind =
    (index : ℕ) × (number ≡ index + start) × (rules : List (Rule K)) × (slice_get all index ≡ Some rules) × BrokenIn rules place kind

abbrev IsLeastFrom : {K : Type 0} → ℕ → List (List (Rule K)) → ℕ → ℕ → Type 0
IsLeastFrom {K} start all number place = (other other_place : ℕ) (kind : K) → BrokenFrom start all other other_place kind → IsUpTo number place other other_place

-- what a record that breaks no rule leaves to those after it
later : {K : Type 0} (start : ℕ) (rules : List (Rule K)) (more : List (List (Rule K))) → first_broken rules ≡ None
    → slice_get (faults_from start (rules ∷ more)) 0 ≡ slice_get (faults_from (start + 1) more) 0
unfolding faults_from
later start rules more e = rw (faults_at-none start rules e) refl

here-first : {K : Type 0} (start : ℕ) (rules : List (Rule K)) (more : List (List (Rule K))) (kind : K) → first_broken rules ≡ Some kind
    → slice_get (faults_from start (rules ∷ more)) 0 ≡ Some (start, kind)
unfolding faults_from
here-first start rules more kind e = faults_at-some start rules (faults_from (start + 1) more) kind e

-- a broken rule after a record that breaks none
broken-later : {K : Type 0} (start : ℕ) (rules : List (Rule K)) (more : List (List (Rule K))) (number place : ℕ) (kind : K) → first_broken rules ≡ None
    → BrokenFrom start (rules ∷ more) number place kind → BrokenFrom (start + 1) more number place kind
broken-later start rules more number place kind e (zero, numbered, here, at, b) =
    let same : here ≡ rules = cc at in
    absurd (none-in rules e place kind (rw same at b))
broken-later start rules more number place kind e (suc index, numbered, here, at, b) = (index, omega arith, here, at, b)

none-from : {K : Type 0} (start : ℕ) (all : List (List (Rule K))) → slice_get (faults_from start all) 0 ≡ None
    → (number place : ℕ) (kind : K) → BrokenFrom start all number place kind → ⊥
none-from start [] e number place kind (index, numbered, here, at, b) = cc at
none-from {K} start (rules ∷ more) e number place kind b = by (first_broken rules) refl (λ f. none-from (start + 1) more f number place kind)
  where
    by : (o : Option K) → first_broken rules ≡ o → (slice_get (faults_from (start + 1) more) 0 ≡ None → BrokenFrom (start + 1) more number place kind → ⊥) → ⊥
    by None f rest = rest (sym (later start rules more f) ∙ e) (broken-later start rules more number place kind f b)
    by (Some k) f rest =
        let found = here-first start rules more k f in
        cc (e, found)

least-from : {K : Type 0} (start : ℕ) (all : List (List (Rule K))) (fault : ℕ × K) → slice_get (faults_from start all) 0 ≡ Some fault
    → (place : ℕ) × BrokenFrom start all fault.0 place fault.1 × IsLeastFrom start all fault.0 place
unfolding faults_from
least-from start [] fault e = cc e
least-from {K} start (rules ∷ more) fault e = by (first_broken rules) refl (least-from (start + 1) more fault)
  where
    first : (kind : K) (place : ℕ) → IsLeastIn rules place → IsLeastFrom start (rules ∷ more) start place
    first kind place least other other_place k (zero, numbered, here, at, b) =
        let same : here ≡ rules = cc at in
        inr (omega arith, least other_place k (rw same at b))
    first kind place least other other_place k (suc index, numbered, here, at, b) = inl (omega arith)

    by : (o : Option K) → first_broken rules ≡ o
        → (slice_get (faults_from (start + 1) more) 0 ≡ Some fault → (place : ℕ) × BrokenFrom (start + 1) more fault.0 place fault.1 × IsLeastFrom (start + 1) more fault.0 place)
        → (place : ℕ) × BrokenFrom start (rules ∷ more) fault.0 place fault.1 × IsLeastFrom start (rules ∷ more) fault.0 place
    by None f rest =
        let (place, found, least) = rest (sym (later start rules more f) ∙ e) in
        let (index, numbered, here, at, b) = found in
        (place, (suc index, omega arith, here, at, b), (λ other other_place k broken. least other other_place k (broken-later start rules more other other_place k f broken)))
    by (Some kind) f rest =
        let found = here-first start rules more kind f in
        let same : (start, kind) ≡ fault = cc (e, found) in
        let (place, here, least) = least-in rules kind f in
        let P : ℕ × K → Type 0 = λ q. (p : ℕ) × BrokenFrom start (rules ∷ more) q.0 p q.1 × IsLeastFrom start (rules ∷ more) q.0 p in
        subst P same (place, (0, omega arith, rules, refl, here), first kind place least)

-- the same in the words of the definitions
to-broken : {K : Type 0} (all : List (List (Rule K))) (number place : ℕ) (kind : K) → BrokenFrom 1 all number place kind → BrokenAt all number place kind
to-broken all number place kind (index, numbered, rules, at, b) = record {
  index = index;
  numbered = numbered;
  rules = rules;
  of_record = at;
  rule = b.0;
  of_place = b.1;
  is_broken = b.2;
  is_kind = b.3;
}

from-broken : {K : Type 0} (all : List (List (Rule K))) (number place : ℕ) (kind : K) → BrokenAt all number place kind → BrokenFrom 1 all number place kind
from-broken all number place kind b = (b.index, b.numbered, b.rules, b.of_record, (b.rule, b.of_place, b.is_broken, b.is_kind))

-- two least faults are one
same-place : (a b c d : ℕ) → IsUpTo a b c d → IsUpTo c d a b → (a ≡ c) × (b ≡ d)
same-place a b c d (inl x) (inl y) = absurd (omega arith)
same-place a b c d (inl x) (inr y) = absurd (omega (arith, y.0))
same-place a b c d (inr x) (inl y) = absurd (omega (arith, x.0))
same-place a b c d (inr x) (inr y) = (x.0, omega (arith, x.1, y.1))

same-kind : {K : Type 0} (all : List (List (Rule K))) (n m p q : ℕ) (k l : K) → n ≡ m → p ≡ q → BrokenAt all n p k → BrokenAt all m q l → k ≡ l
same-kind {K} all n m p q k l e f a b =
    let index : a.index ≡ b.index = omega (arith, a.numbered, b.numbered) in
    let rules : a.rules ≡ b.rules = cc (index, a.of_record, b.of_record) in
    let rule : a.rule ≡ b.rule = cc (f, rules, a.of_place, b.of_place) in
    sym a.is_kind ∙ ap (λ (r : Rule K). r.kind) rule ∙ b.is_kind

same-least : {K : Type 0} (all : List (List (Rule K))) (f g : ℕ × K) → IsLeastFault all f → IsLeastFault all g → f ≡ g
same-least {K} all f g a b =
    let (numbers, places) = same-place f.0 a.place g.0 b.place (a.least g.0 b.place g.1 b.is_fault) (b.least f.0 a.place f.1 a.is_fault) in
    let kinds = same-kind all f.0 g.0 a.place b.place f.1 g.1 numbers places a.is_fault b.is_fault in
    ap₂ (λ (n : ℕ) (k : K). (n, k)) numbers kinds

pub finds-least : {K : Type 0} (all : List (List (Rule K))) → FindsLeast all (slice_get (faults_from 1 all) 0)
finds-least {K} all = by (slice_get (faults_from 1 all) 0) (none-from 1 all) (least-from 1 all)
  where
    by : (o : Option (ℕ × K)) → (o ≡ None → (n p : ℕ) (k : K) → BrokenFrom 1 all n p k → ⊥)
        → ((f : ℕ × K) → o ≡ Some f → (p : ℕ) × BrokenFrom 1 all f.0 p f.1 × IsLeastFrom 1 all f.0 p)
        → FindsLeast all o
    by None none least = record {
      some = λ f. ((λ e. cc e), (λ a. absurd (none refl f.0 a.place f.1 (from-broken all f.0 a.place f.1 a.is_fault))));
      none = ((λ e n p k b. none refl n p k (from-broken all n p k b)), (λ h. refl));
    }
    by (Some g) none least =
        let (place, found, first) = least g refl in
        let fault = to-broken all g.0 place g.1 found in
        let is_least : IsLeastFault all g = record {
          place = place;
          is_fault = fault;
          least = λ n p k b. first n p k (from-broken all n p k b);
        } in
        record {
          some = λ f. ((λ e. let same : g ≡ f = cc e in subst (IsLeastFault all) same is_least), (λ a. ap Some (same-least all g f is_least a)));
          none = ((λ e. cc e), (λ h. absurd (h g.0 place g.1 fault)));
        }

-- the first fault of a table is its least one
pub first_fault-least : {K : Type 0} (table : TableRules K) (bytes : List ℕ) → FindsLeast (asked table bytes) (first_fault table bytes)
unfolding first_fault
first_fault-least table bytes = finds-least (asked table bytes)

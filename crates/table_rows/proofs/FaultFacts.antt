-- The first broken rule, and the faults of records read one after the other.
use Rattle.std.proofs.Common.{◌≡◌, ◌+◌, ◌∙◌, ℕ, suc, Bool, true, false, List, [], ◌∷◌, ◌++◌, Option, Some, None, length, refl, sym, ap, ap₂, arith, append_assoc, filter, length-append, map, take}
use Rattle.std.specs.Prelude.{if◌then◌else◌, slice_get}
use Rattle.std.specs.List.{enumerate_from}
use Rattle.std.specs.Option.{option_or}
use Rattle.std.proofs.Math.Seq.{append_snoc, take-append_seam}
use Rattle.std.proofs.lemmas.List.{append-nil, length-map}
use Rattle.table_rows.specs.Faults.{Rule, TableRules, asked, asked_under, faults_at, faults_from, first_broken, first_fault}
use Rattle.table_rows.specs.Header.{rows_under}
use Rattle.table_rows.proofs.HeaderFacts.{under-rest}

-- a rule that is kept is passed over, and a broken one is the first
pub first_broken-kept : {K : Type 0} (rule : Rule K) (rules : List (Rule K)) → rule.broken ≡ false → first_broken (rule ∷ rules) ≡ first_broken rules
unfolding first_broken
first_broken-kept rule rules e = rw e refl

pub first_broken-here : {K : Type 0} (rule : Rule K) (rules : List (Rule K)) → rule.broken ≡ true → first_broken (rule ∷ rules) ≡ Some rule.kind
unfolding first_broken
first_broken-here rule rules e = rw e refl

-- the first of two lists of rules
pub first_broken-append : {K : Type 0} (front back : List (Rule K)) → first_broken (front ++ back) ≡ option_or (first_broken front) (first_broken back)
unfolding first_broken
first_broken-append [] back = refl
first_broken-append (rule ∷ front) back = by rule.broken (first_broken-append front back)
  where
    by : (t : Bool) → first_broken (front ++ back) ≡ option_or (first_broken front) (first_broken back)
        → (if t then Some rule.kind else first_broken (front ++ back)) ≡ option_or (if t then Some rule.kind else first_broken front) (first_broken back)
    by true e = refl
    by false e = e

pub first_broken-left : {K : Type 0} (front back : List (Rule K)) (kind : K) → first_broken front ≡ Some kind → first_broken (front ++ back) ≡ Some kind
first_broken-left front back kind e = first_broken-append front back ∙ rw e refl

pub first_broken-right : {K : Type 0} (front back : List (Rule K)) → first_broken front ≡ None → first_broken (front ++ back) ≡ first_broken back
first_broken-right front back e = first_broken-append front back ∙ rw e refl

-- of two lists of rules neither breaks one
or-none : {K : Type 0} (a b : Option K) → option_or a b ≡ None → (a ≡ None) × (b ≡ None)
or-none None b e = (refl, e)
or-none (Some x) b e = absurd (cc e)

pub both-kept : {K : Type 0} (front back : List (Rule K)) → first_broken (front ++ back) ≡ None → (first_broken front ≡ None) × (first_broken back ≡ None)
both-kept front back e = or-none (first_broken front) (first_broken back) (sym (first_broken-append front back) ∙ e)

-- neither the first rule nor one of the others
pub each-kept : {K : Type 0} (rule : Rule K) (rules : List (Rule K)) → first_broken (rule ∷ rules) ≡ None → (rule.broken ≡ false) × (first_broken rules ≡ None)
unfolding first_broken
each-kept rule rules e = by rule.broken e
  where
    by : (t : Bool) → (if t then Some rule.kind else first_broken rules) ≡ None → (t ≡ false) × (first_broken rules ≡ None)
    by true f = absurd (cc f)
    by false f = (refl, f)

-- a record that breaks no rule has no fault
pub faults_at-none : {K : Type 0} (number : ℕ) (rules : List (Rule K)) → first_broken rules ≡ None → faults_at number rules ≡ []
unfolding first_broken
faults_at-none number [] e = refl
faults_at-none {K} number (rule ∷ rules) e = by rule.broken e (faults_at-none number rules)
  where
    by : (t : Bool) → (if t then Some rule.kind else first_broken rules) ≡ None → (first_broken rules ≡ None → faults_at number rules ≡ [])
        → map {B = ℕ × K} (λ (r : Rule K). (number, r.kind)) (if t then rule ∷ filter (λ (r : Rule K). r.broken) rules else filter (λ (r : Rule K). r.broken) rules) ≡ []
    by true f more = cc f
    by false f more = more f

-- the first broken rule is the first fault of its record
pub faults_at-some : {K : Type 0} (number : ℕ) (rules : List (Rule K)) (rest : List (ℕ × K)) (kind : K) → first_broken rules ≡ Some kind
    → slice_get (faults_at number rules ++ rest) 0 ≡ Some (number, kind)
unfolding first_broken
faults_at-some number [] rest kind e = cc e
faults_at-some {K} number (rule ∷ rules) rest kind e = by rule.broken e (faults_at-some number rules rest kind)
  where
    by : (t : Bool) → (if t then Some rule.kind else first_broken rules) ≡ Some kind
        → (first_broken rules ≡ Some kind → slice_get (faults_at number rules ++ rest) 0 ≡ Some (number, kind))
        → slice_get (map {B = ℕ × K} (λ (r : Rule K). (number, r.kind)) (if t then rule ∷ filter (λ (r : Rule K). r.broken) rules else filter (λ (r : Rule K). r.broken) rules) ++ rest) 0 ≡ Some (number, kind)
    by true f more =
        let same : rule.kind ≡ kind = cc f in
        ap (λ (k : _). Some (number, k)) same
    by false f more = more f

-- the faults of some records, and then those of the others
pub faults_from-append : {K : Type 0} (number : ℕ) (front back : List (List (Rule K)))
    → faults_from number (front ++ back) ≡ faults_from number front ++ faults_from (length front + number) back
unfolding faults_from
faults_from-append number [] back = ap (λ (n : ℕ). faults_from n back) (omega arith)
faults_from-append number (rules ∷ front) back =
    let next : length front + (number + 1) ≡ suc (length front) + number = omega arith in
    ap (λ (faults : List _). faults_at number rules ++ faults) (faults_from-append (number + 1) front back)
    ∙ sym (append_assoc (faults_at number rules) (faults_from (number + 1) front) (faults_from (length front + (number + 1)) back))
    ∙ ap (λ (n : ℕ). (faults_at number rules ++ faults_from (number + 1) front) ++ faults_from n back) next

-- the rules of records one after the other: the first of them has this number, and the earlier ones stand before it
pub asked_from : {K : Type 0} → TableRules K → ℕ → List (List (List ℕ)) → List (List (List ℕ)) → List (List (Rule K))
asked_from table number earlier [] = []
asked_from table number earlier (row ∷ rows) = table.rules number row earlier ∷ asked_from table (number + 1) (earlier ++ row ∷ []) rows

-- these are what the records under a header row are asked
asked-placed : {K : Type 0} (table : TableRules K) (all earlier rows : List (List (List ℕ))) (count : ℕ) → all ≡ earlier ++ rows → count ≡ length earlier
    → map (λ (placed : ℕ × List (List ℕ)). table.rules (placed.0 + 2) placed.1 (take placed.0 all)) (enumerate_from count rows) ≡ asked_from table (count + 2) earlier rows
unfolding asked_from
asked-placed table all earlier [] count e n = refl
asked-placed table all earlier (row ∷ rows) count e n =
    let before : take count all ≡ earlier = rw (n, e) (take-append_seam earlier (row ∷ rows)) in
    let more : count + 1 ≡ length (earlier ++ row ∷ []) = omega (arith, n, length-append earlier (row ∷ [])) in
    let next : count + 1 + 2 ≡ count + 2 + 1 = omega arith in
    ap₂ (λ (x : _) (xs : List _). x ∷ xs) (ap (table.rules (count + 2) row) before)
    (asked-placed table all (earlier ++ row ∷ []) rows (count + 1) (e ∙ sym (append_snoc earlier row rows)) more
    ∙ ap (λ (k : ℕ). asked_from table k (earlier ++ row ∷ []) rows) next)

asked-under-is : {K : Type 0} (table : TableRules K) (rows : List (List (List ℕ))) → asked_under table rows ≡ asked_from table 2 [] rows
unfolding asked_under
asked-under-is table rows = asked-placed table rows [] rows 0 refl refl

-- the rules of some records, and then those of the others
asked_from-append : {K : Type 0} (table : TableRules K) (number : ℕ) (earlier front back : List (List (List ℕ)))
    → asked_from table number earlier (front ++ back) ≡ asked_from table number earlier front ++ asked_from table (length front + number) (earlier ++ front) back
unfolding asked_from
asked_from-append table number earlier [] back =
    let next : number ≡ 0 + number = omega arith in
    rw (append-nil earlier, ← next) refl
asked_from-append table number earlier (row ∷ front) back =
    let next : length front + (number + 1) ≡ suc (length front) + number = omega arith in
    ap (λ (more : List _). table.rules number row earlier ∷ more) (asked_from-append table (number + 1) (earlier ++ row ∷ []) front back
    ∙ rw (next, append_snoc earlier row front) refl)

length-asked_from : {K : Type 0} (table : TableRules K) (number : ℕ) (earlier rows : List (List (List ℕ))) → length (asked_from table number earlier rows) ≡ length rows
unfolding asked_from
length-asked_from table number earlier [] = refl
length-asked_from table number earlier (row ∷ rows) = ap suc (length-asked_from table (number + 1) (earlier ++ row ∷ []) rows)

-- the faults of the records under a header row: those of the first ones, and then those of the others
pub faults-split : {K : Type 0} (table : TableRules K) (seen left : List (List (List ℕ)))
    → faults_from 2 (asked_from table 2 [] (seen ++ left)) ≡ faults_from 2 (asked_from table 2 [] seen) ++ faults_from (length seen + 2) (asked_from table (length seen + 2) seen left)
faults-split table seen left =
    ap (faults_from 2) (asked_from-append table 2 [] seen left)
    ∙ faults_from-append 2 (asked_from table 2 [] seen) (asked_from table (length seen + 2) seen left)
    ∙ rw (length-asked_from table 2 [] seen) refl

-- no fault among the records seen so far, of those under a header row, and these are left
pub record CleanSoFar {K : Type 0} (table : TableRules K) (rows seen left : List (List (List ℕ))) : Type 0 where
  pub whole : rows ≡ seen ++ left
  pub clean : faults_from 2 (asked_from table 2 [] seen) ≡ []

-- at the start no record has been seen
pub clean-start : {K : Type 0} (table : TableRules K) (rows left : List (List (List ℕ))) → rows ≡ left → CleanSoFar table rows [] left
unfolding asked_from faults_from
clean-start table rows left e = record { whole = e; clean = refl }

-- one more record that breaks no rule
pub clean-next : {K : Type 0} (table : TableRules K) (rows seen left rest : List (List (List ℕ))) (row : List (List ℕ)) (number : ℕ) → CleanSoFar table rows seen left
    → left ≡ row ∷ rest → number ≡ length seen + 2 → first_broken (table.rules number row seen) ≡ None → CleanSoFar table rows (seen ++ row ∷ []) rest
unfolding asked_from faults_from
clean-next table rows seen left rest row number so_far e n kept = record {
  whole = so_far.whole ∙ rw e (sym (append_snoc seen row rest));
  clean =
      faults-split table seen (row ∷ []) ∙ rw (so_far.clean, ← n) (append-nil (faults_at number (table.rules number row seen))
      ∙ faults_at-none number (table.rules number row seen) kept);
}

-- the first fault where record 1 isn't the header
pub first_fault-header : {K : Type 0} (table : TableRules K) (bytes : List ℕ) → rows_under table.header bytes ≡ None → first_fault table bytes ≡ Some (1, table.header_kind)
unfolding first_fault asked faults_from
first_fault-header table bytes e = rw e refl

-- the first fault of the records under the header row
pub first_fault-under : {K : Type 0} (table : TableRules K) (bytes : List ℕ) (rows : List (List (List ℕ))) → rows_under table.header bytes ≡ Some rows
    → first_fault table bytes ≡ slice_get (faults_from 2 (asked_from table 2 [] rows)) 0
unfolding first_fault asked faults_from
first_fault-under table bytes rows e = rw (e, under-rest table.header bytes rows e, asked-under-is table rows) refl

-- the record that is next breaks a rule
pub first_fault-found : {K : Type 0} (table : TableRules K) (bytes : List ℕ) (rows seen left rest : List (List (List ℕ))) (row : List (List ℕ)) (number : ℕ) (kind : K)
    → rows_under table.header bytes ≡ Some rows → CleanSoFar table rows seen left → left ≡ row ∷ rest → number ≡ length seen + 2
    → first_broken (table.rules number row seen) ≡ Some kind → first_fault table bytes ≡ Some (number, kind)
unfolding asked_from faults_from
first_fault-found table bytes rows seen left rest row number kind under so_far e n broken =
    first_fault-under table bytes rows under
    ∙ rw (so_far.whole, e, faults-split table seen (row ∷ rest), so_far.clean, ← n) (faults_at-some number (table.rules number row seen) _ kind broken)

-- no record is left
pub first_fault-none : {K : Type 0} (table : TableRules K) (bytes : List ℕ) (rows seen left : List (List (List ℕ)))
    → rows_under table.header bytes ≡ Some rows → CleanSoFar table rows seen left → left ≡ [] → (first_fault table bytes ≡ None) × (rows ≡ seen)
first_fault-none table bytes rows seen left under so_far e =
    let all : rows ≡ seen = so_far.whole ∙ rw e (append-nil seen) in
    (first_fault-under table bytes rows under ∙ rw (all, so_far.clean) refl, all)

-- lists that two maps make the same are as long
pub same-count : {A B C : Type 0} (f : A → C) (g : B → C) (xs : List A) (ys : List B) → map f xs ≡ map g ys → length xs ≡ length ys
same-count f g xs ys e = sym (length-map xs f) ∙ ap length e ∙ length-map ys g

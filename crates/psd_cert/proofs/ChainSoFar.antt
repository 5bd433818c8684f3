-- The lower chain as a loop makes it: what each step adds to the remainders so far.
use Rattle.std.proofs.Common.{◌≡◌, ℕ, zero, suc, ◌+◌, ◌-◌, ◌^◌, ◌<◌, ◌≤◌, Bool, true, false, ◌||◌, List, [], ◌∷◌, ◌++◌, length, length-append, append_assoc, get_or, refl, sym, ◌∙◌, ap, subst, arith, ℤ, pos, ◌≤ℤ◌}
use Rattle.std.specs.Prelude.{All}
use Rattle.whole_algebra.specs.Matrices.{at, diagonal, lower_over}
use Rattle.whole_algebra.specs.Chains.{step_of, is_stop, next, chain_steps, stops, lower_chain}
use Rattle.whole_algebra.specs.Certificates.{CertificateHolds, lower_remainders}
use Rattle.whole_algebra.proofs.Refutation.{false_is_not_true}
use Rattle.whole_algebra.proofs.LowerCertificate.{triangle-next_lower, lower_certificate}
use Rattle.whole_algebra.proofs.Sizes.{or_parts}
use Rattle.lent_parts.specs.Triangle.{IsTri}
use Rattle.lent_parts.proofs.Triangles.{length-IsTri}
use Rattle.psd_cert.specs.Sizes.{Fits}
use Rattle.psd_cert.specs.Certificate.{IsCertificate, IsKeptCertificate}
use Rattle.psd_cert.specs.Lower.{StopsHere, Leaves, last_matrix}
use Rattle.psd_cert.proofs.FormBounds.{chain_fits}

-- the remainders so far begin those of the lower chain of a first matrix, which goes on from the last one
pub record IsBegun (n : ℕ) (first : List (List ℤ)) (rs : List (List (List ℤ))) : Type 0 where
  pub shape : IsTri (n - length rs) (last_matrix first rs)
  pub fits : Fits (last_matrix first rs)
  pub all_fit : All Fits rs
  pub go_on : rs ++ lower_remainders (n - length rs) (last_matrix first rs) ≡ lower_remainders n first
  pub stops_as : stops (chain_steps lower_over (n - length rs) (last_matrix first rs)) ≡ stops (chain_steps lower_over n first)

no_stop_here : (t u : Bool) → t ≡ false → t || u ≡ u
no_stop_here true u e = absurd (false_is_not_true (sym e))
no_stop_here false u e = refl

a_stop_here : (t u : Bool) → t ≡ true → t || u ≡ true
a_stop_here true u e = refl
a_stop_here false u e = absurd (false_is_not_true e)

record Stepped (k : ℕ) (m r : List (List ℤ)) : Type 0 where
  pub shape : IsTri k r
  pub remainders : lower_remainders (suc k) m ≡ r ∷ lower_remainders k r
  pub stops_as : stops (chain_steps lower_over (suc k) m) ≡ stops (chain_steps lower_over k r)

stepped : (k : ℕ) (m r : List (List ℤ)) → IsTri (suc k) m → Leaves m r → Stepped k m r
stepped k [] r t l = absurd t
stepped k (row ∷ rest) r t l =
    let e = l.1 in
    record {
      shape = subst (IsTri k) (sym e) (triangle-next_lower k row rest t.0 t.1 (no_stop_here (is_stop (step_of row)) false l.0));
      remainders = ap (λ q. q ∷ lower_remainders k q) (sym e);
      stops_as = no_stop_here (is_stop (step_of row)) (stops (chain_steps lower_over k (next lower_over row rest))) l.0 ∙ ap (λ q. stops (chain_steps lower_over k q)) (sym e);
    }

stopped : (k : ℕ) (m : List (List ℤ)) → StopsHere m → stops (chain_steps lower_over (suc k) m) ≡ true
stopped k [] h = absurd h
stopped k (row ∷ rest) h = a_stop_here (is_stop (step_of row)) (stops (chain_steps lower_over k (next lower_over row rest))) h

last_appended : (first : List (List ℤ)) (rs : List (List (List ℤ))) (r : List (List ℤ)) → last_matrix first (rs ++ r ∷ []) ≡ r
last_appended first [] r = refl
last_appended first (q ∷ rs) r = last_appended q rs r

all_appended : (rs : List (List (List ℤ))) (r : List (List ℤ)) → All Fits rs → Fits r → All Fits (rs ++ r ∷ [])
all_appended [] r h f zero d lt = f
all_appended [] r h f (suc k) d lt = absurd (omega arith)
all_appended (q ∷ rs) r h f zero d lt = h 0 d (omega arith)
all_appended (q ∷ rs) r h f (suc k) d lt = all_appended rs r (λ j e lj. h (suc j) e (omega arith)) f k d (omega arith)

-- ---- from the first matrix to the end
pub begun : (n : ℕ) (first : List (List ℤ)) → IsTri n first → Fits first → IsBegun n first []
begun n first t f =
    let e : n ≡ n - 0 = omega arith in
    record {
      shape = subst (λ j. IsTri j first) e t;
      fits = f;
      all_fit = λ k d lt. absurd (omega arith);
      go_on = ap (λ j. lower_remainders j first) (sym e);
      stops_as = ap (λ j. stops (chain_steps lower_over j first)) (sym e);
    }

pub begun_more : (n : ℕ) (first : List (List ℤ)) (rs : List (List (List ℤ))) (r : List (List ℤ))
    → IsBegun n first rs → length rs < n → Leaves (last_matrix first rs) r → Fits r → IsBegun n first (rs ++ r ∷ [])
begun_more n first rs r b lt l f =
    let more : length (rs ++ r ∷ []) ≡ length rs + 1 = length-append rs (r ∷ []) in
    let k : n - length rs ≡ suc (n - length (rs ++ r ∷ [])) = omega arith in
    let step = stepped (n - length (rs ++ r ∷ [])) (last_matrix first rs) r (subst (λ j. IsTri j (last_matrix first rs)) k b.shape) l in
    let last = last_appended first rs r in
    record {
      shape = subst (IsTri (n - length (rs ++ r ∷ []))) (sym last) step.shape;
      fits = subst Fits (sym last) f;
      all_fit = all_appended rs r b.all_fit f;
      go_on = ap (λ q. (rs ++ r ∷ []) ++ lower_remainders (n - length (rs ++ r ∷ [])) q) last
          ∙ append_assoc rs (r ∷ []) (lower_remainders (n - length (rs ++ r ∷ [])) r)
          ∙ ap (λ q. rs ++ q) (sym step.remainders)
          ∙ ap (λ j. rs ++ lower_remainders j (last_matrix first rs)) (sym k)
          ∙ b.go_on;
      stops_as = ap (λ q. stops (chain_steps lower_over (n - length (rs ++ r ∷ [])) q)) last
          ∙ sym step.stops_as
          ∙ ap (λ j. stops (chain_steps lower_over j (last_matrix first rs))) (sym k)
          ∙ b.stops_as;
    }

pub begun_stops : (n : ℕ) (first : List (List ℤ)) (rs : List (List (List ℤ)))
    → IsBegun n first rs → length rs < n → StopsHere (last_matrix first rs) → stops (chain_steps lower_over n first) ≡ true
begun_stops n first rs b lt h =
    let k : suc (n - length rs - 1) ≡ n - length rs = omega arith in
    sym b.stops_as ∙ ap (λ j. stops (chain_steps lower_over j (last_matrix first rs))) (sym k) ∙ stopped (n - length rs - 1) (last_matrix first rs) h

-- a remainder that doesn't fit shows that the chain stops later
pub begun_unfit : (n : ℕ) (first : List (List ℤ)) (rs : List (List (List ℤ))) (r : List (List ℤ))
    → IsBegun n first rs → length rs < n → Leaves (last_matrix first rs) r → ((i : ℕ) → at (diagonal r) i ≤ℤ pos (2 ^ 61)) → (Fits r → ⊥)
    → stops (chain_steps lower_over n first) ≡ true
begun_unfit n first rs r b lt l high none =
    let k : suc (n - length rs - 1) ≡ n - length rs = omega arith in
    let step = stepped (n - length rs - 1) (last_matrix first rs) r (subst (λ j. IsTri j (last_matrix first rs)) (sym k) b.shape) l in
    sym b.stops_as
    ∙ ap (λ j. stops (chain_steps lower_over j (last_matrix first rs))) (sym k)
    ∙ step.stops_as
    ∙ stops_then (stops (chain_steps lower_over (n - length rs - 1) r)) (λ e. none (chain_fits (n - length rs - 1) r step.shape e high))
  where
    stops_then : (t : Bool) → (t ≡ false → ⊥) → t ≡ true
    stops_then true h = refl
    stops_then false h = absurd (h refl)

length-lower_remainders : (n : ℕ) (m : List (List ℤ)) → IsTri n m → stops (chain_steps lower_over n m) ≡ false → IsCertificate n (lower_remainders n m)
length-lower_remainders zero [] t e = tt
length-lower_remainders zero (row ∷ rest) t e = absurd t
length-lower_remainders (suc n) [] t e = absurd t
length-lower_remainders (suc n) (row ∷ rest) t e =
    let p = or_parts (is_stop (step_of row)) (stops (chain_steps lower_over n (next lower_over row rest))) e in
    let shape = triangle-next_lower n row rest t.0 t.1 (no_stop_here (is_stop (step_of row)) false p.0) in
    (shape, length-lower_remainders n (next lower_over row rest) shape p.1)

-- what a whole chain gives
pub record Made (first : List (List ℤ)) (rs : List (List (List ℤ))) : Type 0 where
  pub kept : IsKeptCertificate rs
  pub no_stop : stops (lower_chain first) ≡ false
  pub remainders : rs ≡ lower_remainders (length first) first
  pub size : length rs ≡ length first
  pub holds : CertificateHolds rs first

append_nil_lem : (rs : List (List (List ℤ))) → rs ++ [] ≡ rs
append_nil_lem [] = refl
append_nil_lem (r ∷ rs) = ap (λ t. r ∷ t) (append_nil_lem rs)

pub begun_whole : (first : List (List ℤ)) (rs : List (List (List ℤ))) → IsTri (length first) first
    → IsBegun (length first) first rs → length rs ≡ length first → Made first rs
begun_whole first rs t b e =
    let k : length first - length rs ≡ 0 = omega arith in
    let same : rs ≡ lower_remainders (length first) first = sym (append_nil_lem rs) ∙ ap (λ j. rs ++ lower_remainders j (last_matrix first rs)) (sym k) ∙ b.go_on in
    let go : stops (lower_chain first) ≡ false = sym b.stops_as ∙ ap (λ j. stops (chain_steps lower_over j (last_matrix first rs))) k in
    record {
      kept = (
        subst (λ q. IsCertificate (length q) q) (sym same)
            (subst (λ j. IsCertificate j (lower_remainders (length first) first)) (sym e ∙ ap length same) (length-lower_remainders (length first) first t go)),
        b.all_fit,
      );
      no_stop = go;
      remainders = same;
      size = e;
      holds = subst (λ q. CertificateHolds q first) (sym same) (lower_certificate (length first) first t go);
    }

-- the last remainder, as the code finds it
pub last_is : (first : List (List ℤ)) (rs : List (List (List ℤ))) (x : List (List ℤ)) → 1 ≤ length rs → x ≡ get_or rs (length rs - 1) x → x ≡ last_matrix first rs
last_is first [] x lt e = absurd (omega arith)
last_is first (r ∷ []) x lt e = e
last_is first (r ∷ (q ∷ rs)) x lt e =
    last_is r (q ∷ rs) x (omega arith) (e ∙ ap (λ j. get_or (r ∷ (q ∷ rs)) j x) (one_less (length rs)))
  where
    one_less : (n : ℕ) → suc (suc n) - 1 ≡ suc (suc n - 1)
    one_less n = omega arith

pub begun_shape : (n : ℕ) (first : List (List ℤ)) (rs : List (List (List ℤ))) (m : List (List ℤ)) → IsBegun n first rs → m ≡ last_matrix first rs
    → IsTri (length m) m × (length m ≡ n - length rs) × Fits m
begun_shape n first rs m b e =
    let t : IsTri (n - length rs) m = subst (IsTri (n - length rs)) (sym e) b.shape in
    let l = length-IsTri (n - length rs) m t in
    (subst (λ j. IsTri j m) (sym l) t, l, subst Fits (sym e) b.fits)

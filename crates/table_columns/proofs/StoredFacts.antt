-- Records stored under their names, for any kind of record.
use Rattle.std.proofs.Common.{◌≡◌, ◌≢◌, ◌∙◌, ◌<◌, ℕ, Bool, true, false, List, [], ◌∷◌, ◌++◌, Option, Some, None, length, map, refl, sym, ap, ap₂, arith, Vec, Global, slice_get, cond, length-append, position, subst}
use Rattle.std.specs.Prelude.{◌||◌, ◌↔◌, All, IsNone}
use Rattle.std.specs.List.{IsDistinct, list_any}
use Rattle.std.specs.Map.{keys_of, lookup, values_of}
use Rattle.std.specs.Str.{bytes_eq}
use Rattle.std.proofs.lemmas.Cmp.{nat_list_eq_equiv}
use Rattle.std.proofs.lemmas.List.{length-map, map-append}
use Rattle.std.proofs.lemmas.List.Elements.{All-get_or}
use Rattle.std.proofs.lemmas.Map.Keys.{IsDistinct-push}
use Rattle.std.proofs.lemmas.Option.{slice_get_within, get_or_from_slice_get}
use Rattle.table_columns.specs.Names.{is_among, place_of}
use Rattle.table_columns.specs.Stored.{AreStored}
use Rattle.table_columns.proofs.PlaceFacts.{distinct-keys, place-at, place-keys, place-none, place-of-at}

-- what holds of each item holds of the one at a place
pub all-at : {A : Type 0} (P : A → Type 0) (xs : List A) (k : ℕ) (x : A) → All P xs → slice_get xs k ≡ Some x → P x
all-at P xs k x all at =
    let holds = All-get_or P xs k x (slice_get_within xs k x at) all in
    rw (get_or_from_slice_get xs k x x at) at holds

-- names that differ, and one more that is none of them
pub apart-push : {R : Type 0} (name : R → List ℕ) (before : List R) (added : R) → IsDistinct bytes_eq (map name before) → is_among (name added) (map name before) ≡ false
    → IsDistinct bytes_eq (map name (before ++ added ∷ []))
unfolding is_among
apart-push name before added apart other =
    subst (IsDistinct bytes_eq) (sym (map-append name before (added ∷ []))) (IsDistinct-push nat_list_eq_equiv (map name before) (name added) apart other)

-- a name that no stored record has is no key
not-stored : {R : Type 0} (text : List ℕ) (entries : List (Vec ℕ Global × R)) → list_any (bytes_eq text) (map (λ (key : Vec ℕ Global). key.items) (keys_of entries)) ≡ false
    → lookup (λ (key : Vec ℕ Global). bytes_eq text key.items) entries ≡ None
not-stored text [] e = refl
not-stored {R} text (entry ∷ entries) e = by (bytes_eq text entry.0.items) e (not-stored text entries)
  where
    others : Bool
    others = list_any (bytes_eq text) (map (λ (key : Vec ℕ Global). key.items) (keys_of entries))

    found : Option R
    found = lookup (λ (key : Vec ℕ Global). bytes_eq text key.items) entries

    by : (t : Bool) → (t || others) ≡ false → (others ≡ false → found ≡ None) → cond t (Some entry.1) found ≡ None
    by true f more = cc f
    by false f more = more f

module _ {R : Type 0} (name : R → List ℕ) (most : ℕ) (entries : List (Vec ℕ Global × R)) where
  other-key : (text : List ℕ) → AreStored name most entries → is_among text (map name (values_of entries)) ≡ false
      → lookup (λ (key : Vec ℕ Global). bytes_eq text key.items) entries ≡ None
  unfolding is_among
  other-key text stored other = not-stored text entries (ap (list_any (bytes_eq text)) stored.named ∙ other)

  -- one more record
  stored-push : (more : List (Vec ℕ Global × R)) (key : Vec ℕ Global) (added : R) → AreStored name most entries → length entries < most
      → key.items ≡ name added → more ≡ entries ++ (key, added) ∷ [] → AreStored name most more
  stored-push more key added stored few same e = rw e record {
    named =
        ap (map (λ (k : Vec ℕ Global). k.items)) (map-append (λ (x : Vec ℕ Global × R). x.0) entries ((key, added) ∷ []))
        ∙ map-append (λ (k : Vec ℕ Global). k.items) (keys_of entries) (key ∷ [])
        ∙ ap₂ (λ (xs : List (List ℕ)) (x : List ℕ). xs ++ x ∷ []) stored.named same
        ∙ sym (map-append name (values_of entries) (added ∷ []))
        ∙ ap (map name) (sym (map-append (λ (x : Vec ℕ Global × R). x.1) entries ((key, added) ∷ [])));
    few = omega (arith, length-append entries ((key, added) ∷ []));
  }

  -- as many records are stored as are seen
  few-stored : (records : List R) → values_of entries ≡ records → length records < most → length entries < most
  few-stored records e few = omega (arith, few, ap length e, length-map entries (λ (x : Vec ℕ Global × R). x.1))

  values-push : (more : List (Vec ℕ Global × R)) (key : Vec ℕ Global) (added : R) → more ≡ entries ++ (key, added) ∷ []
      → values_of more ≡ values_of entries ++ added ∷ []
  values-push more key added e = ap values_of e ∙ map-append (λ (x : Vec ℕ Global × R). x.1) entries ((key, added) ∷ [])

  -- one more record of another name
  pub stored-more : (more : List (Vec ℕ Global × R)) (records : List R) (key : Vec ℕ Global) (added : R) → AreStored name most entries → values_of entries ≡ records
      → length records < most → is_among (name added) (map name records) ≡ false → key.items ≡ name added
      → (lookup (λ (k : Vec ℕ Global). bytes_eq key.items k.items) entries ≡ None → more ≡ entries ++ (key, added) ∷ [])
      → AreStored name most more × (values_of more ≡ records ++ added ∷ [])
  stored-more more records key added stored view few other same put =
      let none : lookup (λ (k : Vec ℕ Global). bytes_eq key.items k.items) entries ≡ None = rw same (other-key (name added) stored (rw view other)) in
      let e = put none in (
        stored-push more key added stored (few-stored records view few) same e,
        values-push more key added e ∙ ap (λ (xs : List R). xs ++ added ∷ []) view,
      )

  -- a name is looked up among the keys as among the names of the records
  place-stored : (text : List ℕ) → AreStored name most entries
      → position (λ (key : Vec ℕ Global). bytes_eq text key.items) (keys_of entries) ≡ place_of text (map name (values_of entries))
  place-stored text stored = place-keys text (keys_of entries) ∙ ap (place_of text) stored.named

  distinct-stored : AreStored name most entries → IsDistinct (λ (x y : Vec ℕ Global). bytes_eq x.items y.items) (keys_of entries)
      → IsDistinct bytes_eq (map name (values_of entries))
  distinct-stored stored apart = subst (IsDistinct bytes_eq) stored.named (distinct-keys (keys_of entries) apart)

-- what a search by a name answers
pub record FindsName (text : List ℕ) (names : List (List ℕ)) (result : Option ℕ) : Type 0 where
  pub place : result ≡ place_of text names
  pub found : (k : ℕ) → (result ≡ Some k) ↔ (slice_get names k ≡ Some text)
  pub none : IsNone result ↔ ((k : ℕ) → slice_get names k ≢ Some text)

finds-name : (text : List ℕ) (names : List (List ℕ)) (result : Option ℕ) → IsDistinct bytes_eq names → result ≡ place_of text names → FindsName text names result
finds-name text names None apart e = record {
  place = e;
  found = λ k. (λ f. cc f, λ at. absurd (place-none text names (sym e) k at));
  none = (λ f. place-none text names (sym e), λ f. refl);
}
finds-name text names (Some k) apart e = record {
  place = e;
  found = λ j. (λ f. place-at text names j (sym e ∙ f), λ at. e ∙ place-of-at names apart j text at);
  none = (λ f. cc f, λ f. absurd (f k (place-at text names k (sym e))));
}

-- the same where the keys are searched
pub finds-stored : {R : Type 0} (name : R → List ℕ) (most : ℕ) (entries : List (Vec ℕ Global × R)) (records : List R) (text : List ℕ) (result : Option ℕ)
    → AreStored name most entries → IsDistinct (λ (x y : Vec ℕ Global). bytes_eq x.items y.items) (keys_of entries) → values_of entries ≡ records
    → result ≡ position (λ (key : Vec ℕ Global). bytes_eq text key.items) (keys_of entries) → FindsName text (map name records) result
finds-stored name most entries records text result stored apart view e =
    rw (← view) (finds-name text (map name (values_of entries)) result (distinct-stored name most entries stored apart) (e ∙ place-stored name most entries text stored))

-- The keys of a pool's cuts.
use Rattle.std.proofs.Common.{◌≡◌, ℕ, List, [], ◌∷◌, ◌++◌, map, take, sym, ◌∙◌, ap, ap₂}
use Rattle.std.proofs.Math.Seq.{take-length}
use Rattle.std.proofs.lemmas.List.{length-map, map-append}
use Rattle.cut_pool.specs.Cut.{CutOf}
use Rattle.cut_pool.specs.Pool.{KeepsKeys, cut_key}

keeps_all : (cuts : List CutOf) → KeepsKeys cuts (map cut_key cuts)
keeps_all cuts = ap (λ (n : ℕ). take n (map cut_key cuts)) (sym (length-map cuts cut_key)) ∙ take-length (map cut_key cuts)

-- a cut and its key were put at the end
pub keys-more : (cuts now : List CutOf) (keys keys_now : List ℕ) (cut : CutOf) (key : ℕ) → keys ≡ map cut_key cuts → key ≡ cut_key cut → now ≡ cuts ++ cut ∷ [] →
    keys_now ≡ keys ++ key ∷ [] → KeepsKeys now keys_now
keys-more cuts now keys keys_now cut key kept is added put =
    let whole : keys_now ≡ map cut_key now =
    put ∙ ap₂ (λ (ks : List ℕ) (k : ℕ). ks ++ k ∷ []) kept is ∙ sym (map-append cut_key cuts (cut ∷ [])) ∙ ap (map cut_key) (sym added) in
    rw whole (keeps_all now)

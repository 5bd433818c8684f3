use Rattle.std.proofs.Common.{◌≡◌, ◌<◌, ◌++◌, ℤ, List, [], ◌∷◌, if◌then◌else◌, length, map, arith, ap, sym, ◌∙◌}
use Rattle.std.specs.Prelude.{Result, Ok, Err, IsOk, is_ok, vec_len, vec_capacity}
use Rattle.std.proofs.lemmas.Bool.{false≢true}
use Rattle.std.proofs.lemmas.List.{length-map}
use Rattle.whole_algebra.specs.Matrices.{at}
use Rattle.bound_log.specs.CutText.{CutTextOf}
use Rattle.log_check.specs.declared.named_cuts.StoredCut.{StoredCut}
use Rattle.log_check.specs.Naming.{text_of_stored}
use Rattle.log_check.proofs.NamingLemmas.{added_spells, stored_spells}
use Rattle.log_check.proofs.named_cuts.NamedCuts.add.Goals as goal

-- what is pushed where there is room stands at the end
pushed : {T E : Type 0} (answer : Result T E) (old now : List StoredCut) (one : StoredCut) → now ≡ (if is_ok answer then old ++ one ∷ [] else old) → IsOk answer → now ≡ old ++ one ∷ []
pushed (Ok done) old now one is ok = is
pushed (Err why) old now one is ok = absurd (false≢true ok)

pub returns : goal.returns
returns c = λ cut same is displaced.
    let cuts = c.self.inside.cuts in
    let items : List StoredCut = cuts.items in
    let one : StoredCut = record { limit = c.args.limit; moves = c.padded-moves.result } in
    let view : map text_of_stored items ≡ c.args.self.now = c.self.view_is in
    let long : length items ≡ length c.args.self.now = sym (length-map items text_of_stored) ∙ ap length view in
    let room : vec_len cuts < vec_capacity cuts = omega (arith, c.requires.few, long, cuts.ok.0, c.self.invariant.room) in
    let put : c.push-room.new.self.items ≡ items ++ one ∷ [] = pushed c.push-room.result items c.push-room.new.self.items one c.push-room.ensures.items (c.push-room.ensures.succeeds room) in
    ap (map text_of_stored) put
    ∙ added_spells items one cut
    (stored_spells (length c.args.x.now) cut c.args.limit c.args.x.now c.padded-moves.result c.requires.long c.padded-moves.ensures.long
    (λ i. c.padded-moves.ensures.same i ∙ ap (λ (l : List ℤ). at l i) c.entries.ensures.value) same is displaced)
    ∙ ap (λ (l : List CutTextOf). l ++ cut ∷ []) view

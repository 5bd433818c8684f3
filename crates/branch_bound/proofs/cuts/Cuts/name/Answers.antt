use Rattle.std.proofs.Common.{◌≡◌, arith, ap, sym, ◌∙◌, length, slice_get, ◌∷◌, [], ◌++◌}
use Rattle.branch_bound.specs.Cuts.{SearchCuts}
use Rattle.branch_bound.proofs.NamingLemmas.{naming_few}
use Rattle.branch_bound.proofs.PutLemmas.{Grew, cuts_grew, name_gives, name_puts}
use Rattle.branch_bound.proofs.cuts.Cuts.name.Goals as goal

pub add-requires-clause-few : goal.add-requires-clause-few
add-requires-clause-few c =
    let names : length c.self.inside.names ≡ length c.args.self.now.names = ap (λ (s : SearchCuts). length s.names) c.self.view_is in
    let few = c.requires.cuts.pool.few in
    omega (arith, names, naming_few c.args.self.now.pool c.args.self.now.names c.requires.cuts.naming, few)

pub returns-clause-puts : goal.returns-clause-puts
returns-clause-puts c =
    let now : SearchCuts = record { pool = c.self.inside.pool; idle = c.self.inside.idle; names = c.add.new.self } in
    let grew : Grew c.args.self.now now c.args.number = record {
      pool = ap (λ (s : SearchCuts). s.pool) c.self.view_is;
      idle = ap (λ (s : SearchCuts). s.idle) c.self.view_is;
      names = c.in_ok-name.ensures.added ∙ ap (λ (s : SearchCuts). s.names ++ c.args.number ∷ []) c.self.view_is;
    } in
    name_puts c.args.network.now c.args.self.now now c.args.number c.get-2.result.now c.args.out.now.items c.put_named.new.out.items c.candidates-bounds.ensures.bounds c.requires.cuts
    (ap (λ (s : SearchCuts). slice_get s.pool c.args.number) (sym c.self.view_is) ∙ c.get-2.ensures) grew c.in_ok-put_named.ensures.put

pub returns-clause-name : goal.returns-clause-name
returns-clause-name c =
    let now : SearchCuts = record { pool = c.self.inside.pool; idle = c.self.inside.idle; names = c.add.new.self } in
    let grew : Grew c.args.self.now now c.args.number = record {
      pool = ap (λ (s : SearchCuts). s.pool) c.self.view_is;
      idle = ap (λ (s : SearchCuts). s.idle) c.self.view_is;
      names = c.in_ok-name.ensures.added ∙ ap (λ (s : SearchCuts). s.names ++ c.args.number ∷ []) c.self.view_is;
    } in
    name_gives c.args.self.now now c.args.number c.in_ok-name.name grew (c.in_ok-name.ensures.name ∙ ap (λ (s : SearchCuts). length s.names) c.self.view_is)

pub returns-clause-cuts : goal.returns-clause-cuts
returns-clause-cuts c =
    let now : SearchCuts = record { pool = c.self.inside.pool; idle = c.self.inside.idle; names = c.add.new.self } in
    let grew : Grew c.args.self.now now c.args.number = record {
      pool = ap (λ (s : SearchCuts). s.pool) c.self.view_is;
      idle = ap (λ (s : SearchCuts). s.idle) c.self.view_is;
      names = c.in_ok-name.ensures.added ∙ ap (λ (s : SearchCuts). s.names ++ c.args.number ∷ []) c.self.view_is;
    } in
    cuts_grew c.args.network.now c.args.self.now now c.args.number c.requires.cuts c.requires.number
    (λ name is. c.in_default.ensures.none name (ap (λ (s : SearchCuts). slice_get s.names name) c.self.view_is ∙ is)) grew

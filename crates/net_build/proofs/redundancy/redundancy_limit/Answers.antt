use Rattle.std.proofs.Common.{◌∙◌, ◌++◌, [], ◌∷◌, List, ap₂, FitsSigned, rules, w64}
use Rattle.geo_model.specs.Limit.{SquareOf}
use Rattle.net_build.proofs.PartFacts.{owned-is, owned-square, redundancy-is}
use Rattle.net_build.proofs.redundancy.redundancy_limit.Goals as goal

pub returns : goal.returns
returns c =
    let fits : FitsSigned w64 c.weight.result = search rules in
    let square = owned-square c.weight.result c.args.row.now.weight c.in_ok-entries.entries.items c.args.row.now.entries fits c.weight.ensures (c.in_ok-entries.ensures.items ∙ c.entries.ensures) in
    owned-is c.args.q c.args.owner c.args.place c.args.row.now _ c.push.new.self.items (redundancy-is c.args.q c.requires)
    (c.in_ok-push.ensures.items ∙ ap₂ (λ (l : List SquareOf) (x : SquareOf). l ++ x ∷ []) c.new-squares.ensures.items square)

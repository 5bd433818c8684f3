use Rattle.std.proofs.Common.{◌∙◌, ◌++◌, [], ◌∷◌, List, ap₂}
use Rattle.geo_model.specs.Limit.{SquareOf}
use Rattle.net_build.proofs.PartFacts.{alpha-is, axis-is}
use Rattle.net_build.proofs.point_limits.axis_limit.Goals as goal

pub returns : goal.returns
returns c =
    axis-is c.args.columns.now c.args.point c.args.tenths _ c.push-2.new.self.items (alpha-is c.args.tenths c.requires)
    (c.in_ok-push-2.ensures.items
    ∙ ap₂ (λ (l : List SquareOf) (x : SquareOf). l ++ x ∷ []) (c.in_ok-push.ensures.items ∙ ap₂ (λ (l : List SquareOf) (x : SquareOf). l ++ x ∷ []) c.new-squares.ensures.items c.in_ok-square_on.ensures) c.in_ok-square_on-2.ensures)

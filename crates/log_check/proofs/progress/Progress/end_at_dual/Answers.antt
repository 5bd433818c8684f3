use Rattle.std.proofs.Common.{refl}
use Rattle.log_check.proofs.progress.Progress.end_at_dual.Goals as goal

pub returns : goal.returns
returns c = λ divisor shares node rest is. record {
  stack = c.pop.ensures node rest is;
  least = c.lesser_bound-self.ensures;
  counted = c.count_line.ensures;
  numbered = refl;
  formed = refl;
  named = refl;
}

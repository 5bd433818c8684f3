use Rattle.std.proofs.Common.{refl, sym}
use Rattle.bound_log.proofs.BoundLemmas.{lesser_none}
use Rattle.log_check.proofs.progress.Progress.end_at_cut.Goals as goal

pub returns : goal.returns
returns c = λ cut node rest is. record {
  stack = c.pop.ensures node rest is;
  least = sym (lesser_none c.args.self.now.bound);
  counted = c.count_line.ensures;
  numbered = refl;
  formed = refl;
  named = refl;
}

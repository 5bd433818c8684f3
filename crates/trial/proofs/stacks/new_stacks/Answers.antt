use Rattle.std.proofs.Common.{◌+◌, ◌++◌, ◌∷◌, [], List, ℕ, ap, map, subst, sym}
use Rattle.std.specs.List.{AllZip, range_with_len}
use Rattle.std.proofs.lemmas.Slice.Zip.{all_zipped_more}
use Rattle.factor_stack.specs.Stack.{StackOf}
use Rattle.trial.specs.Stacks.{IsStackAt}
use Rattle.trial.proofs.Zips.{range-more}
use Rattle.trial.proofs.stacks.new_stacks.Goals as goal

pub limits-preserved : goal.limits-preserved
limits-preserved c =
    let network = c.args.network.now in
    let plan = c.args.plan.now in
    let stack = c.in_ok-stack.stack in
    let one : IsStackAt network plan [] c.limits.number stack = record {
      made = c.in_ok-stack.ensures.made;
      limit = c.in_ok-stack.ensures.limit;
      holds = c.in_ok-stack.ensures.plan;
      keeps = ap (map (λ image. image.plan)) c.in_ok-stack.ensures.before;
    } in
    subst (λ (s : List StackOf). AllZip (IsStackAt network plan []) (range_with_len 0 (c.limits.number + 1)) s) (sym c.in_ok-push.ensures.items)
    (subst (λ (n : List ℕ). AllZip (IsStackAt network plan []) n (c.limits.stacks.items ++ stack ∷ [])) (sym (range-more c.limits.number))
    (all_zipped_more (IsStackAt network plan []) (range_with_len 0 c.limits.number) c.limits.stacks.items c.limits.number stack c.limits.invariant one))

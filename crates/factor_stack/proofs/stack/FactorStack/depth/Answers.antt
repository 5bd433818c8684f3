use Rattle.std.proofs.Common.{rules, ◌≡◌, length, vec_len, sym, ◌∙◌, ap}
use Rattle.factor_stack.specs.Stack.{StackOf}
use Rattle.factor_stack.proofs.Stacks.{depth_of}
use Rattle.factor_stack.proofs.stack.FactorStack.depth.Goals as goal

pub returns : goal.returns
returns c = c.len.ensures ∙ ((let e : vec_len c.self.inside.saves ≡ length c.self.inside.saves.items = search rules in e) ∙ (sym (depth_of c.self.inside.held c.self.inside.saves.items) ∙ ap (λ (v : StackOf). length v.before) c.self.view_is))

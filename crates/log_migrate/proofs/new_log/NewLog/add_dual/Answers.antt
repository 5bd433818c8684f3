use Rattle.std.proofs.Common.{◌∙◌, ◌++◌, List, ℕ, ap, refl}
use Rattle.bound_log.specs.NamedText.{named_text}
use Rattle.bound_log.specs.UseText.{uses_of}
use Rattle.bound_log.specs.declared.log_leaf.LogLeaf.TheVariants.{Dual}
use Rattle.bound_log.specs.declared.log_line.LogLine.TheVariants.{Leaf}
use Rattle.bound_log.specs.declared.named_line.NamedLine.TheVariants.{UseDual}
use Rattle.log_migrate.proofs.LineLemmas.{each_share_short}
use Rattle.log_migrate.proofs.TextLemmas.{line_put}
use Rattle.log_migrate.proofs.new_log.NewLog.add_dual.Goals as goal

pub numbers-requires : goal.numbers-requires
numbers-requires c = each_share_short c.args.divisor c.args.shares.now c.requires

pub returns-clause-added : goal.returns-clause-added
returns-clause-added c = λ named has.
    let divisor = c.args.divisor in
    let shares = c.args.shares.now in
    let e = c.in_ok-uses.ensures in
    line_put named (Leaf (Dual divisor shares)) c.args.self.now c.numbers.new.self (record { text = c.put_dual2.new.out; names = c.numbers.new.self.names }) (e.gets named has)
    (c.in_ok-put_dual2.ensures.put
    ∙ ap (λ (u : List (ℕ × ℕ)). c.numbers.new.self.text.items ++ named_text (UseDual divisor u)) (ap uses_of c.deref.ensures.value ∙ e.numbers named has)) refl

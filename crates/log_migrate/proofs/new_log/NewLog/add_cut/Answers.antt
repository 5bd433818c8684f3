use Rattle.std.proofs.Common.{◌∙◌, ◌++◌, ℕ, ap, refl, sym}
use Rattle.bound_log.specs.NamedText.{named_text}
use Rattle.bound_log.specs.declared.log_leaf.LogLeaf.TheVariants.{Cut}
use Rattle.bound_log.specs.declared.log_line.LogLine.TheVariants.{Leaf}
use Rattle.bound_log.specs.declared.named_line.NamedLine.TheVariants.{UseCut}
use Rattle.log_migrate.proofs.FirstUseLemmas.{number_one}
use Rattle.log_migrate.proofs.TextLemmas.{line_put}
use Rattle.log_migrate.proofs.new_log.NewLog.add_cut.Goals as goal

pub returns-clause-added : goal.returns-clause-added
returns-clause-added c = λ named has.
    let cut = c.args.cut.now in
    let e = c.in_ok-number.ensures in
    line_put named (Leaf (Cut cut)) c.args.self.now c.number.new.self (record { text = c.put_use.new.out; names = c.number.new.self.names }) (e.gets named has)
    (c.in_ok-put_use.ensures.put ∙ ap (λ (n : ℕ). c.number.new.self.text.items ++ named_text (UseCut n)) (e.number named has ∙ sym (number_one named cut))) refl

use Rattle.std.proofs.Common.{◌∙◌, ◌≤◌, ◌<◌, ◌++◌, List, ℕ, length, arith, refl, sym, ap}
use Rattle.std.proofs.lemmas.Bool.{false≢true}
use Rattle.log_migrate.specs.NewLog.{naming_text}
use Rattle.log_migrate.proofs.TextLemmas.{finds_cut, gets_none, gets_one, lacks_cut, names_long, not_past, number_next, refused_full}
use Rattle.log_migrate.proofs.new_log.NewLog.number.Goals as goal

pub returns-in-Some-clause-number : goal.returns-in-Some-clause-number
returns-in-Some-clause-number c = λ named has.
    let name = c.deref.ensures.value ∙ c.in_ok-put_named_text.ensures.put ∙ ap (λ (t : List ℕ). t ++ naming_text c.args.cut.now) c.new-name.ensures.items in
    (finds_cut named c.args.cut.now c.args.self.now c.deref.result.now c.in-Some.number has c.requires name c.in-Some.ensures.place).number

pub returns-in-Some-clause-gets : goal.returns-in-Some-clause-gets
returns-in-Some-clause-gets c = λ named has.
    let name = c.deref.ensures.value ∙ c.in_ok-put_named_text.ensures.put ∙ ap (λ (t : List ℕ). t ++ naming_text c.args.cut.now) c.new-name.ensures.items in
    gets_none named c.args.cut.now c.args.self.now has
    (finds_cut named c.args.cut.now c.args.self.now c.deref.result.now c.in-Some.number has c.requires name c.in-Some.ensures.place).known

pub returns-then-is_full-clause-cause : goal.returns-then-is_full-clause-cause
returns-then-is_full-clause-cause c = λ named has.
    let name = c.deref.ensures.value ∙ c.in_ok-put_named_text.ensures.put ∙ ap (λ (t : List ℕ). t ++ naming_text c.args.cut.now) c.new-name.ensures.items in
    let lacks = lacks_cut named c.args.cut.now c.args.self.now c.deref.result.now has c.requires name c.in-None.ensures.place in
    let full : 65536 ≤ length c.args.self.now.names = c.if-is_full.ensures.full.0 refl in
    refused_full named c.args.cut.now lacks (omega (arith, full, names_long named c.args.self.now has))

pub returns-clause-number : goal.returns-clause-number
returns-clause-number c = λ named has.
    let name = c.deref.ensures.value ∙ c.in_ok-put_named_text.ensures.put ∙ ap (λ (t : List ℕ). t ++ naming_text c.args.cut.now) c.new-name.ensures.items in
    let lacks = lacks_cut named c.args.cut.now c.args.self.now c.deref.result.now has c.requires name c.in-None.ensures.place in
    c.in_ok-number.ensures.number ∙ names_long named c.args.self.now has ∙ sym (number_next named c.args.cut.now lacks)

pub returns-clause-gets : goal.returns-clause-gets
returns-clause-gets c = λ named has.
    let own = c.in_ok-put_named_text.ensures.put ∙ ap (λ (t : List ℕ). t ++ naming_text c.args.cut.now) c.new-name.ensures.items in
    let name = c.deref.ensures.value ∙ own in
    let lacks = lacks_cut named c.args.cut.now c.args.self.now c.deref.result.now has c.requires name c.in-None.ensures.place in
    let few : length c.args.self.now.names < 65536 = not_past (length c.args.self.now.names) (λ full. false≢true (c.if-is_full.ensures.full.1 full)) in
    gets_one named c.args.cut.now c.args.self.now (record { text = c.extend_from_slice.new.self; names = c.give.new.self }) c.put_named_text.new.out.items has c.requires lacks
    (omega (arith, few, names_long named c.args.self.now has)) own
    (c.in_ok-extend_from_slice.ensures.items ∙ ap (λ (t : List ℕ). c.args.self.now.text.items ++ t) c.deref-2.ensures.value)
    c.in_ok-number.ensures.given

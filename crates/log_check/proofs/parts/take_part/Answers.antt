use Rattle.std.proofs.Common.{◌≡◌, length, sym, ◌∙◌}
use Rattle.std.proofs.lemmas.Bool.{eqb-true}
use Rattle.lent_parts.specs.Walks.{line_of}
use Rattle.log_check.proofs.FedLemmas.{taken_ended, taken_kept, taken_whole}
use Rattle.log_check.proofs.parts.take_part.Goals as goal

pub returns-then-is_empty-clause-taken : goal.returns-then-is_empty-clause-taken
returns-then-is_empty-clause-taken c =
    let none : length c.args.kept.now.items ≡ 0 = sym c.args.kept.now.ok.0 ∙ eqb-true _ 0 (sym c.is_empty.ensures ∙ c.if-is_empty.true) in
    taken_whole c.args.network.now c.args.judged.now c.judge.new.self c.args.kept.now.items (line_of c.args.line) c.requires.sound.bounds c.requires.lacks c.if-line.true none c.judge.ensures.judged

pub returns-then-line-2-clause-taken : goal.returns-then-line-2-clause-taken
returns-then-line-2-clause-taken c =
    taken_ended c.args.network.now c.args.judged.now c.judge-then-line-2.new.self c.args.kept.now.items c.clear.new.self.items c.as_slice-text.result.now (line_of c.args.line) c.requires.sound.bounds c.requires.lacks c.if-line-2.true
    (c.as_slice-text.ensures.value ∙ c.keep.ensures.items) c.clear.ensures.items c.judge-then-line-2.ensures.judged

pub returns-else-line-2-clause-taken : goal.returns-else-line-2-clause-taken
returns-else-line-2-clause-taken c =
    taken_kept c.args.network.now c.args.judged.now c.args.kept.now.items c.keep.new.kept.items (line_of c.args.line) c.requires.sound.bounds c.requires.lacks c.if-line-2.false c.keep.ensures.items

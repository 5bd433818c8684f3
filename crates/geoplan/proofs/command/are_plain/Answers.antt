use Rattle.std.proofs.Common.{◌≤◌, length, ◌∙◌, sym, arith}
use Rattle.geoplan.specs.CommandOf.{is_plain}
use Rattle.geoplan.proofs.CommandLemmas.{list_all-drop_pass, list_all-drop_fail, list_all-drop_past}
use Rattle.geoplan.proofs.command.are_plain.Goals as goal

pub returns-then-not-is_plain : goal.returns-then-not-is_plain
returns-then-not-is_plain c =
    sym (c.loop-k.invariant ∙ list_all-drop_fail is_plain c.args.words.now c.loop-k.k c.get.result.now c.get.ensures (sym c.is_plain.ensures ∙ c.if-not-is_plain.true))

pub loop-k-preserved : goal.loop-k-preserved
loop-k-preserved c =
    c.loop-k.invariant ∙ list_all-drop_pass is_plain c.args.words.now c.loop-k.k c.get.result.now c.get.ensures (sym c.is_plain.ensures ∙ c.if-not-is_plain.false)

pub returns : goal.returns
returns c =
    let past : length c.args.words.now ≤ c.loop-k.k = omega arith in
    sym (c.loop-k.invariant ∙ list_all-drop_past is_plain c.args.words.now c.loop-k.k past)

use Rattle.std.proofs.Common.{rules, ◌<◌, ◌≤◌, length, sym, ◌∙◌, subst}
use Rattle.std.proofs.lemmas.Option.{slice_get_within, same_Some}
use Rattle.plan_report.specs.Shown.{length_limit, limited_part, TakesLengths}
use Rattle.plan_report.proofs.LimitPlaces.{takes_lengths}
use Rattle.plan_report.proofs.PartLines.{no_line, no_limit, part_stands, shown_is, one_line}
use Rattle.plan_report.proofs.lengths.put_part.Goals as goal

pub returns-in_default : goal.returns-in_default
returns-in_default c = record {
  text = no_line c.args.reported.now.network.now c.args.reported.now.plan.now c.args.kind c.args.place c.args.point.now.name c.args.text.now.items c.part.result (limited_part c.args.kind c.args.point.now) c.part.ensures c.in_default.not-New;
  next = no_limit (length_limit c.args.kind c.args.reported.now.network.now.unknowns c.args.place) c.args.number c.part.result (limited_part c.args.kind c.args.point.now) c.part.ensures c.in_default.not-New;
  room = c.requires.room;
}

pub shown_length-shown-requires-clause-limit : goal.shown_length-shown-requires-clause-limit
shown_length-shown-requires-clause-limit c =
    let limits = c.args.reported.now.network.now.limits in
    let stands = part_stands limits c.args.number c.in-New.limit (length_limit c.args.kind c.args.reported.now.network.now.unknowns c.args.place) (limited_part c.args.kind c.args.point.now) c.in-New.ensures c.requires.number in
    slice_get_within limits c.args.number _ stands

pub shown_length-shown-requires-clause-takes : goal.shown_length-shown-requires-clause-takes
shown_length-shown-requires-clause-takes c = λ l found.
    let reported = c.args.reported.now in
    let given = length_limit c.args.kind reported.network.now.unknowns c.args.place c.in-New.limit in
    let stands = part_stands reported.network.now.limits c.args.number c.in-New.limit (length_limit c.args.kind reported.network.now.unknowns c.args.place) (limited_part c.args.kind c.args.point.now) c.in-New.ensures c.requires.number in
    subst (TakesLengths reported.network.now) (same_Some given l (sym stands ∙ found))
    (takes_lengths reported.points.now reported.candidates.now reported.q reported.network.now c.args.kind c.args.place c.in-New.limit c.requires.reported.network)

pub overflow_add-result : goal.overflow_add-result
overflow_add-result c =
    let limits = c.args.reported.now.network.now.limits in
    let stands = part_stands limits c.args.number c.in-New.limit (length_limit c.args.kind c.args.reported.now.network.now.unknowns c.args.place) (limited_part c.args.kind c.args.point.now) c.in-New.ensures c.requires.number in
    let inside : c.args.number < length limits = slice_get_within limits c.args.number _ stands in
    let few : length limits ≤ 20000 = c.candidates-bounds.ensures.bounds.limits in
    search rules

pub returns-clause-text : goal.returns-clause-text
returns-clause-text c =
    let reported = c.args.reported.now in
    let given = length_limit c.args.kind reported.network.now.unknowns c.args.place c.in-New.limit in
    let stands = part_stands reported.network.now.limits c.args.number c.in-New.limit (length_limit c.args.kind reported.network.now.unknowns c.args.place) (limited_part c.args.kind c.args.point.now) c.in-New.ensures c.requires.number in
    one_line reported.network.now reported.plan.now c.args.kind c.args.place c.in-New.limit c.shown_length-shown.result c.args.point.now.name c.args.text.now.items c.put_length.new.text.items (limited_part c.args.kind c.args.point.now)
    c.in-New.ensures (c.shown_length-shown.ensures.shown given stands ∙ shown_is reported.network.now reported.plan.now c.args.kind c.args.place c.in-New.limit) c.in_ok-put_length.ensures

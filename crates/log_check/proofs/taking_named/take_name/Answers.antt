use Rattle.std.proofs.Common.{refl, ap, sym, ◌∙◌}
use Rattle.bound_log.specs.Rules.{is_displacement}
use Rattle.log_check.proofs.NamingLemmas.{may_few, may_displace, name_broken, name_kept}
use Rattle.log_check.proofs.PlaceLemmas.{head_tail}
use Rattle.log_check.proofs.taking_named.take_name.Goals as goal

pub returns-then-not-may_name-clause-stopped : goal.returns-then-not-may_name-clause-stopped
returns-then-not-may_name-clause-stopped c =
    let before = c.args.progress.now in
    let top = head_tail before.stack.nodes c.requires.some in
    record {
      node = top.first;
      rest = top.rest;
      top = top.is;
      broken = name_broken c.args.network.now before.cuts top.first c.args.cut.now (sym c.if-not-may_name.ensures.may);
    }

pub add-requires-clause-few : goal.add-requires-clause-few
add-requires-clause-few c = may_few c.args.network.now c.args.progress.now.cuts c.args.cut.now (sym c.if-not-may_name.ensures.may)

pub returns-clause-taken : goal.returns-clause-taken
returns-clause-taken c =
    let before = c.args.progress.now in
    let network = c.args.network.now in
    let cut = c.args.cut.now in
    let top = head_tail before.stack.nodes c.requires.some in
    let may = sym c.if-not-may_name.ensures.may in
    record {
      node = top.first;
      rest = top.rest;
      top = top.is;
      keeps = name_kept network before.cuts top.first cut may;
      does = record {
        stack = refl;
        least = refl;
        counted = refl;
        numbered = refl;
        formed = refl;
        named = c.add.ensures cut (sym c.limit.ensures)
            (ap (λ n. is_displacement n cut.pairs) c.if-not-may_name.ensures.kept.moves ∙ may_displace network before.cuts cut may)
            (c.if-not-may_name.ensures.written refl);
      };
    }

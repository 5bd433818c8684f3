use Rattle.std.proofs.Common.{◌∙◌, ◌++◌, [], ◌∷◌, ℕ, All, ap, subst}
use Rattle.std.proofs.lemmas.List.{map-append}
use Rattle.std.proofs.lemmas.List.Elements.{All-head, All-tail}
use Rattle.bound_log.specs.CutText.{CutTextOf}
use Rattle.bound_log.specs.UseText.{use_of, uses_of}
use Rattle.cut_pool.specs.declared.share.Share.{Share}
use Rattle.log_migrate.specs.NewLog.{IsShortCut, more_of}
use Rattle.log_migrate.proofs.TextLemmas.{numbers_next, numbers_refused}
use Rattle.log_migrate.proofs.new_log.NewLog.numbers.Goals as goal

abbrev Short : ℕ × CutTextOf → Type 0
Short share = IsShortCut share.1

pub number-requires : goal.number-requires
number-requires c =
    All-head Short (c.in-Some.y, c.in-Some.cut) c.next.new.self (subst (All Short) c.in-Some.ensures.steps c.shares.invariant.short)

pub returns-in-Err-clause-cause : goal.returns-in-Err-clause-cause
returns-in-Err-clause-cause c = λ named has.
    let so = c.shares.invariant.numbered named has in
    numbers_refused named c.args.shares.now c.shares.left c.next.new.self (c.in-Some.y, c.in-Some.cut) (uses_of c.shares.uses.items) c.args.self.now c.shares.self c.in-Err.why
    c.in-Some.ensures.steps so (c.in-Err.ensures.cause (named ++ more_of named so.done) so.gets.holds)

pub shares-preserved : goal.shares-preserved
shares-preserved c = record {
  numbered = λ named has.
      let so = c.shares.invariant.numbered named has in
      let share : Share = record { y = c.in-Some.y; cut = c.in-Ok.number } in
      numbers_next named c.args.shares.now c.shares.left c.next.new.self (c.in-Some.y, c.in-Some.cut) (uses_of c.shares.uses.items) (uses_of c.push.new.self.items)
      c.args.self.now c.shares.self c.number.new.self c.in-Ok.number c.in-Some.ensures.steps so
      (c.in-Ok.ensures.number (named ++ more_of named so.done) so.gets.holds)
      (c.in-Ok.ensures.gets (named ++ more_of named so.done) so.gets.holds)
      (ap uses_of c.in_ok-push.ensures.items ∙ map-append use_of c.shares.uses.items (share ∷ []));
  short = All-tail Short (c.in-Some.y, c.in-Some.cut) c.next.new.self (subst (All Short) c.in-Some.ensures.steps c.shares.invariant.short);
}

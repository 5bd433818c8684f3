use Rattle.std.proofs.Common.{◌≡◌, ℕ, Some, length, refl, sym, subst}
use Rattle.std.specs.Prelude.{slice_get}
use Rattle.std.proofs.lemmas.Bool.{false≢true}
use Rattle.std.proofs.lemmas.Option.{slice_get_read}
use Rattle.whole_algebra.specs.Matrices.{at}
use Rattle.bound_log.specs.CutText.{displaced_by}
use Rattle.bound_log.proofs.AllowedLemmas.{cut_allowed}
use Rattle.log_check.proofs.RuleLemmas.{cut_owner_broken, cut_holds}
use Rattle.log_check.proofs.rules.broken_by_moves.Goals as goal
use Rattle.geo_model.proofs.EnergyLemmas.{Breaks-same}

pub returns-then-not-is_in_force : goal.returns-then-not-is_in_force
returns-then-not-is_in_force c = λ cut same moving written.
    let limits = c.args.network.now.limits in
    let read = slice_get_read limits (length limits) c.args.number c.index-limits-number.result refl c.requires.limit (rw (← c.limits-limits.ensures.value) c.index-limits-number.is) in
    let named = subst (λ (n : ℕ). slice_get limits n ≡ Some c.index-limits-number.result) (sym same) read in
    sym (cut_owner_broken c.args.network.now c.args.node.now cut c.index-limits-number.result named moving
    (λ chosen. false≢true (c.if-not-is_in_force.ensures.1 chosen)))

pub returns-then-not-breaks : goal.returns-then-not-breaks
returns-then-not-breaks c = λ cut same moving written.
    let limits = c.args.network.now.limits in
    let limit = c.index-limits-number.result in
    let read = slice_get_read limits (length limits) c.args.number limit refl c.requires.limit (rw (← c.limits-limits.ensures.value) c.index-limits-number.is) in
    let named = subst (λ (n : ℕ). slice_get limits n ≡ Some limit) (sym same) read in
    sym (cut_holds c.args.network.now c.args.node.now cut limit named moving
    (c.if-not-is_in_force.ensures.0 refl)
    (λ broken. false≢true ((c.if-not-breaks.ensures limit read).1
    (Breaks-same c.args.network.now c.args.node.now.upper limit (displaced_by cut.pairs) (at c.args.moves.now) written broken))))

pub returns : goal.returns
returns c = λ cut same moving written.
    let limits = c.args.network.now.limits in
    let limit = c.index-limits-number.result in
    let read = slice_get_read limits (length limits) c.args.number limit refl c.requires.limit (rw (← c.limits-limits.ensures.value) c.index-limits-number.is) in
    let named = subst (λ (n : ℕ). slice_get limits n ≡ Some limit) (sym same) read in
    sym (cut_allowed c.args.network.now c.args.node.now cut
    (record {
      limit = limit;
      named = named;
      displacement = moving;
      owned = c.if-not-is_in_force.ensures.0 refl;
      breaks = Breaks-same c.args.network.now c.args.node.now.upper limit (at c.args.moves.now) (displaced_by cut.pairs) (λ i. sym (written i))
          ((c.if-not-breaks.ensures limit read).0 refl);
    }))

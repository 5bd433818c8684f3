use Rattle.std.proofs.Common.{rules, ◌≡◌, ◌<◌, ◌+◌, List, [], ◌∷◌, ◌++◌, map, get_or, length, take, sym, ap, ◌∙◌, Some, slice_get}
use Rattle.std.proofs.lemmas.List.{take_more}
use Rattle.cut_pool.specs.Cut.{CutOf}
use Rattle.cut_pool.specs.declared.share.Share.{Share}
use Rattle.bound_log.specs.DualText.{texts_of_shares}
use Rattle.bound_log.specs.Meanings.{found_share, found_use}
use Rattle.bound_log.specs.UseText.{uses_of}
use Rattle.branch_bound.specs.Cuts.{named_cuts}
use Rattle.branch_bound.specs.Naming.{text_at}
use Rattle.branch_bound.proofs.SpellLemmas.{PutsNames-then}
use Rattle.branch_bound.proofs.PutLemmas.{uses_more}
use Rattle.branch_bound.proofs.line.named_shares.Goals as goal

pub loop-share-preserved : goal.loop-share-preserved
loop-share-preserved c =
    let inv = c.loop-share.invariant in
    let shares = c.args.dual.now.shares.items in
    let i = c.loop-share.share-index in
    let share : Share = get_or c.as_slice-share-items.result.now i (record { y = 0; cut = 0 }) in
    let pool = c.args.cuts.now.pool in
    let named = c.in_ok-name.ensures in
    let inside : i < length shares = search rules in
    let text : slice_get (named_cuts c.name.new.self) c.in_ok-name.name ≡ Some (text_at pool share.cut) =
    named.name ∙ ap (λ (p : List CutOf). Some (text_at p share.cut)) inv.pool in
    let more : take i shares ++ share ∷ [] ≡ take (i + 1) shares =
    sym (take_more shares i (record { y = 0; cut = 0 }) inside ∙ ap (λ (l : List Share). take i shares ++ get_or l i (record { y = 0; cut = 0 }) ∷ []) (sym c.as_slice-share-items.ensures.value)) in
    record {
      names = PutsNames-then (named_cuts c.args.cuts.now) (named_cuts c.loop-share.cuts) (named_cuts c.name.new.self) c.args.out.now.items c.loop-share.out.items c.name.new.out.items inv.names named.puts;
      uses = ap (λ (us : List Share). map (found_use (named_cuts c.name.new.self)) (uses_of us)) c.in_ok-push.ensures.items
          ∙ uses_more (named_cuts c.loop-share.cuts) (named_cuts c.name.new.self) c.loop-share.out.items c.name.new.out.items pool c.loop-share.shares.items (take i shares) share c.in_ok-name.name inv.uses named.puts text
          ∙ ap (λ (ss : List Share). map found_share (texts_of_shares pool ss)) more;
      cuts = named.cuts;
      pool = named.pool ∙ inv.pool;
    }

use Rattle.std.proofs.lemmas.Result.{err_from_is_err_and}
use Rattle.std.proofs.Common.{rules, ℕ, List, ◌≡◌, ◌<◌, sym, ◌∙◌, subst, refl, Some, None, false}
use Rattle.geo_model.specs.declared.plan.Node.{Node}
use Rattle.bound_log.specs.LogTree.{with_chosen, without_chosen, IsOpenAt}
use Rattle.branch_bound.specs.Cuts.{AreCutsFor, log_line_of, named_cuts}
use Rattle.branch_bound.specs.Explored.{AddsText, BreaksText, IsNode}
use Rattle.branch_bound.specs.Found.{IsTrueBest}
use Rattle.branch_bound.proofs.ExploreLemmas.{BreaksTree-nothing, BreaksTree-line, BreaksTree-first, BreaksTree-second, Explores-leaf, Explores-split, IsNode-with, IsNode-without, IsNode-same, IsTrueBest-same, IsOpenAt-line, IsTrueBest-line, unrefuted-line, idle-line, SpellsOn-split, Counts-line, BreaksTree-same, Explores-same, Explores-after, child_with, child_without, node_back}
use Rattle.branch_bound.proofs.CutLemmas.{split_line, unsplit_line}
use Rattle.branch_bound.proofs.NamingLemmas.{names_once}
use Rattle.bound_log.specs.OpenCount.{open_count}
use Rattle.bound_log.proofs.OpenLemmas.{open_count-with, open_count-without}
use Rattle.branch_bound.proofs.InheritedLemmas.{IsInherited-with, IsInherited-without, IsInherited-same}
use Rattle.branch_bound.proofs.run.+explore.Goals as goal

pub returns-in_err-line-clause-refused : goal.returns-in_err-line-clause-refused
returns-in_err-line-clause-refused g t c =
    let started : (g.H.Shelf.state c.args.shelf.now).started ≡ Some c.args.name.now = search rules in
    let cuts : AreCutsFor c.args.network.now c.args.findings.now.cuts = search rules in
    let p = err_from_is_err_and c.from_residual.result c.from_residual.ensures.1 in
    rw (p.1, p.2)
    (BreaksTree-nothing c.args.network.now c.args.node.now c.args.name.now (named_cuts c.args.findings.now.cuts)
    (g.H.Shelf.state c.args.shelf.now)
    (names_once c.args.network.now c.args.findings.now.cuts cuts)
    (λ files held. g.met.H.Shelf.started_is_held c.args.shelf.now files c.args.name.now held started))

pub returns-in_err-write_piece-clause-refused : goal.returns-in_err-write_piece-clause-refused
returns-in_err-write_piece-clause-refused g t c =
    let broken : BreaksText c.args.name.now c.take_line.new.findings.buffer.items c.in_err-write_piece.field-0.0 (g.H.Shelf.state c.args.shelf.now) (g.H.Shelf.state c.write_piece.new.shelf) =
    subst (λ (t : List ℕ). BreaksText c.args.name.now t c.in_err-write_piece.field-0.0 (g.H.Shelf.state c.args.shelf.now) (g.H.Shelf.state c.write_piece.new.shelf)) c.as_slice.ensures.value c.in_err-write_piece.ensures.refused in
    let p = err_from_is_err_and c.from_residual-in_err-write_piece.result c.from_residual-in_err-write_piece.ensures.1 in
    rw (p.1, p.2)
    (BreaksTree-line c.args.network.now c.args.node.now c.args.name.now c.take_line.new.findings.buffer.items (named_cuts c.args.findings.now.cuts) (named_cuts c.take_line.new.findings.cuts) c.in_ok-line.ensures.line.middle c.take_line.new.findings.best c.in_err-write_piece.field-0.0
    (g.H.Shelf.state c.args.shelf.now)
    (g.H.Shelf.state c.write_piece.new.shelf)
    (log_line_of c.take_line.new.findings.cuts.pool c.in_ok-line.line) c.in_ok-line.ensures.line.here
    (names_once c.args.network.now c.take_line.new.findings.cuts c.in_ok-line.ensures.cuts) c.in_ok-line.ensures.spells broken)

pub returns-in_default : goal.returns-in_default
returns-in_default g t c =
    let added : AddsText c.args.name.now c.take_line.new.findings.buffer.items (g.H.Shelf.state c.args.shelf.now) (g.H.Shelf.state c.write_piece.new.shelf) =
    subst (λ (t : List ℕ). AddsText c.args.name.now t (g.H.Shelf.state c.args.shelf.now) (g.H.Shelf.state c.write_piece.new.shelf)) c.as_slice.ensures.value c.in_ok-write_piece.ensures.added in
    record {
      explored = Explores-after c.args.network.now c.args.node.now c.args.name.now (named_cuts c.args.findings.now.cuts) (named_cuts c.take_line.new.findings.cuts) c.args.findings.now.best c.in_ok-line.ensures.line.middle c.take_line.new.findings.best c.args.findings.now.counts c.take_line.new.findings.counts
          (g.H.Shelf.state c.args.shelf.now)
          (g.H.Shelf.state c.write_piece.new.shelf)
          c.in_ok-line.ensures.line.offered
          (Explores-leaf c.args.network.now c.args.node.now c.args.name.now c.take_line.new.findings.buffer.items (named_cuts c.args.findings.now.cuts) (named_cuts c.take_line.new.findings.cuts) c.in_ok-line.ensures.line.middle c.take_line.new.findings.best c.args.findings.now.counts c.take_line.new.findings.counts
          (g.H.Shelf.state c.args.shelf.now)
          (g.H.Shelf.state c.write_piece.new.shelf)
          (log_line_of c.take_line.new.findings.cuts.pool c.in_ok-line.line) c.in_ok-line.ensures.line.here (unsplit_line c.take_line.new.findings.cuts.pool c.in_ok-line.line c.in_default.ensures.none) c.in_ok-line.ensures.spells added c.in_ok-line.ensures.counted);
      node = refl;
      verdicts = c.in_ok-line.ensures.verdicts;
      cuts = c.in_ok-line.ensures.cuts;
      refused = tt;
    }

pub explore-requires : goal.explore-requires
explore-requires g t c κs within =
    let line = log_line_of c.take_line.new.findings.cuts.pool c.in_ok-line.line in
    let split = split_line c.take_line.new.findings.cuts.pool c.in_ok-line.line c.in-Some.candidate c.in-Some.ensures.some in
    let node : IsNode c.args.network.now c.args.node.now = search rules in
    let before : IsTrueBest c.args.network.now c.in_ok-line.ensures.line.middle = c.in_ok-line.ensures.line.offered.kept in
    let is_open : IsOpenAt c.args.network.now c.args.node.now c.in-Some.candidate =
    IsOpenAt-line c.args.network.now c.args.node.now c.in_ok-line.ensures.line.middle c.take_line.new.findings.best line c.in-Some.candidate split c.in_ok-line.ensures.line.here in
    let same =
    IsTrueBest-line c.args.network.now c.args.node.now c.in_ok-line.ensures.line.middle c.take_line.new.findings.best line c.in-Some.candidate split c.in_ok-line.ensures.line.here in
    let first : (record { inside = c.set.new.self; upper = c.args.node.now.upper }) ≡ with_chosen c.args.node.now c.in-Some.candidate =
    child_with c.args.node.now c.in-Some.candidate c.set.new.self c.set.ensures in
    let kept : IsTrueBest c.args.network.now c.take_line.new.findings.best =
    IsTrueBest-same c.args.network.now c.in_ok-line.ensures.line.middle c.take_line.new.findings.best same before in
    let falls : open_count c.set.new.self c.args.node.now.upper < open_count c.args.node.now.inside c.args.node.now.upper =
    rw c.set.ensures (open_count-with c.args.node.now.inside c.args.node.now.upper c.in-Some.candidate is_open.in_upper is_open.not_inside) in
    let child : IsNode c.args.network.now (record { inside = c.set.new.self; upper = c.args.node.now.upper }) =
    IsNode-same c.args.network.now (with_chosen c.args.node.now c.in-Some.candidate) (record { inside = c.set.new.self; upper = c.args.node.now.upper }) first (IsNode-with c.args.network.now c.args.node.now c.in-Some.candidate node is_open) in
    let inherited = IsInherited-same c.args.network.now (with_chosen c.args.node.now c.in-Some.candidate) (record { inside = c.set.new.self; upper = c.args.node.now.upper }) (record { chosen = Some c.in-Some.candidate; none_shut = c.take_line.new.inherited.none_shut; unmet = None }) first
    (IsInherited-with c.args.network.now c.args.node.now c.in-Some.candidate c.take_line.new.inherited.none_shut
    (unrefuted-line c.args.network.now c.args.node.now c.in_ok-line.ensures.line.middle c.take_line.new.findings.best line c.in-Some.candidate split c.in_ok-line.ensures.line.here)) in
    (search rules, (within, (c.in_ok-write_piece.ensures.added.started, (child, (inherited, (c.in_ok-line.ensures.verdicts, (kept, c.in_ok-line.ensures.cuts)))))))

pub explore-requires-2 : goal.explore-requires-2
explore-requires-2 g t c κs within =
    let line = log_line_of c.take_line.new.findings.cuts.pool c.in_ok-line.line in
    let split = split_line c.take_line.new.findings.cuts.pool c.in_ok-line.line c.in-Some.candidate c.in-Some.ensures.some in
    let node : IsNode c.args.network.now c.args.node.now = search rules in
    let is_open : IsOpenAt c.args.network.now c.args.node.now c.in-Some.candidate =
    IsOpenAt-line c.args.network.now c.args.node.now c.in_ok-line.ensures.line.middle c.take_line.new.findings.best line c.in-Some.candidate split c.in_ok-line.ensures.line.here in
    let first : (record { inside = c.set.new.self; upper = c.args.node.now.upper }) ≡ with_chosen c.args.node.now c.in-Some.candidate =
    child_with c.args.node.now c.in-Some.candidate c.set.new.self c.set.ensures in
    let second : (record { inside = c.set-2.new.self; upper = c.set-3.new.self }) ≡ without_chosen c.args.node.now c.in-Some.candidate =
    child_without c.args.network.now c.args.node.now c.explore.new.node c.in-Some.candidate c.set-2.new.self c.set-3.new.self is_open (c.in_ok-explore.ensures.node ∙ first) c.set-2.ensures c.set-3.ensures in
    let falls : open_count c.set-2.new.self c.set-3.new.self < open_count c.args.node.now.inside c.args.node.now.upper =
    subst (λ (n : Node). open_count n.inside n.upper < open_count c.args.node.now.inside c.args.node.now.upper) (sym second)
    (open_count-without c.args.node.now.inside c.args.node.now.upper c.in-Some.candidate is_open.in_upper is_open.not_inside) in
    let child : IsNode c.args.network.now (record { inside = c.set-2.new.self; upper = c.set-3.new.self }) =
    IsNode-same c.args.network.now (without_chosen c.args.node.now c.in-Some.candidate) (record { inside = c.set-2.new.self; upper = c.set-3.new.self }) second (IsNode-without c.args.network.now c.args.node.now c.in-Some.candidate node is_open) in
    let inherited = IsInherited-same c.args.network.now (without_chosen c.args.node.now c.in-Some.candidate) (record { inside = c.set-2.new.self; upper = c.set-3.new.self }) (record { chosen = None; none_shut = false; unmet = c.take_line.new.inherited.unmet }) second
    (IsInherited-without c.args.network.now c.args.node.now c.in-Some.candidate c.take_line.new.inherited.unmet c.take_line.ensures.inherited) in
    (search rules, (within, (c.in_ok-explore.ensures.explored.added.started, (child, (inherited, (c.in_ok-explore.ensures.verdicts, (c.in_ok-explore.ensures.explored.done.kept, c.in_ok-explore.ensures.cuts)))))))

pub returns-in_err-explore-clause-refused : goal.returns-in_err-explore-clause-refused
returns-in_err-explore-clause-refused g t c =
    let line = log_line_of c.take_line.new.findings.cuts.pool c.in_ok-line.line in
    let split = split_line c.take_line.new.findings.cuts.pool c.in_ok-line.line c.in-Some.candidate c.in-Some.ensures.some in
    let is_open : IsOpenAt c.args.network.now c.args.node.now c.in-Some.candidate =
    IsOpenAt-line c.args.network.now c.args.node.now c.in_ok-line.ensures.line.middle c.take_line.new.findings.best line c.in-Some.candidate split c.in_ok-line.ensures.line.here in
    let spells =
    SpellsOn-split (named_cuts c.args.findings.now.cuts) (named_cuts c.take_line.new.findings.cuts) c.take_line.new.findings.buffer.items line c.in-Some.candidate split c.in_ok-line.ensures.spells in
    let added : AddsText c.args.name.now c.take_line.new.findings.buffer.items (g.H.Shelf.state c.args.shelf.now) (g.H.Shelf.state c.write_piece.new.shelf) =
    subst (λ (t : List ℕ). AddsText c.args.name.now t (g.H.Shelf.state c.args.shelf.now) (g.H.Shelf.state c.write_piece.new.shelf)) c.as_slice.ensures.value c.in_ok-write_piece.ensures.added in
    let first : (record { inside = c.set.new.self; upper = c.args.node.now.upper }) ≡ with_chosen c.args.node.now c.in-Some.candidate =
    child_with c.args.node.now c.in-Some.candidate c.set.new.self c.set.ensures in
    let p = err_from_is_err_and c.from_residual-in_err-explore.result c.from_residual-in_err-explore.ensures.1 in
    rw (p.1, p.2)
    (BreaksTree-first c.args.network.now c.args.node.now c.args.name.now c.take_line.new.findings.buffer.items (named_cuts c.args.findings.now.cuts) (named_cuts c.take_line.new.findings.cuts) c.in-Some.candidate c.in_err-explore.field-0.0
    (g.H.Shelf.state c.args.shelf.now)
    (g.H.Shelf.state c.write_piece.new.shelf)
    (g.H.Shelf.state c.explore.new.shelf)
    is_open spells added
    (BreaksTree-same c.args.network.now (with_chosen c.args.node.now c.in-Some.candidate) (record { inside = c.set.new.self; upper = c.args.node.now.upper }) c.args.name.now (named_cuts c.take_line.new.findings.cuts) c.in_err-explore.field-0.0
    (g.H.Shelf.state c.write_piece.new.shelf)
    (g.H.Shelf.state c.explore.new.shelf)
    first c.in_err-explore.ensures.refused))

pub returns-in_err-explore-2-clause-refused : goal.returns-in_err-explore-2-clause-refused
returns-in_err-explore-2-clause-refused g t c =
    let line = log_line_of c.take_line.new.findings.cuts.pool c.in_ok-line.line in
    let split = split_line c.take_line.new.findings.cuts.pool c.in_ok-line.line c.in-Some.candidate c.in-Some.ensures.some in
    let is_open : IsOpenAt c.args.network.now c.args.node.now c.in-Some.candidate =
    IsOpenAt-line c.args.network.now c.args.node.now c.in_ok-line.ensures.line.middle c.take_line.new.findings.best line c.in-Some.candidate split c.in_ok-line.ensures.line.here in
    let spells =
    SpellsOn-split (named_cuts c.args.findings.now.cuts) (named_cuts c.take_line.new.findings.cuts) c.take_line.new.findings.buffer.items line c.in-Some.candidate split c.in_ok-line.ensures.spells in
    let added : AddsText c.args.name.now c.take_line.new.findings.buffer.items (g.H.Shelf.state c.args.shelf.now) (g.H.Shelf.state c.write_piece.new.shelf) =
    subst (λ (t : List ℕ). AddsText c.args.name.now t (g.H.Shelf.state c.args.shelf.now) (g.H.Shelf.state c.write_piece.new.shelf)) c.as_slice.ensures.value c.in_ok-write_piece.ensures.added in
    let same =
    IsTrueBest-line c.args.network.now c.args.node.now c.in_ok-line.ensures.line.middle c.take_line.new.findings.best line c.in-Some.candidate split c.in_ok-line.ensures.line.here in
    let first : (record { inside = c.set.new.self; upper = c.args.node.now.upper }) ≡ with_chosen c.args.node.now c.in-Some.candidate =
    child_with c.args.node.now c.in-Some.candidate c.set.new.self c.set.ensures in
    let second : (record { inside = c.set-2.new.self; upper = c.set-3.new.self }) ≡ without_chosen c.args.node.now c.in-Some.candidate =
    child_without c.args.network.now c.args.node.now c.explore.new.node c.in-Some.candidate c.set-2.new.self c.set-3.new.self is_open (c.in_ok-explore.ensures.node ∙ first) c.set-2.ensures c.set-3.ensures in
    let p = err_from_is_err_and c.from_residual-in_err-explore-2.result c.from_residual-in_err-explore-2.ensures.1 in
    rw (p.1, p.2)
    (BreaksTree-second c.args.network.now c.args.node.now c.args.name.now c.take_line.new.findings.buffer.items (named_cuts c.args.findings.now.cuts) (named_cuts c.take_line.new.findings.cuts) (named_cuts c.explore.new.findings.cuts) c.in-Some.candidate c.in_err-explore-2.field-0.0
    c.in_ok-line.ensures.line.middle c.explore.new.findings.best c.take_line.new.findings.counts c.explore.new.findings.counts
    (g.H.Shelf.state c.args.shelf.now)
    (g.H.Shelf.state c.write_piece.new.shelf)
    (g.H.Shelf.state c.explore.new.shelf)
    (g.H.Shelf.state c.explore-2.new.shelf)
    is_open spells added
    (Explores-same c.args.network.now (with_chosen c.args.node.now c.in-Some.candidate) (record { inside = c.set.new.self; upper = c.args.node.now.upper }) c.args.name.now (named_cuts c.take_line.new.findings.cuts) (named_cuts c.explore.new.findings.cuts)
    c.take_line.new.findings.best c.in_ok-line.ensures.line.middle c.explore.new.findings.best c.take_line.new.findings.counts c.explore.new.findings.counts
    (g.H.Shelf.state c.write_piece.new.shelf)
    (g.H.Shelf.state c.explore.new.shelf)
    first same c.in_ok-explore.ensures.explored)
    (BreaksTree-same c.args.network.now (without_chosen c.args.node.now c.in-Some.candidate) (record { inside = c.set-2.new.self; upper = c.set-3.new.self }) c.args.name.now (named_cuts c.explore.new.findings.cuts) c.in_err-explore-2.field-0.0
    (g.H.Shelf.state c.explore.new.shelf)
    (g.H.Shelf.state c.explore-2.new.shelf)
    second c.in_err-explore-2.ensures.refused))

pub returns-clause-explored : goal.returns-clause-explored
returns-clause-explored g t c =
    let line = log_line_of c.take_line.new.findings.cuts.pool c.in_ok-line.line in
    let split = split_line c.take_line.new.findings.cuts.pool c.in_ok-line.line c.in-Some.candidate c.in-Some.ensures.some in
    let is_open : IsOpenAt c.args.network.now c.args.node.now c.in-Some.candidate =
    IsOpenAt-line c.args.network.now c.args.node.now c.in_ok-line.ensures.line.middle c.take_line.new.findings.best line c.in-Some.candidate split c.in_ok-line.ensures.line.here in
    let spells =
    SpellsOn-split (named_cuts c.args.findings.now.cuts) (named_cuts c.take_line.new.findings.cuts) c.take_line.new.findings.buffer.items line c.in-Some.candidate split c.in_ok-line.ensures.spells in
    let added : AddsText c.args.name.now c.take_line.new.findings.buffer.items (g.H.Shelf.state c.args.shelf.now) (g.H.Shelf.state c.write_piece.new.shelf) =
    subst (λ (t : List ℕ). AddsText c.args.name.now t (g.H.Shelf.state c.args.shelf.now) (g.H.Shelf.state c.write_piece.new.shelf)) c.as_slice.ensures.value c.in_ok-write_piece.ensures.added in
    let same =
    IsTrueBest-line c.args.network.now c.args.node.now c.in_ok-line.ensures.line.middle c.take_line.new.findings.best line c.in-Some.candidate split c.in_ok-line.ensures.line.here in
    let first : (record { inside = c.set.new.self; upper = c.args.node.now.upper }) ≡ with_chosen c.args.node.now c.in-Some.candidate =
    child_with c.args.node.now c.in-Some.candidate c.set.new.self c.set.ensures in
    let second : (record { inside = c.set-2.new.self; upper = c.set-3.new.self }) ≡ without_chosen c.args.node.now c.in-Some.candidate =
    child_without c.args.network.now c.args.node.now c.explore.new.node c.in-Some.candidate c.set-2.new.self c.set-3.new.self is_open (c.in_ok-explore.ensures.node ∙ first) c.set-2.ensures c.set-3.ensures in
    let counted =
    Counts-line c.args.findings.now.counts c.take_line.new.findings.counts line c.in-Some.candidate split c.in_ok-line.ensures.counted in
    Explores-after c.args.network.now c.args.node.now c.args.name.now (named_cuts c.args.findings.now.cuts) (named_cuts c.explore-2.new.findings.cuts) c.args.findings.now.best c.in_ok-line.ensures.line.middle c.explore-2.new.findings.best c.args.findings.now.counts c.explore-2.new.findings.counts
    (g.H.Shelf.state c.args.shelf.now)
    (g.H.Shelf.state c.explore-2.new.shelf)
    c.in_ok-line.ensures.line.offered
    (Explores-split c.args.network.now c.args.node.now c.args.name.now c.take_line.new.findings.buffer.items (named_cuts c.args.findings.now.cuts) (named_cuts c.take_line.new.findings.cuts) (named_cuts c.explore.new.findings.cuts) (named_cuts c.explore-2.new.findings.cuts) c.in-Some.candidate
    c.in_ok-line.ensures.line.middle c.explore.new.findings.best c.explore-2.new.findings.best
    c.args.findings.now.counts c.take_line.new.findings.counts c.explore.new.findings.counts c.explore-2.new.findings.counts
    (g.H.Shelf.state c.args.shelf.now)
    (g.H.Shelf.state c.write_piece.new.shelf)
    (g.H.Shelf.state c.explore.new.shelf)
    (g.H.Shelf.state c.explore-2.new.shelf)
    is_open (idle-line c.args.network.now c.args.node.now c.in_ok-line.ensures.line.middle c.take_line.new.findings.best line c.in-Some.candidate split c.in_ok-line.ensures.line.here) spells added counted
    (Explores-same c.args.network.now (with_chosen c.args.node.now c.in-Some.candidate) (record { inside = c.set.new.self; upper = c.args.node.now.upper }) c.args.name.now (named_cuts c.take_line.new.findings.cuts) (named_cuts c.explore.new.findings.cuts)
    c.take_line.new.findings.best c.in_ok-line.ensures.line.middle c.explore.new.findings.best c.take_line.new.findings.counts c.explore.new.findings.counts
    (g.H.Shelf.state c.write_piece.new.shelf)
    (g.H.Shelf.state c.explore.new.shelf)
    first same c.in_ok-explore.ensures.explored)
    (Explores-same c.args.network.now (without_chosen c.args.node.now c.in-Some.candidate) (record { inside = c.set-2.new.self; upper = c.set-3.new.self }) c.args.name.now (named_cuts c.explore.new.findings.cuts) (named_cuts c.explore-2.new.findings.cuts)
    c.explore.new.findings.best c.explore.new.findings.best c.explore-2.new.findings.best c.explore.new.findings.counts c.explore-2.new.findings.counts
    (g.H.Shelf.state c.explore.new.shelf)
    (g.H.Shelf.state c.explore-2.new.shelf)
    second refl c.in_ok-explore-2.ensures.explored))

pub returns-clause-node : goal.returns-clause-node
returns-clause-node g t c =
    let line = log_line_of c.take_line.new.findings.cuts.pool c.in_ok-line.line in
    let split = split_line c.take_line.new.findings.cuts.pool c.in_ok-line.line c.in-Some.candidate c.in-Some.ensures.some in
    let is_open : IsOpenAt c.args.network.now c.args.node.now c.in-Some.candidate =
    IsOpenAt-line c.args.network.now c.args.node.now c.in_ok-line.ensures.line.middle c.take_line.new.findings.best line c.in-Some.candidate split c.in_ok-line.ensures.line.here in
    let first : (record { inside = c.set.new.self; upper = c.args.node.now.upper }) ≡ with_chosen c.args.node.now c.in-Some.candidate =
    child_with c.args.node.now c.in-Some.candidate c.set.new.self c.set.ensures in
    let second : (record { inside = c.set-2.new.self; upper = c.set-3.new.self }) ≡ without_chosen c.args.node.now c.in-Some.candidate =
    child_without c.args.network.now c.args.node.now c.explore.new.node c.in-Some.candidate c.set-2.new.self c.set-3.new.self is_open (c.in_ok-explore.ensures.node ∙ first) c.set-2.ensures c.set-3.ensures in
    node_back c.args.network.now c.args.node.now c.explore-2.new.node c.in-Some.candidate c.set-4.new.self is_open (c.in_ok-explore-2.ensures.node ∙ second) c.set-4.ensures

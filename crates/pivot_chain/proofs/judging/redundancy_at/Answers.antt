use Rattle.std.proofs.Common.{rules, ◌≡◌, ◌∷◌, [], length, slice_get, Some, sym, ◌∙◌, ap, subst, w64, FitsSigned, pos, ◌-ℤ◌}
use Rattle.std.proofs.lemmas.Int.{to_z-of_z}
use Rattle.std.proofs.lemmas.List.{with_items_is}
use Rattle.std.proofs.lemmas.Option.{same_Some}
use Rattle.geo_model.specs.Candidate.{CandidateOf}
use Rattle.geo_model.specs.Limit.{SquareOf}
use Rattle.geo_model.specs.Network.{IsLimit}
use Rattle.geo_model.specs.Row.{RowOf}
use Rattle.geo_model.specs.Values.{row_square, row_limit}
use Rattle.geo_model.proofs.RowLoads.{network-row-load}
use Rattle.pivot_chain.specs.Room.{RoomOf}
use Rattle.pivot_chain.specs.Verdict.{verdict_of}
use Rattle.pivot_chain.proofs.Judged.{verdict_on_limit}
use Rattle.pivot_chain.proofs.Values.{found_at, load_along, read_at, read_square, row_limit_bounded, met_there, refuted_there}
use Rattle.pivot_chain.proofs.Verdicts.{open_interval}
use Rattle.pivot_chain.proofs.judging.redundancy_at.Goals as goal

pub verdict_on-requires-clause-bounds : goal.verdict_on-requires-clause-bounds
verdict_on-requires-clause-bounds c =
    let g : FitsSigned w64 c.redundancy_factor-factor.result = search rules in
    let candidate = c.index-candidates-candidate.result in
    let row = c.index-observed.result.now in
    let found = found_at c.args.network.now.candidates c.candidates.result.now c.args.candidate candidate c.candidates.ensures.value c.requires.candidate c.index-candidates-candidate.is in
    let rows = ap (λ (v : CandidateOf). v.rows) c.offered.view_is in
    let there = read_at candidate.rows c.args.row row _ (c.requires.row candidate found) (rw rows at c.index-observed.ensures) in
    let places = c.write_row.ensures.kept.places ∙ sym (c.room.inside.squares.ok.0 ∙ (ap (λ (v : RoomOf). length v.squares) c.room.view_is ∙ c.requires.room.squares.places)) in
    let kept = with_items_is c.room.inside.squares c.write_row.new.squares places in
    let square = read_square c.write_row.new.squares (length c.entries.result.now) (length row.entries) _ c.index.result.now row (rw kept at c.index.ensures) (ap length c.entries.ensures) c.write_row.ensures.square in
    let squares = c.from_ref-square.ensures.value ∙ ap (λ (q : SquareOf). q ∷ []) square in
    simp (to_z-of_z, g)
    (load_along c.args.network.now (pos 1000 -ℤ pos c.args.value) c.redundancy_factor-factor.result (row_square row ∷ []) c.from_ref-square.result.now
    c.redundancy_factor-factor.ensures squares
    (network-row-load c.args.network.now c.args.candidate c.args.row c.args.value candidate row c.candidates.ensures.bounds c.requires.high found there))

-- what was looked up
found : (c : goal.After-verdict_on) → slice_get c.args.network.now.candidates c.args.candidate ≡ Some c.index-candidates-candidate.result
found c = found_at c.args.network.now.candidates c.candidates.result.now c.args.candidate c.index-candidates-candidate.result c.candidates.ensures.value c.requires.candidate c.index-candidates-candidate.is

there : (c : goal.After-verdict_on) → slice_get c.index-candidates-candidate.result.rows c.args.row ≡ Some c.index-observed.result.now
there c =
    let rows = ap (λ (v : CandidateOf). v.rows) c.offered.view_is in
    read_at c.index-candidates-candidate.result.rows c.args.row c.index-observed.result.now _ (c.requires.row c.index-candidates-candidate.result (found c)) (rw rows at c.index-observed.ensures)

judged : (c : goal.After-verdict_on) → c.verdict_on.result ≡ verdict_of c.args.network.now c.args.plan.now (row_limit c.args.candidate c.args.row c.index-observed.result.now c.args.value)
judged c =
    let g : FitsSigned w64 c.redundancy_factor-factor.result = search rules in
    let row = c.index-observed.result.now in
    let places = c.write_row.ensures.kept.places ∙ sym (c.room.inside.squares.ok.0 ∙ (ap (λ (v : RoomOf). length v.squares) c.room.view_is ∙ c.requires.room.squares.places)) in
    let kept = with_items_is c.room.inside.squares c.write_row.new.squares places in
    let square = read_square c.write_row.new.squares (length c.entries.result.now) (length row.entries) _ c.index.result.now row (rw kept at c.index.ensures) (ap length c.entries.ensures) c.write_row.ensures.square in
    let squares = c.from_ref-square.ensures.value ∙ ap (λ (q : SquareOf). q ∷ []) square in
    let known = simp (to_z-of_z, g) at c.verdict_on.ensures.exact in
    known
    ∙ verdict_on_limit c.args.network.now c.args.plan.now c.redundancy_factor-factor.result c.from_ref-square.result.now (row_limit c.args.candidate c.args.row row c.args.value) (sym c.redundancy_factor-factor.ensures) (sym squares)

is_limit : (c : goal.After-verdict_on) → IsLimit c.args.network.now (row_limit c.args.candidate c.args.row c.index-observed.result.now c.args.value)
is_limit c =
    row_limit_bounded c.args.network.now c.args.candidate c.args.row c.args.value c.index-candidates-candidate.result c.index-observed.result.now c.candidates.ensures.bounds c.requires.high (found c) (there c)

same_row : (c : goal.After-verdict_on) (candidate : CandidateOf) (row : RowOf) → slice_get c.args.network.now.candidates c.args.candidate ≡ Some candidate
    → slice_get candidate.rows c.args.row ≡ Some row → c.index-observed.result.now ≡ row
same_row c candidate row e f =
    let same = same_Some c.index-candidates-candidate.result candidate (sym (found c) ∙ e) in
    same_Some c.index-observed.result.now row (sym (subst (λ (v : CandidateOf). slice_get v.rows c.args.row ≡ Some c.index-observed.result.now) same (there c)) ∙ f)

exact : (c : goal.After-verdict_on) (candidate : CandidateOf) (row : RowOf) → slice_get c.args.network.now.candidates c.args.candidate ≡ Some candidate
    → slice_get candidate.rows c.args.row ≡ Some row → c.verdict_on.result ≡ verdict_of c.args.network.now c.args.plan.now (row_limit c.args.candidate c.args.row row c.args.value)
exact c candidate row e f =
    judged c ∙ ap (λ (r : RowOf). verdict_of c.args.network.now c.args.plan.now (row_limit c.args.candidate c.args.row r c.args.value)) (same_row c candidate row e f)

limit_there : (c : goal.After-verdict_on) (candidate : CandidateOf) (row : RowOf) → slice_get c.args.network.now.candidates c.args.candidate ≡ Some candidate
    → slice_get candidate.rows c.args.row ≡ Some row → IsLimit c.args.network.now (row_limit c.args.candidate c.args.row row c.args.value)
limit_there c candidate row e f = subst (λ (r : RowOf). IsLimit c.args.network.now (row_limit c.args.candidate c.args.row r c.args.value)) (same_row c candidate row e f) (is_limit c)

pub returns-clause-exact : goal.returns-clause-exact
returns-clause-exact c = exact c

pub returns-clause-met : goal.returns-clause-met
returns-clause-met c = λ candidate row e f met.
    met_there c.args.network.now c.args.plan.now (row_limit c.args.candidate c.args.row row c.args.value) c.verdict_on.result c.candidates.ensures.bounds
    (limit_there c candidate row e f) (exact c candidate row e f) met

pub returns-clause-refuted : goal.returns-clause-refuted
returns-clause-refuted c = λ candidate row e f refuted.
    refuted_there c.args.network.now c.args.plan.now (row_limit c.args.candidate c.args.row row c.args.value) c.verdict_on.result c.candidates.ensures.bounds
    (limit_there c candidate row e f) (exact c candidate row e f) refuted

pub returns-clause-interval : goal.returns-clause-interval
returns-clause-interval c = λ step lo hi e.
    open_interval c.args.network.now c.args.plan.now (row_limit c.args.candidate c.args.row c.index-observed.result.now c.args.value) step lo hi (sym (judged c) ∙ e)

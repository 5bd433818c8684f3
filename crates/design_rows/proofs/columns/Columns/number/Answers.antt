use Rattle.std.proofs.Common.{◌≡◌, ◌∙◌, ◌++◌, List, ap, sym, subst}
use Rattle.std.specs.List.{enumerate_from, flat_map}
use Rattle.geo_model.specs.declared.network.Unknown.{Unknown}
use Rattle.point_tables.specs.declared.record.PointRecord.{PointRecord}
use Rattle.candidate_tables.specs.declared.record.CandidateRecord.{CandidateRecord}
use Rattle.design_rows.specs.Bounds.{AreUnknowns}
use Rattle.design_rows.specs.Unknowns.{coordinates, orientation, unknowns_of}
use Rattle.design_rows.proofs.UnknownFacts.{are-unknowns}
use Rattle.design_rows.proofs.columns.Columns.number.Goals as goal

-- the coordinates, and then the orientations
both : (points : List PointRecord) (candidates : List CandidateRecord) (first all : List Unknown) → first ≡ flat_map coordinates (enumerate_from 0 points)
    → all ≡ first ++ flat_map (orientation candidates) (enumerate_from 0 points) → all ≡ unknowns_of points candidates
unfolding unknowns_of
both points candidates first all is more = more ∙ ap (λ (us : List Unknown). us ++ flat_map (orientation candidates) (enumerate_from 0 points)) is

pub invariant_of-result : goal.invariant_of-result
invariant_of-result c =
    subst AreUnknowns
    (sym (both c.args.points.now c.args.candidates.now c.in_ok-unknowns.unknowns.items c.push_orientations.new.unknowns.items c.in_ok-unknowns.ensures.value c.in_ok-push_orientations.ensures))
    (are-unknowns c.args.points.now c.args.candidates.now c.coordinates_of.ensures.few)

pub returns : goal.returns
returns c =
    both c.args.points.now c.args.candidates.now c.in_ok-unknowns.unknowns.items c.push_orientations.new.unknowns.items c.in_ok-unknowns.ensures.value c.in_ok-push_orientations.ensures

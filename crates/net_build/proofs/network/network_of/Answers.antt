use Rattle.std.proofs.Common.{◌≡◌, ◌∙◌, ◌≤◌, List, ap, sym, subst, arith}
use Rattle.std.specs.Prelude.{sum_by, length}
use Rattle.geo_model.specs.Candidate.{CandidateOf}
use Rattle.geo_model.specs.Network.{IsNetwork, NetworkOf}
use Rattle.net_build.specs.Build.{limits_of, network_of}
use Rattle.net_build.proofs.PartFacts.{network-is}
use Rattle.net_build.proofs.NetworkFacts.{network-bounded, rows-most}
use Rattle.net_build.proofs.network.network_of.Goals as goal

pub limits_of-requires-clause-rows : goal.limits_of-requires-clause-rows
limits_of-requires-clause-rows c =
    let few : sum_by (λ (candidate : CandidateOf). length candidate.rows) c.as_slice.result.now ≤ 512 =
    rows-most c.args.points.now c.args.candidates.now c.args.columns.now c.as_slice.result.now c.requires.small c.requires.numbered (c.as_slice.ensures.value ∙ c.in_ok-built.ensures) in
    omega (arith, few)

pub new-requires : goal.new-requires
new-requires c =
    let same = network-is c.args.points.now c.args.candidates.now c.args.q c.args.columns.now c.in_ok-unknowns.unknowns.items c.in_ok-built.built.items c.in_ok-limits.limits.items
    c.requires.numbered (c.in_ok-unknowns.ensures.items ∙ c.unknowns.ensures.value) c.in_ok-built.ensures
    (c.in_ok-limits.ensures.limits ∙ ap (λ (l : List CandidateOf). limits_of c.args.q c.args.points.now c.args.columns.now l) c.as_slice.ensures.value) in
    let bounded = network-bounded c.args.points.now c.args.candidates.now c.args.q
    (record { accepted = c.in_ok-limits.ensures.accepted; against = c.requires.accepted; small = c.requires.small; redundancy = c.requires.redundancy }) in
    subst (λ (network : NetworkOf). IsNetwork network) (sym same) bounded.0

-- the network that was made
made : (c : goal.After-new) → c.new.result ≡ network_of c.args.points.now c.args.candidates.now c.args.q
made c =
    c.new.ensures
    ∙ network-is c.args.points.now c.args.candidates.now c.args.q c.args.columns.now c.in_ok-unknowns.unknowns.items c.in_ok-built.built.items c.in_ok-limits.limits.items
    c.requires.numbered (c.in_ok-unknowns.ensures.items ∙ c.unknowns.ensures.value) c.in_ok-built.ensures
    (c.in_ok-limits.ensures.limits ∙ ap (λ (l : List CandidateOf). limits_of c.args.q c.args.points.now c.args.columns.now l) c.as_slice.ensures.value)

-- the network of these tables is within the bounds of networks
tables : (c : goal.After-new) → IsNetwork (network_of c.args.points.now c.args.candidates.now c.args.q) × (length (network_of c.args.points.now c.args.candidates.now c.args.q).limits ≤ 576)
tables c =
    network-bounded c.args.points.now c.args.candidates.now c.args.q
    (record { accepted = c.in_ok-limits.ensures.accepted; against = c.requires.accepted; small = c.requires.small; redundancy = c.requires.redundancy })

pub returns-clause-network : goal.returns-clause-network
returns-clause-network c = made c

pub returns-clause-bounds : goal.returns-clause-bounds
returns-clause-bounds c = subst (λ (network : NetworkOf). IsNetwork network) (sym (made c)) (tables c).0

pub returns-clause-few : goal.returns-clause-few
returns-clause-few c = subst (λ (network : NetworkOf). length network.limits ≤ 576) (sym (made c)) (tables c).1

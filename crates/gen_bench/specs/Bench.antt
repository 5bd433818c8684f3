-- A run over the network of a seed. This project's own.
use Rattle.std.specs.Prelude.{◌≡◌, ℕ, ◌<◌, List, ◌++◌, Bool, true, false, codes}
use Rattle.std.specs.Fmt.{decimal}
use Rattle.geo_model.specs.Meeting.{MeetsLimits}
use Rattle.geo_model.specs.Network.{NetworkOf, IsNetwork}
use Rattle.geo_model.specs.Prices.{price_of}
use Rattle.geo_model.specs.declared.answer.Counts.{Counts}
use Rattle.point_tables.specs.PointTable.{points_of}
use Rattle.point_tables.specs.declared.record.PointRecord.{PointRecord}
use Rattle.candidate_tables.specs.CandidateTable.{candidates_of}
use Rattle.candidate_tables.specs.declared.record.CandidateRecord.{CandidateRecord}
use Rattle.bound_log.specs.declared.bound.Bound.TheVariants.{AtLeast}
use Rattle.bound_log.specs.LogTree.{root_of}
use Rattle.bound_log.specs.Placed.{placed}
use Rattle.bound_log.specs.Sound.{IsLowerBound}
use Rattle.idle_splits.specs.NoIdle.{NoSplitIsIdle}
use Rattle.branch_bound.specs.Searched.{IsCertified, IsUnsettled}
use Rattle.log_check.specs.Replayed.{IsReplayed}
use Rattle.log_check.specs.declared.replaying.Replayed.{Replayed}
use Rattle.gen_net.specs.Candidates.{candidates_text}
use Rattle.gen_net.specs.Points.{points_text}
use Rattle.gen_feasible.specs.Feasible.{IsGeneratedSize, network_of_texts}
use Rattle.plan_report.specs.ReportText.{price_text, counts_text, bound_text}

-- what the generated tables of a seed are read as
abbrev pub seed_points : ℕ → List PointRecord
seed_points seed = points_of (points_text seed)

abbrev pub seed_candidates : ℕ → List CandidateRecord
seed_candidates seed = candidates_of (seed_points seed) (candidates_text seed)

-- .. with their network, for a redundancy limit of 200 thousandths
abbrev pub seed_network : ℕ → NetworkOf
seed_network seed = network_of_texts (points_text seed) (candidates_text seed)

-- ---- the summary

-- whether the plan is certified, or not decided
abbrev pub answer_word : Bool → List ℕ
answer_word true = codes "plan\n"
answer_word false = codes "undecided\n"

-- the seed, the size of its network, whether the plan is decided, its price, and what the replay of the log answers
unfoldable pub bench_text : ℕ → Bool → ℕ → Replayed → List ℕ
bench_text seed is_decided price done =
    codes "seed " ++ (decimal seed
    ++ (codes "\ncandidates 28\nunknowns 17\nrows 48\nlimits 58\n"
    ++ (answer_word is_decided ++ (price_text (codes "cost ") price ++ (counts_text done.counts ++ bound_text done.bound)))))

-- ---- what a run shows

-- Some log of the network, which is of the printed size, has this bound and these counts of its lines, and none of its
-- splits is idle. So every plan that meets the limits costs at least the bound.
pub record IsProved (network : NetworkOf) (done : Replayed) : Type 0 where
  pub log : List ℕ
  pub bounds : IsNetwork network
  pub size : IsGeneratedSize network
  pub replayed : IsReplayed network log done
  pub no_idle : NoSplitIsIdle network (placed (root_of network) replayed.tree)
  pub lower : IsLowerBound network done.bound

-- what a replay answers where the bound is the price of a plan
abbrev pub priced_at : NetworkOf → List Bool → Counts → Replayed
priced_at network plan counts = record { bound = AtLeast (price_of network plan); counts = counts }

-- a certified plan: it meets every limit for all whole-number displacements, and no plan that meets them costs less
pub record BenchesPlan (seed : ℕ) (text : List ℕ) : Type 0 where
  pub plan : List Bool
  pub counts : Counts
  pub proved : IsProved (seed_network seed) (priced_at (seed_network seed) plan counts)
  pub certified : IsCertified (seed_network seed) plan
  pub meets : MeetsLimits (seed_network seed) plan
  pub printed : text ≡ bench_text seed true (price_of (seed_network seed) plan) (priced_at (seed_network seed) plan counts)

-- a plan that is neither certified nor refuted: every certified plan costs more, and no plan that meets the limits costs less
pub record BenchesOpen (seed : ℕ) (text : List ℕ) : Type 0 where
  pub plan : List Bool
  pub counts : Counts
  pub proved : IsProved (seed_network seed) (priced_at (seed_network seed) plan counts)
  pub unsettled : IsUnsettled (seed_network seed) plan
  pub dearer : (other : List Bool) → IsCertified (seed_network seed) other → price_of (seed_network seed) plan < price_of (seed_network seed) other
  pub printed : text ≡ bench_text seed false (price_of (seed_network seed) plan) (priced_at (seed_network seed) plan counts)

-- one or the other: some plan meets the limits of the network of each seed, so that none does isn't answered
abbrev pub IsBench : ℕ → Bool → List ℕ → Type 0
IsBench seed true text = BenchesPlan seed text
IsBench seed false text = BenchesOpen seed text

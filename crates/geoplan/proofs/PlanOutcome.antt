-- What stands once the network of the tables is searched, and its answer is reported.
use Rattle.std.proofs.Common.{◌≡◌, ◌⊎◌, inl, inr, ℕ, Bool, List, [], refl, sym, ap, ◌∙◌, subst, Some, Result, Ok, Err, Vec, Global, slice_get, ℤ}
use Rattle.std.specs.Prelude.{IfOk, MatchResult}
use Rattle.std.proofs.lemmas.Option.{slice_get_within}
use Rattle.geo_base.specs.declared.no_memory.NoMemory.{NoMemory}
use Rattle.geo_model.specs.Limit.{LimitOf}
use Rattle.shelf_io.specs.Files.{with_bytes}
use Rattle.shelf_io.specs.Faults.{Rose, KeepsFaults}
use Rattle.shelf_io.specs.States.{ShelfState}
use Rattle.branch_bound.specs.declared.search_fault.SearchFault.{SearchFault}
use Rattle.branch_bound.specs.declared.search_fault.SearchFault.TheVariants as search
use Rattle.branch_bound.specs.Searched.{IsAnswer, IsCertified}
use Rattle.geo_model.specs.Prices.{price_of}
use Rattle.geo_model.specs.Network.{IsNetwork, NetworkOf}
use Rattle.point_tables.specs.declared.record.PointRecord.{PointRecord}
use Rattle.candidate_tables.specs.declared.record.CandidateRecord.{CandidateRecord}
use Rattle.geo_model.specs.declared.answer.Answer.{Answer}
use Rattle.geo_model.specs.declared.answer.Answer.TheVariants as answer
use Rattle.geo_model.specs.declared.answer.Counts.{Counts}
use Rattle.geo_model.specs.declared.answer.SearchDone.{SearchDone}
use Rattle.bound_log.specs.declared.bound.Bound.{Bound}
use Rattle.bound_log.specs.declared.bound.Bound.TheVariants.{NoPlan, AtLeast}
use Rattle.bound_log.specs.LogTree.{root_of, HasBound, bound_at}
use Rattle.bound_log.proofs.SoundLemmas.{HasBound-below}
use Rattle.pivot_chain.proofs.Verdicts.{certified_meets}
use Rattle.log_check.specs.declared.replaying.Replayed.{Replayed}
use Rattle.geoplan.specs.declared.status.Status.{Status}
use Rattle.geoplan.specs.declared.status.Status.TheVariants as status
use Rattle.geoplan.specs.declared.verb.Verb.{Verb}
use Rattle.geoplan.specs.declared.verb.Verb.TheVariants as verb
use Rattle.geoplan.specs.CommandOf.{SourcesOf}
use Rattle.geoplan.specs.Ends.{Began}
use Rattle.geoplan.specs.Loading.{LoadsTables, Loads, IsGoodNetwork, Means}
use Rattle.geoplan.specs.Outcomes.{LeavesLog, BeganLog, priced}
use Rattle.geoplan.specs.Reporting.{Ends, status_of, Reports, HasNoText}
use Rattle.geoplan.specs.Solving.{Solves, FailsSolve, Plans}
use Rattle.geoplan.specs.Standing.{IsOutcomeOf}
use Rattle.geoplan.specs.Tables.{TablesOf}
use Rattle.plan_report.specs.Reported.{IsAnswerFor, IsNetworkFor, IsReport}
use Rattle.plan_report.specs.ReportText.{no_plan_text}
use Rattle.geoplan.specs.Texts.{tables_plan_text, tables_undecided_text}
use Rattle.geoplan.proofs.LoadLemmas.{keeps, ReadsAll-none, Loads-all}
use Rattle.geoplan.proofs.PlanFacts.{reads_tables, whole_began}

-- ---- a search and its report

-- the log of a search that is done
leaves_log : (tables : TablesOf) (name : List ℕ) (done : SearchDone) (before now : ShelfState) → IsNetwork tables.network → (solved : Solves tables name done before now) → LeavesLog tables name (record { bound = bound_at tables.network (root_of tables.network) solved.tree; counts = done.counts }) before now
leaves_log tables name done before now network solved =
    let shown : HasBound tables.network solved.text (bound_at tables.network (root_of tables.network) solved.tree) =
    record { tree = solved.tree; log = solved.spelled; least = refl } in
    record {
      log = solved.text;
      network = network;
      replayed = record { tree = solved.tree; log = shown.log; least = refl; counted = solved.searched.counted };
      lower = HasBound-below tables.network solved.text (bound_at tables.network (root_of tables.network) solved.tree) network shown;
      no_idle = solved.searched.no_idle;
      written = solved.written;
      quiet = solved.quiet;
    }

-- the report of an open limit
of_limit : (tables : TablesOf) (plan : List Bool) (counts : Counts) (number step : ℕ) (lo hi : ℤ) (ends : Status) (text : List ℕ) (limit : LimitOf) → slice_get tables.network.limits number ≡ Some limit
    → Reports tables counts (answer.Undecided plan number step lo hi) ends text → Ends status.Undecided (tables_undecided_text tables plan counts limit.kind step lo hi) ends text
of_limit tables plan counts number step lo hi ends text limit named (inl (is, said)) = inl (is, said limit named)
of_limit tables plan counts number step lo hi ends text limit named (inr none) = inr none

-- a report, where there was memory for it
pub reports_made : (tables : TablesOf) (counts : Counts) (given : Answer) (meant ends : Status) (text : List ℕ) (made : Result (Vec ℕ Global) NoMemory)
    → meant ≡ status_of given → IfOk made (λ words. IsReport tables.points tables.candidates tables.redundancy tables.network counts given words.items)
    → MatchResult made (λ words. Ends meant words.items ends text) (λ _. HasNoText ends text) → Reports tables counts given ends text
reports_made tables counts given meant ends text (Ok words) same is (inl (ended, said)) =
    inl (ended ∙ same, subst (IsReport tables.points tables.candidates tables.redundancy tables.network counts given) (sym said) is)
reports_made tables counts given meant ends text (Ok words) same is (inr none) = inr none
reports_made tables counts given meant ends text (Err why) same is none = inr none

-- .. of the parts of tables, as they are lent
module _ (tables : TablesOf) (points : List PointRecord) (candidates : List CandidateRecord) (q : ℕ) (network : NetworkOf)
    (same_points : points ≡ tables.points) (same_candidates : candidates ≡ tables.candidates) (same_q : q ≡ tables.redundancy) (same_network : network ≡ tables.network)
  where
    pub network_along : IsNetworkFor tables.points tables.candidates tables.redundancy tables.network → IsNetworkFor points candidates q network
    network_along is =
        subst (λ p. IsNetworkFor p candidates q network) (sym same_points)
        (subst (λ c. IsNetworkFor tables.points c q network) (sym same_candidates)
        (subst (λ k. IsNetworkFor tables.points tables.candidates k network) (sym same_q)
        (subst (λ n. IsNetworkFor tables.points tables.candidates tables.redundancy n) (sym same_network) is)))

    pub report_along : (counts : Counts) (given : Answer) (made : Result (Vec ℕ Global) NoMemory) → IfOk made (λ words. IsReport points candidates q network counts given words.items)
        → IfOk made (λ words. IsReport tables.points tables.candidates tables.redundancy tables.network counts given words.items)
    report_along counts given made is =
        subst (λ p. IfOk made (λ words. IsReport p tables.candidates tables.redundancy tables.network counts given words.items)) same_points
        (subst (λ c. IfOk made (λ words. IsReport points c tables.redundancy tables.network counts given words.items)) same_candidates
        (subst (λ k. IfOk made (λ words. IsReport points candidates k tables.network counts given words.items)) same_q
        (subst (λ n. IfOk made (λ words. IsReport points candidates q n counts given words.items)) same_network is)))

module _ (tables : TablesOf) (name : List ℕ) (before now : ShelfState) (bound : Bound) (counts : Counts) (leaves : LeavesLog tables name (record { bound = bound; counts = counts }) before now) (ends : Status) (text : List ℕ) where
  -- with a whole log memory ran out
  out_after : ends ≡ status.NoMemory → text ≡ [] → Plans tables name before now ends text
  out_after is none = subst (λ s. Plans tables name before now s text) (sym is) (record {
    held = inr (whole_began tables name (record { bound = bound; counts = counts }) before now leaves);
    quiet = leaves.quiet;
    printed = none;
  })

  -- a status with its text, or that memory ran out
  ended : (meant : Status) (words : List ℕ) → (text ≡ words → Plans tables name before now meant text) → Ends meant words ends text → Plans tables name before now ends text
  ended meant words stands (inl (is, said)) = subst (λ s. Plans tables name before now s text) (sym is) (stands said)
  ended meant words stands (inr (is, none)) = out_after is none

  -- the log with the bound of the answer
  leaves_as : (other : Bound) → bound ≡ other → LeavesLog tables name (record { bound = other; counts = counts }) before now
  leaves_as other is = subst (λ b. LeavesLog tables name (record { bound = b; counts = counts }) before now) is leaves

  -- no plan is certified where the bound says that none meets the limits
  uncertified : LeavesLog tables name (record { bound = NoPlan; counts = counts }) before now → (plan : List Bool) → IsCertified tables.network plan → ⊥
  uncertified none plan certified = none.lower plan certified.long (certified_meets tables.network plan none.network certified.certified)

  by_answer : Means tables → (given : Answer) → IsAnswer tables.network bound given → Reports tables counts given ends text → Plans tables name before now ends text
  by_answer means (answer.Best plan) is reports =
      ended status.Found (tables_plan_text tables plan counts)
      (λ said. record {
        plan = plan;
        counts = counts;
        leaves = leaves_as (AtLeast (price_of tables.network plan)) is.price;
        certified = is.certified;
        meets = certified_meets tables.network plan leaves.network is.certified.certified;
        precise = means plan (certified_meets tables.network plan leaves.network is.certified.certified);
        printed = said;
      }) reports
  by_answer means answer.NoPlan is reports =
      ended status.NoPlan (no_plan_text counts)
      (λ said. record { counts = counts; leaves = leaves_as NoPlan is; uncertified = uncertified (leaves_as NoPlan is); printed = said }) reports
  by_answer means (answer.Undecided plan number step lo hi) is reports =
      ended status.Undecided (tables_undecided_text tables plan counts is.open_limit.here.limit.kind step lo hi)
      (λ said. record {
        plan = plan;
        number = number;
        step = step;
        lo = lo;
        hi = hi;
        counts = counts;
        leaves = leaves_as (AtLeast (price_of tables.network plan)) is.price;
        unsettled = is.unsettled;
        dearer = is.dearer;
        open_limit = is.open_limit;
        printed = said;
      })
      (of_limit tables plan counts number step lo hi ends text is.open_limit.here.limit is.open_limit.here.named reports)

-- once the search is done and its answer is reported
pub Plans-reported : (tables : TablesOf) (name : List ℕ) (done : SearchDone) (before now : ShelfState) (ends : Status) (text : List ℕ) → IsGoodNetwork tables → Solves tables name done before now → Reports tables done.counts done.answer ends text → Plans tables name before now ends text
Plans-reported tables name done before now ends text good solved reports =
    by_answer tables name before now (bound_at tables.network (root_of tables.network) solved.tree) done.counts (leaves_log tables name done before now good.bounds solved) ends text good.means done.answer solved.searched.answered reports

-- once a write of the log failed
pub Plans-unwritten : (tables : TablesOf) (name : List ℕ) (why : SearchFault) (before now : ShelfState) (ends : Status) (text : List ℕ) → FailsSolve tables name why before now → why ≡ search.WriteFault → ends ≡ status.WriteFault → text ≡ [] → Plans tables name before now ends text
Plans-unwritten tables name why before now ends text failed is ended none =
    let fault = failed.failed is in
    subst (λ s. Plans tables name before now s text) (sym ended) (record { rose = fault.0; last = fault.1; held = failed.held }, none)

-- once memory ran out
pub Plans-out : (tables : TablesOf) (name : List ℕ) (why : SearchFault) (before now : ShelfState) (ends : Status) (text : List ℕ) → FailsSolve tables name why before now → why ≡ search.NoMemory → ends ≡ status.NoMemory → text ≡ [] → Plans tables name before now ends text
Plans-out tables name why before now ends text failed is ended none =
    subst (λ s. Plans tables name before now s text) (sym ended) (record { held = failed.held; quiet = failed.no_memory is; printed = none })

-- the answer of a search can be reported
can_report : (tables : TablesOf) (bound : Bound) (given : Answer) → IsAnswer tables.network bound given → IsAnswerFor tables.network given
can_report tables bound (answer.Best plan) is = is.certified.long
can_report tables bound answer.NoPlan is = tt
can_report tables bound (answer.Undecided plan number step lo hi) is = (is.unsettled.long, slice_get_within tables.network.limits number is.open_limit.here.limit is.open_limit.here.named)

pub CanReport-solved : (tables : TablesOf) (log : List ℕ) (done : SearchDone) (before now : ShelfState) → Solves tables log done before now → IsAnswerFor tables.network done.answer
CanReport-solved tables log done before now solved = can_report tables (bound_at tables.network (root_of tables.network) solved.tree) done.answer solved.searched.answered

-- ---- after the files were loaded

-- what a search does is done to what the shelf held before the files were read
module _ (tables : TablesOf) (name : List ℕ) (before middle now : ShelfState) (held : middle.held ≡ before.held) (quiet : KeepsFaults before middle) where
  LeavesLog-before : (done : Replayed) → LeavesLog tables name done middle now → LeavesLog tables name done before now
  LeavesLog-before done leaves = record {
    log = leaves.log;
    network = leaves.network;
    replayed = leaves.replayed;
    lower = leaves.lower;
    no_idle = leaves.no_idle;
    written = leaves.written ∙ ap (λ files. with_bytes files name leaves.log) held;
    quiet = keeps before middle now leaves.quiet quiet;
  }

  held_before : (now.held ≡ middle.held) ⊎ BeganLog tables name middle.held now.held → (now.held ≡ before.held) ⊎ BeganLog tables name before.held now.held
  held_before (inl same) = inl (same ∙ held)
  held_before (inr began) = inr (subst (λ files. BeganLog tables name files now.held) held began)

  Plans-before : (ends : Status) (text : List ℕ) → Plans tables name middle now ends text → Plans tables name before now ends text
  Plans-before status.Found text found = record {
    plan = found.plan;
    counts = found.counts;
    leaves = LeavesLog-before (priced (price_of tables.network found.plan) found.counts) found.leaves;
    certified = found.certified;
    meets = found.meets;
    precise = found.precise;
    printed = found.printed;
  }
  Plans-before status.NoPlan text found = record {
    counts = found.counts;
    leaves = LeavesLog-before (record { bound = NoPlan; counts = found.counts }) found.leaves;
    uncertified = found.uncertified;
    printed = found.printed;
  }
  Plans-before status.WordsRefused text never = absurd never
  Plans-before status.TableRefused text never = absurd never
  Plans-before status.Undecided text left = record {
    plan = left.plan;
    number = left.number;
    step = left.step;
    lo = left.lo;
    hi = left.hi;
    counts = left.counts;
    leaves = LeavesLog-before (priced (price_of tables.network left.plan) left.counts) left.leaves;
    unsettled = left.unsettled;
    dearer = left.dearer;
    open_limit = left.open_limit;
    printed = left.printed;
  }
  Plans-before status.ReadFault text never = absurd never
  Plans-before status.WriteFault text (failed, none) =
      (record { rose = subst (λ n. Rose n now.faults) quiet.same_count failed.rose; last = failed.last; held = held_before failed.held }, none)
  Plans-before status.NoMemory text out = record { held = held_before out.held; quiet = keeps before middle now out.quiet quiet; printed = out.printed }
  Plans-before status.LogRefused text never = absurd never
  Plans-before status.FileTooLong text never = absurd never
  Plans-before status.TooManyCuts text never = absurd never

-- ---- the outcome

-- `plan`
module _ (sources : SourcesOf) (tables : TablesOf) (before middle now : ShelfState) (has : Loads (record { verb = verb.Plan; sources = sources }) tables before middle) where
  planned : (ends : Status) (text : List ℕ) → Plans tables sources.log before now ends text → IsOutcomeOf (record { verb = verb.Plan; sources = sources }) before now ends text
  planned status.Found text found = (tables, has.input, found)
  planned status.NoPlan text found = (tables, has.input, found)
  planned status.WordsRefused text never = absurd never
  planned status.TableRefused text never = absurd never
  planned status.Undecided text left = (tables, has.input, left)
  planned status.ReadFault text never = absurd never
  planned status.WriteFault text (failed, none) = ((tables, has.input, failed), none)
  planned status.NoMemory text out = record { held = began out.held; cause = inl out.quiet; printed = out.printed }
    where
      began : (now.held ≡ before.held) ⊎ BeganLog tables sources.log before.held now.held → (now.held ≡ before.held) ⊎ Began (record { verb = verb.Plan; sources = sources }) before.held now.held
      began (inl same) = inl same
      began (inr piece) = inr (tables, has.input, piece)
  planned status.LogRefused text never = absurd never
  planned status.FileTooLong text never = absurd never
  planned status.TooManyCuts text never = absurd never

  pub IsOutcomeOf-planned : (ends : Status) (text : List ℕ) → Plans tables sources.log middle now ends text → IsOutcomeOf (record { verb = verb.Plan; sources = sources }) before now ends text
  IsOutcomeOf-planned ends text plans = planned ends text (Plans-before tables sources.log before middle now has.held has.quiet ends text plans)

-- .. of the command that it is known to be
pub IsOutcomeOf-plan : (which : Verb) (sources : SourcesOf) (tables : TablesOf) (before middle now : ShelfState) (ends : Status) (text : List ℕ) → which ≡ verb.Plan →
    LoadsTables (record { verb = which; sources = sources }) tables before middle → Plans tables sources.log middle now ends text → IsOutcomeOf (record { verb = which; sources = sources }) before now ends text
IsOutcomeOf-plan which sources tables before middle now ends text is has plans =
    let known : LoadsTables (record { verb = verb.Plan; sources = sources }) tables before middle =
    subst (λ v. LoadsTables (record { verb = v; sources = sources }) tables before middle) is has in
    let all = Loads-all (record { verb = verb.Plan; sources = sources }) reads_tables tables before middle middle known (ReadsAll-none middle) in
    subst (λ v. IsOutcomeOf (record { verb = v; sources = sources }) before now ends text) (sym is) (IsOutcomeOf-planned sources tables before middle now all ends text plans)

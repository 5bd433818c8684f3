-- What `check` makes of the log that `plan` left.
use Rattle.std.proofs.Common.{◌≡◌, ◌≤◌, ◌++◌, suc, arith, length, ◌⊎◌, inl, inr, ℕ, Bool, true, false, not, ◌&&◌, ◌||◌, if◌then◌else◌, List, [], ◌∷◌, refl, sym, ap, ap₂, ◌∙◌, subst, Option, None, Some, is_some}
use Rattle.std.specs.Prelude.{◌==◌, drop, map, unwrap_or}
use Rattle.std.specs.List.{AllByRecursion, list_all}
use Rattle.std.specs.Str.{bytes_eq}
use Rattle.std.specs.Option.{ForSome, option_map, option_and_then}
use Rattle.std.proofs.lemmas.Slice.Eq.{bytes_eq-Decides}
use Rattle.shelf_io.specs.Files.{Files, bytes_of, with_bytes}
use Rattle.shelf_io.specs.States.{ShelfState}
use Rattle.shelf_io.proofs.FileLaws.{bytes_of-get, bytes_of-with_bytes, is_some-with_bytes, KeepsOthers-with_bytes}
use Rattle.geo_model.specs.Network.{NetworkOf, IsNetwork}
use Rattle.bound_log.specs.Counted.{counts_of}
use Rattle.bound_log.specs.LogTree.{root_of, bound_at}
use Rattle.bound_log.specs.Tree.{tree_lines}
use Rattle.bound_log.proofs.MeaningLemmas.{one_log}
use Rattle.log_check.specs.declared.replaying.Replayed.{Replayed}
use Rattle.log_check.specs.Replayed.{IsReplayed}
use Rattle.text_num.specs.Digits.{digits_of}
use Rattle.geoplan.specs.declared.file_kind.FileKind.{FileKind}
use Rattle.geoplan.specs.declared.file_kind.FileKind.TheVariants as kind
use Rattle.geoplan.specs.declared.verb.Verb.{Verb}
use Rattle.geoplan.specs.declared.verb.Verb.TheVariants as verb
use Rattle.geoplan.specs.Checked.{planning, checking, ChecksWith}
use Rattle.geoplan.specs.CommandOf.{RoleOf, file_role, SourcesOf, CommandOf, FileOf, roles_of, roles_by, most_of, name_of, file_of, stations_kind, names_among, with_word, is_plain, are_distinct, no_sources, with_name, with_redundancy, given_by, sources_from, command_by, command_from, command_of, verb_of}
use Rattle.geoplan.specs.Ends.{AreHeldTables, IsStatusFor, check_ends}
use Rattle.geoplan.specs.Input.{IsFileWithin, built_input, input_of}
use Rattle.geoplan.specs.Loading.{stations_held, tables_held}
use Rattle.geoplan.specs.Outcomes.{LeavesLog, IsCheckStatus}
use Rattle.geoplan.specs.Tables.{TablesOf}
use Rattle.geoplan.proofs.CheckFacts as check
use Rattle.geoplan.proofs.InputLemmas.{accepted, input_of-short}
use Rattle.geoplan.proofs.PlanFacts as plan

-- ---- the names of a plan differ

-- the tables have other names than the log
record HasNames (sources : SourcesOf) : Type 0 where
  points : bytes_eq sources.points sources.log ≡ false
  candidates : bytes_eq sources.candidates sources.log ≡ false
  stations : ForSome sources.stations (λ name. bytes_eq name sources.log ≡ false)

apart_of : (a b d : Bool) → (not (a || (b || false)) && (not (d || false) && true)) ≡ true → (b ≡ false) × (d ≡ false)
apart_of true b d is = absurd (cc)
apart_of false true d is = absurd (cc)
apart_of false false true is = absurd (cc)
apart_of false false false is = (refl, refl)

named_by : (points candidates log : List ℕ) (q : Option ℕ) (sources : SourcesOf) → bytes_eq points log ≡ false → bytes_eq candidates log ≡ false →
    option_and_then (λ now. given_by (drop 3 (roles_of verb.Plan)) (log ∷ []) now) (option_map (λ n. with_redundancy n (with_name kind.Candidates candidates (with_name kind.Points points no_sources))) q) ≡ Some sources → HasNames sources
named_by points candidates log None sources one two is = absurd (cc)
named_by points candidates log (Some q) sources one two is =
    let made : SourcesOf = with_name kind.Log log (with_redundancy q (with_name kind.Candidates candidates (with_name kind.Points points no_sources))) in
    let e : made ≡ sources = cc in
    subst HasNames e (record { points = one; candidates = two; stations = λ name given. cc given })

four_names : (points candidates redundancy log : List ℕ) (distinct : Bool) (sources : SourcesOf) → are_distinct (points ∷ candidates ∷ log ∷ []) ≡ distinct →
    (if distinct then given_by (roles_of verb.Plan) (points ∷ candidates ∷ redundancy ∷ log ∷ []) no_sources else None) ≡ Some sources → HasNames sources
four_names points candidates redundancy log true sources apart is =
    let both = apart_of (bytes_eq points candidates) (bytes_eq points log) (bytes_eq candidates log) apart in
    named_by points candidates log (digits_of 3 redundancy) sources both.0 both.1 is
four_names points candidates redundancy log false sources apart is = absurd (cc)

short_given : (q : Option ℕ) (points candidates : List ℕ) → option_and_then (λ now. given_by (drop 3 (roles_of verb.Plan)) [] now) (option_map (λ n. with_redundancy n (with_name kind.Candidates candidates (with_name kind.Points points no_sources))) q) ≡ None
short_given None points candidates = refl
short_given (Some q) points candidates = refl

long_given : (q : Option ℕ) (points candidates log more : List ℕ) (rest : List (List ℕ)) →
    option_and_then (λ now. given_by (drop 3 (roles_of verb.Plan)) (log ∷ more ∷ rest) now) (option_map (λ n. with_redundancy n (with_name kind.Candidates candidates (with_name kind.Points points no_sources))) q) ≡ None
long_given None points candidates log more rest = refl
long_given (Some q) points candidates log more rest = refl

no_sources_from : (distinct : Bool) (given : Option SourcesOf) (sources : SourcesOf) → given ≡ None → (if distinct then given else None) ≡ Some sources → HasNames sources
no_sources_from true given sources none is = absurd (cc)
no_sources_from false given sources none is = absurd (cc)

plan_names : (words : List (List ℕ)) (sources : SourcesOf) → sources_from (roles_of verb.Plan) words ≡ Some sources → HasNames sources
plan_names [] sources is = absurd (cc)
plan_names (points ∷ []) sources is = no_sources_from (are_distinct (points ∷ [])) (given_by (roles_of verb.Plan) (points ∷ []) no_sources) sources refl is
plan_names (points ∷ candidates ∷ []) sources is = no_sources_from (are_distinct (points ∷ candidates ∷ [])) (given_by (roles_of verb.Plan) (points ∷ candidates ∷ []) no_sources) sources refl is
plan_names (points ∷ candidates ∷ redundancy ∷ []) sources is = no_sources_from (are_distinct (points ∷ candidates ∷ [])) (given_by (roles_of verb.Plan) (points ∷ candidates ∷ redundancy ∷ []) no_sources) sources (short_given (digits_of 3 redundancy) points candidates) is
plan_names (points ∷ candidates ∷ redundancy ∷ log ∷ []) sources is = four_names points candidates redundancy log (are_distinct (points ∷ candidates ∷ log ∷ [])) sources refl is
plan_names (points ∷ candidates ∷ redundancy ∷ log ∷ more ∷ rest) sources is = no_sources_from (are_distinct (points ∷ candidates ∷ log ∷ [])) (given_by (roles_of verb.Plan) (points ∷ candidates ∷ redundancy ∷ log ∷ more ∷ rest) no_sources) sources (long_given (digits_of 3 redundancy) points candidates log more rest) is

-- with a table of stations

flip : (a b : List ℕ) → bytes_eq a b ≡ false → bytes_eq b a ≡ false
flip a b differ = by (bytes_eq b a) refl
  where
    by : (t : Bool) → bytes_eq b a ≡ t → t ≡ false
    by false e = refl
    by true e =
        let passes : bytes_eq a b ≡ true = (bytes_eq-Decides a b).1 (sym ((bytes_eq-Decides b a).0 e)) in
        let never : true ≡ false = sym passes ∙ differ in
        absurd (cc never)

apart_of_four : (a b d e f g : Bool) → (not (a || (b || (d || false))) && (not (e || (f || false)) && (not (g || false) && true))) ≡ true → (b ≡ false) × ((e ≡ false) × (g ≡ false))
apart_of_four true b d e f g is = absurd (cc)
apart_of_four false true d e f g is = absurd (cc)
apart_of_four false false true e f g is = absurd (cc)
apart_of_four false false false true f g is = absurd (cc)
apart_of_four false false false false true g is = absurd (cc)
apart_of_four false false false false false true is = absurd (cc)
apart_of_four false false false false false false is = (refl, (refl, refl))

abbrev stationed_roles : List RoleOf
stationed_roles = roles_of verb.Plan ++ file_role kind.Stations ∷ []

named_with : (points candidates log stations : List ℕ) (q : Option ℕ) (sources : SourcesOf) → bytes_eq points log ≡ false → bytes_eq candidates log ≡ false → bytes_eq stations log ≡ false →
    option_and_then (λ now. given_by (drop 3 stationed_roles) (log ∷ stations ∷ []) now) (option_map (λ n. with_redundancy n (with_name kind.Candidates candidates (with_name kind.Points points no_sources))) q) ≡ Some sources → HasNames sources
named_with points candidates log stations None sources one two three is = absurd (cc)
named_with points candidates log stations (Some q) sources one two three is =
    let made : SourcesOf = with_name kind.Stations stations (with_name kind.Log log (with_redundancy q (with_name kind.Candidates candidates (with_name kind.Points points no_sources)))) in
    let e : made ≡ sources = cc in
    subst HasNames e (record {
      points = one;
      candidates = two;
      stations = λ name given. let same : stations ≡ name = cc given in subst (λ n. bytes_eq n log ≡ false) same three;
    })

five_names : (points candidates redundancy log stations : List ℕ) (distinct : Bool) (sources : SourcesOf) → are_distinct (points ∷ candidates ∷ log ∷ stations ∷ []) ≡ distinct →
    (if distinct then given_by stationed_roles (points ∷ candidates ∷ redundancy ∷ log ∷ stations ∷ []) no_sources else None) ≡ Some sources → HasNames sources
five_names points candidates redundancy log stations true sources apart is =
    let all = apart_of_four (bytes_eq points candidates) (bytes_eq points log) (bytes_eq points stations) (bytes_eq candidates log) (bytes_eq candidates stations) (bytes_eq log stations) apart in
    named_with points candidates log stations (digits_of 3 redundancy) sources all.0 all.1.0 (flip log stations all.1.1) is
five_names points candidates redundancy log stations false sources apart is = absurd (cc)

-- what follows a word that gives something
after_word : (rest : SourcesOf → Option SourcesOf) (sources : SourcesOf) (P : Type 0) → ((now : SourcesOf) → rest now ≡ Some sources → P) → (now : Option SourcesOf) → option_and_then rest now ≡ Some sources → P
after_word rest sources P follows None e = absurd (cc)
after_word rest sources P follows (Some now) e = follows now e

-- words give something only where they are as many as the roles
same_length : (roles : List RoleOf) (words : List (List ℕ)) (given sources : SourcesOf) → given_by roles words given ≡ Some sources → length words ≡ length roles
same_length [] [] given sources is = refl
same_length [] (word ∷ words) given sources is = absurd (cc)
same_length (role ∷ roles) [] given sources is = absurd (cc)
same_length (role ∷ roles) (word ∷ words) given sources is =
    ap suc (after_word (λ now. given_by roles words now) sources (length words ≡ length roles) (λ now e. same_length roles words now sources e) (with_word role word given) is)

given_where : (distinct : Bool) (given : Option SourcesOf) (sources : SourcesOf) → (if distinct then given else None) ≡ Some sources → given ≡ Some sources
given_where true given sources is = is
given_where false given sources is = absurd (cc)

five_words : (words : List (List ℕ)) (sources : SourcesOf) → length words ≡ 5 → sources_from stationed_roles words ≡ Some sources → HasNames sources
five_words [] sources long is = absurd (omega (arith, long))
five_words (points ∷ []) sources long is = absurd (omega (arith, long))
five_words (points ∷ candidates ∷ []) sources long is = absurd (omega (arith, long))
five_words (points ∷ candidates ∷ redundancy ∷ []) sources long is = absurd (omega (arith, long))
five_words (points ∷ candidates ∷ redundancy ∷ log ∷ []) sources long is = absurd (omega (arith, long))
five_words (points ∷ candidates ∷ redundancy ∷ log ∷ stations ∷ []) sources long is = five_names points candidates redundancy log stations (are_distinct (points ∷ candidates ∷ log ∷ stations ∷ [])) sources refl is
five_words (points ∷ candidates ∷ redundancy ∷ log ∷ stations ∷ more ∷ rest) sources long is = absurd (omega (arith, long))

names_by : (five : Bool) (words : List (List ℕ)) (sources : SourcesOf) → sources_from (if five then stationed_roles else roles_of verb.Plan) words ≡ Some sources → HasNames sources
names_by true words sources is =
    five_words words sources
    (same_length stationed_roles words no_sources sources (given_where (are_distinct (names_among stationed_roles words)) (given_by stationed_roles words no_sources) sources is)) is
names_by false words sources is = plan_names words sources is

-- a command that plans has the words of `plan`
verb_names : (which : Verb) (words : List (List ℕ)) (given : Option SourcesOf) (sources : SourcesOf) → sources_from (roles_by which (length words)) words ≡ given → option_map (λ s. record { verb = which; sources = s }) given ≡ Some (planning sources) → HasNames sources
verb_names which words None sources from is = absurd (cc)
verb_names which words (Some other) sources from is =
    let e : (record { verb = which; sources = other }) ≡ planning sources = cc in
    let same : which ≡ verb.Plan = ap (λ (c : CommandOf). c.verb) e in
    names_by (length words == 5) words sources (subst (λ v. sources_from (roles_by v (length words)) words ≡ Some sources) same (from ∙ ap (λ (c : CommandOf). Some c.sources) e))

word_names : (found : Option Verb) (words : List (List ℕ)) (sources : SourcesOf) → option_and_then (command_by words) found ≡ Some (planning sources) → HasNames sources
word_names None words sources is = absurd (cc)
word_names (Some verb) words sources is = verb_names verb words (sources_from (roles_by verb (length words)) words) sources refl is

from_names : (words : List (List ℕ)) (sources : SourcesOf) → command_from words ≡ Some (planning sources) → HasNames sources
from_names [] sources is = absurd (cc)
from_names (program ∷ []) sources is = absurd (cc)
from_names (program ∷ word ∷ words) sources is = word_names (verb_of word) words sources is

of_by : (plain : Bool) (words : List (List ℕ)) (sources : SourcesOf) → (if plain then command_from words else None) ≡ Some (planning sources) → HasNames sources
of_by true words sources is = from_names words sources is
of_by false words sources is = absurd (cc)

names-of : (words : List (List ℕ)) (sources : SourcesOf) → command_of words ≡ Some (planning sources) → HasNames sources
unfolding command_of
names-of words sources is = of_by (list_all is_plain (drop 1 words)) words sources is

-- ---- the files of the two commands

only_stations : (P : FileOf → Type 0) (sources : SourcesOf) (given : Option (List ℕ)) → AllByRecursion P (map (file_of sources) (stations_kind given ++ [])) → AllByRecursion P (map (file_of sources) (stations_kind given))
only_stations P sources None all = tt
only_stations P sources (Some name) all = (all.0, tt)

and_file : (P : FileOf → Type 0) (sources : SourcesOf) (given : Option (List ℕ)) (last : FileKind) → AllByRecursion P (map (file_of sources) (stations_kind given)) → P (file_of sources last)
    → AllByRecursion P (map (file_of sources) (stations_kind given ++ last ∷ []))
and_file P sources None last all one = (one, tt)
and_file P sources (Some name) last all one = (all.0, (one, tt))

-- ---- the tables stay

apart : (name log : List ℕ) → bytes_eq name log ≡ false → log ≡ name → ⊥
apart name log differ same = let passes : bytes_eq name log ≡ true = (bytes_eq-Decides name log).1 (sym same) in let e : true ≡ false = sym passes ∙ differ in cc

-- where the shelf tells what it holds now, it told it before
before_told : (held now : Option Files) (name bytes : List ℕ) (after : Files) → now ≡ with_bytes held name bytes → now ≡ Some after → (files : Files) × (held ≡ Some files)
before_told None now name bytes after written told = absurd (let e : true ≡ false = ap is_some (sym told ∙ written) ∙ is_some-with_bytes None name bytes in cc)
before_told (Some files) now name bytes after written told = (files, refl)

-- a text replays in one way
same_replay : (one other : Replayed) → one.bound ≡ other.bound → one.counts ≡ other.counts → one ≡ other
same_replay one other bound counts = ap₂ (λ b c. record { bound = b; counts = c }) bound counts

one_replay : (network : NetworkOf) (text : List ℕ) (one other : Replayed) → IsNetwork network → IsReplayed network text one → IsReplayed network text other → one ≡ other
one_replay network text one other bounds a b =
    let tree : a.tree ≡ b.tree =
    one_log network text a.tree b.tree a.log b.log in
    same_replay one other
    (a.least ∙ ap (bound_at network (root_of network)) tree ∙ sym b.least)
    (a.counted ∙ ap (λ t. counts_of (tree_lines t)) tree ∙ sym b.counted)

module _ (words : List (List ℕ)) (sources : SourcesOf) (tables : TablesOf) (done : Replayed) (before now : ShelfState) (planned : command_of words ≡ Some (planning sources)) (are : AreHeldTables (planning sources) before.held tables) (leaves : LeavesLog tables sources.log done before now) (after : Files) (told : now.held ≡ Some after) where
  -- a name other than the log's holds what it held
  stays : (files : Files) → before.held ≡ Some files → (name : List ℕ) → bytes_eq name sources.log ≡ false → bytes_of after name ≡ bytes_of files name
  stays files was name differ =
      bytes_of-get after files name ((KeepsOthers-with_bytes sources.log leaves.log before.held now.held leaves.written).others files after was told name (λ same. apart name sources.log differ (sym same)))

  -- so does the table of stations, where one is given
  stations_stay : (files : Files) → before.held ≡ Some files → (given : Option (List ℕ)) → sources.stations ≡ given → AllByRecursion (IsFileWithin files) (map (file_of sources) (stations_kind given))
      → (stations_held sources after ≡ stations_held sources files) × AllByRecursion (IsFileWithin after) (map (file_of sources) (stations_kind given))
  stations_stay files was None none all =
      (ap (option_map (λ name. bytes_of after (name_of sources kind.Stations))) none ∙ sym (ap (option_map (λ name. bytes_of files (name_of sources kind.Stations))) none), tt)
  stations_stay files was (Some name) given all =
      let named : name_of sources kind.Stations ≡ name = ap (λ (s : Option (List ℕ)). unwrap_or s []) given in
      let differ : bytes_eq (name_of sources kind.Stations) sources.log ≡ false = subst (λ n. bytes_eq n sources.log ≡ false) (sym named) ((names-of words sources planned).stations name given) in
      let same = stays files was (name_of sources kind.Stations) differ in
      (ap (λ (bytes : List ℕ). option_map (λ n. bytes) sources.stations) same, (rw same all.0, tt))

  -- so the tables give the same, and are not too long
  record StillThere : Type 0 where
    points : length (bytes_of after sources.points) ≤ most_of kind.Points
    candidates : length (bytes_of after sources.candidates) ≤ most_of kind.Candidates
    stations : AllByRecursion (IsFileWithin after) (map (file_of sources) (stations_kind sources.stations))
    judged : tables_held sources after ≡ built_input tables

  still_there : StillThere
  still_there =
      let names = names-of words sources planned in
      let was = before_told before.held now.held sources.log leaves.log after leaves.written told in
      let is = accepted (planning sources) was.0 plan.reads_tables tables (are was.0 was.1) in
      let points = stays was.0 was.1 sources.points names.points in
      let candidates = stays was.0 was.1 sources.candidates names.candidates in
      let stations = stations_stay was.0 was.1 sources.stations refl (only_stations (IsFileWithin was.0) sources sources.stations is.short.1.1) in
      record { points = rw points is.short.0; candidates = rw candidates is.short.1.0; stations = stations.1; judged = rw (points, candidates, stations.0) is.judged }

  -- ---- what check makes of it

  has_log : bytes_of after sources.log ≡ leaves.log
  has_log = bytes_of-with_bytes before.held now.held sources.log leaves.log leaves.written after told

  replays : IsReplayed tables.network (bytes_of after sources.log) done
  replays = subst (λ text. IsReplayed tables.network text done) (sym has_log) leaves.replayed

  -- the text has no fault
  right : (s : ℕ) → IsCheckStatus tables (bytes_of after sources.log) s → (s ≡ 0) ⊎ (s ≡ 7)
  right s (inl (is, log)) = inl is
  right s (inr (inl (is, wrong))) = absurd (wrong.no_log replays.tree replays.log)
  right s (inr (inr is)) = inr is

  -- with a log that isn't too long the same tables are found
  found : length (bytes_of after sources.log) ≤ most_of kind.Log → input_of (checking sources) after ≡ built_input tables
  found short = input_of-short (checking sources) after check.reads_tables
      (still_there.points, (still_there.candidates, and_file (IsFileWithin after) sources sources.stations kind.Log still_there.stations short)) ∙ still_there.judged

  -- .. and no others are
  found_tables : (other : TablesOf) → input_of (checking sources) after ≡ built_input other → other ≡ tables
  found_tables other is =
      let e : built_input other ≡ built_input tables = sym (accepted (checking sources) after check.reads_tables other is).judged ∙ still_there.judged in
      cc

  same_done : (accepts_done : Replayed) → IsReplayed tables.network (bytes_of after sources.log) accepts_done → accepts_done ≡ done
  same_done other is = one_replay tables.network (bytes_of after sources.log) other done leaves.network is replays

  pub checks_with : ChecksWith sources tables done after
  checks_with = record {
    replayed = replays;
    checked = found;
    status = λ short s complete.
        right s (subst (λ given. IsStatusFor (λ built. (check_ends sources built).answers after) given s) (found short) complete);
    same = λ other is at at_now text accepts.
        same_done accepts.done (subst (λ (t : TablesOf). IsReplayed t.network (bytes_of after sources.log) accepts.done) (found_tables other is) accepts.replayed);
  }

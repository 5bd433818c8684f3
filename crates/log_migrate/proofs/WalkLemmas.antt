-- A log is walked line by line.
use Rattle.std.proofs.Common.{◌≡◌, ℕ, arith, get_or, true, List, [], ◌∷◌, ◌++◌, All, Some, map, refl, ap, sym, ◌∙◌, subst, append-nil, append_assoc}
use Rattle.std.proofs.lemmas.List.Elements.{All-from_recursion, All-head, All-tail}
use Rattle.lent_parts.specs.Pieces.{TextLineOf, is_line_feed, lines_of}
use Rattle.lent_parts.proofs.PieceLemmas.{lines_of-more}
use Rattle.std.specs.Prelude.{false}
use Rattle.geo_model.specs.Network.{NetworkOf}
use Rattle.bound_log.specs.CutText.{CutTextOf}
use Rattle.bound_log.specs.Formats.{IsShortLine, LineIn, head_body_in, text_line_in, texts_in}
use Rattle.bound_log.specs.Grammar.{IsLine}
use Rattle.bound_log.specs.LogText.{line_end}
use Rattle.bound_log.specs.LogTree.{IsLog}
use Rattle.bound_log.specs.SpellsIn.{SpellsIn}
use Rattle.bound_log.specs.Tree.{Tree, tree_lines}
use Rattle.bound_log.specs.declared.log_format.LogFormat.{LogFormat}
use Rattle.bound_log.specs.declared.log_format.LogFormat.TheVariants.{First, Second}
use Rattle.bound_log.specs.declared.log_line.LogLine.{LogLine}
use Rattle.bound_log.proofs.FormatLemmas.{lines_of-texts_in}
use Rattle.bound_log.proofs.GrammarLemmas.{IsLine-body, a_text_is_one}
use Rattle.bound_log.proofs.MeaningLemmas.{nodes_in-first}
use Rattle.log_migrate.specs.FirstUse.{cuts_needed, cuts_used, first_used, line_with_names, named_after}
use Rattle.log_migrate.specs.Migrated.{IsMigrated, IsWhy}
use Rattle.log_migrate.specs.NewLog.{AreLines, Gets, HasLines, HasNamed, IsRefusal, WrittenSo}
use Rattle.log_migrate.specs.declared.answer.MigrateAnswer.{MigrateAnswer}
use Rattle.log_migrate.specs.declared.answer.MigrateAnswer.TheVariants.{TooManyCuts, NoMemory}
use Rattle.log_migrate.specs.declared.new_log.NewLog.{NewLog}
use Rattle.log_migrate.proofs.TextLemmas.{lines_next, lines_refused}
use Rattle.log_migrate.proofs.TreeLemmas.{migrated_log, migrated_spells}

-- ---- the next line

pub record NextNode (nodes : List LogLine) (line : TextLineOf) (more : List TextLineOf) : Type 0 where
  pub node : LogLine
  pub rest : List LogLine
  pub is : nodes ≡ node ∷ rest
  pub line_is : line ≡ text_line_in First node
  pub short : IsShortLine First node
  pub walked : AreLines rest more

pub next_node : (nodes : List LogLine) (line : TextLineOf) (more : List TextLineOf) (walk : List TextLineOf) → walk ≡ line ∷ more → AreLines nodes walk → NextNode nodes line more
next_node [] line more walk steps are = absurd (cc (steps, are.spelled))
next_node (node ∷ nodes) line more walk steps are =
    let same : line ∷ more ≡ text_line_in First node ∷ map (text_line_in First) nodes = sym steps ∙ are.spelled in
    let here : line ≡ text_line_in First node = cc in
    let later : more ≡ map (text_line_in First) nodes = cc in
    record {
      node = node;
      rest = nodes;
      is = refl;
      line_is = here;
      short = All-head (IsShortLine First) node nodes are.short;
      walked = record { spelled = later; short = All-tail (IsShortLine First) node nodes are.short };
    }

-- the next line is in the grammar
pub next_is_line : (nodes : List LogLine) (line : TextLineOf) (more : List TextLineOf) (next : NextNode nodes line more) → IsLine line.text next.node
next_is_line nodes line more next = subst (λ (t : List ℕ). IsLine t next.node) (sym (ap (λ (l : TextLineOf). l.text) next.line_is)) (IsLine-body next.node next.short)

pub written_start : (nodes : List LogLine) (walk : List TextLineOf) (made : NewLog) → AreLines nodes walk → HasLines [] made → WrittenSo nodes walk made
written_start nodes walk made are has = record { done = []; left = nodes; parts = refl; walked = are; has = has }

-- what reading and adding the next line leave
pub written_next : (nodes : List LogLine) (walk more : List TextLineOf) (line : TextLineOf) (read : LogLine) (before now : NewLog) → walk ≡ line ∷ more → (so : WrittenSo nodes walk before) → IsLine line.text read →
    ((named : List CutTextOf) → HasNamed named before → Gets named (first_used named (cuts_used read)) (texts_in Second (line_with_names named read)) before now) → WrittenSo nodes more now
written_next nodes walk more line read before now steps so is adds =
    let next = next_node so.left line more walk steps so.walked in
    let same : next.node ≡ read = a_text_is_one line.text next.node read (next_is_line so.left line more next) is in
    record {
      done = so.done ++ read ∷ [];
      left = next.rest;
      parts = so.parts ∙ ap (λ (l : List LogLine). so.done ++ l) (next.is ∙ ap (λ (n : LogLine). n ∷ next.rest) same) ∙ sym (append_assoc so.done (read ∷ []) next.rest);
      walked = next.walked;
      has = lines_next so.done read before now so.has (adds (cuts_needed so.done) so.has.named);
    }

pub written_refused : (nodes : List LogLine) (walk more : List TextLineOf) (line : TextLineOf) (read : LogLine) (made : NewLog) (why : MigrateAnswer) → walk ≡ line ∷ more → (so : WrittenSo nodes walk made) → IsLine line.text read →
    ((named : List CutTextOf) → HasNamed named made → IsRefusal (named_after named read) why) → IsRefusal (cuts_needed nodes) why
written_refused nodes walk more line read made why steps so is refuses =
    let next = next_node so.left line more walk steps so.walked in
    let same : next.node ≡ read = a_text_is_one line.text next.node read (next_is_line so.left line more next) is in
    lines_refused nodes so.done next.rest read why (so.parts ∙ ap (λ (l : List LogLine). so.done ++ l) (next.is ∙ ap (λ (n : LogLine). n ∷ next.rest) same))
    (refuses (cuts_needed so.done) so.has.named)

no_nodes : (nodes : List LogLine) (walk : List TextLineOf) → walk ≡ [] → AreLines nodes walk → nodes ≡ []
no_nodes [] walk none are = refl
no_nodes (node ∷ nodes) walk none are = absurd (cc (none, are.spelled))

pub written_end : (nodes : List LogLine) (walk : List TextLineOf) (made : NewLog) → walk ≡ [] → WrittenSo nodes walk made → HasLines nodes made
written_end nodes walk made none so =
    let all : so.done ≡ nodes = sym (so.parts ∙ ap (λ (l : List LogLine). so.done ++ l) (no_nodes so.left walk none so.walked) ∙ append-nil so.done) in
    subst (λ (l : List LogLine). HasLines l made) all so.has

-- ---- the first line

head_lacks : (format : LogFormat) → All (λ c. is_line_feed c ≡ false) (head_body_in format)
head_lacks First = All-from_recursion (λ c. is_line_feed c ≡ false) (head_body_in First) (refl, (refl, (refl, (refl, (refl, (refl, (refl, (refl, (refl, (refl, (refl, (refl, (refl, tt)))))))))))))
head_lacks Second = All-from_recursion (λ c. is_line_feed c ≡ false) (head_body_in Second) (refl, (refl, (refl, (refl, (refl, (refl, (refl, (refl, (refl, (refl, (refl, (refl, (refl, tt)))))))))))))

log_lines : (format : LogFormat) (text : List ℕ) (cuts : List CutTextOf) (tree : Tree) (spells : SpellsIn format text cuts tree) →
    lines_of text ≡ record { text = head_body_in format; ended = true } ∷ map (text_line_in format) spells.lines
log_lines format text cuts tree spells =
    let lines = spells.lines in
    ap lines_of (spells.begins.spelled ∙ append_assoc (head_body_in format) line_end (texts_in format lines ++ []))
    ∙ lines_of-more (head_body_in format) (texts_in format lines ++ []) (head_lacks format)
    ∙ ap (λ (t : List ℕ). record { text = head_body_in format; ended = true } ∷ lines_of t) (append-nil (texts_in format lines))
    ∙ ap (λ (l : List TextLineOf). record { text = head_body_in format; ended = true } ∷ l) (lines_of-texts_in format lines spells.begins.numbers)

pub record StartsIn (format : LogFormat) (lines : List (LineIn format)) (head : TextLineOf) (rest : List TextLineOf) : Type 0 where
  pub head_is : head.text ≡ head_body_in format
  pub rest_is : rest ≡ map (text_line_in format) lines

pub starts_in : (format : LogFormat) (text : List ℕ) (cuts : List CutTextOf) (tree : Tree) (head : TextLineOf) (rest walk : List TextLineOf) → walk ≡ lines_of text → walk ≡ head ∷ rest → (spells : SpellsIn format text cuts tree) → StartsIn format spells.lines head rest
starts_in format text cuts tree head rest walk are steps spells =
    let lines = map (text_line_in format) spells.lines in
    let first : TextLineOf = record { text = head_body_in format; ended = true } in
    let same : head ∷ rest ≡ first ∷ lines = sym steps ∙ are ∙ log_lines format text cuts tree spells in
    let here : head ≡ first = cc in
    let later : rest ≡ lines = cc in
    record { head_is = ap (λ (l : TextLineOf). l.text) here; rest_is = later }

pub no_lines : (format : LogFormat) (text : List ℕ) (cuts : List CutTextOf) (tree : Tree) (walk : List TextLineOf) → walk ≡ lines_of text → walk ≡ [] → SpellsIn format text cuts tree → ⊥
no_lines format text cuts tree walk are none spells =
    let same : [] ≡ record { text = head_body_in format; ended = true } ∷ map (text_line_in format) spells.lines = sym none ∙ are ∙ log_lines format text cuts tree spells in
    absurd (cc)

some_lines : (xs ys : List LogLine) → Some xs ≡ Some ys → xs ≡ ys
some_lines xs ys same = cc

-- the lines of a log of format 1 after its first one are those of its tree
pub first_lines : (text : List ℕ) (cuts : List CutTextOf) (tree : Tree) (head : TextLineOf) (rest walk : List TextLineOf) → walk ≡ lines_of text → walk ≡ head ∷ rest → SpellsIn First text cuts tree → AreLines (tree_lines tree) rest
first_lines text cuts tree head rest walk are steps spells =
    let starts = starts_in First text cuts tree head rest walk are steps spells in
    let lines : spells.lines ≡ tree_lines tree = some_lines spells.lines (tree_lines tree) (sym (nodes_in-first [] spells.lines) ∙ spells.stand) in
    record {
      spelled = starts.rest_is ∙ ap (map (text_line_in First)) lines;
      short = subst (All (IsShortLine First)) lines spells.begins.numbers;
    }

bodies_differ : head_body_in First ≡ head_body_in Second → ⊥
bodies_differ same = let digit : 49 ≡ 50 = ap (λ (t : List ℕ). get_or t 12 0) same in absurd (omega (arith, digit))

-- a log whose first line is that of a format is of this format
pub format_is : (format other : LogFormat) (text : List ℕ) (cuts : List CutTextOf) (tree : Tree) (head : TextLineOf) (rest walk : List TextLineOf) → walk ≡ lines_of text → walk ≡ head ∷ rest → head.text ≡ head_body_in format → SpellsIn other text cuts tree → other ≡ format
format_is First First text cuts tree head rest walk are steps is spells = refl
format_is First Second text cuts tree head rest walk are steps is spells = absurd (bodies_differ (sym is ∙ (starts_in Second text cuts tree head rest walk are steps spells).head_is))
format_is Second First text cuts tree head rest walk are steps is spells = absurd (bodies_differ (sym (starts_in First text cuts tree head rest walk are steps spells).head_is ∙ is))
format_is Second Second text cuts tree head rest walk are steps is spells = refl

formats_differ : First ≡ Second → ⊥
formats_differ same = absurd (cc)

-- ---- the answers

pub is_written : (network : NetworkOf) (tree : Tree) (old : List ℕ) (head : TextLineOf) (rest walk : List TextLineOf) (made : NewLog) → walk ≡ lines_of old → walk ≡ head ∷ rest → head.text ≡ head_body_in First → IsLog network old tree →
    ((nodes : List LogLine) → AreLines nodes rest → HasLines nodes made) → IsMigrated network tree old made.text.items
is_written network tree old head rest walk made are steps is log writes =
    let first : (other : LogFormat) (cuts : List CutTextOf) → SpellsIn other old cuts tree → other ≡ First = λ other cuts spells. format_is First other old cuts tree head rest walk are steps is spells in
    let spells : SpellsIn First old log.cuts tree = subst (λ (f : LogFormat). SpellsIn f old log.cuts tree) (first log.format log.cuts log.spells) log.spells in
    let lines = first_lines old log.cuts tree head rest walk are steps spells in
    let has = writes (tree_lines tree) lines in
    record {
      log = subst (λ (t : List ℕ). IsLog network t tree) (sym has.text) (migrated_log network tree log.allowed lines.short has.named.few);
      second = (
        cuts_needed (tree_lines tree),
        subst (λ (t : List ℕ). SpellsIn Second t (cuts_needed (tree_lines tree)) tree) (sym has.text) (migrated_spells tree lines.short has.named.few),
      );
      copied = λ cuts second. absurd (formats_differ (sym (first Second cuts second)));
      written = λ cuts also. has.text;
      few = λ cuts also. has.named.few;
    }

pub is_copied : (network : NetworkOf) (tree : Tree) (old new : List ℕ) (head : TextLineOf) (rest walk : List TextLineOf) → walk ≡ lines_of old → walk ≡ head ∷ rest → head.text ≡ head_body_in Second → IsLog network old tree → new ≡ old → IsMigrated network tree old new
is_copied network tree old new head rest walk are steps is log same = record {
  log = subst (λ (t : List ℕ). IsLog network t tree) (sym same) log;
  second = (
    log.cuts,
    subst (λ (t : List ℕ). SpellsIn Second t log.cuts tree) (sym same)
        (subst (λ (f : LogFormat). SpellsIn f old log.cuts tree) (format_is Second log.format old log.cuts tree head rest walk are steps is log.spells) log.spells),
  );
  copied = λ cuts second. same;
  written = λ cuts first. absurd (formats_differ (format_is Second First old cuts tree head rest walk are steps is first));
  few = λ cuts first. absurd (formats_differ (format_is Second First old cuts tree head rest walk are steps is first));
}

why_of : (tree : Tree) (old : List ℕ) (cuts : List CutTextOf) (why : MigrateAnswer) → SpellsIn First old cuts tree → IsRefusal (cuts_needed (tree_lines tree)) why → IsWhy tree old why
why_of tree old cuts TooManyCuts spells many = record { cuts = cuts; first = spells; many = many }
why_of tree old cuts NoMemory spells many = tt

pub is_refused : (network : NetworkOf) (tree : Tree) (old : List ℕ) (head : TextLineOf) (rest walk : List TextLineOf) (why : MigrateAnswer) → walk ≡ lines_of old → walk ≡ head ∷ rest → head.text ≡ head_body_in First → IsLog network old tree →
    ((nodes : List LogLine) → AreLines nodes rest → IsRefusal (cuts_needed nodes) why) → IsWhy tree old why
is_refused network tree old head rest walk why are steps is log refuses =
    let spells : SpellsIn First old log.cuts tree =
    subst (λ (f : LogFormat). SpellsIn f old log.cuts tree) (format_is First log.format old log.cuts tree head rest walk are steps is log.spells) log.spells in
    why_of tree old log.cuts why spells (refuses (tree_lines tree) (first_lines old log.cuts tree head rest walk are steps spells))

-- after the first line of a log of format 1 come lines of a tree
pub some_lines_left : (network : NetworkOf) (tree : Tree) (old : List ℕ) (head : TextLineOf) (rest walk : List TextLineOf) → walk ≡ lines_of old → walk ≡ head ∷ rest → head.text ≡ head_body_in First → IsLog network old tree →
    (nodes : List LogLine) × AreLines nodes rest
some_lines_left network tree old head rest walk are steps is log = (
  tree_lines tree,
  first_lines old log.cuts tree head rest walk are steps
      (subst (λ (f : LogFormat). SpellsIn f old log.cuts tree) (format_is First log.format old log.cuts tree head rest walk are steps is log.spells) log.spells),
)

-- a log has a first line
pub has_lines : (network : NetworkOf) (tree : Tree) (old : List ℕ) (walk : List TextLineOf) → walk ≡ lines_of old → walk ≡ [] → IsLog network old tree → ⊥
has_lines network tree old walk are none log = no_lines log.format old log.cuts tree walk are none log.spells

-- .. which is that of its format
pub has_format : (network : NetworkOf) (tree : Tree) (old : List ℕ) (head : TextLineOf) (rest walk : List TextLineOf) → walk ≡ lines_of old → walk ≡ head ∷ rest → ((format : LogFormat) → head.text ≡ head_body_in format → ⊥) → IsLog network old tree → ⊥
has_format network tree old head rest walk are steps none log = none log.format (starts_in log.format old log.cuts tree head rest walk are steps log.spells).head_is

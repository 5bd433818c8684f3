-- A text that is handed in piece by piece: its lines are judged as those of the whole text.
use Rattle.std.proofs.Common.{◌≡◌, ℕ, ◌+◌, ◌^◌, ◌<◌, ◌≤◌, if◌then◌else◌, Bool, true, false, List, [], ◌∷◌, ◌++◌, length, All, Option, Some, None, arith, refl, ap, ap₂, sym, ◌∙◌, subst, inl, inr, append-nil, append_assoc}
use Rattle.std.specs.Prelude.{MatchOption, is_some, Result, Ok, Err}
use Rattle.std.proofs.lemmas.Bool.{cases_Bool, false≢true}
use Rattle.std.proofs.lemmas.List.{length-append}
use Rattle.std.proofs.lemmas.List.Elements.{All-nil, All-append}
use Rattle.std.proofs.lemmas.List.Splits.{slice_split_none}
use Rattle.std.proofs.lemmas.List.Sums.{count_by-le-length}
use Rattle.lent_parts.specs.Pieces.{TextLineOf, is_line_feed, line_feed, lines_of, line_bytes}
use Rattle.lent_parts.proofs.PieceLemmas.{last_line, lines_of-more}
use Rattle.geo_model.specs.Network.{NetworkOf, IsNetwork}
use Rattle.bound_log.specs.Formats.{BeginsIn, LineIn, head_text_in, texts_in}
use Rattle.bound_log.specs.declared.log_format.LogFormat.{LogFormat}
use Rattle.bound_log.specs.declared.log_kind.LogKind.{LogKind}
use Rattle.bound_log.specs.declared.log_kind.LogKind.TheVariants.{Short}
use Rattle.bound_log.proofs.FormatLemmas.{after_head_in, begins_head_in, begins_more_in, same_format}
use Rattle.log_check.specs.declared.fault.LogFault.{LogFault}
use Rattle.log_check.specs.declared.fault.ReplayAnswer.{ReplayAnswer}
use Rattle.log_check.specs.declared.fault.ReplayAnswer.TheVariants as replay_answer
use Rattle.log_check.specs.declared.judged.Judged.{Judged}
use Rattle.log_check.specs.declared.progress.Progress.{Progress}
use Rattle.log_check.specs.declared.replaying.Replayed.{Replayed}
use Rattle.log_check.specs.Fed.{ReplayerOf, HoldsFault, IsRight, HasFed, HasRead, Judges, after_fault, right, wrong, IsAnswerAtEnd, at_fault, at_start, too_early, whole_log, replay_at, TakesPart, Finishes, IsLineNext, SaysOfLine, AnswersFed}
use Rattle.log_check.specs.FirstFault.{LogBegins, IsFaultAfter, IsFirstFault, headless, later}
use Rattle.log_check.specs.Reaching.{IsFront, nothing, begun, HasTaken, Reaches}
use Rattle.log_check.specs.Taking.{TakesLine, at_head, at_node}
use Rattle.bound_log.proofs.GrammarLemmas.{NoFeed}
use Rattle.log_check.proofs.LongerLemmas.{feeds, feeds-append, feeds-head, feeds-none, feeds-lines, fault_stays}
use Rattle.log_check.proofs.ReachLemmas.{taken_next, next_rises, fault_stopped, fault_empty, fault_short, front_begun, replayed_whole, ended_bytes}
use Rattle.log_check.proofs.FormatRuns.{goes_begins}
use Rattle.log_check.proofs.TextLemmas.{Order, same, further, behind, order}
use Rattle.log_check.proofs.VerdictLemmas.{no_fault_inside}

-- ---- whether there is a fault

pub some_fault : (o : Option LogFault) → is_some o ≡ true → (fault : LogFault) × (o ≡ Some fault)
some_fault None is = absurd (false≢true is)
some_fault (Some fault) is = (fault, refl)

pub no_fault : (o : Option LogFault) → is_some o ≡ false → o ≡ None
no_fault None is = refl
no_fault (Some fault) is = absurd (false≢true (sym is))

-- ---- how many lines were taken

-- a front of so many lines has as many LFs
pub front_feeds : (network : NetworkOf) (front : List ℕ) (progress : Progress) → IsNetwork network → HasTaken network front progress → feeds front ≡ progress.lines
front_feeds network front progress bounds taken = by_front front taken.format taken.lines progress.lines taken.front
  where
    by_front : (text : List ℕ) (format : LogFormat) (lines : List (LineIn format)) (count : ℕ) → IsFront text format lines count → feeds text ≡ count
    by_front text format lines count (nothing no_text no_lines none) = ap feeds no_text ∙ sym none
    by_front text format lines count (begun spells number) =
        let all : feeds text ≡ feeds (head_text_in format) + feeds (texts_in format lines ++ []) = ap feeds spells.spelled ∙ feeds-append (head_text_in format) (texts_in format lines ++ []) in
        let after : feeds (texts_in format lines ++ []) ≡ length lines = ap feeds (append-nil (texts_in format lines)) ∙ feeds-lines format lines spells.numbers in
        let head : feeds (head_text_in format) ≡ 1 = feeds-head format in
        omega arith

feeds-more : (text more : List ℕ) → feeds text ≤ feeds (text ++ more)
feeds-more text more = omega (arith, feeds-append text more)

feeds-one : (text : List ℕ) → All NoFeed text → feeds (text ++ line_feed ∷ []) ≡ 1
feeds-one text lacks = let one : feeds (line_feed ∷ []) ≡ 1 = refl in omega (arith, feeds-append text (line_feed ∷ []), feeds-none text lacks)

-- a text whose lines are right has so many LFs
right_feeds : (text : List ℕ) (replayer : ReplayerOf) → IsNetwork replayer.network → (is : IsRight text replayer) → feeds text ≡ replayer.judged.progress.lines
right_feeds text replayer bounds is =
    let all : feeds text ≡ feeds is.front + feeds replayer.unfinished = ap feeds is.whole ∙ feeds-append is.front replayer.unfinished in
    omega (arith, all, feeds-none replayer.unfinished is.lacks, front_feeds replayer.network is.front replayer.judged.progress bounds is.taken)

-- ---- a fault that is held

pub held_stays : (network : NetworkOf) (text more : List ℕ) (fault : LogFault) → IsNetwork network → HoldsFault network text fault → HoldsFault network (text ++ more) fault
held_stays network text more fault bounds held = record {
  first = fault_stays network text more fault held.first held.ended;
  ended = omega (arith, held.ended, feeds-more text more);
}

-- where the lines so far are right, no line that has ended holds a fault
past_right : (network : NetworkOf) (format : LogFormat) (xs ys : List (LineIn format)) (x y : List ℕ) (kind : LogKind) → Order format xs ys x y → LogBegins network format xs → length ys < length xs → IsFaultAfter network format ys y kind → ⊥
past_right network format xs ys x y kind (same lines texts) begins shorter fault = let long : length xs ≡ length ys = ap length lines in omega arith
past_right network format xs ys x y kind (further line more left lines next) begins shorter fault =
    let long : length ys ≡ length (xs ++ line ∷ more) = ap length lines in
    omega (arith, length-append xs (line ∷ more))
past_right network format xs ys x y kind (behind line more left lines next) begins shorter fault =
    no_fault_inside network format ys line more y left kind (subst (LogBegins network format) lines begins) next fault

-- the front that was taken is the beginning of the text
record Begun (text : List ℕ) (replayer : ReplayerOf) (format : LogFormat) : Type 0 where
  lines : List (LineIn format)
  begins : BeginsIn format text lines replayer.unfinished
  log : LogBegins replayer.network format lines
  number : replayer.judged.progress.lines ≡ length lines + 1

begun_text : (text : List ℕ) (replayer : ReplayerOf) (is : IsRight text replayer) → 0 < replayer.judged.progress.lines → Begun text replayer is.taken.format
begun_text text replayer is some =
    let taken = is.taken in
    let log = front_begun is.front taken.format taken.lines replayer.judged.progress.lines taken.front some in
    record {
      lines = taken.lines;
      begins = subst (λ (t : List ℕ). BeginsIn taken.format t taken.lines replayer.unfinished) (sym is.whole) (begins_more_in taken.format is.front taken.lines [] replayer.unfinished log.begins);
      log = goes_begins replayer.network taken.format taken.lines replayer.judged.progress.stack.nodes taken.goes;
      number = log.numbered;
    }

none_later : (text : List ℕ) (replayer : ReplayerOf) (format : LogFormat) (ys : List (LineIn format)) (y : List ℕ) (kind : LogKind) → Begun text replayer format → BeginsIn format text ys y → length ys + 1 < replayer.judged.progress.lines → IsFaultAfter replayer.network format ys y kind → ⊥
none_later text replayer format ys y kind log spelled shorter wrong' =
    past_right replayer.network format log.lines ys replayer.unfinished y kind
    (order format log.lines ys replayer.unfinished y log.begins.numbers spelled.numbers (after_head_in format text log.lines ys replayer.unfinished y log.begins spelled))
    log.log (omega (arith, shorter, log.number)) wrong'

none_held : (text : List ℕ) (replayer : ReplayerOf) (fault : LogFault) → IsNetwork replayer.network → IsRight text replayer → fault.line ≤ feeds text → IsFirstFault replayer.network text fault → ⊥
none_held text replayer fault bounds is ended (headless line kind lacks) =
    let counted = right_feeds text replayer bounds is in
    let log = begun_text text replayer is (omega (arith, line, ended, counted)) in
    lacks is.taken.format (texts_in is.taken.format log.lines ++ replayer.unfinished) (begins_head_in is.taken.format text log.lines replayer.unfinished log.begins)
none_held text replayer fault bounds is ended (later format ys y spelled begins at wrong') =
    let counted = right_feeds text replayer bounds is in
    let log = begun_text text replayer is (omega (arith, at, ended, counted)) in
    let formats : is.taken.format ≡ format = same_format is.taken.format format text log.lines ys replayer.unfinished y log.begins spelled in
    none_later text replayer format ys y fault.kind (subst (Begun text replayer) formats log) spelled (omega (arith, at, ended, counted)) wrong'

pub right_holds_none : (text : List ℕ) (replayer : ReplayerOf) → IsNetwork replayer.network → IsRight text replayer → (fault : LogFault) → HoldsFault replayer.network text fault → ⊥
right_holds_none text replayer bounds is fault held = none_held text replayer fault bounds is held.ended held.first

-- ---- the beginning

pub fed_start : (network : NetworkOf) (judged : Judged) → judged.fault ≡ None → HasTaken network [] judged.progress → HasFed [] (replay_at network judged [])
fed_start network judged none taken =
    subst (λ (o : Option LogFault). MatchOption o (IsRight [] (replay_at network judged [])) (HoldsFault network [])) (sym none)
    (record { front = []; whole = refl; lacks = All-nil NoFeed; taken = taken })

-- ---- cases of a text that was handed in

-- the lines are right so far, or hold a fault
pub data FedBy (text : List ℕ) (replayer : ReplayerOf) : Type 0 where
  by_right : replayer.judged.fault ≡ None → IsRight text replayer → FedBy text replayer
  by_fault : (fault : LogFault) → replayer.judged.fault ≡ Some fault → HoldsFault replayer.network text fault → FedBy text replayer

pub fed_by : (text : List ℕ) (replayer : ReplayerOf) → HasFed text replayer → FedBy text replayer
fed_by text replayer fed = by_option replayer.judged.fault refl
  where
    by_option : (o : Option LogFault) → replayer.judged.fault ≡ o → FedBy text replayer
    by_option None is = by_right is (subst (λ (f : Option LogFault). MatchOption f (IsRight text replayer) (HoldsFault replayer.network text)) is fed)
    by_option (Some fault) is = by_fault fault is (subst (λ (f : Option LogFault). MatchOption f (IsRight text replayer) (HoldsFault replayer.network text)) is fed)

pub right_fed : (text : List ℕ) (replayer : ReplayerOf) → replayer.judged.fault ≡ None → IsRight text replayer → HasFed text replayer
right_fed text replayer none is = subst (λ (f : Option LogFault). MatchOption f (IsRight text replayer) (HoldsFault replayer.network text)) (sym none) is

pub held_fed : (text : List ℕ) (replayer : ReplayerOf) (fault : LogFault) → replayer.judged.fault ≡ Some fault → HoldsFault replayer.network text fault → HasFed text replayer
held_fed text replayer fault some held = subst (λ (f : Option LogFault). MatchOption f (IsRight text replayer) (HoldsFault replayer.network text)) (sym some) held

pub fault_read : (text : List ℕ) (replayer : ReplayerOf) (fault : LogFault) → replayer.judged.fault ≡ Some fault → IsFirstFault replayer.network text fault → HasRead text replayer
fault_read text replayer fault some first = subst (λ (f : Option LogFault). MatchOption f (IsRight text replayer) (IsFirstFault replayer.network text)) (sym some) first

pub right_read : (text : List ℕ) (replayer : ReplayerOf) → replayer.judged.fault ≡ None → IsRight text replayer → HasRead text replayer
right_read text replayer none is = subst (λ (f : Option LogFault). MatchOption f (IsRight text replayer) (IsFirstFault replayer.network text)) (sym none) is

pub data ReadBy (text : List ℕ) (replayer : ReplayerOf) : Type 0 where
  read_right : replayer.judged.fault ≡ None → IsRight text replayer → ReadBy text replayer
  read_fault : (fault : LogFault) → replayer.judged.fault ≡ Some fault → IsFirstFault replayer.network text fault → ReadBy text replayer

pub read_by : (text : List ℕ) (replayer : ReplayerOf) → HasRead text replayer → ReadBy text replayer
read_by text replayer read = by_option replayer.judged.fault refl
  where
    by_option : (o : Option LogFault) → replayer.judged.fault ≡ o → ReadBy text replayer
    by_option None is = read_right is (subst (λ (f : Option LogFault). MatchOption f (IsRight text replayer) (IsFirstFault replayer.network text)) is read)
    by_option (Some fault) is = read_fault fault is (subst (λ (f : Option LogFault). MatchOption f (IsRight text replayer) (IsFirstFault replayer.network text)) is read)

-- what was fed was read
pub fed_read : (text : List ℕ) (replayer : ReplayerOf) → HasFed text replayer → HasRead text replayer
fed_read text replayer fed = elim (fed_by text replayer fed) [
  | by_right none is ↦ right_read text replayer none is
  | by_fault fault some held ↦ fault_read text replayer fault some held.first
]

-- ---- bytes without an LF are kept

pub fed_kept : (network : NetworkOf) (judged : Judged) (text kept bytes : List ℕ) → IsNetwork network → All NoFeed bytes → HasFed text (replay_at network judged kept) → HasFed (text ++ bytes) (replay_at network judged (kept ++ bytes))
fed_kept network judged text kept bytes bounds lacks fed = elim (fed_by text (replay_at network judged kept) fed) [
  | by_right none is ↦ right_fed (text ++ bytes) (replay_at network judged (kept ++ bytes)) none (record {
    front = is.front;
    whole = ap (λ (t : List ℕ). t ++ bytes) is.whole ∙ append_assoc is.front kept bytes;
    lacks = All-append NoFeed kept bytes is.lacks lacks;
    taken = is.taken;
  })
  | by_fault fault some held ↦ held_fed (text ++ bytes) (replay_at network judged (kept ++ bytes)) fault some (held_stays network text bytes fault bounds held)
]

-- ---- a line is judged

-- the line that is judged: what was kept before it, and its own bytes
abbrev pub ended_line : List ℕ → TextLineOf
ended_line body = record { text = body; ended = true }

-- where it is judged, the text was taken up to it
pub reaches_line : (network : NetworkOf) (front : List ℕ) (line : TextLineOf) (progress : Progress) → HasTaken network front progress → line ∷ [] ≡ lines_of (line_bytes line) → Reaches network (front ++ line_bytes line) (line ∷ []) progress
reaches_line network front line progress taken walked = record { front = front; left = line_bytes line; whole = refl; walked = walked; taken = taken }

one_ended : (body : List ℕ) → All NoFeed body → ended_line body ∷ [] ≡ lines_of (body ++ line_feed ∷ [])
one_ended body lacks = sym (lines_of-more body [] lacks)

one_unended : (body : List ℕ) → All NoFeed body → (body ≡ [] → ⊥) → record { text = body; ended = false } ∷ [] ≡ lines_of body
one_unended body lacks some = sym (last_line body (some_long body some) (slice_split_none is_line_feed body lacks))
  where
    some_long : (xs : List ℕ) → (xs ≡ [] → ⊥) → 0 < length xs
    some_long [] some = absurd (some refl)
    some_long (x ∷ xs) some = omega arith

moved : (text front kept body : List ℕ) → text ≡ front ++ kept → (text ++ body) ++ line_feed ∷ [] ≡ front ++ ((kept ++ body) ++ line_feed ∷ [])
moved text front kept body is =
    ap (λ (t : List ℕ). (t ++ body) ++ line_feed ∷ []) is
    ∙ ap (λ (t : List ℕ). t ++ line_feed ∷ []) (append_assoc front kept body)
    ∙ append_assoc front (kept ++ body) (line_feed ∷ [])

-- a line that ends is judged, over a text whose lines were right so far
judged_right : (network : NetworkOf) (before now : Judged) (front body : List ℕ) → IsNetwork network → before.fault ≡ None → HasTaken network front before.progress → All NoFeed body → before.progress.lines + 1 < 2 ^ 64 → Judges network (ended_line body) before now → HasFed (front ++ (body ++ line_feed ∷ [])) (replay_at network now [])
judged_right network before now front body bounds none taken lacks few (after_fault fault some kept) = let both : None ≡ Some fault = sym none ∙ some in absurd (cc)
judged_right network before now front body bounds none taken lacks few (right is still takes) =
    right_fed (front ++ (body ++ line_feed ∷ [])) (replay_at network now []) still (record {
      front = front ++ (body ++ line_feed ∷ []);
      whole = sym (append-nil (front ++ (body ++ line_feed ∷ [])));
      lacks = All-nil NoFeed;
      taken = taken_next network front (ended_line body) before.progress now.progress taken few takes;
    })
judged_right network before now front body bounds none taken lacks few (wrong kind is found stops) =
    let text : List ℕ = front ++ (body ++ line_feed ∷ []) in
    let fault : LogFault = record { line = before.progress.lines + 1; kind = kind } in
    let made : ℕ → LogFault = λ (n : ℕ). record { line = n; kind = kind } in
    let some : now.fault ≡ Some fault = found ∙ ap (λ (n : ℕ). Some (made n)) (next_rises before.progress.lines few) in
    held_fed text (replay_at network now []) fault some (record {
      first = fault_stopped network text (ended_line body) [] before.progress kind (reaches_line network front (ended_line body) before.progress taken (one_ended body lacks)) stops;
      ended = omega (arith, feeds-append front (body ++ line_feed ∷ []), feeds-one body lacks, front_feeds network front before.progress bounds taken);
    })

same_judged : (network : NetworkOf) (before now : Judged) (line : TextLineOf) (fault : LogFault) → before.fault ≡ Some fault → Judges network line before now → now.fault ≡ Some fault
same_judged network before now line fault some (after_fault other also is) = ap (λ (j : Judged). j.fault) is ∙ some
same_judged network before now line fault some (right none still takes) = let both : None ≡ Some fault = sym none ∙ some in absurd (cc)
same_judged network before now line fault some (wrong kind none found stops) = let both : None ≡ Some fault = sym none ∙ some in absurd (cc)

-- .. over any text
pub fed_ended : (network : NetworkOf) (before now : Judged) (text kept body : List ℕ) → IsNetwork network → All NoFeed body → HasFed text (replay_at network before kept) → feeds ((text ++ body) ++ line_feed ∷ []) < 2 ^ 64 → Judges network (ended_line (kept ++ body)) before now → HasFed ((text ++ body) ++ line_feed ∷ []) (replay_at network now [])
fed_ended network before now text kept body bounds lacks fed few judges = elim (fed_by text (replay_at network before kept) fed) [
  | by_right none is ↦
      let count = right_feeds text (replay_at network before kept) bounds is in
      subst (λ (t : List ℕ). HasFed t (replay_at network now [])) (sym (moved text is.front kept body is.whole))
      (judged_right network before now is.front (kept ++ body) bounds none is.taken (All-append NoFeed kept body is.lacks lacks)
      (omega (arith, few, count, feeds-append (text ++ body) (line_feed ∷ []), feeds-append text body, one_feed)) judges)
  | by_fault fault some held ↦
      held_fed ((text ++ body) ++ line_feed ∷ []) (replay_at network now []) fault (same_judged network before now (ended_line (kept ++ body)) fault some judges)
      (held_stays network (text ++ body) (line_feed ∷ []) fault bounds (held_stays network text body fault bounds held))
]
  where
    one_feed : feeds (line_feed ∷ []) ≡ 1
    one_feed = refl

-- a last line without its LF is judged
unended_right : (network : NetworkOf) (before now : Judged) (front body : List ℕ) → before.fault ≡ None → HasTaken network front before.progress → All NoFeed body → (body ≡ [] → ⊥) → before.progress.lines + 1 < 2 ^ 64 → Judges network (record { text = body; ended = false }) before now → (fault : LogFault) × (now.fault ≡ Some fault) × IsFirstFault network (front ++ body) fault
unended_right network before now front body none taken lacks some few (after_fault fault is kept) = let both : None ≡ Some fault = sym none ∙ is in absurd (cc)
unended_right network before now front body none taken lacks some few (right is still takes) = absurd (false≢true (unended_takes network body before.progress now.progress takes))
  where
    unended_takes : (network : NetworkOf) (body : List ℕ) (before now : Progress) → TakesLine network body false before now → false ≡ true
    unended_takes network body before now (at_head head) = head.with_end
    unended_takes network body before now (at_node middle some takes is) = takes.with_end
unended_right network before now front body none taken lacks some few (wrong kind is found stops) =
    let line : TextLineOf = record { text = body; ended = false } in
    let made : ℕ → LogFault = λ (n : ℕ). record { line = n; kind = kind } in (
      made (before.progress.lines + 1),
      found ∙ ap (λ (n : ℕ). Some (made n)) (next_rises before.progress.lines few),
      fault_stopped network (front ++ body) line [] before.progress kind (reaches_line network front line before.progress taken (one_unended body lacks some)) stops,
    )

-- .. over any text, of which nothing was kept before the line or all of it
pub fed_unended : (network : NetworkOf) (before now : Judged) (text kept body : List ℕ) → IsNetwork network → All NoFeed body → (kept ++ body ≡ [] → ⊥) → HasFed text (replay_at network before kept) → feeds text < 2 ^ 63 → Judges network (record { text = kept ++ body; ended = false }) before now → (fault : LogFault) × (now.fault ≡ Some fault) × IsFirstFault network (text ++ body) fault
fed_unended network before now text kept body bounds lacks some fed few judges = elim (fed_by text (replay_at network before kept) fed) [
  | by_right none is ↦
      let count = right_feeds text (replay_at network before kept) bounds is in
      let (fault, found, first) = unended_right network before now is.front (kept ++ body) none is.taken (All-append NoFeed kept body is.lacks lacks) some (omega (arith, few, count)) judges in
      (fault, found, subst (λ (t : List ℕ). IsFirstFault network t fault) (sym (append_assoc is.front kept body) ∙ ap (λ (t : List ℕ). t ++ body) (sym is.whole)) first)
  | by_fault fault is held ↦
      let stays = held_stays network text body fault bounds held in
      (fault, same_judged network before now (record { text = kept ++ body; ended = false }) fault is judges, stays.first)
]

-- ---- parts of lines

unended_bytes : (line : TextLineOf) → line.ended ≡ false → line_bytes line ≡ line.text
unended_bytes line is = ap (λ (e : Bool). if e then line.text ++ line_feed ∷ [] else line.text) is

pub length-zero : (xs : List ℕ) → length xs ≡ 0 → xs ≡ []
length-zero [] none = refl
length-zero (x ∷ xs) none = absurd (omega arith)

pub part_kept : (network : NetworkOf) (judged : Judged) (kept bytes : List ℕ) → IsNetwork network → All NoFeed bytes → TakesPart network bytes judged kept judged (kept ++ bytes)
part_kept network judged kept bytes bounds lacks text fed few = fed_kept network judged text kept bytes bounds lacks fed

pub part_ended : (network : NetworkOf) (before now : Judged) (kept body : List ℕ) → IsNetwork network → All NoFeed body → Judges network (ended_line (kept ++ body)) before now → TakesPart network (body ++ line_feed ∷ []) before kept now []
part_ended network before now kept body bounds lacks judges text fed few =
    let same_text : (text ++ body) ++ line_feed ∷ [] ≡ text ++ (body ++ line_feed ∷ []) = append_assoc text body (line_feed ∷ []) in
    subst (λ (t : List ℕ). HasFed t (replay_at network now [])) same_text
    (fed_ended network before now text kept body bounds lacks fed (subst (λ (t : List ℕ). feeds t < 2 ^ 64) (sym same_text) few) judges)

-- .. as they stand in a piece
pub taken_kept : (network : NetworkOf) (judged : Judged) (kept kept_now : List ℕ) (line : TextLineOf) → IsNetwork network → All NoFeed line.text → line.ended ≡ false → kept_now ≡ kept ++ line.text → TakesPart network (line_bytes line) judged kept judged kept_now
taken_kept network judged kept kept_now line bounds lacks is grown =
    subst (λ (b : List ℕ). TakesPart network b judged kept judged kept_now) (sym (unended_bytes line is))
    (subst (λ (k : List ℕ). TakesPart network line.text judged kept judged k) (sym grown) (part_kept network judged kept line.text bounds lacks))

pub taken_ended : (network : NetworkOf) (before now : Judged) (kept kept_now body : List ℕ) (line : TextLineOf) → IsNetwork network → All NoFeed line.text → line.ended ≡ true → body ≡ kept ++ line.text → kept_now ≡ [] → Judges network (ended_line body) before now → TakesPart network (line_bytes line) before kept now kept_now
taken_ended network before now kept kept_now body line bounds lacks is grown gone judges =
    subst (λ (b : List ℕ). TakesPart network b before kept now kept_now) (sym (ended_bytes line is))
    (subst (λ (k : List ℕ). TakesPart network (line.text ++ line_feed ∷ []) before kept now k) (sym gone)
    (part_ended network before now kept line.text bounds lacks (subst (λ (b : List ℕ). Judges network (ended_line b) before now) grown judges)))

-- a line that lies whole in a piece
pub taken_whole : (network : NetworkOf) (before now : Judged) (kept : List ℕ) (line : TextLineOf) → IsNetwork network → All NoFeed line.text → line.ended ≡ true → length kept ≡ 0 → Judges network line before now → TakesPart network (line_bytes line) before kept now kept
taken_whole network before now kept line bounds lacks is none judges =
    let empty : kept ≡ [] = length-zero kept none in
    let made : Bool → TextLineOf = λ (e : Bool). record { text = line.text; ended = e } in
    taken_ended network before now kept kept line.text line bounds lacks is (ap (λ (k : List ℕ). k ++ line.text) (sym empty)) empty
    (subst (λ (l : TextLineOf). Judges network l before now) (ap made is) judges)

-- a part more of a piece
pub part_then : (network : NetworkOf) (first second : List ℕ) (before middle now : Judged) (kept kept_middle kept_now : List ℕ) → TakesPart network first before kept middle kept_middle → TakesPart network second middle kept_middle now kept_now → TakesPart network (first ++ second) before kept now kept_now
part_then network first second before middle now kept kept_middle kept_now one two text fed few =
    let all : (text ++ first) ++ second ≡ text ++ (first ++ second) = append_assoc text first second in
    let few_all : feeds ((text ++ first) ++ second) < 2 ^ 64 = subst (λ (t : List ℕ). feeds t < 2 ^ 64) (sym all) few in
    subst (λ (t : List ℕ). HasFed t (replay_at network now kept_now)) all
    (two (text ++ first) (one text fed (omega (arith, few_all, feeds-more (text ++ first) second))) few_all)

-- ---- the end

pub ends_first : (network : NetworkOf) (judged : Judged) (text : List ℕ) (answer : Result Replayed LogFault) → HasTaken network text judged.progress → judged.fault ≡ None → judged.progress.lines + 1 < 2 ^ 64 → IsAnswerAtEnd judged answer → Finishes network text answer
ends_first network judged text answer taken none few (at_fault fault some is) = let both : None ≡ Some fault = sym none ∙ some in absurd (cc)
ends_first network judged text answer taken none few (at_start also zero is) = subst (Finishes network text) (sym is) (fault_empty network text judged.progress taken zero)
ends_first network judged text answer taken none few (too_early also some open_nodes is) =
    let made : ℕ → LogFault = λ (n : ℕ). record { line = n; kind = Short } in
    subst (Finishes network text) (sym is)
    (subst (λ (n : ℕ). IsFirstFault network text (made n)) (sym (next_rises judged.progress.lines few)) (fault_short network text judged.progress taken some open_nodes))
ends_first network judged text answer taken none few (whole_log also some none_open is) =
    subst (Finishes network text) (sym is) (replayed_whole network text judged.progress taken some none_open)

pub ends_fault : (network : NetworkOf) (judged : Judged) (text : List ℕ) (answer : Result Replayed LogFault) (fault : LogFault) → judged.fault ≡ Some fault → IsFirstFault network text fault → IsAnswerAtEnd judged answer → Finishes network text answer
ends_fault network judged text answer fault some first (at_fault other also is) =
    let same_one : Some fault ≡ Some other = sym some ∙ also in
    let alike : fault ≡ other = cc in
    subst (Finishes network text) (sym is) (subst (IsFirstFault network text) alike first)
ends_fault network judged text answer fault some first (at_start none zero is) = let both : None ≡ Some fault = sym none ∙ some in absurd (cc)
ends_fault network judged text answer fault some first (too_early none lines open_nodes is) = let both : None ≡ Some fault = sym none ∙ some in absurd (cc)
ends_fault network judged text answer fault some first (whole_log none lines none_open is) = let both : None ≡ Some fault = sym none ∙ some in absurd (cc)

-- what is left where no further piece comes
pub finish_whole : (network : NetworkOf) (judged : Judged) (text : List ℕ) (answer : Result Replayed LogFault) → IsNetwork network → HasRead text (replay_at network judged []) → feeds text < 2 ^ 63 → IsAnswerAtEnd judged answer → Finishes network text answer
finish_whole network judged text answer bounds read few ends = elim (read_by text (replay_at network judged []) read) [
  | read_right none is ↦
      let count = right_feeds text (replay_at network judged []) bounds is in
      let whole : text ≡ is.front = is.whole ∙ append-nil is.front in
      ends_first network judged text answer (subst (λ (t : List ℕ). HasTaken network t judged.progress) (sym whole) is.taken) none (omega (arith, few, count)) ends
  | read_fault fault some first ↦ ends_fault network judged text answer fault some first ends
]

pub finish_rest : (network : NetworkOf) (before now : Judged) (kept text : List ℕ) (answer : Result Replayed LogFault) → IsNetwork network → (kept ≡ [] → ⊥) → HasRead text (replay_at network before kept) → feeds text < 2 ^ 63 → Judges network (record { text = kept; ended = false }) before now → IsAnswerAtEnd now answer → Finishes network text answer
finish_rest network before now kept text answer bounds some read few judges ends = elim (read_by text (replay_at network before kept) read) [
  | read_right none is ↦
      let count = right_feeds text (replay_at network before kept) bounds is in
      let (fault, found, first) = unended_right network before now is.front kept none is.taken is.lacks some (omega (arith, few, count)) judges in
      ends_fault network now text answer fault found (subst (λ (t : List ℕ). IsFirstFault network t fault) (sym is.whole) first) ends
  | read_fault fault is first ↦
      ends_fault network now text answer fault (same_judged network before now (record { text = kept; ended = false }) fault is judges) first ends
]

-- ---- what is answered

pub fed_says_fault : (text : List ℕ) (replayer : ReplayerOf) (fault : LogFault) → HasFed text replayer → replayer.judged.fault ≡ Some fault → HoldsFault replayer.network text fault
fed_says_fault text replayer fault fed is = subst (λ (f : Option LogFault). MatchOption f (IsRight text replayer) (HoldsFault replayer.network text)) is fed

pub fed_says_none : (text : List ℕ) (replayer : ReplayerOf) → IsNetwork replayer.network → HasFed text replayer → replayer.judged.fault ≡ None → (fault : LogFault) → HoldsFault replayer.network text fault → ⊥
fed_says_none text replayer bounds fed none =
    right_holds_none text replayer bounds (subst (λ (f : Option LogFault). MatchOption f (IsRight text replayer) (HoldsFault replayer.network text)) none fed)

pub read_says_fault : (text : List ℕ) (replayer : ReplayerOf) (fault : LogFault) → HasRead text replayer → replayer.judged.fault ≡ Some fault → IsFirstFault replayer.network text fault
read_says_fault text replayer fault read is = subst (λ (f : Option LogFault). MatchOption f (IsRight text replayer) (IsFirstFault replayer.network text)) is read

pub read_says_none : (text : List ℕ) (replayer : ReplayerOf) → IsNetwork replayer.network → HasRead text replayer → replayer.judged.fault ≡ None → (fault : LogFault) → HoldsFault replayer.network text fault → ⊥
read_says_none text replayer bounds read none =
    right_holds_none text replayer bounds (subst (λ (f : Option LogFault). MatchOption f (IsRight text replayer) (IsFirstFault replayer.network text)) none read)

-- .. on a line that was judged
pub record LineLeaves (network : NetworkOf) (text : List ℕ) (line : TextLineOf) (now : ReplayerOf) : Type 0 where
  pub read : HasRead (text ++ line_bytes line) now
  pub fed : line.ended ≡ true → HasFed (text ++ line_bytes line) now
  pub right : now.judged.fault ≡ None → line.ended ≡ true

pub line_leaves : (network : NetworkOf) (before now : Judged) (kept text : List ℕ) (line : TextLineOf) → IsNetwork network → IsLineNext text line (replay_at network before kept) → Judges network line before now → LineLeaves network text line (replay_at network now kept)
line_leaves network before now kept text line bounds next judges = elim (cases_Bool line.ended) [
  | inl ended ↦
      let bytes : feeds (line_bytes line) ≡ 1 = ap feeds (ended_bytes line ended) ∙ feeds-one line.text next.lacks in
      let fed = taken_whole network before now kept line bounds next.lacks ended (ap length next.finished) judges text next.fed (omega (arith, next.few, feeds-append text (line_bytes line), bytes)) in
      record { read = fed_read (text ++ line_bytes line) (replay_at network now kept) fed; fed = λ also. fed; right = λ none. ended }
  | inr unended ↦
      let made : Bool → List ℕ → TextLineOf = λ (e : Bool) (t : List ℕ). record { text = t; ended = e } in
      let body : line ≡ made false (kept ++ line.text) = ap₂ made unended (ap (λ (k : List ℕ). k ++ line.text) (sym next.finished)) in
      let (fault, found, first) = fed_unended network before now text kept line.text bounds next.lacks
      (λ none. next.some unended (ap (λ (k : List ℕ). k ++ line.text) (sym next.finished) ∙ none)) next.fed next.few
      (subst (λ (l : TextLineOf). Judges network l before now) body judges) in
      record {
        read = fault_read (text ++ line_bytes line) (replay_at network now kept) fault found (subst (λ (b : List ℕ). IsFirstFault network (text ++ b) fault) (sym (unended_bytes line unended)) first);
        fed = λ ended. absurd (false≢true (sym unended ∙ ended));
        right = λ none. let both : None ≡ Some fault = sym none ∙ found in absurd (cc);
      }
]

pub line_fault : (network : NetworkOf) (text : List ℕ) (line : TextLineOf) (now : ReplayerOf) (answer : Result Unit LogFault) (fault : LogFault) → LineLeaves network text line now → now.judged.fault ≡ Some fault → answer ≡ Err fault → SaysOfLine now.network (text ++ line_bytes line) line.ended answer
line_fault network text line now answer fault leaves is says =
    let all : List ℕ = text ++ line_bytes line in
    subst (SaysOfLine now.network all line.ended) (sym says)
    (read_says_fault all now fault leaves.read is, λ ended. fed_says_fault all now fault (leaves.fed ended) is)

pub line_right : (network : NetworkOf) (text : List ℕ) (line : TextLineOf) (now : ReplayerOf) (answer : Result Unit LogFault) → IsNetwork now.network → LineLeaves network text line now → now.judged.fault ≡ None → answer ≡ Ok tt → SaysOfLine now.network (text ++ line_bytes line) line.ended answer
line_right network text line now answer bounds leaves none says =
    let all : List ℕ = text ++ line_bytes line in
    subst (SaysOfLine now.network all line.ended) (sym says)
    (leaves.right none, read_says_none all now bounds leaves.read none)

-- .. on a piece that was taken
pub feed_fault : (text piece : List ℕ) (old now : ReplayerOf) (answer : Result Unit ReplayAnswer) (fault : LogFault) → now.network ≡ old.network → HasFed (text ++ piece) now → now.judged.fault ≡ Some fault → answer ≡ Err (replay_answer.Fault fault) → AnswersFed text piece answer old now
feed_fault text piece old now answer fault same_network fed is says =
    subst (λ (a : Result Unit ReplayAnswer). AnswersFed text piece a old now) (sym says)
    (fed, subst (λ (n : NetworkOf). HoldsFault n (text ++ piece) fault) same_network (fed_says_fault (text ++ piece) now fault fed is))

pub feed_right : (text piece : List ℕ) (old now : ReplayerOf) (answer : Result Unit ReplayAnswer) → IsNetwork now.network → now.network ≡ old.network → HasFed (text ++ piece) now → now.judged.fault ≡ None → answer ≡ Ok tt → AnswersFed text piece answer old now
feed_right text piece old now answer bounds same_network fed none says =
    subst (λ (a : Result Unit ReplayAnswer). AnswersFed text piece a old now) (sym says)
    (fed, λ fault held. fed_says_none (text ++ piece) now bounds fed none fault (subst (λ (n : NetworkOf). HoldsFault n (text ++ piece) fault) (sym same_network) held))

-- after a fault a piece changes nothing
pub fed_after_fault : (text piece : List ℕ) (replayer : ReplayerOf) → IsNetwork replayer.network → is_some replayer.judged.fault ≡ true → HasFed text replayer → HasFed (text ++ piece) replayer
fed_after_fault text piece replayer bounds some fed =
    let (fault, is) = some_fault replayer.judged.fault some in
    held_fed (text ++ piece) replayer fault is (held_stays replayer.network text piece fault bounds (fed_says_fault text replayer fault fed is))

-- the lines of a piece can be counted
pub few_with : (text piece : List ℕ) → feeds text < 2 ^ 63 → length piece < 2 ^ 63 → feeds (text ++ piece) < 2 ^ 64
few_with text piece few short = omega (arith, few, short, feeds-append text piece, count_by-le-length is_line_feed piece)

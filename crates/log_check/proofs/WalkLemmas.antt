-- The lines of a text one by one.
use Rattle.std.proofs.Common.{◌≡◌, ℕ, ◌+◌, ◌<◌, ◌≤◌, Bool, true, false, List, [], ◌∷◌, ◌++◌, length, All, arith, refl, ap, sym, ◌∙◌, subst, inl, inr, ◌^◌, append-nil, append_assoc}
use Rattle.std.specs.Prelude.{Result, Ok, Err}
use Rattle.std.proofs.lemmas.Bool.{cases_Bool}
use Rattle.std.proofs.lemmas.List.{length-append}
use Rattle.std.proofs.lemmas.List.Sums.{count_by-le-length}
use Rattle.std.proofs.lemmas.List.Elements.{All-head}
use Rattle.lent_parts.specs.Pieces.{TextLineOf, is_line_feed, line_feed, lines_of, line_bytes}
use Rattle.lent_parts.proofs.PieceLemmas.{lines_of-lack, lines_of-unended}
use Rattle.geo_model.specs.Network.{NetworkOf, IsNetwork}
use Rattle.log_check.specs.declared.fault.LogFault.{LogFault}
use Rattle.log_check.specs.declared.judged.Judged.{Judged}
use Rattle.log_check.specs.Fed.{ReplayerOf, HasFed, HasRead, HoldsFault, IsLineNext, SaysOfLine, AnswersLine, IsSound, TakesPart}
use Rattle.log_check.specs.FirstFault.{IsFirstFault}
use Rattle.log_check.specs.Walking.{Walks, Replays}
use Rattle.log_check.proofs.FedLemmas.{part_then, held_stays, fed_read}
use Rattle.bound_log.proofs.GrammarLemmas.{NoFeed}
use Rattle.log_check.proofs.LongerLemmas.{feeds}
use Rattle.log_check.proofs.ReachLemmas.{next_line, left_none}

abbrev Lacks : TextLineOf → Type 0
Lacks line = All NoFeed line.text

-- the next line has no LF in it
pub walk_lacks : (left : List ℕ) (line : TextLineOf) (more : List TextLineOf) → lines_of left ≡ line ∷ more → All NoFeed line.text
walk_lacks left line more are = All-head Lacks line more (subst (All Lacks) are (lines_of-lack left))

-- .. and is no longer than what it stands in
line_long : (text : List ℕ) (ended : Bool) → length text ≤ length (line_bytes (record { text = text; ended = ended }))
line_long text true = omega (arith, length-append text (line_feed ∷ []))
line_long text false = omega arith

pub walk_long : (left : List ℕ) (line : TextLineOf) (more : List TextLineOf) → lines_of left ≡ line ∷ more → length line.text ≤ length left
walk_long left line more are =
    let next = next_line left line more are in
    let long : length left ≡ length (line_bytes line ++ next.left) = ap length next.spelled in
    omega (arith, long, length-append (line_bytes line) next.left, line_long line.text line.ended)

-- ---- a piece

pub walks_next : (network : NetworkOf) (piece : List ℕ) (before middle now : Judged) (kept kept_middle kept_now : List ℕ) (walk more : List TextLineOf) (line : TextLineOf) (long room long_now room_now : ℕ) → walk ≡ line ∷ more → Walks network piece before kept walk middle kept_middle long room → IsSound network now → TakesPart network (line_bytes line) middle kept_middle now kept_now → long_now ≤ long + length line.text → room ≤ room_now → Walks network piece before kept more now kept_now long_now room_now
walks_next network piece before middle now kept kept_middle kept_now walk more line long room long_now room_now steps walks sound taken few kept_room =
    let next = next_line walks.left line more (sym walks.walked ∙ steps) in
    let all : length walks.left ≡ length (line_bytes line ++ next.left) = ap length next.spelled in
    record {
      front = walks.front ++ line_bytes line;
      left = next.left;
      whole = walks.whole ∙ ap (λ (t : List ℕ). walks.front ++ t) next.spelled ∙ sym (append_assoc walks.front (line_bytes line) next.left);
      walked = next.walked;
      sound = sound;
      taken = part_then network walks.front (line_bytes line) before middle now kept kept_middle kept_now walks.taken taken;
      space = omega (arith, walks.space, all, length-append (line_bytes line) next.left, line_long line.text line.ended, few, kept_room);
    }

pub walks_end : (network : NetworkOf) (piece : List ℕ) (before now : Judged) (kept kept_now : List ℕ) (walk : List TextLineOf) (long room : ℕ) → walk ≡ [] → Walks network piece before kept walk now kept_now long room → TakesPart network piece before kept now kept_now
walks_end network piece before now kept kept_now walk long room none walks =
    let empty : walks.left ≡ [] = left_none walks.left (sym none ∙ walks.walked) in
    let whole : piece ≡ walks.front = walks.whole ∙ ap (λ (t : List ℕ). walks.front ++ t) empty ∙ append-nil walks.front in
    subst (λ (t : List ℕ). TakesPart network t before kept now kept_now) (sym whole) walks.taken

-- ---- a log at hand

pub replays_start : (network : NetworkOf) (log : List ℕ) (walk : List TextLineOf) (replayer : ReplayerOf) → walk ≡ lines_of log → replayer.network ≡ network → HasFed [] replayer → replayer.unfinished ≡ [] → Replays network log walk replayer
replays_start network log walk replayer walked of_network fed finished =
    record { front = []; left = log; whole = refl; walked = walked; of_network = of_network; fed = fed; finished = finished }

feeds_short : (front left log : List ℕ) → log ≡ front ++ left → length log < 2 ^ 63 → feeds front < 2 ^ 63
feeds_short front left log whole short =
    let long : length log ≡ length front + length left = ap length whole ∙ length-append front left in
    omega (arith, long, short, count_by-le-length is_line_feed front)

pub replays_line : (network : NetworkOf) (log : List ℕ) (walk more : List TextLineOf) (line : TextLineOf) (replayer : ReplayerOf) → length log < 2 ^ 63 → walk ≡ line ∷ more → (at : Replays network log walk replayer) → IsLineNext at.front line replayer
replays_line network log walk more line replayer short steps at =
    let are : lines_of at.left ≡ line ∷ more = sym at.walked ∙ steps in
    record {
      fed = at.fed;
      few = feeds_short at.front at.left log at.whole short;
      finished = at.finished;
      lacks = walk_lacks at.left line more are;
      some = λ unended none.
          let some : 0 < length line.text = (lines_of-unended at.left [] more line are unended).1 in
          let zero_long : length line.text ≡ 0 = ap length none in
          omega arith;
    }

-- what is left after the next line
joined : (log front left rest bytes : List ℕ) → log ≡ front ++ left → left ≡ bytes ++ rest → log ≡ (front ++ bytes) ++ rest
joined log front left rest bytes whole spelled = whole ∙ ap (λ (t : List ℕ). front ++ t) spelled ∙ sym (append_assoc front bytes rest)

pub replays_next : (network : NetworkOf) (log : List ℕ) (walk more : List TextLineOf) (line : TextLineOf) (replayer now : ReplayerOf) (answer : Result Unit LogFault) → walk ≡ line ∷ more → (at : Replays network log walk replayer) → answer ≡ Ok tt → AnswersLine at.front line answer now → now.network ≡ replayer.network → now.unfinished ≡ replayer.unfinished → Replays network log more now
replays_next network log walk more line replayer now answer steps at is answers same_network same_unfinished =
    let next = next_line at.left line more (sym at.walked ∙ steps) in
    let says : SaysOfLine now.network (at.front ++ line_bytes line) line.ended (Ok tt) = subst (SaysOfLine now.network (at.front ++ line_bytes line) line.ended) is answers.says in
    record {
      front = at.front ++ line_bytes line;
      left = next.left;
      whole = joined log at.front at.left next.left (line_bytes line) at.whole next.spelled;
      walked = next.walked;
      of_network = same_network ∙ at.of_network;
      fed = answers.fed says.0;
      finished = same_unfinished ∙ at.finished;
    }

pub replays_fault : (network : NetworkOf) (log : List ℕ) (walk more : List TextLineOf) (line : TextLineOf) (replayer now : ReplayerOf) (fault : LogFault) → IsNetwork network → walk ≡ line ∷ more → (at : Replays network log walk replayer) → AnswersLine at.front line (Err fault) now → now.network ≡ replayer.network → IsFirstFault network log fault
replays_fault network log walk more line replayer now fault bounds steps at answers same_network =
    let are : lines_of at.left ≡ line ∷ more = sym at.walked ∙ steps in
    let next = next_line at.left line more are in
    let text : List ℕ = at.front ++ line_bytes line in
    let whole : log ≡ text ++ next.left = joined log at.front at.left next.left (line_bytes line) at.whole next.spelled in
    let of_network : now.network ≡ network = same_network ∙ at.of_network in
    elim (cases_Bool line.ended) [
      | inl ended ↦
          let held : HoldsFault network text fault = subst (λ (n : NetworkOf). HoldsFault n text fault) of_network (answers.says.1 ended) in
          subst (λ (t : List ℕ). IsFirstFault network t fault) (sym whole) (held_stays network text next.left fault bounds held).first
      | inr unended ↦
          let last : more ≡ [] = (lines_of-unended at.left [] more line are unended).0 in
          let none : next.left ≡ [] = left_none next.left (sym last ∙ next.walked) in
          let ends : log ≡ text = whole ∙ ap (λ (t : List ℕ). text ++ t) none ∙ append-nil text in
          subst (λ (n : NetworkOf). IsFirstFault n log fault) of_network (subst (λ (t : List ℕ). IsFirstFault now.network t fault) (sym ends) answers.says.0)
    ]

-- at its end
pub record ReplaysAll (log : List ℕ) (replayer : ReplayerOf) : Type 0 where
  pub read : HasRead log replayer
  pub few : feeds log < 2 ^ 63

pub replays_end : (network : NetworkOf) (log : List ℕ) (walk : List TextLineOf) (replayer : ReplayerOf) → length log < 2 ^ 63 → walk ≡ [] → Replays network log walk replayer → ReplaysAll log replayer
replays_end network log walk replayer short none at =
    let empty : at.left ≡ [] = left_none at.left (sym none ∙ at.walked) in
    let whole : log ≡ at.front = at.whole ∙ ap (λ (t : List ℕ). at.front ++ t) empty ∙ append-nil at.front in
    record {
      read = subst (λ (t : List ℕ). HasRead t replayer) (sym whole) (fed_read at.front replayer at.fed);
      few = omega (arith, short, count_by-le-length is_line_feed log);
    }

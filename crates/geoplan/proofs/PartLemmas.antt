-- Laws of a log that is read in parts.
use Rattle.std.proofs.Common.{◌≡◌, ◌+◌, ◌^◌, ◌<◌, ◌≤◌, ℕ, Bool, true, false, List, [], ◌∷◌, ◌++◌, length, refl, sym, ap, ◌∙◌, subst, arith, take, drop, append_assoc, take-append-drop, inl, inr, Result, Ok, Err, Vec, Global}
use Rattle.std.proofs.Math.Seq.{drop-append_seam}
use Rattle.std.proofs.lemmas.List.{append-nil, length-append}
use Rattle.std.proofs.lemmas.List.Sums.{count_by-le-length}
use Rattle.std.specs.Option.{ForSome}
use Rattle.std.specs.Prelude.{IfOk, MatchResult}
use Rattle.geo_base.specs.declared.no_memory.NoMemory.{NoMemory}
use Rattle.geo_model.specs.Network.{NetworkOf}
use Rattle.shelf_io.specs.Files.{bytes_of, part_from}
use Rattle.shelf_io.specs.Faults.{KeepsFaults}
use Rattle.shelf_io.specs.States.{ShelfState}
use Rattle.log_check.specs.declared.fault.LogFault.{LogFault}
use Rattle.log_check.specs.declared.replaying.Replayed.{Replayed}
use Rattle.log_check.specs.Fed.{IsCountable}
use Rattle.log_check.specs.FirstFault.{IsFirstFault}
use Rattle.log_check.specs.Replayed.{IsReplayed}
use Rattle.geoplan.specs.declared.file_kind.FileKind.TheVariants as kind
use Rattle.geoplan.specs.declared.load.LoadFault.TheVariants as load
use Rattle.geoplan.specs.declared.log_parts.LogParts.{LogParts}
use Rattle.geoplan.specs.CommandOf.{most_of}
use Rattle.geoplan.specs.Loading.{ReadsFile, FailsRead}
use Rattle.geoplan.specs.Parts.{log_file, Begins, HasReadLog, ReadsPart}
use Rattle.geoplan.specs.Reporting.{Ends, HasNoText, ReportsReplay}
use Rattle.geoplan.specs.Texts.{replayed_text, log_fault_text}
use Rattle.geoplan.specs.declared.status.Status.{Status}
use Rattle.geoplan.specs.declared.status.Status.TheVariants as status
use Rattle.geoplan.proofs.LoadLemmas.{keeps}

-- ---- the beginning of some bytes

no_bytes : (bytes : List ℕ) → length bytes ≡ 0 → bytes ≡ []
no_bytes [] none = refl
no_bytes (x ∷ bytes) none = absurd (omega arith)

-- a beginning that is as long is all
whole_of : (text bytes : List ℕ) → Begins text bytes → length bytes ≤ length text → text ≡ bytes
whole_of text bytes (rest, is) short =
    let long : length bytes ≡ length text + length rest = ap length is ∙ length-append text rest in
    let none : length rest ≡ 0 = omega arith in
    sym (is ∙ ap (λ r. text ++ r) (no_bytes rest none) ∙ append-nil text)

-- .. is no longer
no_longer : (text bytes : List ℕ) → Begins text bytes → length text ≤ length bytes
no_longer text bytes (rest, is) = let long : length bytes ≡ length text + length rest = ap length is ∙ length-append text rest in omega arith

-- the part after a beginning makes it longer
begins_more : (text part bytes : List ℕ) (limit : ℕ) → Begins text bytes → part ≡ part_from (length text) limit bytes → Begins (text ++ part) bytes
begins_more text part bytes limit (rest, is) cut =
    let left : drop (length text) bytes ≡ rest = ap (drop (length text)) is ∙ drop-append_seam text rest in
    let front : part ≡ take limit rest = cut ∙ ap (take limit) left in (
      drop limit rest,
      is ∙ ap (λ r. text ++ r) (sym (take-append-drop limit rest)) ∙ sym (append_assoc text (take limit rest) (drop limit rest)) ∙ ap (λ p. (text ++ p) ++ drop limit rest) (sym front),
    )

few : (n m : ℕ) → n ≤ m → m ≤ most_of kind.Log → n < 2 ^ 63
few n m le within = omega arith

-- a text that was read has few enough lines
pub countable : (text : List ℕ) → length text ≤ most_of kind.Log → IsCountable text
countable text within = few _ (length text) (count_by-le-length _ text) within

-- ---- the next part

-- before the first part
pub HasReadLog-none : (parts : LogParts) (name : List ℕ) (state : ShelfState) → parts.name.now ≡ name → parts.at ≡ 0 → HasReadLog name [] parts state state
HasReadLog-none parts name state named none = record {
  named = named;
  counted = none;
  within = omega arith;
  begins = λ files told. (bytes_of files name, refl);
  held = refl;
  quiet = record { same_count = refl; same_last = refl };
}

module _ (name text : List ℕ) (parts : LogParts) (before middle now : ShelfState) (read : HasReadLog name text parts before middle) (held : now.held ≡ middle.held) where
  -- there is none
  pub ReadsFile-whole : KeepsFaults middle now → ForSome middle.held (λ files. length (bytes_of files parts.name.now) ≤ parts.at) → ReadsFile (log_file name) text before now
  ReadsFile-whole quiet ends =
      let ended : ForSome middle.held (λ files. length (bytes_of files name) ≤ parts.at) = subst (λ n. ForSome middle.held (λ files. length (bytes_of files n) ≤ parts.at)) read.named ends in
      record {
        has = (read.within, λ files told. whole_of text (bytes_of files name) (read.begins files told) (subst (λ n. length (bytes_of files name) ≤ n) read.counted (ended files (read.held ∙ told))));
        held = held ∙ read.held;
        quiet = keeps before middle now quiet read.quiet;
      }

  -- it was read, into room that was cleared
  module _ (cleared part : List ℕ) (count limit : ℕ) (none : cleared ≡ []) (some : (bytes : List ℕ) × (length bytes ≡ count) × (count ≤ limit) × (part ≡ cleared ++ bytes)) (cut : ForSome middle.held (λ files. part ≡ cleared ++ part_from parts.at limit (bytes_of files parts.name.now))) (quiet : KeepsFaults middle now) where
    part_long : length part ≡ count
    part_long = ap length (some.3 ∙ ap (λ c. c ++ some.0) none) ∙ some.1

    cut_here : ForSome middle.held (λ files. part ≡ part_from parts.at limit (bytes_of files name))
    cut_here =
        subst (λ n. ForSome middle.held (λ files. part ≡ part_from parts.at limit (bytes_of files n))) read.named
        (λ files told. cut files told ∙ ap (λ c. c ++ part_from parts.at limit (bytes_of files parts.name.now)) none)

    begins_part : ForSome before.held (λ files. Begins (text ++ part) (bytes_of files name))
    begins_part files told =
        begins_more text part (bytes_of files name) limit (read.begins files told)
        (cut_here files (read.held ∙ told) ∙ ap (λ n. part_from n limit (bytes_of files name)) read.counted)

    pub HasReadLog-part : (parts_now : LogParts) → parts_now.name.now ≡ parts.name.now → parts_now.at ≡ parts.at + count → parts_now.at ≤ most_of kind.Log → HasReadLog name (text ++ part) parts_now before now
    HasReadLog-part parts_now same_name grown within =
        let long : length (text ++ part) ≡ length text + length part = length-append text part in
        let counted : parts.at ≡ length text = read.counted in
        let new : length part ≡ count = part_long in
        record {
          named = same_name ∙ read.named;
          counted = omega arith;
          within = omega arith;
          begins = begins_part;
          held = held ∙ read.held;
          quiet = keeps before middle now quiet read.quiet;
        }

    -- the log is too long
    pub long_part : most_of kind.Log < parts.at + count → ForSome before.held (λ files. most_of kind.Log < length (bytes_of files name))
    long_part more files told =
        let long : length (text ++ part) ≡ length text + length part = length-append text part in
        let counted : parts.at ≡ length text = read.counted in
        let new : length part ≡ count = part_long in
        let le : length (text ++ part) ≤ length (bytes_of files name) = no_longer (text ++ part) (bytes_of files name) (begins_part files told) in
        omega arith

-- there was a further part, or none
pub reads_more : (name text : List ℕ) (more : Bool) (parts parts_now : LogParts) (before now : ShelfState) → ReadsPart name text (Ok more) parts parts_now before now → more ≡ true → HasReadLog name (text ++ parts_now.part.items) parts_now before now × (parts.at < parts_now.at)
reads_more name text true parts parts_now before now reads is = reads
reads_more name text false parts parts_now before now reads is = absurd (cc)

pub reads_none : (name text : List ℕ) (more : Bool) (parts parts_now : LogParts) (before now : ShelfState) → ReadsPart name text (Ok more) parts parts_now before now → more ≡ false → ReadsFile (log_file name) text before now
reads_none name text true parts parts_now before now reads is = absurd (cc)
reads_none name text false parts parts_now before now reads is = reads

-- memory ran out after some parts
pub FailsRead-out : (name text : List ℕ) (parts : LogParts) (before now : ShelfState) → HasReadLog name text parts before now → FailsRead (log_file name) load.NoMemory before now
FailsRead-out name text parts before now read = record { held = read.held; later = omega (arith, read.quiet.same_count); cause = read.quiet }

-- ---- the text of a log that was handed in whole

-- it is a log
pub ReportsReplay-done : (network : NetworkOf) (log : List ℕ) (done : Replayed) (ends : Status) (text : List ℕ) (made : Result (Vec ℕ Global) NoMemory) → IsReplayed network log done
    → IfOk made (λ words. words.items ≡ replayed_text done) → MatchResult made (λ words. Ends status.Found words.items ends text) (λ _. HasNoText ends text) → ReportsReplay network log ends text
ReportsReplay-done network log done ends text (Ok words) is same ended = inl (done, is, subst (λ w. Ends status.Found w ends text) same ended)
ReportsReplay-done network log done ends text (Err why) is same none = inr (inr none)

-- .. or has a fault
pub ReportsReplay-fault : (network : NetworkOf) (log : List ℕ) (fault : LogFault) (ends : Status) (text : List ℕ) (made : Result (Vec ℕ Global) NoMemory) → IsFirstFault network log fault
    → IfOk made (λ words. words.items ≡ log_fault_text fault) → MatchResult made (λ words. Ends status.LogRefused words.items ends text) (λ _. HasNoText ends text) → ReportsReplay network log ends text
ReportsReplay-fault network log fault ends text (Ok words) is same ended = inr (inl (fault, is, subst (λ w. Ends status.LogRefused w ends text) same ended))
ReportsReplay-fault network log fault ends text (Err why) is same none = inr (inr none)

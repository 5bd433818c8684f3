use Rattle.std.proofs.Common.{◌≡◌, ◌&&◌, ◌∙◌, ℕ, true, List, ◌∷◌, length, ap, sym}
use Rattle.std.specs.List.{list_all}
use Rattle.std.proofs.lemmas.Bool.{ltb-true}
use Rattle.bound_log.specs.CutText.{CutTextOf}
use Rattle.bound_log.specs.Meanings.{cut_named, is_named}
use Rattle.log_check.specs.Weighing.{is_owned_at}
use Rattle.whole_algebra.proofs.ChainLaws.{and_left, and_right}
use Rattle.log_check.proofs.ShareLemmas.{fails_at, holds_at}
use Rattle.log_check.proofs.uses.uses_owned.Goals as goal

-- the next use is of a cut that is named, and so are those after it
next_named : (cuts : List CutTextOf) (left more : List (ℕ × ℕ)) (one : ℕ × ℕ) → left ≡ one ∷ more → list_all (λ u. is_named cuts u.1) left ≡ true → (is_named cuts one.1 ≡ true) × (list_all (λ u. is_named cuts u.1) more ≡ true)
next_named cuts left more one is named =
    let both : (is_named cuts one.1 && list_all (λ (u : ℕ × ℕ). is_named cuts u.1) more) ≡ true = sym (ap (list_all (λ (u : ℕ × ℕ). is_named cuts u.1)) is) ∙ named in
    (and_left (is_named cuts one.1) (list_all (λ (u : ℕ × ℕ). is_named cuts u.1) more) both, and_right (is_named cuts one.1) (list_all (λ (u : ℕ × ℕ). is_named cuts u.1) more) both)

pub limit-requires : goal.limit-requires
limit-requires c =
    let cuts = c.args.cuts.now in
    ltb-true c.in-Some.number (length cuts) (next_named cuts c.uses.left c.next.new.self (c.in-Some.field-0-0, c.in-Some.number) c.in-Some.ensures.steps c.uses.invariant.named).0

pub returns-then-not-is_owned_at : goal.returns-then-not-is_owned_at
returns-then-not-is_owned_at c =
    let network = c.args.network.now in
    let node = c.args.node.now in
    let cuts = c.args.cuts.now in
    let test = λ (one : ℕ × ℕ). is_owned_at network node (cut_named cuts one.1).limit in
    sym (fails_at test c.args.uses.now c.next.new.self (c.in-Some.field-0-0, c.in-Some.number)
    (c.uses.invariant.passed ∙ ap (list_all test) c.in-Some.ensures.steps)
    (sym (c.if-not-is_owned_at.ensures ∙ ap (is_owned_at network node) (c.from.ensures ∙ c.limit.ensures))))

pub uses-preserved : goal.uses-preserved
uses-preserved c =
    let network = c.args.network.now in
    let node = c.args.node.now in
    let cuts = c.args.cuts.now in
    let test = λ (one : ℕ × ℕ). is_owned_at network node (cut_named cuts one.1).limit in
    record {
      passed = holds_at test c.args.uses.now c.next.new.self (c.in-Some.field-0-0, c.in-Some.number)
          (c.uses.invariant.passed ∙ ap (list_all test) c.in-Some.ensures.steps)
          (sym (c.if-not-is_owned_at.ensures ∙ ap (is_owned_at network node) (c.from.ensures ∙ c.limit.ensures)));
      named = (next_named cuts c.uses.left c.next.new.self (c.in-Some.field-0-0, c.in-Some.number) c.in-Some.ensures.steps c.uses.invariant.named).1;
    }

pub returns : goal.returns
returns c =
    let network = c.args.network.now in
    let node = c.args.node.now in
    let cuts = c.args.cuts.now in
    sym (c.uses.invariant.passed ∙ ap (list_all (λ (one : ℕ × ℕ). is_owned_at network node (cut_named cuts one.1).limit)) c.in_default.ensures.steps.0)

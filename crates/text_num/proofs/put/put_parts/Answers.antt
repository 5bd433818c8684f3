use Rattle.std.proofs.Common.{◌≡◌, ◌++◌, ◌/◌, ◌^◌, ap, ap₂, sym, ◌∙◌, rules, ℕ, Vec, Global}
use Rattle.std.specs.Prelude.{pos, ◌<ℤ◌, ◌≤ℤ◌, unsigned_abs}
use Rattle.std.specs.Fmt.{decimal}
use Rattle.std.proofs.lemmas.Int.{to_z-of_z}
use Rattle.std.proofs.lemmas.List.{append-nil}
use Rattle.text_num.specs.DecimalText.{minus_text, last_digits}
use Rattle.text_num.proofs.Appending.{on_ok, on_err, dot_text, dot_text-none, dot_text-some, minus_text-negative, minus_text-not_negative, parts_joined, parts_kept}
use Rattle.text_num.proofs.put.put_parts.Goals as goal
use Rattle.text_num.proofs.put.put_parts.Goals.{then-value-lt0+in_ok-push, else-value-lt0, then-places-gt0+in_ok-push-2, else-places-gt0}

-- the sign
signed_part : (c : goal.After-put_last_digits) → c.if-value-lt0.out.items ≡ c.args.out.now.items ++ minus_text c.args.value
signed_part c = elim c.if-value-lt0.branch [
  | then-value-lt0+in_ok-push w ↦
      let below : c.args.value <ℤ pos 0 = search rules in
      ap (λ (v : Vec ℕ Global). v.items) w.out-is ∙ w.in_ok-push.ensures.items ∙ ap (λ t. c.args.out.now.items ++ t) (sym (minus_text-negative c.args.value below))
  | else-value-lt0 w ↦
      let low : pos 0 ≤ℤ c.args.value = search rules in
      ap (λ (v : Vec ℕ Global). v.items) w.out-is ∙ sym (append-nil c.args.out.now.items) ∙ ap (λ t. c.args.out.now.items ++ t) (sym (minus_text-not_negative c.args.value low))
]

-- the whole part
whole_part : (c : goal.After-put_last_digits) → c.extend_from_slice.new.self.items ≡ c.if-value-lt0.out.items ++ decimal (unsigned_abs c.args.value / 10 ^ c.args.places)
whole_part c =
    let size = simp (to_z-of_z, c.ranges.value) at c.unsigned_abs-size.ensures.value in
    let text : c.as_bytes.result.now ≡ decimal (unsigned_abs c.args.value / 10 ^ c.args.places) =
    c.as_bytes.ensures.value ∙ c.format.ensures.text ∙ ap₂ (λ n u. decimal (n / u)) size c.power_of_ten.ensures.value in
    c.in_ok-extend_from_slice.ensures.items ∙ ap (λ t. c.if-value-lt0.out.items ++ t) text

-- the point
pointed_part : (c : goal.After-put_last_digits) → c.if-places-gt0.out.items ≡ c.extend_from_slice.new.self.items ++ dot_text c.args.places
pointed_part c = elim c.if-places-gt0.branch [
  | then-places-gt0+in_ok-push-2 w ↦
      ap (λ (v : Vec ℕ Global). v.items) w.out-is ∙ w.in_ok-push-2.ensures.items ∙ ap (λ t. c.extend_from_slice.new.self.items ++ t) (sym (dot_text-some c.args.places w.if-places-gt0.true))
  | else-places-gt0 w ↦
      ap (λ (v : Vec ℕ Global). v.items) w.out-is ∙ sym (append-nil c.extend_from_slice.new.self.items) ∙ ap (λ t. c.extend_from_slice.new.self.items ++ t) (sym (dot_text-none c.args.places w.if-places-gt0.false))
]

pub returns-clause-ok : goal.returns-clause-ok
returns-clause-ok c =
    let size = simp (to_z-of_z, c.ranges.value) at c.unsigned_abs-size.ensures.value in
    on_ok c.put_last_digits.result _ _ c.put_last_digits.ensures.ok
    (λ digits. parts_joined c.args.out.now.items c.if-value-lt0.out.items c.extend_from_slice.new.self.items c.if-places-gt0.out.items c.put_last_digits.new.out.items c.args.value c.args.places
    (signed_part c) (whole_part c) (pointed_part c) (digits ∙ ap (λ n. c.if-places-gt0.out.items ++ last_digits c.args.places n) size))

pub returns-clause-err : goal.returns-clause-err
returns-clause-err c =
    on_err c.put_last_digits.result _ _ c.put_last_digits.ensures.err
    (parts_kept c.args.out.now.items c.if-value-lt0.out.items c.extend_from_slice.new.self.items c.if-places-gt0.out.items c.put_last_digits.new.out.items _ _ _
    (signed_part c) (whole_part c) (pointed_part c))

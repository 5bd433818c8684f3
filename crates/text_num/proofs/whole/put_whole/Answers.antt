use Rattle.std.specs.Prelude.{◌++◌}
use Rattle.std.proofs.Common.{ap, sym, ◌∙◌}
use Rattle.std.proofs.lemmas.Int.{to_z-of_z}
use Rattle.text_num.proofs.WholeText.{whole_text-signed_decimal}
use Rattle.text_num.proofs.whole.put_whole.Goals as goal

pub returns-clause-ok : goal.returns-clause-ok
returns-clause-ok c =
    let text = simp (to_z-of_z, c.ranges.value) at c.format.ensures.text in
    let written = c.as_bytes.ensures.value ∙ text ∙ sym (whole_text-signed_decimal c.args.value) in
    c.in_ok-extend_from_slice.ensures.items ∙ ap (λ t. c.args.out.now.items ++ t) written

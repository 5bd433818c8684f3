use Rattle.std.specs.Prelude.{codes}
use Rattle.std.specs.Fmt.{decimal}
use Rattle.std.proofs.Common.{◌++◌, ◌∙◌, ap}
use Rattle.std.proofs.lemmas.Int.{to_z-of_z}
use Rattle.text_num.specs.Whole.{whole_text}
use Rattle.limit_lines.proofs.Pieces.{seven_pieces}
use Rattle.trial.proofs.shown.put_open.Goals as goal

pub returns : goal.returns
returns c =
    let lo = simp (to_z-of_z, c.ranges.lo) at c.in_ok-put_whole.ensures.ok in
    let hi = simp (to_z-of_z, c.ranges.hi) at c.in_ok-put_whole-2.ensures.ok in
    seven_pieces c.args.text.now.items c.extend_from_slice.new.self.items c.put_count.new.text.items c.extend_from_slice-2.new.self.items c.put_whole.new.out.items c.extend_from_slice-3.new.self.items
    c.put_whole-2.new.out.items c.extend_from_slice-4.new.self.items
    (codes ",open,") (decimal c.args.step) (codes ",") (whole_text c.args.lo) (codes ",") (whole_text c.args.hi) (codes "\n")
    c.in_ok-extend_from_slice.ensures.items (c.in_ok-put_count.ensures ∙ ap (λ n. c.extend_from_slice.new.self.items ++ decimal n) c.from.ensures) c.in_ok-extend_from_slice-2.ensures.items
    lo c.in_ok-extend_from_slice-3.ensures.items hi c.in_ok-extend_from_slice-4.ensures.items

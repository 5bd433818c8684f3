use Rattle.std.proofs.Common.{◌≡◌, ◌≤◌, ◌*◌, ◌^◌, take}
use Rattle.std.specs.Prelude.{sum_by, unsigned_abs}
use Rattle.geo_model.specs.Row.{total_size}
use Rattle.limit_forms.specs.Form.{load_entry}
use Rattle.limit_forms.proofs.form.load_at.Given as goal

abbrev pub invariant-loop-square : goal.invariant-loop-square
invariant-loop-square l = record {
  value : l.sum ≡ load_entry (take l.square-index l.squares) l.i l.j;
  size : unsigned_abs l.sum ≤ sum_by (λ square. unsigned_abs square.beta * total_size square.entries ^ 2) (take l.square-index l.squares);
}

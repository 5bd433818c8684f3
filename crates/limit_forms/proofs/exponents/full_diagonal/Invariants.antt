use Rattle.std.proofs.Common.{◌≡◌, ◌≤◌, ◌*◌, ◌^◌, take}
use Rattle.std.specs.Prelude.{unsigned_abs}
use Rattle.limit_forms.specs.Form.{full_entry}
use Rattle.limit_forms.proofs.exponents.full_diagonal.Given as goal

abbrev pub invariant-loop-candidate : goal.invariant-loop-candidate
invariant-loop-candidate l = record {
  value : l.sum ≡ full_entry (take l.candidate-index l.candidates) l.unknown l.unknown;
  size : unsigned_abs l.sum ≤ l.candidate-index * (512 * 2 ^ 66);
}

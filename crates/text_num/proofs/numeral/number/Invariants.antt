use Rattle.std.proofs.Common.{◌≡◌, ◌<◌, ◌^◌, take}
use Rattle.std.specs.Str.Parse.{digits_value}
use Rattle.text_num.proofs.numeral.number.Given as goal

-- the sum is the number that the digits so far write
abbrev pub invariant-loop-c : goal.invariant-loop-c
invariant-loop-c l = record {
  value : l.sum ≡ digits_value 10 (take l.c-index l.digits);
  small : l.sum < 10 ^ l.c-index;
}

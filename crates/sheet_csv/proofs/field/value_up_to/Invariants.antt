use Rattle.std.proofs.Common.{◌≡◌, ◌≤◌, drop}
use Rattle.sheet_csv.specs.Fields.{digits_value}
use Rattle.sheet_csv.proofs.field.value_up_to.Given as goal

abbrev pub invariant-loop-digit : goal.invariant-loop-digit
invariant-loop-digit l = record {
  value : digits_value l.value (drop l.digit-index l.digits) ≡ digits_value 0 l.digits;
  fits : l.value ≤ l.most;
}

use Rattle.std.proofs.Common.{◌≡◌, ◌≤◌, drop}
use Rattle.sheet_syntax_trees.specs.Tokens.{digits_value}
use Rattle.sheet_syntax_trees.proofs.scan.digits_value.Given as goal

abbrev pub invariant-loop-digit : goal.invariant-loop-digit
invariant-loop-digit l = record {
  value : digits_value l.value (drop l.digit-index l.digits) ≡ digits_value 0 l.digits;
  fits : l.value ≤ 9223372036854775807;
}

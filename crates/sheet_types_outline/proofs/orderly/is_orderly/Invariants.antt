use Rattle.std.proofs.Common.{◌↔◌, drop}
use Rattle.sheet_types_outline.specs.Orderly.{IsOrderlyFrom}
use Rattle.sheet_types_outline.proofs.orderly.is_orderly.Given as goal

abbrev pub invariant-loop-declaration : goal.invariant-loop-declaration
invariant-loop-declaration l = IsOrderlyFrom l.count (drop l.declaration-index l.declaration-items) ↔ IsOrderlyFrom 1 l.declaration-items

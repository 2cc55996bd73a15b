use Rattle.std.proofs.Common.{◌≡◌, ◌+◌, ◌<◌, ◌≤◌, length, drop}
use Rattle.sheet_types_outline.specs.Columns.{objects_in}
use Rattle.sheet_types_outline.specs.Steps.{in_turn}
use Rattle.sheet_types.specs.Elaboration.{judge, no_bodies}
use Rattle.sheet_types.proofs.bodies.judge_all.Given as goal

abbrev pub invariant-loop-declaration : goal.invariant-loop-declaration
invariant-loop-declaration l = record {
  turns : in_turn (judge l.outline l.kinds) l.bodies (drop l.declaration-index l.declarations) ≡ in_turn (judge l.outline l.kinds) no_bodies l.declarations;
  not_root : 0 < length l.bodies.formulas;
  counted : length l.bodies.formulas + length (objects_in (drop l.declaration-index l.declarations)) ≤ length l.outline.columns;
}

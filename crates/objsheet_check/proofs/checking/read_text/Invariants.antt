use Rattle.std.proofs.Common.{◌-◌, ◌<◌, ◌≤◌, length}
use Rattle.sheet_outside.specs.Told.{WhereTold}
use Rattle.objsheet_check.proofs.Pieces.{IsTaken}
use Rattle.objsheet_check.proofs.checking.read_text.Given as goal

abbrev pub invariant-pieces : goal.invariant-pieces
invariant-pieces g l = record {
  taken : WhereTold (IsTaken l.text.items) (g.S.Source.left l.fn.input) (g.S.Source.left l.input);
  piece : 0 < length l.piece.items;
  later : g.S.Source.faults l.fn.input ≤ g.S.Source.faults l.input;
}

abbrev pub decreases-pieces : goal.decreases-pieces
decreases-pieces g l = 262145 - length l.text.items

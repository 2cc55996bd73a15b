use Rattle.std.proofs.Common.{◌≡◌, ◌++◌, length}
use Rattle.sheet_csv.specs.Pages.{slot_lines}
use Rattle.sheet_csv.proofs.export.add_slots.Given as goal

abbrev pub invariant-loop-name : goal.invariant-loop-name
invariant-loop-name l = l.out.items ++ slot_lines l.part l.row l.names l.shows ≡ l.fn.out.items ++ slot_lines l.part l.row l.fn.names l.fn.shows

abbrev pub decreases-loop-name : goal.decreases-loop-name
decreases-loop-name l = length l.names

use Rattle.std.proofs.Common.{◌≡◌, ◌++◌, length}
use Rattle.sheet_meaning.specs.Workbook.{children_in}
use Rattle.plain_lists.proofs.lookup.children.Given as goal

abbrev pub decreases-loop-first : goal.decreases-loop-first
decreases-loop-first l = length l.rest

abbrev pub invariant-loop-first : goal.invariant-loop-first
invariant-loop-first l = l.list ++ children_in l.rest l.parent l.column ≡ children_in l.objects l.parent l.column

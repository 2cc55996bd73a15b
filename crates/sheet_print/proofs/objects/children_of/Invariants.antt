use Rattle.std.proofs.Common.{◌≡◌, take}
use Rattle.sheet_print.specs.Shown.{children_of}
use Rattle.sheet_print.proofs.objects.children_of.Given as goal

abbrev pub invariant-loop-parent : goal.invariant-loop-parent
invariant-loop-parent l = l.children ≡ children_of l.state.present.state.objects l.column (take l.parent-index l.parents)

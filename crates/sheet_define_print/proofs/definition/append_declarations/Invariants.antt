use Rattle.std.proofs.Common.{◌≡◌, ◌++◌, length}
use Rattle.sheet_define_data.specs.Printing.{declarations_text}
use Rattle.sheet_define_print.proofs.definition.append_declarations.Given as goal

abbrev pub decreases-loop-declaration : goal.decreases-loop-declaration
decreases-loop-declaration l = length l.rest

abbrev pub invariant-loop-declaration : goal.invariant-loop-declaration
invariant-loop-declaration l = l.out.items ++ declarations_text l.«open» l.rest ≡ l.fn.out.items ++ declarations_text 0 l.declarations

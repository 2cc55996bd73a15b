use Rattle.std.proofs.Common.{ℕ, length}
use Rattle.sheet_define_data.specs.Printing.{declarations_text}
use Rattle.sheet_define_length.specs.Counting.{Counts}
use Rattle.sheet_define_length.proofs.definition.count_declarations.Given as goal

abbrev pub decreases-loop-declaration : goal.decreases-loop-declaration
decreases-loop-declaration l = length l.rest

-- the declarations that are left make it whole
abbrev pub invariant-loop-declaration : goal.invariant-loop-declaration
invariant-loop-declaration l = (e : ℕ) → Counts l.sum e (declarations_text l.«open» l.rest) → Counts l.total e (declarations_text 0 l.declarations)

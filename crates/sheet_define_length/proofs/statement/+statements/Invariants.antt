use Rattle.std.proofs.Common.{ℕ, List, ◌+◌, ◌*◌, take}
use Rattle.std.specs.List.{flat_map}
use Rattle.std.specs.Prelude.{max}
use Rattle.sheet_define_data.specs.declared.statement.Statement.{size-Statement}
use Rattle.sheet_define_data.specs.Printing.{statement_text}
use denote.Param.Weighed
use Rattle.sheet_define_length.specs.Counting.{Counts}
use Rattle.sheet_define_length.proofs.statement.+statements.Given as goal

abbrev pub decreases-count_statement : goal.decreases-count_statement
decreases-count_statement l = 5 * size-Statement l.statement.now

abbrev pub decreases-count_then : goal.decreases-count_then
decreases-count_then l = 5 * goal.size-count_then l + 3

abbrev pub decreases-count_if : goal.decreases-count_if
decreases-count_if l = 5 * goal.size-count_if l + 4

abbrev pub decreases-count_if_else : goal.decreases-count_if_else
decreases-count_if_else l = 5 * max (Weighed.most size-Statement l.body.now) (Weighed.most size-Statement l.otherwise.now) + 4

abbrev pub decreases-count_otherwise : goal.decreases-count_otherwise
decreases-count_otherwise l = 5 * goal.size-count_otherwise l + 3

abbrev pub decreases-count_for : goal.decreases-count_for
decreases-count_for l = 5 * goal.size-count_for l + 3

abbrev pub decreases-count_inside : goal.decreases-count_inside
decreases-count_inside l = 5 * goal.size-count_inside l + 2

abbrev pub decreases-count_statements : goal.decreases-count_statements
decreases-count_statements l = 5 * goal.size-count_statements l + 1

abbrev pub invariant-count_statements-loop-statement : goal.invariant-count_statements-loop-statement
invariant-count_statements-loop-statement l = (m : List ℕ) → Counts 0 l.width m →
    Counts l.total l.sum (flat_map (λ x. statement_text x m) (take l.statement-index l.statements))

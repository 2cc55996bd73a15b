use Rattle.std.proofs.Common.{◌≡◌, ◌+◌, ◌*◌, ◌++◌, take}
use Rattle.std.specs.List.{flat_map}
use Rattle.std.specs.Prelude.{max}
use Rattle.sheet_define_data.specs.declared.statement.Statement.{size-Statement}
use Rattle.sheet_define_data.specs.Printing.{statement_text}
use denote.Param.Weighed
use Rattle.sheet_define_print.proofs.statement.+statements.Given as goal

abbrev pub decreases-append_statement : goal.decreases-append_statement
decreases-append_statement l = 5 * size-Statement l.statement.now

abbrev pub decreases-append_then : goal.decreases-append_then
decreases-append_then l = 5 * goal.size-append_then l + 3

abbrev pub decreases-append_if : goal.decreases-append_if
decreases-append_if l = 5 * goal.size-append_if l + 4

abbrev pub decreases-append_if_else : goal.decreases-append_if_else
decreases-append_if_else l = 5 * max (Weighed.most size-Statement l.body.now) (Weighed.most size-Statement l.otherwise.now) + 4

abbrev pub decreases-append_otherwise : goal.decreases-append_otherwise
decreases-append_otherwise l = 5 * goal.size-append_otherwise l + 3

abbrev pub decreases-append_for : goal.decreases-append_for
decreases-append_for l = 5 * goal.size-append_for l + 3

abbrev pub decreases-append_inside : goal.decreases-append_inside
decreases-append_inside l = 5 * goal.size-append_inside l + 2

abbrev pub decreases-append_statements : goal.decreases-append_statements
decreases-append_statements l = 5 * goal.size-append_statements l + 1

abbrev pub invariant-append_statements-loop-statement : goal.invariant-append_statements-loop-statement
invariant-append_statements-loop-statement l = l.out.items ≡ l.fn.out.items ++ flat_map (λ x. statement_text x l.margin) (take l.statement-index l.statements)

use Rattle.std.proofs.Common.{◌≡◌, ◌+◌, ◌*◌, ◌-◌, length}
use Rattle.sheet_define_reading.specs.Reading.{usual, with_front, many, statement_by, block}
use Rattle.sheet_define.proofs.statement.+statements.Given as goal

abbrev pub decreases-block : goal.decreases-block
decreases-block l = 6 * l.room

abbrev pub decreases-otherwise : goal.decreases-otherwise
decreases-otherwise l = 6 * l.room + 1

abbrev pub decreases-if_statement : goal.decreases-if_statement
decreases-if_statement l = 6 * l.room + 2

abbrev pub decreases-for_statement : goal.decreases-for_statement
decreases-for_statement l = 6 * l.room + 2

abbrev pub decreases-statement : goal.decreases-statement
decreases-statement l = 6 * l.room + 3

abbrev pub decreases-statements : goal.decreases-statements
decreases-statements l = 6 * l.room + 4

abbrev pub invariant-statements-loop : goal.invariant-statements-loop
invariant-statements-loop l =
    with_front l.list (many l.text_length (statement_by (usual l.text_length) (λ behind. block (usual l.text_length) l.room behind)) (l.end - l.counter)
    l.remaining)
    ≡ many l.text_length (statement_by (usual l.text_length) (λ behind. block (usual l.text_length) l.room behind)) (length l.rest) l.rest

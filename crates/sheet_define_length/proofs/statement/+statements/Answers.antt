use Rattle.std.proofs.Common.{sym, arith}
use Rattle.std.proofs.lemmas.Grind.{common_steps}
use Rattle.sheet_define_data.specs.Printing.{inside}
use Rattle.sheet_define_readback.proofs.Nested.{text-If, text-IfElse, text-For}
use Rattle.sheet_define_length.proofs.Sums.{both}
use Rattle.sheet_define_length.proofs.statement.+statements.Goals as goal

pub count_statement-returns-in-If : goal.count_statement-returns-in-If
count_statement-returns-in-If t c = λ m h. rw (c.in-If.is, text-If, sym c.as_slice.ensures) (c.count_if.ensures m h)

pub count_statement-returns-in-IfElse : goal.count_statement-returns-in-IfElse
count_statement-returns-in-IfElse t c =
    λ m h. rw (c.in-IfElse.is, text-IfElse, sym c.as_slice-in-IfElse.ensures, sym c.as_slice-in-IfElse-2.ensures) (c.count_if_else.ensures m h)

pub count_statement-returns-in-For : goal.count_statement-returns-in-For
count_statement-returns-in-For t c = λ m h. rw (c.in-For.is, text-For, sym c.as_slice-in-For.ensures) (c.count_for.ensures m h)

pub count_inside-returns : goal.count_inside-returns
count_inside-returns t c = λ m h. c.count_statements.ensures (inside m) (both _ _ _ _ _ h c.count-wider.ensures)

pub count_statements-loop-statement-preserved : goal.count_statements-loop-statement-preserved
count_statements-loop-statement-preserved t c =
    λ m h.
    let before = c.loop-statement.invariant m h in
    let now = c.count_statement-sum.ensures m h in
    grind (arith, both, common_steps)

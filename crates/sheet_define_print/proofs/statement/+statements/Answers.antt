use Rattle.std.proofs.Common.{sym}
use Rattle.sheet_define_readback.proofs.Nested.{text-If, text-IfElse, text-For}
use Rattle.sheet_define_print.proofs.statement.+statements.Goals as goal

pub append_statement-returns-in-If : goal.append_statement-returns-in-If
append_statement-returns-in-If t c = rw (c.in-If.is, text-If, sym c.as_slice.ensures) c.append_if.ensures

pub append_statement-returns-in-IfElse : goal.append_statement-returns-in-IfElse
append_statement-returns-in-IfElse t c =
    rw (c.in-IfElse.is, text-IfElse, sym c.as_slice-in-IfElse.ensures, sym c.as_slice-in-IfElse-2.ensures) c.append_if_else.ensures

pub append_statement-returns-in-For : goal.append_statement-returns-in-For
append_statement-returns-in-For t c = rw (c.in-For.is, text-For, sym c.as_slice-in-For.ensures) c.append_for.ensures

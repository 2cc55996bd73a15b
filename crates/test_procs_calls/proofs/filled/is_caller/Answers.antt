use Rattle.std.proofs.Common.{ap, ◌∙◌}
use Rattle.sheet_books.specs.declared.book.Contents.{Contents}
use Rattle.test_procs_calls.proofs.Calling.{caller_told}
use Rattle.test_procs_calls.proofs.filled.is_caller.Goals as goal

pub returns-in-Some-column_of : goal.returns-in-Some-column_of
returns-in-Some-column_of c equal =
    caller_told c.args.engine.now.book c.args.engine.now.state c.state.result.now c.args.caller c.in-Some.object c.in-Some-column_of.column
    c.callers_column.result c.state.ensures.served c.state.ensures.state c.in-Some-column_of.ensures equal
    (c.callers_column.ensures.callers ∙ ap (λ (b : Contents). b.callers) c.book.ensures) c.in-Some.is

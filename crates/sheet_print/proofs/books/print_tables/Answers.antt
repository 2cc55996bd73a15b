use Rattle.std.proofs.Common.{rules, ◌≡◌, subst, ◌<◌, length}
use Rattle.sheet_lines.specs.Told.{GainsFront}
use Rattle.sheet_outside.specs.Told.{Gains, WhereTold}
use Rattle.sheet_engine.specs.Seen.{workbook_in}
use Rattle.sheet_print.specs.Books.{table_of}
use Rattle.sheet_print.proofs.Gaining.{gains_table, gains_front}
use Rattle.sheet_print.proofs.books.print_tables.Goals as goal

pub returns-in-Err-clause-err : goal.returns-in-Err-clause-err
returns-in-Err-clause-err g c =
    let w = workbook_in c.args.engine.now in
    let k = c.loop-column.column in
    let written = g.K.Sink.written in
    let same : workbook_in c.loop-column.engine ≡ w = search rules in
    let front : WhereTold (GainsFront (table_of w k)) (written c.loop-column.sink) (written c.print_table.new.sink) =
    subst (λ v. WhereTold (GainsFront (table_of v k)) (written c.loop-column.sink) (written c.print_table.new.sink)) same c.in-Err.ensures.err in
    let within : k < length w.schema.columns = search rules in
    gains_front (table_of w) k (length w.schema.columns) within _ _ _ c.loop-column.invariant.gained front

pub loop-column-preserved : goal.loop-column-preserved
loop-column-preserved g c =
    let w = workbook_in c.args.engine.now in
    let k = c.loop-column.column in
    let written = g.K.Sink.written in
    let same : workbook_in c.loop-column.engine ≡ w = search rules in
    let more : Gains (written c.loop-column.sink) (written c.print_table.new.sink) (table_of w k) =
    subst (λ v. Gains (written c.loop-column.sink) (written c.print_table.new.sink) (table_of v k)) same c.in-Ok.ensures.ok in
    record {
      gained = gains_table (table_of w) k _ _ _ c.loop-column.invariant.gained more;
      later = search rules;
      book = search rules;
      state = search rules;
    }

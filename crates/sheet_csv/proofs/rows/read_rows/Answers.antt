use Rattle.std.proofs.Common.{List, ap, arith, length, subst}
use Rattle.sheet_csv.specs.Rows.{Answers, Parameter, rows_in}
use Rattle.sheet_csv.proofs.FileLemmas.{file_empty, file_read}
use Rattle.sheet_csv.proofs.Lengths.{short_without_mark}
use Rattle.sheet_csv.proofs.rows.read_rows.Goals as goal

pub read_behind-requires-clause-few : goal.read_behind-requires-clause-few
read_behind-requires-clause-few c =
    let t = rw c.in-Some.is at c.in_ok-next_record.ensures in
    let few = t.few in
    omega (arith, short_without_mark c.args.bytes.now, ap length c.records_in-records.ensures.left)

pub read_behind-requires-clause-short : goal.read_behind-requires-clause-short
read_behind-requires-clause-short c =
    let t = rw c.in-Some.is at c.in_ok-next_record.ensures in
    let shorter = t.shorter in
    omega (arith, short_without_mark c.args.bytes.now, ap length c.records_in-records.ensures.left)

pub returns-in-None : goal.returns-in-None
returns-in-None c =
    let e = rw c.in-None.is at c.in_ok-next_record.ensures in
    file_empty c.records_in-records.result c.args.bytes.now c.args.parameters.now c.records_in-records.ensures.state c.records_in-records.ensures.left e

pub returns : goal.returns
returns c =
    let t = rw c.in-Some.is at c.in_ok-next_record.ensures in
    subst (λ (ps : List Parameter). Answers c.read_behind.result (rows_in ps c.args.bytes.now)) c.as_slice.ensures
    (file_read c.records_in-records.result c.next_record.new.records c.args.bytes.now c.as_slice.result.now c.in-Some.header c.read_behind.result
    c.records_in-records.ensures.state c.records_in-records.ensures.left t c.read_behind.ensures)

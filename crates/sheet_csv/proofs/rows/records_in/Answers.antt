use Rattle.std.proofs.Common.{◌∙◌}
use Rattle.csv.specs.Reading.{strip_bom}
use Rattle.sheet_csv.proofs.Taking.{fresh}
use Rattle.sheet_csv.proofs.rows.records_in.Goals as goal

pub returns : goal.returns
returns c =
    let from = c.from_reader.ensures in
    let f = fresh c.into_byte_records.result c.from_reader.result (strip_bom c.args.bytes.now) c.into_byte_records.ensures.rdr c.into_byte_records.ensures.left
    (rw (c.flexible.ensures, c.has_headers.ensures) at from.trim ∙ c.new.ensures.trim)
    (rw (c.flexible.ensures, c.has_headers.ensures) at from.config ∙ c.new.ensures.config)
    (rw (c.flexible.ensures, c.has_headers.ensures) at from.has_headers) from.headers from.state from.source in
    record { reading = f.reading; state = f.state; left = f.left }

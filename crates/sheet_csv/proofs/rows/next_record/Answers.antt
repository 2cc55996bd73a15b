use Rattle.std.proofs.Common.{Bor, List, [], ℕ, Some}
use Rattle.csv.specs.Reading.{default_config}
use Rattle.csv.proofs.ReadFacts.{rows-end}
use Rattle.sheet_csv.specs.Readers.{left_of, reader_of}
use Rattle.sheet_csv.proofs.Taking.{takes}
use Rattle.sheet_csv.proofs.rows.next_record.Goals as goal

pub returns-in-None : goal.returns-in-None
returns-in-None c =
    let s = rw c.in-None.is at ((c.next.ensures.steps c.requires.turns c.requires.trim).0 c.requires.ready) in
    rows-end (λ (s : Bor (List ℕ)). Some s.now) (reader_of c.args.records.now) (reader_of c.next.new.self) [] default_config (left_of c.args.records.now) c.requires.config c.requires.known s

pub returns-in-Some-Ok : goal.returns-in-Some-Ok
returns-in-Some-Ok c =
    let s = rw (c.in-Some-Ok.is, c.in-Some-Ok.field-0-is) at ((c.next.ensures.steps c.requires.turns c.requires.trim).0 c.requires.ready) in
    takes c.args.records.now c.next.new.self c.in-Some-Ok.record c.requires s.0 s.1 s.2

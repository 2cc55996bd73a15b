use Rattle.std.proofs.Common.{◌≡◌, ◌∙◌, Bor, Err, List, ℕ, ap, length, map, subst, sym}
use Rattle.csv.specs.Records.{fields_of}
use Rattle.sheet_csv.specs.declared.header.Slot.{Slot}
use Rattle.sheet_csv.specs.Readers.{records_of}
use Rattle.sheet_csv.specs.Rows.{AnswersItems, Fields, judged_header}
use Rattle.sheet_csv.proofs.FileLemmas.{read_behind}
use Rattle.sheet_csv.proofs.RowLemmas.{header_refused}
use Rattle.sheet_csv.proofs.rows.read_behind.Goals as goal

pub returns-in-Ok : goal.returns-in-Ok
returns-in-Ok c = λ n long.
    let same : map (λ (t : Bor (List ℕ)). t.now) c.as_slice.result.now ≡ fields_of c.args.header.now =
    ap (map (λ (t : Bor (List ℕ)). t.now)) c.as_slice.ensures.value ∙ c.in_ok-fields.ensures in
    read_behind c.read_records.result (judged_header c.args.parameters.now (fields_of c.args.header.now)) c.as_slice-in-Ok.result.now c.in-Ok.slots.items c.len.result
    (length (fields_of c.args.header.now)) (records_of n c.args.records.now) (ap (judged_header c.args.parameters.now) (sym same) ∙ c.in-Ok.ensures)
    c.as_slice-in-Ok.ensures.value c.len.ensures (c.read_records.ensures n long)

pub returns : goal.returns
returns c = λ n long.
    let same : map (λ (t : Bor (List ℕ)). t.now) c.as_slice.result.now ≡ fields_of c.args.header.now =
    ap (map (λ (t : Bor (List ℕ)). t.now)) c.as_slice.ensures.value ∙ c.in_ok-fields.ensures in
    header_refused c.in-Err.refusal (judged_header c.args.parameters.now (fields_of c.args.header.now)) (length (fields_of c.args.header.now)) (records_of n c.args.records.now)
    (subst (λ (h : Fields). AnswersItems {A = Slot} (Err c.in-Err.refusal) (judged_header c.args.parameters.now h)) same c.in-Err.ensures)

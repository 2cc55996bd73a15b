use Rattle.std.proofs.Common.{◌≡◌, ap, sym, ◌∙◌, subst, None}
use Rattle.sheet_meaning.specs.Changes.{changed_set, with_set}
use Rattle.sheet_meaning.specs.WellFormed.{HoldsKind}
use Rattle.sheet_meaning.specs.Workbook.{set_in}
use Rattle.sheet_columns.specs.Tree.{column_of}
use Rattle.sheet_engine.specs.Seen.{Seen}
use Rattle.sheet_state.specs.Limits.{first_full, Refuses}
use Rattle.sheet_state.specs.Stored.{Stored, book}
use Rattle.sheet_procs.proofs.Changing.{noted, not_stored}
use Rattle.sheet_procs.proofs.Going.{back_same}
use Rattle.sheet_procs.proofs.changes.put.Goals as goal

pub set_cell-requires-clause-typed : goal.set_cell-requires-clause-typed
set_cell-requires-clause-typed c =
    let k = c.args.engine.now.state in
    let is : c.in_ok-new.new ≡ changed_set c.args.how (set_in k.present.state.cells c.args.object c.args.column) c.args.set =
    c.in_ok-new.ensures
    ∙ ap (λ old. changed_set c.args.how old c.args.set)
    (c.cell.ensures ∙ ap (λ (y : Stored). set_in y.present.state.cells c.args.object c.args.column) c.state.ensures.state) in
    subst (λ v. HoldsKind k.present.state (record { object = c.args.object; column = c.args.column; set = v }) (column_of c.args.engine.now.book.columns c.args.column))
    (sym is) c.requires.typed

pub returns-in-Ok-clause-runs : goal.returns-in-Ok-clause-runs
returns-in-Ok-clause-runs c =
    let b = c.args.engine.now.book in
    let k = c.args.engine.now.state in
    let t = k.present.state in
    let l = c.set_cell.new.self.state in
    let o = c.args.object in
    let col = c.args.column in
    let is : c.in_ok-new.new ≡ changed_set c.args.how (set_in t.cells o col) c.args.set =
    c.in_ok-new.ensures
    ∙ ap (λ old. changed_set c.args.how old c.args.set) (c.cell.ensures ∙ ap (λ (y : Stored). set_in y.present.state.cells o col) c.state.ensures.state) in
    noted b k l c.args.progress.now c.note_cell.new.progress c.requires.formed c.args.how o col c.args.set c.note_cell.result
    (c.in-Ok.ensures.state ∙ ap (with_set t o col) is)
    (subst (λ v. first_full (book b.columns (with_set t o col v)) ≡ None) is c.in-Ok.ensures.room)
    c.in-Ok.ensures.earlier c.note_cell.ensures.variables c.note_cell.ensures.reply c.note_cell.ensures.noted

pub returns-in-Err-clause-runs : goal.returns-in-Err-clause-runs
returns-in-Err-clause-runs c =
    let b = c.args.engine.now.book in
    let k = c.args.engine.now.state in
    let t = k.present.state in
    let l = c.set_cell.new.self.state in
    let o = c.args.object in
    let col = c.args.column in
    let is : c.in_ok-new.new ≡ changed_set c.args.how (set_in t.cells o col) c.args.set =
    c.in_ok-new.ensures
    ∙ ap (λ old. changed_set c.args.how old c.args.set) (c.cell.ensures ∙ ap (λ (y : Stored). set_in y.present.state.cells o col) c.state.ensures.state) in
    not_stored b k l c.args.progress.now c.args.progress.now c.requires.formed c.args.how o col c.args.set c.in-Err.refusal c.refused.result
    (subst (λ v. Refuses (first_full (book b.columns (with_set t o col v))) c.in-Err.refusal) is c.in-Err.ensures.full)
    c.refused.ensures (back_same k c.set_cell.new.self.state (ap (λ (e : Seen). e.state) c.in-Err.ensures.unchanged))

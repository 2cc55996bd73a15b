use Rattle.std.proofs.Common.{◌≡◌, ap, ◌∙◌, subst, List}
use Rattle.sheet_books.specs.declared.book.Contents.{Contents}
use Rattle.sheet_columns.specs.declared.tree.Node.{Node}
use Rattle.sheet_engine.specs.Seen.{Seen}
use Rattle.sheet_procs.specs.Refused.{IsNoted}
use Rattle.sheet_procs_touched.specs.Touched.{Adds, is_new}
use Rattle.sheet_procs.proofs.Changing.{noted_object, not_made}
use Rattle.sheet_procs.proofs.Going.{back_same}
use Rattle.sheet_procs.proofs.changes.add_object.Goals as goal

pub returns-in-Ok-clause-runs : goal.returns-in-Ok-clause-runs
returns-in-Ok-clause-runs c =
    let b = c.args.engine.now.book in
    let k = c.args.engine.now.state in
    let columns : c.columns.result.now ≡ b.columns =
    c.columns.ensures.columns ∙ ap (λ (x : Contents). x.columns) (c.book.ensures ∙ c.in-Ok.ensures.book) in
    noted_object b k c.new_object.new.self.state c.args.progress.now c.note_object.new.progress c.requires.formed c.args.column c.args.parent
    c.note_object.result c.in-Ok.made c.in-Ok.ensures.number c.in-Ok.ensures.state c.in-Ok.ensures.room c.in-Ok.ensures.earlier
    c.note_object.ensures.variables c.note_object.ensures.reply
    (subst (λ (n : List Node). IsNoted c.note_object.result (Adds (is_new n c.in-Ok.made c.args.column) c.args.progress.now.touched c.note_object.new.progress.touched))
    columns c.note_object.ensures.noted)

pub returns-in-Err-clause-runs : goal.returns-in-Err-clause-runs
returns-in-Err-clause-runs c =
    let b = c.args.engine.now.book in
    let k = c.args.engine.now.state in
    not_made b k c.new_object.new.self.state c.args.progress.now c.args.progress.now c.requires.formed c.args.column c.args.parent c.in-Err.refusal
    c.refused.result c.in-Err.ensures.full c.refused.ensures
    (back_same k c.new_object.new.self.state (ap (λ (e : Seen). e.state) c.in-Err.ensures.unchanged))

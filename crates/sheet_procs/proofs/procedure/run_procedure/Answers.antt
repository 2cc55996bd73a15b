use Rattle.std.proofs.Common.{◌≡◌, ap, sym, ◌∙◌, subst, ◌∷◌, ◌++◌, [], take, Err, Some, rules}
use Rattle.std.specs.Prelude.{slice_get}
use Rattle.sheet_books.specs.declared.book.Contents.{Contents}
use Rattle.sheet_books.specs.Books.{IsWellTypedProcedure}
use Rattle.sheet_meaning.proofs.Fitting.{good_arguments_fit}
use Rattle.sheet_meaning.specs.declared.workbook.Caller.{Caller}
use Rattle.sheet_procs.specs.Acts.{ActsAs}
use Rattle.sheet_procs.specs.declared.refusal.ProcedureRefusal.TheVariants as refused
use Rattle.sheet_procs.proofs.Performing.{accepted, turned_away, starved}
use Rattle.sheet_procs.proofs.Starting.{undone}
use Rattle.sheet_procs.proofs.procedure.run_procedure.Goals as goal

pub act-requires-clause-typed : goal.act-requires-clause-typed
act-requires-clause-typed g c =
    let same : c.deref.result.now ≡ c.args.engine.now.book = search rules in
    subst (λ (b : Contents). IsWellTypedProcedure b.columns b.callers c.procedure.result.now) same c.procedure.ensures.typed

pub act-requires-clause-arguments : goal.act-requires-clause-arguments
act-requires-clause-arguments g c =
    let same : c.deref.result.now ≡ c.args.engine.now.book = search rules in
    let p = c.procedure.result.now in
    let is = subst (λ (b : Contents). slice_get b.procedures c.args.procedure ≡ Some p) same c.procedure.ensures.procedure in
    (good_arguments_fit c.args.engine.now.state.present.state p.parameters c.args.arguments.now).0 (c.requires.arguments p is)

pub returns-in-Ok-clause-acts : goal.returns-in-Ok-clause-acts
returns-in-Ok-clause-acts g c =
    let same : c.deref.result.now ≡ c.args.engine.now.book = search rules in
    let p = c.procedure.result.now in
    let is = subst (λ (b : Contents). slice_get b.procedures c.args.procedure ≡ Some p) same c.procedure.ensures.procedure in
    accepted c.args.engine.now c.act.new.engine p c.args.procedure (record { object = c.args.object; operator = c.args.operator }) c.args.arguments.now c.in-Ok.reply
    is c.in-Ok.ensures.book c.in-Ok.ensures.performed

pub returns-clause-acts : goal.returns-clause-acts
returns-clause-acts g c =
    let same : c.deref.result.now ≡ c.args.engine.now.book = search rules in
    let p = c.procedure.result.now in
    let is = subst (λ (b : Contents). slice_get b.procedures c.args.procedure ≡ Some p) same c.procedure.ensures.procedure in
    let l = c.act.new.engine.state in
    let u = c.undo_to.new.self.state in
    turned_away c.args.engine.now c.undo_to.new.self l p c.args.procedure (record { object = c.args.object; operator = c.args.operator }) c.args.arguments.now
    c.in-Err.refusal is c.in-Err.ensures.performed
    (undone c.args.engine.now.state l u c.in-Err.ensures.performed.1
    (subst (λ j. slice_get (l.earlier ++ l.present ∷ []) j ≡ Some u.present) c.mark-mark.ensures c.undo_to.ensures.state)
    (c.undo_to.ensures.earlier ∙ ap (λ j. take j l.earlier) c.mark-mark.ensures))

pub returns-in_err-book-clause-acts : goal.returns-in_err-book-clause-acts
returns-in_err-book-clause-acts g c =
    let caller : Caller = record { object = c.args.object; operator = c.args.operator } in
    let no : c.from_residual.result ≡ Err refused.NoMemory = search rules in
    subst (λ r. ActsAs c.args.procedure caller c.args.arguments.now r c.args.engine.now c.args.engine.now) (sym no)
    (starved c.args.engine.now c.args.procedure caller c.args.arguments.now c.requires.number)

use Rattle.std.proofs.Common.{sym, subst, Err}
use Rattle.sheet_books.specs.Schemas.{schema_of}
use Rattle.sheet_columns.specs.Statements.{statements_in}
use Rattle.sheet_meaning.specs.Procedure.{admit}
use Rattle.sheet_meaning.specs.Statements.{workbook}
use Rattle.sheet_types_rules.specs.Statements.{behind_list}
use Rattle.sheet_procs_touched.specs.Touched.{Covers}
use Rattle.sheet_procs_touched.proofs.Covering.{filled_is_covered}
use Rattle.sheet_procs.specs.Performing.{parts, behind_allow, Performed}
use Rattle.sheet_procs.specs.Typed.{MayRun}
use Rattle.sheet_procs.specs.declared.progress.Progress.{Progress}
use Rattle.sheet_procs.proofs.Performing.{then_performed, refused_performed}
use Rattle.sheet_procs.proofs.procedure.act.Goals as goal

pub perform-requires-clause-may : goal.perform-requires-clause-may
perform-requires-clause-may g c =
    let b = c.args.engine.now.book in
    let k = c.args.engine.now.state in
    let p = c.args.procedure.now in
    let first = c.in_ok-progress.ensures.may p c.requires.typed c.requires.arguments c.requires.object in
    let f = behind_list (statements_in p.body) in
    subst (λ y. MayRun f y c.admit.new.engine.state c.in_ok-progress.progress) (sym c.in-Ok.ensures.book)
    (subst (λ y. MayRun f b y c.in_ok-progress.progress) (sym c.in-Ok.ensures.state)
    (subst (λ (m : Progress). MayRun f b k m) (sym c.in_ok-progress.ensures.progress) first))

pub perform-requires-clause-covered : goal.perform-requires-clause-covered
perform-requires-clause-covered g c =
    let b = c.args.engine.now.book in
    let k = c.args.engine.now.state in
    let none = filled_is_covered (workbook (schema_of b) k.present.state) c.requires.filled in
    subst (λ y. Covers (workbook (schema_of y) c.admit.new.engine.state.present.state) c.in_ok-progress.progress.touched) (sym c.in-Ok.ensures.book)
    (subst (λ y. Covers (workbook (schema_of b) y.present.state) c.in_ok-progress.progress.touched) (sym c.in-Ok.ensures.state)
    (subst (λ (m : Progress). Covers (workbook (schema_of b) k.present.state) m.touched) (sym c.in_ok-progress.ensures.progress) none))

pub returns-in-Ok-clause-performed : goal.returns-in-Ok-clause-performed
returns-in-Ok-clause-performed g c =
    let b = c.args.engine.now.book in
    let k = c.args.engine.now.state in
    let l = c.admit.new.engine.state in
    let o = c.perform.new.engine.state in
    let p = c.args.procedure.now in
    let m = c.in_ok-progress.progress in
    let r = c.perform.result in
    subst (λ (n : Progress). Performed b k o (parts b p) n r) c.in_ok-progress.ensures.progress
    (then_performed b k l o m m (admit (schema_of b) p.allow) (behind_allow b p) r c.in-Ok.ensures.runs
    (subst (λ y. Performed y l o (behind_allow y p) m r) c.in-Ok.ensures.book c.perform.ensures.performed))

pub returns-in-Err-clause-performed : goal.returns-in-Err-clause-performed
returns-in-Err-clause-performed g c =
    let b = c.args.engine.now.book in
    let k = c.args.engine.now.state in
    let l = c.admit.new.engine.state in
    let p = c.args.procedure.now in
    let m = c.in_ok-progress.progress in
    subst (λ (n : Progress). Performed b k l (parts b p) n (Err c.in-Err.refusal)) c.in_ok-progress.ensures.progress
    (refused_performed b k l m m (admit (schema_of b) p.allow) (behind_allow b p) c.in-Err.refusal c.in-Err.ensures.runs)

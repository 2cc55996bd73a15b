use Rattle.std.proofs.Common.{◌∙◌, sym, ap, subst, Err}
use Rattle.sheet_columns.specs.Tree.{child_named}
use Rattle.sheet_types_formulas.specs.declared.refusal.TypeRefusal.{TypeRefusal}
use Rattle.sheet_types_outline.specs.declared.naming.Named.{Named}
use Rattle.sheet_types_outline.specs.Naming.{name_under}
use Rattle.sheet_types_outline.specs.Steps.{Leaves}
use Rattle.sheet_types_outline.proofs.NamingLemmas.{column_refused}
use Rattle.sheet_types_outline.proofs.naming.Named.name_under.Goals as goal

pub returns-in-Err : goal.returns-in-Err
returns-in-Err c =
    let s = c.args.self.now in
    let new : Named = record { columns = c.add.new.self; opened = s.opened; has_callers = s.has_callers; procedures = s.procedures; views = s.views } in
    let named = ap (child_named s.columns c.args.above) (sym c.in_ok-name.ensures) in
    subst (λ (e : TypeRefusal). Leaves (Err e) new (name_under s c.args.above c.args.column.now)) (sym c.refusal_on.ensures)
    (column_refused s new c.args.above c.args.column.now c.in-Err.refusal
    (λ k e. named ∙ (c.in-Err.ensures.name_taken k).0 (ap Err e))
    (λ e. let h = c.in-Err.ensures.too_deep.0 (ap Err e) in (named ∙ h.0, h.1))
    (λ e. let h = c.in-Err.ensures.too_many.0 (ap Err e) in (named ∙ h.0, h.1, h.2)))

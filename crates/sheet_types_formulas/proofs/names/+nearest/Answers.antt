use Rattle.std.proofs.Common.{rules, ◌≡◌, [], Some, None, sym, ap, ◌∙◌}
use Rattle.std.specs.Option.{option_or}
use Rattle.sheet_columns.specs.declared.formula.Core.TheVariants as core
use Rattle.sheet_columns.specs.Tree.{above_of, child_named}
use Rattle.sheet_types_formulas.specs.Names.{within, nearest, upward}
use Rattle.sheet_types_formulas.proofs.Finding.{same_if_ok, upward_above, child_none}
use Rattle.sheet_types_formulas.proofs.names.+nearest.Goals as goal

pub returns : goal.returns
returns t c =
    let nodes = c.args.scope.now.columns.now in
    let r = within c.args.scope.now [] in
    let none : child_named nodes c.args.column c.args.name.now ≡ None = search rules in
    let next : above_of nodes c.args.column ≡ Some c.in-Some-above.next = search rules in
    let up : c.in_ok-new.field-0 ≡ c.args.objects = search rules in
    same_if_ok c.nearest.result
    (ap (λ e. nearest r c.args.line c.args.name.now (core.Up e) (upward c.in-Some-above.next nodes c.in-Some-above.next)) up
    ∙ ap (λ o. option_or o (nearest r c.args.line c.args.name.now (core.Up c.args.objects) (upward c.in-Some-above.next nodes c.in-Some-above.next)))
    (sym (child_none r c.args.line c.args.objects c.args.column c.args.name.now none))
    ∙ ap (nearest r c.args.line c.args.name.now c.args.objects) (sym (upward_above nodes c.above.ensures.tree c.args.column c.in-Some-above.next next)))
    c.nearest.ensures

use Rattle.std.proofs.Common.{rules, ◌≡◌, sym, ap, ◌∙◌, subst, ℕ, ◌<◌, List, IfOk}
use Rattle.std.specs.Prelude.{filter_map}
use Rattle.sheet_meaning.specs.Formula.{object_in}
use Rattle.sheet_state.specs.Stored.{book}
use Rattle.sheet_print.specs.Books.{objects_of}
use Rattle.sheet_print.specs.Shown.{children_of}
use Rattle.sheet_print.proofs.Parented.{root_listed, children_listed, is_counted}
use Rattle.sheet_print.proofs.objects.+objects_of.Goals as goal

pub returns-then-column-eq0 : goal.returns-then-column-eq0
returns-then-column-eq0 t c =
    let s = c.args.state.now.present.state in
    let listed = root_listed (book c.args.columns.now s) c.requires.kept.present.well_formed c.requires.tree in
    let same : c.args.column ≡ 0 = c.if-column-eq0.true in
    subst (λ (l : List ℕ). IfOk c.root_alone.result (λ numbers. numbers.items ≡ l)) (sym listed ∙ ap (objects_of s.objects) (sym same)) c.root_alone.ensures

pub above-requires-clause-counted : goal.above-requires-clause-counted
above-requires-clause-counted t c = is_counted c.args.columns.now c.args.column c.requires.object_column

pub returns : goal.returns
returns t c =
    let s = c.args.state.now.present.state in
    let below : 0 < c.args.column = search rules in
    let found : c.as_slice-2.result.now ≡ children_of s.objects c.args.column (objects_of s.objects c.above.result) = search rules in
    let listed = children_listed (book c.args.columns.now s) c.requires.kept.present.well_formed c.args.column c.above.result below c.above.ensures.above in
    subst (λ (l : List ℕ). IfOk c.numbers_in.result (λ numbers. numbers.items ≡ l)) (ap (filter_map object_in) found ∙ listed) c.numbers_in.ensures

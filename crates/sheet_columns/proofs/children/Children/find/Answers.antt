use Rattle.std.proofs.Common.{◌≡◌, ◌∙◌, refl, sym, ap, Some, None, slice_get}
use Rattle.std.proofs.lemmas.Option.{slice_get_past, slice_get_read}
use Rattle.sheet_columns.specs.Children.{found_under}
use Rattle.sheet_columns.proofs.ChildLemmas.{found_at, found_past}
use Rattle.sheet_columns.proofs.children.Children.find.Goals as goal

pub returns-in-Some : goal.returns-in-Some
returns-in-Some c =
    let got : slice_get c.self.inside.under.items c.args.above ≡ Some c.in-Some.siblings.now =
    ap (λ cs. slice_get cs c.args.above) (sym c.deref.ensures.value)
    ∙ slice_get_read c.deref.result.now _ c.args.above c.in-Some.siblings.now refl c.in-Some.ensures.lookup.3.0 c.in-Some.ensures.lookup.1 in
    c.find.ensures
    ∙ sym (found_at c.self.inside.under.items c.args.above c.in-Some.siblings.now c.args.name.now got)
    ∙ ap (λ cs. found_under cs c.args.above c.args.name.now) c.self.view_is

pub returns-in-None : goal.returns-in-None
returns-in-None c =
    let got : slice_get c.self.inside.under.items c.args.above ≡ None =
    ap (λ cs. slice_get cs c.args.above) (sym c.deref.ensures.value) ∙ slice_get_past c.deref.result.now c.args.above c.in-None.ensures.lookup.3 in
    sym (found_past c.self.inside.under.items c.args.above c.args.name.now got)
    ∙ ap (λ cs. found_under cs c.args.above c.args.name.now) c.self.view_is

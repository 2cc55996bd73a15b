use Rattle.std.proofs.Common.{◌≡◌, ◌<◌, ◌++◌, ◌∷◌, [], ◌∙◌, sym, ap, refl, Some, length, rules, slice_set}
use Rattle.std.specs.Prelude.{slice_get}
use Rattle.std.proofs.lemmas.Option.{slice_get_read}
use Rattle.sheet_columns.specs.Children.{found_under, with_child}
use Rattle.sheet_columns.proofs.ChildLemmas.{found_at, set_child}
use Rattle.sheet_columns.proofs.children.Children.add.Goals as goal

pub add-requires : goal.add-requires
add-requires c =
    let counted : c.args.above < length c.reserve.new.self.items = search rules in
    let got : slice_get c.reserve.new.self.items c.args.above ≡ Some c.index_mut.result.now = slice_get_read _ _ _ _ refl counted c.index_mut.ensures.value in
    sym (found_at c.reserve.new.self.items c.args.above c.index_mut.result.now c.args.name.items got)
    ∙ ap (λ cs. found_under cs c.args.above c.args.name.items) (c.reserve.ensures.items ∙ c.self.view_is) ∙ c.requires.free

pub returns-clause-ok : goal.returns-clause-ok
returns-clause-ok c =
    let counted : c.args.above < length c.reserve.new.self.items = search rules in
    let got : slice_get c.reserve.new.self.items c.args.above ≡ Some c.index_mut.result.now = slice_get_read _ _ _ _ refl counted c.index_mut.ensures.value in
    c.push_reserved.ensures.items
    ∙ ap (λ cs. cs ++ c.new.result ∷ []) (ap (slice_set c.reserve.new.self.items c.args.above) c.in_ok-add.ensures.ok
    ∙ set_child c.reserve.new.self.items c.args.above c.index_mut.result.now c.args.name.items c.args.number got)
    ∙ ap (λ l. with_child c.reserve.new.self.items c.args.above c.args.name.items c.args.number ++ l ∷ []) c.new.ensures
    ∙ ap (λ cs. with_child cs c.args.above c.args.name.items c.args.number ++ [] ∷ []) (c.reserve.ensures.items ∙ c.self.view_is)

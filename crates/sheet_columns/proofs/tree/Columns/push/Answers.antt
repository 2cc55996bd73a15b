use Rattle.std.proofs.Common.{◌≡◌, ◌<◌, ◌++◌, ◌∷◌, [], ◌∙◌, sym, ap, subst, refl, Some, None, length, rules, true}
use Rattle.std.specs.Prelude.{option_map}
use Rattle.sheet_columns.specs.Children.{with_child, AreChildren}
use Rattle.sheet_columns.specs.Contents.{holds_objects}
use Rattle.sheet_columns.specs.Tree.{column_of, child_named, depth, IsTree}
use Rattle.sheet_columns.specs.declared.tree.Column.TheVariants.{Object}
use Rattle.sheet_columns.specs.declared.tree.Node.{Node}
use Rattle.sheet_columns.proofs.ChildLemmas.{children_push}
use Rattle.sheet_columns.proofs.ContentLemmas.{alike_within}
use Rattle.sheet_columns.proofs.TreeLemmas.{tree_push}
use Rattle.sheet_columns.proofs.tree.Columns.push.Goals as goal

pub invariant_of-self-2 : goal.invariant_of-self-2
invariant_of-self-2 c =
    let nodes = c.self.inside.nodes.items in
    let above = c.args.above in
    let x : Node = record { above = Some above; name = c.args.name; column = c.args.column } in
    let object : column_of nodes above ≡ Some Object = ap (λ ns. column_of ns above) c.self.view_is ∙ c.requires.above_object in
    let free : child_named nodes above x.name ≡ None = ap (λ ns. child_named ns above x.name) c.self.view_is ∙ c.requires.free in
    let shallow : depth nodes above < 8 = subst (λ ns. depth ns above < 8) (sym c.self.view_is) c.requires.shallow in
    let few : length nodes < 1000 = subst (λ ns. length ns < 1000) (sym c.self.view_is) c.requires.few in
    let grown : c.push_reserved.new.self.items ≡ nodes ++ x ∷ [] = c.push_reserved.ensures.items ∙ ap (λ ns. ns ++ x ∷ []) c.reserve.ensures.items in
    let named : c.in_ok-bytes.bytes.items ≡ x.name = c.in_ok-bytes.ensures.items ∙ c.bytes.ensures.bytes in
    let added : c.add.new.self ≡ with_child c.self.inside.children above c.in_ok-bytes.bytes.items (length nodes) ++ [] ∷ [] = search rules in
    let kept : c.add.new.self ≡ with_child c.self.inside.children above x.name (length nodes) ++ [] ∷ [] =
    added ∙ ap (λ n. with_child c.self.inside.children above n (length nodes) ++ [] ∷ []) named in
    subst (λ ns. IsTree ns × AreChildren c.add.new.self ns) (sym grown) (
      tree_push nodes c.self.invariant.0 x above refl object free shallow few c.requires.short c.requires.fitting,
      subst (λ cs. AreChildren cs (nodes ++ x ∷ [])) (sym kept)
          (children_push c.self.inside.children nodes c.self.invariant.1 x above refl (alike_within nodes above true (ap (option_map holds_objects) object))),
    )

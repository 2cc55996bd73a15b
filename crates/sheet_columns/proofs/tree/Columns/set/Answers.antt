use Rattle.std.proofs.Common.{◌≡◌, ◌∙◌, sym, ap, subst, refl, Some}
use Rattle.std.specs.Prelude.{slice_get, option_map}
use Rattle.std.proofs.lemmas.Option.{slice_get_read}
use Rattle.sheet_columns.specs.Children.{AreChildren}
use Rattle.sheet_columns.specs.Contents.{holds_objects, with_column}
use Rattle.sheet_columns.specs.Tree.{column_of, IsTree}
use Rattle.sheet_columns.proofs.ChildLemmas.{children_with}
use Rattle.sheet_columns.proofs.ContentLemmas.{set_is, tree_set, alike_within}
use Rattle.sheet_columns.proofs.tree.Columns.set.Goals as goal

pub invariant_of-self : goal.invariant_of-self
invariant_of-self c =
    let nodes = c.self.inside.nodes.items in
    let alike : option_map holds_objects (column_of nodes c.args.column) ≡ Some (holds_objects c.args.content) =
    ap (λ ns. option_map holds_objects (column_of ns c.args.column)) c.self.view_is ∙ c.requires.alike in
    let got : slice_get nodes c.args.column ≡ Some c.index_mut-node.result.now =
    slice_get_read _ _ _ _ refl (alike_within nodes c.args.column _ alike) c.index_mut-node.ensures.value in
    subst (λ ns. IsTree ns × AreChildren c.self.inside.children ns) (sym (set_is nodes c.args.column c.index_mut-node.result.now c.args.content got)) (
      tree_set nodes c.self.invariant.0 c.args.column c.args.content alike c.requires.fitting,
      children_with c.self.inside.children nodes c.self.invariant.1 c.args.column c.args.content,
    )

pub returns : goal.returns
returns c =
    let nodes = c.self.inside.nodes.items in
    let alike : option_map holds_objects (column_of nodes c.args.column) ≡ Some (holds_objects c.args.content) =
    ap (λ ns. option_map holds_objects (column_of ns c.args.column)) c.self.view_is ∙ c.requires.alike in
    let got : slice_get nodes c.args.column ≡ Some c.index_mut-node.result.now =
    slice_get_read _ _ _ _ refl (alike_within nodes c.args.column _ alike) c.index_mut-node.ensures.value in
    set_is nodes c.args.column c.index_mut-node.result.now c.args.content got
    ∙ ap (λ ns. with_column ns c.args.column c.args.content) c.self.view_is

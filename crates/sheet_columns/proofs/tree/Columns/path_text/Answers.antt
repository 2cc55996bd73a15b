use Rattle.std.proofs.Common.{◌≡◌, ◌≤◌, ◌∙◌, sym, ap, subst, length, rules}
use Rattle.sheet_columns.specs.Tree.{path}
use Rattle.sheet_columns.proofs.TreeLemmas.{path_short}
use Rattle.sheet_columns.proofs.tree.Columns.path_text.Goals as goal

pub of-requires : goal.of-requires
of-requires c =
    let text : c.as_str.result.now ≡ path c.self.inside.nodes.items c.args.column =
    c.as_str.ensures.value ∙ c.in_ok-text.ensures ∙ ap (λ ns. path ns c.args.column) c.as_slice.ensures.value in
    subst (λ bs. length bs ≤ 1000) (sym text) (path_short c.self.inside.nodes.items c.self.invariant.0 c.args.column (search rules))

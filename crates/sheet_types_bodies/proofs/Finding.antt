-- Columns that are found by their names stand under the column that they were looked for under.
use Rattle.std.proofs.Common.{◌≡◌, ℕ, ◌+◌, suc, Bool, true, false, List, [], ◌∷◌, Some, refl, sym, ap, ◌∙◌, arith, cond}
use Rattle.std.specs.Prelude.{◌&&◌, bytes_eq, slice_get, option_and_then}
use Rattle.std.specs.List.{position_from}
use Rattle.std.proofs.lemmas.Iterator.Adapters.{position_from-zero}
use Rattle.sheet_columns.specs.declared.tree.Node.{Node}
use Rattle.sheet_columns.specs.Tree.{above_of, is_child_named, is_number, child_named}
use Rattle.sheet_types_formulas.proofs.Finding.{found_child, found_from, both_true}

-- a column that is found stands directly under that one
pub child_is_under : (nodes : List Node) (above c : ℕ) (name : List ℕ) → child_named nodes above name ≡ Some c → is_number above (above_of nodes c) ≡ true
child_is_under nodes above c name e =
    let f = found_child nodes above c name e in
    let same : c ≡ f.index = (let at = f.at in omega arith) in
    ap (is_number above) (ap (above_of nodes) same ∙ ap (option_and_then (λ (n : Node). n.above)) f.got)
    ∙ both_true _ (bytes_eq name f.element.name) f.passes

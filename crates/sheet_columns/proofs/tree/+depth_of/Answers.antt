use Rattle.std.proofs.Common.{◌≡◌, ◌+◌, ◌∙◌, sym, ap, refl}
use Rattle.std.specs.Prelude.{slice_get, Some}
use Rattle.std.proofs.lemmas.Option.{slice_get_read}
use Rattle.sheet_columns.proofs.TreeLemmas.{backward, going_at, going_root}
use Rattle.sheet_columns.proofs.tree.+depth_of.Goals as goal

pub returns-in-Some : goal.returns-in-Some
returns-in-Some t c =
    let got : slice_get c.args.nodes.now c.args.column ≡ Some c.index-nodes-column.result =
    slice_get_read _ _ _ _ refl c.requires.counted c.index-nodes-column.is in
    ap (λ d. d + 1) c.depth_of.ensures ∙ sym (going_at 0 (λ d n. d + 1) _ (backward _ c.requires.tree) _ _ _ got c.in-Some.is)

pub returns-in-None : goal.returns-in-None
returns-in-None t c =
    let got : slice_get c.args.nodes.now c.args.column ≡ Some c.index-nodes-column.result =
    slice_get_read _ _ _ _ refl c.requires.counted c.index-nodes-column.is in
    sym (going_root 0 (λ d n. d + 1) c.args.nodes.now c.args.column c.args.column _ got c.in-None.is)

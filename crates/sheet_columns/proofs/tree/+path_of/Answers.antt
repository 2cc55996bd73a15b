use Rattle.std.proofs.Common.{◌≡◌, ◌<◌, ◌++◌, ◌∷◌, ◌∙◌, sym, ap, refl, arith, append_assoc}
use Rattle.std.specs.Prelude.{slice_get, Some, codes}
use Rattle.std.proofs.lemmas.Option.{slice_get_read}
use Rattle.sheet_columns.specs.Tree.{path}
use Rattle.sheet_columns.proofs.TreeLemmas.{backward, path_root, path_top, path_below}
use Rattle.sheet_columns.proofs.tree.+path_of.Goals as goal

pub returns-in_ok-from_str-in-None : goal.returns-in_ok-from_str-in-None
returns-in_ok-from_str-in-None t c =
    let got : slice_get c.args.nodes.now c.args.column ≡ Some c.index-nodes-column.result =
    slice_get_read _ _ _ _ refl c.requires.counted c.index-nodes-column.is in
    c.in_ok-from_str-in-None.ensures.ok ∙ sym (path_root c.args.nodes.now c.requires.tree c.args.column _ got c.in-None.is)

pub returns-then-above-eq0 : goal.returns-then-above-eq0
returns-then-above-eq0 t c =
    let got : slice_get c.args.nodes.now c.args.column ≡ Some c.index-nodes-column.result =
    slice_get_read _ _ _ _ refl c.requires.counted c.index-nodes-column.is in
    c.in_ok-from_str-in-Some.ensures.ok ∙ c.text.ensures.bytes
    ∙ sym (path_top c.args.nodes.now c.requires.tree c.args.column _ got (c.in-Some.is ∙ ap Some c.if-above-eq0.true))

pub path_of-requires : goal.path_of-requires
path_of-requires t c =
    let got : slice_get c.args.nodes.now c.args.column ≡ Some c.index-nodes-column.result =
    slice_get_read _ _ _ _ refl c.requires.counted c.index-nodes-column.is in
    let earlier : c.in-Some.above < c.args.column = (backward c.args.nodes.now c.requires.tree).earlier c.args.column _ c.in-Some.above got c.in-Some.is in
    (omega arith, (c.requires.tree, omega arith))

pub returns-in_ok-push_str-in-Some-2 : goal.returns-in_ok-push_str-in-Some-2
returns-in_ok-push_str-in-Some-2 t c =
    let got : slice_get c.args.nodes.now c.args.column ≡ Some c.index-nodes-column.result =
    slice_get_read _ _ _ _ refl c.requires.counted c.index-nodes-column.is in
    let positive : 0 < c.in-Some.above = omega arith in
    c.in_ok-push_str-in-Some-2.ensures.bytes
    ∙ ap (λ bs. bs ++ c.text-in-Some.result.now) (c.in_ok-push_str-in-Some.ensures.bytes ∙ ap (λ bs. bs ++ codes ".") c.in_ok-text-in-Some.ensures)
    ∙ append_assoc (path c.args.nodes.now c.in-Some.above) (codes ".") c.text-in-Some.result.now
    ∙ ap (λ bs. path c.args.nodes.now c.in-Some.above ++ 46 ∷ bs) c.text-in-Some.ensures.bytes
    ∙ sym (path_below c.args.nodes.now c.requires.tree c.args.column _ c.in-Some.above got c.in-Some.is positive)

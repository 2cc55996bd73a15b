use Rattle.std.proofs.Common.{◌≡◌, sym, ap, ◌∙◌, ◌+◌, [], ◌∷◌, ◌++◌, take}
use Rattle.std.specs.Prelude.{filter_map}
use Rattle.std.proofs.lemmas.List.{take_more}
use Rattle.std.proofs.lemmas.List.Elements.{filter_map-append}
use Rattle.sheet_meaning.specs.Formula.{object_in}
use Rattle.sheet_print.proofs.objects.numbers_in.Goals as goal

pub loop-value-preserved : goal.loop-value-preserved
loop-value-preserved c =
    let xs = c.args.values.now in
    let i = c.loop-value.value-index in
    let x = c.value-item.result in
    let taken : take (i + 1) xs ≡ take i xs ++ x ∷ [] = take_more xs i x c.loop-value-test.true ∙ ap (λ y. take i xs ++ y ∷ []) (sym c.value-item.is) in
    c.in_ok-add_object.ensures
    ∙ ap (λ l. l ++ filter_map object_in (x ∷ [])) c.loop-value.invariant
    ∙ sym (filter_map-append object_in (take i xs) (x ∷ []))
    ∙ sym (ap (filter_map object_in) taken)

-- What the rows of a table use, one row after the other.
use Rattle.std.proofs.Common.{◌≡◌, sym, ap, ◌∙◌, List, ◌∷◌, ◌++◌}
use Rattle.std.specs.List.{flat_map}
use Rattle.std.proofs.lemmas.List.{append_assoc}
use Rattle.sheet_values.specs.declared.value.Value.{Value}
use Rattle.sheet_columns.specs.declared.view.CoreSlot.{CoreSlot}
use Rattle.sheet_meaning.specs.declared.run.Use.{Use}
use Rattle.sheet_meaning.specs.declared.workbook.Workbook.{Workbook}
use Rattle.sheet_meaning.specs.Formula.{Variables, bind}
use Rattle.sheet_meaning.specs.Page.{row_uses}
use Rattle.plain_meaning.specs.Pages.{slots_used}

pub rows_more : (w : Workbook) (v bound : Variables) (slots : List CoreSlot) (x : Value) (rest more : List Value) (uses next whole : List Use) →
    uses ++ flat_map (row_uses w v slots) rest ≡ whole → rest ≡ x ∷ more → bound ≡ bind v x → next ≡ uses ++ slots_used w bound slots →
    next ++ flat_map (row_uses w v slots) more ≡ whole
rows_more w v bound slots x rest more uses next whole so_far cut same is =
    ap (λ l. l ++ flat_map (row_uses w v slots) more) (is ∙ ap (λ b. uses ++ slots_used w b slots) same)
    ∙ append_assoc uses (row_uses w v slots x) (flat_map (row_uses w v slots) more)
    ∙ ap (λ l. uses ++ flat_map (row_uses w v slots) l) (sym cut)
    ∙ so_far

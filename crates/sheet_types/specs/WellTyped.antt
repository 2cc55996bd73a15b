-- Books of definitions are well typed.
use Rattle.std.specs.Prelude.{◌≡◌, Ok}
use Rattle.sheet_columns.specs.Tree.{IsTree}
use Rattle.sheet_define_data.specs.declared.definition.Definition.{Definition}
use Rattle.sheet_types_outline.specs.declared.outline.Outline.{Outline}
use Rattle.sheet_types_outline.specs.Orderly.{IsOrderly}
use Rattle.sheet_types_outline.specs.Outlines.{outlined}
use Rattle.sheet_books.specs.declared.book.Contents.{Contents}
use Rattle.sheet_books.specs.Books.{IsWellTyped}
use Rattle.sheet_types.specs.Elaboration.{settled, with_bodies}

-- What the third pass makes of the outline of an orderly definition, whose columns are a tree, is well typed.
abbrev pub BooksAreWellTyped : Type 0
BooksAreWellTyped =
    (d : Definition) (o : Outline) (b : Contents) → IsOrderly d.declarations → outlined d ≡ Ok o → IsTree o.columns
    → with_bodies (settled d o) d.declarations ≡ Ok b → IsWellTyped b

-- Worlds that agree at what an evaluation used.
use Rattle.std.specs.Prelude.{◌≡◌, List, [], ◌∷◌}
use Rattle.sheet_columns.specs.declared.fault.Place.{Place}
use Rattle.sheet_columns.specs.declared.item.Item.TheVariants.{Live, Up, Extent, Stored}
use Rattle.sheet_columns.specs.declared.formula.Core.{Core}
use Rattle.sheet_meaning.specs.declared.run.Use.{Use}
use Rattle.sheet_meaning.specs.declared.run.Use.TheVariants.{Read, Cell}
use Rattle.sheet_meaning.specs.Formula.{World, Variables, run}

-- the same content of an item, the same outcome of a formula cell
abbrev pub AgreeAt : World → World → Use → Type 0
AgreeAt w u (Read (Live o)) = w.live o ≡ u.live o
AgreeAt w u (Read (Up o)) = w.parent o ≡ u.parent o
AgreeAt w u (Read (Extent o c)) = w.children o c ≡ u.children o c
AgreeAt w u (Read (Stored o c)) = w.cell o c ≡ u.cell o c
AgreeAt w u (Cell o c) = w.worked o c ≡ u.worked o c

abbrev pub Agree : World → World → List Use → Type 0
Agree w u [] = Unit {0}
Agree w u (x ∷ xs) = AgreeAt w u x × Agree w u xs

-- where two worlds agree at what an expression uses in the first, it comes to the same in the second, and uses the same
abbrev pub UsesSuffice : Type 0
UsesSuffice = (w u : World) (p : Place) (v : Variables) (e : Core) → Agree w u (run e w p v).uses → run e u p v ≡ run e w p v

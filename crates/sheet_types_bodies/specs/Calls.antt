-- What calls are given and give, in the terms of the definitions.
use Rattle.std.specs.Prelude.{◌≡◌, List, length, take, Result, Ok, Err}
use Rattle.sheet_columns.specs.declared.formula.Core.{Core}
use Rattle.sheet_columns.specs.Statements.{statements_in}
use Rattle.sheet_columns.specs.declared.view.CoreSlot.{CoreSlot}
use Rattle.sheet_columns.specs.declared.view.CoreView.{CoreView}
use Rattle.sheet_types_formulas.specs.declared.refusal.TypeRefusal.{TypeRefusal}
use Rattle.sheet_types_formulas.specs.declared.scope.Variable.{Variable}
use Rattle.sheet_types_formulas.specs.Names.{Reach, reach}
use Rattle.sheet_types_bodies.specs.declared.formula.Sheet.{Sheet}
use Rattle.sheet_types_bodies.specs.declared.statement.Step.{Step as MadeStep}
use Rattle.sheet_types_bodies.specs.declared.statement.Block.{Block as MadeBlock}
use Rattle.sheet_types_bodies.specs.declared.statement.Guarded.{Guarded as MadeGuarded}
use Rattle.sheet_types_bodies.specs.Statements.{Step, Block, step, block}

-- what is in reach of a formula with these variables
abbrev pub here : Sheet → List Variable → Reach
here s variables = reach s.columns.now s.kinds.now variables

-- a statement that a call made, where these variables stand behind it
abbrev pub made_with : Sheet → List Variable → MadeStep → Step
made_with s variables x = step (here s variables) x.next x.core

-- a block that a call made
abbrev pub made_block : MadeBlock → Block
made_block b = block b.next (statements_in b.statements)

-- a condition and a block that a call made
abbrev pub made_guarded : MadeGuarded → Core × Block
made_guarded g = (g.condition, made_block g.body)

-- what is made of a block that a call made, where it wasn't refused
abbrev pub with_made : {A : Type 0} → Result MadeBlock TypeRefusal → (MadeBlock → A) → Result A TypeRefusal
with_made (Ok b) f = Ok (f b)
with_made (Err e) f = Err e

-- what is made of slots, where they weren't refused
abbrev pub slots_made : Result (List CoreSlot) TypeRefusal → (List CoreSlot → CoreView) → Result CoreView TypeRefusal
slots_made (Ok xs) f = Ok (f xs)
slots_made (Err e) f = Err e

-- the first list begins the second
abbrev pub Begins : List Variable → List Variable → Type 0
Begins front list = take (length front) list ≡ front

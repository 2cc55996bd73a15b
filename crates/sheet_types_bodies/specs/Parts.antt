-- The parts of views with their names resolved, or the first refusal in the order of the text.
use Rattle.std.specs.Prelude.{ℕ, ◌+◌, List, [], ◌∷◌, length, Ok}
use Rattle.sheet_columns.specs.declared.view.CoreSlot.{CoreSlot}
use Rattle.sheet_columns.specs.declared.view.CoreView.{CoreView}
use Rattle.sheet_columns.specs.declared.view.CoreView.TheVariants as core
use Rattle.sheet_syntax_trees.specs.declared.tree.Tree.{Tree}
use Rattle.sheet_define_data.specs.declared.definition.Show.{Show}
use Rattle.sheet_define_data.specs.declared.definition.Part.{Part}
use Rattle.sheet_define_data.specs.declared.definition.Part.TheVariants as part
use Rattle.sheet_types_formulas.specs.Answers.{Answer, ◌>>=◌}
use Rattle.sheet_types_formulas.specs.Names.{Reach, bind}
use Rattle.sheet_types_formulas.specs.Typing.{typed}

-- `show n = e`
unfoldable pub slot : Show → Reach → ℕ → Answer CoreSlot
slot s r n = typed s.shown r >>= (λ v. Ok (record { number = n; name = s.name; shown = v.core }))

-- each of some things in order, where `n` is the number of the first, and a thing takes so many numbers
abbrev pub in_turn : {X Y : Type 0} → (X → ℕ → Answer Y) → (X → ℕ) → List X → ℕ → Answer (List Y)
in_turn f count [] n = Ok []
in_turn f count (x ∷ xs) n = f x n >>= (λ y. in_turn f count xs (n + count x) >>= (λ ys. Ok (y ∷ ys)))

-- slots in order, each with one number
abbrev pub slots : List Show → Reach → ℕ → Answer (List CoreSlot)
slots ss r n = in_turn (λ s. slot s r) (λ s. 1) ss n

-- how many numbers a part takes: one for each slot, and one for a table
abbrev pub numbers_of : Part → ℕ
numbers_of (part.Show s) = 1
numbers_of (part.Table line name x e shows) = 1 + length shows

-- a table has the number before its first slot; its variable has the type of its source and is in reach of its slots
unfoldable pub table : List ℕ → List ℕ → Tree → List Show → Reach → ℕ → Answer CoreView
table name x e shows r n = typed e r >>= (λ source. slots shows (bind r x source.kind) (n + 1) >>= (λ xs. Ok (core.Table n name source.core xs)))

-- a slot or a table
unfoldable pub part_of : Part → Reach → ℕ → Answer CoreView
part_of (part.Show s) r n = slot s r n >>= (λ x. Ok (core.Show x))
part_of (part.Table line name x e shows) r n = table name x e shows r n

-- slots and tables are numbered in the order of the text; `n` is the number of the first one
abbrev pub parts : List Part → Reach → ℕ → Answer (List CoreView)
parts ps r n = in_turn (λ p. part_of p r) numbers_of ps n

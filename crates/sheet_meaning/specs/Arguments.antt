-- Arguments that don't fit the parameters of a procedure or a view.
use Rattle.std.specs.Prelude.{◌≡◌, ◌↔◌, ℕ, ◌+◌, ◌==◌, Bool, true, false, if◌then◌else◌, List, [], ◌∷◌, length, Option, Some, None}
use Rattle.sheet_values.specs.declared.value.Kind.{Kind}
use Rattle.sheet_values.specs.declared.value.Kind.TheVariants as kind
use Rattle.sheet_values.specs.declared.value.Value.{Value}
use Rattle.sheet_values.specs.declared.value.Value.TheVariants.{Truth, Number, Text, Object}
use Rattle.sheet_columns.specs.Tree.{is_number}
use Rattle.sheet_meaning.specs.Workbook.{object_at, column_in}
use Rattle.sheet_meaning.specs.WellFormed.{HasKind}
use Rattle.sheet_meaning.specs.declared.workbook.State.{State}

-- whether a value is one of that type, and of objects a live one
abbrev pub is_live : State → Kind → Value → Bool
is_live s kind.Truth (Truth b) = true
is_live s kind.Number (Number n) = true
is_live s kind.Text (Text t) = true
is_live s (kind.Object c) (Object o) = is_number c (column_in (object_at s.objects o))
is_live s k v = false

-- the number of the first argument that isn't, where the first of these has the number k
abbrev pub bad_from : State → ℕ → List (List ℕ × Kind) → List Value → Option ℕ
bad_from s k [] vs = None
bad_from s k (p ∷ ps) [] = None
bad_from s k (p ∷ ps) (v ∷ vs) = if is_live s p.1 v then bad_from s (k + 1) ps vs else Some k

-- 0 where there are more or fewer arguments than parameters; else the first argument, from 1, that isn't a live value of its parameter's type
abbrev pub bad_argument : State → List (List ℕ × Kind) → List Value → Option ℕ
bad_argument s ps vs = if length ps == length vs then bad_from s 1 ps vs else Some 0

-- an argument for each parameter, and each is a live value of its type
abbrev pub AreArguments : State → List (List ℕ × Kind) → List Value → Type 0
AreArguments s [] [] = Unit {0}
AreArguments s [] (v ∷ vs) = ⊥
AreArguments s (p ∷ ps) [] = ⊥
AreArguments s (p ∷ ps) (v ∷ vs) = HasKind s p.1 v × AreArguments s ps vs

-- no argument is bad exactly where they fit
abbrev pub GoodArgumentsFit : Type 0
GoodArgumentsFit = (s : State) (ps : List (List ℕ × Kind)) (vs : List Value) → (bad_argument s ps vs ≡ None) ↔ AreArguments s ps vs

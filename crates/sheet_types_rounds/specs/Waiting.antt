-- Which formulas wait for a column whose type isn't known: they have no type, whatever the known types are.
use Rattle.std.specs.Prelude.{◌≡◌, ℕ, ◌<◌, Bool, false, true, not, ◌||◌, ◌&&◌, if◌then◌else◌, List, [], ◌∷◌, ◌++◌, Some, slice_index_or}
use Rattle.sheet_values.specs.declared.value.Kind.{Kind}
use Rattle.sheet_values.specs.declared.value.Kind.TheVariants as kind
use Rattle.sheet_columns.specs.declared.tree.Column.TheVariants as column
use Rattle.sheet_columns.specs.declared.tree.Node.{Node}
use Rattle.sheet_columns.specs.Tree.{name_of, column_of}
use Rattle.sheet_syntax_trees.specs.declared.operators.Gathering.{Gathering}
use Rattle.sheet_syntax_trees.specs.declared.operators.Gathering.TheVariants as gathering
use Rattle.sheet_syntax_trees.specs.declared.tree.Tree.{Tree, Number, Text, Truth, Root, This, Caller, Operator as OperatorWord, Name, Child', Up', Negate', Not', Binary', If', Set', Call', Gather', GatherWhere', Test', Row_of-Tree, end_of-Tree as end, more_of-Tree as more}
use Rattle.sheet_types_rounds.specs.Mentions.{is_among, mentions}

-- these names and that one, unless it is among them
abbrev pub with_name : List (List ℕ) → List ℕ → List (List ℕ)
with_name ns name = if is_among ns name then ns else ns ++ name ∷ []

-- the column's type isn't known, and it doesn't hold objects
abbrev pub IsOpen : List Node → List Kind → ℕ → Type 0
IsOpen nodes kinds c = (slice_index_or kinds c kind.Unknown ≡ kind.Unknown) × (column_of nodes c ≡ Some column.Object → ⊥)

-- columns of other names than these are open
abbrev pub HoldKnown : List (List ℕ) → List Node → List Kind → Type 0
HoldKnown ns nodes kinds = (c : ℕ) (name : List ℕ) → name_of nodes c ≡ Some name → is_among ns name ≡ false → IsOpen nodes kinds c

-- the same of the columns below that number
abbrev pub HoldKnownBelow : ℕ → List (List ℕ) → List Node → List Kind → Type 0
HoldKnownBelow n ns nodes kinds = (c : ℕ) (name : List ℕ) → c < n → name_of nodes c ≡ Some name → is_among ns name ≡ false → IsOpen nodes kinds c

abbrev pub is_sum : Gathering → Bool
is_sum gathering.Union = false
is_sum gathering.Sum = true

abbrev mutual
  -- whether a formula has no type, or with `refused` is refused, as long as all columns of other names than these are open
  pub waits : Tree → Bool → List (List ℕ) → Bool
  waits (Number line n) refused ns = false
  waits (Text line t) refused ns = false
  waits (Truth line b) refused ns = false
  waits (Root line) refused ns = false
  waits (This line) refused ns = false
  waits (Caller line) refused ns = false
  waits (OperatorWord line) refused ns = false
  waits (Name line name) refused ns = not refused && not (is_among ns name)
  waits (Child' line _ (more e end) name) refused ns = waits e false ns
  waits (Up' line _ (more e end)) refused ns = waits e false ns
  waits (Negate' line _ (more a end)) refused ns = waits a true ns
  waits (Not' line _ (more a end)) refused ns = waits a true ns
  waits (Binary' line op _ (more a end) _ (more b end)) refused ns = waits a true ns || waits b true ns
  waits (If' line _ (more c end) _ (more a end) _ (more b end)) refused ns = waits c true ns || (waits a true ns || waits b true ns)
  waits (Set' line _ parts) refused ns = each_waits parts ns
  waits (Call' line f _ (more s end)) refused ns = waits s true ns
  waits (Gather' line g _ (more f end) x _ (more s end)) refused ns =
      waits s true ns || (not (mentions f (x ∷ [])) && waits f (refused || is_sum g) ns)
  waits (GatherWhere' line g _ (more f end) x _ (more s end) _ (more p end)) refused ns =
      waits s true ns || (not (mentions f (x ∷ [])) && waits f (refused || is_sum g) ns)
  waits (Test' line q x _ (more s end) _ (more p end)) refused ns = waits s true ns

  -- whether one of the parts is refused as long
  pub each_waits : {m : _} → Row_of-Tree m → List (List ℕ) → Bool
  each_waits end ns = false
  each_waits (more e rest) ns = waits e true ns || each_waits rest ns

-- whether one of some formulas is
abbrev pub one_waits : List Tree → List (List ℕ) → Bool
one_waits [] ns = false
one_waits (e ∷ es) ns = waits e true ns || one_waits es ns

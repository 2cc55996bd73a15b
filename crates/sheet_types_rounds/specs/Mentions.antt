-- Which formulas a round may give a type: those that mention a column whose type the round before has found.
use Rattle.std.specs.Prelude.{◌≡◌, ℕ, ◌+◌, ◌<◌, Bool, false, ◌||◌, true, List, [], ◌∷◌, Option, Some, None, slice_index_or}
use Rattle.std.specs.Str.{bytes_eq}
use Rattle.std.specs.List.{list_any}
use Rattle.sheet_values.specs.declared.value.Kind.{Kind}
use Rattle.sheet_values.specs.declared.value.Kind.TheVariants as kind
use Rattle.sheet_columns.specs.declared.tree.Node.{Node}
use Rattle.sheet_columns.specs.Tree.{name_of}
use Rattle.sheet_syntax_trees.specs.declared.tree.Tree.{Tree, Number, Text, Truth, Root, This, Caller, Operator as OperatorWord, Name, Child', Up', Negate', Not', Binary', If', Set', Call', Gather', GatherWhere', Test', Row_of-Tree, end_of-Tree as end, more_of-Tree as more}
use Rattle.sheet_types_formulas.specs.Typing.{typed}
use Rattle.sheet_types_rounds.specs.Rounds.{is_unknown, kind_told, at_column}

-- whether a name is one of these
abbrev pub is_among : List (List ℕ) → List ℕ → Bool
is_among names name = list_any (bytes_eq name) names

abbrev mutual
  -- whether a formula mentions one of these names, by itself or behind a dot
  pub mentions : Tree → List (List ℕ) → Bool
  mentions (Number line n) ns = false
  mentions (Text line t) ns = false
  mentions (Truth line b) ns = false
  mentions (Root line) ns = false
  mentions (This line) ns = false
  mentions (Caller line) ns = false
  mentions (OperatorWord line) ns = false
  mentions (Name line name) ns = is_among ns name
  mentions (Child' line _ (more e end) name) ns = is_among ns name || mentions e ns
  mentions (Up' line _ (more e end)) ns = mentions e ns
  mentions (Negate' line _ (more a end)) ns = mentions a ns
  mentions (Not' line _ (more a end)) ns = mentions a ns
  mentions (Binary' line op _ (more a end) _ (more b end)) ns = mentions a ns || mentions b ns
  mentions (If' line _ (more c end) _ (more a end) _ (more b end)) ns = mentions c ns || (mentions a ns || mentions b ns)
  mentions (Set' line _ parts) ns = mentions_each parts ns
  mentions (Call' line f _ (more s end)) ns = mentions s ns
  mentions (Gather' line g _ (more f end) x _ (more s end)) ns = mentions s ns || mentions f ns
  mentions (GatherWhere' line g _ (more f end) x _ (more s end) _ (more p end)) ns = mentions s ns || (mentions f ns || mentions p ns)
  mentions (Test' line q x _ (more s end) _ (more p end)) ns = mentions s ns || mentions p ns

  -- whether one of the parts does
  pub mentions_each : {m : _} → Row_of-Tree m → List (List ℕ) → Bool
  mentions_each end ns = false
  mentions_each (more e rest) ns = mentions e ns || mentions_each rest ns

-- whether one of some formulas does
abbrev pub mentions_list : List Tree → List (List ℕ) → Bool
mentions_list [] ns = false
mentions_list (e ∷ es) ns = mentions e ns || mentions_list es ns

-- whether a formula may have another type: always where all types may be others, else where it mentions one of these columns
abbrev pub is_touched : Bool → List (List ℕ) → Tree → Bool
is_touched all ns e = all || mentions e ns

-- columns of other names have the same type in both lists
abbrev pub AgreeBut : List (List ℕ) → List Node → List Kind → List Kind → Type 0
AgreeBut ns nodes k l = (c : ℕ) (name : List ℕ) → name_of nodes c ≡ Some name → is_among ns name ≡ false → slice_index_or k c kind.Unknown ≡ slice_index_or l c kind.Unknown

-- the same of the columns below that number
abbrev pub AgreeBelow : ℕ → List (List ℕ) → List Node → List Kind → List Kind → Type 0
AgreeBelow n ns nodes k l =
    (c : ℕ) (name : List ℕ) → c < n → name_of nodes c ≡ Some name → is_among ns name ≡ false → slice_index_or k c kind.Unknown ≡ slice_index_or l c kind.Unknown

-- the formula of the column of that number, whose type isn't known, has none yet, unless it is touched
abbrev pub IsSteady : List Node → List Kind → Bool → List (List ℕ) → ℕ → Option Tree → Type 0
IsSteady nodes kinds all ns c None = Unit {0}
IsSteady nodes kinds all ns c (Some e) =
    is_touched all ns e ≡ false → is_unknown (slice_index_or kinds c kind.Unknown) ≡ true → kind_told (typed e (at_column nodes kinds c)) ≡ kind.Unknown

-- so are the formulas of the columns from that one on
abbrev pub AreSteady : List Node → List Kind → Bool → List (List ℕ) → ℕ → List (Option Tree) → Type 0
AreSteady nodes kinds all ns c [] = Unit {0}
AreSteady nodes kinds all ns c (f ∷ fs) = IsSteady nodes kinds all ns c f × AreSteady nodes kinds all ns (c + 1) fs

-- The types of resolved formulas: a formula's type under the types of columns and of positions, where its parts have the types that it
-- takes and its column numbers and positions stand for what it says.
use Rattle.std.specs.Prelude.{ℕ, ◌&&◌, Bool, true, false, if◌then◌else◌, List, [], ◌∷◌, ◌++◌, Option, Some, None, is_some, slice_get, slice_index_or}
use Rattle.sheet_values.specs.declared.value.Kind.{Kind}
use Rattle.sheet_values.specs.declared.value.Kind.TheVariants as kind
use Rattle.sheet_columns.specs.declared.tree.Column.{Column}
use Rattle.sheet_columns.specs.declared.tree.Column.TheVariants.{Object, State, Formula}
use Rattle.sheet_columns.specs.declared.tree.Node.{Node}
use Rattle.sheet_columns.specs.Tree.{column_of, above_of, is_number}
use Rattle.sheet_columns.specs.declared.formula.Core.{Core, Truth, Number, Text, Root, Variable, ObjectStep', StateStep', FormulaStep', Up' as UpStep', Set', Combine', Compare', Order', Arithmetic', Negate', Join', Not', Connect', If', Count', Only', Extreme', Comprehension', Sum', Quantify', Row_of-Core, end_of-Core as end, more_of-Core as more}
use Rattle.sheet_types_rules.specs.Kinds.{common, has_order, objects_in}

-- what a second step makes of a type, where there is one
infixl 10 ◌>>◌
abbrev pub ◌>>◌ : {A B : Type 0} → Option A → (A → Option B) → Option B
(Some x) >> f = f x
None >> f = None

-- this type, where the test holds
abbrev pub provided : Bool → Kind → Option Kind
provided true k = Some k
provided false k = None

-- whether a part of the second type serves where the first is wanted: it has that type, or none that is known
abbrev pub serves : Kind → Kind → Bool
serves wanted k = is_some (common wanted k)

-- the type on which all agree
abbrev pub all_common : Kind → List Kind → Option Kind
all_common k [] = Some k
all_common k (l ∷ ls) = common k l >> (λ m. all_common m ls)

-- whether it is an object column
abbrev pub is_object : Option Column → Bool
is_object (Some Object) = true
is_object o = false

-- whether it is a state column
abbrev pub is_state : Option Column → Bool
is_state (Some (State k one first)) = true
is_state o = false

-- whether it is a formula column
abbrev pub is_formula : Option Column → Bool
is_formula (Some (Formula k)) = true
is_formula o = false

-- whether a column stands directly under the one that these are objects of
abbrev pub is_under : List Node → Kind → ℕ → Bool
is_under n (kind.Object above) c = is_number above (above_of n c)
is_under n k c = false

abbrev mutual
  -- the formula `e`, where `n` is the tree of columns, `k` the types of columns and `v` those of positions
  pub kind_in : Core → List Node → List Kind → List Kind → Option Kind
  kind_in (Truth b) n k v = Some kind.Truth
  kind_in (Number i) n k v = Some kind.Number
  kind_in (Text t) n k v = Some kind.Text
  kind_in Root n k v = Some (kind.Object 0)
  kind_in (Variable p) n k v = slice_get v p
  kind_in (ObjectStep' _ (more e end) c) n k v =
      kind_in e n k v >> (λ x. provided (is_under n x c && is_object (column_of n c)) (kind.Object c))
  kind_in (StateStep' _ (more e end) c) n k v =
      kind_in e n k v >> (λ x. provided (is_under n x c && is_state (column_of n c)) (slice_index_or k c kind.Unknown))
  kind_in (FormulaStep' _ (more e end) c) n k v =
      kind_in e n k v >> (λ x. provided (is_under n x c && is_formula (column_of n c)) (slice_index_or k c kind.Unknown))
  kind_in (UpStep' _ (more e end)) n k v =
      kind_in e n k v >> (λ x. objects_in x >> (λ c. above_of n c >> (λ above. Some (kind.Object above))))
  kind_in (Set' _ parts) n k v = kinds_in parts n k v >> all_common kind.Unknown
  kind_in (Combine' op _ (more a end) _ (more b end)) n k v = kind_in a n k v >> (λ x. kind_in b n k v >> common x)
  kind_in (Compare' test _ (more a end) _ (more b end)) n k v =
      kind_in a n k v >> (λ x. kind_in b n k v >> (λ y. provided (serves x y) kind.Truth))
  kind_in (Order' test _ (more a end) _ (more b end)) n k v =
      kind_in a n k v >> (λ x. kind_in b n k v >> (λ y. provided (has_order x && has_order y && serves x y) kind.Truth))
  kind_in (Arithmetic' op _ (more a end) _ (more b end)) n k v =
      kind_in a n k v >> (λ x. kind_in b n k v >> (λ y. provided (serves kind.Number x && serves kind.Number y) kind.Number))
  kind_in (Negate' _ (more a end)) n k v = kind_in a n k v >> (λ x. provided (serves kind.Number x) kind.Number)
  kind_in (Join' _ (more a end) _ (more b end)) n k v =
      kind_in a n k v >> (λ x. kind_in b n k v >> (λ y. provided (serves kind.Text x && serves kind.Text y) kind.Text))
  kind_in (Not' _ (more a end)) n k v = kind_in a n k v >> (λ x. provided (serves kind.Truth x) kind.Truth)
  kind_in (Connect' c _ (more a end) _ (more b end)) n k v =
      kind_in a n k v >> (λ x. kind_in b n k v >> (λ y. provided (serves kind.Truth x && serves kind.Truth y) kind.Truth))
  kind_in (If' _ (more c end) _ (more a end) _ (more b end)) n k v =
      kind_in c n k v >> (λ x. kind_in a n k v >> (λ y. kind_in b n k v >> (λ z. if serves kind.Truth x then common y z else None)))
  kind_in (Count' _ (more s end)) n k v = kind_in s n k v >> (λ x. Some kind.Number)
  kind_in (Only' _ (more s end)) n k v = kind_in s n k v
  kind_in (Extreme' m _ (more s end)) n k v = kind_in s n k v >> (λ x. provided (has_order x) x)
  kind_in (Comprehension' _ (more f end) _ (more s end) _ (more p end)) n k v =
      kind_in s n k v >> (λ x. kind_in f n k (v ++ x ∷ []) >> (λ y. kind_in p n k (v ++ x ∷ []) >> (λ z. provided (serves kind.Truth z) y)))
  kind_in (Sum' _ (more f end) _ (more s end) _ (more p end)) n k v =
      kind_in s n k v >> (λ x. kind_in f n k (v ++ x ∷ []) >> (λ y. kind_in p n k (v ++ x ∷ []) >> (λ z. provided (serves kind.Number y && serves kind.Truth z) kind.Number)))
  kind_in (Quantify' q _ (more s end) _ (more p end)) n k v =
      kind_in s n k v >> (λ x. kind_in p n k (v ++ x ∷ []) >> (λ z. provided (serves kind.Truth z) kind.Truth))

  -- those of the parts, in order
  pub kinds_in : {m : _} → Row_of-Core m → List Node → List Kind → List Kind → Option (List Kind)
  kinds_in end n k v = Some []
  kinds_in (more e rest) n k v = kind_in e n k v >> (λ x. kinds_in rest n k v >> (λ xs. Some (x ∷ xs)))

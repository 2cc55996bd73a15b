-- The types that well-typed formulas give are those of object columns, as far as they are of objects.
use Rattle.std.proofs.Common.{rules, ◌≡◌, ℕ, zero, suc, Bool, true, false, ◌&&◌, if◌then◌else◌, List, [], ◌∷◌, ◌++◌, slice_get, slice_index_or, Option, Some}
use Rattle.std.proofs.Common.{None, refl, subst}
use Rattle.std.specs.List.{AllByRecursion}
use Rattle.sheet_values.specs.declared.value.Kind.{Kind}
use Rattle.sheet_values.specs.declared.value.Kind.TheVariants as kind
use Rattle.sheet_columns.specs.declared.tree.Column.{Column}
use Rattle.sheet_columns.specs.declared.tree.Column.TheVariants as column
use Rattle.sheet_columns.specs.declared.tree.Node.{Node}
use Rattle.sheet_columns.specs.declared.formula.Core.{Core, Truth, Number, Text, Root, Variable, ObjectStep', StateStep', FormulaStep', Up' as UpStep', Set'}
use Rattle.sheet_columns.specs.declared.formula.Core.{Combine', Compare', Order', Arithmetic', Negate', Join', Not', Connect', If', Count', Only', Extreme'}
use Rattle.sheet_columns.specs.declared.formula.Core.{Comprehension', Sum', Quantify', Row_of-Core, end_of-Core as end, more_of-Core as more}
use Rattle.sheet_columns.specs.Tree.{column_of, above_of, IsUnder, IsTree}
use Rattle.sheet_types_rules.specs.Kinds.{same_kind, common, has_order, objects_in}
use Rattle.sheet_types_rules.specs.Columns.{IsKindIn}
use Rattle.sheet_types_rules.specs.Formulas.{kind_in, kinds_in, provided, serves, all_common, is_under, is_object, is_state, is_formula, ◌>>◌}
use Rattle.sheet_books.specs.Within.{KindsAreWithin}

-- a step that gave something came from something
record Came {A B : Type 0} (o : Option A) (f : A → Option B) (y : B) : Type 0 where
  pub from : A
  pub is : o ≡ Some from
  pub gives : f from ≡ Some y

came : {A B : Type 0} (o : Option A) (f : A → Option B) (y : B) → (o >> f) ≡ Some y → Came o f y
came (Some a) f y got = record { from = a; is = refl; gives = got }
came None f y got = search rules

abbrev All : List Node → List Kind → Type 0
All n ks = AllByRecursion (IsKindIn n) ks

kept : (n : List Node) (k m : Kind) → Some k ≡ Some m → IsKindIn n k → IsKindIn n m
kept n k m got here = let same : k ≡ m = cc in subst (IsKindIn n) same here

chosen : (n : List Node) (b : Bool) (k m : Kind) → (if b then Some k else None) ≡ Some m → IsKindIn n k → IsKindIn n m
chosen n true k m got here = kept n k m got here
chosen n false k m got here = search rules

given : (n : List Node) (b : Bool) (k m : Kind) → provided b k ≡ Some m → IsKindIn n k → IsKindIn n m
given n true k m got here = kept n k m got here
given n false k m got here = search rules

-- an object column that is taken for granted by a test
tested : (n : List Node) (c : ℕ) (b : Bool) (w : Option Column) (m : Kind) → column_of n c ≡ w → provided (b && is_object w) (kind.Object c) ≡ Some m →
    IsKindIn n m
tested n c true None m is got = search rules
tested n c true (Some column.Object) m is got = kept n (kind.Object c) m got is
tested n c true (Some (column.State k one first)) m is got = search rules
tested n c true (Some (column.Formula k)) m is got = search rules
tested n c false w m is got = search rules

common_within : (n : List Node) (k l m : Kind) → IsKindIn n k → IsKindIn n l → common k l ≡ Some m → IsKindIn n m
common_within n kind.Unknown l m here there got = kept n l m got there
common_within n kind.Truth kind.Unknown m here there got = kept n kind.Truth m got here
common_within n kind.Truth kind.Truth m here there got = chosen n (same_kind kind.Truth kind.Truth) kind.Truth m got here
common_within n kind.Truth kind.Number m here there got = chosen n (same_kind kind.Truth kind.Number) kind.Truth m got here
common_within n kind.Truth kind.Text m here there got = chosen n (same_kind kind.Truth kind.Text) kind.Truth m got here
common_within n kind.Truth (kind.Object d) m here there got = chosen n (same_kind kind.Truth (kind.Object d)) kind.Truth m got here
common_within n kind.Number kind.Unknown m here there got = kept n kind.Number m got here
common_within n kind.Number kind.Truth m here there got = chosen n (same_kind kind.Number kind.Truth) kind.Number m got here
common_within n kind.Number kind.Number m here there got = chosen n (same_kind kind.Number kind.Number) kind.Number m got here
common_within n kind.Number kind.Text m here there got = chosen n (same_kind kind.Number kind.Text) kind.Number m got here
common_within n kind.Number (kind.Object d) m here there got = chosen n (same_kind kind.Number (kind.Object d)) kind.Number m got here
common_within n kind.Text kind.Unknown m here there got = kept n kind.Text m got here
common_within n kind.Text kind.Truth m here there got = chosen n (same_kind kind.Text kind.Truth) kind.Text m got here
common_within n kind.Text kind.Number m here there got = chosen n (same_kind kind.Text kind.Number) kind.Text m got here
common_within n kind.Text kind.Text m here there got = chosen n (same_kind kind.Text kind.Text) kind.Text m got here
common_within n kind.Text (kind.Object d) m here there got = chosen n (same_kind kind.Text (kind.Object d)) kind.Text m got here
common_within n (kind.Object c) kind.Unknown m here there got = kept n (kind.Object c) m got here
common_within n (kind.Object c) kind.Truth m here there got = chosen n (same_kind (kind.Object c) kind.Truth) (kind.Object c) m got here
common_within n (kind.Object c) kind.Number m here there got = chosen n (same_kind (kind.Object c) kind.Number) (kind.Object c) m got here
common_within n (kind.Object c) kind.Text m here there got = chosen n (same_kind (kind.Object c) kind.Text) (kind.Object c) m got here
common_within n (kind.Object c) (kind.Object d) m here there got = chosen n (same_kind (kind.Object c) (kind.Object d)) (kind.Object c) m got here

all_common_within : (n : List Node) (k : Kind) (ls : List Kind) (m : Kind) → IsKindIn n k → All n ls → all_common k ls ≡ Some m → IsKindIn n m
all_common_within n k [] m here there got = kept n k m got here
all_common_within n k (l ∷ ls) m here there got =
    let both = came (common k l) (λ x. all_common x ls) m got in
    all_common_within n both.from ls m (common_within n k l both.from here there.0 both.is) there.1 both.gives

at_place : (n : List Node) (v : List Kind) (p : ℕ) (x : Kind) → All n v → slice_get v p ≡ Some x → IsKindIn n x
at_place n [] p x all got = search rules
at_place n (k ∷ ks) zero x all got = kept n k x got all.0
at_place n (k ∷ ks) (suc p) x all got = at_place n ks p x all.1 got

of_column : (n : List Node) (ks : List Kind) (c : ℕ) → All n ks → IsKindIn n (slice_index_or ks c kind.Unknown)
of_column n [] c all = tt
of_column n (k ∷ ks) zero all = all.0
of_column n (k ∷ ks) (suc c) all = of_column n ks c all.1

with_one : (n : List Node) (v : List Kind) (x : Kind) → All n v → IsKindIn n x → All n (v ++ x ∷ [])
with_one n [] x all here = (here, tt)
with_one n (k ∷ ks) x all here = (all.0, with_one n ks x all.1 here)

root_within : (n : List Node) → IsTree n → column_of n 0 ≡ Some column.Object
root_within n tree = search rules

above_here : (n : List Node) (c a : ℕ) → IsTree n → (o : Option Node) → slice_get n c ≡ o → above_of n c ≡ Some a → column_of n a ≡ Some column.Object
above_here n c a tree None is got = search rules
above_here n c a tree (Some m) is got =
    let placed = tree.placed c m is in
    let here : m.above ≡ Some a = search rules in
    let under : IsUnder n c (Some a) = subst (IsUnder n c) here placed in
    under.1

above_within : (n : List Node) (c : ℕ) (x : Kind) → IsTree n → (above_of n c >> (λ a. Some (kind.Object a))) ≡ Some x → IsKindIn n x
above_within n c x tree got =
    let up = came (above_of n c) (λ a. Some (kind.Object a)) x got in
    kept n (kind.Object up.from) x up.gives (above_here n c up.from tree (slice_get n c) refl up.is)

-- a branch that is taken for granted by a test
branch : (b : Bool) (o : Option Kind) (m : Kind) → (if b then o else None) ≡ Some m → o ≡ Some m
branch true o m got = got
branch false o m got = search rules

mutual
  within : (e : Core) (n : List Node) (k v : List Kind) (x : Kind) → IsTree n → All n k → All n v → kind_in e n k v ≡ Some x → IsKindIn n x
  within (Truth b) n k v x t ks vs got = kept n kind.Truth x got tt
  within (Number i) n k v x t ks vs got = kept n kind.Number x got tt
  within (Text text) n k v x t ks vs got = kept n kind.Text x got tt
  within Root n k v x t ks vs got = kept n (kind.Object 0) x got (root_within n t)
  within (Variable p) n k v x t ks vs got = at_place n v p x vs got
  within (ObjectStep' _ (more e end) c) n k v x t ks vs got =
      let s = came (kind_in e n k v) (λ y. provided (is_under n y c && is_object (column_of n c)) (kind.Object c)) x got in
      tested n c (is_under n s.from c) (column_of n c) x refl s.gives
  within (StateStep' _ (more e end) c) n k v x t ks vs got =
      let s = came (kind_in e n k v) (λ y. provided (is_under n y c && is_state (column_of n c)) (slice_index_or k c kind.Unknown)) x got in
      given n (is_under n s.from c && is_state (column_of n c)) (slice_index_or k c kind.Unknown) x s.gives (of_column n k c ks)
  within (FormulaStep' _ (more e end) c) n k v x t ks vs got =
      let s = came (kind_in e n k v) (λ y. provided (is_under n y c && is_formula (column_of n c)) (slice_index_or k c kind.Unknown)) x got in
      given n (is_under n s.from c && is_formula (column_of n c)) (slice_index_or k c kind.Unknown) x s.gives (of_column n k c ks)
  within (UpStep' _ (more e end)) n k v x t ks vs got =
      let s = came (kind_in e n k v) (λ y. objects_in y >> (λ c. above_of n c >> (λ a. Some (kind.Object a)))) x got in
      let r = came (objects_in s.from) (λ c. above_of n c >> (λ a. Some (kind.Object a))) x s.gives in
      above_within n r.from x t r.gives
  within (Set' _ parts) n k v x t ks vs got =
      let s = came (kinds_in parts n k v) (all_common kind.Unknown) x got in
      all_common_within n kind.Unknown s.from x tt (each_within parts n k v s.from t ks vs s.is) s.gives
  within (Combine' op _ (more a end) _ (more b end)) n k v x t ks vs got =
      let s = came (kind_in a n k v) (λ y. kind_in b n k v >> common y) x got in
      let r = came (kind_in b n k v) (common s.from) x s.gives in
      common_within n s.from r.from x (within a n k v s.from t ks vs s.is) (within b n k v r.from t ks vs r.is) r.gives
  within (Compare' test _ (more a end) _ (more b end)) n k v x t ks vs got =
      let s = came (kind_in a n k v) (λ y. kind_in b n k v >> (λ z. provided (serves y z) kind.Truth)) x got in
      let r = came (kind_in b n k v) (λ z. provided (serves s.from z) kind.Truth) x s.gives in
      given n (serves s.from r.from) kind.Truth x r.gives tt
  within (Order' test _ (more a end) _ (more b end)) n k v x t ks vs got =
      let s = came (kind_in a n k v) (λ y. kind_in b n k v >> (λ z. provided (has_order y && has_order z && serves y z) kind.Truth)) x got in
      let r = came (kind_in b n k v) (λ z. provided (has_order s.from && has_order z && serves s.from z) kind.Truth) x s.gives in
      given n (has_order s.from && has_order r.from && serves s.from r.from) kind.Truth x r.gives tt
  within (Arithmetic' op _ (more a end) _ (more b end)) n k v x t ks vs got =
      let s = came (kind_in a n k v) (λ y. kind_in b n k v >> (λ z. provided (serves kind.Number y && serves kind.Number z) kind.Number)) x got in
      let r = came (kind_in b n k v) (λ z. provided (serves kind.Number s.from && serves kind.Number z) kind.Number) x s.gives in
      given n (serves kind.Number s.from && serves kind.Number r.from) kind.Number x r.gives tt
  within (Negate' _ (more a end)) n k v x t ks vs got =
      let s = came (kind_in a n k v) (λ y. provided (serves kind.Number y) kind.Number) x got in
      given n (serves kind.Number s.from) kind.Number x s.gives tt
  within (Join' _ (more a end) _ (more b end)) n k v x t ks vs got =
      let s = came (kind_in a n k v) (λ y. kind_in b n k v >> (λ z. provided (serves kind.Text y && serves kind.Text z) kind.Text)) x got in
      let r = came (kind_in b n k v) (λ z. provided (serves kind.Text s.from && serves kind.Text z) kind.Text) x s.gives in
      given n (serves kind.Text s.from && serves kind.Text r.from) kind.Text x r.gives tt
  within (Not' _ (more a end)) n k v x t ks vs got =
      let s = came (kind_in a n k v) (λ y. provided (serves kind.Truth y) kind.Truth) x got in
      given n (serves kind.Truth s.from) kind.Truth x s.gives tt
  within (Connect' c _ (more a end) _ (more b end)) n k v x t ks vs got =
      let s = came (kind_in a n k v) (λ y. kind_in b n k v >> (λ z. provided (serves kind.Truth y && serves kind.Truth z) kind.Truth)) x got in
      let r = came (kind_in b n k v) (λ z. provided (serves kind.Truth s.from && serves kind.Truth z) kind.Truth) x s.gives in
      given n (serves kind.Truth s.from && serves kind.Truth r.from) kind.Truth x r.gives tt
  within (If' _ (more c end) _ (more a end) _ (more b end)) n k v x t ks vs got =
      let s = came (kind_in c n k v) (λ w. kind_in a n k v >> (λ y. kind_in b n k v >> (λ z. if serves kind.Truth w then common y z else None))) x got in
      let r = came (kind_in a n k v) (λ y. kind_in b n k v >> (λ z. if serves kind.Truth s.from then common y z else None)) x s.gives in
      let q = came (kind_in b n k v) (λ z. if serves kind.Truth s.from then common r.from z else None) x r.gives in
      common_within n r.from q.from x (within a n k v r.from t ks vs r.is) (within b n k v q.from t ks vs q.is)
      (branch (serves kind.Truth s.from) (common r.from q.from) x q.gives)
  within (Count' _ (more s end)) n k v x t ks vs got =
      let c = came (kind_in s n k v) (λ y. Some kind.Number) x got in
      kept n kind.Number x c.gives tt
  within (Only' _ (more s end)) n k v x t ks vs got = within s n k v x t ks vs got
  within (Extreme' m _ (more s end)) n k v x t ks vs got =
      let c = came (kind_in s n k v) (λ y. provided (has_order y) y) x got in
      given n (has_order c.from) c.from x c.gives (within s n k v c.from t ks vs c.is)
  within (Comprehension' _ (more f end) _ (more s end) _ (more p end)) n k v x t ks vs got =
      let c = came (kind_in s n k v) (λ w. kind_in f n k (v ++ w ∷ []) >> (λ y. kind_in p n k (v ++ w ∷ []) >> (λ z. provided (serves kind.Truth z) y))) x
      got in
      let r = came (kind_in f n k (v ++ c.from ∷ [])) (λ y. kind_in p n k (v ++ c.from ∷ []) >> (λ z. provided (serves kind.Truth z) y)) x c.gives in
      let q = came (kind_in p n k (v ++ c.from ∷ [])) (λ z. provided (serves kind.Truth z) r.from) x r.gives in
      let inside = with_one n v c.from vs (within s n k v c.from t ks vs c.is) in
      given n (serves kind.Truth q.from) r.from x q.gives (within f n k (v ++ c.from ∷ []) r.from t ks inside r.is)
  within (Sum' _ (more f end) _ (more s end) _ (more p end)) n k v x t ks vs got =
      let c = came (kind_in s n k v)
      (λ w. kind_in f n k (v ++ w ∷ []) >> (λ y. kind_in p n k (v ++ w ∷ []) >> (λ z. provided (serves kind.Number y && serves kind.Truth z) kind.Number)))
      x got in
      let r = came (kind_in f n k (v ++ c.from ∷ []))
      (λ y. kind_in p n k (v ++ c.from ∷ []) >> (λ z. provided (serves kind.Number y && serves kind.Truth z) kind.Number)) x c.gives in
      let q = came (kind_in p n k (v ++ c.from ∷ [])) (λ z. provided (serves kind.Number r.from && serves kind.Truth z) kind.Number) x r.gives in
      given n (serves kind.Number r.from && serves kind.Truth q.from) kind.Number x q.gives tt
  within (Quantify' q _ (more s end) _ (more p end)) n k v x t ks vs got =
      let c = came (kind_in s n k v) (λ w. kind_in p n k (v ++ w ∷ []) >> (λ z. provided (serves kind.Truth z) kind.Truth)) x got in
      let r = came (kind_in p n k (v ++ c.from ∷ [])) (λ z. provided (serves kind.Truth z) kind.Truth) x c.gives in
      given n (serves kind.Truth r.from) kind.Truth x r.gives tt

  each_within : {m : _} (row : Row_of-Core m) (n : List Node) (k v xs : List Kind) → IsTree n → All n k → All n v → kinds_in row n k v ≡ Some xs → All n xs
  each_within end n k v xs t ks vs got = let none : [] ≡ xs = cc in subst (All n) none tt
  each_within (more e rest) n k v xs t ks vs got =
      let s = came (kind_in e n k v) (λ y. kinds_in rest n k v >> (λ ys. Some (y ∷ ys))) xs got in
      let r = came (kinds_in rest n k v) (λ ys. Some (s.from ∷ ys)) xs s.gives in
      let all : s.from ∷ r.from ≡ xs = cc in
      subst (All n) all (within e n k v s.from t ks vs s.is, each_within rest n k v r.from t ks vs r.is)

pub kinds_are_within : KindsAreWithin
kinds_are_within e n k v x tree columns positions got = within e n k v x tree columns positions got

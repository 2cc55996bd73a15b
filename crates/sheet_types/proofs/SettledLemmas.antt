-- Columns with the types of the last round, which are those of object columns as far as they are of objects.
use Rattle.std.proofs.Common.{◌≡◌, ℕ, ◌+◌, zero, suc, Bool, true, false, List, [], ◌∷◌, length, map, Option, Some, None, Ok, Err, cond, refl, sym, ap, ◌∙◌}
use Rattle.std.proofs.Common.{subst, arith}
use Rattle.std.specs.Prelude.{◌&&◌, slice_get, slice_index_or, codes, option_map, option_and_then}
use Rattle.std.specs.List.{AllByRecursion}
use Rattle.sheet_values.specs.declared.value.Kind.{Kind}
use Rattle.sheet_values.specs.declared.value.Kind.TheVariants as kind
use Rattle.sheet_columns.specs.declared.tree.Column.{Column}
use Rattle.sheet_columns.specs.declared.tree.Column.TheVariants as column
use Rattle.sheet_columns.specs.declared.tree.Node.{Node}
use Rattle.sheet_columns.specs.Firsts.{lacks_first, HasFirstValues}
use Rattle.sheet_columns.specs.Tree.{column_of, is_number, IsUnder, IsTree}
use Rattle.sheet_syntax_trees.specs.declared.tree.Tree.{Tree}
use Rattle.sheet_types_formulas.specs.declared.scope.Typed.{Typed}
use Rattle.sheet_types_formulas.specs.declared.scope.Variable.{Variable}
use Rattle.sheet_types_formulas.specs.Answers.{Answer}
use Rattle.sheet_types_formulas.specs.Names.{reach}
use Rattle.sheet_types_formulas.specs.Typing.{typed}
use Rattle.sheet_types_rules.specs.Columns.{kind_of_column, kinds_from, home, home_at, IsKindIn, IsHeldIn, AreKindsIn}
use Rattle.sheet_types_rules.specs.Parameters.{AreParametersIn}
use Rattle.sheet_types_rules.specs.Formulas.{kind_in}
use Rattle.sheet_books.specs.Within.{KindsAreWithin}
use Rattle.sheet_types_outline.specs.Within.{form}
use Rattle.sheet_types_rounds.specs.Rounds.{at_column, kind_told, is_unknown, next_kind, next_kinds, round, rounds}
use Rattle.sheet_types.specs.Elaboration.{of_kind, with_kinds}

-- Typed formulas have their types by the rules for resolved formulas.
abbrev pub FormulasHaveKinds : Type 0
FormulasHaveKinds =
    (n : List Node) (k : List Kind) (v : List Variable) (e : Tree) (t : Typed)
    → typed e (reach n k v) ≡ Ok t → kind_in t.core n k (map (λ (x : Variable). x.kind) v) ≡ Some t.kind

abbrev pub AreAllKindsIn : List Node → List Kind → Type 0
AreAllKindsIn n ks = AllByRecursion (IsKindIn n) ks

still_object : (k : Kind) (x : Column) → Some x ≡ Some column.Object → Some (of_kind k x) ≡ Some column.Object
still_object k column.Object is = refl
still_object k (column.State l one first) is = cc
still_object k (column.Formula l) is = cc

-- object columns stay object columns
pub settled_object : (kinds : List Kind) (k : ℕ) (nodes : List Node) (c : ℕ) → column_of nodes c ≡ Some column.Object →
    column_of (with_kinds kinds k nodes) c ≡ Some column.Object
settled_object kinds k [] c is = is
settled_object kinds k (n ∷ nodes) zero is = still_object (slice_index_or kinds k kind.Unknown) n.column is
settled_object kinds k (n ∷ nodes) (suc c) is = settled_object kinds (k + 1) nodes c is

pub settled_length : (kinds : List Kind) (k : ℕ) (nodes : List Node) → length (with_kinds kinds k nodes) ≡ length nodes
settled_length kinds k [] = refl
settled_length kinds k (n ∷ nodes) = let rest = settled_length kinds (k + 1) nodes in omega (arith, rest)

pub settled_kind : (kinds : List Kind) (nodes : List Node) (k : Kind) → IsKindIn nodes k → IsKindIn (with_kinds kinds 0 nodes) k
settled_kind kinds nodes kind.Unknown within = tt
settled_kind kinds nodes kind.Truth within = tt
settled_kind kinds nodes kind.Number within = tt
settled_kind kinds nodes kind.Text within = tt
settled_kind kinds nodes (kind.Object c) within = settled_object kinds 0 nodes c within

settled_each : (kinds : List Kind) (nodes : List Node) (ps : List (List ℕ × Kind)) → AreKindsIn nodes ps → AreKindsIn (with_kinds kinds 0 nodes) ps
settled_each kinds nodes [] all = tt
settled_each kinds nodes (p ∷ ps) all = (settled_kind kinds nodes p.1 all.0, settled_each kinds nodes ps all.1)

pub settled_parameters : (kinds : List Kind) (nodes : List Node) (ps : List (List ℕ × Kind)) → AreParametersIn nodes ps →
    AreParametersIn (with_kinds kinds 0 nodes) ps
settled_parameters kinds nodes ps all = (all.0, settled_each kinds nodes ps all.1)

lacks_settled : (k : Kind) (x : Column) → lacks_first (of_kind k x) ≡ lacks_first x
lacks_settled k column.Object = refl
lacks_settled k (column.State l one first) = refl
lacks_settled k (column.Formula l) = refl

-- first values stay
pub settled_firsts : (kinds : List Kind) (c : ℕ) (nodes : List Node) → HasFirstValues nodes → HasFirstValues (with_kinds kinds c nodes)
settled_firsts kinds c [] all = tt
settled_firsts kinds c (n ∷ nodes) all =
    (ap (λ b. is_number 0 n.above && b) (lacks_settled (slice_index_or kinds c kind.Unknown) n.column) ∙ all.0, settled_firsts kinds (c + 1) nodes all.1)

-- the type of a column
pub kind_at : (n : List Node) (ks : List Kind) (c : ℕ) → AreAllKindsIn n ks → IsKindIn n (slice_index_or ks c kind.Unknown)
kind_at n [] c all = tt
kind_at n (k ∷ ks) zero all = all.0
kind_at n (k ∷ ks) (suc c) all = kind_at n ks c all.1

settled_column : (kinds : List Kind) (nodes : List Node) (k : Kind) (x : Column) → IsKindIn nodes k → IsHeldIn nodes x →
    IsHeldIn (with_kinds kinds 0 nodes) (of_kind k x)
settled_column kinds nodes k column.Object found held = tt
settled_column kinds nodes k (column.State l one first) found held = (settled_kind kinds nodes l held.0, held.1)
settled_column kinds nodes k (column.Formula l) found held = settled_kind kinds nodes k found

settled_from : (kinds : List Kind) (nodes : List Node) → AreAllKindsIn nodes kinds → (c : ℕ) (ms : List Node) →
    AllByRecursion (λ (m : Node). IsHeldIn nodes m.column) ms
    → AllByRecursion (λ (m : Node). IsHeldIn (with_kinds kinds 0 nodes) m.column) (with_kinds kinds c ms)
settled_from kinds nodes found c [] held = tt
settled_from kinds nodes found c (m ∷ ms) held = (
  settled_column kinds nodes (slice_index_or kinds c kind.Unknown) m.column (kind_at nodes kinds c found) held.0,
  settled_from kinds nodes found (c + 1) ms held.1,
)

-- what columns hold is within them, with other types of formula columns too
pub settled_columns : (kinds : List Kind) (nodes : List Node) → AreAllKindsIn nodes kinds → AllByRecursion (λ (m : Node). IsHeldIn nodes m.column) nodes
    → AllByRecursion (λ (m : Node). IsHeldIn (with_kinds kinds 0 nodes) m.column) (with_kinds kinds 0 nodes)
settled_columns kinds nodes found held = settled_from kinds nodes found 0 nodes held

-- these columns are those from that number on
abbrev pub AreFrom : List Node → ℕ → List Node → Type 0
AreFrom nodes c ms = (j : ℕ) (w : Column) → column_of ms j ≡ Some w → column_of nodes (c + j) ≡ Some w

pub from_first : (nodes : List Node) → AreFrom nodes 0 nodes
from_first nodes j w is = let same : 0 + j ≡ j = omega arith in subst (λ k. column_of nodes k ≡ Some w) (sym same) is

pub first_is : (nodes : List Node) (c : ℕ) (m : Node) (ms : List Node) → AreFrom nodes c (m ∷ ms) → column_of nodes c ≡ Some m.column
first_is nodes c m ms from = let same : c + 0 ≡ c = omega arith in subst (λ k. column_of nodes k ≡ Some m.column) same (from 0 m.column refl)

pub from_next : (nodes : List Node) (c : ℕ) (m : Node) (ms : List Node) → AreFrom nodes c (m ∷ ms) → AreFrom nodes (c + 1) ms
from_next nodes c m ms from j w is = let same : c + suc j ≡ c + 1 + j = omega arith in subst (λ k. column_of nodes k ≡ Some w) same (from (suc j) w is)

own_kind : (nodes : List Node) (c : ℕ) (x : Column) → column_of nodes c ≡ Some x → IsHeldIn nodes x → IsKindIn nodes (kind_of_column c x)
own_kind nodes c column.Object is held = is
own_kind nodes c (column.State k one first) is held = held.0
own_kind nodes c (column.Formula k) is held = held

own_kinds : (nodes : List Node) (c : ℕ) (ms : List Node) → AreFrom nodes c ms → AllByRecursion (λ (m : Node). IsHeldIn nodes m.column) ms →
    AreAllKindsIn nodes (kinds_from c ms)
own_kinds nodes c [] from held = tt
own_kinds nodes c (m ∷ ms) from held =
    (own_kind nodes c m.column (first_is nodes c m ms from) held.0, own_kinds nodes (c + 1) ms (from_next nodes c m ms from) held.1)

-- the root is an object column, and so is each column above another
root_object : (nodes : List Node) → IsTree nodes → column_of nodes 0 ≡ Some column.Object
root_object nodes tree = ap (option_map (λ (n : Node). n.column)) tree.first

home_under : (nodes : List Node) (c : ℕ) (above : Option ℕ) → IsTree nodes → IsUnder nodes c above → column_of nodes (home_at above) ≡ Some column.Object
home_under nodes c None tree under = root_object nodes tree
home_under nodes c (Some a) tree under = under.1

home_from : (nodes : List Node) (c : ℕ) (o : Option Node) → IsTree nodes → slice_get nodes c ≡ o →
    column_of nodes (home_at (option_and_then (λ (n : Node). n.above) o)) ≡ Some column.Object
home_from nodes c None tree is = root_object nodes tree
home_from nodes c (Some m) tree is = home_under nodes c m.above tree (tree.placed c m is)

home_object : (nodes : List Node) (c : ℕ) → IsTree nodes → column_of nodes (home nodes c) ≡ Some column.Object
home_object nodes c tree = home_from nodes c (slice_get nodes c) tree refl

chosen : (nodes : List Node) (b : Bool) (k l : Kind) → IsKindIn nodes k → IsKindIn nodes l → IsKindIn nodes (cond b k l)
chosen nodes true k l this other = this
chosen nodes false k l this other = other

module _ (haves : FormulasHaveKinds) (within : KindsAreWithin) (nodes : List Node) (tree : IsTree nodes) where
  told_within : (kinds : List Kind) (c : ℕ) (e : Tree) (r : Answer Typed) → AreAllKindsIn nodes kinds → typed e (at_column nodes kinds c) ≡ r →
      IsKindIn nodes (kind_told r)
  told_within kinds c e (Err x) all is = tt
  told_within kinds c e (Ok t) all is =
      within t.core nodes kinds (kind.Object (home nodes c) ∷ []) t.kind tree all (home_object nodes c tree, tt)
      (haves nodes kinds (record { name = codes "this"; kind = kind.Object (home nodes c) } ∷ []) e t is)

  next_within : (kinds : List Kind) (c : ℕ) (e : Option Tree) (k : Kind) → AreAllKindsIn nodes kinds → IsKindIn nodes k →
      IsKindIn nodes (next_kind nodes kinds c e k)
  next_within kinds c None k all here = here
  next_within kinds c (Some e) k all here =
      chosen nodes (is_unknown k) (kind_told (typed e (at_column nodes kinds c))) k (told_within kinds c e (typed e (at_column nodes kinds c)) all refl) here

  nexts_within : (kinds : List Kind) (c : ℕ) (es : List (Option Tree)) → AreAllKindsIn nodes kinds → AreAllKindsIn nodes (next_kinds nodes kinds c es)
  nexts_within kinds c [] all = tt
  nexts_within kinds c (e ∷ es) all =
      (next_within kinds c e (slice_index_or kinds c kind.Unknown) all (kind_at nodes kinds c all), nexts_within kinds (c + 1) es all)

  -- the types that rounds find are those of object columns
  pub rounds_within : (formulas : List (Option Tree)) (n : ℕ) (kinds : List Kind) → AreAllKindsIn nodes kinds →
      AreAllKindsIn nodes (rounds n nodes formulas kinds)
  rounds_within formulas zero kinds all = all
  rounds_within formulas (suc n) kinds all = rounds_within formulas n (round nodes formulas kinds) (nexts_within kinds 0 formulas all)

-- the types that the columns have by themselves are those of object columns
pub first_within : (nodes : List Node) → AllByRecursion (λ (m : Node). IsHeldIn nodes m.column) nodes → AreAllKindsIn nodes (kinds_from 0 nodes)
first_within nodes held = own_kinds nodes 0 nodes (from_first nodes) held

form_stays : (k : Kind) (x : Column) → form (of_kind k x) ≡ form x
form_stays k column.Object = refl
form_stays k (column.State l one first) = refl
form_stays k (column.Formula l) = refl

-- forms stay
pub settled_forms : (kinds : List Kind) (c : ℕ) (ms : List Node) →
    map (λ (m : Node). form m.column) (with_kinds kinds c ms) ≡ map (λ (m : Node). form m.column) ms
settled_forms kinds c [] = refl
settled_forms kinds c (m ∷ ms) =
    ap (λ x. x ∷ map (λ (n : Node). form n.column) (with_kinds kinds (c + 1) ms)) (form_stays (slice_index_or kinds c kind.Unknown) m.column)
    ∙ ap (λ xs. form m.column ∷ xs) (settled_forms kinds (c + 1) ms)

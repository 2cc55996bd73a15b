-- The objects of a column are those under the objects of the column above.
use Rattle.std.proofs.Common.{◌≡◌, refl, sym, ap, ◌∙◌, subst, ℕ, ◌<◌, true, false, cond, List, [], ◌∷◌, length, arith, eq-eqb, Some, None}
use Rattle.std.specs.Prelude.{◌==◌, ◌||◌, ◌&&◌, map, filter, Option, option_and_then, option_map, unwrap_or, slice_get, if◌then◌else◌}
use Rattle.std.specs.List.{AllByRecursion, list_any, filter_map}
use Rattle.std.proofs.lemmas.Bool.{eqb-true}
use Rattle.std.proofs.lemmas.Option.{slice_get_within}
use Rattle.sheet_values.specs.Sorted as sorted
use Rattle.sheet_columns.specs.Tree.{above_of, column_of, is_number, root, IsTree}
use Rattle.sheet_columns.specs.Tree as under
use Rattle.sheet_columns.specs.declared.tree.Column.TheVariants as column
use Rattle.sheet_columns.specs.declared.tree.Node.{Node}
use Rattle.sheet_meaning.specs.Formula.{object_in}
use Rattle.sheet_meaning.specs.Workbook.{object_at, column_in, is_child}
use Rattle.sheet_meaning.specs.WellFormed.{IsUnder, IsWellFormed}
use Rattle.sheet_meaning.specs.declared.workbook.LiveObject.{LiveObject}
use Rattle.sheet_meaning.specs.declared.workbook.Workbook.{Workbook}
use Rattle.sheet_state_references.proofs.Searched.{nat_less}
use Rattle.sheet_print.specs.Books.{objects_of, has_cells, is_cell_under}
use Rattle.sheet_print.specs.Shown.{children_of}
use Rattle.sheet_print.proofs.Chosen.{by_number, object, filter_alike, chosen_children}

-- the numbers of objects, as values and back
numbers_back : (xs : List LiveObject) → filter_map object_in (map object xs) ≡ map (λ (x : LiveObject). x.number) xs
numbers_back [] = refl
numbers_back (x ∷ xs) = ap (λ l. x.number ∷ l) (numbers_back xs)

none_any : (ps : List ℕ) → list_any (λ o. false) ps ≡ false
none_any [] = refl
none_any (p ∷ ps) = none_any ps

-- whether an object stands in a column under one of these
child_of_any : (k : ℕ) (x : LiveObject) (ps : List ℕ) → list_any (λ o. is_child o k x) ps ≡ (x.column == k && list_any (λ o. is_number o x.parent) ps)
child_of_any k x ps =
    elim (x.column == k) as (λ b. list_any (λ o. b && is_number o x.parent) ps ≡ (b && list_any (λ o. is_number o x.parent) ps)) [
      | true ↦ refl
      | false ↦ none_any ps
    ]

some_same : (a b : ℕ) → Some a ≡ Some b → a ≡ b
some_same a b e = cc

-- a live object of a column is one of the column's objects
is_listed : (xs : List LiveObject) (p a : ℕ) → column_in (object_at xs p) ≡ Some a → list_any (λ o. o == p) (objects_of xs a) ≡ true
is_listed [] p a e = cc
is_listed (x ∷ xs) p a e =
    elim (x.number == p) as (λ b. (x.number == p) ≡ b → column_in (if b then Some x else object_at xs p) ≡ Some a →
    list_any (λ o. o == p) (map (λ (y : LiveObject). y.number) (cond (x.column == a) (x ∷ filter (λ (y : LiveObject). y.column == a) xs)
    (filter (λ (y : LiveObject). y.column == a) xs))) ≡ true) [
      | true ↦ λ t h.
          ap (λ b. list_any (λ o. o == p) (map (λ (y : LiveObject). y.number) (cond b (x ∷ filter (λ (y : LiveObject). y.column == a) xs)
          (filter (λ (y : LiveObject). y.column == a) xs)))) (eq-eqb x.column a (some_same x.column a h))
          ∙ ap (λ b. b || list_any (λ o. o == p) (objects_of xs a)) t
      | false ↦ λ t h.
          let more = is_listed xs p a h in
          elim (x.column == a) as (λ b. list_any (λ o. o == p) (map (λ (y : LiveObject). y.number) (cond b (x ∷ filter (λ (y : LiveObject). y.column == a) xs)
          (filter (λ (y : LiveObject). y.column == a) xs))) ≡ true) [
            | true ↦ ap (λ b. b || list_any (λ o. o == p) (objects_of xs a)) t ∙ more
            | false ↦ more
          ]
    ] refl e

above_got : (nodes : List Node) (k a : ℕ) (n : Option Node) → IsTree nodes → slice_get nodes k ≡ n → option_and_then (λ (m : Node). m.above) n ≡ Some a →
    column_of nodes a ≡ Some column.Object
above_got nodes k a None tree e h = cc
above_got nodes k a (Some n) tree e h = (subst (under.IsUnder nodes k) h (tree.placed k n e)).1

-- the column above one holds objects
pub above_holds : (nodes : List Node) (k a : ℕ) → IsTree nodes → above_of nodes k ≡ Some a → column_of nodes a ≡ Some column.Object
above_holds nodes k a tree e = above_got nodes k a (slice_get nodes k) tree refl e

got_counted : (nodes : List Node) (c : ℕ) (n : Option Node) → slice_get nodes c ≡ n → option_map (λ (m : Node). m.column) n ≡ Some column.Object →
    c < length nodes
got_counted nodes c None e h = cc
got_counted nodes c (Some n) e h = slice_get_within nodes c n e

-- an object column is one of the columns
pub is_counted : (nodes : List Node) (c : ℕ) → column_of nodes c ≡ Some column.Object → c < length nodes
is_counted nodes c e = got_counted nodes c (slice_get nodes c) refl e

-- nothing stands above the root
nothing_above : (nodes : List Node) → IsTree nodes → above_of nodes 0 ≡ None
nothing_above nodes tree = ap (λ (n : Option Node). option_and_then (λ (m : Node). m.above) n) tree.first

-- the root is no cell
pub root_is_no_cell : (nodes : List Node) (a c : ℕ) → IsTree nodes → c ≡ 0 → is_cell_under nodes a c ≡ false
root_is_no_cell nodes a c tree e =
    let none : above_of nodes c ≡ None = ap (above_of nodes) e ∙ nothing_above nodes tree in
    ap (λ n. is_number a n && unwrap_or (option_map has_cells (column_of nodes c)) false) none

module _ (w : Workbook) (formed : IsWellFormed w) where
  abbrev xs : List LiveObject
  xs = w.state.objects

  module _ (k a : ℕ) (below : 0 < k) (above : above_of w.schema.columns k ≡ Some a) where
    -- an object of the column stands under a listed parent
    has_parent : (x : LiveObject) (parent : Option ℕ) → IsUnder w x parent → x.column ≡ k → list_any (λ o. is_number o parent) (objects_of xs a) ≡ true
    has_parent x None u e = let root = u.1 in absurd (omega arith)
    has_parent x (Some p) u e =
        let c = u.2.0 in
        let same : c ≡ a = some_same c a (sym u.2.1 ∙ ap (above_of w.schema.columns) e ∙ above) in
        is_listed xs p a (u.2.2 ∙ ap Some same)

    is_under_any : (x : LiveObject) → IsUnder w x x.parent → list_any (λ o. is_child o k x) (objects_of xs a) ≡ (x.column == k)
    is_under_any x u =
        child_of_any k x (objects_of xs a)
        ∙ elim (x.column == k) as (λ b. (x.column == k) ≡ b → (b && list_any (λ o. is_number o x.parent) (objects_of xs a)) ≡ b) [
          | true ↦ λ t. has_parent x x.parent u (eqb-true x.column k t)
          | false ↦ λ t. refl
        ] refl

    all_under : (ys : List LiveObject) → AllByRecursion (λ (y : LiveObject). IsUnder w y y.parent) ys →
        AllByRecursion (λ (y : LiveObject). list_any (λ o. is_child o k y) (objects_of xs a) ≡ (y.column == k)) ys
    all_under [] h = tt
    all_under (y ∷ ys) h = (is_under_any y h.0, all_under ys h.1)

    -- the children of the objects of the column above are the objects of the column
    pub children_listed : filter_map object_in (children_of xs k (objects_of xs a)) ≡ objects_of xs k
    children_listed =
        ap (filter_map object_in) (chosen_children xs formed.rising k (objects_of xs a)
        ∙ ap (map object) (filter_alike (λ x. list_any (λ o. is_child o k x) (objects_of xs a)) (λ (x : LiveObject). x.column == k) xs
        (all_under xs formed.under)))
        ∙ numbers_back (filter (λ (x : LiveObject). x.column == k) xs)

  -- what has a greater number than another isn't the root
  none_at_root : (x : LiveObject) (ys : List LiveObject) → sorted.IsBelow by_number x ys → object_at ys 0 ≡ None
  none_at_root x [] b = refl
  none_at_root x (y ∷ ys) b =
      let less = nat_less x.number y.number b.0 in
      elim (y.number == 0) as (λ t. (y.number == 0) ≡ t → (if t then Some y else object_at ys 0) ≡ None) [
        | true ↦ λ t. let zero = eqb-true y.number 0 t in absurd (omega arith)
        | false ↦ λ t. none_at_root x ys b.1
      ] refl

  module _ (tree : IsTree w.schema.columns) where
    not_root : (y : LiveObject) (parent : Option ℕ) → 0 < y.number → IsUnder w y parent → (y.column == 0) ≡ false
    not_root y None more u = let zero = u.0 in absurd (omega arith)
    not_root y (Some p) more u =
        elim (y.column == 0) as (λ b. (y.column == 0) ≡ b → b ≡ false) [
          | true ↦ λ t. let same = sym u.2.1 ∙ ap (above_of w.schema.columns) (eqb-true y.column 0 t) ∙ nothing_above w.schema.columns tree in cc
          | false ↦ λ t. refl
        ] refl

    none_in_root : (x : LiveObject) (ys : List LiveObject) → sorted.IsBelow by_number x ys → AllByRecursion (λ (y : LiveObject). IsUnder w y y.parent) ys →
        objects_of ys 0 ≡ []
    none_in_root x [] b h = refl
    none_in_root x (y ∷ ys) b h =
        let less = nat_less x.number y.number b.0 in
        ap (λ t. map (λ (z : LiveObject). z.number) (cond t (y ∷ filter (λ (z : LiveObject). z.column == 0) ys)
        (filter (λ (z : LiveObject). z.column == 0) ys)))
        (not_root y y.parent (omega arith) h.0)
        ∙ none_in_root x ys b.1 h.1

    root_first : (ys : List LiveObject) → sorted.IsRising by_number ys → AllByRecursion (λ (y : LiveObject). IsUnder w y y.parent) ys →
        object_at ys 0 ≡ Some (record { number = 0; column = 0; parent = None }) → objects_of ys 0 ≡ 0 ∷ []
    root_first [] r h e = cc
    root_first (y ∷ ys) r h e =
        elim (y.number == 0) as (λ t. (y.number == 0) ≡ t → (if t then Some y else object_at ys 0) ≡ Some (record { number = 0; column = 0; parent = None }) →
        objects_of (y ∷ ys) 0 ≡ 0 ∷ []) [
          | true ↦ λ t s.
              let column : y.column ≡ 0 = some_same y.column 0 (ap column_in s) in
              ap (λ b. map (λ (z : LiveObject). z.number) (cond b (y ∷ filter (λ (z : LiveObject). z.column == 0) ys)
              (filter (λ (z : LiveObject). z.column == 0) ys)))
              (eq-eqb y.column 0 column)
              ∙ ap (λ l. y.number ∷ l) (none_in_root y ys r.0 h.1)
              ∙ ap (λ n. n ∷ []) (eqb-true y.number 0 t)
          | false ↦ λ t s. let none = sym (none_at_root y ys r.0) ∙ s in cc
        ] refl e

    -- the root is the one object of its column
    pub root_listed : objects_of xs 0 ≡ 0 ∷ []
    root_listed = root_first xs formed.rising formed.under formed.root

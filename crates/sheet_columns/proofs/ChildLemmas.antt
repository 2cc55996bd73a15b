-- The names of the columns under a column, when a column is added and when one holds something else.
use Rattle.std.proofs.Common.{◌≡◌, ℕ, ◌+◌, ◌<◌, zero, suc, Bool, true, false, cond, List, [], ◌∷◌, ◌++◌, length, map, Option, Some, None, refl, sym}
use Rattle.std.proofs.Common.{ap, ◌∙◌, arith, length-append}
use Rattle.std.specs.Prelude.{◌==◌, ◌&&◌, bytes_eq, slice_get, slice_set}
use Rattle.std.specs.List.{position_from}
use Rattle.std.proofs.Math.Dec.{eqb-suc-zero, eqb-zero-suc, eqb-suc-suc}
use Rattle.std.proofs.lemmas.List.{map-append}
use Rattle.std.specs.Map.{lookup}
use Rattle.std.proofs.lemmas.Iterator.Adapters.{position_from-zero}
use Rattle.indexmap.specs.IndexMap.{IndexMap, insert_entry}
use Rattle.indexmap.proofs.CallerLemmas.{insert_entry-new}
use Rattle.sheet_columns.specs.declared.tree.Column.{Column}
use Rattle.sheet_columns.specs.declared.tree.Node.{Node}
use Rattle.sheet_columns.specs.Children.{Numbered, number_of, found_under, with_child, AreChildren}
use Rattle.sheet_columns.specs.Contents.{with_column}
use Rattle.sheet_columns.specs.Tree.{is_child_named, child_named, root}

-- the first that is there
abbrev pub first_of : Option ℕ → Option ℕ → Option ℕ
first_of None y = y
first_of (Some x) y = Some x

first_none : (x : Option ℕ) → x ≡ first_of x None
first_none None = refl
first_none (Some k) = refl

-- what a map's entries say of a name
pub number_lookup : {K : Type 0} (f : K → List ℕ) (name : List ℕ) (es : List (K × ℕ))
    → lookup (λ k. bytes_eq name (f k)) es ≡ number_of (map (λ e. (f e.0, e.1)) es) name
number_lookup f name [] = refl
number_lookup f name (e ∷ es) = ap (cond (bytes_eq name (f e.0)) (Some e.1)) (number_lookup f name es)

-- the entries after a new name
pub numbers_after : {K S : Type 0} (f : K → List ℕ) (eq : K → K → Bool) (m n : IndexMap K ℕ S) (k : K) (v : ℕ) → ((x : K) → eq k x ≡ bytes_eq (f k) (f x))
    → number_of (map {B = List ℕ × ℕ} (λ e. (f e.0, e.1)) m.entries) (f k) ≡ None → n.entries ≡ insert_entry eq m.entries k v
    → map {B = List ℕ × ℕ} (λ e. (f e.0, e.1)) n.entries ≡ map {B = List ℕ × ℕ} (λ e. (f e.0, e.1)) m.entries ++ (f k, v) ∷ []
numbers_after {K} f eq m n k v same free is =
    let shown : K × ℕ → List ℕ × ℕ = λ e. (f e.0, e.1) in
    let gone = ap (λ t. lookup t m.entries) (λ i x. same x i) ∙ number_lookup f (f k) m.entries ∙ free in
    ap (map shown) (is ∙ insert_entry-new eq m k v gone) ∙ map-append shown m.entries ((k, v) ∷ [])

-- the names under one column
pub found_at : (children : List Numbered) (a : ℕ) (es : Numbered) (n : List ℕ) → slice_get children a ≡ Some es → found_under children a n ≡ number_of es n
found_at [] a es n got = cc
found_at (fs ∷ children) zero es n got = let same : fs ≡ es = cc in ap (λ l. number_of l n) same
found_at (fs ∷ children) (suc a) es n got = found_at children a es n got

pub found_past : (children : List Numbered) (a : ℕ) (n : List ℕ) → slice_get children a ≡ None → found_under children a n ≡ None
found_past [] zero n got = refl
found_past [] (suc a) n got = refl
found_past (fs ∷ children) zero n got = cc
found_past (fs ∷ children) (suc a) n got = found_past children a n got

pub set_child : (children : List Numbered) (a : ℕ) (es : Numbered) (name : List ℕ) (number : ℕ) → slice_get children a ≡ Some es
    → slice_set children a (es ++ (name, number) ∷ []) ≡ with_child children a name number
set_child [] a es name number got = cc
set_child (fs ∷ children) zero es name number got = let same : es ≡ fs = cc in ap (λ l. (l ++ (name, number) ∷ []) ∷ children) same
set_child (fs ∷ children) (suc a) es name number got = ap (λ l. fs ∷ l) (set_child children a es name number got)

number_push : (es : Numbered) (name : List ℕ) (number : ℕ) (n : List ℕ)
    → number_of (es ++ (name, number) ∷ []) n ≡ first_of (number_of es n) (cond (bytes_eq n name) (Some number) None)
number_push [] name number n = refl
number_push (e ∷ es) name number n =
    elim (bytes_eq n e.0) as (λ b. cond b (Some e.1) (number_of (es ++ (name, number) ∷ []) n)
    ≡ first_of (cond b (Some e.1) (number_of es n)) (cond (bytes_eq n name) (Some number) None)) [
      | true ↦ refl
      | false ↦ number_push es name number n
    ]

found_more : (children : List Numbered) (a : ℕ) (n : List ℕ) → found_under (children ++ [] ∷ []) a n ≡ found_under children a n
found_more [] zero n = refl
found_more [] (suc a) n = refl
found_more (es ∷ children) zero n = refl
found_more (es ∷ children) (suc a) n = found_more children a n

found_push : (children : List Numbered) (above : ℕ) (name : List ℕ) (number : ℕ) → above < length children → (a : ℕ) (n : List ℕ)
    → found_under (with_child children above name number ++ [] ∷ []) a n
    ≡ first_of (found_under children a n) (cond (a == above && bytes_eq n name) (Some number) None)
found_push [] above name number lt a n = absurd (omega arith)
found_push (es ∷ children) zero name number lt zero n = number_push es name number n
found_push (es ∷ children) zero name number lt (suc a) n =
    found_more children a n ∙ first_none (found_under children a n)
    ∙ ap (λ b. first_of (found_under children a n) (cond (b && bytes_eq n name) (Some number) None)) (sym (eqb-suc-zero a))
found_push (es ∷ children) (suc above) name number lt zero n =
    first_none (number_of es n) ∙ ap (λ b. first_of (number_of es n) (cond (b && bytes_eq n name) (Some number) None)) (sym (eqb-zero-suc above))
found_push (es ∷ children) (suc above) name number lt (suc a) n =
    found_push children above name number (omega arith) a n
    ∙ ap (λ b. first_of (found_under children a n) (cond (b && bytes_eq n name) (Some number) None)) (sym (eqb-suc-suc a above))

position_push : (p : Node → Bool) (i : ℕ) (nodes : List Node) (x : Node)
    → position_from p i (nodes ++ x ∷ []) ≡ first_of (position_from p i nodes) (cond (p x) (Some (i + length nodes)) None)
position_push p i [] x = ap (λ k. cond (p x) (Some k) None) (omega arith)
position_push p i (y ∷ nodes) x =
    elim (p y) as (λ b. cond b (Some i) (position_from p (i + 1) (nodes ++ x ∷ []))
    ≡ first_of (cond b (Some i) (position_from p (i + 1) nodes)) (cond (p x) (Some (i + suc (length nodes))) None)) [
      | true ↦ refl
      | false ↦ position_push p (i + 1) nodes x ∙ ap (λ k. first_of (position_from p (i + 1) nodes) (cond (p x) (Some k) None)) (omega arith)
    ]

child_push : (nodes : List Node) (x : Node) (a : ℕ) (n : List ℕ)
    → child_named (nodes ++ x ∷ []) a n ≡ first_of (child_named nodes a n) (cond (is_child_named a n x) (Some (length nodes)) None)
child_push nodes x a n =
    position_from-zero (is_child_named a n) (nodes ++ x ∷ []) ∙ position_push (is_child_named a n) 0 nodes x
    ∙ ap (λ k. first_of (position_from (is_child_named a n) 0 nodes) (cond (is_child_named a n x) (Some k) None)) (omega arith)
    ∙ ap (λ o. first_of o (cond (is_child_named a n x) (Some (length nodes)) None)) (sym (position_from-zero (is_child_named a n) nodes))

length_child : (children : List Numbered) (above : ℕ) (name : List ℕ) (number : ℕ) → length (with_child children above name number) ≡ length children
length_child [] above name number = refl
length_child (es ∷ children) zero name number = refl
length_child (es ∷ children) (suc above) name number = ap suc (length_child children above name number)

-- the root alone
pub root_children : AreChildren ([] ∷ []) (root ∷ [])
root_children = record { long = refl; found = alone }
  where
    alone : (a : ℕ) (n : List ℕ) → found_under ([] ∷ []) a n ≡ child_named (root ∷ []) a n
    alone zero n = refl
    alone (suc a) n = refl

-- one column more
pub children_push : (children : List Numbered) (nodes : List Node) → AreChildren children nodes → (x : Node) (above : ℕ) → x.above ≡ Some above
    → above < length nodes
    → AreChildren (with_child children above x.name (length nodes) ++ [] ∷ []) (nodes ++ x ∷ [])
children_push children nodes are x above is lt = record {
  long = length-append (with_child children above x.name (length nodes)) ([] ∷ [])
      ∙ ap (λ k. k + 1) (length_child children above x.name (length nodes) ∙ are.long) ∙ sym (length-append nodes (x ∷ []));
  found = λ a n. found_push children above x.name (length nodes) (let long = are.long in omega arith) a n
      ∙ ap (λ o. first_of o (cond (a == above && bytes_eq n x.name) (Some (length nodes)) None)) (are.found a n)
      ∙ rw is refl
      ∙ sym (child_push nodes x a n);
}

position_with : (a : ℕ) (n : List ℕ) (i : ℕ) (nodes : List Node) (c : ℕ) (y : Column)
    → position_from (is_child_named a n) i (with_column nodes c y) ≡ position_from (is_child_named a n) i nodes
position_with a n i [] c y = refl
position_with a n i (x ∷ nodes) zero y = refl
position_with a n i (x ∷ nodes) (suc c) y = ap (cond (is_child_named a n x) (Some i)) (position_with a n (i + 1) nodes c y)

length_with : (nodes : List Node) (c : ℕ) (y : Column) → length (with_column nodes c y) ≡ length nodes
length_with [] c y = refl
length_with (x ∷ nodes) zero y = refl
length_with (x ∷ nodes) (suc c) y = ap suc (length_with nodes c y)

-- names stay where a column holds something else
pub children_with : (children : List Numbered) (nodes : List Node) → AreChildren children nodes → (c : ℕ) (y : Column)
    → AreChildren children (with_column nodes c y)
children_with children nodes are c y = record {
  long = are.long ∙ sym (length_with nodes c y);
  found = λ a n. are.found a n ∙ position_from-zero (is_child_named a n) nodes ∙ sym (position_with a n 0 nodes c y)
      ∙ sym (position_from-zero (is_child_named a n) (with_column nodes c y));
}

-- Formula columns are given their types one after the other.
use Rattle.std.proofs.Common.{◌≡◌, ℕ, ◌+◌, ◌≤◌, zero, suc, List, [], ◌∷◌, length, Some, refl, sym, ap, ◌∙◌, subst, arith}
use Rattle.std.specs.Prelude.{slice_index_or}
use Rattle.sheet_values.specs.declared.value.Kind.{Kind}
use Rattle.sheet_values.specs.declared.value.Kind.TheVariants as kind
use Rattle.sheet_columns.specs.declared.tree.Column.{Column}
use Rattle.sheet_columns.specs.declared.tree.Column.TheVariants as column
use Rattle.sheet_columns.specs.declared.tree.Node.{Node}
use Rattle.sheet_columns.specs.Tree.{column_of}
use Rattle.sheet_columns.specs.Contents.{holding, with_column}
use Rattle.sheet_types.specs.Elaboration.{of_kind, with_kinds}

-- the first columns, as many as that, with these types, where the first has the number `c`
abbrev pub first_settled : List Kind → ℕ → ℕ → List Node → List Node
first_settled kinds c zero nodes = nodes
first_settled kinds c (suc k) [] = []
first_settled kinds c (suc k) (n ∷ nodes) = holding n (of_kind (slice_index_or kinds c kind.Unknown) n.column) ∷ first_settled kinds (c + 1) k nodes

pub settled_count : (kinds : List Kind) (c k : ℕ) (nodes : List Node) → length (first_settled kinds c k nodes) ≡ length nodes
settled_count kinds c zero nodes = refl
settled_count kinds c (suc k) [] = refl
settled_count kinds c (suc k) (n ∷ nodes) = let rest = settled_count kinds (c + 1) k nodes in omega (arith, rest)

-- all columns are settled
pub all_settled : (kinds : List Kind) (c k : ℕ) (nodes : List Node) → length nodes ≤ k → first_settled kinds c k nodes ≡ with_kinds kinds c nodes
all_settled kinds c zero [] past = refl
all_settled kinds c zero (n ∷ nodes) past = absurd (omega (arith, past))
all_settled kinds c (suc k) [] past = refl
all_settled kinds c (suc k) (n ∷ nodes) past =
    ap (λ ms. holding n (of_kind (slice_index_or kinds c kind.Unknown) n.column) ∷ ms) (all_settled kinds (c + 1) k nodes (omega (arith, past)))

-- one column more is settled
pub one_settled : (kinds : List Kind) (c k : ℕ) (nodes : List Node) (x : Column) → column_of (first_settled kinds c k nodes) k ≡ Some x
    → with_column (first_settled kinds c k nodes) k (of_kind (slice_index_or kinds (c + k) kind.Unknown) x) ≡ first_settled kinds c (suc k) nodes
one_settled kinds c zero [] x is = cc
one_settled kinds c zero (n ∷ nodes) x is =
    let same : x ≡ n.column = cc in
    let no_more : c + 0 ≡ c = omega arith in
    ap (λ y. holding n (of_kind (slice_index_or kinds (c + 0) kind.Unknown) y) ∷ nodes) same
    ∙ ap (λ d. holding n (of_kind (slice_index_or kinds d kind.Unknown) n.column) ∷ nodes) no_more
one_settled kinds c (suc k) [] x is = cc
one_settled kinds c (suc k) (n ∷ nodes) x is =
    let h = holding n (of_kind (slice_index_or kinds c kind.Unknown) n.column) in
    let further : c + suc k ≡ c + 1 + k = omega arith in
    ap (λ d. h ∷ with_column (first_settled kinds (c + 1) k nodes) k (of_kind (slice_index_or kinds d kind.Unknown) x)) further
    ∙ ap (λ ms. h ∷ ms) (one_settled kinds (c + 1) k nodes x is)

-- a column that holds what it held
pub same_column : (nodes : List Node) (k : ℕ) (x : Column) → column_of nodes k ≡ Some x → with_column nodes k x ≡ nodes
same_column [] k x is = cc
same_column (n ∷ nodes) zero x is = let same : x ≡ n.column = cc in ap (λ y. holding n y ∷ nodes) same
same_column (n ∷ nodes) (suc k) x is = ap (λ ms. n ∷ ms) (same_column nodes k x is)

-- a turn of the loop that gives formula columns their types
pub settled_turn : (kinds : List Kind) (nodes columns new : List Node) (k : ℕ) (x : Column) → columns ≡ first_settled kinds 0 k nodes →
    column_of columns k ≡ Some x
    → new ≡ with_column columns k (of_kind (slice_index_or kinds k kind.Unknown) x) → new ≡ first_settled kinds 0 (k + 1) nodes
settled_turn kinds nodes columns new k x so_far is made =
    let at_first : column_of (first_settled kinds 0 k nodes) k ≡ Some x = subst (λ ms. column_of ms k ≡ Some x) so_far is in
    let place : 0 + k ≡ k = omega arith in
    let next : suc k ≡ k + 1 = omega arith in
    made ∙ ap (λ ms. with_column ms k (of_kind (slice_index_or kinds k kind.Unknown) x)) so_far
    ∙ ap (λ d. with_column (first_settled kinds 0 k nodes) k (of_kind (slice_index_or kinds d kind.Unknown) x)) (sym place)
    ∙ one_settled kinds 0 k nodes x at_first ∙ ap (λ d. first_settled kinds 0 d nodes) next

-- a formula column is given its type
pub given : (kinds : List Kind) (columns new : List Node) (k : ℕ) (x : Column) (l found : Kind) → x ≡ column.Formula l →
    found ≡ slice_index_or kinds k kind.Unknown
    → new ≡ with_column columns k (column.Formula found) → new ≡ with_column columns k (of_kind (slice_index_or kinds k kind.Unknown) x)
given kinds columns new k x l found is type made =
    made ∙ ap (λ m. with_column columns k (column.Formula m)) type ∙ ap (λ y. with_column columns k (of_kind (slice_index_or kinds k kind.Unknown) y)) (sym is)

-- another column is left as it is
pub left : (kinds : List Kind) (columns new : List Node) (k : ℕ) (x : Column) → column_of columns k ≡ Some x → ((l : Kind) → x ≡ column.Formula l → ⊥) →
    new ≡ columns
    → new ≡ with_column columns k (of_kind (slice_index_or kinds k kind.Unknown) x)
left kinds columns new k column.Object there other same = same ∙ sym (same_column columns k column.Object there)
left kinds columns new k (column.State l one first) there other same = same ∙ sym (same_column columns k (column.State l one first) there)
left kinds columns new k (column.Formula l) there other same = absurd (other l refl)

-- The types of columns, one after the other.
use Rattle.std.proofs.Common.{◌≡◌, ℕ, ◌+◌, ◌-◌, ◌<◌, ◌≤◌, zero, suc, List, [], ◌∷◌, ◌++◌, drop, length, Option, Some, refl, sym, ap, ◌∙◌, arith, add-one}
use Rattle.std.proofs.lemmas.List.{append_assoc}
use Rattle.std.proofs.lemmas.List.{append-nil, drop_all}
use Rattle.sheet_values.specs.declared.value.Kind.{Kind}
use Rattle.sheet_columns.specs.declared.tree.Column.{Column}
use Rattle.sheet_columns.specs.declared.tree.Node.{Node}
use Rattle.sheet_columns.specs.Tree.{column_of}
use Rattle.sheet_syntax_trees.specs.declared.tree.Tree.{Tree}
use Rattle.sheet_types_rules.specs.Columns.{kind_of_column, kinds_from}
use Rattle.sheet_types_rounds.specs.Rounds.{round, rounds}

-- the type of the column of a number, before those of the columns behind it
pub by_itself : (nodes : List Node) (c k : ℕ) (w : Column) → column_of nodes c ≡ Some w
    → kinds_from k (drop c nodes) ≡ kind_of_column k w ∷ kinds_from (k + 1) (drop (suc c) nodes)
by_itself [] c k w got = cc
by_itself (n ∷ nodes) zero k w got = cc
by_itself (n ∷ nodes) (suc c) k w got = by_itself nodes c k w got

-- one type more
pub one_more : (made : List Kind) (nodes : List Node) (c : ℕ) (w : Column) → column_of nodes c ≡ Some w
    → made ++ kinds_from c (drop c nodes) ≡ kinds_from 0 nodes
    → (made ++ kind_of_column c w ∷ []) ++ kinds_from (c + 1) (drop (c + 1) nodes) ≡ kinds_from 0 nodes
one_more made nodes c w got all =
    simp (append_assoc, add-one) (ap (λ rest. made ++ rest) (ap (λ n. kind_of_column c w ∷ kinds_from n (drop (suc c) nodes)) (sym (add-one c))
    ∙ sym (by_itself nodes c c w got)) ∙ all)

-- all types are made
pub all_made : (made : List Kind) (nodes : List Node) (c : ℕ) → length nodes ≤ c → made ++ kinds_from c (drop c nodes) ≡ kinds_from 0 nodes
    → made ≡ kinds_from 0 nodes
all_made made nodes c past all = sym (append-nil made) ∙ ap (λ rest. made ++ kinds_from c rest) (sym (drop_all c nodes past)) ∙ all

-- where a round changes nothing, no later one does
pub still : (nodes : List Node) (formulas : List (Option Tree)) (kinds : List Kind) → round nodes formulas kinds ≡ kinds → (n : ℕ)
    → rounds n nodes formulas kinds ≡ kinds
still nodes formulas kinds same zero = refl
still nodes formulas kinds same (suc n) = ap (rounds n nodes formulas) same ∙ still nodes formulas kinds same n

-- one round is done
pub one_round : (nodes : List Node) (formulas : List (Option Tree)) (kinds : List Kind) (n k : ℕ) → k < n
    → rounds (n - k) nodes formulas kinds ≡ rounds (n - (k + 1)) nodes formulas (round nodes formulas kinds)
one_round nodes formulas kinds n k lt =
    let one : n - k ≡ suc (n - (k + 1)) = omega (arith, lt) in
    ap (λ m. rounds m nodes formulas kinds) one

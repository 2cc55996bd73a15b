-- Columns are filled from the last one on.
use Rattle.std.proofs.Common.{◌≡◌, ◌<◌, List, [], ◌∷◌, ◌++◌, length, map, Some, refl, ap, arith}
use Rattle.std.specs.Prelude.{option_map}
use Rattle.sheet_columns.specs.declared.tree.Column.{Column}
use Rattle.sheet_columns.specs.declared.tree.Node.{Node}
use Rattle.sheet_columns.specs.Tree.{column_of, HasFittingFirst}
use Rattle.sheet_columns.specs.Contents.{holds_objects, holding, with_column}
use Rattle.sheet_types_outline.specs.Columns.{is_object_node, AreAlike, AreFitting}
use Rattle.sheet_types_outline.specs.Outlines.{filled}

pub last_alike : (nodes : List Node) (xs : List Column) (x : Column) → AreAlike nodes (xs ++ x ∷ []) →
    option_map holds_objects (column_of nodes (length xs)) ≡ Some (holds_objects x)
last_alike [] [] x all = absurd all
last_alike (n ∷ nodes) [] x all = ap Some all.0
last_alike [] (y ∷ xs) x all = absurd all
last_alike (n ∷ nodes) (y ∷ xs) x all = last_alike nodes xs x all.1

pub last_counted : (nodes : List Node) (xs : List Column) (x : Column) → AreAlike nodes (xs ++ x ∷ []) → length xs < length nodes
last_counted [] [] x all = absurd all
last_counted (n ∷ nodes) [] x all = omega arith
last_counted [] (y ∷ xs) x all = absurd all
last_counted (n ∷ nodes) (y ∷ xs) x all = let lt = last_counted nodes xs x all.1 in omega arith

pub front_alike : (nodes : List Node) (xs : List Column) (x : Column) → AreAlike nodes (xs ++ x ∷ []) → AreAlike (with_column nodes (length xs) x) xs
front_alike nodes [] x all = tt
front_alike [] (y ∷ xs) x all = absurd all
front_alike (n ∷ nodes) (y ∷ xs) x all = (all.0, front_alike nodes xs x all.1)

pub filled_last : (nodes : List Node) (xs : List Column) (x : Column) → AreAlike nodes (xs ++ x ∷ []) →
    filled (with_column nodes (length xs) x) xs ≡ filled nodes (xs ++ x ∷ [])
filled_last [] [] x all = absurd all
filled_last (n ∷ []) [] x all = refl
filled_last (n ∷ m ∷ nodes) [] x all = refl
filled_last [] (y ∷ xs) x all = absurd all
filled_last (n ∷ nodes) (y ∷ xs) x all = ap (λ t. holding n y ∷ t) (filled_last nodes xs x all.1)

pub front_fitting : (xs : List Column) (x : Column) → AreFitting (xs ++ x ∷ []) → AreFitting xs
front_fitting [] x all = tt
front_fitting (y ∷ xs) x all = (all.0, front_fitting xs x all.1)

pub last_fitting : (xs : List Column) (x : Column) → AreFitting (xs ++ x ∷ []) → HasFittingFirst x
last_fitting [] x all = all.0
last_fitting (y ∷ xs) x all = last_fitting xs x all.1

pub more_fitting : (xs : List Column) (x : Column) → AreFitting xs → HasFittingFirst x → AreFitting (xs ++ x ∷ [])
more_fitting [] x all here = (here, tt)
more_fitting (y ∷ xs) x all here = (all.0, more_fitting xs x all.1 here)

pub alike_sorts : (nodes : List Node) (xs : List Column) → map holds_objects xs ≡ map is_object_node nodes → AreAlike nodes xs
alike_sorts nodes [] same = tt
alike_sorts [] (x ∷ xs) same = cc
alike_sorts (n ∷ nodes) (x ∷ xs) same = (cc, alike_sorts nodes xs (cc))

pub filled_nothing : (nodes : List Node) → filled nodes [] ≡ nodes
filled_nothing [] = refl
filled_nothing (n ∷ nodes) = refl

pub no_items : (xs : List Column) → length xs ≡ 0 → xs ≡ []
no_items [] none = refl
no_items (x ∷ xs) none = absurd (omega arith)

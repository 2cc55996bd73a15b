-- The rules for resolved formulas at each form, where the parts are values of the program.
use Rattle.std.proofs.Common.{◌≡◌, refl, ap, ◌∙◌, ℕ, List, [], ◌∷◌, ◌++◌}
use Rattle.std.specs.Prelude.{◌&&◌, Option, Some, None, if◌then◌else◌, slice_index_or}
use denote.Hole.Carrier.{hidden}
use Rattle.sheet_values.specs.declared.value.Kind.{Kind}
use Rattle.sheet_values.specs.declared.value.Kind.TheVariants as kind
use Rattle.sheet_columns.specs.declared.formula.Core.TheBlock.{hidden-the_row-Core-0, hidden-the_row-Core-1}
use Rattle.sheet_columns.specs.declared.formula.Core.{Core, Row_of-Core, end_of-Core, more_of-Core, items-the_row-Core, items_hidden-the_row-Core-1}
use Rattle.sheet_columns.specs.declared.formula.Core.TheVariants as core
use Rattle.sheet_columns.specs.declared.formula.SetOperator.{SetOperator}
use Rattle.sheet_columns.specs.declared.formula.SetTest.{SetTest}
use Rattle.sheet_columns.specs.declared.formula.OrderTest.{OrderTest}
use Rattle.sheet_columns.specs.declared.formula.ArithmeticOperator.{ArithmeticOperator}
use Rattle.sheet_columns.specs.declared.formula.Connective.{Connective}
use Rattle.sheet_columns.specs.declared.formula.Extremum.{Extremum}
use Rattle.sheet_columns.specs.declared.formula.Quantifier.{Quantifier}
use Rattle.sheet_columns.specs.declared.tree.Node.{Node}
use Rattle.sheet_columns.specs.Tree.{column_of, above_of}
use Rattle.sheet_types_rules.specs.Kinds.{common, has_order, objects_in}
use Rattle.sheet_types_rules.specs.Formulas.{kind_in, kinds_in, provided, serves, all_common, is_under, is_object, is_state, is_formula, ◌>>◌}

module _ (n : List Node) (k v : List Kind) where
  pub kind-ObjectStep : (e : Core) (c : ℕ) →
      kind_in (core.ObjectStep e c) n k v ≡ kind_in e n k v >> (λ x. provided (is_under n x c && is_object (column_of n c)) (kind.Object c))
  unfolding hidden hidden-the_row-Core-0
  kind-ObjectStep e c = refl

  pub kind-StateStep : (e : Core) (c : ℕ) →
      kind_in (core.StateStep e c) n k v ≡ kind_in e n k v >> (λ x. provided (is_under n x c && is_state (column_of n c)) (slice_index_or k c kind.Unknown))
  unfolding hidden hidden-the_row-Core-0
  kind-StateStep e c = refl

  pub kind-FormulaStep : (e : Core) (c : ℕ) →
      kind_in (core.FormulaStep e c) n k v ≡ kind_in e n k v >> (λ x. provided (is_under n x c && is_formula (column_of n c)) (slice_index_or k c kind.Unknown))
  unfolding hidden hidden-the_row-Core-0
  kind-FormulaStep e c = refl

  pub kind-Up : (e : Core) → kind_in (core.Up e) n k v ≡ kind_in e n k v >> (λ x. objects_in x >> (λ c. above_of n c >> (λ above. Some (kind.Object above))))
  unfolding hidden hidden-the_row-Core-0
  kind-Up e = refl

  pub kind-Combine : (op : SetOperator) (a b : Core) → kind_in (core.Combine op a b) n k v ≡ kind_in a n k v >> (λ x. kind_in b n k v >> common x)
  unfolding hidden hidden-the_row-Core-0
  kind-Combine op a b = refl

  pub kind-Compare : (test : SetTest) (a b : Core) →
      kind_in (core.Compare test a b) n k v ≡ kind_in a n k v >> (λ x. kind_in b n k v >> (λ y. provided (serves x y) kind.Truth))
  unfolding hidden hidden-the_row-Core-0
  kind-Compare test a b = refl

  pub kind-Order : (test : OrderTest) (a b : Core) →
      kind_in (core.Order test a b) n k v ≡ kind_in a n k v >> (λ x. kind_in b n k v >> (λ y. provided (has_order x && has_order y && serves x y) kind.Truth))
  unfolding hidden hidden-the_row-Core-0
  kind-Order test a b = refl

  pub kind-Arithmetic : (op : ArithmeticOperator) (a b : Core) →
      kind_in (core.Arithmetic op a b) n k v ≡ kind_in a n k v >>
      (λ x. kind_in b n k v >> (λ y. provided (serves kind.Number x && serves kind.Number y) kind.Number))
  unfolding hidden hidden-the_row-Core-0
  kind-Arithmetic op a b = refl

  pub kind-Negate : (a : Core) → kind_in (core.Negate a) n k v ≡ kind_in a n k v >> (λ x. provided (serves kind.Number x) kind.Number)
  unfolding hidden hidden-the_row-Core-0
  kind-Negate a = refl

  pub kind-Join : (a b : Core) →
      kind_in (core.Join a b) n k v ≡ kind_in a n k v >> (λ x. kind_in b n k v >> (λ y. provided (serves kind.Text x && serves kind.Text y) kind.Text))
  unfolding hidden hidden-the_row-Core-0
  kind-Join a b = refl

  pub kind-Not : (a : Core) → kind_in (core.Not a) n k v ≡ kind_in a n k v >> (λ x. provided (serves kind.Truth x) kind.Truth)
  unfolding hidden hidden-the_row-Core-0
  kind-Not a = refl

  pub kind-Connect : (op : Connective) (a b : Core) →
      kind_in (core.Connect op a b) n k v ≡ kind_in a n k v >> (λ x. kind_in b n k v >> (λ y. provided (serves kind.Truth x && serves kind.Truth y) kind.Truth))
  unfolding hidden hidden-the_row-Core-0
  kind-Connect op a b = refl

  pub kind-If : (c a b : Core) →
      kind_in (core.If c a b) n k v ≡ kind_in c n k v >>
      (λ x. kind_in a n k v >> (λ y. kind_in b n k v >> (λ z. if serves kind.Truth x then common y z else None)))
  unfolding hidden hidden-the_row-Core-0
  kind-If c a b = refl

  pub kind-Count : (s : Core) → kind_in (core.Count s) n k v ≡ kind_in s n k v >> (λ x. Some kind.Number)
  unfolding hidden hidden-the_row-Core-0
  kind-Count s = refl

  pub kind-Only : (s : Core) → kind_in (core.Only s) n k v ≡ kind_in s n k v
  unfolding hidden hidden-the_row-Core-0
  kind-Only s = refl

  pub kind-Extreme : (m : Extremum) (s : Core) → kind_in (core.Extreme m s) n k v ≡ kind_in s n k v >> (λ x. provided (has_order x) x)
  unfolding hidden hidden-the_row-Core-0
  kind-Extreme m s = refl

  pub kind-Comprehension : (f s p : Core) → kind_in (core.Comprehension f s p) n k v
      ≡ kind_in s n k v >> (λ x. kind_in f n k (v ++ x ∷ []) >> (λ y. kind_in p n k (v ++ x ∷ []) >> (λ z. provided (serves kind.Truth z) y)))
  unfolding hidden hidden-the_row-Core-0
  kind-Comprehension f s p = refl

  pub kind-Sum : (f s p : Core) → kind_in (core.Sum f s p) n k v
      ≡ kind_in s n k v >>
      (λ x. kind_in f n k (v ++ x ∷ []) >> (λ y. kind_in p n k (v ++ x ∷ []) >> (λ z. provided (serves kind.Number y && serves kind.Truth z) kind.Number)))
  unfolding hidden hidden-the_row-Core-0
  kind-Sum f s p = refl

  pub kind-Quantify : (q : Quantifier) (s p : Core) → kind_in (core.Quantify q s p) n k v
      ≡ kind_in s n k v >> (λ x. kind_in p n k (v ++ x ∷ []) >> (λ z. provided (serves kind.Truth z) kind.Truth))
  unfolding hidden hidden-the_row-Core-0
  kind-Quantify q s p = refl

  -- those of some formulas, in order
  pub kinds_of_all : List Core → Option (List Kind)
  kinds_of_all [] = Some []
  kinds_of_all (e ∷ es) = kind_in e n k v >> (λ x. kinds_of_all es >> (λ xs. Some (x ∷ xs)))

  each_kind : {m : _} (row : Row_of-Core m) → kinds_in row n k v ≡ kinds_of_all (items-the_row-Core m row)
  unfolding kinds_of_all
  each_kind end_of-Core = refl
  each_kind (more_of-Core e rest) = ap (λ others. kind_in e n k v >> (λ x. others >> (λ xs. Some (x ∷ xs)))) (each_kind rest)

  pub kind-Set : (es : List Core) → kind_in (core.Set es) n k v ≡ kinds_of_all es >> all_common kind.Unknown
  kind-Set es =
      ap (λ kinds. kinds >> all_common kind.Unknown) (each_kind (hidden-the_row-Core-1 es) ∙ ap kinds_of_all (items_hidden-the_row-Core-1 es))

  pub kinds_of_none : kinds_of_all [] ≡ Some []
  unfolding kinds_of_all
  kinds_of_none = refl

  pub kinds_of_more : (e : Core) (es : List Core) (x : Kind) (xs : List Kind) → kind_in e n k v ≡ Some x → kinds_of_all es ≡ Some xs →
      kinds_of_all (e ∷ es) ≡ Some (x ∷ xs)
  unfolding kinds_of_all
  kinds_of_more e es x xs first others =
      ap (λ o. o >> (λ y. kinds_of_all es >> (λ ys. Some (y ∷ ys)))) first ∙ ap (λ o. o >> (λ ys. Some (x ∷ ys))) others

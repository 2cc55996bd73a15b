-- The formula that goes with a column.
use Rattle.std.proofs.Common.{rules, arith, ◌≡◌, ℕ, ◌+◌, ◌<◌, length, subst, zero, suc, true, List, [], ◌∷◌, slice_get, Option, Some, None, refl}
use Rattle.sheet_values.specs.declared.value.Kind.{Kind}
use Rattle.sheet_columns.specs.declared.tree.Column.{Column}
use Rattle.sheet_columns.specs.declared.tree.Column.TheVariants as column
use Rattle.sheet_columns.specs.declared.tree.Node.{Node}
use Rattle.sheet_columns.specs.Tree.{column_of}
use Rattle.sheet_columns.specs.declared.formula.Core.{Core}
use Rattle.sheet_types_rules.specs.Formulas.{is_formula}
use Rattle.sheet_books.specs.Books.{IsFormulaOf, HasFormula, HaveFormulas}

-- the column of that number among these columns has this, and goes with it
pub record Has (n : List Node) (c : ℕ) (fs : List (Option Core)) (j : ℕ) (w : Column) : Type 0 where
  pub formula : Option Core
  pub at : slice_get fs j ≡ Some formula
  pub within : j < length fs
  pub has : HasFormula n c w formula

pub had : (n : List Node) (c : ℕ) (ms : List Node) (fs : List (Option Core)) (j : ℕ) (w : Column) → HaveFormulas n c ms fs → column_of ms j ≡ Some w →
    Has n (c + j) fs j w
had n c [] [] j w all got = cc
had n c [] (f ∷ fs) j w all got = cc
had n c (m ∷ ms) [] j w all got = search rules
had n c (m ∷ ms) (f ∷ fs) zero w all got =
    let same : m.column ≡ w = cc in
    let no_more : c ≡ c + 0 = omega (arith) in
    let here : HasFormula n c w f = subst (λ x. HasFormula n c x f) same all.0 in
    record { formula = f; at = refl; within = search rules; has = subst (λ d. HasFormula n d w f) no_more here }
had n c (m ∷ ms) (f ∷ fs) (suc j) w all got =
    let rest = had n (c + 1) ms fs j w all.1 got in
    let further : c + 1 + j ≡ c + suc j = omega (arith) in
    record { formula = rest.formula; at = rest.at; within = search rules; has = subst (λ d. HasFormula n d w rest.formula) further rest.has }

-- the formula of a formula column
pub record Found (n : List Node) (fs : List (Option Core)) (c : ℕ) : Type 0 where
  pub values : Kind
  pub is : column_of n c ≡ Some (column.Formula values)
  pub formula : Core
  pub at : slice_get fs c ≡ Some (Some formula)
  pub within : c < length fs
  pub typed : IsFormulaOf n c values formula

found_by : (n : List Node) (fs : List (Option Core)) (c : ℕ) (k : Kind) (f : Option Core) → column_of n c ≡ Some (column.Formula k) → slice_get fs c ≡ Some f →
    c < length fs → HasFormula n c (column.Formula k) f → Found n fs c
found_by n fs c k None is at within has = search rules
found_by n fs c k (Some e) is at within has = record { values = k; is = is; formula = e; at = at; within = within; typed = has }

found_at : (n : List Node) (fs : List (Option Core)) (c : ℕ) (w : Option Column) → column_of n c ≡ w → HaveFormulas n 0 n fs → is_formula w ≡ true →
    Found n fs c
found_at n fs c None is all formula = cc
found_at n fs c (Some column.Object) is all formula = cc
found_at n fs c (Some (column.State k one first)) is all formula = cc
found_at n fs c (Some (column.Formula k)) is all formula =
    let there = had n 0 n fs c (column.Formula k) all is in
    let has : HasFormula n c (column.Formula k) there.formula = subst (λ d. HasFormula n d (column.Formula k) there.formula) zero_more there.has in
    found_by n fs c k there.formula is there.at there.within has
  where
    zero_more : 0 + c ≡ c
    zero_more = omega (arith)

pub found : (n : List Node) (fs : List (Option Core)) (c : ℕ) → HaveFormulas n 0 n fs → is_formula (column_of n c) ≡ true → Found n fs c
found n fs c all formula = found_at n fs c (column_of n c) refl all formula

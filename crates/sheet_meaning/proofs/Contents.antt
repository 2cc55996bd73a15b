-- An item that isn't changed has the same content.
use Rattle.std.proofs.Common.{◌≡◌, refl, sym, ap, ◌∙◌, ℕ, Bool, true, false, List, [], ◌∷◌, Option, Some, None, eq-eqb}
use Rattle.std.specs.Prelude.{not, ◌&&◌}
use Rattle.std.specs.Ordering.{is_eq}
use Rattle.std.specs.declared.cmp.Ordering.{Ordering}
use Rattle.std.specs.declared.cmp.Ordering.TheVariants.{Less, Equal, Greater}
use Rattle.std.specs.Cmp.{tied_itself}
use Rattle.std.proofs.lemmas.Bool.{eqb-true}
use Rattle.sheet_values.specs.Order.{value_cmp}
use Rattle.sheet_values.specs.OrderLaws.{value_total, value_same}
use Rattle.sheet_values.specs.declared.value.Value.{Value}
use Rattle.sheet_columns.specs.declared.item.Item.{Item}
use Rattle.sheet_meaning.specs.Formula.{sets_equal}
use Rattle.sheet_meaning.specs.Items.{Content, Column, Parent, Members, content, numbers_equal, contents_equal, is_changed}
use Rattle.sheet_meaning.specs.declared.workbook.State.{State}
use Rattle.sheet_meaning.proofs.Members.{both_true}

pub tie : (r : Ordering) → is_eq r ≡ true → r ≡ Equal
tie Less e = cc
tie Equal e = refl
tie Greater e = cc

pub numbers_same : (a : Option ℕ) → numbers_equal a a ≡ true
numbers_same None = refl
numbers_same (Some n) = eq-eqb n n refl

numbers_are : (a b : Option ℕ) → numbers_equal a b ≡ true → a ≡ b
numbers_are None None e = refl
numbers_are None (Some n) e = cc
numbers_are (Some m) None e = cc
numbers_are (Some m) (Some n) e = ap Some (eqb-true m n e)

pub sets_same : (xs : List Value) → sets_equal xs xs ≡ true
sets_same [] = refl
sets_same (x ∷ xs) = ap (λ r. is_eq r && sets_equal xs xs) (tied_itself value_total x) ∙ sets_same xs

pub sets_are : (xs ys : List Value) → sets_equal xs ys ≡ true → xs ≡ ys
sets_are [] [] e = refl
sets_are [] (y ∷ ys) e = cc
sets_are (x ∷ xs) [] e = cc
sets_are (x ∷ xs) (y ∷ ys) e =
    let h = both_true (is_eq (value_cmp x y)) (sets_equal xs ys) e in
    ap (λ z. z ∷ xs) (value_same x y (tie (value_cmp x y) h.0)) ∙ ap (λ l. y ∷ l) (sets_are xs ys h.1)

contents_are : (a b : Content) → contents_equal a b ≡ true → a ≡ b
contents_are (Column a) (Column b) e = ap Column (numbers_are a b e)
contents_are (Column a) (Parent b) e = cc
contents_are (Column a) (Members b) e = cc
contents_are (Parent a) (Column b) e = cc
contents_are (Parent a) (Parent b) e = ap Parent (numbers_are a b e)
contents_are (Parent a) (Members b) e = cc
contents_are (Members a) (Column b) e = cc
contents_are (Members a) (Parent b) e = cc
contents_are (Members a) (Members b) e = ap Members (sets_are a b e)

turned : (b : Bool) → not b ≡ false → b ≡ true
turned true e = refl
turned false e = cc

pub not_changed : (s t : State) (i : Item) → content s i ≡ content t i → is_changed s t i ≡ false
not_changed s t i e = ap (λ x. not (contents_equal (content s i) x)) (sym e) ∙ ap not (itself (content s i))
  where
    itself : (x : Content) → contents_equal x x ≡ true
    itself (Column a) = numbers_same a
    itself (Parent a) = numbers_same a
    itself (Members xs) = sets_same xs

pub unchanged : (s t : State) (i : Item) → is_changed s t i ≡ false → content s i ≡ content t i
unchanged s t i e = contents_are (content s i) (content t i) (turned (contents_equal (content s i) (content t i)) e)

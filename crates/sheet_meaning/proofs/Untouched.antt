-- A cell that no change touched holds as many values as before.
use Rattle.std.proofs.Common.{◌≡◌, refl, sym, ap, ◌∙◌, subst, inl, inr, ⊎_elim, ℕ, Bool, true, false, cond, List, [], ◌∷◌, length, Option, Some, None, eq-eqb}
use Rattle.std.specs.Prelude.{◌==◌, not, map, filter, find, if◌then◌else◌}
use Rattle.std.proofs.lemmas.Bool.{eqb-true}
use Rattle.std.specs.declared.cmp.Ordering.TheVariants.{Less}
use Rattle.sheet_values.specs.Sorted.{IsBelow, IsRising}
use Rattle.sheet_values.specs.declared.value.Value.{Value}
use Rattle.sheet_columns.specs.declared.item.Item.TheVariants.{Live, Stored}
use Rattle.sheet_meaning.specs.Courses.{UntouchedCellsStayFilled}
use Rattle.sheet_meaning.specs.Items.{Content, Column, Parent, Members}
use Rattle.sheet_meaning.specs.Statements.{workbook}
use Rattle.sheet_meaning.specs.WellFormed.{StateColumn, state_columns, one_cells}
use Rattle.sheet_meaning.specs.Workbook.{object_at, column_in, set_in}
use Rattle.sheet_meaning.specs.declared.workbook.LiveObject.{LiveObject}
use Rattle.sheet_meaning.specs.declared.workbook.Schema.{Schema}
use Rattle.sheet_meaning.specs.declared.workbook.State.{State}
use Rattle.sheet_meaning.proofs.Members.{IsIn, in_flat_map, from_flat_map}
use Rattle.sheet_meaning.proofs.Cells.{has_in}
use Rattle.sheet_meaning.proofs.FormulaCells.{object_cmp, less_differs}

-- an object of a rising list is found by its number
pub found_rising : (xs : List LiveObject) → IsRising object_cmp xs → (y : LiveObject) → IsIn y xs → object_at xs y.number ≡ Some y
found_rising [] r y i = absurd i
found_rising (x ∷ xs) r y i =
    ⊎_elim
    (λ e. ap (λ b. if b then Some x else object_at xs y.number) (eq-eqb x.number y.number (ap (λ (z : LiveObject). z.number) (sym e))) ∙ ap Some (sym e))
    (λ j. ap (λ b. if b then Some x else object_at xs y.number) (behind xs r.0 j) ∙ found_rising xs r.1 y j)
    i
  where
    behind : (zs : List LiveObject) → IsBelow object_cmp x zs → IsIn y zs → (x.number == y.number) ≡ false
    behind [] b j = absurd j
    behind (z ∷ zs) b j = ⊎_elim (λ e. less_differs x.number y.number (subst (λ (v : LiveObject). object_cmp x v ≡ Less) (sym e) b.0)) (λ k. behind zs b.1 k) j

-- what is found is there, and has the number
record IsThereAt (xs : List LiveObject) (o c : ℕ) : Type 0 where
  object : LiveObject
  among : IsIn object xs
  number : object.number ≡ o
  column : object.column ≡ c

there_at : (xs : List LiveObject) (o c : ℕ) → column_in (object_at xs o) ≡ Some c → IsThereAt xs o c
there_at [] o c e = cc
there_at (x ∷ xs) o c e =
    elim (x.number == o) as (λ b. (x.number == o) ≡ b → column_in (if b then Some x else object_at xs o) ≡ Some c → IsThereAt (x ∷ xs) o c) [
      | true ↦ λ t h. record { object = x; among = inl refl; number = eqb-true x.number o t; column = cc }
      | false ↦ λ t h. let r = there_at xs o c h in record { object = r.object; among = inr r.among; number = r.number; column = r.column }
    ] refl e

from_map : {A B : Type 0} (f : A → B) (xs : List A) (y : B) → IsIn y (map f xs) → (x : A) × IsIn x xs × (y ≡ f x)
from_map f [] y h = absurd h
from_map f (x ∷ xs) y h = ⊎_elim (λ e. (x, inl refl, e)) (λ k. let r = from_map f xs y k in (r.0, inr r.1, r.2)) h

in_map : {A B : Type 0} (f : A → B) (xs : List A) (x : A) → IsIn x xs → IsIn (f x) (map f xs)
in_map f [] x h = absurd h
in_map f (y ∷ ys) x h = ⊎_elim (λ e. inl (ap f e)) (λ k. inr (in_map f ys x k)) h

found_none : {A : Type 0} (p : A → Bool) (xs : List A) (x : A) → find p xs ≡ None → IsIn x xs → p x ≡ false
found_none p [] x e i = absurd i
found_none {A} p (y ∷ ys) x e i =
    elim (p y) as (λ b. p y ≡ b → (if b then Some y else find p ys) ≡ None → p x ≡ false) [
      | true ↦ λ t h. cc
      | false ↦ λ t h. ⊎_elim (λ same. ap p same ∙ t) (λ k. found_none p ys x h k) i
    ] refl e

column_part : Content → Option ℕ
column_part (Column c) = c
column_part (Parent p) = None
column_part (Members s) = None

members_part : Content → List Value
members_part (Column c) = []
members_part (Parent p) = []
members_part (Members s) = s

one_long : (n : ℕ) → not (n == 1) ≡ false → n ≡ 1
one_long n e = elim (n == 1) as (λ b. (n == 1) ≡ b → not b ≡ false → n ≡ 1) [ true ↦ λ t h. eqb-true n 1 t | false ↦ λ t h. cc ] refl e

-- the cells of an object of this column that must hold exactly one value
abbrev ones : Schema → LiveObject → List (ℕ × ℕ)
ones s x = map (λ (k : StateColumn). (x.number, k.number)) (filter (λ (k : StateColumn). k.one) (state_columns s x.column))

module _ (s : Schema) (t : State) where
  one_again : (y : LiveObject) (x : ℕ × ℕ) → IsIn x (ones s y) → IsThereAt t.objects y.number y.column → IsIn x (one_cells (workbook s t))
  one_again y x i there =
      let k = from_map (λ (c : StateColumn). (y.number, c.number)) (filter (λ (c : StateColumn). c.one) (state_columns s y.column)) x i in
      let here : IsIn (y.number, k.0.number)
      (map (λ (c : StateColumn). (y.number, c.number)) (filter (λ (c : StateColumn). c.one) (state_columns s there.object.column))) =
      in_map (λ (c : StateColumn). (y.number, c.number)) (filter (λ (c : StateColumn). c.one) (state_columns s there.object.column)) k.0
      (subst (λ c. IsIn k.0 (filter (λ (c : StateColumn). c.one) (state_columns s c))) (sym there.column) k.1) in
      let own : IsIn (y.number, k.0.number) (ones s there.object) =
      subst (λ n. IsIn (y.number, k.0.number)
      (map (λ (c : StateColumn). (n, c.number)) (filter (λ (c : StateColumn). c.one) (state_columns s there.object.column)))) (sym there.number) here in
      in_flat_map (ones s) t.objects there.object x there.among (subst (λ z. IsIn z (ones s there.object)) (sym k.2) own)

pub untouched_cells_stay_filled : UntouchedCellsStayFilled
unfolding column_part members_part
untouched_cells_stay_filled s p c is first second filled o k one live stored =
    let x : ℕ × ℕ = (o, k) in
    let t = c.last.state in
    let f = from_flat_map (ones s) t.objects x (has_in (one_cells (workbook s t)) x one) in
    let y = f.0 in
    let m = from_map (λ (q : StateColumn). (y.number, q.number)) (filter (λ (q : StateColumn). q.one) (state_columns s y.column)) x f.2 in
    let number : o ≡ y.number = ap (λ (z : ℕ × ℕ). z.0) m.2 in
    let found : column_in (object_at t.objects y.number) ≡ Some y.column = ap column_in (found_rising t.objects second.rising y f.1) in
    let was : column_in (object_at p.state.objects o) ≡ Some y.column = sym (ap column_part (is.stays (Live o) live))
    ∙ ap (λ n. column_in (object_at t.objects n)) number ∙ found in
    let there = there_at p.state.objects y.number y.column (subst (λ n. column_in (object_at p.state.objects n) ≡ Some y.column) number was) in
    let before = one_long (length (set_in p.state.cells o k))
    (found_none (λ (z : ℕ × ℕ). not (length (set_in p.state.cells z.0 z.1) == 1)) (one_cells (workbook s p.state)) x filled
    (one_again s p.state y x f.2 there)) in
    ap length (ap members_part (is.stays (Stored o k) stored)) ∙ before

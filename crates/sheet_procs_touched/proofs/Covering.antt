-- What is touched covers what a change leaves unfilled.
use Rattle.std.proofs.Common.{◌≡◌, refl, sym, ap, ◌∙◌, subst, ℕ, ◌<◌, Bool, true, false, List, [], ◌∷◌, ◌++◌, length, arith, Some, None, ⊎_elim, eq-eqb}
use Rattle.std.specs.Prelude.{◌==◌, ◌&&◌, not, map, find, fold, is_some, if◌then◌else◌}
use Rattle.std.specs.List.{filter_map}
use Rattle.std.specs.Cmp.Derive.{both_true as both_are}
use Rattle.std.proofs.lemmas.Bool.{eqb-true}
use Rattle.sheet_values.specs.Sorted.{contains}
use Rattle.sheet_values.specs.declared.value.Value.{Value}
use Rattle.sheet_columns.specs.Cells.{Cell, is_cell, has_cell}
use Rattle.sheet_columns.specs.declared.item.Item.TheVariants.{Stored}
use Rattle.sheet_meaning.specs.Changes.{with_set, with_object, without, has_number, family, first_set, without_object}
use Rattle.sheet_meaning.specs.Formula.{object_in, sets_equal}
use Rattle.sheet_meaning.specs.Statements.{workbook}
use Rattle.sheet_meaning.specs.WellFormed.{StateColumn, state_columns, one_cells}
use Rattle.sheet_meaning.specs.Workbook.{object_at, set_in}
use Rattle.sheet_meaning.specs.declared.workbook.LiveObject.{LiveObject}
use Rattle.sheet_meaning.specs.declared.workbook.Schema.{Schema}
use Rattle.sheet_meaning.specs.declared.workbook.State.{State}
use Rattle.sheet_meaning.specs.declared.workbook.Workbook.{Workbook}
use Rattle.sheet_meaning.proofs.Cells.{has_in, in_has}
use Rattle.sheet_meaning.proofs.Columns.{all_in}
use Rattle.sheet_meaning.proofs.Members.{IsIn, in_flat_map, from_flat_map, in_either, both_true}
use Rattle.sheet_state.specs.Removals.{without_live, without_all}
use Rattle.sheet_state.proofs.Newborn.{newborn, set_front}
use Rattle.sheet_state.proofs.WithSet.{other_set, sets_are}
use Rattle.sheet_procs_touched.specs.Touched.{cell_cmp, is_open, is_new, is_named}
use Rattle.sheet_procs_touched.specs.Touched.{FilledIsCovered, SettingIsCovered, MakingIsCovered, DeletingIsCovered}
use Rattle.sheet_procs_touched.proofs.OneCells.{ones_of, one_is}
use Rattle.sheet_procs_touched.proofs.Rising.{filter_in}

found_none : {A : Type 0} (p : A → Bool) (xs : List A) (x : A) → find p xs ≡ None → IsIn x xs → p x ≡ false
found_none p [] x e i = absurd i
found_none {A} p (y ∷ ys) x e i =
    elim (p y) as (λ b. p y ≡ b → (if b then Some y else find p ys) ≡ None → p x ≡ false) [
      | true ↦ λ t h. cc
      | false ↦ λ t h. ⊎_elim (λ same. ap p same ∙ t) (λ k. found_none p ys x h k) i
    ] refl e

-- what is told of a cell that must hold exactly one value and doesn't
pub open_is : (w : Workbook) (x : Cell) → is_open w x ≡ true → (has_cell (one_cells w) x ≡ true) × (not (length (set_in w.state.cells x.0 x.1) == 1) ≡ true)
open_is w x h = both_true (has_cell (one_cells w) x) (not (length (set_in w.state.cells x.0 x.1) == 1)) h

pub filled_is_covered : FilledIsCovered
filled_is_covered w filled x h =
    let o = open_is w x h in
    let closed = found_none (λ (z : ℕ × ℕ). not (length (set_in w.state.cells z.0 z.1) == 1)) (one_cells w) x filled (has_in (one_cells w) x o.0) in
    let no : true ≡ false = sym o.1 ∙ closed in
    cc

-- a cell that was one and has its set still was open before
still_open : (s : Schema) (t u : State) (x : Cell) → has_cell (one_cells (workbook s t)) x ≡ true → set_in u.cells x.0 x.1 ≡ set_in t.cells x.0 x.1 →
    is_open (workbook s u) x ≡ true → is_open (workbook s t) x ≡ true
still_open s t u x one same h =
    let o = open_is (workbook s u) x h in
    both_are one (ap (λ l. not (length l == 1)) (sym same) ∙ o.1)

pub setting_is_covered : SettingIsCovered
setting_is_covered s t o c set old new covers adds x h =
    elim (is_cell (o, c) x) as (λ b. is_cell (o, c) x ≡ b → contains cell_cmp x new ≡ true) [
      | true ↦ λ e. adds.found x e
      | false ↦ λ e.
          let u = with_set t o c set in
          let one = (open_is (workbook s u) x h).0 in
          adds.kept x (covers x (still_open s t u x one (other_set o c set x.0 x.1 (λ same. apart same e) t.cells) h))
    ] refl
  where
    apart : (x.0 ≡ o) × (x.1 ≡ c) → is_cell (o, c) x ≡ false → ⊥
    apart same e =
        let yes : is_cell (o, c) x ≡ true = both_are (eq-eqb o x.0 (sym same.0)) (eq-eqb c x.1 (sym same.1)) in
        let no : true ≡ false = sym yes ∙ e in
        cc

set_of_other : (n o k : ℕ) → (n ≡ o → ⊥) → (scs : List StateColumn) → set_in (map (newborn n) scs) o k ≡ []
set_of_other n o k ne [] = refl
set_of_other n o k ne (c ∷ cs) =
    ap (λ b. if b && c.number == k then first_set c.first else set_in (map (newborn n) cs) o k) (apart n o ne) ∙ set_of_other n o k ne cs
  where
    apart : (a b : ℕ) → (a ≡ b → ⊥) → (a == b) ≡ false
    apart a b h = elim (a == b) as (λ t. (a == b) ≡ t → t ≡ false) [ true ↦ λ e. absurd (h (eqb-true a b e)) | false ↦ λ e. refl ] refl

pub making_is_covered : MakingIsCovered
making_is_covered s t c parent old new formed covers adds x h =
    let u = with_object s t c parent in
    let born : LiveObject = record { number = t.next; column = c; parent = Some parent } in
    let one = (open_is (workbook s u) x h).0 in
    let f = from_flat_map (ones_of s) (t.objects ++ born ∷ []) x (has_in (one_cells (workbook s u)) x one) in
    ⊎_elim
    (λ i.
    let here = one_is s f.0.number f.0.column x f.2 in
    let drawn = all_in (λ (y : LiveObject). y.number < t.next) t.objects f.0 formed.drawn i in
    let number = here.object in
    let was = in_has (one_cells (workbook s t)) x (in_flat_map (ones_of s) t.objects f.0 x i f.2) in
    let same = set_front t.cells (map (newborn t.next) (state_columns s c)) x.0 x.1
    (set_of_other t.next x.0 x.1 (λ e. omega (arith, e, number, drawn)) (state_columns s c)) in
    adds.kept x (covers x (still_open s t u x was same h)))
    (λ j. adds.found x (fresh born f.0 f.2 j))
    (in_either f.0 t.objects (born ∷ []) f.1)
  where
    fresh : (born y : LiveObject) → IsIn x (ones_of s y) → IsIn y (born ∷ []) → is_new s.columns born.number born.column x ≡ true
    fresh born y i j =
        let same : y ≡ born = ⊎_elim (λ e. e) (λ k. absurd k) j in
        let here = one_is s born.number born.column x (subst (λ z. IsIn x (ones_of s z)) same i) in
        both_are (eq-eqb x.0 born.number here.object) (both_are here.one here.under)

-- objects that are left were there before
module _ (y : LiveObject) where
  left_in : (s : State) (ns : List ℕ) → IsIn y (without s ns).objects → IsIn y s.objects
  left_in s ns h = (filter_in (λ (x : LiveObject). not (has_number ns x.number)) s.objects y h).0

  live_left : (s : State) (o : ℕ) → IsIn y (without_live s o).objects → IsIn y s.objects
  live_left s o h =
      elim (is_some (object_at s.objects o)) as (λ b. IsIn y (if b then without_object s o else s).objects → IsIn y s.objects) [
        | true ↦ λ k. left_in s (family s.objects o) k
        | false ↦ λ k. k
      ] h

  all_left : (os : List ℕ) (s : State) → IsIn y (fold without_live s os).objects → IsIn y s.objects
  all_left [] s h = h
  all_left (o ∷ os) s h = live_left s o (all_left os (without_live s o) h)

not_changed : (a b : List Value) → not (sets_equal a b) ≡ false → a ≡ b
not_changed a b h =
    elim (sets_equal a b) as (λ t. sets_equal a b ≡ t → not t ≡ false → a ≡ b) [ true ↦ λ e k. sets_are a b e | false ↦ λ e k. cc ] refl h

pub deleting_is_covered : DeletingIsCovered
deleting_is_covered s t set items old new formed changed covers adds x h =
    elim (is_named items x) as (λ b. is_named items x ≡ b → contains cell_cmp x new ≡ true) [
      | true ↦ λ e. adds.found x e
      | false ↦ λ e.
          let u = without_all t set in
          let one = (open_is (workbook s u) x h).0 in
          let f = from_flat_map (ones_of s) u.objects x (has_in (one_cells (workbook s u)) x one) in
          let was = in_has (one_cells (workbook s t)) x (in_flat_map (ones_of s) t.objects f.0 x (all_left f.0 (filter_map object_in set) t f.1) f.2) in
          let same = not_changed (set_in t.cells x.0 x.1) (set_in u.cells x.0 x.1) (sym (changed (Stored x.0 x.1)) ∙ e) in
          adds.kept x (covers x (still_open s t u x was (sym same) h))
    ] refl

-- Each change of a well-typed statement keeps a workbook well formed.
use Rattle.std.proofs.Common.{◌≡◌, refl, ap, sym, ◌∙◌, subst, ℕ, ◌+◌, ◌≤◌, ◌<◌, zero, suc}
use Rattle.std.proofs.Common.{Bool, true, false, List, [], ◌∷◌, ◌++◌, length, arith, Option, Some, None, eq-eqb}
use Rattle.std.specs.Prelude.{◌==◌, nat_lt, is_some, IsSome, if◌then◌else◌, option_and_then}
use Rattle.std.proofs.lemmas.Bool.{ltb-true}
use Rattle.sheet_values.specs.Sets.{contains}
use Rattle.sheet_values.specs.Sorted.{agrees}
use Rattle.sheet_values.specs.declared.value.Kind.{Kind}
use Rattle.sheet_values.specs.declared.value.Kind.TheVariants as kind
use Rattle.sheet_values.specs.declared.value.Value.{Value}
use Rattle.sheet_values.specs.declared.value.Value.TheVariants.{Object}
use Rattle.sheet_columns.specs.Tree.{column_of, above_of, IsTree}
use Rattle.sheet_columns.specs.declared.statement.Change.{Change as TheChange}
use Rattle.sheet_columns.specs.declared.statement.Change.TheVariants.{Set, Add, Remove}
use Rattle.sheet_columns.specs.declared.tree.Column.TheVariants as column
use Rattle.sheet_columns.specs.declared.tree.Node.{Node}
use Rattle.sheet_meaning.specs.Changes.{changed_set, with_set, with_object, family, has_number, without_object}
use Rattle.sheet_meaning.specs.Statements.{workbook}
use Rattle.sheet_meaning.specs.WellFormed.{HasKind, HoldsKind, IsWellFormed, stored_values, cell_count, max_objects, max_cells, max_values, max_number}
use Rattle.sheet_meaning.specs.Workbook.{object_at, column_in, set_in}
use Rattle.sheet_meaning.specs.declared.refusal.Which.{Which}
use Rattle.sheet_meaning.specs.declared.workbook.LiveObject.{LiveObject}
use Rattle.sheet_meaning.specs.declared.workbook.Schema.{Schema}
use Rattle.sheet_meaning.specs.declared.workbook.State.{State}
use Rattle.sheet_state.specs.Stored.{book}
use Rattle.sheet_state.specs.Limits.{full_of, first_full}
use Rattle.sheet_state.specs.Schemas.{Carries}
use Rattle.sheet_state.proofs.Schemas.{formulas_dont_matter}
use Rattle.sheet_state.proofs.WithObject.{found_kept, not_found, unborn, object_well_formed}
use Rattle.sheet_state.proofs.WithSet.{set_well_formed}
use Rattle.sheet_state.proofs.Without.{differs, family_down, found_left, left_well_formed, root_stays}
use Rattle.sheet_engine_types.specs.Types.{IsSetOf}
use Rattle.sheet_engine_types.proofs.Contents.{stored_typed}
use Rattle.sheet_engine_types.proofs.OneKind.{of_union, of_filter}
use Rattle.sheet_procs_laws.proofs.Following.{Follows}

-- what is shown of a state after a change
pub record LeadsTo (schema : Schema) (s t : State) : Type 0 where
  pub formed : IsWellFormed (workbook schema t)
  pub follows : Follows s t

module _ (schema : Schema) (s : State) (formed : IsWellFormed (workbook schema s)) where
  abbrev pub nodes : List Node
  nodes = schema.columns

  pub carries : (t : State) → Carries nodes schema t
  carries t = formulas_dont_matter nodes schema t (record { columns = refl; formulas = formed.formulas })

  pub plain : IsWellFormed (book nodes s)
  plain = (carries s).well_formed.1 formed

  pub changed_typed : (how : TheChange) (k : Kind) (old set : List Value) → IsSetOf s k old → IsSetOf s k set → IsSetOf s k (changed_set how old set)
  changed_typed Set k old set h g = g
  changed_typed Add k old set h g = of_union s k old set h g
  changed_typed Remove k old set h g = of_filter s k (λ x. agrees false (contains x set)) old h

  -- `set`, `add` and `remove`
  pub stored : (how : TheChange) (o c : ℕ) (k : Kind) (one : Bool) (first : Option Value) (set : List Value) →
      column_of nodes c ≡ Some (column.State k one first) → IsSetOf s k set →
      stored_values (with_set s o c (changed_set how (set_in s.cells o c) set)).cells ≤ max_values →
      LeadsTo schema s (with_set s o c (changed_set how (set_in s.cells o c) set))
  stored how o c k one first set is typed few =
      let new = changed_set how (set_in s.cells o c) set in
      let old = stored_typed (workbook schema s) formed o c k one first is in
      let here : HoldsKind s (record { object = o; column = c; set = new }) (Some (column.State k one first)) =
      changed_typed how k (set_in s.cells o c) set old typed in
      let held = subst (HoldsKind s (record { object = o; column = c; set = new })) (sym is) here in
      record {
        formed = (carries (with_set s o c new)).well_formed.0 (set_well_formed nodes s o c new plain held few);
        follows = record { drawn = omega arith; column = λ p d lt e. e };
      }

  not_over : (m a : ℕ) (x : Which × ℕ) (rest : Option (Which × ℕ)) → a ≤ m → rest ≡ None → (if nat_lt m a then Some x else rest) ≡ None
  not_over m a x rest few none =
      elim (nat_lt m a) as (λ b. nat_lt m a ≡ b → (if b then Some x else rest) ≡ None) [
        | true ↦ λ e. absurd (over m a few e)
        | false ↦ λ e. none
      ] refl
    where
      over : (m a : ℕ) → a ≤ m → nat_lt m a ≡ true → ⊥
      over m a few e = let lt = ltb-true m a e in omega (arith, few, lt)

  no_limit : (a b v n : ℕ) → a ≤ max_objects → b ≤ max_cells → v ≤ max_values → n ≤ max_number + 1 → full_of a b v n ≡ None
  no_limit a b v n h i j l =
      not_over max_objects a _ _ h (not_over max_cells b _ _ i (not_over max_values v _ _ j (not_over (max_number + 1) n _ _ l refl)))

  found_before : (c parent o d : ℕ) → o < s.next → column_in (object_at (with_object schema s c parent).objects o) ≡ Some d →
      column_in (object_at s.objects o) ≡ Some d
  found_before c parent o d lt e = at (object_at s.objects o) refl
    where
      new : LiveObject
      new = record { number = s.next; column = c; parent = Some parent }

      at : (x : Option LiveObject) → object_at s.objects o ≡ x → column_in x ≡ Some d
      at (Some x) is = sym (ap column_in (found_kept s.objects (new ∷ []) o x is)) ∙ e
      at None is =
          let other : (s.next == o) ≡ false = differs s.next o (λ same. omega (arith, same, lt)) in
          let gone : column_in (object_at (s.objects ++ new ∷ []) o) ≡ None =
          ap column_in (not_found s.objects (new ∷ []) o is) ∙ ap (λ b. column_in (if b then Some new else None)) other in
          let clash : None ≡ Some d = sym gone ∙ e in
          cc

  -- `new`
  pub born : IsTree nodes → (c parent : ℕ) → IsSome (object_at s.objects parent) → column_in (object_at s.objects parent) ≡ above_of nodes c →
      column_of nodes c ≡ Some column.Object → length (with_object schema s c parent).objects ≤ max_objects →
      cell_count (workbook schema (with_object schema s c parent)) ≤ max_cells →
      stored_values (with_object schema s c parent).cells ≤ max_values → s.next ≤ max_number → LeadsTo schema s (with_object schema s c parent)
  born tree c parent live under is few_objects few_cells few_values few_numbers =
      let t = with_object schema s c parent in
      let room : first_full (workbook schema t) ≡ None =
      no_limit (length t.objects) (cell_count (workbook schema t)) (stored_values t.cells) t.next few_objects few_cells few_values
      (omega (arith, few_numbers)) in
      record {
        formed = (carries t).well_formed.0 (object_well_formed nodes tree s plain c parent live under is ((carries t).full ∙ room));
        follows = record { drawn = omega arith; column = λ o d lt e. found_before c parent o d lt e };
      }

  -- the new object is live, in its column
  pub newborn : (c parent : ℕ) → HasKind (with_object schema s c parent) (kind.Object c) (Object s.next)
  newborn c parent =
      let new : LiveObject = record { number = s.next; column = c; parent = Some parent } in
      ap column_in (not_found s.objects (new ∷ []) s.next (unborn s.next s.objects formed.drawn))
      ∙ ap (λ b. column_in (if b then Some new else None)) (eq-eqb s.next s.next refl)

  -- `delete`, of one object
  pub removed : (o : ℕ) → 0 < o → LeadsTo schema s (without_object s o)
  removed o positive = record {
    formed = (carries (without_object s o)).well_formed.0
        (left_well_formed nodes s plain (family s.objects o) (family_down nodes s plain o positive) (root_stays nodes s plain o positive));
    follows = record {
      drawn = omega arith;
      column = λ m d lt e. still m d (sym (ap column_in (found_left (family s.objects o) s.objects m)) ∙ e);
    };
  }
    where
      still : (m d : ℕ) → column_in (if has_number (family s.objects o) m then None else object_at s.objects m) ≡ Some d →
          column_in (object_at s.objects m) ≡ Some d
      still m d e =
          elim (has_number (family s.objects o) m)
          as (λ b. column_in (if b then None else object_at s.objects m) ≡ Some d → column_in (object_at s.objects m) ≡ Some d) [
            | true ↦ λ h. cc
            | false ↦ λ h. h
          ] e

  -- an object below the root isn't the root
  pub below_root : IsTree nodes → (o c : ℕ) → HasKind s (kind.Object c) (Object o) → is_some (above_of nodes c) ≡ true → 0 < o
  below_root tree zero c h above =
      let same : Some 0 ≡ Some c = sym (ap column_in formed.root) ∙ h in
      let none : above_of nodes 0 ≡ None = ap (option_and_then (λ (n : Node). n.above)) tree.first in
      let here : is_some (above_of nodes 0) ≡ true = at_root c same above in
      let clash : false ≡ true = sym (ap is_some none) ∙ here in
      cc
    where
      at_root : (c : ℕ) → Some 0 ≡ Some c → is_some (above_of nodes c) ≡ true → is_some (above_of nodes 0) ≡ true
      at_root c same h = let zero_is : c ≡ 0 = cc in subst (λ x. is_some (above_of nodes x) ≡ true) zero_is h
  below_root tree (suc o) c h above = omega arith

-- What the types of statements say of the values that they act on.
use Rattle.std.proofs.Common.{◌≡◌, refl, sym, ap, ◌∙◌, subst, ℕ, ◌<◌, Bool, true, false, List, [], ◌∷◌, ◌++◌, arith, Ok, Some}
use Rattle.std.specs.Prelude.{◌&&◌, ◌||◌, IfOk, slice_index_or}
use Rattle.std.specs.List.{filter_map, AllByRecursion}
use Rattle.std.specs.Ordering.{is_eq}
use Rattle.sheet_values.specs.Order.{value_cmp}
use Rattle.sheet_values.specs.Sets.{contains}
use Rattle.sheet_values.specs.declared.value.Kind.{Kind}
use Rattle.sheet_values.specs.declared.value.Kind.TheVariants as kind
use Rattle.sheet_values.specs.declared.value.Value.{Value}
use Rattle.sheet_values.specs.declared.value.Value.TheVariants as value
use Rattle.sheet_books.specs.declared.book.Contents.{Contents}
use Rattle.sheet_books.specs.Schemas.{schema_of}
use Rattle.sheet_columns.specs.Tree.{column_of}
use Rattle.sheet_columns.specs.declared.fault.Place.TheVariants as place
use Rattle.sheet_columns.specs.declared.formula.Core.{Core}
use Rattle.sheet_columns.specs.declared.statement.Change.{Change as TheChange}
use Rattle.sheet_columns.specs.declared.statement.CoreStatement.{Change, New, Delete}
use Rattle.sheet_columns.specs.declared.statement.Target.{Target}
use Rattle.sheet_engine_types.specs.Types.{IsSetOf}
use Rattle.sheet_engine_types.proofs.Contents.{object_there, state_there, stored_typed}
use Rattle.sheet_engine_types.proofs.OneKind.{becomes}
use Rattle.sheet_meaning.specs.Changes.{changed_set}
use Rattle.sheet_meaning.specs.Formula.{object_in}
use Rattle.sheet_meaning.specs.Rounds.{value_of}
use Rattle.sheet_meaning.specs.Run.{Outcome, after, both_outcomes, the_one}
use Rattle.sheet_meaning.specs.Statements.{workbook}
use Rattle.sheet_meaning.specs.WellFormed.{HasKind, HoldsKind}
use Rattle.sheet_meaning.specs.Workbook.{object_at, set_in}
use Rattle.sheet_meaning.proofs.Members.{both_true}
use Rattle.sheet_state.specs.Stored.{Stored}
use Rattle.sheet_state_references.proofs.Inserted.{value_is}
use Rattle.sheet_types_rules.specs.Columns.{is_known, kinds_from}
use Rattle.sheet_types_rules.specs.Formulas.{kind_in, is_object, is_state}
use Rattle.sheet_types_rules.specs.Statements.{suits, is_placed, is_deletable, changes_state, makes_object, behind}
use Rattle.sheet_procs_laws.proofs.Changing.{changed_typed, below_root}
use Rattle.sheet_procs_laws.proofs.Running.{where_was_so, placed, some_column, value_typed, target_typed, deletable}
use Rattle.sheet_procs_laws.proofs.TypedBooks.{suiting}
use Rattle.sheet_procs.specs.Runs.{point}
use Rattle.sheet_procs.specs.Typed.{MayRun, MayStore, MayMake, MayDelete}
use Rattle.sheet_procs.specs.declared.progress.Progress.{Progress}
use Rattle.sheet_procs.proofs.Outcomes.{both_known}

-- what a formula gave
gave : {A : Type 0} (P : A → Type 0) (o : Outcome A) (a : A) → o ≡ Ok a → IfOk o P → P a
gave P o a e h = subst (λ p. IfOk p P) e h

module _ (b : Contents) (k : Stored) (m : Progress) where
  -- the outcome of a target, and of a formula
  abbrev pub target_outcome : ℕ → Core → Outcome ℕ
  target_outcome i e = after (value_of (workbook (schema_of b) k.present.state) e (place.Statement i) m.variables) (λ s. the_one (place.Statement i) (filter_map object_in s))

  abbrev pub set_outcome : ℕ → Core → Outcome (List Value)
  set_outcome i e = value_of (workbook (schema_of b) k.present.state) e (place.Statement i) m.variables

  pub may_store : (i : ℕ) (how : TheChange) (t : Target) (e : Core) (o : ℕ) (set : List Value) → MayRun (behind (Change i how t e)) b k m →
      both_outcomes (target_outcome i t.object) (set_outcome i e) ≡ Ok (o, set) → MayStore b k how o t.column set
  may_store i how t e o set may came =
      let s = schema_of b in
      let n = b.columns in
      let ks = kinds_from 0 n in
      let v = may.kinds in
      let p = point k m [] in
      let so = where_was_so (changes_state t e n ks v) v may.kinds_after may.is in
      let outer = both_true (is_placed n (kind_in t.object n ks v) t.column && is_state (column_of n t.column))
      (suits (slice_index_or ks t.column kind.Unknown) (kind_in e n ks v)) so.0 in
      let inner = both_true (is_placed n (kind_in t.object n ks v) t.column) (is_state (column_of n t.column)) outer.0 in
      let at = placed n (kind_in t.object n ks v) t.column inner.0 in
      let is = state_there n t.column inner.1 in
      let known = subst (λ x. is_known x ≡ true) (sym is.kind) (may.sound.states t.column is.holds is.one is.first is.is) in
      let fits = suiting (slice_index_or ks t.column kind.Unknown) (kind_in e n ks v) known outer.1 in
      let parts = both_known (target_outcome i t.object) (set_outcome i e) (o, set) came in
      let object = gave (λ (x : ℕ). HasKind k.present.state (kind.Object at.above) (value.Object x)) (target_outcome i t.object) o parts.0
      (target_typed s may.sound v p i t at.above may.typed at.is).is in
      let given = gave (IsSetOf k.present.state fits.has) (set_outcome i e) set parts.1 (value_typed s may.sound v p i e fits.has may.typed fits.is).is in
      let wanted = becomes k.present.state fits.has (slice_index_or ks t.column kind.Unknown) set fits.serves.becomes given in
      let new = subst (λ x. IsSetOf k.present.state x set) is.kind wanted in
      let old = stored_typed (workbook s k.present.state) may.typed.formed o t.column is.holds is.one is.first is.is in
      let changed = changed_typed s k.present.state may.typed.formed how is.holds (set_in k.present.state.cells o t.column) set old new in
      record {
        formed = may.typed.formed;
        live = some_column (object_at k.present.state.objects o) at.above object;
        under = object ∙ sym at.under;
        typed =
            subst (HoldsKind k.present.state (record { object = o; column = t.column; set = changed_set how (set_in k.present.state.cells o t.column) set }))
            (sym is.is) changed;
      }

  pub may_make : (i : ℕ) (t : Target) (o : ℕ) → MayRun (behind (New i t)) b k m → target_outcome i t.object ≡ Ok o → MayMake b k o t.column
  may_make i t o may came =
      let n = b.columns in
      let ks = kinds_from 0 n in
      let v = may.kinds in
      let p = point k m [] in
      let so = where_was_so (makes_object t n ks v) (v ++ kind.Object t.column ∷ []) may.kinds_after may.is in
      let tests = both_true (is_placed n (kind_in t.object n ks v) t.column) (is_object (column_of n t.column)) so.0 in
      let at = placed n (kind_in t.object n ks v) t.column tests.0 in
      let object = gave (λ (x : ℕ). HasKind k.present.state (kind.Object at.above) (value.Object x)) (target_outcome i t.object) o came
      (target_typed (schema_of b) may.sound v p i t at.above may.typed at.is).is in
      record {
        formed = may.typed.formed;
        live = some_column (object_at k.present.state.objects o) at.above object;
        under = object ∙ sym at.under;
        object_column = object_there (column_of n t.column) tests.1;
      }

  pub may_delete : (i : ℕ) (e : Core) (set : List Value) → MayRun (behind (Delete i e)) b k m → set_outcome i e ≡ Ok set → MayDelete b k set
  may_delete i e set may came =
      let s = schema_of b in
      let n = b.columns in
      let ks = kinds_from 0 n in
      let v = may.kinds in
      let so = where_was_so (is_deletable n (kind_in e n ks v)) v may.kinds_after may.is in
      let x = deletable s may.sound (kind_in e n ks v) so.0 in
      let given = gave (IsSetOf k.present.state x.0) (set_outcome i e) set came (value_typed s may.sound v (point k m []) i e x.0 may.typed x.1).is in
      record { formed = may.typed.formed; not_root = no_root x.0 x.2 set given.1 }
    where
      positive : (x : Kind) → is_deletable b.columns (Some x) ≡ true → (o : ℕ) → HasKind k.present.state x (value.Object o) → 0 < o
      positive kind.Unknown f o h = absurd h
      positive kind.Truth f o h = absurd h
      positive kind.Number f o h = absurd h
      positive kind.Text f o h = absurd h
      positive (kind.Object c) f o h = below_root (schema_of b) k.present.state may.typed.formed may.sound.tree o c h f

      none : (r : Bool) (v : Value) → is_eq (value_cmp (value.Object 0) v) ≡ r → ((o : ℕ) → v ≡ value.Object o → 0 < o) → r ≡ false
      none false v f h = refl
      none true v f h =
          let same : value.Object 0 ≡ v = value_is (value.Object 0) v f in
          let lt = h 0 (sym same) in
          absurd (omega (arith, lt))

      no_root : (x : Kind) → is_deletable b.columns (Some x) ≡ true → (xs : List Value) → AllByRecursion (HasKind k.present.state x) xs → contains (value.Object 0) xs ≡ false
      no_root x f [] h = refl
      no_root x f (y ∷ ys) h =
          ap (λ r. r || contains (value.Object 0) ys)
          (none (is_eq (value_cmp (value.Object 0) y)) y refl (λ o is. positive x f o (subst (HasKind k.present.state x) is h.0)))
          ∙ no_root x f ys h.1

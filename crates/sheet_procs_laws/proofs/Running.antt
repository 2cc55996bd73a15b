-- Well-typed statements and procedures keep a workbook well formed.
use Rattle.std.proofs.Common.{◌≡◌, refl, ap, sym, ◌∙◌, subst, ℕ, zero, suc, ◌<◌, Bool, true, false, List, [], ◌∷◌, ◌++◌, length, Ok, Err, Option, Some, None, arith}
use Rattle.std.specs.Prelude.{◌&&◌, map, fold, sum_by, is_some, IsSome, IfOk, if◌then◌else◌, slice_index_or, Result}
use Rattle.std.specs.List.{AllByRecursion, filter_map}
use Rattle.std.proofs.lemmas.Bool.{eqb-true}
use Rattle.sheet_values.specs.declared.value.Kind.{Kind}
use Rattle.sheet_values.specs.declared.value.Kind.TheVariants as kind
use Rattle.sheet_values.specs.declared.value.Value.{Value}
use Rattle.sheet_values.specs.declared.value.Value.TheVariants as value
use Rattle.sheet_columns.specs.Statements.{statements_in}
use Rattle.sheet_columns.specs.Tree.{column_of, above_of, is_number}
use Rattle.sheet_columns.specs.declared.fault.Place.TheVariants as place
use Rattle.sheet_columns.specs.declared.formula.Core.{Core}
use Rattle.sheet_columns.specs.declared.statement.Change.{Change as TheChange}
use Rattle.sheet_columns.specs.declared.statement.CoreStatement.{CoreStatement, Let, Change, New, Delete, Check, If', For', Reply, Row_of-CoreStatement}
use Rattle.sheet_columns.specs.declared.statement.CoreStatement.{end_of-CoreStatement as end, more_of-CoreStatement as more}
use Rattle.sheet_columns.specs.declared.statement.Target.{Target}
use Rattle.sheet_columns.specs.declared.tree.Column.TheVariants as column
use Rattle.sheet_columns.specs.declared.tree.Node.{Node}
use Rattle.sheet_types_rules.specs.Columns.{is_known, kinds_from, IsHeldIn}
use Rattle.sheet_types_rules.specs.Formulas.{kind_in, is_object, is_state, ◌>>◌}
use Rattle.sheet_types_rules.specs.Statements.{where_so, suits, is_placed, is_deletable, changes_state, makes_object, behind, behind_all, behind_list}
use Rattle.sheet_meaning.specs.Arguments.{AreArguments}
use Rattle.sheet_meaning.specs.Changes.{changed_set, with_set, with_object, without_object}
use Rattle.sheet_meaning.specs.Courses.{Lead}
use Rattle.sheet_meaning.specs.Drawn.{IsDrawn}
use Rattle.sheet_meaning.specs.Formula.{object_in, objects_of, truth}
use Rattle.sheet_meaning.specs.Procedure.{beginning, course_of_allow, refuse_unfilled, test_filled, course_of_procedure}
use Rattle.sheet_meaning.specs.Run.{both, the_one}
use Rattle.sheet_meaning.specs.Statements.{Point, Changed, Course, keeping, next, value_weight, max_reply, with_state, with_variable, store, make}
use Rattle.sheet_meaning.specs.Statements.{remove, removal, removals, remove_all, answer, still, changed, course_next, course_ended, course_turns}
use Rattle.sheet_meaning.specs.Statements.{course, course_block, course_statements, formula, target_object, workbook}
use Rattle.sheet_meaning.specs.WellFormed.{HasKind, IsWellFormed, IsFilled, unfilled, stored_values, cell_count, max_objects, max_cells, max_values, max_number}
use Rattle.sheet_meaning.specs.Workbook.{object_at, column_in, set_in}
use Rattle.sheet_meaning.specs.declared.refusal.Refusal.{Refusal}
use Rattle.sheet_meaning.specs.declared.refusal.Refusal.TheVariants.{CheckFailed, Denied}
use Rattle.sheet_meaning.specs.declared.refusal.Which.TheVariants as which
use Rattle.sheet_meaning.specs.declared.workbook.LiveObject.{LiveObject}
use Rattle.sheet_meaning.specs.declared.workbook.Schema.{Schema}
use Rattle.sheet_meaning.specs.declared.workbook.State.{State}
use Rattle.sheet_meaning.specs.declared.workbook.Workbook.{Workbook}
use Rattle.sheet_meaning.proofs.Leading.{statements_are_courses, procedures_are_courses}
use Rattle.sheet_meaning.proofs.Members.{both_true}
use Rattle.sheet_books.specs.Books.{kinds_at_start}
use Rattle.sheet_books.specs.Schemas.{schema_of}
use Rattle.sheet_engine_types.specs.Types.{IsSetOf, IsVariableOf, HaveKinds}
use Rattle.sheet_engine_types.proofs.Contents.{object_there, state_there}
use Rattle.sheet_engine_types.proofs.Given.{Gives, Any, any, Both, both_given, finished, appended}
use Rattle.sheet_engine_types.proofs.OneKind.{came, becomes, where_live, set_where_live}
use Rattle.sheet_engine_types.proofs.Rounds.{values_have_kinds}
use Rattle.sheet_procs_laws.specs.Keeping.{AreDrawn, KnowsStates, IsSoundSchema, IsTypedPoint, IsFormedChange, IsCallerIn}
use Rattle.sheet_procs_laws.specs.Keeping.{StatementsStayWellFormed, ProceduresLeaveWellFormed}
use Rattle.sheet_procs_laws.proofs.Changing.{stored, born, newborn, removed, below_root}
use Rattle.sheet_procs_laws.proofs.Following.{follows_itself, follows_on, set_drawn, drawn_still, kinds_still}
use Rattle.sheet_procs_laws.proofs.Passing.{Arrives, Passes, quiet, refused, quiet_if, within_limits, quiet_within, one_change, next_passes, keeping_typed}
use Rattle.sheet_procs_laws.proofs.Passing.{from_passes, ended_passes, with_variable_typed, turns_pass}
use Rattle.sheet_procs_laws.proofs.TypedBooks.{suiting, books_are_typed}

pub where_was_so : {A : Type 0} (b : Bool) (a c : A) → where_so b a ≡ Some c → (b ≡ true) × (a ≡ c)
where_was_so true a c e = (refl, let same : a ≡ c = cc in same)
where_was_so false a c e = cc

-- what a target's column stands under
pub record IsPlaced (n : List Node) (o : Option Kind) (c : ℕ) : Type 0 where
  pub above : ℕ
  pub is : o ≡ Some (kind.Object above)
  pub under : above_of n c ≡ Some above

pub placed : (n : List Node) (o : Option Kind) (c : ℕ) → is_placed n o c ≡ true → IsPlaced n o c
placed n None c e = cc
placed n (Some kind.Unknown) c e = cc
placed n (Some kind.Truth) c e = cc
placed n (Some kind.Number) c e = cc
placed n (Some kind.Text) c e = cc
placed n (Some (kind.Object a)) c e = record { above = a; is = refl; under = number_is a (above_of n c) e }
  where
    number_is : (a : ℕ) (o : Option ℕ) → is_number a o ≡ true → o ≡ Some a
    number_is a None e = cc
    number_is a (Some b) e = ap Some (sym (eqb-true a b e))

pub some_column : (o : Option LiveObject) (c : ℕ) → column_in o ≡ Some c → IsSome o
some_column None c e = cc
some_column (Some x) c e = refl

module _ (s : Schema) (sound : IsSoundSchema s) where
  abbrev pub n : List Node
  n = s.columns

  abbrev pub k : List Kind
  k = kinds_from 0 n

  -- a formula of a statement gives a set of its type
  pub value_typed : (v : List Kind) (p : Point) (i : ℕ) (e : Core) (x : Kind) → IsTypedPoint s v p → kind_in e n k v ≡ Some x →
      Gives (IsSetOf p.state x) (formula s p i e)
  value_typed v p i e x h got =
      record { is = values_have_kinds (workbook s p.state) e (place.Statement i) v p.variables x h.formed sound.formulas got h.kinds }

  -- a target's object is one of its column
  pub target_typed : (v : List Kind) (p : Point) (i : ℕ) (t : Target) (a : ℕ) → IsTypedPoint s v p → kind_in t.object n k v ≡ Some (kind.Object a) →
      Gives (λ (o : ℕ). HasKind p.state (kind.Object a) (value.Object o)) (target_object s p i t)
  target_typed v p i t a h got =
      finished (IsSetOf p.state (kind.Object a)) (λ (o : ℕ). HasKind p.state (kind.Object a) (value.Object o))
      (λ set. the_one (place.Statement i) (filter_map object_in set)) (formula s p i t.object) (value_typed v p i t.object (kind.Object a) h got)
      (λ set q. one_object (filter_map object_in set) (objects_typed set q.1))
    where
      objects_typed : (set : List Value) → AllByRecursion (HasKind p.state (kind.Object a)) set →
          AllByRecursion (λ (o : ℕ). HasKind p.state (kind.Object a) (value.Object o)) (filter_map object_in set)
      objects_typed [] q = tt
      objects_typed (value.Truth b ∷ set) q = absurd q.0
      objects_typed (value.Number j ∷ set) q = absurd q.0
      objects_typed (value.Text x ∷ set) q = absurd q.0
      objects_typed (value.Object o ∷ set) q = (q.0, objects_typed set q.1)

      one_object : (os : List ℕ) → AllByRecursion (λ (o : ℕ). HasKind p.state (kind.Object a) (value.Object o)) os →
          IfOk (the_one (place.Statement i) os) (λ (o : ℕ). HasKind p.state (kind.Object a) (value.Object o))
      one_object [] q = tt
      one_object (o ∷ []) q = q.0
      one_object (o ∷ m ∷ os) q = tt

  -- `set`, `add` and `remove`
  stores : (v : List Kind) (how : TheChange) (o c : ℕ) (set : List Value) (q : Point) → IsTypedPoint s v q → is_state (column_of n c) ≡ true →
      IsSetOf q.state (slice_index_or k c kind.Unknown) set → Passes s v q.state (changed q (store s how o c set q))
  stores v how o c set q h state typed =
      let is = state_there n c state in
      let t = with_set q.state o c (changed_set how (set_in q.state.cells o c) set) in
      one_change s v q (store s how o c set q) h.formed (λ x e.
      let w = within_limits s ((which.Values, stored_values t.cells, max_values) ∷ []) (with_state s q t) x e in
      let b = stored s q.state h.formed how o c is.holds is.one is.first set is.is (subst (λ y. IsSetOf q.state y set) is.kind typed) w.0.0 in
      subst (Arrives s v q.state) w.1
      (record {
        typed = record {
          formed = b.formed;
          kinds = kinds_still q.state t b.follows v q.variables h.drawn h.kinds;
          drawn = drawn_still q.state t b.follows q.variables h.drawn;
        };
        follows = b.follows;
      }))

  -- `new`
  makes : (v : List Kind) (c a parent : ℕ) (q : Point) → IsTypedPoint s v q → is_object (column_of n c) ≡ true → above_of n c ≡ Some a →
      HasKind q.state (kind.Object a) (value.Object parent) → Passes s (v ++ kind.Object c ∷ []) q.state (changed q (make s c parent q))
  makes v c a parent q h object above typed =
      let t = with_object s q.state c parent in
      one_change s (v ++ kind.Object c ∷ []) q (make s c parent q) h.formed (λ x e.
      let w =
      within_limits s
      ((which.Objects, length t.objects, max_objects)
      ∷ (which.Cells, cell_count (workbook s t), max_cells)
      ∷ (which.Values, stored_values t.cells, max_values)
      ∷ (which.Numbers, q.state.next, max_number)
      ∷ [])
      (with_variable (with_state s q t) (value.Object q.state.next ∷ [])) x e
      in
      let b = born s q.state h.formed sound.tree c parent (some_column (object_at q.state.objects parent) a typed) (typed ∙ sym above)
      (object_there (column_of n c) object) w.0.0 w.0.1.0 w.0.1.1.0 w.0.1.1.1.0 in
      let here = newborn s q.state h.formed c parent in
      subst (Arrives s (v ++ kind.Object c ∷ []) q.state) w.1
      (record {
        typed =
            with_variable_typed s v (kind.Object c) (with_state s q t) (value.Object q.state.next ∷ [])
            (record {
              formed = b.formed;
              kinds = kinds_still q.state t b.follows v q.variables h.drawn h.kinds;
              drawn = drawn_still q.state t b.follows q.variables h.drawn;
            })
            ((tt, tt), (where_live t (kind.Object c) (value.Object q.state.next) here, tt)) (omega arith, tt);
        follows = b.follows;
      }))

  -- `delete`
  abbrev ArePositive : List ℕ → Type 0
  ArePositive os = AllByRecursion (λ (o : ℕ). 0 < o) os

  removes : (v : List Kind) (p : Point) (o : ℕ) → IsTypedPoint s v p → 0 < o →
      Arrives s v p.state (remove s p o) × AllByRecursion (IsFormedChange s) (removal p o)
  removes v p o h positive =
      let b = removed s p.state h.formed o positive in
      elim (is_some (object_at p.state.objects o))
      as (λ (y : Bool). Arrives s v p.state (if y then with_state s p (without_object p.state o) else p) × AllByRecursion (IsFormedChange s)
      (if y then record { before = p.state; behind = without_object p.state o } ∷ [] else [])) [
        | true ↦ (
          record {
            typed = record {
              formed = b.formed;
              kinds = kinds_still p.state _ b.follows v p.variables h.drawn h.kinds;
              drawn = drawn_still p.state _ b.follows p.variables h.drawn;
            };
            follows = b.follows;
          },
          ((h.formed, b.formed), tt),
        )
        | false ↦ (record { typed = h; follows = follows_itself p.state }, tt)
      ]

  all_removed : (v : List Kind) (p : Point) (os : List ℕ) → IsTypedPoint s v p → ArePositive os →
      Arrives s v p.state (fold (remove s) p os) × AllByRecursion (IsFormedChange s) (removals s p os)
  all_removed v p [] h positive = (record { typed = h; follows = follows_itself p.state }, tt)
  all_removed v p (o ∷ os) h positive =
      let one = removes v p o h positive.0 in
      let rest = all_removed v (remove s p o) os one.0.typed positive.1 in (
        record { typed = rest.0.typed; follows = follows_on p.state (remove s p o).state _ one.0.follows rest.0.follows },
        appended (IsFormedChange s) (removal p o) (removals s (remove s p o) os) one.1 rest.1,
      )

  deletes : (v : List Kind) (p : Point) (x : Kind) (set : List Value) → IsTypedPoint s v p → is_deletable n (Some x) ≡ true → IsSetOf p.state x set →
      Passes s v p.state (remove_all s p (filter_map object_in set))
  deletes v p x set h fine typed =
      let all = all_removed v p (filter_map object_in set) h (positives x fine set typed.1) in
      record {
        formed = all.1;
        ends = λ q e.
            let same : fold (remove s) p (filter_map object_in set) ≡ q = cc in
            subst (Arrives s v p.state) same all.0;
      }
    where
      below : (x : Kind) → is_deletable n (Some x) ≡ true → (o : ℕ) → HasKind p.state x (value.Object o) → 0 < o
      below kind.Unknown e o i = absurd i
      below kind.Truth e o i = absurd i
      below kind.Number e o i = absurd i
      below kind.Text e o i = absurd i
      below (kind.Object c) e o i = below_root s p.state h.formed sound.tree o c i e

      positives : (x : Kind) → is_deletable n (Some x) ≡ true → (xs : List Value) → AllByRecursion (HasKind p.state x) xs →
          ArePositive (filter_map object_in xs)
      positives x e [] i = tt
      positives x e (value.Truth b ∷ xs) i = positives x e xs i.1
      positives x e (value.Number j ∷ xs) i = positives x e xs i.1
      positives x e (value.Text t ∷ xs) i = positives x e xs i.1
      positives x e (value.Object o ∷ xs) i = (below x e o i.0, positives x e xs i.1)

  as_kinds : (a u : List Kind) (t : State) (c : Course) → Some a ≡ Some u → Passes s a t c → Passes s u t c
  as_kinds a u t c e h = let same : a ≡ u = cc in subst (λ l. Passes s l t c) same h

  pub deletable : (o : Option Kind) → is_deletable n o ≡ true → (x : Kind) × (o ≡ Some x) × (is_deletable n (Some x) ≡ true)
  deletable None e = cc
  deletable (Some x) e = (x, refl, e)

  -- `set`, `add` and `remove`, with their formulas
  changes : (v : List Kind) (i : ℕ) (how : TheChange) (t : Target) (e : Core) (p : Point) → IsTypedPoint s v p → changes_state t e n k v ≡ true →
      Passes s v p.state (course (Change i how t e) s p)
  changes v i how t e p h fine =
      let target = target_object s p i t in
      let r = formula s p i e in
      let q = keeping s (both target r).uses p in
      let outer = both_true (is_placed n (kind_in t.object n k v) t.column && is_state (column_of n t.column))
      (suits (slice_index_or k t.column kind.Unknown) (kind_in e n k v)) fine in
      let inner = both_true (is_placed n (kind_in t.object n k v) t.column) (is_state (column_of n t.column)) outer.0 in
      let place = placed n (kind_in t.object n k v) t.column inner.0 in
      let is = state_there n t.column inner.1 in
      let known = subst (λ x. is_known x ≡ true) (sym is.kind) (sound.states t.column is.holds is.one is.first is.is) in
      let fits = suiting (slice_index_or k t.column kind.Unknown) (kind_in e n k v) known outer.1 in
      let object = λ (o : ℕ). HasKind p.state (kind.Object place.above) (value.Object o) in
      from_passes s (Both object (IsSetOf p.state fits.has)) v (target.uses ∷ r.uses ∷ []) (both target r) p
      (λ x y. changed y (store s how x.0 t.column x.1 y))
      (both_given object (IsSetOf p.state fits.has) target r (target_typed v p i t place.above h place.is) (value_typed v p i e fits.has h fits.is))
      (λ x g. stores v how x.0 t.column x.1 q (keeping_typed s v (both target r).uses p h) inner.1
      (becomes p.state fits.has (slice_index_or k t.column kind.Unknown) x.1 fits.serves.becomes g.1))

  news : (v : List Kind) (i : ℕ) (t : Target) (p : Point) → IsTypedPoint s v p → makes_object t n k v ≡ true →
      Passes s (v ++ kind.Object t.column ∷ []) p.state (course (New i t) s p)
  news v i t p h fine =
      let target = target_object s p i t in
      let q = keeping s target.uses p in
      let tests = both_true (is_placed n (kind_in t.object n k v) t.column) (is_object (column_of n t.column)) fine in
      let place = placed n (kind_in t.object n k v) t.column tests.0 in
      from_passes s (λ (o : ℕ). HasKind p.state (kind.Object place.above) (value.Object o)) (v ++ kind.Object t.column ∷ []) (target.uses ∷ []) target p
      (λ o y. changed y (make s t.column o y)) (target_typed v p i t place.above h place.is)
      (λ o g. makes v t.column place.above o q (keeping_typed s v target.uses p h) tests.1 place.under g)

  mutual
    pub goes : (x : CoreStatement) (v u : List Kind) (p : Point) → IsTypedPoint s v p → behind x n k v ≡ Some u → Passes s u p.state (course x s p)
    goes (Let i e) v u p h got =
        let c = came (kind_in e n k v) (λ y. Some (v ++ y ∷ [])) u got in
        let r = formula s p i e in
        let q = keeping s r.uses p in
        as_kinds (v ++ c.from ∷ []) u p.state (course (Let i e) s p) c.gives
        (from_passes s (IsSetOf p.state c.from) (v ++ c.from ∷ []) (r.uses ∷ []) r p (λ set y. still y (Ok (with_variable y set)))
        (value_typed v p i e c.from h c.is)
        (λ set g. quiet s (v ++ c.from ∷ []) q (with_variable q set)
        (with_variable_typed s v c.from q set (keeping_typed s v r.uses p h) (set_where_live p.state c.from set g)
        (set_drawn (workbook s p.state) h.formed c.from set g.1)) refl))
    goes (Change i how t e) v u p h got =
        let so = where_was_so (changes_state t e n k v) v u got in
        subst (λ l. Passes s l p.state (course (Change i how t e) s p)) so.1 (changes v i how t e p h so.0)
    goes (New i t) v u p h got =
        let so = where_was_so (makes_object t n k v) (v ++ kind.Object t.column ∷ []) u got in
        subst (λ l. Passes s l p.state (course (New i t) s p)) so.1 (news v i t p h so.0)
    goes (Delete i e) v u p h got =
        let so = where_was_so (is_deletable n (kind_in e n k v)) v u got in
        let x = deletable (kind_in e n k v) so.0 in
        let r = formula s p i e in
        let q = keeping s r.uses p in
        subst (λ l. Passes s l p.state (course (Delete i e) s p)) so.1
        (from_passes s (IsSetOf p.state x.0) v (r.uses ∷ []) r p (λ set y. remove_all s y (filter_map object_in set)) (value_typed v p i e x.0 h x.1)
        (λ set g. deletes v q x.0 set (keeping_typed s v r.uses p h) x.2 g))
    goes (Check i e message) v u p h got =
        let so = where_was_so (suits kind.Truth (kind_in e n k v)) v u got in
        let r = truth (place.Statement i) (formula s p i e) in
        let q = keeping s r.uses p in
        subst (λ l. Passes s l p.state (course (Check i e message) s p)) so.1
        (from_passes s Any v ((formula s p i e).uses ∷ []) r p (λ holds y. still y (if holds then Ok y else Err (CheckFailed i message))) (any r)
        (λ holds g. quiet_if s v q holds (CheckFailed i message) (keeping_typed s v r.uses p h)))
    goes (If' i e m body l otherwise) v u p h got =
        let c = came (where_so (suits kind.Truth (kind_in e n k v)) v)
        (λ z. behind_all body n k v >> (λ x. behind_all otherwise n k v >> (λ y. Some v))) u got in
        let a = came (behind_all body n k v) (λ x. behind_all otherwise n k v >> (λ y. Some v)) u c.gives in
        let b = came (behind_all otherwise n k v) (λ y. Some v) u a.gives in
        let r = truth (place.Statement i) (formula s p i e) in
        let q = keeping s r.uses p in
        let typed = keeping_typed s v r.uses p h in
        as_kinds v u p.state (course (If' i e m body l otherwise) s p) b.gives
        (from_passes s Any v ((formula s p i e).uses ∷ []) r p
        (λ holds y. course_ended y (if holds then course_block body s y else course_block otherwise s y)) (any r)
        (λ holds g. elim holds as (λ z. Passes s v q.state (course_ended q (if z then course_block body s q else course_block otherwise s q))) [
          | true ↦ ended_passes s v a.from q (course_block body s q) typed (block_goes body v a.from q typed a.is)
          | false ↦ ended_passes s v b.from q (course_block otherwise s q) typed (block_goes otherwise v b.from q typed b.is)
        ]))
    goes (For' i e m body) v u p h got =
        let c = came (kind_in e n k v) (λ x. behind_all body n k (v ++ x ∷ []) >> (λ y. Some v)) u got in
        let a = came (behind_all body n k (v ++ c.from ∷ [])) (λ y. Some v) u c.gives in
        let r = formula s p i e in
        let q = keeping s r.uses p in
        as_kinds v u p.state (course (For' i e m body) s p) a.gives
        (from_passes s (IsSetOf p.state c.from) v (r.uses ∷ []) r p (λ set y. course_turns (course_block body s) set y) (value_typed v p i e c.from h c.is)
        (λ set g. turns_pass s v a.from c.from (course_block body s) (λ y z. block_goes body (v ++ c.from ∷ []) a.from y z a.is) set q
        (keeping_typed s v r.uses p h) (set_where_live p.state c.from set g).1 (set_drawn (workbook s p.state) h.formed c.from set g.1)))
    goes (Reply i e) v u p h got =
        let c = came (kind_in e n k v) (λ x. Some v) u got in
        let r = formula s p i e in
        let q = keeping s r.uses p in
        as_kinds v u p.state (course (Reply i e) s p) c.gives
        (from_passes s (IsSetOf p.state c.from) v (r.uses ∷ []) r p (λ set y. still y (answer set y)) (value_typed v p i e c.from h c.is)
        (λ set g. quiet_within s v q ((which.Reply, sum_by value_weight set, max_reply) ∷ []) (record q { reply = set })
        (record { formed = h.formed; kinds = h.kinds; drawn = h.drawn }) refl))

    pub block_goes : {m : _} (row : Row_of-CoreStatement m) (v u : List Kind) (p : Point) → IsTypedPoint s v p → behind_all row n k v ≡ Some u →
        Passes s u p.state (course_block row s p)
    block_goes end v u p h got = as_kinds v u p.state (still p (Ok p)) got (quiet s v p p h refl)
    block_goes (more x rest) v u p h got =
        let c = came (behind x n k v) (λ y. behind_all rest n k y) u got in
        next_passes s c.from u p.state (course x s p) (course_block rest s) (goes x v c.from p h c.is) (λ q i f. block_goes rest c.from u q i c.gives)

  pub statements_go : (xs : List CoreStatement) (v u : List Kind) (p : Point) → IsTypedPoint s v p → behind_list xs n k v ≡ Some u →
      Passes s u p.state (course_statements xs s p)
  statements_go [] v u p h got = as_kinds v u p.state (still p (Ok p)) got (quiet s v p p h refl)
  statements_go (x ∷ xs) v u p h got =
      let c = came (behind x n k v) (λ y. behind_list xs n k y) u got in
      next_passes s c.from u p.state (course x s p) (course_statements xs s) (goes x v c.from p h c.is) (λ q i f. statements_go xs c.from u q i c.gives)

-- the last state of well-formed changes
last_formed : (s : Schema) (t x : State) (cs : List Changed) → IsWellFormed (workbook s t) → AllByRecursion (IsFormedChange s) cs → Lead t cs x →
    IsWellFormed (workbook s x)
last_formed s t x [] h g l = subst (λ y. IsWellFormed (workbook s y)) l h
last_formed s t x (c ∷ cs) h g l = last_formed s c.behind x cs g.0.1 g.1 l.1

pub statements_stay_well_formed : StatementsStayWellFormed
statements_stay_well_formed s xs v u p sound got h =
    let c = course_statements xs s p in
    let g = statements_go s sound xs v u p h got in
    record {
      changes = g.formed;
      last = last_formed s p.state c.last.state c.changes h.formed g.formed (statements_are_courses xs s p).leads;
      ends = λ q e. (g.ends q e).typed;
    }

pub some_is : {A : Type 0} (o : Option A) → is_some o ≡ true → (x : A) × (o ≡ Some x)
some_is None e = cc
some_is (Some x) e = (x, refl)

-- the arguments are variables of their parameters' types
pub arguments_typed : (w : Workbook) → IsWellFormed w → (ps : List (List ℕ × Kind)) (vs : List Value) → AreArguments w.state ps vs →
    HaveKinds w.state (map (λ (p : List ℕ × Kind). p.1) ps) (map (λ a. a ∷ []) vs) × AreDrawn w.state (map (λ a. a ∷ []) vs)
arguments_typed w formed [] [] h = (tt, tt)
arguments_typed w formed [] (v ∷ vs) h = absurd h
arguments_typed w formed (p ∷ ps) [] h = absurd h
arguments_typed w formed (p ∷ ps) (v ∷ vs) h =
    let rest = arguments_typed w formed ps vs h.1 in
    ((((tt, tt), (where_live w.state p.1 v h.0, tt)), rest.0), (set_drawn w formed p.1 (v ∷ []) (h.0, tt), rest.1))

-- so is the caller
pub caller_typed : (s : State) (callers : ℕ) (o : Option ℕ) → IsCallerIn s callers o →
    IsVariableOf s (kind.Object callers) (objects_of o) × AllByRecursion (IsDrawn s.next) (objects_of o)
caller_typed s callers None h = ((tt, tt), tt)
caller_typed s callers (Some o) h = (((tt, tt), (h.1, tt)), (h.0, tt))

module _ (s : Schema) where
  pub allow_goes : (v : List Kind) (allow : Core) (p : Point) → IsTypedPoint s v p → Passes s v p.state (course_of_allow s allow p)
  allow_goes v allow p h =
      let r = truth (place.Statement 0) (formula s p 0 allow) in
      from_passes s Any v (r.uses ∷ []) r p (λ holds y. still y (if holds then Ok y else Err Denied)) (any r)
      (λ holds g. quiet_if s v (keeping s r.uses p) holds Denied (keeping_typed s v r.uses p h))

  filled_goes : (v : List Kind) (p : Point) → IsTypedPoint s v p → Passes s v p.state (still p (test_filled s p))
  filled_goes v p h =
      elim (unfilled (workbook s p.state)) as (λ o. Passes s v p.state (still p (refuse_unfilled p o))) [
        | None ↦ quiet s v p p h refl
        | Some x ↦ refused s v p p.state _
      ]

  ended_filled : (p q : Point) → test_filled s p ≡ Ok q → IsFilled (workbook s q.state)
  ended_filled p q e = at (unfilled (workbook s p.state)) refl e
    where
      at : (o : Option (ℕ × ℕ)) → unfilled (workbook s p.state) ≡ o → refuse_unfilled p o ≡ Ok q → IsFilled (workbook s q.state)
      at None is h = let same : p ≡ q = cc in subst (λ (x : Point). IsFilled (workbook s x.state)) same is
      at (Some x) is h = cc

went_on : (r : Result Point Refusal) (f : Point → Result Point Refusal) (q : Point) → next r f ≡ Ok q → (p : Point) × (f p ≡ Ok q)
went_on (Ok p) f q e = (p, e)
went_on (Err x) f q e = cc

-- the types of state columns are known where columns hold what is in the tree
pub knows_states : (nodes ms : List Node) → AllByRecursion (λ (n : Node). IsHeldIn nodes n.column) ms → KnowsStates ms
knows_states nodes [] held c k one first is = cc
knows_states nodes (m ∷ ms) held zero k one first is =
    let same : m.column ≡ column.State k one first = cc in
    (subst (IsHeldIn nodes) same held.0).1
knows_states nodes (m ∷ ms) held (suc c) k one first is = knows_states nodes ms held.1 c k one first is

pub procedures_leave_well_formed : ProceduresLeaveWellFormed
procedures_leave_well_formed b p caller arguments state kept typed tree procedure formed calls fit =
    let s = schema_of b in
    let w = workbook s state in
    let sound : IsSoundSchema s = record { tree = tree; states = knows_states b.columns b.columns typed.columns; formulas = books_are_typed b typed } in
    let v = kinds_at_start b.callers p.parameters in
    let start = beginning caller arguments state kept in
    let c = course_of_procedure s p.allow (statements_in p.body) caller arguments state kept in
    let called = caller_typed state b.callers caller.object calls in
    let given = arguments_typed w formed p.parameters arguments fit in
    let begin : IsTypedPoint s v start = record {
      formed = formed;
      kinds = (called.0, (((tt, tt), (tt, tt)), given.0));
      drawn = (called.1, ((tt, tt), given.1));
    } in
    let u = some_is (behind_list (statements_in p.body) b.columns (kinds_from 0 b.columns) v) procedure.body in
    let g = next_passes s v u.0 state (course_of_allow s p.allow start)
    (λ q. course_next (course_statements (statements_in p.body) s q) (λ r. still r (test_filled s r))) (allow_goes s v p.allow start begin)
    (λ q i f. next_passes s u.0 u.0 q.state (course_statements (statements_in p.body) s q) (λ r. still r (test_filled s r))
    (statements_go s sound (statements_in p.body) v u.0 q i u.1) (λ r j l. filled_goes s u.0 r j)) in
    record {
      changes = g.formed;
      last =
          last_formed s state c.last.state c.changes formed g.formed
          (procedures_are_courses s p.allow (statements_in p.body) caller arguments state kept).leads;
      ends = λ q e. (g.ends q e).typed.formed;
      filled = λ q e.
          let first = went_on (course_of_allow s p.allow start).end _ q e in
          let second = went_on (course_statements (statements_in p.body) s first.0).end _ q first.1 in
          ended_filled s second.0 q second.1;
    }

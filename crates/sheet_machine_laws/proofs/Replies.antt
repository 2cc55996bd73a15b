-- What a run leaves of the objects that were drawn, and what it replies.
use Rattle.std.proofs.Common.{◌≡◌, refl, ap, sym, ◌∙◌, subst, ℕ, ◌≤◌, Bool, true, false, List, [], ◌∷◌, ◌++◌, length, Ok, Err, Option, Some, None, arith}
use Rattle.std.specs.Prelude.{zero, suc, map, ◌==◌, not, fold, filter, sum_by, is_some, cond, if◌then◌else◌, IfOk, Result}
use Rattle.std.specs.List.{AllByRecursion, filter_map}
use Rattle.std.proofs.lemmas.Bool.{true≢false, eqb-true, ne_eqb}
use Rattle.sheet_values.specs.declared.value.Kind.{Kind}
use Rattle.sheet_values.specs.declared.value.Kind.TheVariants as kind
use Rattle.sheet_values.specs.declared.value.Value.{Value}
use Rattle.sheet_values.specs.declared.value.Value.TheVariants as value
use Rattle.sheet_columns.specs.Statements.{statements_in}
use Rattle.sheet_columns.specs.declared.fault.Place.TheVariants as place
use Rattle.sheet_columns.specs.declared.formula.Core.{Core}
use Rattle.sheet_columns.specs.declared.statement.Change.{Change as TheChange}
use Rattle.sheet_columns.specs.declared.statement.CoreStatement.{CoreStatement, Let, Change, New, Delete, Check, If', For', Reply, Row_of-CoreStatement}
use Rattle.sheet_columns.specs.declared.statement.CoreStatement.{end_of-CoreStatement as end, more_of-CoreStatement as more}
use Rattle.sheet_columns.specs.Tree.{IsTree}
use Rattle.sheet_columns.specs.declared.tree.Column.TheVariants as column
use Rattle.sheet_columns.specs.declared.tree.Node.{Node}
use Rattle.sheet_types_rules.specs.Columns.{kinds_from, IsHeldIn}
use Rattle.sheet_types_rules.specs.Formulas.{kind_in, ◌>>◌}
use Rattle.sheet_types_rules.specs.Statements.{where_so, suits, behind, behind_all, behind_list}
use Rattle.sheet_meaning.specs.Arguments.{AreArguments}
use Rattle.sheet_meaning.specs.Changes.{changed_set, with_set, with_object, without_object, has_number, family}
use Rattle.sheet_meaning.specs.Drawn.{IsDrawn}
use Rattle.sheet_meaning.specs.Formula.{object_in, objects_of, truth}
use Rattle.sheet_meaning.specs.Procedure.{beginning, course_of_allow, refuse_unfilled, test_filled, run_procedure}
use Rattle.sheet_meaning.specs.Run.{Outcome, both}
use Rattle.sheet_meaning.specs.Statements.{Point, Course, keeping, next, with_value, ended, value_weight, max_reply, with_state, with_variable, store, make}
use Rattle.sheet_meaning.specs.Statements.{is_present, remove, remove_all, answer, still, course_next, course_ended, course_turn, course_turns}
use Rattle.sheet_meaning.specs.Statements.{course, course_block, course_statements, formula, target_object, workbook}
use Rattle.sheet_meaning.specs.Support.{Cell}
use Rattle.sheet_meaning.specs.WellFormed.{IsWellFormed, unfilled, stored_values, cell_count, max_objects, max_cells, max_values, max_number}
use Rattle.sheet_meaning.specs.Workbook.{object_at, column_in, set_in}
use Rattle.sheet_meaning.specs.declared.refusal.Refusal.{Refusal}
use Rattle.sheet_meaning.specs.declared.refusal.Refusal.TheVariants.{CheckFailed, Denied}
use Rattle.sheet_meaning.specs.declared.refusal.Which.TheVariants as which
use Rattle.sheet_meaning.specs.declared.run.Run.{Run}
use Rattle.sheet_meaning.specs.declared.run.Use.{Use}
use Rattle.sheet_meaning.specs.declared.workbook.Caller.{Caller}
use Rattle.sheet_meaning.specs.declared.workbook.LiveObject.{LiveObject}
use Rattle.sheet_meaning.specs.declared.workbook.Schema.{Schema}
use Rattle.sheet_meaning.specs.declared.workbook.State.{State}
use Rattle.sheet_meaning.specs.declared.workbook.Workbook.{Workbook}
use Rattle.sheet_books.specs.declared.body.Procedure.{Procedure}
use Rattle.sheet_books.specs.declared.book.Contents.{Contents}
use Rattle.sheet_books.specs.Books.{IsWellTyped, IsWellTypedProcedure, kinds_at_start}
use Rattle.sheet_books.specs.Schemas.{schema_of}
use Rattle.sheet_engine_types.specs.Types.{IsSetOf, IsVariableOf, HasKindWhereLive, HaveKinds}
use Rattle.sheet_engine_types.proofs.Given.{Gives, Any, any}
use Rattle.sheet_engine_types.proofs.OneKind.{came, where_live, set_where_live}
use Rattle.sheet_engine_types.proofs.Rounds.{values_have_kinds}
use Rattle.sheet_procs_laws.specs.Keeping.{AreDrawn, KnowsStates, IsSoundSchema, IsTypedPoint, IsFormedChange, IsCallerIn}
use Rattle.sheet_procs_laws.proofs.Following.{Follows, follows_itself, follows_on, set_drawn, set_drawn_still, values_follow}
use Rattle.sheet_procs_laws.proofs.Passing.{Passes, within_limits, keeping_typed, with_variable_typed, turns_pass}
use Rattle.sheet_procs_laws.proofs.Running.{statements_stay_well_formed}
use Rattle.sheet_procs_laws.proofs.TypedBooks.{books_are_typed}

-- a reply within its limit, of objects that were drawn
abbrev pub Fits : Point → Type 0
Fits p = AllByRecursion (IsDrawn p.state.next) p.reply × (sum_by value_weight p.reply ≤ max_reply)

-- a run goes from one point to another: what was drawn stays so, and a reply fits where the one before did
pub record Goes (p q : Point) : Type 0 where
  pub follows : Follows p.state q.state
  pub fits : Fits p → Fits q

-- a run goes from this point to where it ends
abbrev pub Ends : Point → Result Point Refusal → Type 0
Ends p r = (q : Point) → r ≡ Ok q → Goes p q

-- another state, behind the same reply
moved : (p q : Point) → Follows p.state q.state → p.reply ≡ q.reply → Goes p q
moved p q f same = record {
  follows = f;
  fits = λ h.
      let drawn : AllByRecursion (IsDrawn q.state.next) q.reply = subst (λ r. AllByRecursion (IsDrawn q.state.next) r) same (set_drawn_still p.state q.state f p.reply h.0) in
      let few : sum_by value_weight q.reply ≤ max_reply = subst (λ r. sum_by value_weight r ≤ max_reply) same h.1 in
      (drawn, few);
}

pub goes_on : (p q r : Point) → Goes p q → Goes q r → Goes p r
goes_on p q r g h = record { follows = follows_on p.state q.state r.state g.follows h.follows; fits = λ f. h.fits (g.fits f) }

pub goes_itself : (p : Point) → Goes p p
goes_itself p = record { follows = follows_itself p.state; fits = λ f. f }

pub ends_at : (p q : Point) → Goes p q → Ends p (Ok q)
ends_at p q g x e = let same : q ≡ x = cc in subst (Goes p) same g

never_ends : (p : Point) (x : Refusal) → Ends p (Err x)
never_ends p x q e = cc

ends_if : (p : Point) (b : Bool) (x : Refusal) → Ends p (if b then Ok p else Err x)
ends_if p true x = ends_at p p (goes_itself p)
ends_if p false x = never_ends p x

-- an object of a lower number is found as before, where a new one comes behind
last_differs : (b : Bool) (y : LiveObject) (d : ℕ) → b ≡ false → column_in (if b then Some y else None) ≡ Some d → column_in None ≡ Some d
last_differs true y d off e = absurd (true≢false off)
last_differs false y d off e = e

found_before : (xs : List LiveObject) (y : LiveObject) (o d : ℕ) → (y.number == o) ≡ false → column_in (object_at (xs ++ y ∷ []) o) ≡ Some d →
    column_in (object_at xs o) ≡ Some d
found_before [] y o d differs e = last_differs (y.number == o) y d differs e
found_before (x ∷ xs) y o d differs e =
    elim (x.number == o) as (λ b. column_in (if b then Some x else object_at (xs ++ y ∷ []) o) ≡ Some d →
    column_in (if b then Some x else object_at xs o) ≡ Some d) [ true ↦ λ h. h | false ↦ λ h. found_before xs y o d differs h ] e

-- an object that is found among those that are left was found before
module _ (ns : List ℕ) where
  abbrev left : List LiveObject → List LiveObject
  left xs = filter (λ (x : LiveObject). not (has_number ns x.number)) xs

  gone : (xs : List LiveObject) (o : ℕ) → has_number ns o ≡ true → object_at (left xs) o ≡ None
  gone [] o has = refl
  gone (x ∷ xs) o has =
      elim (has_number ns x.number) as (λ b. has_number ns x.number ≡ b → object_at (cond (not b) (x ∷ left xs) (left xs)) o ≡ None) [
        | true ↦ λ e. gone xs o has
        | false ↦ λ e.
            elim (x.number == o) as (λ c. (x.number == o) ≡ c → (if c then Some x else object_at (left xs) o) ≡ None) [
              | true ↦ λ f. absurd (true≢false (sym has ∙ ap (has_number ns) (sym (eqb-true x.number o f)) ∙ e))
              | false ↦ λ f. gone xs o has
            ] refl
      ] refl

  was_found : (xs : List LiveObject) (o d : ℕ) → column_in (object_at (left xs) o) ≡ Some d → column_in (object_at xs o) ≡ Some d
  was_found [] o d h = h
  was_found (x ∷ xs) o d h =
      elim (has_number ns x.number) as (λ b. has_number ns x.number ≡ b → column_in (object_at (cond (not b) (x ∷ left xs) (left xs)) o) ≡ Some d →
      column_in (if x.number == o then Some x else object_at xs o) ≡ Some d) [
        | true ↦ λ e g.
            elim (x.number == o) as (λ c. (x.number == o) ≡ c → column_in (if c then Some x else object_at xs o) ≡ Some d) [
              | true ↦ λ f.
                  let none = gone xs o (ap (has_number ns) (sym (eqb-true x.number o f)) ∙ e) in
                  let no : column_in None ≡ Some d = subst (λ y. column_in y ≡ Some d) none g in
                  cc
              | false ↦ λ f. was_found xs o d g
            ] refl
        | false ↦ λ e g.
            elim (x.number == o) as (λ c. column_in (if c then Some x else object_at (left xs) o) ≡ Some d →
            column_in (if c then Some x else object_at xs o) ≡ Some d) [ true ↦ λ k. k | false ↦ λ k. was_found xs o d k ] g
      ] refl h

-- each change goes on
set_goes : (s : State) (o c : ℕ) (set : List Value) → Follows s (with_set s o c set)
set_goes s o c set = record { drawn = omega arith; column = λ o d lt e. e }

made_goes : (schema : Schema) (s : State) (c parent : ℕ) → Follows s (with_object schema s c parent)
made_goes schema s c parent = record {
  drawn = omega arith;
  column = λ o d lt e.
      found_before s.objects (record { number = s.next; column = c; parent = Some parent }) o d
      (ne_eqb s.next o (λ same. absurd (omega (arith, lt, same)))) e;
}

gone_goes : (s : State) (o : ℕ) → Follows s (without_object s o)
gone_goes s o = record { drawn = omega arith; column = λ i d lt e. was_found (family s.objects o) s.objects i d e }

module _ (s : Schema) where
  -- a formula keeps the cells that it reaches, and nothing else
  from_keeping : (us : List Use) (p q : Point) → Goes (keeping s us p) q → Goes p q
  from_keeping us p q g = record { follows = g.follows; fits = g.fits }

  pub from_ends : {A : Type 0} (Q : A → Type 0) (r : Run A) (p : Point) (f : A → Point → Result Point Refusal) → Gives Q r →
      ((a : A) → Q a → Ends (keeping s r.uses p) (f a (keeping s r.uses p))) → Ends p (with_value r.outcome (λ a. f a (keeping s r.uses p)))
  from_ends {A} Q r p f g h x e =
      elim r.outcome as (λ (o : Outcome A). IfOk o Q → with_value o (λ a. f a (keeping s r.uses p)) ≡ Ok x → Goes p x) [
        | Ok a ↦ λ i k. from_keeping r.uses p x (h a i x k)
        | Err y ↦ λ i k. cc
      ] g.is e

  pub next_ends : (p : Point) (r : Result Point Refusal) (f : Point → Result Point Refusal) → Ends p r →
      ((q : Point) → r ≡ Ok q → Ends q (f q)) → Ends p (next r f)
  next_ends p r f h k x e =
      elim r as (λ o. r ≡ o → next o f ≡ Ok x → Goes p x) [
        | Ok q ↦ λ is g. goes_on p q x (h q is) (k q is x g)
        | Err y ↦ λ is g. cc
      ] refl e

  ended_ends : (p : Point) (r : Result Point Refusal) → Ends p r → Ends p (ended p r)
  ended_ends p r h x e =
      elim r as (λ o. r ≡ o → ended p o ≡ Ok x → Goes p x) [
        | Ok q ↦ λ is g.
            let a = h q is in
            let same : record q { variables = p.variables } ≡ x = cc in
            subst (Goes p) same (record { follows = a.follows; fits = a.fits })
        | Err y ↦ λ is g. cc
      ] refl e

  removed_goes : (p : Point) (o : ℕ) → Goes p (remove s p o)
  removed_goes p o =
      elim (is_some (object_at p.state.objects o)) as (λ b. Goes p (if b then with_state s p (without_object p.state o) else p)) [
        | true ↦ moved p (with_state s p (without_object p.state o)) (gone_goes p.state o) refl
        | false ↦ goes_itself p
      ]

  all_removed_goes : (p : Point) (os : List ℕ) → Goes p (fold (remove s) p os)
  all_removed_goes p [] = goes_itself p
  all_removed_goes p (o ∷ os) =
      goes_on p (remove s p o) (fold (remove s) (remove s p o) os) (removed_goes p o) (all_removed_goes (remove s p o) os)

  store_ends : (how : TheChange) (o c : ℕ) (set : List Value) (q : Point) → Ends q (store s how o c set q)
  store_ends how o c set q x e =
      let t = with_set q.state o c (changed_set how (set_in q.state.cells o c) set) in
      let w = within_limits s ((which.Values, stored_values t.cells, max_values) ∷ []) (with_state s q t) x e in
      subst (Goes q) w.1 (moved q (with_state s q t) (set_goes q.state o c (changed_set how (set_in q.state.cells o c) set)) refl)

  make_ends : (c parent : ℕ) (q : Point) → Ends q (make s c parent q)
  make_ends c parent q x e =
      let t = with_object s q.state c parent in
      let new = with_variable (with_state s q t) (value.Object q.state.next ∷ []) in
      let w =
      within_limits s
      ((which.Objects, length t.objects, max_objects)
      ∷ (which.Cells, cell_count (workbook s t), max_cells)
      ∷ (which.Values, stored_values t.cells, max_values)
      ∷ (which.Numbers, q.state.next, max_number)
      ∷ [])
      new x e
      in
      subst (Goes q) w.1 (moved q new (made_goes s q.state c parent) refl)

  -- statements of a block, as a list
  abbrev listed : {m : _} → Row_of-CoreStatement m → List CoreStatement
  listed end = []
  listed (more x rest) = x ∷ listed rest

  same_course : {m : _} (row : Row_of-CoreStatement m) (p : Point) → course_statements (listed row) s p ≡ course_block row s p
  same_course end p = refl
  same_course (more x rest) p = ap (course_next (course x s p)) (λ i q. same_course rest q i)

  same_behind : {m : _} (row : Row_of-CoreStatement m) (n : List Node) (k v : List Kind) → behind_list (listed row) n k v ≡ behind_all row n k v
  same_behind end n k v = refl
  same_behind (more x rest) n k v = ap (λ f. behind x n k v >> f) (λ i u. same_behind rest n k u i)

module _ (s : Schema) (sound : IsSoundSchema s) where
  abbrev n : List Node
  n = s.columns

  abbrev k : List Kind
  k = kinds_from 0 n

  -- a formula of a statement gives a set of its type
  value_typed : (v : List Kind) (p : Point) (i : ℕ) (e : Core) (x : Kind) → IsTypedPoint s v p → kind_in e n k v ≡ Some x →
      Gives (IsSetOf p.state x) (formula s p i e)
  value_typed v p i e x h got =
      record { is = values_have_kinds (workbook s p.state) e (place.Statement i) v p.variables x h.formed sound.formulas got h.kinds }

  -- variables are typed behind a statement that ends
  typed_behind : (x : CoreStatement) (v u : List Kind) (p q : Point) → IsTypedPoint s v p → behind x n k v ≡ Some u → (course x s p).end ≡ Ok q →
      IsTypedPoint s u q
  typed_behind x v u p q h got is =
      (statements_stay_well_formed s (x ∷ []) v u p sound (ap (λ o. o >> (λ y. Some y)) got) h).ends q (ap (λ r. next r (λ t. Ok t)) is)

  -- so they are in a block
  block_passes : {m : _} (row : Row_of-CoreStatement m) (v u : List Kind) (p : Point) → IsTypedPoint s v p → behind_all row n k v ≡ Some u →
      Ends p (course_block row s p).end → Passes s u p.state (course_block row s p)
  block_passes row v u p h got goes =
      let law = statements_stay_well_formed s (listed s row) v u p sound (same_behind s row n k v ∙ got) h in
      let same = same_course s row p in
      record {
        formed = subst (λ (c : Course). AllByRecursion (IsFormedChange s) c.changes) same law.changes;
        ends = λ q e. record { typed = law.ends q (ap (λ (c : Course). c.end) same ∙ e); follows = (goes q e).follows };
      }

  -- the turns of a loop over values of a type
  module _ {m : _} (row : Row_of-CoreStatement m) (v u : List Kind) (x : Kind) (got : behind_all row n k (v ++ x ∷ []) ≡ Some u)
      (goes : (q : Point) → IsTypedPoint s (v ++ x ∷ []) q → Ends q (course_block row s q).end) where
    turn_ends : (y : Value) (p : Point) → IsTypedPoint s v p → HasKindWhereLive p.state x y → IsDrawn p.state.next y →
        Ends p (course_turn (course_block row s) y p).end
    turn_ends y p h g d =
        elim (is_present p.state y) as (λ (b : Bool).
        Ends p (if b then course_ended p (course_block row s (with_variable p (y ∷ []))) else still p (Ok p)).end) [
          | true ↦ ended_ends s p (course_block row s (with_variable p (y ∷ []))).end
              (λ q e.
              let a = goes (with_variable p (y ∷ [])) (with_variable_typed s v x p (y ∷ []) h ((tt, tt), (g, tt)) (d, tt)) q e in
              record { follows = a.follows; fits = a.fits })
          | false ↦ ends_at p p (goes_itself p)
        ]

    pub turns_end : (xs : List Value) (p : Point) → IsTypedPoint s v p → AllByRecursion (HasKindWhereLive p.state x) xs →
        AllByRecursion (IsDrawn p.state.next) xs → Ends p (course_turns (course_block row s) xs p).end
    turns_end [] p h g d = ends_at p p (goes_itself p)
    turns_end (y ∷ xs) p h g d =
        next_ends s p (course_turn (course_block row s) y p).end (λ q. (course_turns (course_block row s) xs q).end) (turn_ends y p h g.0 d.0)
        (λ q is.
        let all = turns_pass s v u x (course_block row s) (λ r i. block_passes row (v ++ x ∷ []) u r i got (goes r i)) (y ∷ []) p h (g.0, tt) (d.0, tt) in
        let typed = (all.ends q (ap (λ r. next r (λ t. Ok t)) is)).typed in
        let f = (turn_ends y p h g.0 d.0 q is).follows in
        turns_end xs q typed (values_follow p.state q.state f x xs d.1 g.1) (set_drawn_still p.state q.state f xs d.1))

  mutual
    goes : (x : CoreStatement) (v u : List Kind) (p : Point) → IsTypedPoint s v p → behind x n k v ≡ Some u → Ends p (course x s p).end
    goes (Let i e) v u p h got =
        let r = formula s p i e in
        let q = keeping s r.uses p in
        from_ends s Any r p (λ set y. Ok (with_variable y set)) (any r)
        (λ set g. ends_at q (with_variable q set) (moved q (with_variable q set) (follows_itself p.state) refl))
    goes (Change i how t e) v u p h got =
        let r = both (target_object s p i t) (formula s p i e) in
        let q = keeping s r.uses p in
        from_ends s Any r p (λ x y. store s how x.0 t.column x.1 y) (any r) (λ x g. store_ends s how x.0 t.column x.1 q)
    goes (New i t) v u p h got =
        let r = target_object s p i t in
        let q = keeping s r.uses p in
        from_ends s Any r p (λ o y. make s t.column o y) (any r) (λ o g. make_ends s t.column o q)
    goes (Delete i e) v u p h got =
        let r = formula s p i e in
        let q = keeping s r.uses p in
        from_ends s Any r p (λ set y. (remove_all s y (filter_map object_in set)).end) (any r)
        (λ set g. ends_at q (fold (remove s) q (filter_map object_in set)) (all_removed_goes s q (filter_map object_in set)))
    goes (Check i e message) v u p h got =
        let r = truth (place.Statement i) (formula s p i e) in
        from_ends s Any r p (λ holds y. if holds then Ok y else Err (CheckFailed i message)) (any r)
        (λ holds g. ends_if (keeping s r.uses p) holds (CheckFailed i message))
    goes (If' i e m body l otherwise) v u p h got =
        let c = came (where_so (suits kind.Truth (kind_in e n k v)) v)
        (λ z. behind_all body n k v >> (λ x. behind_all otherwise n k v >> (λ y. Some v))) u got in
        let a = came (behind_all body n k v) (λ x. behind_all otherwise n k v >> (λ y. Some v)) u c.gives in
        let b = came (behind_all otherwise n k v) (λ y. Some v) u a.gives in
        let r = truth (place.Statement i) (formula s p i e) in
        let q = keeping s r.uses p in
        let typed = keeping_typed s v r.uses p h in
        from_ends s Any r p
        (λ holds y. ended y (if holds then course_block body s y else course_block otherwise s y).end) (any r)
        (λ holds g. elim holds as (λ z. Ends q (ended q (if z then course_block body s q else course_block otherwise s q).end)) [
          | true ↦ ended_ends s q (course_block body s q).end (block_goes body v a.from q typed a.is)
          | false ↦ ended_ends s q (course_block otherwise s q).end (block_goes otherwise v b.from q typed b.is)
        ])
    goes (For' i e m body) v u p h got =
        let c = came (kind_in e n k v) (λ x. behind_all body n k (v ++ x ∷ []) >> (λ y. Some v)) u got in
        let a = came (behind_all body n k (v ++ c.from ∷ [])) (λ y. Some v) u c.gives in
        let r = formula s p i e in
        let q = keeping s r.uses p in
        from_ends s (IsSetOf p.state c.from) r p (λ set y. (course_turns (course_block body s) set y).end) (value_typed v p i e c.from h c.is)
        (λ set g. turns_end body v a.from c.from a.is (λ y z. block_goes body (v ++ c.from ∷ []) a.from y z a.is) set q
        (keeping_typed s v r.uses p h) (set_where_live p.state c.from set g).1 (set_drawn (workbook s p.state) h.formed c.from set g.1))
    goes (Reply i e) v u p h got =
        let c = came (kind_in e n k v) (λ x. Some v) u got in
        let r = formula s p i e in
        let q = keeping s r.uses p in
        from_ends s (IsSetOf p.state c.from) r p (λ set y. answer set y) (value_typed v p i e c.from h c.is)
        (λ set g x e.
        let w = within_limits s ((which.Reply, sum_by value_weight set, max_reply) ∷ []) (record q { reply = set }) x e in
        subst (Goes q) w.1
        (record { follows = follows_itself p.state; fits = λ f. (set_drawn (workbook s p.state) h.formed c.from set g.1, w.0.0) }))

    block_goes : {m : _} (row : Row_of-CoreStatement m) (v u : List Kind) (p : Point) → IsTypedPoint s v p → behind_all row n k v ≡ Some u →
        Ends p (course_block row s p).end
    block_goes end v u p h got = ends_at p p (goes_itself p)
    block_goes (more x rest) v u p h got =
        let c = came (behind x n k v) (λ y. behind_all rest n k y) u got in
        next_ends s p (course x s p).end (λ q. (course_block rest s q).end) (goes x v c.from p h c.is)
        (λ q is. block_goes rest c.from u q (typed_behind x v c.from p q h c.is is) c.gives)

  pub statements_go : (xs : List CoreStatement) (v u : List Kind) (p : Point) → IsTypedPoint s v p → behind_list xs n k v ≡ Some u →
      Ends p (course_statements xs s p).end
  statements_go [] v u p h got = ends_at p p (goes_itself p)
  statements_go (x ∷ xs) v u p h got =
      let c = came (behind x n k v) (λ y. behind_list xs n k y) u got in
      next_ends s p (course x s p).end (λ q. (course_statements xs s q).end) (goes x v c.from p h c.is)
      (λ q is. statements_go xs c.from u q (typed_behind x v c.from p q h c.is is) c.gives)

-- the types of state columns are known where columns hold what is in the tree
knows_states : (nodes ms : List Node) → AllByRecursion (λ (m : Node). IsHeldIn nodes m.column) ms → KnowsStates ms
knows_states nodes [] held c k one first is = cc
knows_states nodes (m ∷ ms) held zero k one first is =
    let same : m.column ≡ column.State k one first = cc in
    (subst (IsHeldIn nodes) same held.0).1
knows_states nodes (m ∷ ms) held (suc c) k one first is = knows_states nodes ms held.1 c k one first is

-- the arguments are variables of their parameters' types
arguments_typed : (w : Workbook) → IsWellFormed w → (ps : List (List ℕ × Kind)) (vs : List Value) → AreArguments w.state ps vs →
    HaveKinds w.state (map (λ (p : List ℕ × Kind). p.1) ps) (map (λ a. a ∷ []) vs) × AreDrawn w.state (map (λ a. a ∷ []) vs)
arguments_typed w formed [] [] h = (tt, tt)
arguments_typed w formed [] (v ∷ vs) h = absurd h
arguments_typed w formed (p ∷ ps) [] h = absurd h
arguments_typed w formed (p ∷ ps) (v ∷ vs) h =
    let rest = arguments_typed w formed ps vs h.1 in
    ((((tt, tt), (where_live w.state p.1 v h.0, tt)), rest.0), (set_drawn w formed p.1 (v ∷ []) (h.0, tt), rest.1))

-- so is the caller
caller_typed : (s : State) (callers : ℕ) (o : Option ℕ) → IsCallerIn s callers o →
    IsVariableOf s (kind.Object callers) (objects_of o) × AllByRecursion (IsDrawn s.next) (objects_of o)
caller_typed s callers None h = ((tt, tt), tt)
caller_typed s callers (Some o) h = (((tt, tt), (h.1, tt)), (h.0, tt))

-- where the `allow` formula lets the run go on
allowed : (o : Outcome Bool) (k q : Point) → with_value o (λ holds. if holds then Ok k else Err Denied) ≡ Ok q → k ≡ q
allowed (Ok true) k q e = let same : k ≡ q = cc in same
allowed (Ok false) k q e = cc
allowed (Err x) k q e = cc

some_is : {A : Type 0} (o : Option A) → is_some o ≡ true → (x : A) × (o ≡ Some x)
some_is None e = cc
some_is (Some x) e = (x, refl)

filled_ends : (s : Schema) (p : Point) → Ends p (test_filled s p)
filled_ends s p =
    elim (unfilled (workbook s p.state)) as (λ o. Ends p (refuse_unfilled p o)) [
      | None ↦ ends_at p p (goes_itself p)
      | Some x ↦ never_ends p _
    ]

-- the run of a procedure
pub procedure_ends : (b : Contents) (p : Procedure) (caller : Caller) (arguments : List Value) (state : State) (kept : List Cell) →
    IsWellTyped b → IsTree b.columns → IsWellTypedProcedure b.columns b.callers p → IsWellFormed (workbook (schema_of b) state) →
    IsCallerIn state b.callers caller.object → AreArguments state p.parameters arguments →
    Ends (beginning caller arguments state kept) (run_procedure (schema_of b) p.allow (statements_in p.body) caller arguments state kept)
procedure_ends b p caller arguments state kept typed tree procedure formed calls fit =
    let s = schema_of b in
    let w = workbook s state in
    let sound : IsSoundSchema s = record { tree = tree; states = knows_states b.columns b.columns typed.columns; formulas = books_are_typed b typed } in
    let v = kinds_at_start b.callers p.parameters in
    let start = beginning caller arguments state kept in
    let called = caller_typed state b.callers caller.object calls in
    let given = arguments_typed w formed p.parameters arguments fit in
    let begin : IsTypedPoint s v start = record {
      formed = formed;
      kinds = (called.0, (((tt, tt), (tt, tt)), given.0));
      drawn = (called.1, ((tt, tt), given.1));
    } in
    let u = some_is (behind_list (statements_in p.body) b.columns (kinds_from 0 b.columns) v) procedure.body in
    let body = statements_in p.body in
    let r = truth (place.Statement 0) (formula s start 0 p.allow) in
    next_ends s start (course_of_allow s p.allow start).end (λ q. next (course_statements body s q).end (λ t. test_filled s t))
    (from_ends s Any r start (λ holds y. if holds then Ok y else Err Denied) (any r) (λ holds g. ends_if (keeping s r.uses start) holds Denied))
    (λ q is.
    let at = subst (IsTypedPoint s v) (allowed r.outcome (keeping s r.uses start) q is) (keeping_typed s v r.uses start begin) in
    next_ends s q (course_statements body s q).end (λ t. test_filled s t) (statements_go s sound body v u.0 q at u.1) (λ t g. filled_ends s t))

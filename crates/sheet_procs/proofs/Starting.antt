-- Where the run of a procedure begins, and how it ends.
use Rattle.std.proofs.Common.{◌≡◌, refl, sym, ap, ◌∙◌, subst, ℕ, ◌≤◌, Bool, true, false, List, [], ◌∷◌, ◌++◌, length, take, arith, Ok, Err, Some, None}
use Rattle.std.specs.Prelude.{slice_get, if◌then◌else◌}
use Rattle.sheet_values.specs.declared.value.Value.{Value}
use Rattle.sheet_books.specs.declared.body.Procedure.{Procedure}
use Rattle.sheet_books.specs.declared.book.Contents.{Contents}
use Rattle.sheet_books.specs.Books.{kinds_at_start, IsWellTypedProcedure}
use Rattle.sheet_books.specs.Schemas.{schema_of}
use Rattle.sheet_books.proofs.SchemaLemmas.{books_start_well}
use Rattle.sheet_columns.specs.Statements.{statements_in}
use Rattle.sheet_columns.specs.Tree.{IsTree}
use Rattle.sheet_columns.specs.declared.fault.Place.TheVariants as place
use Rattle.sheet_columns.specs.declared.formula.Core.{Core}
use Rattle.sheet_engine.specs.Started.{IsServed}
use Rattle.sheet_meaning.specs.Arguments.{AreArguments}
use Rattle.sheet_meaning.specs.Formula.{truth}
use Rattle.sheet_meaning.specs.Procedure.{admit, refuse_unfilled, test_filled}
use Rattle.sheet_meaning.specs.Statements.{Point, workbook, formula}
use Rattle.sheet_meaning.specs.WellFormed.{IsWellFormed, unfilled}
use Rattle.sheet_meaning.specs.Workbook.{set_in}
use Rattle.sheet_meaning.specs.declared.refusal.Refusal.TheVariants as meant
use Rattle.sheet_meaning.specs.declared.workbook.Caller.{Caller}
use Rattle.sheet_meaning.specs.declared.workbook.Schema.{Schema}
use Rattle.sheet_state.specs.Stored.{Moment, Stored}
use Rattle.sheet_state.proofs.Schemas.{formulas_dont_matter}
use Rattle.sheet_types_rules.specs.Columns.{kinds_from}
use Rattle.sheet_types_rules.specs.Statements.{behind_list}
use Rattle.sheet_procs_laws.specs.Keeping.{IsCallerIn}
use Rattle.sheet_procs_laws.proofs.Running.{arguments_typed, caller_typed, knows_states, some_is}
use Rattle.sheet_procs_laws.proofs.TypedBooks.{books_are_typed}
use Rattle.sheet_procs.specs.Acts.{CanUndo}
use Rattle.sheet_procs.specs.Performing.{first_progress}
use Rattle.sheet_procs.specs.Runs.{Comes, GoesBack, Runs}
use Rattle.sheet_procs.specs.Typed.{MayRun}
use Rattle.sheet_procs.specs.declared.progress.Progress.{Progress}
use Rattle.sheet_procs.specs.declared.refusal.ProcedureRefusal.{ProcedureRefusal}
use Rattle.sheet_procs.specs.declared.refusal.ProcedureRefusal.TheVariants as refused
use Rattle.sheet_procs.proofs.Blocks.{truth_outcome}
use Rattle.sheet_procs.proofs.Going.{known, not_known}

-- what is served is a well-formed workbook of the book's own schema
pub served_formed : (b : Contents) (k : Stored) → IsServed b k → IsWellFormed (workbook (schema_of b) k.present.state)
served_formed b k h =
    (formulas_dont_matter b.columns (schema_of b) k.present.state (record { columns = refl; formulas = (books_start_well b h.typed).formulas })).well_formed.0
    h.kept.present.well_formed

-- a run begins with well-typed variables
pub may_begin : (b : Contents) (k : Stored) (p : Procedure) (caller : Caller) (arguments : List Value) → IsServed b k → IsTree b.columns →
    IsWellTypedProcedure b.columns b.callers p → IsCallerIn k.present.state b.callers caller.object → AreArguments k.present.state p.parameters arguments →
    MayRun (behind_list (statements_in p.body)) b k (first_progress caller arguments)
may_begin b k p caller arguments served tree procedure calls fit =
    let s = schema_of b in
    let formed = served_formed b k served in
    let w = workbook s k.present.state in
    let u = some_is (behind_list (statements_in p.body) b.columns (kinds_from 0 b.columns) (kinds_at_start b.callers p.parameters)) procedure.body in
    let called = caller_typed k.present.state b.callers caller.object calls in
    let given = arguments_typed w formed p.parameters arguments fit in
    record {
      sound = record { tree = tree; states = knows_states b.columns b.columns served.typed.columns; formulas = books_are_typed b served.typed };
      kinds = kinds_at_start b.callers p.parameters;
      kinds_after = u.0;
      typed = record {
        formed = formed;
        kinds = (called.0, (((tt, tt), (tt, tt)), given.0));
        drawn = (called.1, ((tt, tt), given.1));
      };
      is = u.1;
    }

-- `allow`
module _ (b : Contents) (k l : Stored) (same : l ≡ k) (m : Progress) (allow : Core) where
  abbrev s : Schema
  s = schema_of b

  pub admitted : truth_outcome b k m 0 allow ≡ Ok true → Runs b k l m m (Ok tt) (admit s allow)
  admitted h =
      subst (λ y. Runs b k y m m (Ok tt) (admit s allow)) (sym same)
      (let w = known b (λ p. truth (place.Statement 0) (formula s p 0 allow)) (λ a q. if a then Ok q else Err meant.Denied) k m (truth_outcome b k m 0 allow)
      (λ kept. refl) true h in
      record { back = w.back; front = w.front; covered = w.covered; ends = λ kept. let a = w.goes kept in (a.0, a.1) })

  pub denied : truth_outcome b k m 0 allow ≡ Ok false → Runs b k l m m (Err refused.Denied) (admit s allow)
  denied h =
      subst (λ y. Runs b k y m m (Err refused.Denied) (admit s allow)) (sym same)
      (let w = known b (λ p. truth (place.Statement 0) (formula s p 0 allow)) (λ a q. if a then Ok q else Err meant.Denied) k m (truth_outcome b k m 0 allow)
      (λ kept. refl) false h in
      record { back = w.back; front = tt; covered = tt; ends = λ kept. let a = w.goes kept in a.1 })

  pub not_admitted : (x : ProcedureRefusal) → Comes {A = Bool} (Err x) (truth_outcome b k m 0 allow) → Runs b k l m m (Err x) (admit s allow)
  not_admitted x h =
      subst (λ y. Runs b k y m m (Err x) (admit s allow)) (sym same)
      (not_known b (λ p. truth (place.Statement 0) (formula s p 0 allow)) (λ a q. if a then Ok q else Err meant.Denied) k m (truth_outcome b k m 0 allow)
      (λ kept. refl) x h)

-- a test that ends a run well
pub tested : (s : Schema) (p : Point) → unfilled (workbook s p.state) ≡ None → test_filled s p ≡ Ok p
tested s p e = ap (refuse_unfilled p) e

pub not_tested : (s : Schema) (p : Point) (o c n : ℕ) → unfilled (workbook s p.state) ≡ Some (o, c) → n ≡ length (set_in p.state.cells o c) →
    test_filled s p ≡ Err (meant.NotOneCell o c n)
not_tested s p o c n e is = ap (refuse_unfilled p) e ∙ ap (λ j. Err (meant.NotOneCell o c j)) (sym is)

-- the way back
length_append : {A : Type 0} (xs ys : List A) → length xs ≤ length (xs ++ ys)
length_append [] ys = omega arith
length_append (x ∷ xs) ys = let h = length_append xs ys in omega (arith, h)

take_of : {A : Type 0} (xs ys : List A) → take (length xs) (xs ++ ys) ≡ xs
take_of [] ys = refl
take_of (x ∷ xs) ys = ap (λ l. x ∷ l) (take_of xs ys)

got_behind : {A : Type 0} (xs : List A) (y : A) (ys : List A) → slice_get (xs ++ y ∷ ys) (length xs) ≡ Some y
got_behind [] y ys = refl
got_behind (x ∷ xs) y ys = got_behind xs y ys

-- one list with something at its end, and another that is as long at least
longer : {A : Type 0} (xs ys : List A) (x y : A) (zs : List A) → ys ++ y ∷ [] ≡ (xs ++ x ∷ []) ++ zs → length xs ≤ length ys
longer [] ys x y zs e = omega arith
longer (w ∷ xs) [] x y zs e = absurd (no_tail xs x zs (let t : [] ≡ (xs ++ x ∷ []) ++ zs = cc in t))
  where
    no_tail : {A : Type 0} (us : List A) (u : A) (vs : List A) → [] ≡ (us ++ u ∷ []) ++ vs → ⊥
    no_tail [] u vs h = cc
    no_tail (a ∷ us) u vs h = cc
longer (w ∷ xs) (v ∷ ys) x y zs e = let rest : ys ++ y ∷ [] ≡ (xs ++ x ∷ []) ++ zs = cc in let h = longer xs ys x y zs rest in omega (arith, h)

take_front : {A : Type 0} (xs ys : List A) (x y : A) (zs : List A) → ys ++ y ∷ [] ≡ (xs ++ x ∷ []) ++ zs → take (length xs) ys ≡ xs
take_front [] ys x y zs e = refl
take_front (w ∷ xs) [] x y zs e = absurd (no_tail xs x zs (let t : [] ≡ (xs ++ x ∷ []) ++ zs = cc in t))
  where
    no_tail : {A : Type 0} (us : List A) (u : A) (vs : List A) → [] ≡ (us ++ u ∷ []) ++ vs → ⊥
    no_tail [] u vs h = cc
    no_tail (a ∷ us) u vs h = cc
take_front (w ∷ xs) (v ∷ ys) x y zs e =
    let rest : ys ++ y ∷ [] ≡ (xs ++ x ∷ []) ++ zs = cc in
    let head : v ≡ w = cc in
    ap (λ a. a ∷ take (length xs) ys) head ∙ ap (λ l. w ∷ l) (take_front xs ys x y zs rest)

got_front : {A : Type 0} (xs : List A) (x : A) (zs : List A) → slice_get ((xs ++ x ∷ []) ++ zs) (length xs) ≡ Some x
got_front [] x zs = refl
got_front (w ∷ xs) x zs = got_front xs x zs

pub can_undo : (k l : Stored) → GoesBack k l → CanUndo k l
can_undo k l h = record {
  good = longer k.earlier l.earlier k.present l.present h.later h.is;
  earlier = take_front k.earlier l.earlier k.present l.present h.later h.is;
  state = ap (λ xs. slice_get xs (length k.earlier)) h.is ∙ got_front k.earlier k.present h.later;
}

-- the state that is undone to is the one of before
pub undone : (k l u : Stored) → GoesBack k l → slice_get (l.earlier ++ l.present ∷ []) (length k.earlier) ≡ Some u.present →
    u.earlier ≡ take (length k.earlier) l.earlier → u ≡ k
undone k l u h present earlier =
    let c = can_undo k l h in
    let same : Some u.present ≡ Some k.present = sym present ∙ c.state in
    let now : u.present ≡ k.present = cc in
    ap (λ (x : Moment). let y : Stored = record { present = x; earlier = u.earlier } in y) now
    ∙ ap (λ (x : List Moment). let y : Stored = record { present = k.present; earlier = x } in y) (earlier ∙ c.earlier)

-- The cells that are kept don't matter to what a run ends in.
use Rattle.std.proofs.Common.{◌≡◌, refl, ap, sym, subst, ℕ, Bool, true, false, List, [], ◌∷◌, length, Ok, Err, Some, None}
use Rattle.std.specs.Prelude.{nat_lt, fold, sum_by, is_some, if◌then◌else◌, Result}
use Rattle.std.specs.List.{filter_map}
use Rattle.sheet_values.specs.declared.value.Value.{Value}
use Rattle.sheet_values.specs.declared.value.Value.TheVariants as value
use Rattle.sheet_columns.specs.declared.fault.Place.TheVariants as place
use Rattle.sheet_columns.specs.declared.formula.Core.{Core}
use Rattle.sheet_columns.specs.declared.statement.CoreStatement.{CoreStatement, Let, Change, New, Delete, Check, If', For', Reply, Row_of-CoreStatement}
use Rattle.sheet_columns.specs.declared.statement.CoreStatement.{end_of-CoreStatement as end, more_of-CoreStatement as more}
use Rattle.sheet_meaning.specs.Changes.{changed_set, with_set, with_object, without_object}
use Rattle.sheet_meaning.specs.Formula.{object_in, truth}
use Rattle.sheet_meaning.specs.Procedure.{beginning, course_of_allow, refuse_unfilled, test_filled, run_procedure}
use Rattle.sheet_meaning.specs.Run.{Outcome, both}
use Rattle.sheet_meaning.specs.Statements.{Point, keeping, next, with_value, ended, within, value_weight, max_reply, with_state, with_variable, store, make}
use Rattle.sheet_meaning.specs.Statements.{is_present, remove, remove_all, answer, still, course_ended, course_turn, course_turns}
use Rattle.sheet_meaning.specs.Statements.{course, course_block, course_statements, formula, target_object, workbook}
use Rattle.sheet_meaning.specs.Support.{Cell}
use Rattle.sheet_meaning.specs.WellFormed.{unfilled, stored_values, cell_count, max_objects, max_cells, max_values, max_number}
use Rattle.sheet_meaning.specs.Workbook.{object_at, set_in}
use Rattle.sheet_meaning.specs.declared.refusal.Refusal.{Refusal}
use Rattle.sheet_meaning.specs.declared.refusal.Refusal.TheVariants.{CheckFailed, Denied, Full}
use Rattle.sheet_meaning.specs.declared.refusal.Which.{Which}
use Rattle.sheet_meaning.specs.declared.refusal.Which.TheVariants as which
use Rattle.sheet_meaning.specs.declared.run.Run.{Run}
use Rattle.sheet_meaning.specs.declared.workbook.Caller.{Caller}
use Rattle.sheet_meaning.specs.declared.workbook.Schema.{Schema}
use Rattle.sheet_meaning.specs.declared.workbook.State.{State}

-- the same point, whichever cells are kept
abbrev pub Same : Point → Point → Type 0
Same p q = q ≡ record p { kept = q.kept }

-- the same end
abbrev pub Alike : Result Point Refusal → Result Point Refusal → Type 0
Alike (Ok p) (Ok q) = Same p q
Alike (Ok p) (Err y) = ⊥
Alike (Err x) (Ok q) = ⊥
Alike (Err x) (Err y) = x ≡ y

-- what goes on from a point, whichever cells are kept there
abbrev Free : (Point → Result Point Refusal) → Type 0
Free f = (p : Point) (kept : List Cell) → Alike (f p) (f (record p { kept = kept }))

alike_itself : (r : Result Point Refusal) → Alike r r
alike_itself (Ok p) = refl
alike_itself (Err x) = refl

from_same : (f : Point → Result Point Refusal) → Free f → (p q : Point) → Same p q → Alike (f p) (f q)
from_same f free p q same = subst (λ x. Alike (f p) (f x)) (sym same) (free p q.kept)

next_alike : (r s : Result Point Refusal) (f : Point → Result Point Refusal) → Free f → Alike r s → Alike (next r f) (next s f)
next_alike (Ok p) (Ok q) f free same = from_same f free p q same
next_alike (Ok p) (Err y) f free h = absurd h
next_alike (Err x) (Ok q) f free h = absurd h
next_alike (Err x) (Err y) f free same = same

within_alike : (limits : List (Which × ℕ × ℕ)) (r s : Result Point Refusal) → Alike r s → Alike (within limits r) (within limits s)
within_alike [] r s h = h
within_alike (l ∷ ls) r s h =
    elim (nat_lt l.2 l.1) as (λ b. Alike (if b then Err (Full l.0 l.2) else within ls r) (if b then Err (Full l.0 l.2) else within ls s)) [
      | true ↦ refl
      | false ↦ within_alike ls r s h
    ]

if_alike : (b : Bool) (r s t u : Result Point Refusal) → Alike r s → Alike t u → Alike (if b then r else t) (if b then s else u)
if_alike true r s t u h g = h
if_alike false r s t u h g = g

ended_alike : (p : Point) (kept : List Cell) (r s : Result Point Refusal) → Alike r s → Alike (ended p r) (ended (record p { kept = kept }) s)
ended_alike p kept (Ok a) (Ok b) same = ap (λ (x : Point). record x { variables = p.variables }) same
ended_alike p kept (Ok a) (Err y) h = absurd h
ended_alike p kept (Err x) (Ok b) h = absurd h
ended_alike p kept (Err x) (Err y) same = same

module _ (s : Schema) where
  from_alike : {A : Type 0} (r : Run A) (f : A → Point → Result Point Refusal) → ((a : A) → Free (f a)) → (p : Point) (kept : List Cell)
      → Alike (with_value r.outcome (λ a. f a (keeping s r.uses p))) (with_value r.outcome (λ a. f a (keeping s r.uses (record p { kept = kept }))))
  from_alike {A} r f free p kept =
      elim r.outcome as (λ (o : Outcome A).
      Alike (with_value o (λ a. f a (keeping s r.uses p))) (with_value o (λ a. f a (keeping s r.uses (record p { kept = kept }))))) [
        | Ok a ↦ free a (keeping s r.uses p) (keeping s r.uses (record p { kept = kept })).kept
        | Err e ↦ refl
      ]

  removed_same : (p q : Point) (o : ℕ) → Same p q → Same (remove s p o) (remove s q o)
  removed_same p q o same = subst (λ x. Same (remove s p o) (remove s x o)) (sym same) (at q.kept)
    where
      at : (kept : List Cell) → Same (remove s p o) (remove s (record p { kept = kept }) o)
      at kept =
          elim (is_some (object_at p.state.objects o)) as (λ b. Same (if b then with_state s p (without_object p.state o) else p)
          (if b then with_state s (record p { kept = kept }) (without_object p.state o) else record p { kept = kept })) [
            | true ↦ refl
            | false ↦ refl
          ]

  all_removed_same : (os : List ℕ) (p q : Point) → Same p q → Same (fold (remove s) p os) (fold (remove s) q os)
  all_removed_same [] p q same = same
  all_removed_same (o ∷ os) p q same = all_removed_same os (remove s p o) (remove s q o) (removed_same p q o same)

  turn_alike : {m : _} (row : Row_of-CoreStatement m) → Free (λ p. (course_block row s p).end) → (x : Value)
      → Free (λ p. (course_turn (course_block row s) x p).end)
  turn_alike row free x p kept =
      let q = record p { kept = kept } in
      elim (is_present p.state x) as (λ b.
      Alike (if b then course_ended p (course_block row s (with_variable p (x ∷ []))) else still p (Ok p)).end
      (if b then course_ended q (course_block row s (with_variable q (x ∷ []))) else still q (Ok q)).end) [
        | true ↦ ended_alike p kept (course_block row s (with_variable p (x ∷ []))).end (course_block row s (with_variable q (x ∷ []))).end
            (free (with_variable p (x ∷ [])) kept)
        | false ↦ refl
      ]

  turns_alike : {m : _} (row : Row_of-CoreStatement m) → Free (λ p. (course_block row s p).end) → (xs : List Value)
      → Free (λ p. (course_turns (course_block row s) xs p).end)
  turns_alike row free [] p kept = refl
  turns_alike row free (x ∷ xs) p kept =
      next_alike (course_turn (course_block row s) x p).end (course_turn (course_block row s) x (record p { kept = kept })).end
      (λ q. (course_turns (course_block row s) xs q).end) (turns_alike row free xs) (turn_alike row free x p kept)

  mutual
    free : (x : CoreStatement) → Free (λ p. (course x s p).end)
    free (Let i e) p kept = from_alike (formula s p i e) (λ set y. Ok (with_variable y set)) (λ set y k. refl) p kept
    free (Change i how t e) p kept =
        from_alike (both (target_object s p i t) (formula s p i e)) (λ x y. store s how x.0 t.column x.1 y)
        (λ x y k.
        let u = with_set y.state x.0 t.column (changed_set how (set_in y.state.cells x.0 t.column) x.1) in
        within_alike ((which.Values, stored_values u.cells, max_values) ∷ []) (Ok (with_state s y u)) (Ok (with_state s (record y { kept = k }) u)) refl) p kept
    free (New i t) p kept =
        from_alike (target_object s p i t) (λ o y. make s t.column o y)
        (λ o y k.
        let u = with_object s y.state t.column o in
        within_alike
        ((which.Objects, length u.objects, max_objects)
        ∷ (which.Cells, cell_count (workbook s u), max_cells)
        ∷ (which.Values, stored_values u.cells, max_values)
        ∷ (which.Numbers, y.state.next, max_number)
        ∷ [])
        (Ok (with_variable (with_state s y u) (value.Object y.state.next ∷ [])))
        (Ok (with_variable (with_state s (record y { kept = k }) u) (value.Object y.state.next ∷ []))) refl) p kept
    free (Delete i e) p kept =
        from_alike (formula s p i e) (λ set y. (remove_all s y (filter_map object_in set)).end)
        (λ set y k. all_removed_same (filter_map object_in set) y (record y { kept = k }) refl) p kept
    free (Check i e message) p kept =
        from_alike (truth (place.Statement i) (formula s p i e)) (λ holds y. if holds then Ok y else Err (CheckFailed i message))
        (λ holds y k. if_alike holds (Ok y) (Ok (record y { kept = k })) (Err (CheckFailed i message)) (Err (CheckFailed i message)) refl refl) p kept
    free (If' i e m body l otherwise) p kept =
        from_alike (truth (place.Statement i) (formula s p i e))
        (λ holds y. ended y (if holds then course_block body s y else course_block otherwise s y).end)
        (λ holds y k.
        ended_alike y k (if holds then course_block body s y else course_block otherwise s y).end
        (if holds then course_block body s (record y { kept = k }) else course_block otherwise s (record y { kept = k })).end
        (elim holds as (λ b. Alike (if b then course_block body s y else course_block otherwise s y).end
        (if b then course_block body s (record y { kept = k }) else course_block otherwise s (record y { kept = k })).end) [
          | true ↦ block_free body y k
          | false ↦ block_free otherwise y k
        ])) p kept
    free (For' i e m body) p kept =
        from_alike (formula s p i e) (λ set y. (course_turns (course_block body s) set y).end) (λ set. turns_alike body (block_free body) set) p kept
    free (Reply i e) p kept =
        from_alike (formula s p i e) (λ set y. answer set y)
        (λ set y k.
        within_alike ((which.Reply, sum_by value_weight set, max_reply) ∷ []) (Ok (record y { reply = set })) (Ok (record y { reply = set; kept = k })) refl) p kept

    block_free : {m : _} (row : Row_of-CoreStatement m) → Free (λ p. (course_block row s p).end)
    block_free end p kept = refl
    block_free (more x rest) p kept =
        next_alike (course x s p).end (course x s (record p { kept = kept })).end (λ q. (course_block rest s q).end) (block_free rest) (free x p kept)

  statements_free : (xs : List CoreStatement) → Free (λ p. (course_statements xs s p).end)
  statements_free [] p kept = refl
  statements_free (x ∷ xs) p kept =
      next_alike (course x s p).end (course x s (record p { kept = kept })).end (λ q. (course_statements xs s q).end) (statements_free xs) (free x p kept)

  filled_free : Free (test_filled s)
  filled_free p kept =
      elim (unfilled (workbook s p.state)) as (λ o. Alike (refuse_unfilled p o) (refuse_unfilled (record p { kept = kept }) o)) [
        | None ↦ refl
        | Some x ↦ refl
      ]

  pub runs_alike : (allow : Core) (body : List CoreStatement) (caller : Caller) (arguments : List Value) (state : State) (kept other : List Cell)
      → Alike (run_procedure s allow body caller arguments state kept) (run_procedure s allow body caller arguments state other)
  runs_alike allow body caller arguments state kept other =
      let p = beginning caller arguments state kept in
      let q = beginning caller arguments state other in
      let r = truth (place.Statement 0) (formula s p 0 allow) in
      next_alike (course_of_allow s allow p).end (course_of_allow s allow q).end
      (λ x. next (course_statements body s x).end (λ y. test_filled s y))
      (λ x k. next_alike (course_statements body s x).end (course_statements body s (record x { kept = k })).end (λ y. test_filled s y) filled_free
      (statements_free body x k))
      (from_alike r (λ holds y. if holds then Ok y else Err Denied)
      (λ holds y k. if_alike holds (Ok y) (Ok (record y { kept = k })) (Err Denied) (Err Denied) refl refl) p other)

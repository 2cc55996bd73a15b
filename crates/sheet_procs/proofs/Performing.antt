-- The parts of a procedure's run put together.
use Rattle.std.proofs.Common.{◌≡◌, refl, sym, ap, ◌∙◌, subst, ℕ, zero, suc, ◌<◌, List, [], ◌∷◌, length, arith, Ok, Err, Some}
use Rattle.std.specs.Prelude.{Result, slice_get}
use Rattle.sheet_values.specs.declared.value.Value.{Value}
use Rattle.sheet_books.specs.declared.body.Procedure.{Procedure}
use Rattle.sheet_books.specs.declared.book.Contents.{Contents}
use Rattle.sheet_books.specs.Schemas.{schema_of}
use Rattle.sheet_engine.specs.Seen.{Seen}
use Rattle.sheet_meaning.specs.Procedure.{test_filled}
use Rattle.sheet_meaning.specs.Statements.{Point, workbook, next}
use Rattle.sheet_meaning.specs.WellFormed.{IsFilled}
use Rattle.sheet_meaning.specs.declared.refusal.Refusal.{Refusal}
use Rattle.sheet_meaning.specs.declared.workbook.Caller.{Caller}
use Rattle.sheet_state.specs.Stored.{Stored}
use Rattle.sheet_procs.specs.Acts.{ActsAs}
use Rattle.sheet_procs.specs.Performing.{first_progress, parts, Performed, Closes}
use Rattle.sheet_procs.specs.Runs.{point, Runs}
use Rattle.sheet_procs.specs.declared.progress.Progress.{Progress}
use Rattle.sheet_procs.specs.declared.refusal.ProcedureRefusal.{ProcedureRefusal}
use Rattle.sheet_procs.specs.declared.refusal.ProcedureRefusal.TheVariants as refused
use Rattle.sheet_procs.proofs.Going.{UnderWay, begins, goes_on, refusal_moved, back_on, back_itself}
use Rattle.sheet_procs.proofs.Starting.{tested, can_undo}

module _ (b : Contents) where
  -- the rest of a run
  pub performed_on : (k l o : Stored) (m n : Progress) (f g : Point → Result Point Refusal) (r : Result (List Value) ProcedureRefusal) →
      UnderWay b k l m n f g → Performed b l o g n r → Performed b k o f m r
  performed_on k l o m n f g (Ok reply) w h =
      (λ kept. let a = w.goes kept in let p = h.0 a.0 in (p.0, a.1 ∙ p.1, p.2, p.3), h.1, back_on k l o w.back h.2)
  performed_on k l o m n f g (Err x) w h =
      (λ kept. let a = w.goes kept in refusal_moved x (g (point l n a.0)) (f (point k m kept)) (λ e is. a.1 ∙ is) (h.0 a.0), back_on k l o w.back h.1)

  -- a part that went well, then the rest
  pub then_performed : (k l o : Stored) (m n : Progress) (h g : Point → Result Point Refusal) (r : Result (List Value) ProcedureRefusal) →
      Runs b k l m n (Ok tt) h → Performed b l o g n r → Performed b k o (λ p. next (h p) g) m r
  then_performed k l o m n h g r runs rest =
      performed_on k l o m n (λ p. next (h p) g) g r
      (goes_on b k k l m m n (λ p. next (h p) g) h g (begins b k m (λ p. next (h p) g)) runs) rest

  -- a part that is refused
  pub refused_performed : (k l : Stored) (m n : Progress) (h g : Point → Result Point Refusal) (x : ProcedureRefusal) → Runs b k l m n (Err x) h →
      Performed b k l (λ p. next (h p) g) m (Err x)
  refused_performed k l m n h g x runs =
      (λ kept. refusal_moved x (h (point k m kept)) (next (h (point k m kept)) g) (λ e is. ap (λ r. next r g) is) (runs.ends kept), runs.back)

  -- the end
  pub closing : (k : Stored) (m : Progress) (r : Result (List Value) ProcedureRefusal) → Closes r b k m → Performed b k k (test_filled (schema_of b)) m r
  closing k m (Ok reply) h = (λ kept. (point k m kept, tested (schema_of b) (point k m kept) h.0, h.1, refl), h.0, back_itself k)
  closing k m (Err x) h = (h, back_itself k)

  pub other_state : (k l o : Stored) (m : Progress) (f : Point → Result Point Refusal) (r : Result (List Value) ProcedureRefusal) → l ≡ o →
      Performed b k l f m r → Performed b k o f m r
  other_state k l o m f r e h = subst (λ y. Performed b k y f m r) e h

-- a call that is accepted
pub accepted : (old new : Seen) (p : Procedure) (number : ℕ) (caller : Caller) (arguments reply : List Value) → slice_get old.book.procedures number ≡ Some p →
    new.book ≡ old.book → Performed old.book old.state new.state (parts old.book p) (first_progress caller arguments) (Ok reply) →
    ActsAs number caller arguments (Ok reply) old new
accepted old new p number caller arguments reply is same h =
    let a = h.0 old.kept in
    record {
      procedure = p;
      is = is;
      acts = (
        a.0,
        a.1,
        record {
          reply = a.2;
          state = a.3;
          filled = subst (λ b. IsFilled (workbook (schema_of b) new.state.present.state)) (sym same) h.1;
          back = can_undo old.state new.state h.2;
        },
      );
    }

-- a call that is refused
pub turned_away : (old new : Seen) (k : Stored) (p : Procedure) (number : ℕ) (caller : Caller) (arguments : List Value) (x : ProcedureRefusal) →
    slice_get old.book.procedures number ≡ Some p → Performed old.book old.state k (parts old.book p) (first_progress caller arguments) (Err x) →
    new.state ≡ old.state → ActsAs number caller arguments (Err x) old new
turned_away old new k p number caller arguments x is h same = record { procedure = p; is = is; acts = (h.0 old.kept, same) }

-- there is a procedure below the count
there_is : {A : Type 0} (xs : List A) (i : ℕ) → i < length xs → (x : A) × (slice_get xs i ≡ Some x)
there_is [] i lt = absurd (omega (arith, lt))
there_is (x ∷ xs) zero lt = (x, refl)
there_is (x ∷ xs) (suc i) lt = there_is xs i (omega (arith, lt))

-- a call for which there was no memory
pub starved : (old : Seen) (number : ℕ) (caller : Caller) (arguments : List Value) → number < length old.book.procedures →
    ActsAs number caller arguments (Err refused.NoMemory) old old
starved old number caller arguments lt =
    let p = there_is old.book.procedures number lt in
    record { procedure = p.0; is = p.1; acts = (tt, refl) }

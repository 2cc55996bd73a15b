-- An evaluation that uses a formula cell without outcome has none.
use Rattle.std.proofs.Common.{◌≡◌, refl, ap, ◌∙◌, subst, ⊎_elim, Bool, true, false, List, [], ◌∷◌}
use Rattle.std.specs.Prelude.{Ok, Err, if◌then◌else◌}
use Rattle.sheet_values.specs.declared.value.Value.{Value}
use Rattle.sheet_values.specs.declared.value.Value.TheVariants as value
use Rattle.sheet_columns.specs.declared.fault.Fault.{Fault}
use Rattle.sheet_columns.specs.declared.fault.Fault.TheVariants.{Cycle, NotOne, Overflow, ZeroDivisor, TextTooLong}
use Rattle.sheet_columns.specs.declared.fault.Place.{Place}
use Rattle.sheet_columns.specs.declared.formula.Connective.{Connective}
use Rattle.sheet_columns.specs.declared.formula.Core.{Core}
use Rattle.sheet_meaning.specs.declared.run.Use.{Use}
use Rattle.sheet_meaning.specs.declared.run.Use.TheVariants.{Read, Cell}
use Rattle.sheet_meaning.specs.Run.{Outcome, none, is_none, given, done, after, run_after, both_outcomes, finish, and_then, both, decides, second_after_fault}
use Rattle.sheet_meaning.specs.Run.{second_truth, connect}
use Rattle.sheet_meaning.specs.Formula.{World, Variables, run, live_reads}
use Rattle.sheet_meaning.proofs.Members.{IsIn, in_either}
use Rattle.sheet_meaning.proofs.Relation.{IsKept, HoldsAtReads, behind_fault, second_part, as_part, related}
use Rattle.sheet_meaning.specs.declared.run.Run.{Run}

-- a formula cell without outcome
abbrev pub IsNoneAt : World → Use → Type 0
IsNoneAt w (Read i) = ⊥
IsNoneAt w (Cell o c) = w.worked o c ≡ none

module _ (w : World) where
  pub record Strict (A : Type 0) (r s : Run A) : Type 0 where
    pub is : (x : Use) → IsIn x r.uses → IsNoneAt w x → r.outcome ≡ none

  none_left : {A B : Type 0} (q : Outcome B) → both_outcomes {A = A} none q ≡ none
  none_left (Ok b) = refl
  none_left (Err Cycle) = refl
  none_left (Err (NotOne how p)) = refl
  none_left (Err (Overflow p)) = refl
  none_left (Err (ZeroDivisor p)) = refl
  none_left (Err (TextTooLong p)) = refl

  none_right : {A B : Type 0} (o : Outcome A) → both_outcomes {B = B} o none ≡ none
  none_right (Ok a) = refl
  none_right (Err e) = refl

  nothing_used : {A : Type 0} (o : Outcome A) (s : Run A) → Strict A (given o) s
  nothing_used o s = record { is = λ x h n. absurd h }

  chosen : {A : Type 0} (r s q t : Run A) → Strict A r s → Strict A q t → (b : Bool) → Strict A (if b then r else q) (if b then s else t)
  chosen r s q t h k true = h
  chosen r s q t h k false = k

  module _ {A B : Type 0} where
    finishes : (f : A → Outcome B) (r s : Run A) → Strict A r s → Strict B (finish r f) (finish s f)
    finishes f r s h = record { is = λ x i n. ap (λ o. after o f) (h.is x i n) }

    next_strict : (f g : A → Run B) → ((a : A) → Strict B (f a) (g a)) → (o : Outcome A) → Strict B (run_after o f) (run_after o f)
    next_strict f g h (Ok a) = record { is = (h a).is }
    next_strict f g h (Err e) = nothing_used (Err e) (given (Err e))

    follows : (f g : A → Run B) (r s : Run A) → Strict A r s → ((a : A) → Strict B (f a) (g a)) → Strict B (and_then r f) (and_then s g)
    follows f g r s first h = record {
      is = λ x i n.
          ⊎_elim
          (λ a. ap (λ o. (run_after o f).outcome) (first.is x a n))
          (λ b. (next_strict f g h r.outcome).is x b n)
          (in_either x r.uses (run_after r.outcome f).uses i);
    }

    boths : (r s : Run A) (q t : Run B) → Strict A r s → Strict B q t → Strict (A × B) (both r q) (both s t)
    boths r s q t c d = record {
      is = λ x i n.
          ⊎_elim
          (λ a. ap (λ o. both_outcomes o q.outcome) (c.is x a n) ∙ none_left q.outcome)
          (λ b. ap (both_outcomes r.outcome) (d.is x b n) ∙ none_right r.outcome)
          (in_either x r.uses q.uses i);
    }

  after_fault : (e : Fault) (q t : Run Bool) → Strict Bool q t → Strict Bool (second_after_fault e q) (second_after_fault e t)
  after_fault e q t h =
      let parts = finishes (λ (x : Bool × Bool). Ok x.1) _ _ (boths (given (Err e)) (given (Err e)) q t (nothing_used {A = Bool} (Err e) _) h) in
      let one_side = subst (λ r. Strict Bool r (second_part e t)) (as_part e q) parts in
      chosen (given (Err e)) (given (Err e)) (behind_fault e q) (behind_fault e t) (nothing_used (Err e) _)
      (subst (λ r. Strict Bool (behind_fault e q) r) (as_part e t) one_side) (is_none e)

  second_strict : (c : Connective) (q t : Run Bool) → Strict Bool q t → (o : Outcome Bool) → Strict Bool (second_truth c o q) (second_truth c o t)
  second_strict c q t h (Ok a) = chosen (done a) (done a) q t (nothing_used (Ok a) (done a)) h (decides c a)
  second_strict c q t h (Err e) = after_fault e q t h

  connects : (c : Connective) (r s q t : Run Bool) → Strict Bool r s → Strict Bool q t → Strict Bool (connect c r q) (connect c s t)
  connects c r s q t first second = record {
    is = λ x i n.
        ⊎_elim
        (λ a. ap (λ o. (second_truth c o q).outcome) (first.is x a n))
        (λ b. (second_strict c q t second r.outcome).is x b n)
        (in_either x r.uses (second_truth c r.outcome q).uses i);
  }

  kept : IsKept Strict
  kept = record {
    givens = λ o. nothing_used o (given o);
    finishes = finishes;
    follows = follows;
    boths = boths;
    connects = connects;
  }

  no_cell : (s : List Value) (x : Use) → IsIn x (live_reads s) → IsNoneAt w x → ⊥
  no_cell [] x h n = absurd h
  no_cell (value.Truth b ∷ s) x h n = no_cell s x h n
  no_cell (value.Number i ∷ s) x h n = no_cell s x h n
  no_cell (value.Text t ∷ s) x h n = no_cell s x h n
  no_cell (value.Object o ∷ s) x h n = ⊎_elim (λ e. subst (IsNoneAt w) e n) (λ k. no_cell s x k n) h

  -- the one use
  only_use : (x y : Use) → IsIn x (y ∷ []) → IsNoneAt w x → IsNoneAt w y
  only_use x y h n = ⊎_elim (λ e. subst (IsNoneAt w) e n) (λ k. absurd k) h

  reads : HoldsAtReads Strict w w
  reads = record {
    variables = λ s. record { is = λ x h n. absurd (no_cell s x h n) };
    extents = λ o c. record { is = λ x h n. absurd (only_use x _ h n) };
    stored = λ o c. record { is = λ x h n. absurd (only_use x _ h n) };
    worked = λ o c. record { is = λ x h n. only_use x _ h n };
    parents = λ o. record { is = λ x h n. absurd (only_use x _ h n) };
  }

  -- an evaluation that uses a formula cell without outcome has none
  pub strict : (p : Place) (e : Core) (v : Variables) (x : Use) → IsIn x (run e w p v).uses → IsNoneAt w x → (run e w p v).outcome ≡ none
  strict p e v = (related Strict kept w w reads p e v).is

-- More settled cells leave every outcome as it is, and drop no use.
use Rattle.std.proofs.Common.{◌≡◌, refl, sym, ap, ◌∙◌, subst, inl, inr, ⊎_elim, ℕ, Bool, true, false, List}
use Rattle.std.specs.Prelude.{◌⊎◌, Ok, Err, if◌then◌else◌}
use Rattle.sheet_values.specs.declared.value.Value.{Value}
use Rattle.sheet_columns.specs.declared.fault.Fault.{Fault}
use Rattle.sheet_columns.specs.declared.fault.Fault.TheVariants.{Cycle, NotOne, Overflow, ZeroDivisor, TextTooLong}
use Rattle.sheet_columns.specs.declared.fault.Place.{Place}
use Rattle.sheet_columns.specs.declared.formula.Connective.{Connective}
use Rattle.sheet_columns.specs.declared.formula.Core.{Core}
use Rattle.sheet_meaning.specs.Run.{Outcome, none, is_none, given, done, after, run_after, both_outcomes, finish, and_then, both, decides, second_after_fault}
use Rattle.sheet_meaning.specs.Run.{second_truth, connect}
use Rattle.sheet_meaning.specs.Formula.{Variables, run}
use Rattle.sheet_meaning.specs.Workbook.{world}
use Rattle.sheet_meaning.proofs.Members.{Within, within_itself, nothing_within, within_append}
use Rattle.sheet_meaning.proofs.Relation.{IsKept, HoldsAtReads, behind_fault, second_part, as_part, related}
use Rattle.sheet_meaning.specs.declared.run.Run.{Run}
use Rattle.sheet_meaning.specs.declared.workbook.Workbook.{Workbook}

-- an outcome that is there stays
abbrev pub IsBelow : {A : Type 0} → Outcome A → Outcome A → Type 0
IsBelow o q = (o ≡ none) ⊎ (q ≡ o)

pub record RunBelow (A : Type 0) (r s : Run A) : Type 0 where
  pub is : IsBelow r.outcome s.outcome
  pub uses : Within r.uses s.uses

same : {A : Type 0} (r : Run A) → RunBelow A r r
same r = record { is = inr refl; uses = within_itself r.uses }

-- no outcome is below every run
nothing : {A : Type 0} (s : Run A) → RunBelow A (given none) s
nothing s = record { is = inl refl; uses = nothing_within s.uses }

none_left : {A B : Type 0} (q : Outcome B) → both_outcomes {A = A} none q ≡ none
none_left (Ok b) = refl
none_left (Err Cycle) = refl
none_left (Err (NotOne how p)) = refl
none_left (Err (Overflow p)) = refl
none_left (Err (ZeroDivisor p)) = refl
none_left (Err (TextTooLong p)) = refl

none_right : {A B : Type 0} (o : Outcome A) → both_outcomes {B = B} o none ≡ none
none_right (Ok a) = refl
none_right (Err e) = refl

chosen : {A : Type 0} (r s q t : Run A) → RunBelow A r s → RunBelow A q t → (b : Bool) → RunBelow A (if b then r else q) (if b then s else t)
chosen r s q t h k true = h
chosen r s q t h k false = k

module _ {A B : Type 0} where
  finishes : (f : A → Outcome B) (r s : Run A) → RunBelow A r s → RunBelow B (finish r f) (finish s f)
  finishes f r s b = record { is = ⊎_elim (λ e. inl (ap (λ o. after o f) e)) (λ e. inr (ap (λ o. after o f) e)) b.is; uses = b.uses }

  same_next : (f g : A → Run B) → ((a : A) → RunBelow B (f a) (g a)) → (o : Outcome A) → RunBelow B (run_after o f) (run_after o g)
  same_next f g h (Ok a) = h a
  same_next f g h (Err e) = same (given (Err e))

  next_below : (f g : A → Run B) → ((a : A) → RunBelow B (f a) (g a)) → (o q : Outcome A) → IsBelow o q → RunBelow B (run_after o f) (run_after q g)
  next_below f g h o q b =
      ⊎_elim
      (λ e. subst (λ x. RunBelow B (run_after x f) (run_after q g)) (sym e) (nothing (run_after q g)))
      (λ e. subst (λ x. RunBelow B (run_after o f) (run_after x g)) (sym e) (same_next f g h o))
      b

  follows : (f g : A → Run B) (r s : Run A) → RunBelow A r s → ((a : A) → RunBelow B (f a) (g a)) → RunBelow B (and_then r f) (and_then s g)
  follows f g r s b h =
      let next = next_below f g h r.outcome s.outcome b.is in
      record {
        is = next.is;
        uses = within_append r.uses s.uses (run_after r.outcome f).uses (run_after s.outcome g).uses b.uses next.uses;
      }

  both_below : (o q : Outcome A) (o' q' : Outcome B) → IsBelow o q → IsBelow o' q' → IsBelow (both_outcomes o o') (both_outcomes q q')
  both_below o q o' q' b c =
      ⊎_elim
      (λ e. inl (ap (λ x. both_outcomes x o') e ∙ none_left o'))
      (λ e. ⊎_elim (λ f. inl (ap (both_outcomes o) f ∙ none_right o)) (λ f. inr (ap (λ x. both_outcomes x q') e ∙ ap (both_outcomes o) f)) c)
      b

  boths : (r s : Run A) (q t : Run B) → RunBelow A r s → RunBelow B q t → RunBelow (A × B) (both r q) (both s t)
  boths r s q t b c =
      record { is = both_below r.outcome s.outcome q.outcome t.outcome b.is c.is; uses = within_append r.uses s.uses q.uses t.uses b.uses c.uses }

after_fault : (e : Fault) (q t : Run Bool) → RunBelow Bool q t → RunBelow Bool (second_after_fault e q) (second_after_fault e t)
after_fault e q t h =
    let parts = finishes (λ (x : Bool × Bool). Ok x.1) _ _ (boths (given (Err e)) (given (Err e)) q t (same {A = Bool} (given (Err e))) h) in
    let one_side = subst (λ r. RunBelow Bool r (second_part e t)) (as_part e q) parts in
    chosen (given (Err e)) (given (Err e)) (behind_fault e q) (behind_fault e t) (same _)
    (subst (λ r. RunBelow Bool (behind_fault e q) r) (as_part e t) one_side) (is_none e)

same_second : (c : Connective) (q t : Run Bool) → RunBelow Bool q t → (o : Outcome Bool) → RunBelow Bool (second_truth c o q) (second_truth c o t)
same_second c q t h (Ok a) = chosen (done a) (done a) q t (same (done a)) h (decides c a)
same_second c q t h (Err e) = after_fault e q t h

second_below : (c : Connective) (q t : Run Bool) → RunBelow Bool q t → (o p : Outcome Bool) → IsBelow o p →
    RunBelow Bool (second_truth c o q) (second_truth c p t)
second_below c q t h o p b =
    ⊎_elim
    (λ e. subst (λ x. RunBelow Bool (second_truth c x q) (second_truth c p t)) (sym e) (nothing (second_truth c p t)))
    (λ e. subst (λ x. RunBelow Bool (second_truth c o q) (second_truth c x t)) (sym e) (same_second c q t h o))
    b

connects : (c : Connective) (r s q t : Run Bool) → RunBelow Bool r s → RunBelow Bool q t → RunBelow Bool (connect c r q) (connect c s t)
connects c r s q t b h =
    let next = second_below c q t h r.outcome s.outcome b.is in
    record {
      is = next.is;
      uses = within_append r.uses s.uses (second_truth c r.outcome q).uses (second_truth c s.outcome t).uses b.uses next.uses;
    }

kept : IsKept RunBelow
kept = record {
  givens = λ o. same (given o);
  finishes = finishes;
  follows = follows;
  boths = boths;
  connects = connects;
}

module _ (b : Workbook) (t u : ℕ → ℕ → Outcome (List Value)) (h : (o c : ℕ) → IsBelow (t o c) (u o c)) where
  reads : HoldsAtReads RunBelow (world b t) (world b u)
  reads = record {
    variables = λ s. same _;
    extents = λ o c. same _;
    stored = λ o c. same _;
    worked = λ o c. record { is = h o c; uses = within_itself _ };
    parents = λ o. same _;
  }

  pub run_below : (p : Place) (e : Core) (v : Variables) → RunBelow (List Value) (run e (world b t) p v) (run e (world b u) p v)
  run_below p e v = related RunBelow kept (world b t) (world b u) reads p e v

-- The outcomes of the formulas of statements.
use Rattle.std.proofs.Common.{◌≡◌, ap, Ok, Err}
use Rattle.sheet_meaning.specs.Run.{Outcome, after, both_outcomes}
use Rattle.sheet_procs.specs.Runs.{Comes}
use Rattle.sheet_procs.specs.declared.refusal.ProcedureRefusal.{ProcedureRefusal}
use Rattle.sheet_procs.specs.declared.refusal.ProcedureRefusal.TheVariants as refused

-- a refusal for an outcome is one for what goes on from it
pub after_refused : {A B : Type 0} (x : ProcedureRefusal) (o : Outcome A) (f : A → Outcome B) → Comes (Err x) o → Comes {A = B} (Err x) (after o f)
after_refused refused.Denied o f h = absurd h
after_refused (refused.CheckFailed n message) o f h = absurd h
after_refused (refused.FormulaFault e) o f h = ap (λ p. after p f) h
after_refused (refused.NotOneCell p c n) o f h = absurd h
after_refused (refused.Full which limit) o f h = absurd h
after_refused refused.NoMemory o f h = tt

-- parts that both have a value
pub both_known : {A B : Type 0} (o : Outcome A) (p : Outcome B) (x : A × B) → both_outcomes o p ≡ Ok x → (o ≡ Ok x.0) × (p ≡ Ok x.1)
both_known {A} {B} (Ok a) (Ok b) x h =
    let same : (a, b) ≡ x = cc in
    (ap (λ (y : A × B). Ok y.0) same, ap (λ (y : A × B). Ok y.1) same)
both_known (Ok a) (Err f) x h = cc
both_known (Err e) (Ok b) x h = cc
both_known (Err e) (Err f) x h = cc

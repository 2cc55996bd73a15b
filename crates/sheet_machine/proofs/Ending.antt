-- A run that ended is accepted, or undone.
use Rattle.std.proofs.Common.{◌≡◌, refl, ap, sym, ◌∙◌, ℕ, List, [], ◌∷◌, ◌++◌, Ok, Err, Some}
use Rattle.std.specs.Prelude.{slice_get, Result}
use Rattle.sheet_values.specs.declared.value.Value.{Value}
use Rattle.sheet_meaning.specs.Statements.{Point}
use Rattle.sheet_meaning.specs.declared.refusal.Refusal.{Refusal as Stop}
use Rattle.sheet_requests.specs.declared.reply.Answer.TheVariants as answer
use Rattle.sheet_state.specs.Stored.{Moment}
use Rattle.sheet_machine_laws.specs.Act.{accept, after_run, by_run}
use Rattle.sheet_machine_laws.specs.Machine.{Holding}
use Rattle.sheet_meaning.specs.declared.refusal.Refusal.TheVariants as meant
use Rattle.sheet_procs.specs.Runs.{IsRefusal}
use Rattle.sheet_procs.specs.declared.refusal.ProcedureRefusal.{ProcedureRefusal}
use Rattle.sheet_procs.specs.declared.refusal.ProcedureRefusal.TheVariants as procs
use Rattle.sheet_machine.specs.Held.{first_of}
use Rattle.sheet_machine.proofs.KeptFree.{Alike}

-- the first of the moments that undo keeps
pub first_is : (ms : List Moment) (m x : Moment) → slice_get (ms ++ m ∷ []) 0 ≡ Some x → x ≡ first_of ms m
first_is [] m x e = let same : m ≡ x = cc in sym same
first_is (y ∷ ys) m x e = let same : y ≡ x = cc in sym same

pub record EndsToo (p : Point) (r : Result Point Stop) : Type 0 where
  pub q : Point
  pub is : r ≡ Ok q
  pub state : q.state ≡ p.state
  pub reply : q.reply ≡ p.reply

-- a run ends alike, whichever cells are kept
pub ends_too : (r s : Result Point Stop) (p : Point) → r ≡ Ok p → Alike r s → EndsToo p s
ends_too (Ok a) (Ok b) p e same =
    let here : a ≡ p = cc in
    record {
      q = b;
      is = refl;
      state = ap (λ (x : Point). x.state) same ∙ ap (λ (x : Point). x.state) here;
      reply = ap (λ (x : Point). x.reply) same ∙ ap (λ (x : Point). x.reply) here;
    }
ends_too (Ok a) (Err y) p e h = absurd h
ends_too (Err x) (Ok b) p e h = absurd h
ends_too (Err x) (Err y) p e h = cc

pub refused_too : (r s : Result Point Stop) (x : Stop) → r ≡ Err x → Alike r s → s ≡ Err x
refused_too (Ok a) (Ok b) x e h = cc
refused_too (Ok a) (Err y) x e h = absurd h
refused_too (Err z) (Ok b) x e h = absurd h
refused_too (Err z) (Err y) x e same = ap Err (sym same) ∙ e

-- an accepted run is that of the machine
pub run_is : (old mid : Holding) (k n : ℕ) (line : List ℕ) (p : Point) (set : List Value) (s : Result Point Stop) → EndsToo p s
    → set ≡ p.reply → mid ≡ record old { state = p.state; kept = [] } → accept old mid k n line (answer.Values set) ≡ by_run old k n line s
run_is old mid k n line p set s e reply is =
    let after : mid ≡ after_run old e.q = is ∙ ap (λ x. record old { state = x; kept = [] }) (sym e.state) in
    let same : set ≡ e.q.reply = reply ∙ sym e.reply in
    ap (λ m. accept old m k n line (answer.Values set)) after ∙ ap (λ x. accept old (after_run old e.q) k n line (answer.Values x)) same
    ∙ ap (by_run old k n line) (sym e.is)

-- a refusal is the same, whichever cells are kept
pub refusal_too : (x : ProcedureRefusal) (r s : Result Point Stop) → IsRefusal x r → Alike r s → IsRefusal x s
refusal_too procs.Denied r s e h = refused_too r s meant.Denied e h
refusal_too (procs.CheckFailed n message) r s e h = refused_too r s (meant.CheckFailed n message) e h
refusal_too (procs.FormulaFault f) r s e h = refused_too r s (meant.FormulaFault f) e h
refusal_too (procs.NotOneCell o c n) r s e h = refused_too r s (meant.NotOneCell o c n) e h
refusal_too (procs.Full which limit) r s e h = refused_too r s (meant.Full which limit) e h
refusal_too procs.NoMemory r s e h = tt

-- The refusals of a procedure for those of its parts.
use Rattle.std.specs.Prelude.{◌≡◌, Result, Ok, Err}
use Rattle.sheet_state.specs.declared.refusal.StateRefusal.{StateRefusal}
use Rattle.sheet_state.specs.declared.refusal.StateRefusal.TheVariants.{Full, NoMemory}
use Rattle.sheet_procs.specs.declared.refusal.ProcedureRefusal.{ProcedureRefusal}
use Rattle.sheet_procs.specs.declared.refusal.ProcedureRefusal.TheVariants as refused

-- a full count stays one, and want of memory too
abbrev pub IsOf : StateRefusal → ProcedureRefusal → Type 0
IsOf (Full which limit) r = r ≡ refused.Full which limit
IsOf NoMemory r = r ≡ refused.NoMemory

-- something is noted, or there was no memory
abbrev pub IsNoted : Result (Unit {0}) ProcedureRefusal → Type 0 → Type 0
IsNoted (Ok u) P = P
IsNoted (Err x) P = x ≡ refused.NoMemory

-- The answer of an evaluation.
use Rattle.std.specs.Prelude.{◌≡◌, [], List, Ok, Err}
use Rattle.sheet_values.specs.declared.value.Value.{Value}
use Rattle.sheet_meaning.specs.declared.run.Run.{Run}
use Rattle.sheet_meaning.specs.Run.{Outcome as Result_of}
use Rattle.sheet_meaning.specs.Support.{Cell}
use Rattle.sheet_eval.specs.Told.{Told, lacking}
use Rattle.sheet_eval.specs.declared.evaluation.Outcome.{Outcome}
use Rattle.sheet_eval.specs.declared.evaluation.Outcome.TheVariants.{Known, Fault, Need}

-- the answer that is made of the lacking cells and an outcome
abbrev pub Answers : List Cell → Result_of (List Value) → Outcome → Type 0
Answers need o (Known s) = (need ≡ []) × (o ≡ Ok s)
Answers need o (Fault e) = (need ≡ []) × (o ≡ Err e)
Answers need o (Need cells) = (cells ≡ need) × (cells ≡ [] → ⊥)

-- exactly the lacking cells that are used, in the order of first use, where there are any; else what the formula comes to, where no outcome
-- is the fault `cycle`
abbrev pub IsAnswer : Told → Run (List Value) → Outcome → Type 0
IsAnswer t r a = Answers (lacking t r.uses) r.outcome a

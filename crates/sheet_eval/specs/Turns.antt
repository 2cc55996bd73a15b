-- What steps give, and what is skipped.
use Rattle.std.specs.Prelude.{ℕ, Bool, if◌then◌else◌, List, Ok, Err}
use Rattle.sheet_values.specs.declared.value.Value.{Value}
use Rattle.sheet_columns.specs.declared.fault.Place.{Place}
use Rattle.sheet_columns.specs.declared.formula.Connective.{Connective}
use Rattle.sheet_columns.specs.declared.formula.Core.{Core}
use Rattle.sheet_meaning.specs.declared.run.Run.{Run}
use Rattle.sheet_meaning.specs.Run.{Outcome, is_none, decides}
use Rattle.sheet_meaning.specs.Formula.{World, Variables, run, extent_of, stored_of, worked_of, parent_of}
use Rattle.sheet_eval.specs.declared.contents.Way.{Way}
use Rattle.sheet_eval.specs.declared.contents.Way.TheVariants.{Children, OfState, OfFormula, Parent}

-- whether the second of two truths is skipped: where the first has no outcome, or decides
abbrev pub skips : Connective → Outcome Bool → Bool
skips c (Ok a) = decides c a
skips c (Err e) = is_none e

-- what a step from one object gives
abbrev pub way_of : World → Way → ℕ → Run (List Value)
way_of w (Children c) o = extent_of w c o
way_of w (OfState c) o = stored_of w c o
way_of w (OfFormula c) o = worked_of w c o
way_of w Parent o = parent_of w o

-- the branch that a condition chooses
abbrev pub choice : Core → Core → World → Place → Variables → Bool → Run (List Value)
choice a b w p v x = if x then run a w p v else run b w p v

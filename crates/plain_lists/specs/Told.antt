-- What worked-out formula cells tell.
use Rattle.std.specs.Prelude.{ℕ, ◌==◌, ◌&&◌, if◌then◌else◌, is_some, List, [], ◌∷◌}
use Rattle.sheet_values.specs.declared.value.Value.{Value}
use Rattle.sheet_meaning.specs.declared.run.Run.{Run}
use Rattle.sheet_meaning.specs.declared.workbook.State.{State}
use Rattle.sheet_meaning.specs.Run.{Outcome, none}
use Rattle.sheet_meaning.specs.Formula.{World, extent_of, stored_of, worked_of, parent_of}
use Rattle.sheet_meaning.specs.Workbook.{object_at, column_in, parent_in, children_in, set_in}
use Rattle.plain_lists.specs.declared.lookup.WorkedCell.{WorkedCell}
use Rattle.plain_lists.specs.declared.lookup.Way.{Way}
use Rattle.plain_lists.specs.declared.lookup.Way.TheVariants.{Children, OfState, OfFormula, Parent}

-- the outcome of a formula cell among those that are worked out, and none where it isn't among them
abbrev pub told : List WorkedCell → ℕ → ℕ → Outcome (List Value)
told [] o c = none
told (x ∷ xs) o c = if x.object == o && x.column == c then x.outcome else told xs o c

-- the content of a state, where formula cells have the outcomes that these tell
abbrev pub scene : State → List WorkedCell → World
scene s worked = record {
  cell = set_in s.cells;
  children = children_in s.objects;
  parent = λ o. parent_in (object_at s.objects o);
  live = λ o. is_some (column_in (object_at s.objects o));
  worked = told worked;
}

-- what a step from one object gives
abbrev pub way_of : World → Way → ℕ → Run (List Value)
way_of w (Children c) o = extent_of w c o
way_of w (OfState c) o = stored_of w c o
way_of w (OfFormula c) o = worked_of w c o
way_of w Parent o = parent_of w o

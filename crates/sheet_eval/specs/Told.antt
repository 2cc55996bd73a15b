-- What a lookup tells of a workbook, and what an evaluation over it comes to.
use Rattle.std.specs.Prelude.{◌≡◌, List, fold, Ok}
use Rattle.std.specs.List.{filter_map}
use Rattle.sheet_columns.specs.declared.item.Item.{Item}
use Rattle.sheet_meaning.specs.Run.{Outcome, after, both_outcomes}
use Rattle.sheet_meaning.specs.declared.run.Run.{Run}
use Rattle.sheet_meaning.specs.declared.run.Use.{Use}
use Rattle.sheet_meaning.specs.declared.run.Use.TheVariants as used
use Rattle.sheet_meaning.specs.Rounds.{item_in}
use Rattle.sheet_meaning.specs.Support.{in_order}
pub use Rattle.sheet_eval_sets.specs.Noted.{Noted, note_item, note_cell, with_items}
pub use Rattle.sheet_meaning.specs.Support.{used_cells}
pub use Rattle.sheet_meaning.specs.Told.{Told, or_none, world_told, is_lacking, lacks, lacking}

-- one use more
abbrev pub note : Noted → Use → Noted
note n (used.Read i) = note_item n i
note n (used.Cell o c) = note_cell n (o, c)

abbrev pub noted : Noted → List Use → Noted
noted n us = fold note n us

-- the outcome is that of the run, and its uses are noted
pub record Came {A : Type 0} (r : Run A) (old : Noted) (o : Outcome A) (new : Noted) : Type 0 where
  pub outcome : o ≡ r.outcome
  pub uses : new ≡ noted old r.uses

-- one more part, folded into what was gathered so far, by the rule of parts
pub record Folds {A B : Type 0} (g : B → A → B) (r : Run (List A)) (so_far : Outcome B) (old : Noted) (next : Outcome B) (new : Noted) : Type 0 where
  pub outcome : next ≡ after (both_outcomes so_far r.outcome) (λ x. Ok (fold g x.0 x.1))
  pub uses : new ≡ noted old r.uses

-- the items that are used, in order
abbrev pub used_items : List Use → List Item
used_items us = in_order (filter_map item_in us)

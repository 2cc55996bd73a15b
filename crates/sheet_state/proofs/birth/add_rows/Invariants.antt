use Rattle.std.proofs.Common.{◌≡◌, take}
use Rattle.std.specs.List.{filter_map}
use Rattle.sheet_meaning.specs.WellFormed.{state_columns}
use Rattle.sheet_state.specs.Births.{item_of, with_items, with_rows}
use Rattle.sheet_state.specs.Stored.{schema_of, object_columns}
use Rattle.sheet_state.proofs.birth.add_rows.Given as goal

abbrev pub invariant-loop-k : goal.invariant-loop-k
invariant-loop-k l = record {
  rows : l.tables.present ≡ with_rows l.fn.tables.present l.object (state_columns (schema_of (take l.k l.columns)) l.above)
      (object_columns (take l.k l.columns) l.above);
  earlier : l.tables.earlier ≡ l.fn.tables.earlier;
  items : l.items ≡ with_items l.fn.items (filter_map (item_of l.object) (state_columns (schema_of (take l.k l.columns)) l.above));
}

-- State columns and state cells, as the plain program holds them.
use Rattle.std.specs.Prelude.{ℕ, ◌==◌, ◌&&◌, not, if◌then◌else◌, List, [], ◌∷◌, map, filter, None, option_and_then}
use Rattle.std.specs.List.{filter_map, enumerate_from}
use Rattle.std.specs.Option.{option_to_list}
use Rattle.sheet_values.specs.declared.value.Value.{Value}
use Rattle.sheet_columns.specs.Tree.{column_of, above_of, is_number}
use Rattle.sheet_columns.specs.declared.tree.Node.{Node}
use Rattle.sheet_meaning.specs.declared.workbook.StoredCell.{StoredCell}
use Rattle.sheet_meaning.specs.WellFormed as meant
use Rattle.sheet_meaning.specs.Changes.{first_set, is_other, has_number, with_object}
use Rattle.sheet_meaning.specs.declared.workbook.Schema.{Schema}
use Rattle.sheet_meaning.specs.declared.workbook.State.{State}
use Rattle.plain_procedures.specs.declared.changes.StateColumn.{StateColumn}

-- a state column without its type
abbrev pub brief : meant.StateColumn → StateColumn
brief k = record { number = k.number; one = k.one; first = k.first }

-- the state column with a number, where it stands directly under an object column
abbrev pub column_at : List Node → ℕ → ℕ → List StateColumn
column_at nodes c k =
    if is_number c (above_of nodes k) then map brief (option_to_list (option_and_then (meant.as_state k) (column_of nodes k))) else []

-- the state columns directly under an object column
abbrev pub columns_under : List Node → ℕ → List StateColumn
columns_under nodes c =
    map brief (filter_map (λ (x : ℕ × Node). if is_number c x.1.above then meant.as_state x.0 x.1.column else None) (enumerate_from 0 nodes))

-- the cell of a new object
abbrev pub new_cell : ℕ → StateColumn → StoredCell
new_cell o k = record { object = o; column = k.number; set = first_set k.first }

-- a cell, with another set where it is the cell of this object and column
abbrev pub cell_with : ℕ → ℕ → List Value → StoredCell → StoredCell
cell_with o c set x = if x.object == o && x.column == c then record x { set = set } else x

-- the cells of the objects that stay, without references to those that are gone
abbrev pub cells_left : List ℕ → List StoredCell → List StoredCell
cells_left ns cells =
    map (λ (x : StoredCell). record x { set = filter (is_other ns) x.set }) (filter (λ (x : StoredCell). not (has_number ns x.object)) cells)

-- the state with a new object, and with the next number that is given
abbrev pub made_with : Schema → State → ℕ → ℕ → ℕ → State
made_with schema s c parent next = record (with_object schema s c parent) { next = next }

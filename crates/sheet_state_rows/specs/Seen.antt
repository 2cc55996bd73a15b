-- Rows as lists.
use Rattle.sheet_state_rows.specs.Rows.{Table}
use Rattle.sheet_state_rows.specs.declared.rows.Rows.{Rows}

-- what the rows hold
abbrev pub seen : Rows → Table
seen r = record { objects = r.objects.items; cells = r.cells.items; extents = r.extents.items; counters = r.counters }

-- The order of references.
use Rattle.std.specs.Prelude.{ℕ, Bool, ◌==◌, ◌&&◌, List}
use Rattle.std.specs.List.{list_any}
use Rattle.std.specs.declared.cmp.Ordering.{Ordering}
use Rattle.std.specs.Ordering.{nat_cmp, on, then_cmp}
use Rattle.sheet_values.specs.Sets.{contains}
use Rattle.sheet_values.specs.declared.value.Value.TheVariants.{Object}
use Rattle.sheet_state_rows.specs.declared.row.SetRow.{SetRow}
use Rattle.sheet_state_references.specs.declared.references.Reference.{Reference}

-- by the object that is referred to, then by the cell's object and column
abbrev pub reference_cmp : Reference → Reference → Ordering
reference_cmp = then_cmp (on (λ (r : Reference). r.to) nat_cmp) (then_cmp (on (λ (r : Reference). r.object) nat_cmp) (on (λ (r : Reference). r.column) nat_cmp))

-- whether it refers to this object
abbrev pub is_to : ℕ → Reference → Bool
is_to n r = r.to == n

-- whether a row is that of a state cell that is there and refers so
abbrev pub holds_reference : Reference → SetRow → Bool
holds_reference r row = row.live && (row.object == r.object && (row.column == r.column && contains (Object r.to) row.set))

-- whether one of the state cells refers so
abbrev pub is_held : List SetRow → Reference → Bool
is_held rows r = list_any (holds_reference r) rows

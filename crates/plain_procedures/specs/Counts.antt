-- The state cells of objects, from their columns.
use Rattle.std.specs.Prelude.{ℕ, List, map, filter}
use Rattle.sheet_meaning.specs.declared.workbook.Schema.{Schema}
use Rattle.sheet_meaning.specs.declared.workbook.LiveObject.{LiveObject}
use Rattle.plain_procedures.specs.declared.changes.StateColumn.{StateColumn}
use Rattle.plain_procedures.specs.Columns.{columns_under}

-- an object with each of these columns
abbrev pub pairs_of : ℕ → List StateColumn → List (ℕ × ℕ)
pairs_of o columns = map (λ (k : StateColumn). (o, k.number)) columns

-- an object with each of these columns that hold one value
abbrev pub one_pairs_of : ℕ → List StateColumn → List (ℕ × ℕ)
one_pairs_of o columns = map (λ (k : StateColumn). (o, k.number)) (filter (λ (k : StateColumn). k.one) columns)

-- the state cells of an object
abbrev pub all_pairs : Schema → LiveObject → List (ℕ × ℕ)
all_pairs s x = pairs_of x.number (columns_under s.columns x.column)

-- those that must hold exactly one value
abbrev pub one_pairs : Schema → LiveObject → List (ℕ × ℕ)
one_pairs s x = one_pairs_of x.number (columns_under s.columns x.column)

-- The CSV text of a page.
use Rattle.std.specs.Prelude.{ℕ, Bool, true, false, List, [], ◌∷◌, ◌++◌, codes, flat_map, Result, Ok, Err}
use Rattle.std.specs.Fmt.{decimal, signed_decimal}
use Rattle.csv.specs.Writing.{default_writer, row_text}
use Rattle.sheet_values.specs.declared.value.Value.{Value}
use Rattle.sheet_values.specs.declared.value.Value.TheVariants.{Truth, Number, Text, Object}
use Rattle.sheet_columns.specs.declared.fault.Fault.{Fault}
use Rattle.sheet_columns.specs.declared.fault.Fault.TheVariants as fault
use Rattle.sheet_columns.specs.declared.page.Part.{Part}
use Rattle.sheet_columns.specs.declared.page.Part.TheVariants.{Show, Table}
use Rattle.sheet_columns.specs.declared.page.Row.{Row}

-- a truth as its word
abbrev pub truth_text : Bool → List ℕ
truth_text true = codes "true"
truth_text false = codes "false"

-- the text of a value
abbrev pub value_text : Value → List ℕ
value_text (Truth b) = truth_text b
value_text (Number n) = signed_decimal n
value_text (Text t) = t
value_text (Object o) = decimal o

-- the word of a value's type
abbrev pub kind_text : Value → List ℕ
kind_text (Truth b) = codes "truth"
kind_text (Number n) = codes "number"
kind_text (Text t) = codes "text"
kind_text (Object o) = codes "object"

-- the word of a fault
abbrev pub fault_text : Fault → List ℕ
fault_text fault.Cycle = codes "cycle"
fault_text (fault.NotOne found place) = codes "not one"
fault_text (fault.Overflow place) = codes "overflow"
fault_text (fault.ZeroDivisor place) = codes "zero divisor"
fault_text (fault.TextTooLong place) = codes "text too long"

-- the line of one record: part, row, name, kind, value
abbrev pub line_text : List ℕ → List ℕ → List ℕ → List ℕ → List ℕ → List ℕ
line_text part row name kind value = row_text default_writer (part ∷ row ∷ name ∷ kind ∷ value ∷ [])

-- the line of one value
abbrev pub value_line : List ℕ → List ℕ → List ℕ → Value → List ℕ
value_line part row name value = line_text part row name (kind_text value) (value_text value)

-- the line of a fault
abbrev pub fault_line : List ℕ → List ℕ → List ℕ → Fault → List ℕ
fault_line part row name f = line_text part row name (codes "fault") (fault_text f)

-- a line for each value that is shown, or one for the fault
abbrev pub shown_lines : List ℕ → List ℕ → List ℕ → Result (List Value) Fault → List ℕ
shown_lines part row name (Ok values) = flat_map (value_line part row name) values
shown_lines part row name (Err f) = fault_line part row name f

-- what a row shows in each slot
abbrev pub slot_lines : List ℕ → List ℕ → List (List ℕ) → List (Result (List Value) Fault) → List ℕ
slot_lines part row [] shows = []
slot_lines part row (name ∷ names) [] = []
slot_lines part row (name ∷ names) (shown ∷ shows) = shown_lines part row name shown ++ slot_lines part row names shows

-- the lines of a row, named by the value that it is for
abbrev pub row_lines : List ℕ → List (List ℕ) → Row → List ℕ
row_lines part names row = slot_lines part (value_text row.of) names row.shows

-- the rows of a table, or one line for the fault
abbrev pub table_lines : List ℕ → List (List ℕ) → Result (List Row) Fault → List ℕ
table_lines part names (Ok rows) = flat_map (row_lines part names) rows
table_lines part names (Err f) = fault_line part [] [] f

-- the lines of a part
abbrev pub part_lines : Part → List ℕ
part_lines (Show name shown) = shown_lines name [] [] shown
part_lines (Table name names rows) = table_lines name names rows

-- the header's line
abbrev pub header_line : List ℕ
header_line = line_text (codes "part") (codes "row") (codes "name") (codes "kind") (codes "value")

-- the text of a page
abbrev pub page_text : List Part → List ℕ
page_text page = header_line ++ flat_map part_lines page

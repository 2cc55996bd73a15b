-- The data of each reply, whose compact JSON text is its body.
use Rattle.std.specs.Prelude.{ℕ, List, [], ◌∷◌, map, codes, Result, Ok, Err}
use Rattle.sheet_columns.specs.declared.item.Item.{Item}
use Rattle.sheet_columns.specs.declared.item.Item.TheVariants.{Live, Up, Extent, Stored}
use Rattle.sheet_meaning.specs.declared.refusal.Which.{Which}
use Rattle.sheet_meaning.specs.declared.refusal.Which.TheVariants as which
use Rattle.serde_json.specs.Data.{Data, boolean, number, string, array, object, unsigned, member, no_members}
use Rattle.serde_json.specs.Find.{of_integer}
use Rattle.serde_json.specs.View.{items_of}
use Rattle.serde_json.specs.Written.{compact_text}
use Rattle.sheet_values.specs.declared.value.NotOne.{NotOne}
use Rattle.sheet_values.specs.declared.value.NotOne.TheVariants.{Zero, Many}
use Rattle.sheet_values.specs.declared.value.Value.{Value}
use Rattle.sheet_values.specs.declared.value.Value.TheVariants.{Truth, Number, Text, Object}
use Rattle.sheet_columns.specs.Tree.{path}
use Rattle.sheet_columns.specs.declared.tree.Node.{Node}
use Rattle.sheet_columns.specs.declared.fault.Place.{Place}
use Rattle.sheet_columns.specs.declared.fault.Place.TheVariants.{Cell, Statement, Slot}
use Rattle.sheet_columns.specs.declared.fault.Fault.{Fault}
use Rattle.sheet_columns.specs.declared.fault.Fault.TheVariants as fault
use Rattle.sheet_columns.specs.declared.page.Part.{Part}
use Rattle.sheet_columns.specs.declared.page.Part.TheVariants.{Show, Table}
use Rattle.sheet_columns.specs.declared.page.Row.{Row}
use Rattle.sheet_requests.specs.declared.reply.Reply.{Reply}
use Rattle.sheet_requests.specs.declared.reply.Reply.TheVariants.{Accepted, Kept, Page, Reads, Stats, Wire, Refused}
use Rattle.sheet_requests.specs.declared.reply.Answer.{Answer}
use Rattle.sheet_requests.specs.declared.reply.Answer.TheVariants.{Values, Caller}
use Rattle.sheet_requests.specs.declared.reply.Refusal.{Refusal}
use Rattle.sheet_requests.specs.declared.reply.Refusal.TheVariants as refused
use Rattle.sheet_requests.specs.declared.request.WireRefusal.{WireRefusal}
use Rattle.sheet_requests.specs.declared.request.WireRefusal.TheVariants as wire

-- an object with one field
abbrev pub field : List ℕ → Data → Data
field name d = object (member name d no_members)

-- a list of things
abbrev pub list_data : {A : Type 0} → (A → Data) → List A → Data
list_data data_of xs = array (items_of (map data_of xs))

-- an object value as `{"object":N}`
abbrev pub value_data : Value → Data
value_data (Truth b) = boolean b
value_data (Number z) = number (of_integer z)
value_data (Text s) = string s
value_data (Object o) = field (codes "object") (number (unsigned o))

-- values, least first
abbrev pub values_data : List Value → Data
values_data vs = list_data value_data vs

-- a cell as its column's path and its object
abbrev pub place_data : List Node → Place → Data
place_data nodes (Cell o c) = field (codes "cell") (array (items_of (string (path nodes c) ∷ number (unsigned o) ∷ [])))
place_data nodes (Statement k) = field (codes "statement") (number (unsigned k))
place_data nodes (Slot k) = field (codes "slot") (number (unsigned k))

-- how many there were where one was wanted
abbrev pub found_word : NotOne → List ℕ
found_word Zero = codes "zero"
found_word Many = codes "many"

-- a fault and its place
abbrev pub placed_fault : List ℕ → Data → Data
placed_fault word place = object (member (codes "fault") (string word) (member (codes "place") place no_members))

-- a set that was to have one value
abbrev pub not_one_fault : List ℕ → Data → Data
not_one_fault found place =
    object (member (codes "fault") (string (codes "not one")) (member (codes "found") (string found) (member (codes "place") place no_members)))

-- a fault by its word and its place; a cycle has none
abbrev pub fault_data : List Node → Fault → Data
fault_data nodes fault.Cycle = field (codes "fault") (string (codes "cycle"))
fault_data nodes (fault.NotOne found place) = not_one_fault (found_word found) (place_data nodes place)
fault_data nodes (fault.Overflow place) = placed_fault (codes "overflow") (place_data nodes place)
fault_data nodes (fault.ZeroDivisor place) = placed_fault (codes "zero divisor") (place_data nodes place)
fault_data nodes (fault.TextTooLong place) = placed_fault (codes "text too long") (place_data nodes place)

-- what is shown, or the fault in its place
abbrev pub shown_data : List Node → Result (List Value) Fault → Data
shown_data nodes (Ok values) = values_data values
shown_data nodes (Err f) = fault_data nodes f

-- a row: what it is of, and what its columns show
abbrev pub row_data : List Node → Row → Data
row_data nodes row = object (member (codes "of") (value_data row.of) (member (codes "shows") (list_data (shown_data nodes) row.shows) no_members))

-- the rows of a table, or the fault in their place
abbrev pub rows_data : List Node → Result (List Row) Fault → Data
rows_data nodes (Ok rows) = list_data (row_data nodes) rows
rows_data nodes (Err f) = fault_data nodes f

-- names, in order
abbrev pub names_data : List (List ℕ) → Data
names_data names = list_data string names

-- a table: its name, the names of its columns, its rows
abbrev pub table_data : List ℕ → Data → Data → Data
table_data name names rows =
    object (member (codes "name") (string name) (member (codes "names") names (member (codes "table") rows no_members)))

-- a slot or a table of a page
abbrev pub part_data : List Node → Part → Data
part_data nodes (Show name shown) = object (member (codes "name") (string name) (member (codes "shows") (shown_data nodes shown) no_members))
part_data nodes (Table name names rows) = table_data name (names_data names) (rows_data nodes rows)

-- an error without a further field
abbrev pub error_data : List ℕ → Data
error_data word = field (codes "error") (string word)

-- an error before one more field
abbrev pub error_with : List ℕ → List ℕ → Data → Data
error_with word name d = object (member (codes "error") (string word) (member name d no_members))

-- an error behind one more field
abbrev pub error_behind : List ℕ → Data → List ℕ → Data
error_behind name d word = object (member name d (member (codes "error") (string word) no_members))

-- why no request was read
abbrev pub wire_data : WireRefusal → Data
wire_data wire.NotJson = error_data (codes "not json")
wire_data (wire.BadShape f) = error_with (codes "bad shape") (codes "field") (string f)
wire_data (wire.NumberOutside f) = error_with (codes "number outside") (codes "field") (string f)
wire_data (wire.TextTooLong f) = error_with (codes "text too long") (codes "field") (string f)
wire_data wire.LaterForm = error_data (codes "later form")
wire_data wire.NoMemory = error_data (codes "no memory")

-- what is full
abbrev pub which_word : Which → List ℕ
which_word which.Objects = codes "objects"
which_word which.Cells = codes "cells"
which_word which.Values = codes "values"
which_word which.Numbers = codes "numbers"
which_word which.Reply = codes "reply"
which_word which.Requests = codes "requests"

-- why a request isn't accepted; the fields of an object stand in the order of their names
abbrev pub refusal_data : List Node → Refusal → Data
refusal_data nodes refused.DiskFault = error_data (codes "disk fault")
refusal_data nodes refused.UnknownKey = error_data (codes "unknown key")
refusal_data nodes refused.NotOperator = error_data (codes "not operator")
refusal_data nodes (refused.Past last) = error_with (codes "past") (codes "last") (number (unsigned last))
refusal_data nodes refused.Differs = error_data (codes "differs")
refusal_data nodes (refused.Ahead last) = error_with (codes "ahead") (codes "last") (number (unsigned last))
refusal_data nodes refused.UnknownName = error_data (codes "unknown name")
refusal_data nodes (refused.BadArgument k) = error_behind (codes "argument") (number (unsigned k)) (codes "bad argument")
refusal_data nodes (refused.KeyTaken c) = error_behind (codes "caller") (number (unsigned c)) (codes "key taken")
refusal_data nodes (refused.NameTaken c) = error_behind (codes "caller") (number (unsigned c)) (codes "name taken")
refusal_data nodes (refused.TooMany limit) = error_with (codes "too many callers") (codes "limit") (number (unsigned limit))
refusal_data nodes refused.Denied = error_data (codes "denied")
refusal_data nodes (refused.CheckFailed k message) =
    object
    (member (codes "error") (string (codes "check failed"))
    (member (codes "message") (string message) (member (codes "statement") (number (unsigned k)) no_members)))
refusal_data nodes (refused.FormulaFault f) = error_with (codes "formula fault") (codes "fault") (fault_data nodes f)
refusal_data nodes (refused.Full w limit) =
    object
    (member (codes "error") (string (codes "full"))
    (member (codes "limit") (number (unsigned limit)) (member (codes "which") (string (which_word w)) no_members)))
refusal_data nodes (refused.NotOneCell o c n) =
    object
    (member (codes "cell") (array (items_of (string (path nodes c) ∷ number (unsigned o) ∷ [])))
    (member (codes "count") (number (unsigned n)) (member (codes "error") (string (codes "not one cell")) no_members)))
refusal_data nodes refused.NoMemory = error_data (codes "no memory")

-- an item by its word, its object, and its column's path where it has one
abbrev pub item_data : List Node → Item → Data
item_data nodes (Live o) = array (items_of (string (codes "live") ∷ number (unsigned o) ∷ []))
item_data nodes (Up o) = array (items_of (string (codes "up") ∷ number (unsigned o) ∷ []))
item_data nodes (Extent o c) = array (items_of (string (codes "extent") ∷ number (unsigned o) ∷ string (path nodes c) ∷ []))
item_data nodes (Stored o c) = array (items_of (string (codes "stored") ∷ number (unsigned o) ∷ string (path nodes c) ∷ []))

-- an accepted request, at once or again
abbrev pub answer_data : ℕ → Answer → Data
answer_data n (Values set) = object (member (codes "number") (number (unsigned n)) (member (codes "reply") (values_data set) no_members))
answer_data n (Caller c) = object (member (codes "caller") (number (unsigned c)) (member (codes "number") (number (unsigned n)) no_members))

-- the four counts
abbrev pub stats_data : ℕ → ℕ → ℕ → ℕ → Data
stats_data accepted callers kept objects =
    object
    (member (codes "accepted") (number (unsigned accepted))
    (member (codes "callers") (number (unsigned callers))
    (member (codes "kept") (number (unsigned kept)) (member (codes "objects") (number (unsigned objects)) no_members))))

-- a reply
abbrev pub reply_data : List Node → Reply → Data
reply_data nodes (Accepted n answer) = answer_data n answer
reply_data nodes (Kept n answer) = answer_data n answer
reply_data nodes (Page parts) = field (codes "page") (list_data (part_data nodes) parts)
reply_data nodes (Reads items) = field (codes "reads") (list_data (item_data nodes) items)
reply_data nodes (Stats accepted callers kept objects) = stats_data accepted callers kept objects
reply_data nodes (Wire refusal) = wire_data refusal
reply_data nodes (Refused refusal) = refusal_data nodes refusal

-- the body of a reply, over the tree of columns that its places name
abbrev pub body : List Node → Reply → List ℕ
body nodes reply = compact_text (reply_data nodes reply)

-- the status code where no request was read
abbrev pub wire_code : WireRefusal → ℕ
wire_code wire.NotJson = 400
wire_code (wire.BadShape f) = 400
wire_code (wire.NumberOutside f) = 400
wire_code (wire.TextTooLong f) = 400
wire_code wire.LaterForm = 400
wire_code wire.NoMemory = 507

-- the status code where a request isn't accepted
abbrev pub refusal_code : Refusal → ℕ
refusal_code refused.DiskFault = 503
refusal_code refused.UnknownKey = 403
refusal_code refused.NotOperator = 403
refusal_code (refused.Past last) = 409
refusal_code refused.Differs = 409
refusal_code (refused.Ahead last) = 409
refusal_code refused.UnknownName = 404
refusal_code (refused.BadArgument k) = 422
refusal_code (refused.KeyTaken c) = 409
refusal_code (refused.NameTaken c) = 409
refusal_code (refused.TooMany limit) = 409
refusal_code refused.Denied = 403
refusal_code (refused.CheckFailed k message) = 409
refusal_code (refused.FormulaFault f) = 422
refusal_code (refused.Full w limit) = 409
refusal_code (refused.NotOneCell o c n) = 409
refusal_code refused.NoMemory = 507

-- the status code of a reply
abbrev pub code_of : Reply → ℕ
code_of (Accepted n answer) = 200
code_of (Kept n answer) = 200
code_of (Page parts) = 200
code_of (Reads items) = 200
code_of (Stats accepted callers kept objects) = 200
code_of (Wire refusal) = wire_code refusal
code_of (Refused refusal) = refusal_code refusal

-- No request and no reply has a float.
use Rattle.std.proofs.Common.{◌≡◌, ℕ, List, [], ◌∷◌, map, false, refl, ℤ, pos, negsuc, Result, Ok, Err}
use Rattle.serde_json.specs.Data.{Data, string}
use Rattle.serde_json.specs.Find.{of_integer, is_float}
use Rattle.serde_json.specs.View.{items_of}
use Rattle.serde_json.specs.Written.{has_float, items_have_float}
use Rattle.sheet_values.specs.declared.value.Value.{Value}
use Rattle.sheet_values.specs.declared.value.Value.TheVariants.{Truth, Number, Text, Object}
use Rattle.sheet_columns.specs.declared.tree.Node.{Node}
use Rattle.sheet_columns.specs.declared.fault.Place.{Place}
use Rattle.sheet_columns.specs.declared.fault.Place.TheVariants.{Cell, Statement, Slot}
use Rattle.sheet_columns.specs.declared.fault.Fault.{Fault}
use Rattle.sheet_columns.specs.declared.fault.Fault.TheVariants as fault
use Rattle.sheet_columns.specs.declared.page.Part.{Part}
use Rattle.sheet_columns.specs.declared.page.Part.TheVariants.{Show, Table}
use Rattle.sheet_columns.specs.declared.page.Row.{Row}
use Rattle.sheet_columns.specs.declared.item.Item.{Item}
use Rattle.sheet_columns.specs.declared.item.Item.TheVariants.{Live, Up, Extent, Stored}
use Rattle.sheet_requests.specs.declared.reply.Reply.{Reply}
use Rattle.sheet_requests.specs.declared.reply.Reply.TheVariants.{Accepted, Kept, Page, Reads, Stats, Wire, Refused}
use Rattle.sheet_requests.specs.declared.reply.Answer.{Answer}
use Rattle.sheet_requests.specs.declared.reply.Answer.TheVariants.{Values, Caller}
use Rattle.sheet_requests.specs.declared.reply.Refusal.{Refusal}
use Rattle.sheet_requests.specs.declared.reply.Refusal.TheVariants as refused
use Rattle.sheet_requests.specs.declared.request.Request.{Request}
use Rattle.sheet_requests.specs.declared.request.Request.TheVariants as asked
use Rattle.sheet_requests.specs.declared.request.WireRefusal.{WireRefusal}
use Rattle.sheet_requests.specs.declared.request.WireRefusal.TheVariants as wire
use Rattle.sheet_requests.specs.Bodies.{value_data, place_data, fault_data, shown_data, row_data, rows_data}
use Rattle.sheet_requests.specs.Bodies.{part_data, item_data, answer_data, wire_data, refusal_data, reply_data}
use Rattle.sheet_requests.specs.Lines.{request_data}

-- a list has none where its elements have none
all : {A : Type 0} (data_of : A → Data) → ((x : A) → has_float (data_of x) ≡ false) → (xs : List A) → items_have_float (items_of (map data_of xs)) ≡ false
all data_of each [] = refl
all data_of each (x ∷ xs) = rw (each x, all data_of each xs)

integer : (z : ℤ) → is_float (of_integer z) ≡ false
integer (pos n) = refl
integer (negsuc n) = refl

value : (v : Value) → has_float (value_data v) ≡ false
value (Truth b) = refl
value (Number z) = integer z
value (Text s) = refl
value (Object o) = refl

place : (nodes : List Node) (p : Place) → has_float (place_data nodes p) ≡ false
place nodes (Cell o c) = refl
place nodes (Statement k) = refl
place nodes (Slot k) = refl

fault_part : (nodes : List Node) (f : Fault) → has_float (fault_data nodes f) ≡ false
fault_part nodes fault.Cycle = refl
fault_part nodes (fault.NotOne found p) = rw (place nodes p)
fault_part nodes (fault.Overflow p) = rw (place nodes p)
fault_part nodes (fault.ZeroDivisor p) = rw (place nodes p)
fault_part nodes (fault.TextTooLong p) = rw (place nodes p)

shown : (nodes : List Node) (s : Result (List Value) Fault) → has_float (shown_data nodes s) ≡ false
shown nodes (Ok values) = all value_data value values
shown nodes (Err f) = fault_part nodes f

row : (nodes : List Node) (r : Row) → has_float (row_data nodes r) ≡ false
row nodes r = rw (value r.of, all (shown_data nodes) (shown nodes) r.shows)

rows : (nodes : List Node) (rs : Result (List Row) Fault) → has_float (rows_data nodes rs) ≡ false
rows nodes (Ok rs) = all (row_data nodes) (row nodes) rs
rows nodes (Err f) = fault_part nodes f

part : (nodes : List Node) (p : Part) → has_float (part_data nodes p) ≡ false
part nodes (Show name s) = rw (shown nodes s)
part nodes (Table name names rs) = rw (all string (λ s. refl) names, rows nodes rs)

item : (nodes : List Node) (i : Item) → has_float (item_data nodes i) ≡ false
item nodes (Live o) = refl
item nodes (Up o) = refl
item nodes (Extent o c) = refl
item nodes (Stored o c) = refl

answer : (n : ℕ) (a : Answer) → has_float (answer_data n a) ≡ false
answer n (Values set) = rw (all value_data value set)
answer n (Caller c) = refl

wire_part : (r : WireRefusal) → has_float (wire_data r) ≡ false
wire_part wire.NotJson = refl
wire_part (wire.BadShape f) = refl
wire_part (wire.NumberOutside f) = refl
wire_part (wire.TextTooLong f) = refl
wire_part wire.LaterForm = refl
wire_part wire.NoMemory = refl

refusal : (nodes : List Node) (r : Refusal) → has_float (refusal_data nodes r) ≡ false
refusal nodes refused.DiskFault = refl
refusal nodes refused.UnknownKey = refl
refusal nodes refused.NotOperator = refl
refusal nodes (refused.Past last) = refl
refusal nodes refused.Differs = refl
refusal nodes (refused.Ahead last) = refl
refusal nodes refused.UnknownName = refl
refusal nodes (refused.BadArgument k) = refl
refusal nodes (refused.KeyTaken c) = refl
refusal nodes (refused.NameTaken c) = refl
refusal nodes (refused.TooMany limit) = refl
refusal nodes refused.Denied = refl
refusal nodes (refused.CheckFailed k message) = refl
refusal nodes (refused.FormulaFault f) = rw (fault_part nodes f)
refusal nodes (refused.Full w limit) = refl
refusal nodes (refused.NotOneCell o c n) = refl
refusal nodes refused.NoMemory = refl

pub reply : (nodes : List Node) (r : Reply) → has_float (reply_data nodes r) ≡ false
reply nodes (Accepted n a) = answer n a
reply nodes (Kept n a) = answer n a
reply nodes (Page parts) = rw (all (part_data nodes) (part nodes) parts)
reply nodes (Reads items) = rw (all (item_data nodes) (item nodes) items)
reply nodes (Stats accepted callers kept objects) = refl
reply nodes (Wire r) = wire_part r
reply nodes (Refused r) = refusal nodes r

pub request : (q : Request) → has_float (request_data q) ≡ false
request (asked.Do key name n arguments) = rw (all value_data value arguments)
request (asked.See key name arguments) = rw (all value_data value arguments)
request (asked.Reads key name arguments) = rw (all value_data value arguments)
request (asked.Admit key newkey name n o) = refl
request (asked.Stats key) = refl

-- Formulas, worked out.
use Rattle.std.proofs.Common.{◌≡◌, refl, ℕ, Bool, true, false, List, [], ◌∷◌, ◌++◌, Some, None, Ok, Err}
use Rattle.std.specs.Prelude.{ℤ, pos, negsuc, codes, replicate}
use denote.Hole.Carrier.{hidden}
use Rattle.sheet_columns.specs.declared.formula.Core.TheBlock.{hidden-the_row-Core-0, hidden-the_row-Core-1}
use Rattle.sheet_values.specs.declared.value.Kind.TheVariants as kind
use Rattle.sheet_values.specs.declared.value.NotOne.TheVariants.{Zero, Many}
use Rattle.sheet_values.specs.declared.value.Value.{Value}
use Rattle.sheet_values.specs.declared.value.Value.TheVariants as value
use Rattle.sheet_columns.specs.declared.fault.Fault.TheVariants as fault
use Rattle.sheet_columns.specs.declared.fault.Place.TheVariants as place
use Rattle.sheet_columns.specs.declared.item.Item.TheVariants as item
use Rattle.sheet_columns.specs.declared.tree.Column.{Column}
use Rattle.sheet_columns.specs.declared.tree.Column.TheVariants as column
use Rattle.sheet_columns.specs.declared.tree.Node.{Node}
use Rattle.sheet_columns.specs.declared.formula.SetOperator.TheVariants.{Except}
use Rattle.sheet_columns.specs.declared.formula.SetTest.TheVariants.{Equal, Within}
use Rattle.sheet_columns.specs.declared.formula.ArithmeticOperator.TheVariants.{Add, Divide, Remainder}
use Rattle.sheet_columns.specs.declared.formula.Connective.TheVariants.{And, Or}
use Rattle.sheet_columns.specs.declared.formula.Extremum.TheVariants.{Min, Max}
use Rattle.sheet_columns.specs.declared.formula.Quantifier.TheVariants.{Any, All}
use Rattle.sheet_columns.specs.declared.formula.Core.{Core, Truth, Number, Text, Root, Variable, ObjectStep, StateStep, FormulaStep, Up, Set, Combine, Compare}
use Rattle.sheet_columns.specs.declared.formula.Core.{Arithmetic, Negate, Join, Connect, If, Count, Only, Extreme, Comprehension, Sum, Quantify}
use Rattle.sheet_meaning.specs.declared.workbook.ColumnFormula.{ColumnFormula}
use Rattle.sheet_meaning.specs.declared.workbook.LiveObject.{LiveObject}
use Rattle.sheet_meaning.specs.declared.workbook.StoredCell.{StoredCell}
use Rattle.sheet_meaning.specs.declared.workbook.Workbook.{Workbook}
use Rattle.sheet_meaning.specs.Run.{Outcome, none}
use Rattle.sheet_meaning.specs.Rounds.{meaning, value_of, direct_items}
use Rattle.sheet_meaning.specs.Support.{support_of}

abbrev pub root_node : Node
root_node = record { above = None; name = codes "$"; column = column.Object }

abbrev pub node : ℕ → List ℕ → Column → Node
node above name c = record { above = Some above; name = name; column = c }

abbrev pub root_object : LiveObject
root_object = record { number = 0; column = 0; parent = None }

abbrev pub object : ℕ → ℕ → ℕ → LiveObject
object n c p = record { number = n; column = c; parent = Some p }

abbrev pub stored : ℕ → ℕ → List Value → StoredCell
stored o c s = record { object = o; column = c; set = s }

abbrev pub formula : ℕ → Core → ColumnFormula
formula c e = record { column = c; core = e }

abbrev num : ℕ → Value
num n = value.Number (pos n)

abbrev text_of : List ℕ → List Value
text_of t = value.Text t ∷ []

-- an object column T with a number in the state column k; two formula columns, of which Loop reads itself and Bad divides by zero
abbrev two : Workbook
two = record {
  schema = record {
    columns =
        root_node
        ∷ node 0 (codes "T") column.Object
        ∷ node 1 (codes "k") (column.State kind.Number true None)
        ∷ node 0 (codes "Loop") (column.Formula kind.Number)
        ∷ node 0 (codes "Bad") (column.Formula kind.Number)
        ∷ [];
    formulas = formula 3 (FormulaStep (Variable 0) 3) ∷ formula 4 (Arithmetic Divide (Number (pos 1)) (Number (pos 0))) ∷ [];
  };
  state = record {
    objects = root_object ∷ object 1 1 0 ∷ object 2 1 0 ∷ [];
    cells = stored 1 2 (num 5 ∷ []) ∷ stored 2 2 (num 7 ∷ []) ∷ [];
    next = 3;
  };
}

-- what an expression comes to there
abbrev comes_to : Core → Outcome (List Value)
comes_to e = value_of two e (place.Slot 1) []

abbrev number_is : ℤ → Outcome (List Value)
number_is n = Ok (value.Number n ∷ [])

abbrev truth_is : Bool → Outcome (List Value)
truth_is b = Ok (value.Truth b ∷ [])

abbrev loop : Core
loop = FormulaStep Root 3

abbrev bad : Core
bad = FormulaStep Root 4

abbrev bad_fault : Outcome (List Value)
bad_fault = Err (fault.ZeroDivisor (place.Cell 0 4))

abbrev n : ℕ → Core
n k = Number (pos k)

abbrev least : Core
least = Number (negsuc 9223372036854775807)

abbrev greatest : Core
greatest = Number (pos 9223372036854775807)

-- arithmetic, and its faults

adds : comes_to (Arithmetic Add (n 2) (n 3)) ≡ number_is (pos 5)
unfolding hidden hidden-the_row-Core-0
adds = refl

passes_the_end : comes_to (Arithmetic Add greatest (n 1)) ≡ Err (fault.Overflow (place.Slot 1))
unfolding hidden hidden-the_row-Core-0
passes_the_end = refl

least_by_minus_one : comes_to (Arithmetic Divide least (Negate (n 1))) ≡ Err (fault.Overflow (place.Slot 1))
unfolding hidden hidden-the_row-Core-0
least_by_minus_one = refl

remainder_by_minus_one : comes_to (Arithmetic Remainder least (Negate (n 1))) ≡ number_is (pos 0)
unfolding hidden hidden-the_row-Core-0
remainder_by_minus_one = refl

truncates : comes_to (Arithmetic Divide (Negate (n 7)) (n 2)) ≡ number_is (negsuc 2)
unfolding hidden hidden-the_row-Core-0
truncates = refl

has_dividends_sign : comes_to (Arithmetic Remainder (Negate (n 7)) (n 2)) ≡ number_is (negsuc 0)
unfolding hidden hidden-the_row-Core-0
has_dividends_sign = refl

by_zero : comes_to (Arithmetic Remainder (n 7) (n 0)) ≡ Err (fault.ZeroDivisor (place.Slot 1))
unfolding hidden hidden-the_row-Core-0
by_zero = refl

-- texts of 1,000 bytes and of 1,001

a_thousand : comes_to (Join (Text (replicate 999 97)) (Text (codes "b"))) ≡ Ok (text_of (replicate 999 97 ++ 98 ∷ []))
unfolding hidden hidden-the_row-Core-0
a_thousand = refl

one_more : comes_to (Join (Text (replicate 999 97)) (Text (codes "bc"))) ≡ Err (fault.TextTooLong (place.Slot 1))
unfolding hidden hidden-the_row-Core-0
one_more = refl

-- what must be one

of_none : comes_to (Only (Set [])) ≡ Err (fault.NotOne Zero (place.Slot 1))
unfolding hidden hidden-the_row-Core-0 hidden-the_row-Core-1
of_none = refl

of_many : comes_to (Only (Set (n 1 ∷ n 2 ∷ []))) ≡ Err (fault.NotOne Many (place.Slot 1))
unfolding hidden hidden-the_row-Core-0 hidden-the_row-Core-1
of_many = refl

least_of_nothing : comes_to (Extreme Min (Set [])) ≡ Err (fault.NotOne Zero (place.Slot 1))
unfolding hidden hidden-the_row-Core-0 hidden-the_row-Core-1
least_of_nothing = refl

greatest_of_three : comes_to (Extreme Max (Set (n 3 ∷ n 9 ∷ n 4 ∷ []))) ≡ number_is (pos 9)
unfolding hidden hidden-the_row-Core-0 hidden-the_row-Core-1
greatest_of_three = refl

-- sets

in_order_without_doubles : comes_to (Set (n 2 ∷ n 1 ∷ n 2 ∷ [])) ≡ Ok (num 1 ∷ num 2 ∷ [])
unfolding hidden hidden-the_row-Core-0 hidden-the_row-Core-1
in_order_without_doubles = refl

without : comes_to (Combine Except (Set (n 1 ∷ n 2 ∷ [])) (n 2)) ≡ number_is (pos 1)
unfolding hidden hidden-the_row-Core-0 hidden-the_row-Core-1
without = refl

within : comes_to (Compare Within (Set []) (n 2)) ≡ truth_is true
unfolding hidden hidden-the_row-Core-0 hidden-the_row-Core-1
within = refl

-- strictness: no result outranks a fault, and otherwise the leftmost fault is given

none_on_the_right : comes_to (Arithmetic Add bad loop) ≡ none
unfolding hidden hidden-the_row-Core-0
none_on_the_right = refl

leftmost_fault : comes_to (Arithmetic Add (Only (Set [])) bad) ≡ Err (fault.NotOne Zero (place.Slot 1))
unfolding hidden hidden-the_row-Core-0 hidden-the_row-Core-1
leftmost_fault = refl

-- `and` and `or`: only a left part without result, or one that decides, skips the right one

fault_and_none : comes_to (Connect And (Compare Equal bad (n 1)) (Compare Equal loop (n 1))) ≡ none
unfolding hidden hidden-the_row-Core-0
fault_and_none = refl

false_skips_none : comes_to (Connect And (Truth false) (Compare Equal loop (n 1))) ≡ truth_is false
unfolding hidden hidden-the_row-Core-0
false_skips_none = refl

true_skips_fault : comes_to (Connect Or (Truth true) (Compare Equal bad (n 1))) ≡ truth_is true
unfolding hidden hidden-the_row-Core-0
true_skips_fault = refl

true_and_fault : comes_to (Connect And (Truth true) (Compare Equal bad (n 1))) ≡ bad_fault
unfolding hidden hidden-the_row-Core-0
true_and_fault = refl

-- `if` skips the branch that isn't taken, and both where the condition has a fault

branch_skipped : comes_to (If (Truth true) (n 1) loop) ≡ number_is (pos 1)
unfolding hidden hidden-the_row-Core-0
branch_skipped = refl

condition_first : comes_to (If (Compare Equal bad (n 1)) loop loop) ≡ bad_fault
unfolding hidden hidden-the_row-Core-0
condition_first = refl

-- in a comprehension a condition with a fault comes before its own body, and the outcomes of the values are parts

condition_before_body : comes_to (Comprehension loop (n 1) (Compare Equal bad (n 1))) ≡ bad_fault
unfolding hidden hidden-the_row-Core-0
condition_before_body = refl

later_value_has_none : comes_to (Sum (If (Compare Equal (Variable 0) (n 1)) bad loop) (Set (n 1 ∷ n 2 ∷ [])) (Truth true)) ≡ none
unfolding hidden hidden-the_row-Core-0 hidden-the_row-Core-1
later_value_has_none = refl

-- `any` and `all` skip nothing
any_skips_nothing : comes_to (Quantify Any (Set (n 1 ∷ n 2 ∷ [])) (If (Compare Equal (Variable 0) (n 1)) (Truth true) (Compare Equal bad (n 1)))) ≡ bad_fault
unfolding hidden hidden-the_row-Core-0 hidden-the_row-Core-1
any_skips_nothing = refl

all_of_none : comes_to (Quantify All (Set []) (Truth false)) ≡ truth_is true
unfolding hidden hidden-the_row-Core-0 hidden-the_row-Core-1
all_of_none = refl

-- sums count equal numbers each time, and are exact before they are tested

equal_numbers : comes_to (Sum (n 5) (ObjectStep Root 1) (Truth true)) ≡ number_is (pos 10)
unfolding hidden hidden-the_row-Core-0
equal_numbers = refl

of_nothing : comes_to (Sum (n 5) (Set []) (Truth true)) ≡ number_is (pos 0)
unfolding hidden hidden-the_row-Core-0 hidden-the_row-Core-1
of_nothing = refl

-- over 1, 2 and 3: the greatest number, 1 and -1, of which the first two pass the end
abbrev on_the_way : Core
on_the_way = If (Compare Equal (Variable 0) (n 1)) greatest (If (Compare Equal (Variable 0) (n 2)) (n 1) (Negate (n 1)))

overflows_on_the_way : comes_to (Sum on_the_way (Set (n 1 ∷ n 2 ∷ n 3 ∷ [])) (Truth true)) ≡ number_is (pos 9223372036854775807)
unfolding hidden hidden-the_row-Core-0 hidden-the_row-Core-1
overflows_on_the_way = refl

overflows_in_total : comes_to (Sum on_the_way (Set (n 1 ∷ n 2 ∷ [])) (Truth true)) ≡ Err (fault.Overflow (place.Slot 1))
unfolding hidden hidden-the_row-Core-0 hidden-the_row-Core-1
overflows_in_total = refl

-- a variable gives only the live ones of its objects, and reads whether each is live

deleted_object : value_of two (Count (Variable 0)) (place.Slot 1) ((value.Object 1 ∷ value.Object 9 ∷ []) ∷ []) ≡ number_is (pos 1)
unfolding hidden hidden-the_row-Core-0
deleted_object = refl

deleted_object_is_read : direct_items two (Count (Variable 0)) (place.Slot 1) ((value.Object 1 ∷ value.Object 9 ∷ []) ∷ []) ≡ item.Live 1 ∷ item.Live 9 ∷ []
unfolding hidden hidden-the_row-Core-0
deleted_object_is_read = refl

-- what is skipped isn't read
skipped_is_not_read : direct_items two (If (Truth true) (n 1) (ObjectStep Root 1)) (place.Slot 1) [] ≡ []
unfolding hidden hidden-the_row-Core-0
skipped_is_not_read = refl

-- the objects of a column, their cells, and their parents
steps : comes_to (StateStep (ObjectStep Root 1) 2) ≡ Ok (num 5 ∷ num 7 ∷ [])
unfolding hidden hidden-the_row-Core-0
steps = refl

parents : comes_to (Up (ObjectStep Root 1)) ≡ Ok (value.Object 0 ∷ [])
unfolding hidden hidden-the_row-Core-0
parents = refl

-- the meaning of a cell that reads itself
loops : meaning two 0 3 ≡ none
unfolding hidden hidden-the_row-Core-0
loops = refl

-- what a cell rests on, through a cell with a fault too
through_a_fault : support_of two bad (place.Slot 1) [] ≡ item.Live 0 ∷ []
unfolding hidden hidden-the_row-Core-0
through_a_fault = refl

-- cycles come and go: a state column S, the formulas A = if S then B else 1 and B = A
abbrev turned : Bool → Workbook
turned s = record {
  schema = record {
    columns =
        root_node
        ∷ node 0 (codes "S") (column.State kind.Truth true (Some (value.Truth false)))
        ∷ node 0 (codes "A") (column.Formula kind.Number)
        ∷ node 0 (codes "B") (column.Formula kind.Number)
        ∷ [];
    formulas =
        formula 2 (If (StateStep (Variable 0) 1) (FormulaStep (Variable 0) 3) (Number (pos 1)))
        ∷ formula 3 (FormulaStep (Variable 0) 2)
        ∷ [];
  };
  state = record { objects = root_object ∷ []; cells = stored 0 1 (value.Truth s ∷ []) ∷ []; next = 1 };
}

both_are_one : meaning (turned false) 0 3 ≡ number_is (pos 1)
unfolding hidden hidden-the_row-Core-0
both_are_one = refl

first_is_a_cycle : meaning (turned true) 0 2 ≡ none
unfolding hidden hidden-the_row-Core-0
first_is_a_cycle = refl

second_is_a_cycle : meaning (turned true) 0 3 ≡ none
unfolding hidden hidden-the_row-Core-0
second_is_a_cycle = refl

-- a cycle rests on what made it one
cycle_reads : support_of (turned true) (FormulaStep Root 3) (place.Slot 1) [] ≡ item.Live 0 ∷ item.Stored 0 1 ∷ []
unfolding hidden hidden-the_row-Core-0
cycle_reads = refl

-- F = if true then 1 else F
abbrev skipping : Workbook
skipping = record {
  schema = record {
    columns = root_node ∷ node 0 (codes "F") (column.Formula kind.Number) ∷ [];
    formulas = formula 1 (If (Truth true) (Number (pos 1)) (FormulaStep (Variable 0) 1)) ∷ [];
  };
  state = record { objects = root_object ∷ []; cells = []; next = 1 };
}

not_a_cycle : meaning skipping 0 1 ≡ number_is (pos 1)
unfolding hidden hidden-the_row-Core-0
not_a_cycle = refl

-- a cycle outranks a fault: object T with the number k; Loop = Loop; X = sum(if t.k = 0 then 1 / 0 else Loop : t in T)
abbrev outranked_at : List LiveObject → List StoredCell → Workbook
outranked_at objects cells = record {
  schema = record {
    columns =
        root_node
        ∷ node 0 (codes "T") column.Object
        ∷ node 1 (codes "k") (column.State kind.Number true None)
        ∷ node 0 (codes "Loop") (column.Formula kind.Number)
        ∷ node 0 (codes "X") (column.Formula kind.Number)
        ∷ [];
    formulas =
        formula 3 (FormulaStep (Variable 0) 3)
        ∷ formula 4
        (Sum
        (If (Compare Equal (StateStep (Variable 1) 2) (Number (pos 0))) (Arithmetic Divide (Number (pos 1)) (Number (pos 0))) (FormulaStep (Variable 0) 3))
        (ObjectStep (Variable 0) 1)
        (Truth true))
        ∷ [];
  };
  state = record { objects = root_object ∷ objects; cells = cells; next = 3 };
}

the_fault_alone : meaning (outranked_at (object 1 1 0 ∷ []) (stored 1 2 (num 0 ∷ []) ∷ [])) 0 4 ≡ Err (fault.ZeroDivisor (place.Cell 0 4))
unfolding hidden hidden-the_row-Core-0
the_fault_alone = refl

the_cycle_outranks : meaning (outranked_at (object 1 1 0 ∷ object 2 1 0 ∷ []) (stored 1 2 (num 0 ∷ []) ∷ stored 2 2 (num 1 ∷ []) ∷ [])) 0 4 ≡ none
unfolding hidden hidden-the_row-Core-0
the_cycle_outranks = refl

-- P = only(xs), over a state column xs
abbrev only_of : List Value → Workbook
only_of xs = record {
  schema = record {
    columns =
        root_node
        ∷ node 0 (codes "xs") (column.State kind.Number false None)
        ∷ node 0 (codes "P") (column.Formula kind.Number)
        ∷ [];
    formulas = formula 2 (Only (StateStep (Variable 0) 1)) ∷ [];
  };
  state = record { objects = root_object ∷ []; cells = stored 0 1 xs ∷ []; next = 1 };
}

zero_found : meaning (only_of []) 0 2 ≡ Err (fault.NotOne Zero (place.Cell 0 2))
unfolding hidden hidden-the_row-Core-0
zero_found = refl

many_found : meaning (only_of (num 1 ∷ num 2 ∷ [])) 0 2 ≡ Err (fault.NotOne Many (place.Cell 0 2))
unfolding hidden hidden-the_row-Core-0
many_found = refl

-- two lines of one price: the total counts both, and the set of prices has one
equal_prices : value_of (outranked_at (object 1 1 0 ∷ object 2 1 0 ∷ []) (stored 1 2 (num 5 ∷ []) ∷ stored 2 2 (num 5 ∷ []) ∷ []))
    (Sum (StateStep (Variable 0) 2) (ObjectStep Root 1) (Truth true)) (place.Slot 1) [] ≡ number_is (pos 10)
unfolding hidden hidden-the_row-Core-0
equal_prices = refl

one_price : value_of (outranked_at (object 1 1 0 ∷ object 2 1 0 ∷ []) (stored 1 2 (num 5 ∷ []) ∷ stored 2 2 (num 5 ∷ []) ∷ []))
    (Count (StateStep (ObjectStep Root 1) 2)) (place.Slot 1) [] ≡ number_is (pos 1)
unfolding hidden hidden-the_row-Core-0
one_price = refl

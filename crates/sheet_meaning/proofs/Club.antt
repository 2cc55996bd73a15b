-- A club's courses and members, run through the definitions of procedures, views and kept cells.
use Rattle.std.proofs.Common.{◌≡◌, refl, ℕ, true, false, List, [], ◌∷◌, Some, None, Ok, Err}
use Rattle.std.specs.Prelude.{pos, codes, Result}
use denote.Hole.Carrier.{hidden}
use Rattle.sheet_columns.specs.declared.formula.Core.TheBlock.{hidden-the_row-Core-0}
use Rattle.sheet_columns.specs.declared.statement.CoreStatement.TheBlock.{hidden-the_row-CoreStatement-0}
use Rattle.sheet_values.specs.declared.value.Kind.{Kind}
use Rattle.sheet_values.specs.declared.value.Kind.TheVariants as kind
use Rattle.sheet_values.specs.declared.value.Value.{Value}
use Rattle.sheet_values.specs.declared.value.Value.TheVariants as value
use Rattle.sheet_columns.specs.declared.item.Item.TheVariants.{Live, Up as IsUp, Extent, Stored}
use Rattle.sheet_columns.specs.declared.tree.Column.{Column}
use Rattle.sheet_columns.specs.declared.tree.Column.TheVariants as column
use Rattle.sheet_columns.specs.declared.page.Part.TheVariants as part
use Rattle.sheet_columns.specs.declared.view.CoreView.{CoreView}
use Rattle.sheet_columns.specs.declared.view.CoreView.TheVariants as view
use Rattle.sheet_columns.specs.declared.formula.SetTest.TheVariants.{Equal, Within}
use Rattle.sheet_columns.specs.declared.formula.OrderTest.TheVariants.{Greater, AtLeast}
use Rattle.sheet_columns.specs.declared.formula.ArithmeticOperator.TheVariants.{Subtract}
use Rattle.sheet_columns.specs.declared.formula.Core.{Core, Truth, Number, Root, Variable, ObjectStep, StateStep, FormulaStep, Up, Compare, Order, Arithmetic}
use Rattle.sheet_columns.specs.declared.formula.Core.{Not, Count, Comprehension}
use Rattle.sheet_columns.specs.declared.statement.Change.TheVariants as change
use Rattle.sheet_columns.specs.declared.statement.Target.{Target}
use Rattle.sheet_columns.specs.declared.statement.CoreStatement.{CoreStatement, Change, New, Delete, Check, For, Reply}
use Rattle.sheet_meaning.specs.declared.refusal.Refusal.{Refusal}
use Rattle.sheet_meaning.specs.declared.refusal.Refusal.TheVariants.{Denied, CheckFailed, NotOneCell}
use Rattle.sheet_meaning.specs.declared.workbook.Caller.{Caller}
use Rattle.sheet_meaning.specs.declared.workbook.Schema.{Schema}
use Rattle.sheet_meaning.specs.declared.workbook.State.{State}
use Rattle.sheet_meaning.specs.Support.{Cell}
use Rattle.sheet_meaning.specs.Statements.{Point, workbook}
use Rattle.sheet_meaning.specs.Procedure.{run_procedure}
use Rattle.sheet_meaning.specs.Page.{page, view_support, kept_by_view}
use Rattle.sheet_meaning.proofs.Examples.{root_node, node, root_object, object, stored, formula}

abbrev one_of : Kind → Column
one_of k = column.State k true None

abbrev club : Schema
club = record {
  columns =
      root_node
      ∷ node 0 (codes "Course") column.Object
      ∷ node 1 (codes "title") (one_of kind.Text)
      ∷ node 1 (codes "capacity") (one_of kind.Number)
      ∷ node 1 (codes "Seat") column.Object
      ∷ node 4 (codes "member") (one_of (kind.Object 8))
      ∷ node 1 (codes "taken") (column.Formula (kind.Object 8))
      ∷ node 1 (codes "free") (column.Formula kind.Number)
      ∷ node 0 (codes "Member") column.Object
      ∷ node 8 (codes "name") (one_of kind.Text)
      ∷ node 8 (codes "courses") (column.Formula (kind.Object 1))
      ∷ [];
  formulas =
      formula 6 (StateStep (ObjectStep (Variable 0) 4) 5)
      ∷ formula 7 (Arithmetic Subtract (StateStep (Variable 0) 3) (Count (ObjectStep (Variable 0) 4)))
      ∷ formula 10 (Comprehension (Variable 1) (ObjectStep (Up (Variable 0)) 1) (Compare Within (Variable 0) (FormulaStep (Variable 1) 6)))
      ∷ [];
}

abbrev empty : State
empty = record { objects = root_object ∷ []; cells = []; next = 1 }

abbrev operator : Caller
operator = record { object = None; operator = true }

abbrev member : ℕ → Caller
member o = record { object = Some o; operator = false }

abbrev only_operator : Core
only_operator = Variable 1

abbrev of : Core → ℕ → Target
of e c = record { object = e; column = c }

abbrev zero_number : Core
zero_number = Number (pos 0)

-- the parameters stand at the positions from 2 on

abbrev add_course : List CoreStatement
add_course =
    Check 1 (Order AtLeast (Variable 3) zero_number) (codes "capacity is below zero")
    ∷ New 2 (of Root 1)
    ∷ Change 3 change.Set (of (Variable 4) 2) (Variable 2)
    ∷ Change 4 change.Set (of (Variable 4) 3) (Variable 3)
    ∷ Reply 5 (Variable 4)
    ∷ []

abbrev add_member : List CoreStatement
add_member = New 1 (of Root 8) ∷ Change 2 change.Set (of (Variable 3) 9) (Variable 2) ∷ Reply 3 (Variable 3) ∷ []

abbrev set_name : List CoreStatement
set_name = Change 1 change.Set (of (Variable 2) 9) (Variable 3) ∷ []

abbrev join : List CoreStatement
join =
    Check 1 (Compare Equal (Count (Variable 0)) (Number (pos 1))) (codes "no member")
    ∷ Check 2 (Not (Compare Within (Variable 0) (FormulaStep (Variable 2) 6))) (codes "already joined")
    ∷ Check 3 (Order Greater (FormulaStep (Variable 2) 7) zero_number) (codes "the course is full")
    ∷ New 4 (of (Variable 2) 4)
    ∷ Change 5 change.Set (of (Variable 3) 5) (Variable 0)
    ∷ Reply 6 (Variable 3)
    ∷ []

abbrev leave : List CoreStatement
leave = Delete 1 (Comprehension (Variable 3) (ObjectStep (Variable 2) 4) (Compare Equal (StateStep (Variable 3) 5) (Variable 0))) ∷ []

abbrev drop_member : List CoreStatement
drop_member = Delete 1 (Variable 2) ∷ []

abbrev wipe : List CoreStatement
wipe = For 1 (ObjectStep (Variable 2) 4) (record { list = Delete 2 (Variable 2) ∷ [] }) ∷ Check 3 (Truth false) (codes "kept") ∷ []

abbrev mine : List CoreView
mine =
    view.Show (record { number = 1; name = codes "name"; shown = StateStep (Variable 0) 9 })
    ∷ view.Table 2 (codes "courses") (FormulaStep (Variable 0) 10)
    (record { number = 3; name = codes "title"; shown = StateStep (Variable 2) 2 }
    ∷ record { number = 4; name = codes "free"; shown = FormulaStep (Variable 2) 7 }
    ∷ [])
    ∷ []

abbrev text : List ℕ → Value
text t = value.Text t

abbrev number : ℕ → Value
number k = value.Number (pos k)

-- the states of the club

-- one course with one place, and two members
abbrev opened : State
opened = record {
  objects = root_object ∷ object 1 1 0 ∷ object 2 8 0 ∷ object 3 8 0 ∷ [];
  cells =
      stored 1 2 (text (codes "Chess") ∷ [])
      ∷ stored 1 3 (number 1 ∷ [])
      ∷ stored 2 9 (text (codes "Ann") ∷ [])
      ∷ stored 3 9 (text (codes "Bo") ∷ [])
      ∷ [];
  next = 4;
}

abbrev with_course : State
with_course = record {
  objects = root_object ∷ object 1 1 0 ∷ [];
  cells = stored 1 2 (text (codes "Chess") ∷ []) ∷ stored 1 3 (number 1 ∷ []) ∷ [];
  next = 2;
}

abbrev with_ann : State
with_ann = record {
  objects = root_object ∷ object 1 1 0 ∷ object 2 8 0 ∷ [];
  cells = stored 1 2 (text (codes "Chess") ∷ []) ∷ stored 1 3 (number 1 ∷ []) ∷ stored 2 9 (text (codes "Ann") ∷ []) ∷ [];
  next = 3;
}

-- the first member has joined, and the other one has a name
abbrev joined_as : List ℕ → State
joined_as name = record {
  objects = root_object ∷ object 1 1 0 ∷ object 2 8 0 ∷ object 3 8 0 ∷ object 4 4 1 ∷ [];
  cells =
      stored 1 2 (text (codes "Chess") ∷ [])
      ∷ stored 1 3 (number 1 ∷ [])
      ∷ stored 2 9 (text (codes "Ann") ∷ [])
      ∷ stored 3 9 (text name ∷ [])
      ∷ stored 4 5 (value.Object 2 ∷ [])
      ∷ [];
  next = 5;
}

-- the first member has left again
abbrev left : State
left = record {
  objects = root_object ∷ object 1 1 0 ∷ object 2 8 0 ∷ object 3 8 0 ∷ [];
  cells =
      stored 1 2 (text (codes "Chess") ∷ [])
      ∷ stored 1 3 (number 1 ∷ [])
      ∷ stored 2 9 (text (codes "Ann") ∷ [])
      ∷ stored 3 9 (text (codes "Bob") ∷ [])
      ∷ [];
  next = 5;
}

-- what a run leaves, without its variables
abbrev Left : Type 0
Left = Result (State × List Value × List Cell) Refusal

abbrev left_by : Result Point Refusal → Left
left_by (Ok p) = Ok (p.state, p.reply, p.kept)
left_by (Err r) = Err r

abbrev no_cells : List Cell
no_cells = []

-- the results that a member's view keeps: `courses` of the member, `free` and `taken` of the course
abbrev three : List Cell
three = (2, 10) ∷ (1, 7) ∷ (1, 6) ∷ []

course_added : left_by (run_procedure club only_operator add_course operator (text (codes "Chess") ∷ number 1 ∷ []) empty []) ≡ Ok (
  with_course,
  value.Object 1 ∷ [],
  no_cells,
)
unfolding hidden hidden-the_row-Core-0
course_added = refl

ann_added : left_by (run_procedure club only_operator add_member operator (text (codes "Ann") ∷ []) with_course []) ≡ Ok (
  with_ann,
  value.Object 2 ∷ [],
  no_cells,
)
unfolding hidden hidden-the_row-Core-0
ann_added = refl

bo_added : left_by (run_procedure club only_operator add_member operator (text (codes "Bo") ∷ []) with_ann []) ≡ Ok (opened, value.Object 3 ∷ [], no_cells)
unfolding hidden hidden-the_row-Core-0
bo_added = refl

-- another caller may not
denied : left_by (run_procedure club only_operator add_member (member 2) (text (codes "Cy") ∷ []) with_ann []) ≡ Err Denied
unfolding hidden hidden-the_row-Core-0
denied = refl

-- the results that the checks worked out are dropped again, since a seat was made
ann_joins : left_by (run_procedure club (Truth true) join (member 2) (value.Object 1 ∷ []) opened []) ≡ Ok (
  joined_as (codes "Bo"),
  value.Object 4 ∷ [],
  no_cells,
)
unfolding hidden hidden-the_row-Core-0
ann_joins = refl

ann_sees : page (workbook club (joined_as (codes "Bo"))) (Truth true) mine (member 2) [] ≡ Ok
    (part.Show (codes "name") (Ok (text (codes "Ann") ∷ [])) ∷ part.Table (codes "courses") (codes "title" ∷ codes "free" ∷ [])
    (Ok (record { of = value.Object 1; shows = Ok (text (codes "Chess") ∷ []) ∷ Ok (number 0 ∷ []) ∷ [] } ∷ [])) ∷ [])
unfolding hidden hidden-the_row-Core-0
ann_sees = refl

three_are_kept : kept_by_view (workbook club (joined_as (codes "Bo"))) (Truth true) mine (member 2) [] [] ≡ three
unfolding hidden hidden-the_row-Core-0
three_are_kept = refl

full_course : left_by (run_procedure club (Truth true) join (member 3) (value.Object 1 ∷ []) (joined_as (codes "Bo")) three) ≡ Err
    (CheckFailed 3 (codes "the course is full"))
unfolding hidden hidden-the_row-Core-0
full_course = refl

ann_reads : view_support (workbook club (joined_as (codes "Bo"))) (Truth true) mine (member 2) [] ≡ Live 1 ∷ Live 2 ∷ IsUp 2 ∷ Extent 0 1 ∷ Extent 1 4 ∷ Stored
    1 2 ∷ Stored 1 3 ∷ Stored 2 9 ∷ Stored 4 5 ∷ []
unfolding hidden hidden-the_row-Core-0
ann_reads = refl

-- a change that doesn't reach them leaves the kept results
renamed : left_by (run_procedure club only_operator set_name operator (value.Object 3 ∷ text (codes "Bob") ∷ []) (joined_as (codes "Bo")) three) ≡ Ok
    (joined_as (codes "Bob"), [], three)
unfolding hidden hidden-the_row-Core-0
renamed = refl

-- the course is gone inside the loop, and the turns over its seats are skipped; then all is as before
wiped : left_by (run_procedure club only_operator wipe operator (value.Object 1 ∷ []) (joined_as (codes "Bob")) three) ≡ Err (CheckFailed 3 (codes "kept"))
unfolding hidden hidden-the_row-Core-0 hidden-the_row-CoreStatement-0
wiped = refl

-- the seat's cell would be empty
dropped_too_soon : left_by (run_procedure club only_operator drop_member operator (value.Object 2 ∷ []) (joined_as (codes "Bob")) three) ≡ Err
    (NotOneCell 4 5 0)
unfolding hidden hidden-the_row-Core-0
dropped_too_soon = refl

-- every kept result rests on the course's seats
ann_leaves : left_by (run_procedure club (Truth true) leave (member 2) (value.Object 1 ∷ []) (joined_as (codes "Bob")) three) ≡ Ok (left, [], no_cells)
unfolding hidden hidden-the_row-Core-0
ann_leaves = refl

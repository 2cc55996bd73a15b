-- What statements do: what a run of them ends in, how far it came, what it changed on the way, and what its formulas cost.
--
-- The words that put one thing after another, each of which leaves what ended before it as it is:
--
--   next         a point                        then what follows it          a refusal stays
--   with_value   an outcome                     then what its value leads to  a fault refuses
--   from_run     the formulas of a statement    then what its value leads to  a fault refuses; the reached cells are kept
--   ended        the end of a block             without the block's variables a refusal stays
--   course_next, course_from, course_ended      the same, of whole courses
use Rattle.std.specs.Prelude.{ℕ, ◌+◌, nat_lt, Bool, true, if◌then◌else◌, List, [], ◌∷◌, ◌++◌, length, fold, sum_by, is_some, Result, Ok, Err}
use Rattle.std.specs.List.{filter_map}
use Rattle.sheet_values.specs.declared.value.Value.{Value}
use Rattle.sheet_values.specs.declared.value.Value.TheVariants as value
use Rattle.sheet_columns.specs.declared.fault.Place.TheVariants as place
use Rattle.sheet_columns.specs.declared.formula.Core.{Core}
use Rattle.sheet_columns.specs.declared.statement.Target.{Target}
use Rattle.sheet_columns.specs.declared.statement.CoreStatement.{CoreStatement, Let, Change, New, Delete, Check, If', For', Reply, Row_of-CoreStatement, end_of-CoreStatement as end, more_of-CoreStatement as more}
use Rattle.sheet_columns.specs.declared.statement.Change.{Change as TheChange}
use Rattle.sheet_meaning.specs.declared.refusal.Which.{Which}
use Rattle.sheet_meaning.specs.declared.refusal.Which.TheVariants as which
use Rattle.sheet_meaning.specs.declared.refusal.Refusal.{Refusal}
use Rattle.sheet_meaning.specs.declared.refusal.Refusal.TheVariants.{CheckFailed, FormulaFault, Full}
use Rattle.sheet_meaning.specs.Run.{Outcome, finish, both, the_one}
use Rattle.sheet_meaning.specs.Formula.{Variables, object_in, truth}
use Rattle.sheet_meaning.specs.Workbook.{object_at, set_in}
use Rattle.sheet_meaning.specs.Rounds.{settled_run}
use Rattle.sheet_meaning.specs.WellFormed.{stored_values, cell_count, max_objects, max_cells, max_values, max_number}
use Rattle.sheet_meaning.specs.Support.{Cell}
use Rattle.sheet_meaning.specs.Kept.{kept_with, kept_after}
use Rattle.sheet_meaning.specs.Cost.{cost_of_all}
use Rattle.sheet_meaning.specs.declared.run.Use.{Use}
use Rattle.sheet_meaning.specs.Changes.{changed_set, with_set, with_object, without_object}
use Rattle.sheet_meaning.specs.declared.run.Run.{Run}
use Rattle.sheet_meaning.specs.declared.workbook.Schema.{Schema}
use Rattle.sheet_meaning.specs.declared.workbook.State.{State}
use Rattle.sheet_meaning.specs.declared.workbook.Workbook.{Workbook}

-- how far the run of a procedure has come: the state, the variables, the reply so far, and the formula cells that are kept
pub record Point : Type 0 where
  pub state : State
  pub variables : Variables
  pub reply : List Value
  pub kept : List Cell

abbrev pub workbook : Schema → State → Workbook
workbook s t = record { schema = s; state = t }

-- goes on from a point; a refusal ends the run
abbrev pub next : Result Point Refusal → (Point → Result Point Refusal) → Result Point Refusal
next (Ok p) f = f p
next (Err r) f = Err r

-- goes on from a formula's value; its fault is a refusal
abbrev pub with_value : {A : Type 0} → Outcome A → (A → Result Point Refusal) → Result Point Refusal
with_value (Ok a) f = f a
with_value (Err e) f = Err (FormulaFault e)

-- the cells that are reached from what was used are kept
abbrev pub keeping : Schema → List Use → Point → Point
keeping s us p = record p { kept = kept_with (workbook s p.state) us p.kept }

-- goes on from what a statement's formulas come to; the cells that are reached from them are kept
abbrev pub from_run : {A : Type 0} → Schema → Run A → Point → (A → Point → Result Point Refusal) → Result Point Refusal
from_run s r p f = with_value r.outcome (λ a. f a (keeping s r.uses p))

-- a formula of the statement with the number n
abbrev pub formula : Schema → Point → ℕ → Core → Run (List Value)
formula s p n e = settled_run (workbook s p.state) e (place.Statement n) p.variables

-- the object that a target is under, which must be one
abbrev pub target_object : Schema → Point → ℕ → Target → Run ℕ
target_object s p n t = finish (formula s p n t.object) (λ set. the_one (place.Statement n) (filter_map object_in set))

-- one more variable
abbrev pub with_variable : Point → List Value → Point
with_variable p set = record p { variables = p.variables ++ set ∷ [] }

-- the state has changed; the cells that the change reaches aren't kept
abbrev pub with_state : Schema → Point → State → Point
with_state s p t = record p { state = t; kept = kept_after (workbook s p.state) (workbook s t) p.kept }

-- the end of a block: its variables are gone
abbrev pub ended : Point → Result Point Refusal → Result Point Refusal
ended p (Ok q) = Ok (record q { variables = p.variables })
ended p (Err r) = Err r

-- the first count that is over its limit is a refusal
abbrev pub within : List (Which × ℕ × ℕ) → Result Point Refusal → Result Point Refusal
within [] r = r
within (x ∷ xs) r = if nat_lt x.2 x.1 then Err (Full x.0 x.2) else within xs r

-- `set`, `add` and `remove`
abbrev pub store : Schema → TheChange → ℕ → ℕ → List Value → Point → Result Point Refusal
store s how o c set p =
    let t = with_set p.state o c (changed_set how (set_in p.state.cells o c) set) in
    within ((which.Values, stored_values t.cells, max_values) ∷ []) (Ok (with_state s p t))

-- `new`: the variable is the new object
abbrev pub make : Schema → ℕ → ℕ → Point → Result Point Refusal
make s c parent p =
    let t = with_object s p.state c parent in
    within
    ((which.Objects, length t.objects, max_objects)
    ∷ (which.Cells, cell_count (workbook s t), max_cells)
    ∷ (which.Values, stored_values t.cells, max_values)
    ∷ (which.Numbers, p.state.next, max_number)
    ∷ [])
    (Ok (with_variable (with_state s p t) (value.Object p.state.next ∷ [])))

-- `delete`, for one object, where it is still live
abbrev pub remove : Schema → Point → ℕ → Point
remove s p o = if is_some (object_at p.state.objects o) then with_state s p (without_object p.state o) else p

abbrev pub value_weight : Value → ℕ
value_weight (value.Truth b) = 16
value_weight (value.Number n) = 16
value_weight (value.Text t) = 16 + length t
value_weight (value.Object o) = 16

abbrev pub max_reply : ℕ
max_reply = 4096

-- `reply`
abbrev pub answer : List Value → Point → Result Point Refusal
answer set p = within ((which.Reply, sum_by value_weight set, max_reply) ∷ []) (Ok (record p { reply = set }))

-- a value that is no object, or a live one
abbrev pub is_present : State → Value → Bool
is_present s (value.Truth b) = true
is_present s (value.Number n) = true
is_present s (value.Text t) = true
is_present s (value.Object o) = is_some (object_at s.objects o)

-- a change of a run: the state before it, and the state behind it
pub record Changed : Type 0 where
  pub before : State
  pub behind : State

-- how a run goes from a point: what it ends in, the last point that it came to, which is that of the refusing formula where it is refused,
-- its changes in order, and the sum of the costs of its formulas, the refusing one included
pub record Course : Type 0 where
  pub end : Result Point Refusal
  pub last : Point
  pub changes : List Changed
  pub cost : ℕ

-- what stands for the one or the other end, and for a value or a fault
abbrev pub at_end : {B : Type 0} → Result Point Refusal → B → (Point → B) → B
at_end (Ok p) b f = f p
at_end (Err r) b f = b

abbrev pub where_known : {A B : Type 0} → Outcome A → B → (A → B) → B
where_known (Ok a) b f = f a
where_known (Err e) b f = b

-- an end at this point, without a formula; what it changed
abbrev pub still : Point → Result Point Refusal → Course
still p r = record { end = r; last = at_end r p (λ q. q); changes = []; cost = 0 }

abbrev pub changed : Point → Result Point Refusal → Course
changed p r = record (still p r) { changes = at_end r [] (λ q. record { before = p.state; behind = q.state } ∷ []) }

-- goes on from the end of a course
abbrev pub course_next : Course → (Point → Course) → Course
course_next c f = record {
  end = next c.end (λ p. (f p).end);
  last = at_end c.end c.last (λ p. (f p).last);
  changes = c.changes ++ at_end c.end [] (λ p. (f p).changes);
  cost = c.cost + at_end c.end 0 (λ p. (f p).cost);
}

-- goes on from what a statement's formulas come to, where each of them used this
abbrev pub course_from : {A : Type 0} → Schema → List (List Use) → Run A → Point → (A → Point → Course) → Course
course_from s uss r p f =
    let q = keeping s r.uses p in
    record {
      end = from_run s r p (λ a t. (f a t).end);
      last = where_known r.outcome q (λ a. (f a q).last);
      changes = where_known r.outcome [] (λ a. (f a q).changes);
      cost = cost_of_all (workbook s p.state) p.kept uss + where_known r.outcome 0 (λ a. (f a q).cost);
    }

-- the end of a block: its variables are gone
abbrev pub course_ended : Point → Course → Course
course_ended p c = record c { end = ended p c.end; last = at_end (ended p c.end) c.last (λ q. q) }

-- what goes with an object, where it is still live
abbrev pub removal : Point → ℕ → List Changed
removal p o = if is_some (object_at p.state.objects o) then record { before = p.state; behind = without_object p.state o } ∷ [] else []

abbrev pub removals : Schema → Point → List ℕ → List Changed
removals s p [] = []
removals s p (o ∷ os) = removal p o ++ removals s (remove s p o) os

-- `delete`: the objects go in order
abbrev pub remove_all : Schema → Point → List ℕ → Course
remove_all s p os = record (still p (Ok (fold (remove s) p os))) { changes = removals s p os }

-- `for`: a turn for each value in order; one over an object that is no longer live is skipped
abbrev pub course_turn : (Point → Course) → Value → Point → Course
course_turn body x p = if is_present p.state x then course_ended p (body (with_variable p (x ∷ []))) else still p (Ok p)

abbrev pub course_turns : (Point → Course) → List Value → Point → Course
course_turns body [] p = still p (Ok p)
course_turns body (x ∷ xs) p = course_next (course_turn body x p) (course_turns body xs)

abbrev mutual
  -- one statement
  pub course : CoreStatement → Schema → Point → Course
  course (Let n e) s p = let r = formula s p n e in course_from s (r.uses ∷ []) r p (λ set q. still q (Ok (with_variable q set)))
  course (Change n how t e) s p =
      let target = target_object s p n t in
      let r = formula s p n e in
      course_from s (target.uses ∷ r.uses ∷ []) (both target r) p (λ x q. changed q (store s how x.0 t.column x.1 q))
  course (New n t) s p = let target = target_object s p n t in course_from s (target.uses ∷ []) target p (λ o q. changed q (make s t.column o q))
  course (Delete n e) s p = let r = formula s p n e in course_from s (r.uses ∷ []) r p (λ set q. remove_all s q (filter_map object_in set))
  course (Check n e message) s p =
      let r = truth (place.Statement n) (formula s p n e) in
      course_from s (r.uses ∷ []) r p (λ holds q. still q (if holds then Ok q else Err (CheckFailed n message)))
  course (If' n e _ body _ otherwise) s p =
      let r = truth (place.Statement n) (formula s p n e) in
      course_from s (r.uses ∷ []) r p (λ holds q. course_ended q (if holds then course_block body s q else course_block otherwise s q))
  course (For' n e _ body) s p = let r = formula s p n e in course_from s (r.uses ∷ []) r p (λ set q. course_turns (course_block body s) set q)
  course (Reply n e) s p = let r = formula s p n e in course_from s (r.uses ∷ []) r p (λ set q. still q (answer set q))

  -- the statements of a block, in order
  pub course_block : {m : _} → Row_of-CoreStatement m → Schema → Point → Course
  course_block end s p = still p (Ok p)
  course_block (more x rest) s p = course_next (course x s p) (course_block rest s)

-- statements in order
abbrev pub course_statements : List CoreStatement → Schema → Point → Course
course_statements [] s p = still p (Ok p)
course_statements (x ∷ xs) s p = course_next (course x s p) (course_statements xs s)

-- what a statement, a block, and statements end in
abbrev pub run_statement : CoreStatement → Schema → Point → Result Point Refusal
run_statement x s p = (course x s p).end

abbrev pub run_block : {m : _} → Row_of-CoreStatement m → Schema → Point → Result Point Refusal
run_block row s p = (course_block row s p).end

abbrev pub run_statements : List CoreStatement → Schema → Point → Result Point Refusal
run_statements xs s p = (course_statements xs s p).end

-- the cells kept before some changes that none of them drops
abbrev pub left_by : Schema → List Changed → List Cell → List Cell
left_by s changes kept = fold (λ ks (c : Changed). kept_after (workbook s c.before) (workbook s c.behind) ks) kept changes

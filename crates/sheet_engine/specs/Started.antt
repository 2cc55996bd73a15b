-- Started cells, each with the cells that it needs.
use Rattle.std.specs.Prelude.{◌≡◌, ◌<◌, true, ℕ, List, [], ◌∷◌, map, Option, Some, ◌⊎◌, Ok, Err, if◌then◌else◌}
use Rattle.std.specs.List.{AllByRecursion}
use Rattle.sheet_values.specs.declared.value.Value.{Value}
use Rattle.sheet_books.specs.declared.book.Contents.{Contents}
use Rattle.sheet_books.specs.Books.{IsWellTyped}
use Rattle.sheet_columns.specs.declared.fault.Place.{Place}
use Rattle.sheet_columns.specs.declared.formula.Core.{Core}
use Rattle.sheet_meaning.specs.Formula.{Variables, run}
use Rattle.sheet_meaning.specs.Run.{Outcome as Result_of, none}
use Rattle.sheet_meaning.specs.Rounds.{meaning, value_of}
use Rattle.sheet_meaning.specs.Support.{Cell, has_cell, cells_read}
use Rattle.sheet_meaning.specs.Told.{Told, is_lacking, world_told}
use Rattle.sheet_meaning.specs.Workbook.{formula_cells}
use Rattle.sheet_state.specs.Stored.{Stored, IsStored}
use Rattle.sheet_eval.specs.Answer.{IsAnswer}
use Rattle.sheet_eval.specs.declared.evaluation.Outcome.{Outcome}
use Rattle.sheet_eval.specs.declared.evaluation.Outcome.TheVariants.{Known, Fault, Need}
use Rattle.sheet_engine_laws.specs.Chains.{Chained, LastReads}
use Rattle.sheet_engine_laws.specs.Found.{Found}
use Rattle.sheet_engine.specs.Seen.{workbook_of}
use Rattle.sheet_engine.specs.Standings.{Entries, stands, found_in, told_of, is_there, left_at, Grows}
use Rattle.sheet_engine.specs.declared.settling.Frame.{Frame}
use Rattle.sheet_engine.specs.declared.standings.Standing.{Standing}
use Rattle.sheet_engine.specs.declared.standings.Standing.TheVariants.{Started, Settled}

-- a well-typed book, with a state of its columns
pub record IsServed (b : Contents) (k : Stored) : Type 0 where
  pub typed : IsWellTyped b
  pub kept : IsStored b.columns k

-- the results that are found in the workbook of a book and a state; what is no formula cell is a cycle
abbrev pub found_of : Contents → Stored → Entries → Found
found_of b k es = found_in b k.present.state none es

-- what is told of a workbook with these results
abbrev pub told_by : Contents → Stored → Entries → Told
told_by b k es = told_of k.present.state (found_of b k es)

-- the answer of an evaluation over them
abbrev pub IsFoundAnswer : Contents → Stored → Entries → Core → Place → Variables → Outcome → Type 0
IsFoundAnswer b k es e p v a = IsAnswer (told_by b k es) (run e (world_told (told_by b k es)) p v) a

-- whether a cell has no result yet
abbrev pub Lacks : Contents → Stored → Entries → Cell → Type 0
Lacks b k es x = is_lacking (found_of b k es x.0 x.1) ≡ true

-- results that are found are meanings
abbrev pub ResultsHold : Contents → Stored → Entries → Type 0
ResultsHold b k es = (x : Cell) (r : Result_of (List Value)) → stands es x ≡ Some (Settled r) → r ≡ meaning (workbook_of b k) x.0 x.1

-- some cells, all without a result
pub record AreLacking (b : Contents) (k : Stored) (es : Entries) (cells : List Cell) : Type 0 where
  pub some : cells ≡ [] → ⊥
  pub each : (y : Cell) → has_cell cells y ≡ true → Lacks b k es y

-- a cell directly reads these
abbrev pub ReadsAll : Contents → Stored → Cell → List Cell → Type 0
ReadsAll b k x cells = (y : Cell) → has_cell cells y ≡ true → has_cell (cells_read (workbook_of b k) x) y ≡ true

-- what a formula cell comes to: its meaning, or cells without a result that it reads
abbrev pub CellComesTo : Contents → Stored → Entries → Cell → Outcome → Type 0
CellComesTo b k es x (Known s) = meaning (workbook_of b k) x.0 x.1 ≡ Ok s
CellComesTo b k es x (Fault e) = meaning (workbook_of b k) x.0 x.1 ≡ Err e
CellComesTo b k es x (Need cells) = AreLacking b k es cells × ReadsAll b k x cells

-- what an expression comes to: its value, or cells without a result
abbrev pub ExpressionComesTo : Contents → Stored → Entries → Core → Place → Variables → Outcome → Type 0
ExpressionComesTo b k es e p v (Known s) = value_of (workbook_of b k) e p v ≡ Ok s
ExpressionComesTo b k es e p v (Fault f) = value_of (workbook_of b k) e p v ≡ Err f
ExpressionComesTo b k es e p v (Need cells) = AreLacking b k es cells

abbrev pub cell_of : Frame → Cell
cell_of f = (f.object, f.column)

abbrev pub cells_started : List Frame → List Cell
cells_started fs = map cell_of fs

-- no cell stands there twice
abbrev pub AreApart : List Cell → Type 0
AreApart [] = Unit {0}
AreApart (x ∷ xs) = (has_cell xs x ≡ true → ⊥) × AreApart xs

-- a started cell is a formula cell, and reads what it needs
pub record IsWaiting (b : Contents) (k : Stored) (f : Frame) : Type 0 where
  pub there : is_there b k.present.state f.object f.column ≡ true
  pub needs : ReadsAll b k (cell_of f) f.needs

-- results are meanings; the cells that wait are those of the frames, each once, and each directly reads the next
pub record IsUnderWay (b : Contents) (k : Stored) (es : Entries) (fs : List Frame) : Type 0 where
  pub results : ResultsHold b k es
  pub started : (x : Cell) → stands es x ≡ Some Started → has_cell (cells_started fs) x ≡ true
  pub starts : (x : Cell) → has_cell (cells_started fs) x ≡ true → stands es x ≡ Some Started
  pub apart : AreApart (cells_started fs)
  pub waiting : AllByRecursion (IsWaiting b k) fs
  pub chained : Chained (workbook_of b k) (cells_started fs)

-- a well-typed book with a state of its columns, and results that are found in it, where no cell waits
pub record IsWorked (b : Contents) (k : Stored) (es : Entries) : Type 0 where
  pub served : IsServed b k
  pub found : IsUnderWay b k es []

-- a cell that may be started: the first one, or one that the last one reads
abbrev pub MayStart : Contents → Stored → List Frame → Cell → Type 0
MayStart b k fs x = (fs ≡ []) ⊎ LastReads (workbook_of b k) (cells_started fs) x

-- how far a cell is, where all of these are cycles
abbrev pub closing : Entries → List Cell → Cell → Option Standing
closing es cells x = if has_cell cells x then Some (Settled none) else stands es x

-- what is left to do at all formula cells
abbrev pub left : Contents → Stored → Entries → ℕ
left b k es = left_at es (formula_cells (workbook_of b k))

-- one step on: less is left to do
pub record Advances (b : Contents) (k : Stored) (old new : Entries) (fs : List Frame) : Type 0 where
  pub under_way : IsUnderWay b k new fs
  pub grows : Grows old new
  pub falls : left b k new < left b k old

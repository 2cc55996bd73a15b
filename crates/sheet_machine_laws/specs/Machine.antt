-- The abstract machine, as plain lists.
use Rattle.std.specs.Prelude.{ℕ, List, [], ◌∷◌, Option, None}
use Rattle.sheet_meaning.specs.Start.{start_state}
use Rattle.sheet_meaning.specs.Statements.{workbook}
use Rattle.sheet_meaning.specs.Support.{Cell}
use Rattle.sheet_meaning.specs.declared.workbook.State.{State}
use Rattle.sheet_meaning.specs.declared.workbook.Workbook.{Workbook}
use Rattle.sheet_books.specs.declared.book.Contents.{Contents}
use Rattle.sheet_books.specs.Schemas.{schema_of}
use Rattle.sheet_callers.specs.Callers.{Caller, operator}

-- what is held: the book, the objects and stored sets, the callers with their kept requests, how many requests were accepted, and the
-- formula cells whose results are kept
pub record Holding : Type 0 where
  pub book : Contents
  pub state : State
  pub callers : List Caller
  pub accepted : ℕ
  pub kept : List Cell

-- the line of a request whose record may or may not be in the journal, and what is held where it is
pub record Doubt : Type 0 where
  pub line : List ℕ
  pub held : Holding

-- what is held, and perhaps a request in doubt; without a journal there is never one
pub record Machine : Type 0 where
  pub held : Holding
  pub doubt : Option Doubt

-- a machine in which nothing is in doubt
abbrev pub sure : Holding → Machine
sure h = record { held = h; doubt = None }

-- the book and its state as a workbook, in which meanings are worked out
abbrev pub workbook_of : Holding → Workbook
workbook_of h = workbook (schema_of h.book) h.state

-- what is held at the start of a book: the operator with this key is the one caller, and no request was accepted
abbrev pub start : Contents → List ℕ → Holding
start book key = record { book = book; state = start_state (schema_of book); callers = operator key ∷ []; accepted = 0; kept = [] }

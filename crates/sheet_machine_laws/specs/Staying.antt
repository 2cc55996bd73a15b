-- What is held stays sound.
use Rattle.std.specs.Prelude.{ℕ, List}
use Rattle.sheet_columns.specs.Tree.{IsTree}
use Rattle.sheet_books.specs.declared.book.Contents.{Contents}
use Rattle.sheet_books.specs.Books.{IsWellTyped}
use Rattle.sheet_requests.specs.declared.request.Request.{Request}
use Rattle.sheet_machine_laws.specs.Act.{act}
use Rattle.sheet_machine_laws.specs.Machine.{Holding, start}
use Rattle.sheet_machine_laws.specs.Ranges.{IsInRange}
use Rattle.sheet_machine_laws.specs.Sound.{IsSound}

-- what is held at the start of a book is sound
abbrev pub StartsAreSound : Type 0
StartsAreSound = (book : Contents) (key : List ℕ) → IsWellTyped book → IsTree book.columns → IsSound (start book key)

-- so it is after each request in its ranges
abbrev pub SoundStays : Type 0
SoundStays = (h : Holding) (q : Request) → IsSound h → IsInRange q → IsSound (act h q).0

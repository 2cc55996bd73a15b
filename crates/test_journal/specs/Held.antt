-- How far a journal has come.
use Rattle.std.specs.Prelude.{ℕ, ◌+◌, Option, Some, None}
use Rattle.sheet_journal.specs.Journal.{Journal}

-- by how many bytes a record in doubt moves the place, if there is one
abbrev pub moves : Option ℕ → ℕ
moves None = 0
moves (Some count) = count

-- the place, behind a record in doubt if there is one
abbrev pub reached : Journal → ℕ
reached journal = journal.place + moves journal.doubt

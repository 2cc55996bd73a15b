-- What the beginning of a journal comes to.
use Rattle.std.specs.Prelude.{◌≡◌, ℕ, ◌+◌, List, codes, Ok, Err}
use Rattle.sheet_outside.specs.Moments.{Contents}
use Rattle.sheet_outside.specs.Told.{WhereTold}
use Rattle.sheet_lines.specs.Lines.{printed}
use Rattle.sheet_journal.specs.Layout.{Entry, size}
use Rattle.sheet_journal.specs.Journal.{journal_at}
use Rattle.sheet_journal.specs.JournalCalls.{Begins}
use Rattle.sheet_journal.specs.declared.journal.JournalRefusal.TheVariants.{DiskFault, AlreadyThere}
use Rattle.sheet_machine_records.specs.Records.{first_payload}
use Rattle.objsheet_status.specs.Outside.{Seen, Failed, Says}

-- the first record of the journal of a definition, with the operator's key
abbrev pub first_entry : List ℕ → List ℕ → Entry
first_entry key definition = record { kind = 0; payload = first_payload key definition }

-- the line of a journal that was made
abbrev pub made_line : List ℕ
made_line = printed (codes "ok")

-- the line where there is a file already
abbrev pub already_there_line : List ℕ
already_there_line = printed (codes "refused: already there")

-- What the beginning of a journal of this name with this first record comes to with a status, by what was written and by the disk.
-- `Begins` says what a crash within leaves, that other files stay, and what the file of this name is at the end.
-- Made: it is the journal of that record, as every crash then leaves it, and `ok` is the line due. Already there: it has more than
-- nine bytes and isn't what a beginning that was stopped leaves, what a read gives of it stays, and the refusal is the line due.
-- 5: the disk failed, and nothing was written. 7: nothing was written, and the disk stays.
pub data Begun (name : List ℕ) (entry : Entry) (status : ℕ) (output output' : Seen (List ℕ)) (disk disk' : Seen Contents) : Type 0 where
  is_made : WhereTold (Begins name entry (Ok (journal_at (8 + size entry)))) disk.told disk'.told → Says made_line 0 status output output'
      → Begun name entry status output output' disk disk'
  is_already_there : WhereTold (Begins name entry (Err AlreadyThere)) disk.told disk'.told → Says already_there_line 1 status output output'
      → Begun name entry status output output' disk disk'
  has_failed : status ≡ 5 → Failed disk disk' → WhereTold (Begins name entry (Err DiskFault)) disk.told disk'.told → output' ≡ output
      → Begun name entry status output output' disk disk'
  is_starved : status ≡ 7 → WhereTold (λ was is. is ≡ was) disk.told disk'.told → output' ≡ output → Begun name entry status output output' disk disk'

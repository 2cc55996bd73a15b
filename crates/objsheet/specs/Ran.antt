-- What a run comes to: of each command by its status, in one definition, and of words that are no command.
use Rattle.std.specs.Prelude.{◌≡◌, ℕ, List, Option, Vec}
use Rattle.std.specs.Global.{Global}
use Rattle.sheet_outside.specs.Told.{WhereTold}
use Rattle.sheet_lines.specs.Told.{Ends, both}
use Rattle.objsheet_status.specs.Outside.{Outside, Failed, Says}
use Rattle.objsheet_check.specs.Checking.{IsChecked, IsCheckedInput, IsUnfit, HasNoBook, Takes, IsCutOff}
use Rattle.objsheet_check.specs.Initialising.{Inits}
use Rattle.objsheet.specs.Trying.{IsDone, IsRead, IsRefused, HasCauseOfRefusal, IsStopped, IsBrokenOff}
use Rattle.objsheet.specs.Commands.{IsCheck, IsTry, IsInit, IsOther, usage}

-- the bytes left and those written, where both are told
abbrev pub ends : Outside → Option Ends
ends o = both o.input.told o.output.told

-- What `check` comes to with a status.
-- 0: the input was read to its end, it has a book, and the line of its book was written.
-- 1: the input is refused, so it has no book, and the line that says why was written.
-- 3: the source failed, and nothing was written. 7: nothing was written.
-- 4: the sink failed, and a front of the line that is due was written.
pub data Checks (before after : Outside) : ℕ → Type 0 where
  has_book : WhereTold IsChecked (ends before) (ends after) → WhereTold IsCheckedInput before.input.told after.input.told → Checks before after 0
  has_none : WhereTold IsUnfit (ends before) (ends after) → WhereTold (λ input left. HasNoBook input) before.input.told after.input.told → Checks before after 1
  is_unread : Failed before.input after.input → WhereTold Takes before.input.told after.input.told → after.output.told ≡ before.output.told → Checks before after 3
  is_cut_off : Failed before.output after.output → WhereTold IsCutOff (ends before) (ends after) → Checks before after 4
  has_no_room : after.output.told ≡ before.output.told → Checks before after 7

-- What `try` comes to with a status.
-- 0: the input was read to its end, and the replies to its request lines were written.
-- 1: the definition is refused, or the input is too long, and that was written.
-- 3: the source failed, and the replies to the lines taken were written.
-- 4: the sink failed, and a front of what is due was written. 7: a front of what is due was written.
pub data Tries (before after : Outside) : ℕ → Type 0 where
  is_done : WhereTold IsDone (ends before) (ends after) → WhereTold IsRead before.input.told after.input.told → Tries before after 0
  is_refused : WhereTold IsRefused (ends before) (ends after) → WhereTold HasCauseOfRefusal before.input.told after.input.told → Tries before after 1
  is_stopped : Failed before.input after.input → WhereTold IsStopped (ends before) (ends after) → Tries before after 3
  is_broken_off : Failed before.output after.output → WhereTold IsBrokenOff (ends before) (ends after) → Tries before after 4
  is_starved : WhereTold IsBrokenOff (ends before) (ends after) → Tries before after 7

-- What words that are no command come to with a status: `usage` is the line due, and nothing is read.
abbrev pub Misuses : ℕ → Outside → Outside → Type 0
Misuses status before after = Says usage 2 status before.output after.output × (after.input ≡ before.input)

-- What a run of these words comes to with a status: what their command comes to, of which there is one at most. The disk is called by
-- `init` alone.
pub data Ran (words : List (Vec ℕ Global)) (status : ℕ) (before after : Outside) : Type 0 where
  checks : IsCheck words → Checks before after status → after.disk ≡ before.disk → Ran words status before after
  tries : IsTry words → Tries before after status → after.disk ≡ before.disk → Ran words status before after
  inits : (name key : List ℕ) → IsInit words name key → Inits name key status before after → Ran words status before after
  misuses : IsOther words → Misuses status before after → after.disk ≡ before.disk → Ran words status before after

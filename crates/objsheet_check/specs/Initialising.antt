-- What `init` comes to.
use Rattle.std.specs.Prelude.{◌≡◌, ℕ, List, []}
use Rattle.sheet_outside.specs.Told.{WhereTold}
use Rattle.sheet_books.specs.declared.book.Contents.{Contents}
use Rattle.objsheet_status.specs.Outside.{Outside, Failed, Says}
use Rattle.objsheet_init.specs.Beginning.{Begun, first_entry}
use Rattle.objsheet_check.specs.Checking.{HasBook, HasNoBook, IsRefusedText, Takes}
use Rattle.objsheet_check.specs.declared.initialising.Found.{Found}
use Rattle.objsheet_check.specs.declared.initialising.Found.TheVariants.{Definition, Refused}

-- a definition that was found has a book
abbrev pub HasItsBook : Found → Type 0
HasItsBook (Definition text) = (book : Contents) × HasBook text.items book
HasItsBook (Refused line) = Unit {0}

-- the text that was found is the whole input; or the input is refused, and the line says why
abbrev pub IsFoundIn : Found → List ℕ → List ℕ → Type 0
IsFoundIn (Definition text) input left = (input ≡ text.items) × (left ≡ [])
IsFoundIn (Refused line) input left = IsRefusedText input line.items × HasNoBook input

-- What `init` comes to with a status, for the name of a journal and the operator's key.
-- Begun: the whole input is a text that has a book, and the beginning of its journal came to what `Begun` says.
-- Unfit: the input is refused, and the line that says why is the one due. 3: the source failed, and nothing was written.
-- 7: there was no memory for the input, and nothing was written. In these three the disk wasn't called.
pub data Inits (name key : List ℕ) (status : ℕ) (before after : Outside) : Type 0 where
  has_begun : (text : List ℕ) (book : Contents) → HasBook text book → WhereTold (λ input left. (input ≡ text) × (left ≡ [])) before.input.told after.input.told
      → Begun name (first_entry key text) status before.output after.output before.disk after.disk → Inits name key status before after
  is_unfit : (line : List ℕ) → WhereTold (λ input left. IsRefusedText input line × HasNoBook input) before.input.told after.input.told
      → Says line 1 status before.output after.output → after.disk ≡ before.disk → Inits name key status before after
  is_unread : status ≡ 3 → Failed before.input after.input → WhereTold Takes before.input.told after.input.told → after.output ≡ before.output
      → after.disk ≡ before.disk → Inits name key status before after
  has_no_room : status ≡ 7 → after.output ≡ before.output → after.disk ≡ before.disk → Inits name key status before after

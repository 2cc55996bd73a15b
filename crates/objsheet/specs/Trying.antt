-- What `try` writes, and what it leaves of its input.
use Rattle.std.specs.Prelude.{◌≡◌, ℕ, ◌<◌, ◌≤◌, ◌^◌, ◌⊎◌, List, [], ◌++◌, length, take, codes}
use Rattle.sheet_lines.specs.Lines.{printed}
use Rattle.sheet_lines.specs.Told.{Ends, GainsFront}
use Rattle.sheet_lines.specs.Division.{definition_of, lines_behind, requests_of, ended_requests_of}
use Rattle.sheet_books.specs.declared.book.Contents.{Contents}
use Rattle.objsheet_check.specs.Checking.{HasBook, HasNoBook, IsRefusedText}
use Rattle.objsheet.specs.Sessions.{Answers}

-- the line of an input that is too long
abbrev pub too_long : List ℕ
too_long = printed (codes "refused: too long, limit 1099511627776")

-- the request lines of an input that is too long: those that a line feed ends in as much of it as is read
abbrev pub first_requests : List ℕ → List (List ℕ)
first_requests input = ended_requests_of (take (2 ^ 40) input)

-- All that `try` writes over an input, where nothing outside fails: the line that `check` writes of a definition that is refused, or the
-- answers to the request lines, behind which stands the refusal of an input that is too long.
pub data FullOutput (input : List ℕ) : List ℕ → Type 0 where
  unfit : (line : List ℕ) → IsRefusedText (definition_of input) line → FullOutput input line
  done : (text : List ℕ) → length input ≤ 2 ^ 40 → Answers (definition_of input) (requests_of input) text → FullOutput input text
  longer : (text : List ℕ) → 2 ^ 40 < length input → Answers (definition_of input) (first_requests input) text → FullOutput input (text ++ too_long)

-- Status 0: the input was read to its end, and the answers to its request lines were written.
pub record IsDone (old new : Ends) : Type 0 where
  pub end : new.left ≡ []
  pub short : length old.left ≤ 2 ^ 40
  pub text : List ℕ
  pub answers : Answers (definition_of old.left) (requests_of old.left) text
  pub written : new.written ≡ old.written ++ text

-- The input was read to its end, and its definition has a book.
pub record IsRead (input left : List ℕ) : Type 0 where
  pub end : left ≡ []
  pub short : length input ≤ 2 ^ 40
  pub book : Contents
  pub has : HasBook (definition_of input) book

-- The definition is refused, and the line that says why was written.
pub record IsUnfit (old new : Ends) : Type 0 where
  pub line : List ℕ
  pub refused : IsRefusedText (definition_of old.left) line
  pub written : new.written ≡ old.written ++ line

-- The input is too long: the answers to its first request lines were written, then the refusal.
pub record IsLonger (old new : Ends) : Type 0 where
  pub longer : 2 ^ 40 < length old.left
  pub text : List ℕ
  pub answers : Answers (definition_of old.left) (first_requests old.left) text
  pub written : new.written ≡ old.written ++ (text ++ too_long)

-- Status 1: the definition is refused, and that was written alone; or the input is too long.
abbrev pub IsRefused : Ends → Ends → Type 0
IsRefused old new = IsUnfit old new ⊎ IsLonger old new

-- the input has a cause for status 1
abbrev pub HasCauseOfRefusal : List ℕ → List ℕ → Type 0
HasCauseOfRefusal input left = HasNoBook (definition_of input) ⊎ (2 ^ 40 < length input)

-- Status 3: the answers to the request lines that a line feed ends in the bytes taken were written. Before the definition
-- was read nothing was.
pub record IsStopped (old new : Ends) : Type 0 where
  pub taken : List ℕ
  pub left : old.left ≡ taken ++ new.left
  pub text : List ℕ
  pub told : Answers (definition_of old.left) (ended_requests_of taken) text ⊎ ((lines_behind taken ≡ []) × (text ≡ []))
  pub written : new.written ≡ old.written ++ text

-- Status 4 and 7: nothing was written, or a front of all that would be.
abbrev pub IsBrokenOff : Ends → Ends → Type 0
IsBrokenOff old new = (new.written ≡ old.written) ⊎ ((full : List ℕ) × FullOutput old.left full × GainsFront full old.written new.written)

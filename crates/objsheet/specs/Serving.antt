-- How `try` goes: its beginning, its loop over request lines, step by step, and why it stops.
use Rattle.std.specs.Prelude.{◌≡◌, ◌≢◌, ℕ, ◌<◌, ◌^◌, ◌⊎◌, List, [], ◌++◌, length, codes}
use Rattle.sheet_lines.specs.Lines.{lines, ended, all_said, unless_empty, printed}
use Rattle.sheet_lines.specs.Reading.{HasNoFeed}
use Rattle.sheet_lines.specs.Told.{Ends, GainsFront}
use Rattle.sheet_lines.specs.Dividing.{Divides}
use Rattle.sheet_lines.specs.Division.{definition_of}
use Rattle.sheet_lines.specs.declared.stop.ReadStop.{ReadStop}
use Rattle.sheet_lines.specs.declared.stop.ReadStop.TheVariants as read
use Rattle.sheet_requests.specs.Bodies.{body}
use Rattle.sheet_requests.specs.declared.reply.Reply.{Reply}
use Rattle.sheet_requests.specs.declared.reply.Reply.TheVariants.{Refused}
use Rattle.sheet_requests.specs.declared.reply.Refusal.TheVariants as refused
use Rattle.sheet_books.specs.declared.book.Contents.{Contents}
use Rattle.sheet_machine_laws.specs.Machine.{Holding, start}
use Rattle.objsheet_check.specs.Checking.{HasBook, HasNoBook, IsRefusedText}
use Rattle.objsheet.specs.declared.opening.Opening.{Opening}
use Rattle.objsheet.specs.declared.opening.Opening.TheVariants as opening
use Rattle.objsheet.specs.declared.stop.Stop.{Stop}
use Rattle.objsheet.specs.declared.stop.Stop.TheVariants.{TooLong, Source, NoMemory}
use Rattle.objsheet.specs.declared.stop.Ending.{Ending}
use Rattle.objsheet.specs.declared.stop.Ending.TheVariants as ending
use Rattle.objsheet.specs.Sessions.{IsAnswer, Tells, Answers, operator_key}
use Rattle.objsheet.specs.Trying.{IsDone, IsRead, first_requests}

-- why a run stops where reading stopped
abbrev pub stop_of : ReadStop → Stop
stop_of read.Source = Source
stop_of read.TooLong = TooLong
stop_of read.NoMemory = NoMemory

-- what the text of a definition comes to: the start of its book, or the line that says why it is refused
abbrev pub OpensText : List ℕ → Opening → Type 0
OpensText text (opening.Started h) = (book : Contents) × HasBook text book × (h ≡ start book operator_key)
OpensText text (opening.Refused line) = IsRefusedText text line.items

-- the line of a definition that is too long, whatever its length
abbrev pub IsRefusedLength : Opening → Type 0
IsRefusedLength (opening.Started h) = ⊥
IsRefusedLength (opening.Refused line) = line.items ≡ printed (codes "refused: too long, limit 262144")

-- the definition was read, it has a book, and this is the start of it
pub record Begins (h : Holding) (old new : List ℕ) : Type 0 where
  pub text : List ℕ
  pub divides : Divides text old new
  pub book : Contents
  pub has : HasBook text book
  pub is_start : h ≡ start book operator_key

-- the definition was read, or as much of it as shows that it is too long; it has a book, or is refused
abbrev pub Opens : Opening → List ℕ → List ℕ → Type 0
Opens (opening.Started h) old new = Begins h old new
Opens (opening.Refused line) old new = IsRefusedText (definition_of old) line.items

-- a reply's body, where there was memory for it
abbrev pub IsBody : Holding → Reply → List ℕ → Type 0
IsBody h r text = r ≢ Refused refused.NoMemory → text ≡ body h.book.columns r

-- a request line was answered by a reply, with its body where there was memory for it
abbrev pub IsAnswered : Holding → List ℕ → Reply → List ℕ → Holding → Type 0
IsAnswered h line r text now = IsAnswer h line (body h.book.columns r) now × IsBody h r text

-- the input is too long, and the answers to its first request lines were written
pub record IsLongerYet (old new : Ends) : Type 0 where
  pub longer : 2 ^ 40 < length old.left
  pub text : List ℕ
  pub answers : Answers (definition_of old.left) (first_requests old.left) text
  pub written : new.written ≡ old.written ++ text

-- all was done; or the definition is refused, and nothing was written yet
abbrev pub EndsIn : Ending → Ends → Ends → Type 0
EndsIn ending.Done old new = IsDone old new
EndsIn (ending.Refused line) old new = IsRefusedText (definition_of old.left) line.items × (new.written ≡ old.written)

-- the same of the input alone
abbrev pub EndsInput : Ending → List ℕ → List ℕ → Type 0
EndsInput ending.Done input left = IsRead input left
EndsInput (ending.Refused line) input left = HasNoBook (definition_of input)

-- These are whole lines, each ended by a line feed: no line goes on behind them.
pub record IsCut (taken : List ℕ) : Type 0 where
  pub apart : (more : List ℕ) → lines (taken ++ more) ≡ lines taken ++ lines more
  pub all_ended : ended (lines taken) ≡ lines taken

-- a request line was answered, unless it is empty
pub record Replies (h now : Holding) (line before after : List ℕ) : Type 0 where
  pub text : List ℕ
  pub told : Tells h (unless_empty line) text now
  pub written : after ≡ before ++ text

-- a request line was answered, and a front of the answer was written
pub record RepliesInPart (h : Holding) (line before after : List ℕ) : Type 0 where
  pub text : List ℕ
  pub last : Holding
  pub told : Tells h (unless_empty line) text last
  pub front : GainsFront text before after

-- these bytes were taken, and the answers to their request lines were written
pub record Serves (h now : Holding) (taken : List ℕ) (old new : Ends) : Type 0 where
  pub left : old.left ≡ taken ++ new.left
  pub text : List ℕ
  pub told : Tells h (all_said (lines taken)) text now
  pub written : new.written ≡ old.written ++ text

-- some whole lines were answered
pub record ServesLines (h now : Holding) (old new : Ends) : Type 0 where
  pub taken : List ℕ
  pub cut : IsCut taken
  pub served : Serves h now taken old new

-- all lines were answered
pub record ServesAll (h now : Holding) (old new : Ends) : Type 0 where
  pub taken : List ℕ
  pub served : Serves h now taken old new
  pub end : new.left ≡ []

-- some whole lines were answered; then reading stopped inside a line
pub record Stops (h : Holding) (old new : Ends) : Type 0 where
  pub now : Holding
  pub middle : Ends
  pub lines_served : ServesLines h now old middle
  pub part : List ℕ
  pub none : HasNoFeed part
  pub left : middle.left ≡ part ++ new.left
  pub same : new.written ≡ middle.written

-- some lines were answered, and a front of the answers was written
pub record Breaks (h : Holding) (old new : Ends) : Type 0 where
  pub taken : List ℕ
  pub left : old.left ≡ taken ++ new.left
  pub cut : IsCut taken ⊎ (new.left ≡ [])
  pub text : List ℕ
  pub last : Holding
  pub told : Tells h (all_said (lines taken)) text last
  pub front : GainsFront text old.written new.written

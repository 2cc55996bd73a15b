-- What request lines are answered.
use Rattle.std.specs.Prelude.{◌≡◌, ℕ, ◌<◌, ◌≤◌, List, [], ◌∷◌, length, codes, flat_map, Ok, Err}
use Rattle.sheet_lines.specs.Lines.{printed}
use Rattle.sheet_requests.specs.Bodies.{body}
use Rattle.sheet_requests.specs.Reading.{ReadsAs}
use Rattle.sheet_requests.specs.declared.request.Request.{Request}
use Rattle.sheet_requests.specs.declared.request.Route.TheVariants as route
use Rattle.sheet_requests.specs.declared.request.WireRefusal.{WireRefusal}
use Rattle.sheet_requests.specs.declared.reply.Reply.{Reply}
use Rattle.sheet_requests.specs.declared.reply.Reply.TheVariants as reply
use Rattle.sheet_books.specs.declared.book.Contents.{Contents}
use Rattle.sheet_machine_laws.specs.Machine.{Holding, start}
use Rattle.sheet_machine_laws.specs.Step.{StepInMemory}
use Rattle.objsheet_check.specs.Checking.{HasBook}

-- the operator's key
abbrev pub operator_key : List ℕ
operator_key = codes "op"

-- the answer to a request line of more than 65,536 bytes
abbrev pub too_long_line : List ℕ
too_long_line = codes "{\"error\":\"body too long\",\"limit\":65536}"

-- What a request line is answered, and what is then held. A line that is too long isn't read. One that holds no request is answered why.
-- A request is one step of the machine, and the answer is its printed reply.
pub data IsAnswer (h : Holding) (line : List ℕ) : List ℕ → Holding → Type 0 where
  is_too_long : 65536 < length line → IsAnswer h line too_long_line h
  holds_none : (why : WireRefusal) → length line ≤ 65536 → ReadsAs route.Line line (Err why) → IsAnswer h line (body h.book.columns (reply.Wire why)) h
  holds_request : (q : Request) (r : Reply) (now : Holding) → length line ≤ 65536 → ReadsAs route.Line line (Ok q) → StepInMemory h q r now
      → IsAnswer h line (body h.book.columns r) now

-- these answers to these request lines, one step after another
abbrev pub AreAnswers : Holding → List (List ℕ) → List (List ℕ) → Holding → Type 0
AreAnswers h [] [] last = last ≡ h
AreAnswers h (line ∷ lines) (answer ∷ answers) last = (now : Holding) × IsAnswer h line answer now × AreAnswers now lines answers last
AreAnswers h [] (answer ∷ answers) last = ⊥
AreAnswers h (line ∷ lines) [] last = ⊥

-- The text of the answers to these request lines, each a line of its own: they begin with what is held first, and leave what is held last.
pub record Tells (h : Holding) (lines : List (List ℕ)) (text : List ℕ) (last : Holding) : Type 0 where
  pub answers : List (List ℕ)
  pub are : AreAnswers h lines answers last
  pub text_is : text ≡ flat_map printed answers

-- the text of the answers from the start of the book of a definition, which has one
pub record Answers (definition : List ℕ) (lines : List (List ℕ)) (text : List ℕ) : Type 0 where
  pub book : Contents
  pub has : HasBook definition book
  pub last : Holding
  pub told : Tells (start book operator_key) lines text last

-- How a definition is read, over the bytes that are still to be used.
use Rattle.std.specs.Prelude.{◌≡◌, ℕ, ◌<◌, ◌≤◌, ◌+◌, ◌⊎◌, List, [], ◌∷◌, ◌++◌, codes, length, take, drop, true, false, Result, Ok, Err}
use Rattle.std.specs.Str.{bytes_eq}
use Rattle.std.specs.Str.Lines.{strip_carriage_return}
use Rattle.sheet_lines.specs.Lines.{lines}
use Rattle.sheet_lines.specs.Division.{definition_of, lines_behind}
use Rattle.sheet_lines.specs.Reading.{HasNoFeed}
use Rattle.sheet_lines.specs.declared.definition.Growth.{Growth}
use Rattle.sheet_lines.specs.declared.definition.Growth.TheVariants.{Line, Divided, Longer}

-- The text is the definition, and what is left follows it. That stays so where only a front of what is left is there.
abbrev pub Divides : List ℕ → List ℕ → List ℕ → Type 0
Divides text old new = (used : List ℕ) × (old ≡ used ++ new) × ((front back : List ℕ) → new ≡ front ++ back → (definition_of (used ++ front) ≡ text) × (lines_behind (used ++ front) ≡ lines front))

-- the definition is longer than a definition may be
abbrev pub IsPastLongest : List ℕ → Type 0
IsPastLongest old = 262144 < length (definition_of old)

-- the bytes that were used have nothing behind a divider
abbrev pub StopsDividing : List ℕ → List ℕ → Type 0
StopsDividing old new = (used : List ℕ) × (old ≡ used ++ new) × (lines_behind used ≡ [])

-- For one line of the definition, behind the text so far: it is added, or ends the definition, or makes it too long.
abbrev pub DividesOn : {E : Type 0} → Result Growth E → List ℕ → List ℕ → List ℕ → List ℕ → Type 0
DividesOn (Ok Line) text text' old new = (line : List ℕ) × HasNoFeed line × (bytes_eq (strip_carriage_return line) (codes "%%") ≡ false) × (old ≡ line ++ 10 ∷ new) × (text' ≡ text ++ (line ++ 10 ∷ []))
DividesOn (Ok Divided) text text' old new = (line : List ℕ) × Divides line old new × (text' ≡ text ++ line)
DividesOn (Ok Longer) text text' old new = 262144 < length text + length (definition_of old)
DividesOn (Err e) text text' old new = StopsDividing old new

-- the line from the start on is no divider, and is added with its line feed; or it is one, and is dropped
abbrev pub AddsLine : {E : Type 0} → ℕ → Result Growth E → ℕ → List ℕ → List ℕ → Type 0
AddsLine most (Ok Line) start text text' = (bytes_eq (strip_carriage_return (drop start text)) (codes "%%") ≡ false) × (length text < most) × (text' ≡ text ++ 10 ∷ [])
AddsLine most (Ok Divided) start text text' = (bytes_eq (strip_carriage_return (drop start text)) (codes "%%") ≡ true) × (text' ≡ take start text)
AddsLine most (Ok Longer) start text text' = (bytes_eq (strip_carriage_return (drop start text)) (codes "%%") ≡ false) × (most ≤ length text) × (text' ≡ text)
AddsLine most (Err e) start text text' = Unit {0}

-- what the input's end ended is the last line of the definition, or a divider, which is dropped
abbrev pub AddsLast : ℕ → Growth → ℕ → List ℕ → List ℕ → Type 0
AddsLast most Line start text text' = ⊥
AddsLast most Divided start text text' = ((bytes_eq (drop start text) (codes "%%") ≡ true) × (text' ≡ take start text)) ⊎ ((bytes_eq (drop start text) (codes "%%") ≡ false) × (length text ≤ most) × (text' ≡ text))
AddsLast most Longer start text text' = (bytes_eq (drop start text) (codes "%%") ≡ false) × (most < length text)

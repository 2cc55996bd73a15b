-- The lines of an input.
use Rattle.std.specs.Prelude.{ℕ, ◌-◌, List, [], ◌∷◌, ◌++◌, length, take, Bool, false, ◌==◌, ◌||◌, if◌then◌else◌}
use Rattle.std.specs.Str.Lines.{strip_carriage_return}

-- a byte before the first of some lines
abbrev pub grow : ℕ → List (List ℕ) → List (List ℕ)
grow c [] = (c ∷ []) ∷ []
grow c (line ∷ more) = (c ∷ line) ∷ more

-- The lines as they stand, each with the line feed that ends it. The last one may have none.
abbrev pub lines : List ℕ → List (List ℕ)
lines [] = []
lines (c ∷ cs) = if c == 10 then (10 ∷ []) ∷ lines cs else grow c (lines cs)

-- whether a line feed is among these bytes
abbrev pub has_feed : List ℕ → Bool
has_feed [] = false
has_feed (c ∷ cs) = (c == 10) || has_feed cs

-- whether a line feed ends these bytes
abbrev pub ends_in_feed : List ℕ → Bool
ends_in_feed [] = false
ends_in_feed (c ∷ []) = c == 10
ends_in_feed (c ∷ d ∷ cs) = ends_in_feed (d ∷ cs)

-- What a line says: it loses the line feed that ends it, and one carriage return before that. A line that no line feed ends is said whole.
abbrev pub said : List ℕ → List ℕ
said line = if ends_in_feed line then strip_carriage_return (take (length line - 1) line) else line

-- those that a line feed ends
abbrev pub ended : List (List ℕ) → List (List ℕ)
ended [] = []
ended (line ∷ more) = if ends_in_feed line then line ∷ ended more else ended more

-- a list of one, or of none where that one is empty
abbrev pub unless_empty : List ℕ → List (List ℕ)
unless_empty [] = []
unless_empty (c ∷ cs) = (c ∷ cs) ∷ []

-- what some lines say, without those that say nothing
abbrev pub all_said : List (List ℕ) → List (List ℕ)
all_said [] = []
all_said (line ∷ more) = unless_empty (said line) ++ all_said more

-- a text as a printed line
abbrev pub printed : List ℕ → List ℕ
printed text = text ++ 10 ∷ []

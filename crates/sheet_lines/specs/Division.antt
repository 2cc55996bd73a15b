-- The division of an input into a definition and request lines.
use Rattle.std.specs.Prelude.{ℕ, List, [], ◌∷◌, ◌++◌, Bool, codes, if◌then◌else◌}
use Rattle.std.specs.Str.{bytes_eq}
use Rattle.sheet_lines.specs.Lines.{lines, said, ended, all_said}

-- the line that ends a definition
abbrev pub is_divider : List ℕ → Bool
is_divider line = bytes_eq (said line) (codes "%%")

-- the bytes of the lines before the first divider, or of all lines
abbrev pub before_divider : List (List ℕ) → List ℕ
before_divider [] = []
before_divider (line ∷ more) = if is_divider line then [] else line ++ before_divider more

-- the lines behind the first divider, or none
abbrev pub behind_divider : List (List ℕ) → List (List ℕ)
behind_divider [] = []
behind_divider (line ∷ more) = if is_divider line then more else behind_divider more

-- the definition that an input begins with
abbrev pub definition_of : List ℕ → List ℕ
definition_of input = before_divider (lines input)

-- the lines behind the definition, as they stand
abbrev pub lines_behind : List ℕ → List (List ℕ)
lines_behind input = behind_divider (lines input)

-- the request lines of an input
abbrev pub requests_of : List ℕ → List (List ℕ)
requests_of input = all_said (lines_behind input)

-- the request lines that a line feed ends
abbrev pub ended_requests_of : List ℕ → List (List ℕ)
ended_requests_of input = all_said (ended (lines_behind input))

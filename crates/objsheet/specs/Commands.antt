-- The commands.
use Rattle.std.specs.Prelude.{◌≡◌, ◌⊎◌, ℕ, ◌<◌, ◌≤◌, List, [], ◌∷◌, length, codes, IsUtf8, true, Option, Some, None, Vec}
use Rattle.std.specs.Global.{Global}
use Rattle.sheet_lines.specs.Lines.{printed}
use Rattle.sheet_requests.specs.Reading.{is_key}
use Rattle.objsheet.specs.declared.command.Command.{Command}
use Rattle.objsheet.specs.declared.command.Command.TheVariants.{Check, Try, Init}

-- the words are that one word
abbrev pub IsWord : List ℕ → List (Vec ℕ Global) → Type 0
IsWord word [] = ⊥
IsWord word (only ∷ []) = only.items ≡ word
IsWord word (only ∷ other ∷ more) = ⊥

-- the words are the one word `check`
abbrev pub IsCheck : List (Vec ℕ Global) → Type 0
IsCheck words = IsWord (codes "check") words

-- the words are the one word `try`
abbrev pub IsTry : List (Vec ℕ Global) → Type 0
IsTry words = IsWord (codes "try") words

-- a file may have this name: it is UTF-8 of 1 to 255 bytes
abbrev pub IsFileName : List ℕ → Type 0
IsFileName name = (0 < length name) × (length name ≤ 255) × IsUtf8 name

-- the words are `init`, the name of a file, and a key of 1 to 64 bytes from 0x21 to 0x7E
abbrev pub IsInit : List (Vec ℕ Global) → List ℕ → List ℕ → Type 0
IsInit [] name key = ⊥
IsInit (word ∷ []) name key = ⊥
IsInit (word ∷ second ∷ []) name key = ⊥
IsInit (word ∷ second ∷ third ∷ []) name key = (word.items ≡ codes "init") × (second.items ≡ name) × (third.items ≡ key) × IsFileName name × (is_key key ≡ true)
IsInit (word ∷ second ∷ third ∷ other ∷ more) name key = ⊥

-- the words are those of `init`, for some name and key
abbrev pub IsSomeInit : List (Vec ℕ Global) → Type 0
IsSomeInit words = (name : List ℕ) × (key : List ℕ) × IsInit words name key

-- the words are those of no command
abbrev pub IsOther : List (Vec ℕ Global) → Type 0
IsOther words = (IsCheck words → ⊥) × (IsTry words → ⊥) × (IsSomeInit words → ⊥)

-- the words are those of a command
abbrev pub IsCommand : List (Vec ℕ Global) → Type 0
IsCommand words = IsCheck words ⊎ (IsTry words ⊎ IsSomeInit words)

-- the line of words that are no command
abbrev pub usage : List ℕ
usage = printed (codes "usage")

-- the words are those of that command, or of none
abbrev pub Names : Option Command → List (Vec ℕ Global) → Type 0
Names (Some Check) words = IsCheck words
Names (Some Try) words = IsTry words
Names (Some (Init name key)) words = IsInit words name.now key.now
Names None words = IsOther words

-- the words are those of `init`, for that name and key, or for none
abbrev pub NamesInit : Option Command → List (Vec ℕ Global) → Type 0
NamesInit (Some Check) words = ⊥
NamesInit (Some Try) words = ⊥
NamesInit (Some (Init name key)) words = IsInit words name.now key.now
NamesInit None words = IsSomeInit words → ⊥

-- What a reader of lines answers, over the bytes that are still to be used.
use Rattle.std.specs.Prelude.{◌≡◌, ℕ, ◌<◌, ◌+◌, List, [], ◌∷◌, ◌++◌, length, take, drop, false, Option, Some, None, Result, Ok, Err}
use Rattle.sheet_outside.specs.Told.{WhereTold}
use Rattle.sheet_lines.specs.Lines.{has_feed}
use Rattle.sheet_lines.specs.declared.reader.LineEnd.{LineEnd}
use Rattle.sheet_lines.specs.declared.reader.LineEnd.TheVariants.{Feed, Input, Nothing}
use Rattle.sheet_lines.specs.declared.reader.Part.{Part}
use Rattle.sheet_lines.specs.declared.reader.Part.TheVariants as part

-- no line feed is among them
abbrev pub HasNoFeed : List ℕ → Type 0
HasNoFeed bytes = has_feed bytes ≡ false

-- the place of the first line feed, where there is one
abbrev pub IsFirstFeed : List ℕ → Option ℕ → Type 0
IsFirstFeed bytes None = HasNoFeed bytes
IsFirstFeed bytes (Some at) = HasNoFeed (take at bytes) × (at < length bytes) × (bytes ≡ take at bytes ++ 10 ∷ drop (at + 1) bytes)

-- Bytes are ahead, or none is left. Where the source failed, none is ahead.
abbrev pub Fills : {T E : Type 0} → Result T E → List ℕ → Option (List ℕ) → Option (List ℕ) → Type 0
Fills (Ok x) ahead before now = WhereTold (λ old left. (old ≡ ahead ++ left) × (ahead ≡ [] → left ≡ [])) before now
Fills (Err e) ahead before now = (ahead ≡ []) × WhereTold (λ old left. old ≡ left) before now

-- how these bytes of a line were used
abbrev pub UsesPart : {E : Type 0} → Result Part E → List ℕ → List ℕ → List ℕ → Type 0
UsesPart (Ok part.Feed) bytes old new = HasNoFeed bytes × (old ≡ bytes ++ 10 ∷ new)
UsesPart (Ok part.More) bytes old new = HasNoFeed bytes × (old ≡ bytes ++ new)
UsesPart (Ok part.Full) bytes old new = (bytes ≡ []) × (old ≡ new)
UsesPart (Ok part.End) bytes old new = (bytes ≡ []) × (old ≡ []) × (new ≡ [])
UsesPart (Err e) bytes old new = (bytes ≡ []) × (old ≡ new)

-- the next part of a line was used, and is kept behind what is kept already
abbrev pub ReadsPart : {E : Type 0} → Result Part E → List ℕ → List ℕ → List ℕ → List ℕ → Type 0
ReadsPart result kept kept' old new = (bytes : List ℕ) × (kept' ≡ kept ++ bytes) × UsesPart result bytes old new

-- the next part of a line was used
abbrev pub PassesPart : {E : Type 0} → Result Part E → List ℕ → List ℕ → Type 0
PassesPart result old new = (bytes : List ℕ) × UsesPart result bytes old new

-- how these bytes of a line were used, up to its end
abbrev pub UsesLine : {E : Type 0} → Result Part E → List ℕ → List ℕ → List ℕ → Type 0
UsesLine (Ok part.Feed) bytes old new = HasNoFeed bytes × (old ≡ bytes ++ 10 ∷ new)
UsesLine (Ok part.More) bytes old new = HasNoFeed bytes × (old ≡ bytes ++ new)
UsesLine (Ok part.Full) bytes old new = HasNoFeed bytes × (old ≡ bytes ++ new)
UsesLine (Ok part.End) bytes old new = HasNoFeed bytes × (old ≡ bytes) × (new ≡ [])
UsesLine (Err e) bytes old new = HasNoFeed bytes × (old ≡ bytes ++ new)

-- the next line was used, or as much of it as is kept, behind what is kept already
abbrev pub TakesLine : {E : Type 0} → Result Part E → List ℕ → List ℕ → List ℕ → List ℕ → Type 0
TakesLine result kept kept' old new = (bytes : List ℕ) × (kept' ≡ kept ++ bytes) × UsesLine result bytes old new

-- how these bytes of a line were used, and what ended it
abbrev pub EndsLine : {E : Type 0} → Result LineEnd E → List ℕ → List ℕ → List ℕ → Type 0
EndsLine (Ok Feed) bytes old new = HasNoFeed bytes × (old ≡ bytes ++ 10 ∷ new)
EndsLine (Ok Input) bytes old new = HasNoFeed bytes × (old ≡ bytes) × (new ≡ [])
EndsLine (Ok Nothing) bytes old new = (bytes ≡ []) × (old ≡ []) × (new ≡ [])
EndsLine (Err e) bytes old new = HasNoFeed bytes × (old ≡ bytes ++ new)

-- the rest of a line was passed over
abbrev pub PassesLine : {E : Type 0} → Result LineEnd E → List ℕ → List ℕ → Type 0
PassesLine result old new = (bytes : List ℕ) × EndsLine result bytes old new

-- the next line was used; its front is kept where no error came
abbrev pub KeepsLine : {E : Type 0} → ℕ → Result LineEnd E → List ℕ → List ℕ → Type 0
KeepsLine most (Ok Feed) line bytes = line ≡ take most bytes
KeepsLine most (Ok Input) line bytes = (line ≡ take most bytes) × (0 < length bytes)
KeepsLine most (Ok Nothing) line bytes = line ≡ []
KeepsLine most (Err e) line bytes = Unit {0}

-- the next line was used, and its front is kept: at most so many bytes
abbrev pub ReadsLine : {E : Type 0} → ℕ → Result LineEnd E → List ℕ → List ℕ → List ℕ → Type 0
ReadsLine most result line old new = (bytes : List ℕ) × KeepsLine most result line bytes × EndsLine result bytes old new

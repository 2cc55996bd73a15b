-- How wide texts are.
use Rattle.std.specs.Prelude.{◌≡◌, ℕ, ◌||◌, Bool, nat_lt, nat_le, List, [], ◌∷◌, length, map, max, fold, count_by, slice_get, option_map, unwrap_or, IsUtf8}
use Rattle.std.specs.List.{range_with_len}
use Rattle.std.specs.Str.{chars}

-- the fields of one line
abbrev pub Fields : Type 0
Fields = List (List ℕ)

-- whether a byte of UTF-8 begins a character
abbrev pub begins_character : ℕ → Bool
begins_character b = nat_lt b 128 || nat_le 192 b

-- how many characters a text has
abbrev pub width : List ℕ → ℕ
width text = count_by begins_character text

-- the width of a text in UTF-8 is the number of the characters that its bytes spell
abbrev pub WidthsCountCharacters : Type 0
WidthsCountCharacters = (text : List ℕ) → IsUtf8 text → width text ≡ length (chars text)

-- how wide a line's field at this place is
abbrev pub width_at : ℕ → Fields → ℕ
width_at k fields = unwrap_or (option_map width (slice_get fields k)) 0

-- how wide the widest field at this place of any line is
abbrev pub widest : List Fields → ℕ → ℕ
widest lines k = fold max 0 (map (width_at k) lines)

-- how many fields the first line has
abbrev pub places : List Fields → ℕ
places [] = 0
places (fields ∷ lines) = length fields

-- the widest at each place
abbrev pub widths : List Fields → List ℕ
widths lines = map (widest lines) (range_with_len 0 (places lines))

-- Lines of fields that stand under one another.
use Rattle.std.specs.Prelude.{ℕ, ◌-◌, List, [], ◌∷◌, ◌++◌, codes, flat_map, replicate}
use Rattle.sheet_print.specs.Widths.{Fields, width, widths}

-- what stands between a field and those behind it: blanks up to this width and two more, and nothing behind the last
abbrev pub gap : ℕ → List ℕ → Fields → List ℕ
gap w field [] = []
gap w field (next ∷ more) = replicate (w - width field) 32 ++ codes "  "

-- fields of these widths, side by side
abbrev pub side_by_side : List ℕ → Fields → List ℕ
side_by_side [] fields = []
side_by_side (w ∷ ws) [] = []
side_by_side (w ∷ ws) (field ∷ fields) = field ++ gap w field fields ++ side_by_side ws fields

-- a line of fields of these widths
abbrev pub line_text : List ℕ → Fields → List ℕ
line_text ws fields = side_by_side ws fields ++ codes "\n"

-- lines whose fields stand under one another
abbrev pub lines_text : List Fields → List ℕ
lines_text lines = flat_map (line_text (widths lines)) lines

-- Names that differ in their place.
use Rattle.std.specs.Prelude.{ℕ, List, [], ◌∷◌, ◌++◌, Bool, if◌then◌else◌, Ok, Err}
use Rattle.std.specs.Str.{bytes_eq}
use Rattle.std.specs.List.{list_any}
use Rattle.sheet_types_formulas.specs.declared.refusal.TypeRefusal.TheVariants.{Doubled}
use Rattle.sheet_types_formulas.specs.Answers.{Answer}

-- whether a name is one of these
abbrev pub is_among : List (List ℕ) → List ℕ → Bool
is_among names name = list_any (bytes_eq name) names

-- one more of these names, on that line
abbrev pub one_more : List (List ℕ) → ℕ → List ℕ → Answer (List (List ℕ))
one_more names line name = if is_among names name then Err (Doubled line) else Ok (names ++ name ∷ [])

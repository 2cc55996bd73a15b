-- The second pass: the types that stand in a definition, `callers`, and first values.
use Rattle.std.specs.Prelude.{ℕ, List, [], ◌∷◌, ◌++◌, length, Ok}
use Rattle.sheet_values.specs.declared.value.Kind.{Kind}
use Rattle.sheet_columns.specs.declared.tree.Column.TheVariants as column
use Rattle.sheet_columns.specs.declared.tree.Node.{Node}
use Rattle.sheet_define_data.specs.declared.definition.Column.{Column}
use Rattle.sheet_define_data.specs.declared.definition.Parameter.{Parameter}
use Rattle.sheet_define_data.specs.declared.definition.Declaration.{Declaration}
use Rattle.sheet_define_data.specs.declared.definition.Declaration.TheVariants as declaration
use Rattle.sheet_types_formulas.specs.Answers.{Answer, ◌>>=◌}
use Rattle.sheet_types_outline.specs.declared.resolving.Resolved.{Resolved}
use Rattle.sheet_types_outline.specs.Steps.{in_turn}
use Rattle.sheet_types_outline.specs.Types.{kind_of, object_column_at, column_content}

-- one parameter more, with its type
abbrev pub resolve_parameter : List Node → List (List ℕ × Kind) → Parameter → Answer (List (List ℕ × Kind))
resolve_parameter nodes ps p = kind_of nodes p.values >>= λ k. Ok (ps ++ (p.name, k) ∷ [])

-- the parameters with their types
abbrev pub parameters_of : List Node → List Parameter → Answer (List (List ℕ × Kind))
parameters_of nodes ps = in_turn (resolve_parameter nodes) [] ps

-- what the column holds, whose number is the count of columns so far
abbrev pub resolve_column : List Node → Resolved → Column → Answer Resolved
resolve_column nodes r c =
    column_content nodes (length r.contents) c.depth c.content >>= λ x. Ok (record r { contents = r.contents ++ x ∷ [] })

-- what a declaration holds
abbrev pub resolve : List Node → Resolved → Declaration → Answer Resolved
resolve nodes r (declaration.Callers line path) = object_column_at nodes path >>= λ c. Ok (record r { callers = c })
resolve nodes r (declaration.Column c) = resolve_column nodes r c
resolve nodes r (declaration.Procedure p) = parameters_of nodes p.parameters >>= λ ps. Ok (record r { procedures = r.procedures ++ ps ∷ [] })
resolve nodes r (declaration.View v) = parameters_of nodes v.parameters >>= λ ps. Ok (record r { views = r.views ++ ps ∷ [] })

-- the root alone, which is the column of the callers where none is named
abbrev pub nothing_resolved : Resolved
nothing_resolved = record { contents = column.Object ∷ []; callers = 0; procedures = []; views = [] }

-- what the columns hold, the column of the callers and all parameters, among these columns, or the first refusal
abbrev pub all_resolved : List Node → List Declaration → Answer Resolved
all_resolved nodes ds = in_turn (resolve nodes) nothing_resolved ds

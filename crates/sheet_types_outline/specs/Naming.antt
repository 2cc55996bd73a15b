-- The first pass: all that has a name gets its place, and no name comes twice in one place.
use Rattle.std.specs.Prelude.{ℕ, ◌+◌, ◌==◌, List, [], ◌∷◌, ◌++◌, length, take, slice_index_or, true, false, if◌then◌else◌, Some, None, is_some, Ok, Err}
use Rattle.sheet_values.specs.declared.value.Kind.TheVariants.{Unknown}
use Rattle.sheet_columns.specs.declared.tree.Column.TheVariants as column
use Rattle.sheet_columns.specs.declared.tree.Column as columns
use Rattle.sheet_columns.specs.declared.tree.ColumnRefusal.{ColumnRefusal}
use Rattle.sheet_columns.specs.declared.tree.ColumnRefusal.TheVariants as refusal
use Rattle.sheet_columns.specs.Tree.{root, child_named, depth}
use Rattle.sheet_define_data.specs.declared.definition.Column.{Column}
use Rattle.sheet_define_data.specs.declared.definition.Content.{Content}
use Rattle.sheet_define_data.specs.declared.definition.Content.TheVariants.{Object, State, Formula}
use Rattle.sheet_define_data.specs.declared.definition.Parameter.{Parameter}
use Rattle.sheet_define_data.specs.declared.definition.Procedure.{Procedure}
use Rattle.sheet_define_data.specs.declared.definition.Show.{Show}
use Rattle.sheet_define_data.specs.declared.definition.Part.{Part}
use Rattle.sheet_define_data.specs.declared.definition.Part.TheVariants as part
use Rattle.sheet_define_data.specs.declared.definition.View.{View}
use Rattle.sheet_define_data.specs.declared.definition.Declaration.{Declaration}
use Rattle.sheet_define_data.specs.declared.definition.Declaration.TheVariants as declaration
use Rattle.sheet_types_formulas.specs.declared.refusal.TypeRefusal.{TypeRefusal}
use Rattle.sheet_types_formulas.specs.declared.refusal.TypeRefusal.TheVariants.{Doubled, TooDeep, TooMany, NoMemory}
use Rattle.sheet_types_formulas.specs.Answers.{Answer, ◌>>=◌}
use Rattle.sheet_types_outline.specs.declared.naming.Named.{Named}
use Rattle.sheet_types_outline.specs.Names.{one_more}
use Rattle.sheet_types_outline.specs.Steps.{in_turn}

-- a column whose values have no type yet
abbrev pub untyped : Content → columns.Column
untyped Object = column.Object
untyped (State t one first) = column.State Unknown one None
untyped (Formula t f) = column.Formula Unknown

-- the refusal of a column that stands on that line
abbrev pub refusal_on : ℕ → ColumnRefusal → TypeRefusal
refusal_on line (refusal.NameTaken sibling) = Doubled line
refusal_on line refusal.TooDeep = TooDeep line
refusal_on line refusal.TooMany = TooMany line
refusal_on line refusal.NoMemory = NoMemory

-- the object columns that are open behind a column of that depth and number, where these were open before it: the root first
abbrev pub open_behind : List ℕ → ℕ → ℕ → Content → List ℕ
open_behind opened depth number Object = take (depth + 1) opened ++ number ∷ []
open_behind opened depth number (State t one first) = take (depth + 1) opened
open_behind opened depth number (Formula t f) = take (depth + 1) opened

-- `callers`, which stands once
abbrev pub name_callers : Named → ℕ → Answer Named
name_callers s line = if s.has_callers then Err (Doubled line) else Ok (record s { has_callers = true })

-- a column under this one: its name is new there, it is at most eight below the root, and there are at most 1,000
unfoldable pub name_under : Named → ℕ → Column → Answer Named
name_under s above c =
    if is_some (child_named s.columns above c.name) then Err (Doubled c.line)
    else if depth s.columns above == 8 then Err (TooDeep c.line)
    else if length s.columns == 1000 then Err (TooMany c.line)
    else Ok (record s {
      columns = s.columns ++ record { above = Some above; name = c.name; column = untyped c.content } ∷ [];
      opened = open_behind s.opened c.depth (length s.columns) c.content;
    })

-- a column stands under the last of the open columns, where as many are open as its depth says, the root not counted
abbrev pub name_column : Named → Column → Answer Named
name_column s c = name_under s (slice_index_or s.opened c.depth 0) c

-- a parameter has a name of its own
abbrev pub name_parameter : List (List ℕ) → Parameter → Answer (List (List ℕ))
name_parameter names p = one_more names p.line p.name

-- the names of parameters
abbrev pub parameter_names : List Parameter → Answer (List (List ℕ))
parameter_names ps = in_turn name_parameter [] ps

-- a slot has a name of its own
abbrev pub name_show : List (List ℕ) → Show → Answer (List (List ℕ))
name_show names s = one_more names s.line s.name

-- the names of a table's slots
abbrev pub slot_names : List Show → Answer (List (List ℕ))
slot_names shows = in_turn name_show [] shows

-- a part of a view: the name of a table, and then those of its slots
abbrev pub name_part : List (List ℕ) → Part → Answer (List (List ℕ))
name_part names (part.Show s) = name_show names s
name_part names (part.Table line name variable source shows) =
    one_more names line name >>= λ more. slot_names shows >>= λ slots. Ok more

-- the names of a view's parts
abbrev pub part_names : List Part → Answer (List (List ℕ))
part_names parts = in_turn name_part [] parts

-- a procedure: its name, and then those of its parameters
unfoldable pub name_procedure : Named → Procedure → Answer Named
name_procedure s p =
    one_more s.procedures p.line p.name >>= λ names. parameter_names p.parameters >>= λ parameters. Ok (record s { procedures = names })

-- a view: its name, and then those of its parameters and of its parts
unfoldable pub name_view : Named → View → Answer Named
name_view s v =
    one_more s.views v.line v.name >>= λ names. parameter_names v.parameters >>= λ parameters. part_names v.parts >>= λ parts. Ok (record s { views = names })

-- the names of a declaration
abbrev pub name_declaration : Named → Declaration → Answer Named
name_declaration s (declaration.Callers line path) = name_callers s line
name_declaration s (declaration.Column c) = name_column s c
name_declaration s (declaration.Procedure p) = name_procedure s p
name_declaration s (declaration.View v) = name_view s v

-- the root alone, which is open
abbrev pub nothing_named : Named
nothing_named = record { columns = root ∷ []; opened = 0 ∷ []; has_callers = false; procedures = []; views = [] }

-- all that a definition names, or the first refusal
abbrev pub all_named : List Declaration → Answer Named
all_named ds = in_turn name_declaration nothing_named ds

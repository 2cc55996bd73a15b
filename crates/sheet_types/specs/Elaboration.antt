-- A definition with its types: the third pass over formulas in the order of the text, under the types of the last round, and the book.
use Rattle.std.specs.Prelude.{ℕ, ◌+◌, if◌then◌else◌, List, [], ◌∷◌, ◌++◌, length, Option, Some, None, Ok, Err, is_some, slice_index_or}
use Rattle.sheet_values.specs.declared.value.Kind.{Kind}
use Rattle.sheet_values.specs.declared.value.Kind.TheVariants as kind
use Rattle.sheet_columns.specs.declared.tree.Column.{Column}
use Rattle.sheet_columns.specs.declared.tree.Column.TheVariants as column
use Rattle.sheet_columns.specs.declared.tree.Node.{Node}
use Rattle.sheet_columns.specs.Tree.{path}
use Rattle.sheet_columns.specs.Contents.{holding}
use Rattle.sheet_columns.specs.declared.formula.Core.{Core}
use Rattle.sheet_syntax_trees.specs.declared.tree.Tree.{Tree}
use Rattle.sheet_define_data.specs.declared.definition.Column.{Column as WrittenColumn}
use Rattle.sheet_define_data.specs.declared.definition.Procedure.{Procedure as WrittenProcedure}
use Rattle.sheet_define_data.specs.declared.definition.View.{View as WrittenView}
use Rattle.sheet_define_data.specs.declared.definition.Declaration.{Declaration}
use Rattle.sheet_define_data.specs.declared.definition.Declaration.TheVariants as declaration
use Rattle.sheet_define_data.specs.declared.definition.Definition.{Definition}
use Rattle.sheet_types_rules.specs.Columns.{kinds_from}
use Rattle.sheet_types_formulas.specs.declared.refusal.TypeRefusal.TheVariants.{NeedsType, DeclaredOther}
use Rattle.sheet_types_formulas.specs.Answers.{Answer, ◌>>=◌}
use Rattle.sheet_types_rules.specs.Kinds.{common}
use Rattle.sheet_types_formulas.specs.Kinds.{kind_text}
use Rattle.sheet_types_formulas.specs.Typing.{typed}
use Rattle.sheet_types_outline.specs.declared.outline.Outline.{Outline}
use Rattle.sheet_types_outline.specs.Outlines.{outlined}
use Rattle.sheet_types_outline.specs.Steps.{in_turn}
use Rattle.sheet_types_rounds.specs.Rounds.{formula_in, formulas_of, at_column, is_unknown, final_kinds}
use Rattle.sheet_types_bodies.specs.Bodies.{start, procedure_of, view_of}
use Rattle.sheet_types.specs.declared.bodies.Bodies.{Bodies}
use Rattle.sheet_books.specs.declared.book.Contents.{Contents}

-- After its formula a formula column is judged: its type must be known, and its formula's type, where that is known, must be it.
abbrev pub judged : List Node → ℕ → Kind → Kind → Answer (Unit {0})
judged nodes c k found =
    if is_unknown k then Err (NeedsType (path nodes c))
    else (if is_some (common k found) then Ok tt else Err (DeclaredOther (path nodes c) (kind_text nodes k) (kind_text nodes found)))

-- the formula of a column
abbrev pub column_formula : List Node → List Kind → ℕ → Tree → Answer Core
column_formula nodes kinds c e = typed e (at_column nodes kinds c) >>= (λ t. judged nodes c (slice_index_or kinds c kind.Unknown) t.kind >>= (λ u. Ok t.core))

-- the formula of a column that is written with one
abbrev pub column_body : List Node → List Kind → ℕ → Option Tree → Answer (Option Core)
column_body nodes kinds c None = Ok None
column_body nodes kinds c (Some e) = column_formula nodes kinds c e >>= (λ f. Ok (Some f))

-- the next column, whose number is the count of those before it
abbrev pub add_column : Outline → List Kind → Bodies → WrittenColumn → Answer Bodies
add_column o kinds b w = column_body o.columns kinds (length b.formulas) (formula_in w.content) >>= (λ f. Ok (record b { formulas = b.formulas ++ f ∷ [] }))

-- the next procedure, with these parameters
abbrev pub with_procedure : Outline → List Kind → Bodies → WrittenProcedure → List (List ℕ × Kind) → Answer Bodies
with_procedure o kinds b p parameters =
    procedure_of p parameters (start o.columns kinds o.callers parameters) >>= (λ q. Ok (record b { procedures = b.procedures ++ q ∷ [] }))

-- the next view, with these parameters
abbrev pub with_view : Outline → List Kind → Bodies → WrittenView → List (List ℕ × Kind) → Answer Bodies
with_view o kinds b v parameters =
    view_of v parameters (start o.columns kinds o.callers parameters) >>= (λ w. Ok (record b { views = b.views ++ w ∷ [] }))

-- the third pass over a declaration: the parameters of a procedure and a view are those of the outline at their places
abbrev pub judge : Outline → List Kind → Bodies → Declaration → Answer Bodies
judge o kinds b (declaration.Callers line p) = Ok b
judge o kinds b (declaration.Column w) = add_column o kinds b w
judge o kinds b (declaration.Procedure p) = with_procedure o kinds b p (slice_index_or o.procedures (length b.procedures) [])
judge o kinds b (declaration.View v) = with_view o kinds b v (slice_index_or o.views (length b.views) [])

-- before the first declaration there is the root alone, which has no formula
abbrev pub no_bodies : Bodies
no_bodies = record { formulas = None ∷ []; procedures = []; views = [] }

-- the third pass
abbrev pub all_judged : Outline → List Kind → List Declaration → Answer Bodies
all_judged o kinds ds = in_turn (judge o kinds) no_bodies ds

-- a formula column is of its last type
abbrev pub of_kind : Kind → Column → Column
of_kind k column.Object = column.Object
of_kind k (column.State l one first) = column.State l one first
of_kind k (column.Formula l) = column.Formula k

-- the columns from that number on, with these types of formula columns
abbrev pub with_kinds : List Kind → ℕ → List Node → List Node
with_kinds kinds c [] = []
with_kinds kinds c (n ∷ nodes) = holding n (of_kind (slice_index_or kinds c kind.Unknown) n.column) ∷ with_kinds kinds (c + 1) nodes

-- the types of the last round of an outline
abbrev pub last_kinds : Definition → Outline → List Kind
last_kinds d o = final_kinds o.columns (formulas_of d.declarations)

-- an outline whose formula columns have the types of the last round
abbrev pub settled : Definition → Outline → Outline
settled d o = record o { columns = with_kinds (last_kinds d o) 0 o.columns }

-- the book of an outline and what the third pass gives
abbrev pub book_of : Outline → Bodies → Contents
book_of o b = record { columns = o.columns; callers = o.callers; formulas = b.formulas; procedures = b.procedures; views = b.views }

-- the book of an outline with the types of the last round
abbrev pub with_bodies : Outline → List Declaration → Answer Contents
with_bodies o ds = all_judged o (kinds_from 0 o.columns) ds >>= (λ b. Ok (book_of o b))

-- The book of a definition, or its first refusal: the first two passes go over the whole definition before the third begins.
abbrev pub elaborated : Definition → Answer Contents
elaborated d = outlined d >>= (λ o. with_bodies (settled d o) d.declarations)

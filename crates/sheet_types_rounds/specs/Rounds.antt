-- The types of columns, which the rounds give to formula columns from their formulas.
use Rattle.std.specs.Prelude.{ℕ, zero, suc, ◌+◌, Bool, true, false, if◌then◌else◌, List, [], ◌∷◌, Option, Some, None, Ok, Err, codes, slice_index_or}
use Rattle.sheet_values.specs.declared.value.Kind.{Kind}
use Rattle.sheet_values.specs.declared.value.Kind.TheVariants as kind
use Rattle.sheet_columns.specs.declared.tree.Node.{Node}
use Rattle.sheet_types_rules.specs.Columns.{kinds_from, home}
use Rattle.sheet_syntax_trees.specs.declared.tree.Tree.{Tree}
use Rattle.sheet_define_data.specs.declared.definition.Content.{Content}
use Rattle.sheet_define_data.specs.declared.definition.Content.TheVariants as content
use Rattle.sheet_define_data.specs.declared.definition.Declaration.{Declaration}
use Rattle.sheet_define_data.specs.declared.definition.Declaration.TheVariants as declaration
use Rattle.sheet_types_formulas.specs.declared.scope.Typed.{Typed}
use Rattle.sheet_types_formulas.specs.Answers.{Answer}
use Rattle.sheet_types_formulas.specs.Names.{Reach, reach}
use Rattle.sheet_types_formulas.specs.Typing.{typed}

-- the formula that a column is written with
abbrev pub formula_in : Content → Option Tree
formula_in content.Object = None
formula_in (content.State t one first) = None
formula_in (content.Formula t e) = Some e

-- the formulas of the columns in the order of the text: a column that isn't a formula column has none
abbrev pub written_formulas : List Declaration → List (Option Tree)
written_formulas [] = []
written_formulas (declaration.Callers line path ∷ ds) = written_formulas ds
written_formulas (declaration.Column c ∷ ds) = formula_in c.content ∷ written_formulas ds
written_formulas (declaration.Procedure p ∷ ds) = written_formulas ds
written_formulas (declaration.View v ∷ ds) = written_formulas ds

-- the formulas of the columns by number: the root has none
abbrev pub formulas_of : List Declaration → List (Option Tree)
formulas_of ds = None ∷ written_formulas ds

-- how many formula columns there are
abbrev pub count_formulas : List (Option Tree) → ℕ
count_formulas [] = zero
count_formulas (None ∷ es) = count_formulas es
count_formulas (Some e ∷ es) = suc (count_formulas es)

-- what is in reach of the formula of a column: `this`, an object of the column above
abbrev pub at_column : List Node → List Kind → ℕ → Reach
at_column nodes kinds c = reach nodes kinds (record { name = codes "this"; kind = kind.Object (home nodes c) } ∷ [])

-- the type of a formula, where it isn't refused
abbrev pub kind_told : Answer Typed → Kind
kind_told (Ok t) = t.kind
kind_told (Err e) = kind.Unknown

-- whether a type isn't known
abbrev pub is_unknown : Kind → Bool
is_unknown kind.Unknown = true
is_unknown k = false

-- a known type stays; a formula column of no known type takes that of its formula
abbrev pub next_kind : List Node → List Kind → ℕ → Option Tree → Kind → Kind
next_kind nodes kinds c None k = k
next_kind nodes kinds c (Some e) k = if is_unknown k then kind_told (typed e (at_column nodes kinds c)) else k

-- the types of the columns from that one on, with these formulas, in the round behind these types
abbrev pub next_kinds : List Node → List Kind → ℕ → List (Option Tree) → List Kind
next_kinds nodes kinds c [] = []
next_kinds nodes kinds c (e ∷ es) = next_kind nodes kinds c e (slice_index_or kinds c kind.Unknown) ∷ next_kinds nodes kinds (c + 1) es

-- one round: all formulas are typed under the types of the round before
abbrev pub round : List Node → List (Option Tree) → List Kind → List Kind
round nodes formulas kinds = next_kinds nodes kinds 0 formulas

-- the types after so many rounds behind these
abbrev pub rounds : ℕ → List Node → List (Option Tree) → List Kind → List Kind
rounds zero nodes formulas kinds = kinds
rounds (suc n) nodes formulas kinds = rounds n nodes formulas (round nodes formulas kinds)

-- the types in the end: after as many rounds as there are formula columns
abbrev pub final_kinds : List Node → List (Option Tree) → List Kind
final_kinds nodes formulas = rounds (count_formulas formulas) nodes formulas (kinds_from 0 nodes)

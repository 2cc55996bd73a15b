-- The outline of a definition: its columns, and all that is told of types without a look at formulas.
use Rattle.std.specs.Prelude.{List, [], ◌∷◌, Ok}
use Rattle.sheet_columns.specs.declared.tree.Column.{Column}
use Rattle.sheet_columns.specs.declared.tree.Node.{Node}
use Rattle.sheet_columns.specs.Contents.{holding}
use Rattle.sheet_define_data.specs.declared.definition.Definition.{Definition}
use Rattle.sheet_types_formulas.specs.Answers.{Answer, ◌>>=◌}
use Rattle.sheet_types_outline.specs.declared.resolving.Resolved.{Resolved}
use Rattle.sheet_types_outline.specs.declared.outline.Outline.{Outline}
use Rattle.sheet_types_outline.specs.Naming.{all_named}
use Rattle.sheet_types_outline.specs.Resolving.{all_resolved}

-- the columns, each of which holds what stands in its place
abbrev pub filled : List Node → List Column → List Node
filled [] contents = []
filled (n ∷ nodes) [] = n ∷ nodes
filled (n ∷ nodes) (x ∷ contents) = holding n x ∷ filled nodes contents

-- the tree of columns with what they hold, and what was resolved
abbrev pub outline_of : List Node → Resolved → Outline
outline_of nodes r = record { columns = filled nodes r.contents; callers = r.callers; procedures = r.procedures; views = r.views }

-- The outline, or the first refusal: the first pass goes over the whole definition before the second begins.
abbrev pub outlined : Definition → Answer Outline
outlined d = all_named d.declarations >>= λ s. all_resolved s.columns d.declarations >>= λ r. Ok (outline_of s.columns r)

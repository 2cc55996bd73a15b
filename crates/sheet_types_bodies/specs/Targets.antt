-- Targets of statements: the formula that gives the object, and the column under it.
use Rattle.std.specs.Prelude.{ℕ, List, Option, Some, None, Ok, Err, ok_or, option_map, codes}
use Rattle.sheet_columns.specs.declared.tree.Column.{Column}
use Rattle.sheet_columns.specs.declared.tree.Column.TheVariants.{Object, State, Formula}
use Rattle.sheet_columns.specs.declared.formula.Core.{Core}
use Rattle.sheet_columns.specs.declared.formula.Core.TheVariants as core
use Rattle.sheet_columns.specs.declared.statement.Target.{Target as CoreTarget}
use Rattle.sheet_columns.specs.Tree.{column_of, child_named}
use Rattle.sheet_syntax_trees.specs.declared.tree.Tree.{Tree}
use Rattle.sheet_define_data.specs.declared.statement.Target.{Target}
use Rattle.sheet_types_formulas.specs.declared.refusal.TypeRefusal.{TypeRefusal}
use Rattle.sheet_types_formulas.specs.declared.refusal.TypeRefusal.TheVariants.{UnknownName, Mismatch}
use Rattle.sheet_types_formulas.specs.Answers.{Answer, ◌>>=◌}
use Rattle.sheet_types_formulas.specs.Kinds.{object_column}
use Rattle.sheet_types_formulas.specs.Names.{Reach}
use Rattle.sheet_types_formulas.specs.Typing.{typed}

-- what stands before the last dot, and the column of its objects; where nothing stands there, the root
unfoldable pub holder : Option Tree → Reach → Answer (Core × ℕ)
holder None r = Ok (core.Root, 0)
holder (Some e) r = typed e r >>= (λ o. object_column r.columns o >>= (λ above. Ok (o.core, above)))

-- the column of that name directly under the one of these objects
unfoldable pub column_under : List ℕ → ℕ → Reach → Core × ℕ → Answer CoreTarget
column_under name line r h = ok_or (option_map (λ c. record { object = h.0; column = c }) (child_named r.columns h.1 name)) (UnknownName line)

-- `e.c`; `c` alone stands for `$.c`
unfoldable pub target : Target → Reach → Answer CoreTarget
target t r = holder t.object r >>= column_under t.column t.line r

-- a target of another kind of column
abbrev pub other_column : ℕ → List ℕ → List ℕ → TypeRefusal
other_column line wanted found = Mismatch line wanted found

-- `set`, `add` and `remove` act on a state column
unfoldable pub on_state : ℕ → CoreTarget → Option Column → Answer CoreTarget
on_state line t None = Err (UnknownName line)
on_state line t (Some Object) = Err (other_column line (codes "state column") (codes "object column"))
on_state line t (Some (State k one first)) = Ok t
on_state line t (Some (Formula k)) = Err (other_column line (codes "state column") (codes "formula column"))

-- the target of a change
unfoldable pub state_target : Target → Reach → Answer CoreTarget
state_target t r = target t r >>= (λ found. on_state t.line found (column_of r.columns found.column))

-- `new` acts on an object column
unfoldable pub on_objects : ℕ → CoreTarget → Option Column → Answer CoreTarget
on_objects line t None = Err (UnknownName line)
on_objects line t (Some Object) = Ok t
on_objects line t (Some (State k one first)) = Err (other_column line (codes "object column") (codes "state column"))
on_objects line t (Some (Formula k)) = Err (other_column line (codes "object column") (codes "formula column"))

-- the target of a new object
unfoldable pub objects_target : Target → Reach → Answer CoreTarget
objects_target t r = target t r >>= (λ found. on_objects t.line found (column_of r.columns found.column))

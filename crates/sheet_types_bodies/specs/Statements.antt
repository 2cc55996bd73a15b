-- Statements with their names resolved, or the first refusal in the order of the text.
use Rattle.std.specs.Prelude.{ℕ, ◌+◌, if◌then◌else◌, List, [], ◌∷◌, ◌++◌, Ok, slice_index_or}
use Rattle.sheet_values.specs.declared.value.Kind.{Kind}
use Rattle.sheet_values.specs.declared.value.Kind.TheVariants as kind
use Rattle.sheet_columns.specs.declared.tree.Node.{Node}
use Rattle.sheet_columns.specs.declared.formula.Core.{Core}
use Rattle.sheet_columns.specs.declared.statement.Change.{Change}
use Rattle.sheet_columns.specs.declared.statement.Change.TheVariants as change
use Rattle.sheet_columns.specs.declared.statement.Target.{Target as CoreTarget}
use Rattle.sheet_columns.specs.declared.statement.CoreStatement.{CoreStatement}
use Rattle.sheet_columns.specs.declared.statement.CoreStatement.TheVariants as core
use Rattle.sheet_columns.specs.declared.statement.Statements.{Statements}
use Rattle.sheet_syntax_trees.specs.declared.tree.Tree.{Tree}
use Rattle.sheet_define_data.specs.declared.statement.Target.{Target}
use Rattle.sheet_define_data.specs.declared.statement.Statement.{Statement, Let, Set, Add, Remove, New, Delete, Check, Reply, If', IfElse', For', Row_of-Statement, end_of-Statement as end, more_of-Statement as more}
use Rattle.sheet_types_rules.specs.Columns.{is_known}
use Rattle.sheet_types_formulas.specs.declared.scope.Typed.{Typed}
use Rattle.sheet_types_formulas.specs.Answers.{Answer, ◌>>=◌}
use Rattle.sheet_types_formulas.specs.Kinds.{agreed, column_above}
use Rattle.sheet_types_formulas.specs.Names.{Reach, bind}
use Rattle.sheet_types_formulas.specs.Typing.{typed}
use Rattle.sheet_types_bodies.specs.Targets.{state_target, objects_target}

-- a statement with its names resolved, what is in reach behind it, and the number of the next statement
pub record Step : Type 0 where
  pub core : CoreStatement
  pub reach : Reach
  pub next : ℕ

-- a statement with its names resolved, what is in reach behind it, and the next number
abbrev pub step : Reach → ℕ → CoreStatement → Step
step r next core = record { core = core; reach = r; next = next }

-- the statements of a block with their names resolved, and the number of the next statement
pub record Block : Type 0 where
  pub list : List CoreStatement
  pub next : ℕ

-- the statements of a block and the number behind them
abbrev pub block : ℕ → List CoreStatement → Block
block next list = record { list = list; next = next }

-- statements before those of a block
abbrev pub before : List CoreStatement → Block → Block
before xs b = block b.next (xs ++ b.list)

-- statements as a block holds them
abbrev pub listed : List CoreStatement → Statements
listed xs = record { list = xs }

-- a formula that must agree with that type
unfoldable pub formula_of : Kind → Tree → Reach → Answer Core
formula_of k e r = typed e r >>= (λ v. agreed r.columns k v >>= (λ l. Ok v.core))

-- what is deleted: objects below the root, or a set whose type isn't known
unfoldable pub deletable : List Node → Typed → Answer Core
deletable n e = if is_known e.kind then column_above n e >>= (λ above. Ok e.core) else Ok e.core

-- `let x = e`
unfoldable pub let_of : List ℕ → Tree → Reach → ℕ → Answer Step
let_of x e r n = typed e r >>= (λ v. Ok (step (bind r x v.kind) (n + 1) (core.Let n v.core)))

-- a change of the state column of a target by a formula, which must agree with the column's type
unfoldable pub changed : Change → Tree → Reach → ℕ → CoreTarget → Answer CoreStatement
changed how e r n t = formula_of (slice_index_or r.kinds t.column kind.Unknown) e r >>= (λ v. Ok (core.Change n how t v))

-- `set t = e`, `add e to t`, `remove e from t`: the target comes first, with the test of its column, then the formula
unfoldable pub change_of : Change → Target → Tree → Reach → ℕ → Answer Step
change_of how t e r n = state_target t r >>= (λ c. changed how e r n c >>= (λ x. Ok (step r (n + 1) x)))

-- `new x = t`
unfoldable pub new_of : List ℕ → Target → Reach → ℕ → Answer Step
new_of x t r n = objects_target t r >>= (λ c. Ok (step (bind r x (kind.Object c.column)) (n + 1) (core.New n c)))

-- `delete e`
unfoldable pub delete_of : Tree → Reach → ℕ → Answer Step
delete_of e r n = typed e r >>= (λ v. deletable r.columns v >>= (λ objects. Ok (step r (n + 1) (core.Delete n objects))))

-- `check e else "m"`
unfoldable pub check_of : Tree → List ℕ → Reach → ℕ → Answer Step
check_of e message r n = formula_of kind.Truth e r >>= (λ v. Ok (step r (n + 1) (core.Check n v message)))

-- `reply e`
unfoldable pub reply_of : Tree → Reach → ℕ → Answer Step
reply_of e r n = typed e r >>= (λ v. Ok (step r (n + 1) (core.Reply n v.core)))

-- `if e { .. }`, `if e { .. } else { .. }` and `for x in e { .. }`: what their blocks bind is out of reach behind them
abbrev pub if_of : Reach → ℕ → Core → Block → Step
if_of r n c body = step r body.next (core.If n c (listed body.list) (listed []))

-- an if with an else
abbrev pub if_else_of : Reach → ℕ → Core → Block → Block → Step
if_else_of r n c body otherwise = step r otherwise.next (core.If n c (listed body.list) (listed otherwise.list))

-- a for
abbrev pub for_of : Reach → ℕ → Core → Block → Step
for_of r n source body = step r body.next (core.For n source (listed body.list))

-- Statements are numbered in the order of the text, inner ones after the one that holds them; `n` is the number of the next one.
abbrev mutual
  pub statement : Statement → Reach → ℕ → Answer Step
  statement (Let line x e) r n = let_of x e r n
  statement (Set line t e) r n = change_of change.Set t e r n
  statement (Add line e t) r n = change_of change.Add t e r n
  statement (Remove line e t) r n = change_of change.Remove t e r n
  statement (New line x t) r n = new_of x t r n
  statement (Delete line e) r n = delete_of e r n
  statement (Check line e message) r n = check_of e message r n
  statement (Reply line e) r n = reply_of e r n
  statement (If' line e _ body) r n =
      formula_of kind.Truth e r >>= (λ c. statements body r (n + 1) >>= (λ b. Ok (if_of r n c b)))
  statement (IfElse' line e _ body _ otherwise) r n =
      formula_of kind.Truth e r >>= (λ c. statements body r (n + 1) >>= (λ b. statements otherwise r b.next >>= (λ o. Ok (if_else_of r n c b o))))
  statement (For' line x e _ body) r n =
      typed e r >>= (λ s. statements body (bind r x s.kind) (n + 1) >>= (λ b. Ok (for_of r n s.core b)))

  -- statements in order: what one binds is in reach of those behind it
  pub statements : {m : _} → Row_of-Statement m → Reach → ℕ → Answer Block
  statements end r n = Ok (block n [])
  statements (more x rest) r n = statement x r n >>= (λ s. statements rest s.reach s.next >>= (λ b. Ok (before (s.core ∷ []) b)))

-- the same of a list
abbrev pub in_block : List Statement → Reach → ℕ → Answer Block
in_block [] r n = Ok (block n [])
in_block (x ∷ xs) r n = statement x r n >>= (λ s. in_block xs s.reach s.next >>= (λ b. Ok (before (s.core ∷ []) b)))

-- a condition, which is a truth, and the block behind it
abbrev pub guarded_block : Tree → List Statement → Reach → ℕ → Answer (Core × Block)
guarded_block e body r n = formula_of kind.Truth e r >>= (λ c. in_block body r n >>= (λ b. Ok (c, b)))

-- the statements that hold blocks, where these are lists
abbrev pub if_statement : Tree → List Statement → Reach → ℕ → Answer Step
if_statement e body r n = guarded_block e body r (n + 1) >>= (λ g. Ok (if_of r n g.0 g.1))

-- `if e { .. } else { .. }`
abbrev pub if_else_statement : Tree → List Statement → List Statement → Reach → ℕ → Answer Step
if_else_statement e body otherwise r n =
    guarded_block e body r (n + 1) >>= (λ g. in_block otherwise r g.1.next >>= (λ o. Ok (if_else_of r n g.0 g.1 o)))

-- `for x in e { .. }`
abbrev pub for_statement : List ℕ → Tree → List Statement → Reach → ℕ → Answer Step
for_statement x e body r n = typed e r >>= (λ s. in_block body (bind r x s.kind) (n + 1) >>= (λ b. Ok (for_of r n s.core b)))

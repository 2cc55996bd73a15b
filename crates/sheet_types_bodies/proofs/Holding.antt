-- Well-typed statements that hold blocks, where these are lists, and the law by induction over statements.
use Rattle.std.proofs.Common.{◌≡◌, refl, sym, ◌∙◌, ap, subst, ℕ, ◌+◌, true, List, [], ◌∷◌, ◌++◌}
use Rattle.std.specs.Prelude.{Option, Some, None, Ok, is_some}
use Rattle.sheet_values.specs.declared.value.Kind.{Kind}
use Rattle.sheet_values.specs.declared.value.Kind.TheVariants as kind
use Rattle.sheet_columns.specs.declared.tree.Node.{Node}
use Rattle.sheet_columns.specs.declared.formula.Core.{Core}
use Rattle.sheet_columns.specs.declared.statement.Change.TheVariants as change
use Rattle.sheet_columns.specs.declared.statement.CoreStatement.{CoreStatement, Row_of-CoreStatement, end_of-CoreStatement, more_of-CoreStatement}
use Rattle.sheet_columns.specs.declared.statement.CoreStatement.{items-the_row-CoreStatement, items_hidden-the_row-CoreStatement-0}
use Rattle.sheet_columns.specs.declared.statement.CoreStatement.TheVariants as core
use Rattle.sheet_columns.specs.declared.statement.CoreStatement.TheBlock.{hidden-the_row-CoreStatement-0}
use Rattle.sheet_define_data.specs.declared.statement.Statement.TheBlock.{hidden-the_row-Statement-0}
use Rattle.sheet_define_data.specs.declared.statement.Statement.{Statement, Let, Set, Add, Remove, New, Delete, Check, Reply, If', IfElse', For'}
use Rattle.sheet_define_data.specs.declared.statement.Statement.{Row_of-Statement, end_of-Statement as end, more_of-Statement as more}
use Rattle.sheet_types_formulas.specs.declared.scope.Variable.{Variable}
use Rattle.sheet_types_formulas.specs.Answers.{◌>>=◌}
use Rattle.sheet_types_formulas.specs.Names.{reach, bind}
use Rattle.sheet_types_formulas.specs.Typing.{typed}
use Rattle.sheet_types_rules.specs.Formulas.{kind_in, ◌>>◌}
use Rattle.sheet_types_bodies.specs.Statements.{Step, Block, block, before, formula_of, statement, statements, if_of, if_else_of, for_of}
use Rattle.sheet_types_rules.specs.Statements.{where_so, suits, behind, behind_all, behind_list, numbered, numbered_all, numbered_list}
use Rattle.sheet_types_bodies.specs.Rules.{StatementsAreTyped}
use Rattle.sheet_types_bodies.proofs.Blocks.{as_list}
use Rattle.sheet_types_bodies.proofs.WellTyped.{HaveKinds, Fits, kinds_of, map_one, came_from, ok_same, formula_suits, counts_on, let_fits, change_fits}
use Rattle.sheet_types_bodies.proofs.WellTyped.{new_fits, delete_fits, check_fits, reply_fits}

-- second steps that are the same
next_same : {A B : Type 0} (o : Option A) (f g : A → Option B) → ((x : A) → f x ≡ g x) → o >> f ≡ o >> g
next_same (Some x) f g h = h x
next_same None f g h = refl

each_behind : {m : _} (row : Row_of-CoreStatement m) (n : List Node) (k v : List Kind) →
    behind_all row n k v ≡ behind_list (items-the_row-CoreStatement m row) n k v
each_behind end_of-CoreStatement n k v = refl
each_behind (more_of-CoreStatement x rest) n k v =
    next_same (behind x n k v) (λ u. behind_all rest n k u) (λ u. behind_list (items-the_row-CoreStatement _ rest) n k u) (λ u. each_behind rest n k u)

all_behind : (xs : List CoreStatement) (n : List Node) (k v : List Kind) → behind_all (hidden-the_row-CoreStatement-0 xs) n k v ≡ behind_list xs n k v
all_behind xs n k v = each_behind (hidden-the_row-CoreStatement-0 xs) n k v ∙ ap (λ l. behind_list l n k v) (items_hidden-the_row-CoreStatement-0 xs)

each_numbered : {m : _} (row : Row_of-CoreStatement m) (i : ℕ) → numbered_all row i ≡ numbered_list (items-the_row-CoreStatement m row) i
each_numbered end_of-CoreStatement i = refl
each_numbered (more_of-CoreStatement x rest) i =
    next_same (numbered x i) (λ a. numbered_all rest a) (λ a. numbered_list (items-the_row-CoreStatement _ rest) a) (λ a. each_numbered rest a)

all_numbered : (xs : List CoreStatement) (i : ℕ) → numbered_all (hidden-the_row-CoreStatement-0 xs) i ≡ numbered_list xs i
all_numbered xs i = each_numbered (hidden-the_row-CoreStatement-0 xs) i ∙ ap (λ l. numbered_list l i) (items_hidden-the_row-CoreStatement-0 xs)

-- a resolved block is well typed and numbered, where these variables stand before it
pub record BlockFits (n : List Node) (k : List Kind) (v : List Variable) (i : ℕ) (b : Block) : Type 0 where
  pub last : List Kind
  pub positions : behind_list b.list n k (kinds_of v) ≡ Some last
  pub numbers : numbered_list b.list i ≡ Some b.next

if_positions : (n : List Node) (k v : List Kind) (i : ℕ) (c : Core) (xs ys : List CoreStatement) (u w : List Kind)
    → suits kind.Truth (kind_in c n k v) ≡ true → behind_list xs n k v ≡ Some u → behind_list ys n k v ≡ Some w
    → behind (core.If i c (record { list = xs }) (record { list = ys })) n k v ≡ Some v
if_positions n k v i c xs ys u w s x y =
    ap (λ b. where_so b v >>
    (λ t. behind_all (hidden-the_row-CoreStatement-0 xs) n k v >> (λ a. behind_all (hidden-the_row-CoreStatement-0 ys) n k v >> (λ d. Some v)))) s
    ∙ ap (λ o. o >> (λ a. behind_all (hidden-the_row-CoreStatement-0 ys) n k v >> (λ d. Some v))) (all_behind xs n k v ∙ x)
    ∙ ap (λ o. o >> (λ d. Some v)) (all_behind ys n k v ∙ y)

if_numbers : (i j l : ℕ) (c : Core) (xs ys : List CoreStatement)
    → numbered_list xs (i + 1) ≡ Some j → numbered_list ys j ≡ Some l
    → numbered (core.If i c (record { list = xs }) (record { list = ys })) i ≡ Some l
if_numbers i j l c xs ys x y =
    ap (λ o. o >> (λ a. numbered_all (hidden-the_row-CoreStatement-0 xs) a >> (λ b. numbered_all (hidden-the_row-CoreStatement-0 ys) b))) (counts_on i)
    ∙ ap (λ o. o >> (λ b. numbered_all (hidden-the_row-CoreStatement-0 ys) b)) (all_numbered xs (i + 1) ∙ x)
    ∙ all_numbered ys j ∙ y

for_positions : (n : List Node) (k v : List Kind) (i : ℕ) (e : Core) (x : Kind) (xs : List CoreStatement) (u : List Kind)
    → kind_in e n k v ≡ Some x → behind_list xs n k (v ++ x ∷ []) ≡ Some u
    → behind (core.For i e (record { list = xs })) n k v ≡ Some v
for_positions n k v i e x xs u s b =
    ap (λ o. o >> (λ y. behind_all (hidden-the_row-CoreStatement-0 xs) n k (v ++ y ∷ []) >> (λ d. Some v))) s
    ∙ ap (λ o. o >> (λ d. Some v)) (all_behind xs n k (v ++ x ∷ []) ∙ b)

for_numbers : (i j : ℕ) (e : Core) (xs : List CoreStatement) → numbered_list xs (i + 1) ≡ Some j → numbered (core.For i e (record { list = xs })) i ≡ Some j
for_numbers i j e xs x = ap (λ o. o >> (λ a. numbered_all (hidden-the_row-CoreStatement-0 xs) a)) (counts_on i) ∙ all_numbered xs (i + 1) ∙ x

mutual
  pub statement_fits : HaveKinds → (x : Statement) (n : List Node) (k : List Kind) (v : List Variable) (i : ℕ) (s : Step) → statement x (reach n k v) i ≡ Ok s →
      Fits n k v i s
  statement_fits law (Let line x e) n k v i s h = let_fits law n k v x e i s h
  statement_fits law (Set line t e) n k v i s h = change_fits law n k v change.Set t e i s h
  statement_fits law (Add line e t) n k v i s h = change_fits law n k v change.Add t e i s h
  statement_fits law (Remove line e t) n k v i s h = change_fits law n k v change.Remove t e i s h
  statement_fits law (New line x t) n k v i s h = new_fits law n k v x t i s h
  statement_fits law (Delete line e) n k v i s h = delete_fits law n k v e i s h
  statement_fits law (Check line e message) n k v i s h = check_fits law n k v e message i s h
  statement_fits law (Reply line e) n k v i s h = reply_fits law n k v e i s h
  statement_fits law (If' line e _ body) n k v i s h =
      let r = reach n k v in
      let a = came_from (formula_of kind.Truth e r) (λ c. statements body r (i + 1) >>= (λ b. Ok (if_of r i c b))) s h in
      let b = came_from (statements body r (i + 1)) (λ x. Ok (if_of r i a.0 x)) s a.2 in
      let f = block_fits law body n k v (i + 1) b.0 b.1 in
      subst (Fits n k v i) (ok_same (if_of r i a.0 b.0) s b.2)
      (record {
        columns = refl;
        positions = if_positions n k (kinds_of v) i a.0 b.0.list [] f.last (kinds_of v) (formula_suits law n k v kind.Truth e a.0 a.1) f.positions refl;
        numbers = if_numbers i b.0.next b.0.next a.0 b.0.list [] f.numbers refl;
      })
  statement_fits law (IfElse' line e _ body _ otherwise) n k v i s h =
      let r = reach n k v in
      let a = came_from (formula_of kind.Truth e r)
      (λ c. statements body r (i + 1) >>= (λ b. statements otherwise r b.next >>= (λ o. Ok (if_else_of r i c b o)))) s h in
      let b = came_from (statements body r (i + 1)) (λ x. statements otherwise r x.next >>= (λ o. Ok (if_else_of r i a.0 x o))) s a.2 in
      let o = came_from (statements otherwise r b.0.next) (λ x. Ok (if_else_of r i a.0 b.0 x)) s b.2 in
      let f = block_fits law body n k v (i + 1) b.0 b.1 in
      let g = block_fits law otherwise n k v b.0.next o.0 o.1 in
      subst (Fits n k v i) (ok_same (if_else_of r i a.0 b.0 o.0) s o.2)
      (record {
        columns = refl;
        positions = if_positions n k (kinds_of v) i a.0 b.0.list o.0.list f.last g.last (formula_suits law n k v kind.Truth e a.0 a.1) f.positions g.positions;
        numbers = if_numbers i b.0.next o.0.next a.0 b.0.list o.0.list f.numbers g.numbers;
      })
  statement_fits law (For' line x e _ body) n k v i s h =
      let r = reach n k v in
      let a = came_from (typed e r) (λ t. statements body (bind r x t.kind) (i + 1) >>= (λ b. Ok (for_of r i t.core b))) s h in
      let b = came_from (statements body (bind r x a.0.kind) (i + 1)) (λ y. Ok (for_of r i a.0.core y)) s a.2 in
      let w : List Variable = v ++ record { name = x; kind = a.0.kind } ∷ [] in
      let f = block_fits law body n k w (i + 1) b.0 b.1 in
      let inner : behind_list b.0.list n k (kinds_of v ++ a.0.kind ∷ []) ≡ Some f.last =
      ap (behind_list b.0.list n k) (sym (map_one v (record { name = x; kind = a.0.kind }))) ∙ f.positions in
      subst (Fits n k v i) (ok_same (for_of r i a.0.core b.0) s b.2)
      (record {
        columns = refl;
        positions = for_positions n k (kinds_of v) i a.0.core a.0.kind b.0.list f.last (law.has n k v e a.0 a.1) inner;
        numbers = for_numbers i b.0.next a.0.core b.0.list f.numbers;
      })

  pub block_fits : {m : _} → HaveKinds → (row : Row_of-Statement m) (n : List Node) (k : List Kind) (v : List Variable) (i : ℕ) (b : Block) →
      statements row (reach n k v) i ≡ Ok b → BlockFits n k v i b
  block_fits law end n k v i b h = subst (BlockFits n k v i) (ok_same (block i []) b h) (record { last = kinds_of v; positions = refl; numbers = refl })
  block_fits law (more x rest) n k v i b h =
      let r = reach n k v in
      let a = came_from (statement x r i) (λ s. statements rest s.reach s.next >>= (λ y. Ok (before (s.core ∷ []) y))) b h in
      let f = statement_fits law x n k v i a.0 a.1 in
      let c = came_from (statements rest a.0.reach a.0.next) (λ y. Ok (before (a.0.core ∷ []) y)) b a.2 in
      let at : statements rest (reach n k a.0.reach.variables) a.0.next ≡ Ok c.0 = ap (λ q. statements rest q a.0.next) (sym f.columns) ∙ c.1 in
      let g = block_fits law rest n k a.0.reach.variables a.0.next c.0 at in
      subst (BlockFits n k v i) (ok_same (before (a.0.core ∷ []) c.0) b c.2)
      (record {
        last = g.last;
        positions = ap (λ o. o >> (λ u. behind_list c.0.list n k u)) f.positions ∙ g.positions;
        numbers = ap (λ o. o >> (λ j. numbered_list c.0.list j)) f.numbers ∙ g.numbers;
      })

-- statements in a list
pub list_fits : HaveKinds → StatementsAreTyped
list_fits law n k v xs i b h =
    let f = block_fits law (hidden-the_row-Statement-0 xs) n k v i b (as_list xs (reach n k v) i ∙ h) in
    (ap is_some f.positions, f.numbers)

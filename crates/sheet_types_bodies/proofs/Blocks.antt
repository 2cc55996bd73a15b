-- Statements that hold blocks, where these are lists, and the turns of a loop over statements.
use Rattle.std.proofs.Common.{◌≡◌, refl, sym, ◌∙◌, ap, ℕ, ◌+◌, ◌<◌, ◌≤◌, List, [], ◌∷◌, ◌++◌, length, get_or, drop, append_assoc}
use Rattle.std.specs.Prelude.{Result, Ok, Err, OnOk}
use Rattle.sheet_values.specs.declared.value.Kind.TheVariants as kind
use Rattle.sheet_columns.specs.declared.statement.CoreStatement.{CoreStatement}
use Rattle.sheet_syntax_trees.specs.declared.tree.Tree.{Tree}
use Rattle.sheet_define_data.specs.declared.statement.Statement.{Statement, Row_of-Statement, end_of-Statement, more_of-Statement, items-the_row-Statement}
use Rattle.sheet_define_data.specs.declared.statement.Statement.{items_hidden-the_row-Statement-0}
use Rattle.sheet_define_data.specs.declared.statement.Statement.TheVariants as written
use Rattle.sheet_define_data.specs.declared.statement.Statement.TheBlock.{hidden-the_row-Statement-0}
use Rattle.sheet_types_formulas.specs.declared.refusal.TypeRefusal.{TypeRefusal}
use Rattle.sheet_types_formulas.specs.Answers.{Answer, AnswersAs, ◌>>=◌}
use Rattle.sheet_types_formulas.specs.Names.{Reach, bind}
use Rattle.sheet_types_formulas.specs.Typing.{typed}
use Rattle.sheet_types_formulas.specs.declared.scope.Variable.{Variable}
use Rattle.sheet_types_bodies.specs.Calls.{Begins}
use Rattle.sheet_types_bodies.specs.Statements.{Step, Block, block, before, formula_of, statement, statements, in_block, if_of, if_else_of, for_of}
use Rattle.sheet_types_bodies.specs.Statements.{if_statement, if_else_statement, for_statement}
use Rattle.sheet_types_bodies.proofs.Steps.{then_same, handed_on, drop_past, append_none}
use Rattle.sheet_types_formulas.proofs.Recursion.{drop_item}

each_statement : {m : _} (row : Row_of-Statement m) (r : Reach) (n : ℕ) → statements row r n ≡ in_block (items-the_row-Statement m row) r n
each_statement end_of-Statement r n = refl
each_statement (more_of-Statement x rest) r n =
    then_same (statement x r n) (λ s. statements rest s.reach s.next >>= (λ b. Ok (before (s.core ∷ []) b)))
    (λ s. in_block (items-the_row-Statement _ rest) s.reach s.next >>= (λ b. Ok (before (s.core ∷ []) b)))
    (λ s. ap (λ a. a >>= (λ b. Ok (before (s.core ∷ []) b))) (each_statement rest s.reach s.next))

pub as_list : (xs : List Statement) (r : Reach) (n : ℕ) → statements (hidden-the_row-Statement-0 xs) r n ≡ in_block xs r n
as_list xs r n = each_statement (hidden-the_row-Statement-0 xs) r n ∙ ap (λ ys. in_block ys r n) (items_hidden-the_row-Statement-0 xs)

-- a condition and a block, and what is made of both
abbrev both : {A B : Type 0} → Answer A → Answer B → Answer (A × B)
both a b = a >>= (λ x. b >>= (λ y. Ok (x, y)))

paired : {A B C : Type 0} (a : Answer A) (b : Answer B) (f : A → B → Answer C) → a >>= (λ x. b >>= (λ y. f x y)) ≡ both a b >>= (λ (g : A × B). f g.0 g.1)
paired (Ok x) (Ok y) f = refl
paired (Ok x) (Err e) f = refl
paired (Err e) b f = refl

pub statement-If : (line : ℕ) (e : Tree) (body : List Statement) (r : Reach) (n : ℕ) → statement (written.If line e body) r n ≡ if_statement e body r n
statement-If line e body r n =
    then_same (formula_of kind.Truth e r) (λ c. statements (hidden-the_row-Statement-0 body) r (n + 1) >>= (λ b. Ok (if_of r n c b)))
    (λ c. in_block body r (n + 1) >>= (λ b. Ok (if_of r n c b)))
    (λ c. ap (λ a. a >>= (λ b. Ok (if_of r n c b))) (as_list body r (n + 1)))
    ∙ paired (formula_of kind.Truth e r) (in_block body r (n + 1)) (λ c b. Ok (if_of r n c b))

pub statement-IfElse : (line : ℕ) (e : Tree) (body otherwise : List Statement) (r : Reach) (n : ℕ) →
    statement (written.IfElse line e body otherwise) r n ≡ if_else_statement e body otherwise r n
statement-IfElse line e body otherwise r n =
    then_same (formula_of kind.Truth e r)
    (λ c. statements (hidden-the_row-Statement-0 body) r
    (n + 1) >>= (λ b. statements (hidden-the_row-Statement-0 otherwise) r b.next >>= (λ o. Ok (if_else_of r n c b o))))
    (λ c. in_block body r (n + 1) >>= (λ b. in_block otherwise r b.next >>= (λ o. Ok (if_else_of r n c b o))))
    (λ c.
    then_same (statements (hidden-the_row-Statement-0 body) r (n + 1))
    (λ b. statements (hidden-the_row-Statement-0 otherwise) r b.next >>= (λ o. Ok (if_else_of r n c b o)))
    (λ b. in_block otherwise r b.next >>= (λ o. Ok (if_else_of r n c b o)))
    (λ b. ap (λ a. a >>= (λ o. Ok (if_else_of r n c b o))) (as_list otherwise r b.next))
    ∙ ap (λ a. a >>= (λ b. in_block otherwise r b.next >>= (λ o. Ok (if_else_of r n c b o)))) (as_list body r (n + 1)))
    ∙ paired (formula_of kind.Truth e r) (in_block body r (n + 1)) (λ c b. in_block otherwise r b.next >>= (λ o. Ok (if_else_of r n c b o)))

pub statement-For : (line : ℕ) (x : List ℕ) (e : Tree) (body : List Statement) (r : Reach) (n : ℕ)
    → statement (written.For line x e body) r n ≡ for_statement x e body r n
statement-For line x e body r n =
    then_same (typed e r) (λ s. statements (hidden-the_row-Statement-0 body) (bind r x s.kind) (n + 1) >>= (λ b. Ok (for_of r n s.core b)))
    (λ s. in_block body (bind r x s.kind) (n + 1) >>= (λ b. Ok (for_of r n s.core b)))
    (λ s. ap (λ a. a >>= (λ b. Ok (for_of r n s.core b))) (as_list body (bind r x s.kind) (n + 1)))

-- statements of which the first ones are made
abbrev pub rest_of_block : List CoreStatement → List Statement → Reach → ℕ → Answer Block
rest_of_block made xs r n = in_block xs r n >>= (λ b. Ok (before made b))

pub none_made : (a : Answer Block) → a ≡ a >>= (λ b. Ok (before [] b))
none_made (Ok b) = refl
none_made (Err e) = refl

one_more : (made : List CoreStatement) (c : CoreStatement) (a : Answer Block)
    → (a >>= (λ b. Ok (before (c ∷ []) b))) >>= (λ b. Ok (before made b)) ≡ a >>= (λ b. Ok (before (made ++ c ∷ []) b))
one_more made c (Ok b) = ap (λ xs. Ok (block b.next xs)) (sym (append_assoc made (c ∷ []) b.list))
one_more made c (Err e) = refl

pub statement_made : (made : List CoreStatement) (x : Statement) (xs : List Statement) (r : Reach) (n : ℕ) (s : Step)
    → statement x r n ≡ Ok s
    → rest_of_block made (x ∷ xs) r n ≡ rest_of_block (made ++ s.core ∷ []) xs s.reach s.next
statement_made made x xs r n s h =
    ap (λ a. (a >>= (λ (t : Step). in_block xs t.reach t.next >>= (λ b. Ok (before (t.core ∷ []) b)))) >>= (λ b. Ok (before made b))) h
    ∙ one_more made s.core (in_block xs s.reach s.next)

pub statement_refused : (made : List CoreStatement) (x : Statement) (xs : List Statement) (r : Reach) (n : ℕ) (e : TypeRefusal)
    → ◌≡◌ {A = Answer Step} (statement x r n) (Err e)
    → ◌≡◌ {A = Answer Block} (rest_of_block made (x ∷ xs) r n) (Err e)
statement_refused made x xs r n e h =
    ap (λ a. (a >>= (λ (t : Step). in_block xs t.reach t.next >>= (λ b. Ok (before (t.core ∷ []) b)))) >>= (λ b. Ok (before made b))) h

-- a list begins itself, and itself with one more
pub begins_all : (xs : List Variable) → Begins xs xs
begins_all [] = refl
begins_all (x ∷ xs) = ap (λ l. x ∷ l) (begins_all xs)

pub begins_one : (xs : List Variable) (x : Variable) → Begins xs (xs ++ x ∷ [])
begins_one [] x = refl
begins_one (y ∷ ys) x = ap (λ l. y ∷ l) (begins_one ys x)

-- what begins a list begins what that one begins
pub begins_then : (xs ys zs : List Variable) → Begins xs ys → Begins ys zs → Begins xs zs
begins_then [] ys zs h g = refl
begins_then (x ∷ xs) [] zs h g = let wrong : ⊥ = cc in absurd wrong
begins_then (x ∷ xs) (y ∷ ys) [] h g = let wrong : ⊥ = cc in absurd wrong
begins_then (x ∷ xs) (y ∷ ys) (z ∷ zs) h g =
    let first : y ≡ x = cc in
    let others : Begins xs ys = cc in
    let second : z ≡ y = cc in
    let more : Begins ys zs = cc in
    let all = begins_then xs ys zs others more in
    cc

-- ---- the loop over statements

module _ (xs : List Statement) (i : ℕ) (r : Reach) (n : ℕ) (made : List CoreStatement) (whole : Answer Block)
    (so_far : whole ≡ rest_of_block made (drop i xs) r n) where
  pub statement_goes_on : (x : Statement) (s : Step) (more : List CoreStatement) → i < length xs → x ≡ get_or xs i x → statement x r n ≡ Ok s →
      more ≡ made ++ s.core ∷ []
      → whole ≡ rest_of_block more (drop (i + 1) xs) s.reach s.next
  statement_goes_on x s more lt is told one =
      so_far
      ∙ ap (λ rest. rest_of_block made rest r n) (drop_item xs i x lt is)
      ∙ statement_made made x (drop (i + 1) xs) r n s told
      ∙ ap (λ ys. rest_of_block ys (drop (i + 1) xs) s.reach s.next) (sym one)

  pub statement_stops : {C D : Type 0} (view : C → Step) (see : D → Block) (x : Statement) (e : TypeRefusal) → i < length xs → x ≡ get_or xs i x →
      AnswersAs view (Err e) (statement x r n) → AnswersAs see (Err e) whole
  statement_stops view see x e lt is told =
      handed_on e view see (statement x r n) whole told
      (λ h. so_far ∙ ap (λ rest. rest_of_block made rest r n) (drop_item xs i x lt is) ∙ statement_refused made x (drop (i + 1) xs) r n e h)

  pub statements_end : length xs ≤ i → whole ≡ Ok (block n made)
  statements_end le = so_far ∙ ap (λ rest. rest_of_block made rest r n) (drop_past xs i le) ∙ ap (λ ys. Ok (block n ys)) (append_none made)

-- ---- what stays in reach

pub all_stay : {A : Type 0} (r : Result A TypeRefusal) (xs : List Variable) → OnOk r (Begins xs xs)
all_stay (Ok x) xs = begins_all xs
all_stay (Err e) xs = tt

pub same_stay : {A : Type 0} (r : Result A TypeRefusal) (xs ys : List Variable) → OnOk r (ys ≡ xs) → OnOk r (Begins xs ys)
same_stay (Ok x) xs ys h = rw h (begins_all xs)
same_stay (Err e) xs ys h = tt

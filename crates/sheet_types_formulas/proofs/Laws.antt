-- What is said of a formula at each form, where the parts are values of the program.
use Rattle.std.proofs.Common.{◌≡◌, refl, ap, ◌∙◌, ℕ, List, ◌∷◌, Ok}
use denote.Hole.Carrier.{hidden}
use Rattle.sheet_syntax_trees.specs.declared.operators.Operator.{Operator}
use Rattle.sheet_syntax_trees.specs.declared.operators.Function.{Function}
use Rattle.sheet_syntax_trees.specs.declared.operators.Gathering.{Gathering}
use Rattle.sheet_syntax_trees.specs.declared.operators.Quantifier.{Quantifier}
use Rattle.sheet_syntax_trees.specs.declared.tree.Tree.{Tree, Row_of-Tree, end_of-Tree, more_of-Tree, items-the_row-Tree, items_hidden-the_row-Tree-1}
use Rattle.sheet_syntax_trees.specs.declared.tree.Tree.TheVariants as tree
use Rattle.sheet_syntax_trees.specs.declared.tree.Tree.TheBlock.{hidden-the_row-Tree-0, hidden-the_row-Tree-1}
use Rattle.sheet_types_formulas.specs.Answers.{◌>>=◌}
use Rattle.sheet_types_formulas.specs.Names.{Reach, bind}
use Rattle.sheet_types_formulas.specs.Forms.{step, up, negated, denied, operation, choice, set_of, called, no_condition, gathered, tested}
use Rattle.sheet_types_formulas.specs.Typing.{typed, typed_each, typed_list}

module _ (r : Reach) (line : ℕ) where
  pub typed-Child : (e : Tree) (name : List ℕ) → typed (tree.Child line e name) r ≡ typed e r >>= step r line name
  unfolding hidden hidden-the_row-Tree-0
  typed-Child e name = refl

  pub typed-Up : (e : Tree) → typed (tree.Up line e) r ≡ typed e r >>= up r.columns line
  unfolding hidden hidden-the_row-Tree-0
  typed-Up e = refl

  pub typed-Negate : (e : Tree) → typed (tree.Negate line e) r ≡ typed e r >>= negated r.columns line
  unfolding hidden hidden-the_row-Tree-0
  typed-Negate e = refl

  pub typed-Not : (e : Tree) → typed (tree.Not line e) r ≡ typed e r >>= denied r.columns line
  unfolding hidden hidden-the_row-Tree-0
  typed-Not e = refl

  pub typed-Binary : (op : Operator) (a b : Tree) → typed (tree.Binary line op a b) r ≡ typed a r >>= (λ x. typed b r >>= operation r.columns line op x)
  unfolding hidden hidden-the_row-Tree-0
  typed-Binary op a b = refl

  pub typed-If : (c a b : Tree) → typed (tree.If line c a b) r ≡ typed c r >>= (λ x. typed a r >>= (λ y. typed b r >>= choice r.columns line x y))
  unfolding hidden hidden-the_row-Tree-0
  typed-If c a b = refl

  pub typed-Call : (f : Function) (e : Tree) → typed (tree.Call line f e) r ≡ typed e r >>= called r.columns line f
  unfolding hidden hidden-the_row-Tree-0
  typed-Call f e = refl

  pub typed-Gather : (g : Gathering) (f : Tree) (x : List ℕ) (s : Tree)
      → typed (tree.Gather line g f x s) r ≡ typed s
      r >>= (λ source. typed f (bind r x source.kind) >>= (λ body. gathered r.columns line g body source (no_condition line)))
  unfolding hidden hidden-the_row-Tree-0
  typed-Gather g f x s = refl

  pub typed-GatherWhere : (g : Gathering) (f : Tree) (x : List ℕ) (s p : Tree)
      → typed (tree.GatherWhere line g f x s p) r ≡ typed s
      r >>= (λ source. typed f (bind r x source.kind) >>= (λ body. typed p (bind r x source.kind) >>= gathered r.columns line g body source))
  unfolding hidden hidden-the_row-Tree-0
  typed-GatherWhere g f x s p = refl

  pub typed-Test : (q : Quantifier) (x : List ℕ) (s p : Tree)
      → typed (tree.Test line q x s p) r ≡ typed s r >>= (λ source. typed p (bind r x source.kind) >>= tested r.columns line q source)
  unfolding hidden hidden-the_row-Tree-0
  typed-Test q x s p = refl

each_typed : {m : _} (row : Row_of-Tree m) (r : Reach) → typed_each row r ≡ typed_list (items-the_row-Tree m row) r
each_typed end_of-Tree r = refl
each_typed (more_of-Tree e rest) r = ap (λ others. typed e r >>= (λ x. others >>= (λ xs. Ok (x ∷ xs)))) (each_typed rest r)

pub typed-Set : (r : Reach) (line : ℕ) (es : List Tree) → typed (tree.Set line es) r ≡ typed_list es r >>= set_of r.columns line
typed-Set r line es =
    ap (λ parts. parts >>= set_of r.columns line) (each_typed (hidden-the_row-Tree-1 es) r ∙ ap (λ parts. typed_list parts r) (items_hidden-the_row-Tree-1 es))

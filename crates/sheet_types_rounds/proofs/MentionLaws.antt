-- What forms with parts mention.
use Rattle.std.proofs.Common.{◌≡◌, refl, ap, ◌∙◌, ℕ, List}
use Rattle.std.specs.Prelude.{◌||◌}
use denote.Hole.Carrier.{hidden}
use Rattle.sheet_syntax_trees.specs.declared.operators.Operator.{Operator}
use Rattle.sheet_syntax_trees.specs.declared.operators.Function.{Function}
use Rattle.sheet_syntax_trees.specs.declared.operators.Gathering.{Gathering}
use Rattle.sheet_syntax_trees.specs.declared.operators.Quantifier.{Quantifier}
use Rattle.sheet_syntax_trees.specs.declared.tree.Tree.{Tree, Row_of-Tree, end_of-Tree, more_of-Tree, items-the_row-Tree, items_hidden-the_row-Tree-1}
use Rattle.sheet_syntax_trees.specs.declared.tree.Tree.TheVariants as tree
use Rattle.sheet_syntax_trees.specs.declared.tree.Tree.TheBlock.{hidden-the_row-Tree-0, hidden-the_row-Tree-1}
use Rattle.sheet_types_rounds.specs.Mentions.{is_among, mentions, mentions_each, mentions_list}

pub mentions-Child : (line : ℕ) (e : Tree) (name : List ℕ) (ns : List (List ℕ)) → mentions (tree.Child line e name) ns ≡ (is_among ns name || mentions e ns)
unfolding hidden hidden-the_row-Tree-0
mentions-Child line e name ns = refl

pub mentions-Up : (line : ℕ) (e : Tree) (ns : List (List ℕ)) → mentions (tree.Up line e) ns ≡ mentions e ns
unfolding hidden hidden-the_row-Tree-0
mentions-Up line e ns = refl

pub mentions-Negate : (line : ℕ) (e : Tree) (ns : List (List ℕ)) → mentions (tree.Negate line e) ns ≡ mentions e ns
unfolding hidden hidden-the_row-Tree-0
mentions-Negate line e ns = refl

pub mentions-Not : (line : ℕ) (e : Tree) (ns : List (List ℕ)) → mentions (tree.Not line e) ns ≡ mentions e ns
unfolding hidden hidden-the_row-Tree-0
mentions-Not line e ns = refl

pub mentions-Binary : (line : ℕ) (op : Operator) (a b : Tree) (ns : List (List ℕ)) → mentions (tree.Binary line op a b) ns ≡ (mentions a ns || mentions b ns)
unfolding hidden hidden-the_row-Tree-0
mentions-Binary line op a b ns = refl

pub mentions-If : (line : ℕ) (c a b : Tree) (ns : List (List ℕ)) → mentions (tree.If line c a b) ns ≡ (mentions c ns || (mentions a ns || mentions b ns))
unfolding hidden hidden-the_row-Tree-0
mentions-If line c a b ns = refl

pub mentions-Call : (line : ℕ) (f : Function) (e : Tree) (ns : List (List ℕ)) → mentions (tree.Call line f e) ns ≡ mentions e ns
unfolding hidden hidden-the_row-Tree-0
mentions-Call line f e ns = refl

pub mentions-Gather : (line : ℕ) (g : Gathering) (f : Tree) (x : List ℕ) (s : Tree) (ns : List (List ℕ))
    → mentions (tree.Gather line g f x s) ns ≡ (mentions s ns || mentions f ns)
unfolding hidden hidden-the_row-Tree-0
mentions-Gather line g f x s ns = refl

pub mentions-GatherWhere : (line : ℕ) (g : Gathering) (f : Tree) (x : List ℕ) (s p : Tree) (ns : List (List ℕ))
    → mentions (tree.GatherWhere line g f x s p) ns ≡ (mentions s ns || (mentions f ns || mentions p ns))
unfolding hidden hidden-the_row-Tree-0
mentions-GatherWhere line g f x s p ns = refl

pub mentions-Test : (line : ℕ) (q : Quantifier) (x : List ℕ) (s p : Tree) (ns : List (List ℕ))
    → mentions (tree.Test line q x s p) ns ≡ (mentions s ns || mentions p ns)
unfolding hidden hidden-the_row-Tree-0
mentions-Test line q x s p ns = refl

each_list : {m : _} (r : Row_of-Tree m) (ns : List (List ℕ)) → mentions_each r ns ≡ mentions_list (items-the_row-Tree m r) ns
each_list end_of-Tree ns = refl
each_list (more_of-Tree e rest) ns = ap (λ more. mentions e ns || more) (each_list rest ns)

pub mentions-Set : (line : ℕ) (es : List Tree) (ns : List (List ℕ)) → mentions (tree.Set line es) ns ≡ mentions_list es ns
mentions-Set line es ns = each_list (hidden-the_row-Tree-1 es) ns ∙ ap (λ xs. mentions_list xs ns) (items_hidden-the_row-Tree-1 es)

-- What forms with parts wait for.
use Rattle.std.proofs.Common.{◌≡◌, refl, ap, ◌∙◌, ℕ, List, [], ◌∷◌}
use Rattle.std.specs.Prelude.{Bool, true, false, not, ◌||◌, ◌&&◌}
use denote.Hole.Carrier.{hidden}
use Rattle.sheet_syntax_trees.specs.declared.operators.Operator.{Operator}
use Rattle.sheet_syntax_trees.specs.declared.operators.Function.{Function}
use Rattle.sheet_syntax_trees.specs.declared.operators.Gathering.{Gathering}
use Rattle.sheet_syntax_trees.specs.declared.operators.Quantifier.{Quantifier}
use Rattle.sheet_syntax_trees.specs.declared.tree.Tree.{Tree, Row_of-Tree, end_of-Tree, more_of-Tree, items-the_row-Tree, items_hidden-the_row-Tree-1}
use Rattle.sheet_syntax_trees.specs.declared.tree.Tree.TheVariants as tree
use Rattle.sheet_syntax_trees.specs.declared.tree.Tree.TheBlock.{hidden-the_row-Tree-0, hidden-the_row-Tree-1}
use Rattle.sheet_types_rounds.specs.Mentions.{mentions}
use Rattle.sheet_types_rounds.specs.Waiting.{waits, each_waits, one_waits, is_sum}

pub waits-Child : (line : ℕ) (e : Tree) (name : List ℕ) (refused : Bool) (ns : List (List ℕ))
    → waits (tree.Child line e name) refused ns ≡ waits e false ns
unfolding hidden hidden-the_row-Tree-0
waits-Child line e name refused ns = refl

pub waits-Up : (line : ℕ) (e : Tree) (refused : Bool) (ns : List (List ℕ))
    → waits (tree.Up line e) refused ns ≡ waits e false ns
unfolding hidden hidden-the_row-Tree-0
waits-Up line e refused ns = refl

pub waits-Negate : (line : ℕ) (e : Tree) (refused : Bool) (ns : List (List ℕ))
    → waits (tree.Negate line e) refused ns ≡ waits e true ns
unfolding hidden hidden-the_row-Tree-0
waits-Negate line e refused ns = refl

pub waits-Not : (line : ℕ) (e : Tree) (refused : Bool) (ns : List (List ℕ))
    → waits (tree.Not line e) refused ns ≡ waits e true ns
unfolding hidden hidden-the_row-Tree-0
waits-Not line e refused ns = refl

pub waits-Binary : (line : ℕ) (op : Operator) (a b : Tree) (refused : Bool) (ns : List (List ℕ))
    → waits (tree.Binary line op a b) refused ns ≡ (waits a true ns || waits b true ns)
unfolding hidden hidden-the_row-Tree-0
waits-Binary line op a b refused ns = refl

pub waits-If : (line : ℕ) (c a b : Tree) (refused : Bool) (ns : List (List ℕ))
    → waits (tree.If line c a b) refused ns ≡ (waits c true ns || (waits a true ns || waits b true ns))
unfolding hidden hidden-the_row-Tree-0
waits-If line c a b refused ns = refl

pub waits-Call : (line : ℕ) (f : Function) (e : Tree) (refused : Bool) (ns : List (List ℕ))
    → waits (tree.Call line f e) refused ns ≡ waits e true ns
unfolding hidden hidden-the_row-Tree-0
waits-Call line f e refused ns = refl

pub waits-Gather : (line : ℕ) (g : Gathering) (f : Tree) (x : List ℕ) (s : Tree) (refused : Bool) (ns : List (List ℕ))
    → waits (tree.Gather line g f x s) refused ns ≡ (waits s true ns || (not (mentions f (x ∷ [])) && waits f (refused || is_sum g) ns))
unfolding hidden hidden-the_row-Tree-0
waits-Gather line g f x s refused ns = refl

pub waits-GatherWhere : (line : ℕ) (g : Gathering) (f : Tree) (x : List ℕ) (s p : Tree) (refused : Bool) (ns : List (List ℕ))
    → waits (tree.GatherWhere line g f x s p) refused ns ≡ (waits s true ns || (not (mentions f (x ∷ [])) && waits f (refused || is_sum g) ns))
unfolding hidden hidden-the_row-Tree-0
waits-GatherWhere line g f x s p refused ns = refl

pub waits-Test : (line : ℕ) (q : Quantifier) (x : List ℕ) (s p : Tree) (refused : Bool) (ns : List (List ℕ))
    → waits (tree.Test line q x s p) refused ns ≡ waits s true ns
unfolding hidden hidden-the_row-Tree-0
waits-Test line q x s p refused ns = refl

each_list : {m : _} (r : Row_of-Tree m) (ns : List (List ℕ)) → each_waits r ns ≡ one_waits (items-the_row-Tree m r) ns
each_list end_of-Tree ns = refl
each_list (more_of-Tree e rest) ns = ap (λ more. waits e true ns || more) (each_list rest ns)

pub waits-Set : (line : ℕ) (es : List Tree) (refused : Bool) (ns : List (List ℕ)) → waits (tree.Set line es) refused ns ≡ one_waits es ns
waits-Set line es refused ns = each_list (hidden-the_row-Tree-1 es) ns ∙ ap (λ xs. one_waits xs ns) (items_hidden-the_row-Tree-1 es)

-- The texts and the one-line forms of forms with parts.
use Rattle.std.proofs.Common.{true, false, ◌≡◌, refl, ap, ◌∙◌, ℕ, List, [], ◌∷◌, ◌++◌, map}
use Rattle.std.specs.Prelude.{codes}
use Rattle.std.specs.List.{join_by}
use Rattle.std.proofs.lemmas.List.Folds.{flat_map-map}
use denote.Hole.Carrier.{hidden}
use Rattle.sheet_syntax_trees.specs.declared.operators.Operator.{Operator}
use Rattle.sheet_syntax_trees.specs.declared.operators.Function.{Function}
use Rattle.sheet_syntax_trees.specs.declared.operators.Gathering.{Gathering}
use Rattle.sheet_syntax_trees.specs.declared.operators.Quantifier.{Quantifier}
use Rattle.sheet_syntax_trees.specs.declared.tree.Tree.{Tree, Row_of-Tree, end_of-Tree, more_of-Tree, items-the_row-Tree, items_hidden-the_row-Tree-1}
use Rattle.sheet_syntax_trees.specs.declared.tree.Tree.TheVariants as tree
use Rattle.sheet_syntax_trees.specs.declared.tree.Tree.TheBlock.{hidden-the_row-Tree-0, hidden-the_row-Tree-1}
use Rattle.sheet_syntax_trees.specs.Texts.{on_one_line, all_on_one_line}
use Rattle.sheet_syntax_trees.specs.Printing.{is_enclosed, formula_text, formula_texts, in_braces, operand, operator_text, function_text, quantifier_text}
use Rattle.sheet_syntax_trees.specs.Printing.{in_parentheses, opening_text, closing_text, bound_text}

pub text-Child : (line : ℕ) (e : Tree) (name : List ℕ) → formula_text (tree.Child line e name) ≡ operand e (formula_text e) ++ codes "." ++ name
unfolding hidden hidden-the_row-Tree-0
text-Child line e name = refl

pub text-Up : (line : ℕ) (e : Tree) → formula_text (tree.Up line e) ≡ operand e (formula_text e) ++ codes ".up"
unfolding hidden hidden-the_row-Tree-0
text-Up line e = refl

pub text-Negate : (line : ℕ) (e : Tree) → formula_text (tree.Negate line e) ≡ codes "-" ++ operand e (formula_text e)
unfolding hidden hidden-the_row-Tree-0
text-Negate line e = refl

pub text-Not : (line : ℕ) (e : Tree) → formula_text (tree.Not line e) ≡ codes "not " ++ operand e (formula_text e)
unfolding hidden hidden-the_row-Tree-0
text-Not line e = refl

pub text-Binary : (line : ℕ) (op : Operator) (a b : Tree) →
    formula_text (tree.Binary line op a b) ≡ operand a (formula_text a) ++ codes " " ++ operator_text op ++ codes " " ++ operand b (formula_text b)
unfolding hidden hidden-the_row-Tree-0
text-Binary line op a b = refl

pub text-If : (line : ℕ) (c a b : Tree) →
    formula_text (tree.If line c a b) ≡ codes "if " ++ formula_text c ++ codes " then " ++ formula_text a ++ codes " else " ++ formula_text b
unfolding hidden hidden-the_row-Tree-0
text-If line c a b = refl

pub text-Call : (line : ℕ) (f : Function) (e : Tree) → formula_text (tree.Call line f e) ≡ function_text f ++ in_parentheses (formula_text e)
unfolding hidden hidden-the_row-Tree-0
text-Call line f e = refl

pub text-Gather : (line : ℕ) (g : Gathering) (f : Tree) (x : List ℕ) (s : Tree) →
    formula_text (tree.Gather line g f x s) ≡ opening_text g ++ bound_text (formula_text f) x (formula_text s) ++ closing_text g
unfolding hidden hidden-the_row-Tree-0
text-Gather line g f x s = refl

pub text-GatherWhere : (line : ℕ) (g : Gathering) (f : Tree) (x : List ℕ) (s p : Tree)
    → formula_text (tree.GatherWhere line g f x s p) ≡ opening_text g ++ bound_text (formula_text f) x (formula_text s) ++ codes " | " ++ formula_text
    p ++ closing_text g
unfolding hidden hidden-the_row-Tree-0
text-GatherWhere line g f x s p = refl

pub text-Test : (line : ℕ) (q : Quantifier) (x : List ℕ) (s p : Tree)
    → formula_text (tree.Test line q x s p) ≡ quantifier_text q ++ in_parentheses (x ++ codes " in " ++ formula_text s ++ codes " | " ++ formula_text p)
unfolding hidden hidden-the_row-Tree-0
text-Test line q x s p = refl

each_text : {m : _} (r : Row_of-Tree m) → formula_texts r ≡ map formula_text (items-the_row-Tree m r)
each_text end_of-Tree = refl
each_text (more_of-Tree e rest) = ap (λ texts. formula_text e ∷ texts) (each_text rest)

join_map : (sep : List ℕ) (es : List Tree) → join_by (λ text. text) sep (map formula_text es) ≡ join_by formula_text sep es
join_map sep [] = refl
join_map sep (e ∷ es) = ap (λ more. formula_text e ++ more) (flat_map-map (λ text. sep ++ text) formula_text es)

pub text-Set : (line : ℕ) (es : List Tree) → formula_text (tree.Set line es) ≡ codes "{" ++ join_by formula_text (codes ", ") es ++ codes "}"
text-Set line es =
    ap (λ texts. in_braces (join_by (λ text. text) (codes ", ") texts)) (each_text (hidden-the_row-Tree-1 es)
    ∙ ap (map formula_text) (items_hidden-the_row-Tree-1 es))
    ∙ ap in_braces (join_map (codes ", ") es)

-- ---- in one line

pub line-Child : (line : ℕ) (e : Tree) (name : List ℕ) → on_one_line (tree.Child line e name) ≡ tree.Child 1 (on_one_line e) name
unfolding hidden hidden-the_row-Tree-0
line-Child line e name = refl

pub enclosed-Child : (line : ℕ) (e : Tree) (name : List ℕ) → is_enclosed (tree.Child line e name) ≡ false
unfolding hidden hidden-the_row-Tree-0
enclosed-Child line e name = refl

pub line-Up : (line : ℕ) (e : Tree) → on_one_line (tree.Up line e) ≡ tree.Up 1 (on_one_line e)
unfolding hidden hidden-the_row-Tree-0
line-Up line e = refl

pub enclosed-Up : (line : ℕ) (e : Tree) → is_enclosed (tree.Up line e) ≡ false
unfolding hidden hidden-the_row-Tree-0
enclosed-Up line e = refl

pub line-Negate : (line : ℕ) (e : Tree) → on_one_line (tree.Negate line e) ≡ tree.Negate 1 (on_one_line e)
unfolding hidden hidden-the_row-Tree-0
line-Negate line e = refl

pub enclosed-Negate : (line : ℕ) (e : Tree) → is_enclosed (tree.Negate line e) ≡ true
unfolding hidden hidden-the_row-Tree-0
enclosed-Negate line e = refl

pub line-Not : (line : ℕ) (e : Tree) → on_one_line (tree.Not line e) ≡ tree.Not 1 (on_one_line e)
unfolding hidden hidden-the_row-Tree-0
line-Not line e = refl

pub enclosed-Not : (line : ℕ) (e : Tree) → is_enclosed (tree.Not line e) ≡ true
unfolding hidden hidden-the_row-Tree-0
enclosed-Not line e = refl

pub line-Binary : (line : ℕ) (op : Operator) (a b : Tree) → on_one_line (tree.Binary line op a b) ≡ tree.Binary 1 op (on_one_line a) (on_one_line b)
unfolding hidden hidden-the_row-Tree-0
line-Binary line op a b = refl

pub enclosed-Binary : (line : ℕ) (op : Operator) (a b : Tree) → is_enclosed (tree.Binary line op a b) ≡ true
unfolding hidden hidden-the_row-Tree-0
enclosed-Binary line op a b = refl

pub line-If : (line : ℕ) (c a b : Tree) → on_one_line (tree.If line c a b) ≡ tree.If 1 (on_one_line c) (on_one_line a) (on_one_line b)
unfolding hidden hidden-the_row-Tree-0
line-If line c a b = refl

pub enclosed-If : (line : ℕ) (c a b : Tree) → is_enclosed (tree.If line c a b) ≡ true
unfolding hidden hidden-the_row-Tree-0
enclosed-If line c a b = refl

pub line-Call : (line : ℕ) (f : Function) (e : Tree) → on_one_line (tree.Call line f e) ≡ tree.Call 1 f (on_one_line e)
unfolding hidden hidden-the_row-Tree-0
line-Call line f e = refl

pub enclosed-Call : (line : ℕ) (f : Function) (e : Tree) → is_enclosed (tree.Call line f e) ≡ false
unfolding hidden hidden-the_row-Tree-0
enclosed-Call line f e = refl

pub line-Gather : (line : ℕ) (g : Gathering) (f : Tree) (x : List ℕ) (s : Tree) →
    on_one_line (tree.Gather line g f x s) ≡ tree.Gather 1 g (on_one_line f) x (on_one_line s)
unfolding hidden hidden-the_row-Tree-0
line-Gather line g f x s = refl

pub enclosed-Gather : (line : ℕ) (g : Gathering) (f : Tree) (x : List ℕ) (s : Tree) → is_enclosed (tree.Gather line g f x s) ≡ false
unfolding hidden hidden-the_row-Tree-0
enclosed-Gather line g f x s = refl

pub line-GatherWhere : (line : ℕ) (g : Gathering) (f : Tree) (x : List ℕ) (s p : Tree) →
    on_one_line (tree.GatherWhere line g f x s p) ≡ tree.GatherWhere 1 g (on_one_line f) x (on_one_line s) (on_one_line p)
unfolding hidden hidden-the_row-Tree-0
line-GatherWhere line g f x s p = refl

pub enclosed-GatherWhere : (line : ℕ) (g : Gathering) (f : Tree) (x : List ℕ) (s p : Tree) → is_enclosed (tree.GatherWhere line g f x s p) ≡ false
unfolding hidden hidden-the_row-Tree-0
enclosed-GatherWhere line g f x s p = refl

pub line-Test : (line : ℕ) (q : Quantifier) (x : List ℕ) (s p : Tree) → on_one_line (tree.Test line q x s p) ≡ tree.Test 1 q x (on_one_line s) (on_one_line p)
unfolding hidden hidden-the_row-Tree-0
line-Test line q x s p = refl

pub enclosed-Test : (line : ℕ) (q : Quantifier) (x : List ℕ) (s p : Tree) → is_enclosed (tree.Test line q x s p) ≡ false
unfolding hidden hidden-the_row-Tree-0
enclosed-Test line q x s p = refl

each_line : {m : _} (r : Row_of-Tree m) → all_on_one_line r ≡ map on_one_line (items-the_row-Tree m r)
each_line end_of-Tree = refl
each_line (more_of-Tree e rest) = ap (λ es. on_one_line e ∷ es) (each_line rest)

pub line-Set : (line : ℕ) (es : List Tree) → on_one_line (tree.Set line es) ≡ tree.Set 1 (map on_one_line es)
line-Set line es = ap (tree.Set 1) (each_line (hidden-the_row-Tree-1 es) ∙ ap (map on_one_line) (items_hidden-the_row-Tree-1 es))

pub enclosed-Set : (line : ℕ) (es : List Tree) → is_enclosed (tree.Set line es) ≡ false
enclosed-Set line es = refl

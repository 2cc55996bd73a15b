-- The formulas of texts.
use Rattle.std.specs.Prelude.{◌≡◌, ℕ, List, [], ◌∷◌, Ok}
use Rattle.sheet_syntax_trees.specs.declared.token.Token.{Token}
use Rattle.sheet_syntax_trees.specs.Tokens.{lexed}
use Rattle.sheet_syntax_trees.specs.declared.tree.Tree.{Tree, Number, Text, Truth, Root, This, Caller, Operator as OperatorWord, Name, Child', Up', Negate', Not', Binary', If', Set', Call', Gather', GatherWhere', Test', Row_of-Tree, end_of-Tree as end, more_of-Tree as more}
use Rattle.sheet_syntax_trees.specs.declared.tree.Tree.TheVariants as tree
use Rattle.sheet_syntax_trees.specs.Grammar.{IsFormula}

-- The text stands for this tree: its tokens do by the productions, to a depth of 32 and with 32 open brackets at most.
pub record StandsFor (text : List ℕ) (e : Tree) : Type 0 where
  pub tokens : List Token
  pub lexed : lexed text ≡ Ok tokens
  pub formula : IsFormula tokens e

-- The same formula, all in line 1.
abbrev mutual
  pub on_one_line : Tree → Tree
  on_one_line (Number _ n) = tree.Number 1 n
  on_one_line (Text _ content) = tree.Text 1 content
  on_one_line (Truth _ b) = tree.Truth 1 b
  on_one_line (Root _) = tree.Root 1
  on_one_line (This _) = tree.This 1
  on_one_line (Caller _) = tree.Caller 1
  on_one_line (OperatorWord _) = tree.Operator 1
  on_one_line (Name _ name) = tree.Name 1 name
  on_one_line (Child' _ _ (more e end) name) = tree.Child 1 (on_one_line e) name
  on_one_line (Up' _ _ (more e end)) = tree.Up 1 (on_one_line e)
  on_one_line (Negate' _ _ (more e end)) = tree.Negate 1 (on_one_line e)
  on_one_line (Not' _ _ (more e end)) = tree.Not 1 (on_one_line e)
  on_one_line (Binary' _ op _ (more a end) _ (more b end)) = tree.Binary 1 op (on_one_line a) (on_one_line b)
  on_one_line (If' _ _ (more c end) _ (more a end) _ (more b end)) = tree.If 1 (on_one_line c) (on_one_line a) (on_one_line b)
  on_one_line (Set' _ _ parts) = tree.Set 1 (all_on_one_line parts)
  on_one_line (Call' _ f _ (more e end)) = tree.Call 1 f (on_one_line e)
  on_one_line (Gather' _ g _ (more f end) x _ (more s end)) = tree.Gather 1 g (on_one_line f) x (on_one_line s)
  on_one_line (GatherWhere' _ g _ (more f end) x _ (more s end) _ (more p end)) = tree.GatherWhere 1 g (on_one_line f) x (on_one_line s) (on_one_line p)
  on_one_line (Test' _ q x _ (more s end) _ (more p end)) = tree.Test 1 q x (on_one_line s) (on_one_line p)

  pub all_on_one_line : {m : _} → Row_of-Tree m → List Tree
  all_on_one_line end = []
  all_on_one_line (more e rest) = on_one_line e ∷ all_on_one_line rest

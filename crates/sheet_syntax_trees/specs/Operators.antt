-- The operators of each level.
use Rattle.std.specs.Prelude.{ℕ, Bool, true, false, Option, Some, None}
use Rattle.sheet_syntax_trees.specs.declared.sign.Sign.{Sign}
use Rattle.sheet_syntax_trees.specs.declared.sign.Sign.TheVariants as sign
use Rattle.sheet_syntax_trees.specs.declared.operators.Operator.{Operator}
use Rattle.sheet_syntax_trees.specs.declared.operators.Operator.TheVariants as operator
use Rattle.sheet_syntax_trees.specs.declared.operators.Level.{Level}
use Rattle.sheet_syntax_trees.specs.declared.operators.Level.TheVariants as level
use Rattle.sheet_syntax_trees.specs.declared.operators.Prefix.{Prefix}
use Rattle.sheet_syntax_trees.specs.declared.operators.Prefix.TheVariants as prefix
use Rattle.sheet_syntax_trees.specs.declared.tree.Tree.{Tree}
use Rattle.sheet_syntax_trees.specs.declared.tree.Tree.TheVariants as tree

-- the operator of a level that a token is
abbrev pub operator_among : Level → Sign → Option Operator
operator_among level.Or sign.Or = Some operator.Or
operator_among level.And sign.And = Some operator.And
operator_among level.Comparison sign.Equals = Some operator.Equals
operator_among level.Comparison sign.NotEquals = Some operator.NotEquals
operator_among level.Comparison sign.Less = Some operator.Less
operator_among level.Comparison sign.AtMost = Some operator.AtMost
operator_among level.Comparison sign.Greater = Some operator.Greater
operator_among level.Comparison sign.AtLeast = Some operator.AtLeast
operator_among level.Comparison sign.In = Some operator.In
operator_among level.Sets sign.Union = Some operator.Union
operator_among level.Sets sign.Intersect = Some operator.Intersect
operator_among level.Sets sign.Except = Some operator.Except
operator_among level.Sums sign.Plus = Some operator.Plus
operator_among level.Sums sign.Minus = Some operator.Minus
operator_among level.Sums sign.Join = Some operator.Join
operator_among level.Products sign.Times = Some operator.Times
operator_among level.Products sign.Divide = Some operator.Divide
operator_among level.Products sign.Remainder = Some operator.Remainder
operator_among _ _ = None

-- whether operators of a level may follow each other: all but those of comparison
abbrev pub repeats : Level → Bool
repeats level.Or = true
repeats level.And = true
repeats level.Comparison = false
repeats level.Sets = true
repeats level.Sums = true
repeats level.Products = true

-- the sign that a prefix is written by
abbrev pub prefix_sign : Prefix → Sign
prefix_sign prefix.Minus = sign.Minus
prefix_sign prefix.Not = sign.Not

-- a formula of that line behind a prefix
abbrev pub prefixed : Prefix → ℕ → Tree → Tree
prefixed prefix.Minus line e = tree.Negate line e
prefixed prefix.Not line e = tree.Not line e

-- how tightly the operators of a level bind
abbrev pub level_rank : Level → ℕ
level_rank level.Or = 5
level_rank level.And = 4
level_rank level.Comparison = 3
level_rank level.Sets = 2
level_rank level.Sums = 1
level_rank level.Products = 0

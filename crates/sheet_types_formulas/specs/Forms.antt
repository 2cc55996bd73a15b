-- What a form makes of its typed parts: its resolved form and its type, or the mismatch of its first part at fault.
use Rattle.std.specs.Prelude.{ℕ, true, List, [], ◌∷◌, map, Ok, ok_or}
use Rattle.sheet_values.specs.declared.value.Kind.{Kind}
use Rattle.sheet_values.specs.declared.value.Kind.TheVariants as kind
use Rattle.sheet_columns.specs.declared.tree.Node.{Node}
use Rattle.sheet_columns.specs.declared.formula.Core.{Core}
use Rattle.sheet_columns.specs.declared.formula.Core.TheVariants as core
use Rattle.sheet_columns.specs.declared.formula.SetOperator.TheVariants as set_operator
use Rattle.sheet_columns.specs.declared.formula.SetTest.TheVariants as set_test
use Rattle.sheet_columns.specs.declared.formula.OrderTest.TheVariants as order_test
use Rattle.sheet_columns.specs.declared.formula.ArithmeticOperator.TheVariants as arithmetic_operator
use Rattle.sheet_columns.specs.declared.formula.Connective.TheVariants as connective
use Rattle.sheet_columns.specs.declared.formula.Extremum.TheVariants as extremum
use Rattle.sheet_columns.specs.declared.formula.Quantifier.{Quantifier as CoreQuantifier}
use Rattle.sheet_columns.specs.declared.formula.Quantifier.TheVariants as core_quantifier
use Rattle.sheet_syntax_trees.specs.declared.operators.Operator.{Operator}
use Rattle.sheet_syntax_trees.specs.declared.operators.Operator.TheVariants as operator
use Rattle.sheet_syntax_trees.specs.declared.operators.Function.{Function}
use Rattle.sheet_syntax_trees.specs.declared.operators.Function.TheVariants as function
use Rattle.sheet_syntax_trees.specs.declared.operators.Gathering.{Gathering}
use Rattle.sheet_syntax_trees.specs.declared.operators.Gathering.TheVariants as gathering
use Rattle.sheet_syntax_trees.specs.declared.operators.Quantifier.{Quantifier}
use Rattle.sheet_syntax_trees.specs.declared.operators.Quantifier.TheVariants as quantifier
use Rattle.sheet_types_formulas.specs.declared.refusal.TypeRefusal.TheVariants.{UnknownName}
use Rattle.sheet_types_formulas.specs.declared.scope.Typed.{Typed}
use Rattle.sheet_types_formulas.specs.Answers.{Answer, ◌>>=◌}
use Rattle.sheet_types_formulas.specs.Kinds.{agreed, ordered, object_column, column_above}
use Rattle.sheet_types_formulas.specs.Names.{Reach, typed_as, child}

-- `e.c`: a child column of that of `e`
unfoldable pub step : Reach → ℕ → List ℕ → Typed → Answer Typed
step r line name e = object_column r.columns e >>= (λ above. ok_or (child r line e.core above name) (UnknownName line))

-- `e.up`: objects of the column above that of `e`
unfoldable pub up : List Node → ℕ → Typed → Answer Typed
up n line e = column_above n e >>= (λ above. Ok (typed_as line (core.Up e.core) (kind.Object above)))

-- `-a`, a number of a number
unfoldable pub negated : List Node → ℕ → Typed → Answer Typed
negated n line a = agreed n kind.Number a >>= (λ k. Ok (typed_as line (core.Negate a.core) kind.Number))

-- `not a`, a truth of a truth
unfoldable pub denied : List Node → ℕ → Typed → Answer Typed
denied n line a = agreed n kind.Truth a >>= (λ k. Ok (typed_as line (core.Not a.core) kind.Truth))

-- both parts must have this type
unfoldable pub both_agreed : List Node → Kind → Typed → Typed → Answer Kind
both_agreed n wanted a b = agreed n wanted a >>= (λ k. agreed n wanted b >>= (λ l. Ok wanted))

-- both parts must agree, and a truth is made of them
unfoldable pub compared : List Node → Typed → Typed → Answer Kind
compared n a b = agreed n a.kind b >>= (λ k. Ok kind.Truth)

-- both parts must be of numbers or texts and agree, and a truth is made of them
unfoldable pub in_order : List Node → Typed → Typed → Answer Kind
in_order n a b = ordered n a >>= (λ k. ordered n b >>= (λ l. compared n a b))

-- the type of a form with an operator of two operands
unfoldable pub operation_kind : List Node → Operator → Typed → Typed → Answer Kind
operation_kind n operator.Or a b = both_agreed n kind.Truth a b
operation_kind n operator.And a b = both_agreed n kind.Truth a b
operation_kind n operator.Equals a b = compared n a b
operation_kind n operator.NotEquals a b = compared n a b
operation_kind n operator.Less a b = in_order n a b
operation_kind n operator.AtMost a b = in_order n a b
operation_kind n operator.Greater a b = in_order n a b
operation_kind n operator.AtLeast a b = in_order n a b
operation_kind n operator.In a b = compared n a b
operation_kind n operator.Union a b = agreed n a.kind b
operation_kind n operator.Intersect a b = agreed n a.kind b
operation_kind n operator.Except a b = agreed n a.kind b
operation_kind n operator.Plus a b = both_agreed n kind.Number a b
operation_kind n operator.Minus a b = both_agreed n kind.Number a b
operation_kind n operator.Join a b = both_agreed n kind.Text a b
operation_kind n operator.Times a b = both_agreed n kind.Number a b
operation_kind n operator.Divide a b = both_agreed n kind.Number a b
operation_kind n operator.Remainder a b = both_agreed n kind.Number a b

-- its resolved form
abbrev pub operation_core : Operator → Core → Core → Core
operation_core operator.Or a b = core.Connect connective.Or a b
operation_core operator.And a b = core.Connect connective.And a b
operation_core operator.Equals a b = core.Compare set_test.Equal a b
operation_core operator.NotEquals a b = core.Compare set_test.Unequal a b
operation_core operator.Less a b = core.Order order_test.Less a b
operation_core operator.AtMost a b = core.Order order_test.AtMost a b
operation_core operator.Greater a b = core.Order order_test.Greater a b
operation_core operator.AtLeast a b = core.Order order_test.AtLeast a b
operation_core operator.In a b = core.Compare set_test.Within a b
operation_core operator.Union a b = core.Combine set_operator.Union a b
operation_core operator.Intersect a b = core.Combine set_operator.Intersect a b
operation_core operator.Except a b = core.Combine set_operator.Except a b
operation_core operator.Plus a b = core.Arithmetic arithmetic_operator.Add a b
operation_core operator.Minus a b = core.Arithmetic arithmetic_operator.Subtract a b
operation_core operator.Join a b = core.Join a b
operation_core operator.Times a b = core.Arithmetic arithmetic_operator.Multiply a b
operation_core operator.Divide a b = core.Arithmetic arithmetic_operator.Divide a b
operation_core operator.Remainder a b = core.Arithmetic arithmetic_operator.Remainder a b

-- a form with an operator of two operands
unfoldable pub operation : List Node → ℕ → Operator → Typed → Typed → Answer Typed
operation n line op a b = operation_kind n op a b >>= (λ k. Ok (typed_as line (operation_core op a.core b.core) k))

-- the type of two branches that agree, under a truth
unfoldable pub branches : List Node → Typed → Typed → Typed → Answer Kind
branches n c a b = agreed n kind.Truth c >>= (λ k. agreed n a.kind b)

-- `if c then a else b`, of the type of its branches
unfoldable pub choice : List Node → ℕ → Typed → Typed → Typed → Answer Typed
choice n line c a b = branches n c a b >>= (λ k. Ok (typed_as line (core.If c.core a.core b.core) k))

-- the type on which some parts agree, each with the one of those before it
unfoldable pub all_agreed : List Node → Kind → List Typed → Answer Kind
all_agreed n so_far [] = Ok so_far
all_agreed n so_far (part ∷ parts) = agreed n so_far part >>= (λ k. all_agreed n k parts)

-- `{a, b}`, of the type on which the parts agree; that of `{}` isn't known
unfoldable pub set_of : List Node → ℕ → List Typed → Answer Typed
set_of n line parts = all_agreed n kind.Unknown parts >>= (λ k. Ok (typed_as line (core.Set (map (λ (part : Typed). part.core) parts)) k))

-- the type of a function of a set: `count` has a number, `only` what the set has, and `min` and `max` take numbers or texts
unfoldable pub call_kind : List Node → Function → Typed → Answer Kind
call_kind n function.Count s = Ok kind.Number
call_kind n function.Only s = Ok s.kind
call_kind n function.Min s = ordered n s
call_kind n function.Max s = ordered n s

-- its resolved form
abbrev pub call_core : Function → Core → Core
call_core function.Count s = core.Count s
call_core function.Only s = core.Only s
call_core function.Min s = core.Extreme extremum.Min s
call_core function.Max s = core.Extreme extremum.Max s

-- a function of a set
unfoldable pub called : List Node → ℕ → Function → Typed → Answer Typed
called n line f s = call_kind n f s >>= (λ k. Ok (typed_as line (call_core f s.core) k))

-- a condition that was left out: it always holds
abbrev pub no_condition : ℕ → Typed
no_condition line = typed_as line (core.Truth true) kind.Truth

-- the type of a comprehension, that of its body, and of a sum, a number of numbers; the condition is a truth
unfoldable pub gathered_kind : List Node → Gathering → Typed → Typed → Answer Kind
gathered_kind n gathering.Union body condition = agreed n kind.Truth condition >>= (λ k. Ok body.kind)
gathered_kind n gathering.Sum body condition = agreed n kind.Number body >>= (λ k. agreed n kind.Truth condition >>= (λ l. Ok kind.Number))

-- its resolved form
abbrev pub gathered_core : Gathering → Core → Core → Core → Core
gathered_core gathering.Union body source condition = core.Comprehension body source condition
gathered_core gathering.Sum body source condition = core.Sum body source condition

-- `{f : x in s | p}` and `sum(f : x in s | p)`
unfoldable pub gathered : List Node → ℕ → Gathering → Typed → Typed → Typed → Answer Typed
gathered n line g body source condition =
    gathered_kind n g body condition >>= (λ k. Ok (typed_as line (gathered_core g body.core source.core condition.core) k))

-- a test of a set, as formulas with names resolved have it
abbrev pub quantifier_of : Quantifier → CoreQuantifier
quantifier_of quantifier.Any = core_quantifier.Any
quantifier_of quantifier.All = core_quantifier.All

-- `any(x in s | p)`, `all(x in s | p)`, a truth of a truth
unfoldable pub tested : List Node → ℕ → Quantifier → Typed → Typed → Answer Typed
tested n line q source condition =
    agreed n kind.Truth condition >>= (λ k. Ok (typed_as line (core.Quantify (quantifier_of q) source.core condition.core) kind.Truth))

-- The text that a formula is printed as.
use Rattle.std.specs.Prelude.{ℕ, List, [], ◌∷◌, ◌++◌, Bool, true, false, ◌==◌, if◌then◌else◌, codes, flat_map}
use Rattle.std.specs.List.{join_by}
use Rattle.std.specs.Fmt.{signed_decimal}
use Rattle.sheet_syntax_trees.specs.declared.operators.Operator.{Operator}
use Rattle.sheet_syntax_trees.specs.declared.operators.Operator.TheVariants as operator
use Rattle.sheet_syntax_trees.specs.declared.operators.Function.{Function}
use Rattle.sheet_syntax_trees.specs.declared.operators.Function.TheVariants as function
use Rattle.sheet_syntax_trees.specs.declared.operators.Gathering.{Gathering}
use Rattle.sheet_syntax_trees.specs.declared.operators.Gathering.TheVariants as gathering
use Rattle.sheet_syntax_trees.specs.declared.operators.Quantifier.{Quantifier}
use Rattle.sheet_syntax_trees.specs.declared.operators.Quantifier.TheVariants as quantifier
use Rattle.sheet_syntax_trees.specs.declared.tree.Tree.{Tree, Number, Text, Truth, Root, This, Caller, Operator as OperatorWord, Name, Child', Up', Negate', Not', Binary', If', Set', Call', Gather', GatherWhere', Test', Row_of-Tree, end_of-Tree as end, more_of-Tree as more}

-- a byte of a text behind a backslash where it needs one: a quote, a backslash, and n for LF
abbrev pub escape : ℕ → List ℕ
escape c = if c == 34 then codes "\\\"" else (if c == 92 then codes "\\\\" else (if c == 10 then codes "\\n" else c ∷ []))

-- a text in its quotes
abbrev pub quoted : List ℕ → List ℕ
quoted content = codes "\"" ++ flat_map escape content ++ codes "\""

-- how a truth value is printed
abbrev pub truth_text : Bool → List ℕ
truth_text true = codes "true"
truth_text false = codes "false"

-- how an operator is printed
abbrev pub operator_text : Operator → List ℕ
operator_text operator.Or = codes "or"
operator_text operator.And = codes "and"
operator_text operator.Equals = codes "="
operator_text operator.NotEquals = codes "!="
operator_text operator.Less = codes "<"
operator_text operator.AtMost = codes "<="
operator_text operator.Greater = codes ">"
operator_text operator.AtLeast = codes ">="
operator_text operator.In = codes "in"
operator_text operator.Union = codes "union"
operator_text operator.Intersect = codes "intersect"
operator_text operator.Except = codes "except"
operator_text operator.Plus = codes "+"
operator_text operator.Minus = codes "-"
operator_text operator.Join = codes "&"
operator_text operator.Times = codes "*"
operator_text operator.Divide = codes "/"
operator_text operator.Remainder = codes "%"

-- how a function of one set is printed
abbrev pub function_text : Function → List ℕ
function_text function.Count = codes "count"
function_text function.Only = codes "only"
function_text function.Min = codes "min"
function_text function.Max = codes "max"

-- how a test of a set is printed
abbrev pub quantifier_text : Quantifier → List ℕ
quantifier_text quantifier.Any = codes "any"
quantifier_text quantifier.All = codes "all"

-- a text in parentheses
abbrev pub in_parentheses : List ℕ → List ℕ
in_parentheses text = codes "(" ++ text ++ codes ")"

-- a text in braces
abbrev pub in_braces : List ℕ → List ℕ
in_braces text = codes "{" ++ text ++ codes "}"

-- the brackets of a comprehension and of a sum
abbrev pub opening_text : Gathering → List ℕ
opening_text gathering.Union = codes "{"
opening_text gathering.Sum = codes "sum("

-- the bracket that closes a comprehension or a sum
abbrev pub closing_text : Gathering → List ℕ
closing_text gathering.Union = codes "}"
closing_text gathering.Sum = codes ")"

-- a formula, its variable and the set that the variable goes through
abbrev pub bound_text : List ℕ → List ℕ → List ℕ → List ℕ
bound_text body name source = body ++ codes " : " ++ name ++ codes " in " ++ source

-- whether a formula stands in parentheses as an operand: an if, a not, a unary - and a form with an operator of two operands do
abbrev pub is_enclosed : Tree → Bool
is_enclosed (Negate' _ _ _) = true
is_enclosed (Not' _ _ _) = true
is_enclosed (Binary' _ _ _ _ _ _) = true
is_enclosed (If' _ _ _ _ _ _ _) = true
is_enclosed _ = false

-- an operand that is printed so
abbrev pub operand : Tree → List ℕ → List ℕ
operand e text = if is_enclosed e then in_parentheses text else text

abbrev mutual
  -- One space stands round each operator of two operands, behind not and if, round then and else, behind each comma, and
  -- round the colon, the word in and the bar of a comprehension. There is none inside brackets, round a dot, behind a unary -
  -- and before the bracket of a function.
  pub formula_text : Tree → List ℕ
  formula_text (Number _ n) = signed_decimal n
  formula_text (Text _ content) = quoted content
  formula_text (Truth _ b) = truth_text b
  formula_text (Root _) = codes "$"
  formula_text (This _) = codes "this"
  formula_text (Caller _) = codes "caller"
  formula_text (OperatorWord _) = codes "operator"
  formula_text (Name _ name) = name
  formula_text (Child' _ _ (more e end) name) = operand e (formula_text e) ++ codes "." ++ name
  formula_text (Up' _ _ (more e end)) = operand e (formula_text e) ++ codes ".up"
  formula_text (Negate' _ _ (more e end)) = codes "-" ++ operand e (formula_text e)
  formula_text (Not' _ _ (more e end)) = codes "not " ++ operand e (formula_text e)
  formula_text (Binary' _ op _ (more a end) _ (more b end)) =
      operand a (formula_text a) ++ codes " " ++ operator_text op ++ codes " " ++ operand b (formula_text b)
  formula_text (If' _ _ (more c end) _ (more a end) _ (more b end)) =
      codes "if " ++ formula_text c ++ codes " then " ++ formula_text a ++ codes " else " ++ formula_text b
  formula_text (Set' _ _ parts) = in_braces (join_by (λ part. part) (codes ", ") (formula_texts parts))
  formula_text (Call' _ f _ (more e end)) = function_text f ++ in_parentheses (formula_text e)
  formula_text (Gather' _ g _ (more f end) x _ (more s end)) = opening_text g ++ bound_text (formula_text f) x (formula_text s) ++ closing_text g
  formula_text (GatherWhere' _ g _ (more f end) x _ (more s end) _ (more p end)) =
      opening_text g ++ bound_text (formula_text f) x (formula_text s) ++ codes " | " ++ formula_text p ++ closing_text g
  formula_text (Test' _ q x _ (more s end) _ (more p end)) =
      quantifier_text q ++ in_parentheses (x ++ codes " in " ++ formula_text s ++ codes " | " ++ formula_text p)

  -- each part, in order
  pub formula_texts : {m : _} → Row_of-Tree m → List (List ℕ)
  formula_texts end = []
  formula_texts (more e rest) = formula_text e ∷ formula_texts rest

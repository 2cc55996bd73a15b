-- Which token of formulas a token is.
use Rattle.std.specs.Prelude.{ℕ, List, [], ◌∷◌, Bool, ◌==◌, if◌then◌else◌, bytes_eq, codes}
use Rattle.sheet_syntax_trees.specs.declared.token.TokenKind.{TokenKind}
use Rattle.sheet_syntax_trees.specs.declared.token.TokenKind.TheVariants as kind
use Rattle.sheet_syntax_trees.specs.declared.sign.Sign.{Sign}
use Rattle.sheet_syntax_trees.specs.declared.sign.Sign.TheVariants as sign

-- the signs of symbols
abbrev pub symbols : List (List ℕ × Sign)
symbols =
    (codes "$", sign.Root) ∷ (codes ".", sign.Dot) ∷ (codes ",", sign.Comma) ∷ (codes "(", sign.Open) ∷ (codes ")", sign.Close)
    ∷ (codes "{", sign.OpenBrace) ∷ (codes "}", sign.CloseBrace) ∷ (codes ":", sign.Colon) ∷ (codes "|", sign.Bar) ∷ (codes "=", sign.Equals)
    ∷ (codes "!=", sign.NotEquals) ∷ (codes "<", sign.Less) ∷ (codes "<=", sign.AtMost) ∷ (codes ">", sign.Greater) ∷ (codes ">=", sign.AtLeast)
    ∷ (codes "+", sign.Plus) ∷ (codes "-", sign.Minus) ∷ (codes "*", sign.Times) ∷ (codes "/", sign.Divide) ∷ (codes "%", sign.Remainder)
    ∷ (codes "&", sign.Join) ∷ []

-- the signs of reserved words
abbrev pub words : List (List ℕ × Sign)
words =
    (codes "all", sign.All) ∷ (codes "and", sign.And) ∷ (codes "any", sign.Any) ∷ (codes "caller", sign.Caller) ∷ (codes "count", sign.Count)
    ∷ (codes "else", sign.Else) ∷ (codes "except", sign.Except) ∷ (codes "false", sign.False) ∷ (codes "if", sign.If) ∷ (codes "in", sign.In)
    ∷ (codes "intersect", sign.Intersect) ∷ (codes "max", sign.Max) ∷ (codes "min", sign.Min) ∷ (codes "not", sign.Not) ∷ (codes "only", sign.Only)
    ∷ (codes "operator", sign.Operator) ∷ (codes "or", sign.Or) ∷ (codes "sum", sign.Sum) ∷ (codes "then", sign.Then) ∷ (codes "this", sign.This)
    ∷ (codes "true", sign.True) ∷ (codes "union", sign.Union) ∷ (codes "up", sign.Up) ∷ []

-- the sign that a table has for a spelling
abbrev pub sign_among : List (List ℕ × Sign) → List ℕ → Sign
sign_among [] word = sign.Other
sign_among (row ∷ rows) word = if bytes_eq row.0 word then row.1 else sign_among rows word

-- the sign of a token
abbrev pub sign_of : TokenKind → Sign
sign_of (kind.Name name) = sign.Name
sign_of (kind.Reserved word) = sign_among words word
sign_of (kind.Number n) = sign.Number
sign_of (kind.Text text) = sign.Text
sign_of (kind.Symbol symbol) = sign_among symbols symbol

-- a number for each sign, by which they are compared
abbrev pub sign_rank : Sign → ℕ
sign_rank sign.Other = 0
sign_rank sign.Name = 1
sign_rank sign.Number = 2
sign_rank sign.Text = 3
sign_rank sign.Root = 4
sign_rank sign.Dot = 5
sign_rank sign.Comma = 6
sign_rank sign.Open = 7
sign_rank sign.Close = 8
sign_rank sign.OpenBrace = 9
sign_rank sign.CloseBrace = 10
sign_rank sign.Colon = 11
sign_rank sign.Bar = 12
sign_rank sign.Equals = 13
sign_rank sign.NotEquals = 14
sign_rank sign.Less = 15
sign_rank sign.AtMost = 16
sign_rank sign.Greater = 17
sign_rank sign.AtLeast = 18
sign_rank sign.Plus = 19
sign_rank sign.Minus = 20
sign_rank sign.Times = 21
sign_rank sign.Divide = 22
sign_rank sign.Remainder = 23
sign_rank sign.Join = 24
sign_rank sign.All = 25
sign_rank sign.And = 26
sign_rank sign.Any = 27
sign_rank sign.Caller = 28
sign_rank sign.Count = 29
sign_rank sign.Else = 30
sign_rank sign.Except = 31
sign_rank sign.False = 32
sign_rank sign.If = 33
sign_rank sign.In = 34
sign_rank sign.Intersect = 35
sign_rank sign.Max = 36
sign_rank sign.Min = 37
sign_rank sign.Not = 38
sign_rank sign.Only = 39
sign_rank sign.Operator = 40
sign_rank sign.Or = 41
sign_rank sign.Sum = 42
sign_rank sign.Then = 43
sign_rank sign.This = 44
sign_rank sign.True = 45
sign_rank sign.Union = 46
sign_rank sign.Up = 47

-- whether two signs are the same
abbrev pub same_sign : Sign → Sign → Bool
same_sign a b = sign_rank a == sign_rank b

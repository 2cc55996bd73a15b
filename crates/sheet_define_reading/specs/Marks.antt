-- Which token of definitions a token is.
use Rattle.std.specs.Prelude.{ℕ, List, [], ◌∷◌, Bool, ◌==◌, if◌then◌else◌, bytes_eq, codes}
use Rattle.sheet_syntax_trees.specs.declared.token.TokenKind.{TokenKind}
use Rattle.sheet_syntax_trees.specs.declared.token.TokenKind.TheVariants as kind
use Rattle.sheet_define_reading.specs.declared.mark.Mark.{Mark}
use Rattle.sheet_define_reading.specs.declared.mark.Mark.TheVariants as mark

-- the marks of reserved words
abbrev pub words : List (List ℕ × Mark)
words =
    (codes "add", mark.Add) ∷ (codes "allow", mark.Allow) ∷ (codes "callers", mark.Callers) ∷ (codes "check", mark.Check) ∷ (codes "delete", mark.Delete)
    ∷ (codes "else", mark.Else) ∷ (codes "false", mark.False) ∷ (codes "for", mark.For) ∷ (codes "formula", mark.Formula) ∷ (codes "from", mark.From)
    ∷ (codes "if", mark.If) ∷ (codes "in", mark.In) ∷ (codes "let", mark.Let) ∷ (codes "new", mark.New) ∷ (codes "number", mark.Number)
    ∷ (codes "object", mark.Object) ∷ (codes "one", mark.One) ∷ (codes "procedure", mark.Procedure) ∷ (codes "remove", mark.Remove) ∷ (codes "reply", mark.Reply)
    ∷ (codes "set", mark.Set) ∷ (codes "show", mark.Show) ∷ (codes "state", mark.State) ∷ (codes "table", mark.Table) ∷ (codes "text", mark.Text)
    ∷ (codes "to", mark.To) ∷ (codes "true", mark.True) ∷ (codes "truth", mark.Truth) ∷ (codes "up", mark.Up) ∷ (codes "view", mark.View) ∷ []

-- the marks of symbols
abbrev pub symbols : List (List ℕ × Mark)
symbols =
    (codes "(", mark.Open) ∷ (codes ")", mark.Close) ∷ (codes "{", mark.OpenBrace) ∷ (codes "}", mark.CloseBrace) ∷ (codes ":", mark.Colon)
    ∷ (codes ",", mark.Comma) ∷ (codes ".", mark.Dot) ∷ (codes "=", mark.Equals) ∷ (codes "-", mark.Minus) ∷ []

-- the mark that a table has for a spelling
abbrev pub mark_among : List (List ℕ × Mark) → List ℕ → Mark
mark_among [] word = mark.Other
mark_among (row ∷ rows) word = if bytes_eq row.0 word then row.1 else mark_among rows word

-- the mark of a token
abbrev pub mark_of : TokenKind → Mark
mark_of (kind.Name name) = mark.Other
mark_of (kind.Reserved word) = mark_among words word
mark_of (kind.Number n) = mark.Other
mark_of (kind.Text text) = mark.Other
mark_of (kind.Symbol symbol) = mark_among symbols symbol

-- a number for each mark, by which they are compared
abbrev pub mark_rank : Mark → ℕ
mark_rank mark.Other = 0
mark_rank mark.Add = 1
mark_rank mark.Allow = 2
mark_rank mark.Callers = 3
mark_rank mark.Check = 4
mark_rank mark.Delete = 5
mark_rank mark.Else = 6
mark_rank mark.False = 7
mark_rank mark.For = 8
mark_rank mark.Formula = 9
mark_rank mark.From = 10
mark_rank mark.If = 11
mark_rank mark.In = 12
mark_rank mark.Let = 13
mark_rank mark.New = 14
mark_rank mark.Number = 15
mark_rank mark.Object = 16
mark_rank mark.One = 17
mark_rank mark.Procedure = 18
mark_rank mark.Remove = 19
mark_rank mark.Reply = 20
mark_rank mark.Set = 21
mark_rank mark.Show = 22
mark_rank mark.State = 23
mark_rank mark.Table = 24
mark_rank mark.Text = 25
mark_rank mark.To = 26
mark_rank mark.True = 27
mark_rank mark.Truth = 28
mark_rank mark.Up = 29
mark_rank mark.View = 30
mark_rank mark.Open = 31
mark_rank mark.Close = 32
mark_rank mark.OpenBrace = 33
mark_rank mark.CloseBrace = 34
mark_rank mark.Colon = 35
mark_rank mark.Comma = 36
mark_rank mark.Dot = 37
mark_rank mark.Equals = 38
mark_rank mark.Minus = 39

-- whether two marks are the same
abbrev pub same_mark : Mark → Mark → Bool
same_mark a b = mark_rank a == mark_rank b

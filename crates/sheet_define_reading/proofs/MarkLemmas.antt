-- Marks are told apart by their numbers, and each is spelled in one way.
use Rattle.std.proofs.Common.{◌≡◌, ◌<◌, ℕ, List, [], ◌∷◌, get_or, true, false, refl, sym, ap, ◌∙◌, subst, arith, eq-eqb, inl, inr}
use Rattle.std.specs.Prelude.{Bool, codes, bytes_eq, if◌then◌else◌, ◌⊎◌}
use Rattle.std.proofs.lemmas.Bool.{eqb-true, cases_Bool}
use Rattle.std.proofs.lemmas.Slice.Eq.{bytes_eq-Decides}
use Rattle.sheet_syntax_trees.specs.declared.token.Token.{Token}
use Rattle.sheet_syntax_trees.specs.declared.token.TokenKind.{TokenKind}
use Rattle.sheet_syntax_trees.specs.declared.token.TokenKind.TheVariants as kind
use Rattle.sheet_define_reading.specs.declared.mark.Mark.{Mark}
use Rattle.sheet_define_reading.specs.declared.mark.Mark.TheVariants as mark
use Rattle.sheet_define_reading.specs.Marks.{words, symbols, mark_among, mark_of, mark_rank, same_mark}

abbrev marks : List Mark
marks = mark.Other ∷ mark.Add ∷ mark.Allow ∷ mark.Callers ∷ mark.Check ∷ mark.Delete ∷ mark.Else ∷ mark.False ∷ mark.For ∷ mark.Formula ∷ mark.From ∷ mark.If ∷
    mark.In ∷ mark.Let ∷ mark.New ∷ mark.Number ∷ mark.Object ∷ mark.One ∷ mark.Procedure ∷ mark.Remove ∷ mark.Reply ∷ mark.Set ∷ mark.Show ∷ mark.State ∷
    mark.Table ∷ mark.Text ∷ mark.To ∷ mark.True ∷ mark.Truth ∷ mark.Up ∷ mark.View ∷ mark.Open ∷ mark.Close ∷ mark.OpenBrace ∷ mark.CloseBrace ∷ mark.Colon ∷
    mark.Comma ∷ mark.Dot ∷ mark.Equals ∷ mark.Minus ∷ []

abbrev numbered : ℕ → Mark
numbered n = get_or marks n mark.Other

numbered-rank : (m : Mark) → numbered (mark_rank m) ≡ m
numbered-rank mark.Other = refl
numbered-rank mark.Add = refl
numbered-rank mark.Allow = refl
numbered-rank mark.Callers = refl
numbered-rank mark.Check = refl
numbered-rank mark.Delete = refl
numbered-rank mark.Else = refl
numbered-rank mark.False = refl
numbered-rank mark.For = refl
numbered-rank mark.Formula = refl
numbered-rank mark.From = refl
numbered-rank mark.If = refl
numbered-rank mark.In = refl
numbered-rank mark.Let = refl
numbered-rank mark.New = refl
numbered-rank mark.Number = refl
numbered-rank mark.Object = refl
numbered-rank mark.One = refl
numbered-rank mark.Procedure = refl
numbered-rank mark.Remove = refl
numbered-rank mark.Reply = refl
numbered-rank mark.Set = refl
numbered-rank mark.Show = refl
numbered-rank mark.State = refl
numbered-rank mark.Table = refl
numbered-rank mark.Text = refl
numbered-rank mark.To = refl
numbered-rank mark.True = refl
numbered-rank mark.Truth = refl
numbered-rank mark.Up = refl
numbered-rank mark.View = refl
numbered-rank mark.Open = refl
numbered-rank mark.Close = refl
numbered-rank mark.OpenBrace = refl
numbered-rank mark.CloseBrace = refl
numbered-rank mark.Colon = refl
numbered-rank mark.Comma = refl
numbered-rank mark.Dot = refl
numbered-rank mark.Equals = refl
numbered-rank mark.Minus = refl

pub same_is : (a b : Mark) → same_mark a b ≡ true → a ≡ b
same_is a b e = sym (numbered-rank a) ∙ ap numbered (eqb-true (mark_rank a) (mark_rank b) e) ∙ numbered-rank b

pub same_self : (a b : Mark) → a ≡ b → same_mark a b ≡ true
same_self a b e = eq-eqb (mark_rank a) (mark_rank b) (ap mark_rank e)

pub other_mark : (a b : Mark) → (a ≡ b → ⊥) → same_mark a b ≡ false
other_mark a b other = elim (cases_Bool (same_mark a b)) [ inl same ↦ absurd (other (same_is a b same)) | inr differ ↦ differ ]

-- the kind of the token that has a mark; of no mark, a number
abbrev pub spelling : Mark → TokenKind
spelling mark.Other = kind.Symbol []
spelling mark.Add = kind.Reserved (codes "add")
spelling mark.Allow = kind.Reserved (codes "allow")
spelling mark.Callers = kind.Reserved (codes "callers")
spelling mark.Check = kind.Reserved (codes "check")
spelling mark.Delete = kind.Reserved (codes "delete")
spelling mark.Else = kind.Reserved (codes "else")
spelling mark.False = kind.Reserved (codes "false")
spelling mark.For = kind.Reserved (codes "for")
spelling mark.Formula = kind.Reserved (codes "formula")
spelling mark.From = kind.Reserved (codes "from")
spelling mark.If = kind.Reserved (codes "if")
spelling mark.In = kind.Reserved (codes "in")
spelling mark.Let = kind.Reserved (codes "let")
spelling mark.New = kind.Reserved (codes "new")
spelling mark.Number = kind.Reserved (codes "number")
spelling mark.Object = kind.Reserved (codes "object")
spelling mark.One = kind.Reserved (codes "one")
spelling mark.Procedure = kind.Reserved (codes "procedure")
spelling mark.Remove = kind.Reserved (codes "remove")
spelling mark.Reply = kind.Reserved (codes "reply")
spelling mark.Set = kind.Reserved (codes "set")
spelling mark.Show = kind.Reserved (codes "show")
spelling mark.State = kind.Reserved (codes "state")
spelling mark.Table = kind.Reserved (codes "table")
spelling mark.Text = kind.Reserved (codes "text")
spelling mark.To = kind.Reserved (codes "to")
spelling mark.True = kind.Reserved (codes "true")
spelling mark.Truth = kind.Reserved (codes "truth")
spelling mark.Up = kind.Reserved (codes "up")
spelling mark.View = kind.Reserved (codes "view")
spelling mark.Open = kind.Symbol (codes "(")
spelling mark.Close = kind.Symbol (codes ")")
spelling mark.OpenBrace = kind.Symbol (codes "{")
spelling mark.CloseBrace = kind.Symbol (codes "}")
spelling mark.Colon = kind.Symbol (codes ":")
spelling mark.Comma = kind.Symbol (codes ",")
spelling mark.Dot = kind.Symbol (codes ".")
spelling mark.Equals = kind.Symbol (codes "=")
spelling mark.Minus = kind.Symbol (codes "-")

-- each row of a table is a spelling of its mark
data Spelled (make : List ℕ → TokenKind) : List (List ℕ × Mark) → Type 0 where
  no_rows : Spelled make []
  more_rows : (row : List ℕ × Mark) (rows : List (List ℕ × Mark)) → make row.0 ≡ spelling row.1 → Spelled make rows → Spelled make (row ∷ rows)

row_spelled : (make : List ℕ → TokenKind) (row : List ℕ × Mark) → make row.0 ≡ spelling row.1 → (word : List ℕ) (m : Mark) → (b : Bool) →
    bytes_eq row.0 word ≡ b → (other : Mark) → (if b then row.1 else other) ≡ m
    → (other ≡ m → make word ≡ spelling m) → make word ≡ spelling m
row_spelled make row is word m true same other e more = ap make (sym ((bytes_eq-Decides row.0 word).0 same)) ∙ is ∙ ap spelling e
row_spelled make row is word m false differ other e more = more e

among_spelled : (make : List ℕ → TokenKind) (rows : List (List ℕ × Mark)) → Spelled make rows → (word : List ℕ) (m : Mark) → mark_among rows word ≡ m →
    (m ≡ mark.Other → ⊥) → make word ≡ spelling m
among_spelled make _ no_rows word m e other = absurd (other (sym e))
among_spelled make _ (more_rows row rows is more) word m e other =
    row_spelled make row is word m (bytes_eq row.0 word) refl (mark_among rows word) e (λ h. among_spelled make rows more word m h other)

words_spelled : Spelled kind.Reserved words
words_spelled = more_rows _ _ refl
    (more_rows _ _ refl
    (more_rows _ _ refl
    (more_rows _ _ refl
    (more_rows _ _ refl
    (more_rows _ _ refl
    (more_rows _ _ refl
    (more_rows _ _ refl
    (more_rows _ _ refl
    (more_rows _ _ refl
    (more_rows _ _ refl
    (more_rows _ _ refl
    (more_rows _ _ refl
    (more_rows _ _ refl
    (more_rows _ _ refl
    (more_rows _ _ refl
    (more_rows _ _ refl
    (more_rows _ _ refl
    (more_rows _ _ refl
    (more_rows _ _ refl
    (more_rows _ _ refl
    (more_rows _ _ refl
    (more_rows _ _ refl
    (more_rows _ _ refl
    (more_rows _ _ refl (more_rows _ _ refl (more_rows _ _ refl (more_rows _ _ refl (more_rows _ _ refl (more_rows _ _ refl no_rows)))))))))))))))))))))))))))))

symbols_spelled : Spelled kind.Symbol symbols
symbols_spelled =
    more_rows _ _ refl
    (more_rows _ _ refl
    (more_rows _ _ refl (more_rows _ _ refl (more_rows _ _ refl (more_rows _ _ refl (more_rows _ _ refl (more_rows _ _ refl (more_rows _ _ refl no_rows))))))))

spelled_mark : (k : TokenKind) (m : Mark) → mark_of k ≡ m → (m ≡ mark.Other → ⊥) → k ≡ spelling m
spelled_mark (kind.Name name) m e other = absurd (other (sym e))
spelled_mark (kind.Reserved word) m e other = among_spelled kind.Reserved words words_spelled word m e other
spelled_mark (kind.Number n) m e other = absurd (other (sym e))
spelled_mark (kind.Text text) m e other = absurd (other (sym e))
spelled_mark (kind.Symbol symbol) m e other = among_spelled kind.Symbol symbols symbols_spelled symbol m e other

-- a token of a mark is spelled so
pub spelled : (k : TokenKind) (m : Mark) → mark_of k ≡ m → 0 < mark_rank m → k ≡ spelling m
spelled k m e some = spelled_mark k m e (λ other. let none : mark_rank m ≡ 0 = ap mark_rank other in omega arith)

-- Signs are told apart by their numbers.
use Rattle.std.proofs.Common.{◌≡◌, ℕ, List, [], ◌∷◌, get_or, true, refl, sym, ap, ◌∙◌}
use Rattle.std.proofs.lemmas.Bool.{eqb-true}
use Rattle.sheet_syntax_trees.specs.declared.sign.Sign.{Sign}
use Rattle.sheet_syntax_trees.specs.declared.sign.Sign.TheVariants as sign
use Rattle.sheet_syntax_trees.specs.Signs.{sign_rank, same_sign}

abbrev signs : List Sign
signs = sign.Other ∷ sign.Name ∷ sign.Number ∷ sign.Text ∷ sign.Root ∷ sign.Dot ∷ sign.Comma ∷ sign.Open ∷ sign.Close ∷ sign.OpenBrace ∷ sign.CloseBrace ∷
    sign.Colon ∷ sign.Bar ∷ sign.Equals ∷ sign.NotEquals ∷ sign.Less ∷ sign.AtMost ∷ sign.Greater ∷ sign.AtLeast ∷ sign.Plus ∷ sign.Minus ∷ sign.Times ∷
    sign.Divide ∷ sign.Remainder ∷ sign.Join ∷ sign.All ∷ sign.And ∷ sign.Any ∷ sign.Caller ∷ sign.Count ∷ sign.Else ∷ sign.Except ∷ sign.False ∷ sign.If ∷
    sign.In ∷ sign.Intersect ∷ sign.Max ∷ sign.Min ∷ sign.Not ∷ sign.Only ∷ sign.Operator ∷ sign.Or ∷ sign.Sum ∷ sign.Then ∷ sign.This ∷ sign.True ∷ sign.Union
    ∷ sign.Up ∷ []

abbrev numbered : ℕ → Sign
numbered n = get_or signs n sign.Other

numbered-rank : (s : Sign) → numbered (sign_rank s) ≡ s
numbered-rank sign.Other = refl
numbered-rank sign.Name = refl
numbered-rank sign.Number = refl
numbered-rank sign.Text = refl
numbered-rank sign.Root = refl
numbered-rank sign.Dot = refl
numbered-rank sign.Comma = refl
numbered-rank sign.Open = refl
numbered-rank sign.Close = refl
numbered-rank sign.OpenBrace = refl
numbered-rank sign.CloseBrace = refl
numbered-rank sign.Colon = refl
numbered-rank sign.Bar = refl
numbered-rank sign.Equals = refl
numbered-rank sign.NotEquals = refl
numbered-rank sign.Less = refl
numbered-rank sign.AtMost = refl
numbered-rank sign.Greater = refl
numbered-rank sign.AtLeast = refl
numbered-rank sign.Plus = refl
numbered-rank sign.Minus = refl
numbered-rank sign.Times = refl
numbered-rank sign.Divide = refl
numbered-rank sign.Remainder = refl
numbered-rank sign.Join = refl
numbered-rank sign.All = refl
numbered-rank sign.And = refl
numbered-rank sign.Any = refl
numbered-rank sign.Caller = refl
numbered-rank sign.Count = refl
numbered-rank sign.Else = refl
numbered-rank sign.Except = refl
numbered-rank sign.False = refl
numbered-rank sign.If = refl
numbered-rank sign.In = refl
numbered-rank sign.Intersect = refl
numbered-rank sign.Max = refl
numbered-rank sign.Min = refl
numbered-rank sign.Not = refl
numbered-rank sign.Only = refl
numbered-rank sign.Operator = refl
numbered-rank sign.Or = refl
numbered-rank sign.Sum = refl
numbered-rank sign.Then = refl
numbered-rank sign.This = refl
numbered-rank sign.True = refl
numbered-rank sign.Union = refl
numbered-rank sign.Up = refl

pub same_is : (a b : Sign) → same_sign a b ≡ true → a ≡ b
same_is a b e = sym (numbered-rank a) ∙ ap numbered (eqb-true (sign_rank a) (sign_rank b) e) ∙ numbered-rank b

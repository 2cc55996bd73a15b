-- Reading a formula from the left: what stands at the front of a list of tokens, and the tokens behind it.
-- That these are the formulas of the productions is proved.
use Rattle.std.specs.Prelude.{ℕ, ◌+◌, ◌-◌, zero, suc, max, List, [], ◌∷◌, ◌++◌, length, Bool, true, false, ◌==◌, nat_lt, if◌then◌else◌, Option, Some, None, Result, Ok, Err}
use Rattle.sheet_syntax_trees.specs.declared.token.Token.{Token}
use Rattle.sheet_syntax_trees.specs.declared.token.TokenKind.{TokenKind}
use Rattle.sheet_syntax_trees.specs.declared.token.TokenKind.TheVariants as kind
use Rattle.sheet_syntax_trees.specs.declared.token.SyntaxRefusal.{SyntaxRefusal}
use Rattle.sheet_syntax_trees.specs.declared.token.SyntaxRefusal.TheVariants.{Expected, TooNested}
use Rattle.sheet_syntax_trees.specs.declared.sign.Sign.{Sign}
use Rattle.sheet_syntax_trees.specs.declared.sign.Sign.TheVariants as sign
use Rattle.sheet_syntax_trees.specs.declared.operators.Operator.{Operator}
use Rattle.sheet_syntax_trees.specs.declared.operators.Level.{Level}
use Rattle.sheet_syntax_trees.specs.declared.operators.Level.TheVariants as level
use Rattle.sheet_syntax_trees.specs.declared.operators.Prefix.{Prefix}
use Rattle.sheet_syntax_trees.specs.declared.operators.Prefix.TheVariants as prefix
use Rattle.sheet_syntax_trees.specs.declared.operators.Function.{Function}
use Rattle.sheet_syntax_trees.specs.declared.operators.Function.TheVariants as function
use Rattle.sheet_syntax_trees.specs.declared.operators.Gathering.{Gathering}
use Rattle.sheet_syntax_trees.specs.declared.operators.Gathering.TheVariants as gathering
use Rattle.sheet_syntax_trees.specs.declared.operators.Quantifier.{Quantifier}
use Rattle.sheet_syntax_trees.specs.declared.operators.Quantifier.TheVariants as quantifier
use Rattle.sheet_syntax_trees.specs.declared.tree.Tree.{Tree}
use Rattle.sheet_syntax_trees.specs.declared.tree.Tree.TheVariants as tree
use Rattle.sheet_syntax_trees.specs.declared.tree.Formed.{Formed}
use Rattle.sheet_syntax_trees.specs.Signs.{sign_of, same_sign}
use Rattle.sheet_syntax_trees.specs.Operators.{operator_among, repeats, prefix_sign, prefixed}

-- what is read, or why it is refused
abbrev pub Answer : Type 0 → Type 0
Answer A = Result A SyntaxRefusal

-- reads a formula at the front of tokens, and gives the tokens behind it
abbrev pub Reader : Type 0
Reader = List Token → Answer (Formed × List Token)

infixl 10 ◌>>=◌
abbrev pub ◌>>=◌ : {A B : Type 0} → Answer A → (A → Answer B) → Answer B
(Ok x) >>= f = f x
(Err e) >>= f = Err e

-- How formulas are read: the greatest depth, the text's length, how many brackets may still be opened, and how an
-- expression inside a bracket and one inside an if are read.
pub record Setting : Type 0 where
  pub limit : ℕ
  pub end : ℕ
  pub room : ℕ
  pub inner : Reader
  pub nested : Reader

-- where the first token begins, or the text ends
abbrev pub offset : ℕ → List Token → ℕ
offset end [] = end
offset end (t ∷ ts) = t.start

-- the line of the first token
abbrev pub line_of : List Token → ℕ
line_of [] = 0
line_of (t ∷ ts) = t.line

-- the sign of the first token
abbrev pub sign_at : List Token → Sign
sign_at [] = sign.Other
sign_at (t ∷ ts) = sign_of t.kind

-- the tokens behind a first one of that sign
abbrev pub after : Sign → List Token → Option (List Token)
after s [] = None
after s (t ∷ ts) = if same_sign (sign_of t.kind) s then Some ts else None

-- what was found, or the refusal of the token at that offset
abbrev pub or_expected : {A : Type 0} → ℕ → Option A → Answer A
or_expected at (Some x) = Ok x
or_expected at None = Err (Expected at)

-- the tokens behind a first one of that sign; else that one is refused
abbrev pub expect : ℕ → Sign → List Token → Answer (List Token)
expect end s ts = or_expected (offset end ts) (after s ts)

-- the name that a token is
abbrev pub name_of : TokenKind → Option (List ℕ)
name_of (kind.Name name) = Some name
name_of (kind.Reserved word) = None
name_of (kind.Number n) = None
name_of (kind.Text text) = None
name_of (kind.Symbol symbol) = None

-- what is read, with the tokens behind it
abbrev pub with_rest : {A : Type 0} → List Token → Answer A → Answer (A × List Token)
with_rest rest (Ok x) = Ok (x, rest)
with_rest rest (Err e) = Err e

-- the name at the front, and the tokens behind it
abbrev pub name_at : ℕ → List Token → Answer (List ℕ × List Token)
name_at end [] = Err (Expected end)
name_at end (t ∷ ts) = with_rest ts (or_expected t.start (name_of t.kind))

-- a form that begins there, whose deepest part has that depth
abbrev pub made : ℕ → ℕ → Tree → ℕ → Answer Formed
made limit at form deepest = if nat_lt deepest limit then Ok (record { tree = form; depth = deepest + 1 }) else Err (TooNested at)

-- a bracket is opened
abbrev pub opened : Setting → Sign → List Token → Answer (List Token)
opened s bracket ts = expect s.end bracket ts >>= (λ rest. if s.room == 0 then Err (TooNested (offset s.end ts)) else Ok rest)

-- a formula that is one token
abbrev pub leaf_of : ℕ → Sign → Option Tree
leaf_of line sign.True = Some (tree.Truth line true)
leaf_of line sign.False = Some (tree.Truth line false)
leaf_of line sign.Root = Some (tree.Root line)
leaf_of line sign.This = Some (tree.This line)
leaf_of line sign.Caller = Some (tree.Caller line)
leaf_of line sign.Operator = Some (tree.Operator line)
leaf_of line _ = None

-- the formula that a token is by itself
abbrev pub leaf : ℕ → TokenKind → Option Tree
leaf line (kind.Name name) = Some (tree.Name line name)
leaf line (kind.Reserved word) = leaf_of line (sign_of (kind.Reserved word))
leaf line (kind.Number n) = Some (tree.Number line n)
leaf line (kind.Text text) = Some (tree.Text line text)
leaf line (kind.Symbol symbol) = leaf_of line (sign_of (kind.Symbol symbol))

-- the forms with several parts, which begin at a token
abbrev pub gather : ℕ → Token → Gathering → Formed → List ℕ → Formed → Answer Formed
gather limit t g f name source = made limit t.start (tree.Gather t.line g f.tree name source.tree) (max f.depth source.depth)

-- a comprehension or a sum with a condition, which begins at a token
abbrev pub gather_where : ℕ → Token → Gathering → Formed → List ℕ → Formed → Formed → Answer Formed
gather_where limit t g f name source p = made limit t.start (tree.GatherWhere t.line g f.tree name source.tree p.tree) (max f.depth (max source.depth p.depth))

-- a test of a set, which begins at a token
abbrev pub test : ℕ → Token → Quantifier → List ℕ → Formed → Formed → Answer Formed
test limit t q name source p = made limit t.start (tree.Test t.line q name source.tree p.tree) (max source.depth p.depth)

-- a function of a set, which begins at a token
abbrev pub call : ℕ → Token → Function → Formed → Answer Formed
call limit t f x = made limit t.start (tree.Call t.line f x.tree) x.depth

-- an if, which begins at a token
abbrev pub choice : ℕ → Token → Formed → Formed → Formed → Answer Formed
choice limit t c x y = made limit t.start (tree.If t.line c.tree x.tree y.tree) (max c.depth (max x.depth y.depth))

-- what stands behind the source of a comprehension or a sum
unfoldable pub closed : Setting → Gathering → Sign → Token → Formed → List ℕ → Formed → List Token → Answer (Formed × List Token)
closed s g close t f name source ts =
    expect s.end close ts >>= (λ rest.
    with_rest rest (gather s.limit t g f name source))

-- the condition of a comprehension or a sum, and the bracket behind it
unfoldable pub closed_where : Setting → Gathering → Sign → Token → Formed → List ℕ → Formed → List Token → Answer (Formed × List Token)
closed_where s g close t f name source ts =
    s.inner ts >>= (λ p.
    expect s.end close p.1 >>= (λ rest.
    with_rest rest (gather_where s.limit t g f name source p.0)))

-- the end of a comprehension or a sum: with a condition where a bar stood
abbrev pub conditioned : Setting → Gathering → Sign → Token → Formed → List ℕ → Formed → List Token → Option (List Token) → Answer (Formed × List Token)
conditioned s g close t f name source ts None = closed s g close t f name source ts
conditioned s g close t f name source ts (Some rest) = closed_where s g close t f name source rest

-- what stands behind the body of a comprehension or a sum
unfoldable pub gathered : Setting → Gathering → Sign → Token → Formed → List Token → Answer (Formed × List Token)
gathered s g close t f ts =
    expect s.end sign.Colon ts >>= (λ a.
    name_at s.end a >>= (λ name.
    expect s.end sign.In name.1 >>= (λ b.
    s.inner b >>= (λ source.
    conditioned s g close t f name.0 source.0 source.1 (after sign.Bar source.1)))))

-- what stands behind the word that begins a sum
unfoldable pub summed : Setting → Token → List Token → Answer (Formed × List Token)
summed s t ts =
    opened s sign.Open ts >>= (λ a.
    s.inner a >>= (λ f.
    gathered s gathering.Sum sign.Close t f.0 f.1))

-- what stands behind the word that begins a test of a set
unfoldable pub tested : Setting → Quantifier → Token → List Token → Answer (Formed × List Token)
tested s q t ts =
    opened s sign.Open ts >>= (λ a.
    name_at s.end a >>= (λ name.
    expect s.end sign.In name.1 >>= (λ b.
    s.inner b >>= (λ source.
    expect s.end sign.Bar source.1 >>= (λ c.
    s.inner c >>= (λ p.
    expect s.end sign.Close p.1 >>= (λ rest.
    with_rest rest (test s.limit t q name.0 source.0 p.0))))))))

-- what stands behind the word that begins a function
unfoldable pub called : Setting → Function → Token → List Token → Answer (Formed × List Token)
called s f t ts =
    opened s sign.Open ts >>= (λ a.
    s.inner a >>= (λ x.
    expect s.end sign.Close x.1 >>= (λ rest.
    with_rest rest (call s.limit t f x.0))))

-- behind the parts so far of a set in braces, at a token of that sign
abbrev pub parts_by : Setting → Token → List Tree → ℕ → Token → List Token → Sign → (List Tree → ℕ → List Token → Answer (Formed × List Token)) → Answer (Formed × List Token)
parts_by s t trees deepest u ts sign.CloseBrace more = with_rest ts (made s.limit t.start (tree.Set t.line trees) deepest)
parts_by s t trees deepest u ts sign.Comma more = s.inner ts >>= (λ x. more (trees ++ x.0.tree ∷ []) (max deepest x.0.depth) x.1)
parts_by s t trees deepest u ts _ more = Err (Expected u.start)

-- behind the parts so far of a set in braces, of which the deepest has that depth: at most so many more
unfoldable pub parts : Setting → ℕ → Token → List Tree → ℕ → List Token → Answer (Formed × List Token)
parts s zero t trees deepest ts = Err (Expected (offset s.end ts))
parts s (suc n) t trees deepest [] = Err (Expected s.end)
parts s (suc n) t trees deepest (u ∷ ts) = parts_by s t trees deepest u ts (sign_of u.kind) (λ trees deepest rest. parts s n t trees deepest rest)

-- behind the first part in braces
unfoldable pub behind_part : Setting → Token → Formed → List Token → Sign → Answer (Formed × List Token)
behind_part s t f ts sign.Colon = gathered s gathering.Union sign.CloseBrace t f ts
behind_part s t f ts _ = parts s (length ts) t (f.tree ∷ []) f.depth ts

-- behind an opened brace
unfoldable pub braced : Setting → Token → List Token → Option (List Token) → Answer (Formed × List Token)
braced s t ts (Some rest) = with_rest rest (made s.limit t.start (tree.Set t.line []) 0)
braced s t ts None = s.inner ts >>= (λ f. behind_part s t f.0 f.1 (sign_at f.1))

-- what stands in parentheses
unfoldable pub parenthesised : Setting → List Token → Answer (Formed × List Token)
parenthesised s ts = s.inner ts >>= (λ x. expect s.end sign.Close x.1 >>= (λ rest. Ok (x.0, rest)))

-- a formula in brackets, or behind a word that begins one, which begins with a token of that sign
unfoldable pub bracketed : Setting → Sign → Token → List Token → Answer (Formed × List Token)
bracketed s sign.Open t ts = if s.room == 0 then Err (TooNested t.start) else parenthesised s ts
bracketed s sign.OpenBrace t ts = if s.room == 0 then Err (TooNested t.start) else braced s t ts (after sign.CloseBrace ts)
bracketed s sign.Count t ts = called s function.Count t ts
bracketed s sign.Only t ts = called s function.Only t ts
bracketed s sign.Min t ts = called s function.Min t ts
bracketed s sign.Max t ts = called s function.Max t ts
bracketed s sign.Sum t ts = summed s t ts
bracketed s sign.Any t ts = tested s quantifier.Any t ts
bracketed s sign.All t ts = tested s quantifier.All t ts
bracketed s _ t ts = Err (Expected t.start)

-- the formula that a token is by itself, or the one in brackets that it begins
abbrev pub leaf_or : Setting → Option Tree → Token → List Token → Answer (Formed × List Token)
leaf_or s (Some form) t ts = Ok (record { tree = form; depth = 1 }, ts)
leaf_or s None t ts = bracketed s (sign_of t.kind) t ts

-- a formula of one token or in brackets
unfoldable pub atom : Setting → Reader
atom s [] = Err (Expected s.end)
atom s (t ∷ ts) = leaf_or s (leaf t.line t.kind) t ts

-- a step: the name of a column, or "up"
abbrev pub step_of : ℕ → Tree → TokenKind → Option Tree
step_of line e (kind.Name name) = Some (tree.Child line e name)
step_of line e (kind.Reserved word) = if same_sign (sign_of (kind.Reserved word)) sign.Up then Some (tree.Up line e) else None
step_of line e (kind.Number n) = None
step_of line e (kind.Text text) = None
step_of line e (kind.Symbol symbol) = if same_sign (sign_of (kind.Symbol symbol)) sign.Up then Some (tree.Up line e) else None

-- the steps behind a formula that begins at that offset and line
unfoldable pub steps : ℕ → ℕ → ℕ → ℕ → Formed → List Token → Answer (Formed × List Token)
steps limit end at line f [] = Ok (f, [])
steps limit end at line f (d ∷ []) = if same_sign (sign_of d.kind) sign.Dot then Err (Expected end) else Ok (f, d ∷ [])
steps limit end at line f (d ∷ t ∷ ts) =
    if same_sign (sign_of d.kind) sign.Dot
    then or_expected t.start (step_of line f.tree t.kind) >>= (λ form. made limit at form f.depth >>= (λ g. steps limit end at line g ts))
    else Ok (f, d ∷ t ∷ ts)

-- a formula with the steps behind it
unfoldable pub postfix : Setting → Reader
postfix s ts = atom s ts >>= (λ x. steps s.limit s.end (offset s.end ts) (line_of ts) x.0 x.1)

-- the prefixes of a kind that stand at the front
unfoldable pub prefixes : Prefix → List Token → List Token
prefixes p [] = []
prefixes p (t ∷ ts) = if same_sign (sign_of t.kind) (prefix_sign p) then t ∷ prefixes p ts else []

-- the tokens behind the prefixes of a kind
unfoldable pub behind_prefixes : Prefix → List Token → List Token
behind_prefixes p [] = []
behind_prefixes p (t ∷ ts) = if same_sign (sign_of t.kind) (prefix_sign p) then behind_prefixes p ts else t ∷ ts

-- the formula behind these prefixes, with them
unfoldable pub under_prefixes : ℕ → Prefix → List Token → Answer Formed → Answer Formed
under_prefixes limit p [] r = r
under_prefixes limit p (t ∷ ts) r = under_prefixes limit p ts r >>= (λ f. made limit t.start (prefixed p t.line f.tree) f.depth)

-- a formula behind prefixes of a kind
unfoldable pub with_prefixes : Setting → Prefix → Reader → Reader
with_prefixes s p operand ts = operand (behind_prefixes p ts) >>= (λ x. with_rest x.1 (under_prefixes s.limit p (prefixes p ts) (Ok x.0)))

-- two operands joined by an operator: a form that begins there
abbrev pub operation : ℕ → ℕ → ℕ → Operator → Formed → Formed → Answer Formed
operation limit at line op f g = made limit at (tree.Binary line op f.tree g.tree) (max f.depth g.depth)

-- the operand behind an operator, joined to the formula before it
abbrev pub operand_behind : Setting → Reader → ℕ → ℕ → Operator → Formed → List Token → Answer (Formed × List Token)
operand_behind s operand at line op f ts = operand ts >>= (λ x. with_rest x.1 (operation s.limit at line op f x.0))

-- whether more operators may follow
abbrev pub go_on : Bool → Answer (Formed × List Token) → (Formed → List Token → Answer (Formed × List Token)) → Answer (Formed × List Token)
go_on true r more = r >>= (λ x. more x.0 x.1)
go_on false r more = r

-- behind an operand, at a token that is this operator of the level or none
abbrev pub more_by : Setting → Level → Reader → ℕ → ℕ → Formed → Token → List Token → Option Operator → (Formed → List Token → Answer (Formed × List Token)) → Answer (Formed × List Token)
more_by s l operand at line f t ts None more = Ok (f, t ∷ ts)
more_by s l operand at line f t ts (Some op) more = go_on (repeats l) (operand_behind s operand at line op f ts) more

-- what follows an operand of a level, at most so many times: operators of that level with further operands
unfoldable pub more : Setting → Level → Reader → ℕ → ℕ → ℕ → Formed → List Token → Answer (Formed × List Token)
more s l operand zero at line f ts = Ok (f, ts)
more s l operand (suc n) at line f [] = Ok (f, [])
more s l operand (suc n) at line f (t ∷ ts) = more_by s l operand at line f t ts (operator_among l (sign_of t.kind)) (λ g rest. more s l operand n at line g rest)

-- operands of a level with its operators between them
unfoldable pub chain : Setting → Level → Reader → Reader
chain s l operand ts = operand ts >>= (λ x. more s l operand (length x.1) (offset s.end ts) (line_of ts) x.0 x.1)

-- the operands of each level
unfoldable pub unary : Setting → Reader
unary s = with_prefixes s prefix.Minus (postfix s)

-- formulas joined by *, / and %
unfoldable pub products : Setting → Reader
products s = chain s level.Products (unary s)

-- products joined by +, - and &
unfoldable pub sums : Setting → Reader
sums s = chain s level.Sums (products s)

-- sums joined by union, intersect and except
unfoldable pub sets : Setting → Reader
sets s = chain s level.Sets (sums s)

-- sets, at most two, with a comparison between them
unfoldable pub comparison : Setting → Reader
comparison s = chain s level.Comparison (sets s)

-- a comparison behind any number of nots
unfoldable pub negation : Setting → Reader
negation s = with_prefixes s prefix.Not (comparison s)

-- negations joined by and
unfoldable pub conjunction : Setting → Reader
conjunction s = chain s level.And (negation s)

-- conjunctions joined by or
unfoldable pub disjunction : Setting → Reader
disjunction s = chain s level.Or (conjunction s)

-- how the operands of a level are read
abbrev pub operand_at : Setting → Level → Reader
operand_at s level.Products = unary s
operand_at s level.Sums = products s
operand_at s level.Sets = sums s
operand_at s level.Comparison = sets s
operand_at s level.And = negation s
operand_at s level.Or = conjunction s

-- how a level is read
abbrev pub chain_at : Setting → Level → Reader
chain_at s level.Products = products s
chain_at s level.Sums = sums s
chain_at s level.Sets = sets s
chain_at s level.Comparison = comparison s
chain_at s level.And = conjunction s
chain_at s level.Or = disjunction s

-- behind "if"
unfoldable pub chosen : Setting → Token → List Token → Answer (Formed × List Token)
chosen s t ts =
    s.nested ts >>= (λ c.
    expect s.end sign.Then c.1 >>= (λ a.
    s.nested a >>= (λ x.
    expect s.end sign.Else x.1 >>= (λ b.
    s.nested b >>= (λ y.
    with_rest y.1 (choice s.limit t c.0 x.0 y.0))))))

-- an if, or a disjunction
unfoldable pub expression : Setting → Reader
expression s [] = disjunction s []
expression s (t ∷ ts) = if same_sign (sign_of t.kind) sign.If then chosen s t ts else disjunction s (t ∷ ts)

-- an expression, with others in each other at most so deep
unfoldable pub within : ℕ → ℕ → ℕ → ℕ → Reader
within limit end zero room ts = Err (Expected (offset end ts))
within limit end (suc turns) room ts = expression (record { limit = limit; end = end; room = room; inner = within limit end turns (room - 1); nested = within limit end turns room }) ts

-- how formulas are read with so many turns and open brackets left
abbrev pub setting : ℕ → ℕ → ℕ → ℕ → Setting
setting limit end turns room = record { limit = limit; end = end; room = room; inner = within limit end turns (room - 1); nested = within limit end turns room }

-- the formula at the front
unfoldable pub formula_at : ℕ → ℕ → ℕ → Reader
formula_at limit room end ts = within limit end (length ts + 1) room ts

-- the formula that all the tokens are
abbrev pub nothing_behind : ℕ → Formed × List Token → Answer Tree
nothing_behind end (f, []) = Ok f.tree
nothing_behind end (f, t ∷ ts) = Err (Expected t.start)

-- the tree of the formula that all the tokens are
abbrev pub whole_formula : ℕ → List Token → Answer Tree
whole_formula end ts = formula_at 32 32 end ts >>= nothing_behind end

-- The productions of formulas: which tokens stand for which tree.
use Rattle.std.specs.Prelude.{◌≡◌, ℕ, ◌+◌, ◌≤◌, max, List, [], ◌∷◌, ◌++◌, Option, Some, None}
use Rattle.sheet_syntax_trees.specs.declared.token.Token.{Token}
use Rattle.sheet_syntax_trees.specs.declared.token.TokenKind.TheVariants as kind
use Rattle.sheet_syntax_trees.specs.declared.sign.Sign.{Sign}
use Rattle.sheet_syntax_trees.specs.declared.sign.Sign.TheVariants as sign
use Rattle.sheet_syntax_trees.specs.declared.operators.Operator.{Operator}
use Rattle.sheet_syntax_trees.specs.declared.operators.Level.{Level}
use Rattle.sheet_syntax_trees.specs.declared.operators.Level.TheVariants as level
use Rattle.sheet_syntax_trees.specs.declared.operators.Prefix.{Prefix}
use Rattle.sheet_syntax_trees.specs.declared.operators.Prefix.TheVariants as prefix
use Rattle.sheet_syntax_trees.specs.declared.operators.Function.{Function}
use Rattle.sheet_syntax_trees.specs.declared.operators.Function.TheVariants as function
use Rattle.sheet_syntax_trees.specs.declared.operators.Gathering.{Gathering}
use Rattle.sheet_syntax_trees.specs.declared.operators.Gathering.TheVariants as gathering
use Rattle.sheet_syntax_trees.specs.declared.operators.Quantifier.{Quantifier}
use Rattle.sheet_syntax_trees.specs.declared.operators.Quantifier.TheVariants as quantifier
use Rattle.sheet_syntax_trees.specs.declared.tree.Tree.{Tree}
use Rattle.sheet_syntax_trees.specs.declared.tree.Tree.TheVariants as tree
use Rattle.sheet_syntax_trees.specs.Signs.{sign_of}
use Rattle.sheet_syntax_trees.specs.Operators.{operator_among, prefix_sign, prefixed}
use Rattle.sheet_syntax_trees.specs.Reading.{line_of, leaf}

-- the nonterminals
pub data Nonterminal : Type 0 where
  expression : Nonterminal
  -- the operands of a level, with the operators of that level between them
  chain : Level → Nonterminal
  negation : Nonterminal
  unary : Nonterminal
  postfix : Nonterminal
  atom : Nonterminal

-- what stands between the operators of a level
abbrev pub operand : Level → Nonterminal
operand level.Or = chain level.And
operand level.And = negation
operand level.Comparison = chain level.Sets
operand level.Sets = chain level.Sums
operand level.Sums = chain level.Products
operand level.Products = unary

-- what stands before an operator of a level
abbrev pub before : Level → Nonterminal
before level.Or = chain level.Or
before level.And = chain level.And
before level.Comparison = chain level.Sets
before level.Sets = chain level.Sets
before level.Sums = chain level.Sums
before level.Products = chain level.Products

-- what stands behind a prefix, and alone in its place
abbrev pub prefixing : Prefix → Nonterminal
prefixing prefix.Minus = unary
prefixing prefix.Not = negation

-- what stands behind all prefixes of that kind
abbrev pub unprefixed : Prefix → Nonterminal
unprefixed prefix.Minus = postfix
unprefixed prefix.Not = chain level.Comparison

-- A tree with its depth, and the greatest count of brackets that are open in it.
pub record Form : Type 0 where
  pub tree : Tree
  pub depth : ℕ
  pub nest : ℕ

-- parts with commas between them: their trees, the depth of the deepest, and the greatest count of open brackets
pub record Parts : Type 0 where
  pub trees : List Tree
  pub depth : ℕ
  pub nest : ℕ

-- a tree with its depth and its greatest count of open brackets
abbrev pub form : Tree → ℕ → ℕ → Form
form t depth nest = record { tree = t; depth = depth; nest = nest }

-- the token is of that sign
abbrev pub Is : Sign → Token → Type 0
Is s t = sign_of t.kind ≡ s

-- what a word that begins a function of one set stands for
abbrev pub function_of : Sign → Option Function
function_of sign.Count = Some function.Count
function_of sign.Only = Some function.Only
function_of sign.Min = Some function.Min
function_of sign.Max = Some function.Max
function_of _ = None

-- what a word that begins a test of a set stands for
abbrev pub quantifier_of : Sign → Option Quantifier
quantifier_of sign.Any = Some quantifier.Any
quantifier_of sign.All = Some quantifier.All
quantifier_of _ = None

mutual
  pub data Produces : Nonterminal → List Token → Form → Type 0 where
    -- expr = "if" expr "then" expr "else" expr | or
    a_choice : (i t e : Token) (cs xs ys : List Token) (c x y : Form) → Is sign.If i → Produces expression cs c → Is sign.Then t → Produces expression xs x → Is sign.Else e → Produces expression ys y
        → Produces expression (i ∷ (cs ++ t ∷ (xs ++ e ∷ ys))) (form (tree.If i.line c.tree x.tree y.tree) (max c.depth (max x.depth y.depth) + 1) (max c.nest (max x.nest y.nest)))
    no_choice : (ts : List Token) (f : Form) → Produces (chain level.Or) ts f → Produces expression ts f
    -- or = and { "or" and }, and so on for each level; of comparison there is one at most
    an_operand : (l : Level) (ts : List Token) (f : Form) → Produces (operand l) ts f → Produces (chain l) ts f
    an_operation : (l : Level) (op : Operator) (o : Token) (xs ys : List Token) (x y : Form) → Produces (before l) xs x → operator_among l (sign_of o.kind) ≡ Some op → Produces (operand l) ys y
        → Produces (chain l) (xs ++ o ∷ ys) (form (tree.Binary (line_of xs) op x.tree y.tree) (max x.depth y.depth + 1) (max x.nest y.nest))
    -- neg = "not" neg | compare, and unary = "-" unary | postfix
    a_prefix : (p : Prefix) (t : Token) (ts : List Token) (f : Form) → Is (prefix_sign p) t → Produces (prefixing p) ts f
        → Produces (prefixing p) (t ∷ ts) (form (prefixed p t.line f.tree) (f.depth + 1) f.nest)
    no_prefix : (p : Prefix) (ts : List Token) (f : Form) → Produces (unprefixed p) ts f → Produces (prefixing p) ts f
    -- postfix = atom { "." ( NAME | "up" ) }
    no_step : (ts : List Token) (f : Form) → Produces atom ts f → Produces postfix ts f
    a_child : (d t : Token) (name : List ℕ) (ts : List Token) (f : Form) → Produces postfix ts f → Is sign.Dot d → t.kind ≡ kind.Name name
        → Produces postfix (ts ++ d ∷ t ∷ []) (form (tree.Child (line_of ts) f.tree name) (f.depth + 1) f.nest)
    an_up : (d t : Token) (ts : List Token) (f : Form) → Produces postfix ts f → Is sign.Dot d → Is sign.Up t
        → Produces postfix (ts ++ d ∷ t ∷ []) (form (tree.Up (line_of ts) f.tree) (f.depth + 1) f.nest)
    -- the atoms
    a_leaf : (t : Token) (e : Tree) → leaf t.line t.kind ≡ Some e → Produces atom (t ∷ []) (form e 1 0)
    in_parentheses : (o c : Token) (ts : List Token) (f : Form) → Is sign.Open o → Produces expression ts f → Is sign.Close c
        → Produces atom (o ∷ (ts ++ c ∷ [])) (form f.tree f.depth (f.nest + 1))
    no_set : (o c : Token) → Is sign.OpenBrace o → Is sign.CloseBrace c → Produces atom (o ∷ c ∷ []) (form (tree.Set o.line []) 1 1)
    a_set : (o c : Token) (ts : List Token) (p : Parts) → Is sign.OpenBrace o → AreParts ts p → Is sign.CloseBrace c
        → Produces atom (o ∷ (ts ++ c ∷ [])) (form (tree.Set o.line p.trees) (p.depth + 1) (p.nest + 1))
    a_comprehension : (o c : Token) (ts : List Token) (g : Form) → Is sign.OpenBrace o → Gathers o.line gathering.Union ts g → Is sign.CloseBrace c
        → Produces atom (o ∷ (ts ++ c ∷ [])) (form g.tree (g.depth + 1) (g.nest + 1))
    a_sum : (w o c : Token) (ts : List Token) (g : Form) → Is sign.Sum w → Is sign.Open o → Gathers w.line gathering.Sum ts g → Is sign.Close c
        → Produces atom (w ∷ o ∷ (ts ++ c ∷ [])) (form g.tree (g.depth + 1) (g.nest + 1))
    a_call : (w o c : Token) (h : Function) (ts : List Token) (f : Form) → function_of (sign_of w.kind) ≡ Some h → Is sign.Open o → Produces expression ts f → Is sign.Close c
        → Produces atom (w ∷ o ∷ (ts ++ c ∷ [])) (form (tree.Call w.line h f.tree) (f.depth + 1) (f.nest + 1))
    a_test : (w o n i b c : Token) (q : Quantifier) (name : List ℕ) (ss ps : List Token) (x p : Form) → quantifier_of (sign_of w.kind) ≡ Some q → Is sign.Open o
        → n.kind ≡ kind.Name name → Is sign.In i → Produces expression ss x → Is sign.Bar b → Produces expression ps p → Is sign.Close c
        → Produces atom (w ∷ o ∷ n ∷ i ∷ (ss ++ b ∷ (ps ++ c ∷ []))) (form (tree.Test w.line q name x.tree p.tree) (max x.depth p.depth + 1) (max x.nest p.nest + 1))

  -- expr { "," expr }
  pub data AreParts : List Token → Parts → Type 0 where
    one_part : (ts : List Token) (f : Form) → Produces expression ts f → AreParts ts (record { trees = f.tree ∷ []; depth = f.depth; nest = f.nest })
    more_parts : (k : Token) (xs ys : List Token) (p : Parts) (y : Form) → AreParts xs p → Is sign.Comma k → Produces expression ys y
        → AreParts (xs ++ k ∷ ys) (record { trees = p.trees ++ y.tree ∷ []; depth = max p.depth y.depth; nest = max p.nest y.nest })

  -- expr ":" NAME "in" expr [ "|" expr ], of a comprehension or a sum that begins in that line
  pub data Gathers : ℕ → Gathering → List Token → Form → Type 0 where
    all_values : (line : ℕ) (g : Gathering) (k n i : Token) (name : List ℕ) (fs ss : List Token) (f x : Form) → Produces expression fs f → Is sign.Colon k → n.kind ≡ kind.Name name
        → Is sign.In i → Produces expression ss x
        → Gathers line g (fs ++ k ∷ n ∷ i ∷ ss) (form (tree.Gather line g f.tree name x.tree) (max f.depth x.depth) (max f.nest x.nest))
    chosen_values : (line : ℕ) (g : Gathering) (k n i b : Token) (name : List ℕ) (fs ss ps : List Token) (f x p : Form) → Produces expression fs f → Is sign.Colon k → n.kind ≡ kind.Name name
        → Is sign.In i → Produces expression ss x → Is sign.Bar b → Produces expression ps p
        → Gathers line g (fs ++ k ∷ n ∷ i ∷ (ss ++ b ∷ ps)) (form (tree.GatherWhere line g f.tree name x.tree p.tree) (max f.depth (max x.depth p.depth)) (max f.nest (max x.nest p.nest)))

-- The tokens stand for the tree: a formula of depth 32 at most, in which at most 32 brackets are open.
pub record IsFormula (tokens : List Token) (e : Tree) : Type 0 where
  pub depth : ℕ
  pub nest : ℕ
  pub produced : Produces expression tokens (form e depth nest)
  pub shallow : depth ≤ 32
  pub narrow : nest ≤ 32

-- the tokens begin some formula, of any depth
pub record BeginsFormula (tokens : List Token) : Type 0 where
  pub behind : List Token
  pub whole : Form
  pub produced : Produces expression (tokens ++ behind) whole

-- Where definitions are refused.
use Rattle.std.specs.Prelude.{◌≡◌, ℕ, suc, List, [], ◌∷◌, ◌++◌, Option}
use Rattle.sheet_syntax_trees.specs.declared.token.Token.{Token}
use Rattle.sheet_syntax_trees.specs.Reading.{offset}
use Rattle.sheet_syntax_trees.specs.declared.tree.Tree.{Tree}
use Rattle.sheet_syntax_trees.specs.Grammar.{Form, Produces, expression}
use Rattle.sheet_syntax_trees.specs.Refusals.{IsTooNested}
use Rattle.sheet_define_data.specs.declared.definition.Declaration.{Declaration}
use Rattle.sheet_define_data.specs.declared.definition.Parameter.{Parameter}
use Rattle.sheet_define_data.specs.declared.statement.Statement.{Statement}
use Rattle.sheet_define_data.specs.declared.statement.Target.{Target}
use Rattle.sheet_define_data.specs.Grammar.{IsWord, IsSymbol, IsName, Limits, Maybe, Repeated, IsExpression, IsTarget, IsDeclaration, IsAllow, InParentheses, AreStatements, IsBlock, AreDeclarations, BeginsDefinition}

-- no definition, of any depth, begins with the front and the token behind it; at the end the front is none
abbrev pub NoneBegins : List Token → List Token → Type 0
NoneBegins front [] = (l : Limits) (blocks : ℕ) (ds : List Declaration) → AreDeclarations l blocks front ds → ⊥
NoneBegins front (t ∷ rest) = BeginsDefinition (front ++ t ∷ []) → ⊥

-- At this offset stands the first token such that the tokens up to and with it begin no definition, or the end of tokens
-- that are none: the tokens before begin a definition.
pub record IsFirstOfDefinition (end : ℕ) (tokens : List Token) (at : ℕ) : Type 0 where
  pub front : List Token
  pub rest : List Token
  pub split : tokens ≡ front ++ rest
  pub here : at ≡ offset end rest
  pub begins : BeginsDefinition front
  pub none : NoneBegins front rest

-- from the first token of a statement to the brace of a block in it
pub data OpensBlock : List Token → List Token → Type 0 where
  of_if : (l : Limits) (w : Token) (ts us : List Token) (p : Tree) → IsWord "if" w → IsExpression l ts p us → OpensBlock (w ∷ ts) us
  of_else : (l : Limits) (b : ℕ) (w e : Token) (ts us vs : List Token) (p : Tree) (body : List Statement) → IsWord "if" w → IsExpression l ts p us → IsBlock l b us body (e ∷ vs) → IsWord "else" e → OpensBlock (w ∷ ts) vs
  of_for : (l : Limits) (w n i : Token) (name : List ℕ) (ts us : List Token) (v : Tree) → IsWord "for" w → IsName name n → IsWord "in" i → IsExpression l ts v us → OpensBlock (w ∷ n ∷ i ∷ ts) us

-- from the brace of a block to the brace of a block in it, before which so many blocks are open
pub data Holds : ℕ → List Token → List Token → Type 0 where
  itself : (ts : List Token) → Holds 0 ts ts
  within : (k : ℕ) (l : Limits) (b : ℕ) (o : Token) (ts us vs rest : List Token) (xs : List Statement) → IsSymbol "{" o → AreStatements l b ts xs us → OpensBlock us vs → Holds k vs rest → Holds (suc k) (o ∷ ts) rest

-- from the first token of a procedure to the brace of its block
pub data BeginsProcedure : List Token → List Token → Type 0 where
  a_head : (l : Limits) (w n : Token) (name : List ℕ) (ps ts us : List Token) (parameters : List Parameter) (allow : Option Tree) → IsWord "procedure" w → IsName name n → InParentheses ps parameters ts → Maybe (IsAllow l) ts allow us → BeginsProcedure (w ∷ n ∷ ps) us

-- the tokens are some definition, of any depth
pub record IsSomeDefinition (tokens : List Token) : Type 0 where
  pub limits : Limits
  pub blocks : ℕ
  pub declarations : List Declaration
  pub produced : AreDeclarations limits blocks tokens declarations

-- behind the front a formula may stand: with some tokens behind it, all is a definition
pub record AdmitsFormula (front : List Token) : Type 0 where
  pub behind : List Token
  pub whole : (mid : List Token) (f : Form) → Produces expression mid f → IsSomeDefinition (front ++ (mid ++ behind))

-- behind the front a target may stand
pub record AdmitsTarget (front : List Token) : Type 0 where
  pub behind : List Token
  pub whole : (l : Limits) (mid : List Token) (t : Target) → IsTarget l (mid ++ behind) t behind → IsSomeDefinition (front ++ (mid ++ behind))

-- At this offset begins what is nested too deeply: a bracket or a form, in a formula or a target; or the brace of the
-- 17th open block of a procedure.
pub data IsTooNestedDefinition (end : ℕ) (tokens : List Token) (at : ℕ) : Type 0 where
  in_formula : (front rest : List Token) → tokens ≡ front ++ rest → AdmitsFormula front → IsTooNested end rest at → IsTooNestedDefinition end tokens at
  in_target : (front rest : List Token) → tokens ≡ front ++ rest → AdmitsTarget front → IsTooNested end rest at → IsTooNestedDefinition end tokens at
  a_block : (l : Limits) (b : ℕ) (ds : List (List Declaration)) (us vs rest : List Token) (o : Token) → Repeated (IsDeclaration l b) tokens ds us → BeginsProcedure us vs → Holds 16 vs (o ∷ rest) → IsSymbol "{" o → at ≡ o.start
      → IsTooNestedDefinition end tokens at

-- The same, and the tokens before begin a definition.
pub record IsFirstTooNested (end : ℕ) (tokens : List Token) (at : ℕ) : Type 0 where
  pub front : List Token
  pub rest : List Token
  pub split : tokens ≡ front ++ rest
  pub here : at ≡ offset end rest
  pub begins : BeginsDefinition front
  pub nested : IsTooNestedDefinition end tokens at

-- The productions of definitions. Each relates tokens, what the first of them stand for, and the tokens behind these.
use Rattle.std.specs.Prelude.{◌≡◌, ℕ, ℤ, ◌+◌, ◌≤◌, suc, List, [], ◌∷◌, ◌++◌, length, Bool, true, false, Option, Some, None, Ok, codes}
use Rattle.std.specs.Str.{is_utf8}
use Prim.Native.String.{String}
use Rattle.sheet_syntax_trees.specs.declared.token.Token.{Token}
use Rattle.sheet_syntax_trees.specs.declared.token.TokenKind.TheVariants as kind
use Rattle.sheet_syntax_trees.specs.Tokens.{lexed}
use Rattle.sheet_syntax_trees.specs.declared.tree.Tree.{Tree}
use Rattle.sheet_syntax_trees.specs.Reading.{line_of}
use Rattle.sheet_syntax_trees.specs.Grammar.{Produces, form, Nonterminal, expression, postfix}
use Rattle.sheet_define_data.specs.declared.definition.Path.{Path}
use Rattle.sheet_define_data.specs.declared.definition.TypeName.{TypeName}
use Rattle.sheet_define_data.specs.declared.definition.TypeName.TheVariants as type
use Rattle.sheet_define_data.specs.declared.definition.Literal.{Literal}
use Rattle.sheet_define_data.specs.declared.definition.Literal.TheVariants as literal
use Rattle.sheet_define_data.specs.declared.definition.Content.TheVariants as content
use Rattle.sheet_define_data.specs.declared.definition.Parameter.{Parameter}
use Rattle.sheet_define_data.specs.declared.definition.Procedure.{Procedure}
use Rattle.sheet_define_data.specs.declared.definition.Show.{Show}
use Rattle.sheet_define_data.specs.declared.definition.Part.{Part}
use Rattle.sheet_define_data.specs.declared.definition.Part.TheVariants as part
use Rattle.sheet_define_data.specs.declared.definition.View.{View}
use Rattle.sheet_define_data.specs.declared.definition.Declaration.{Declaration}
use Rattle.sheet_define_data.specs.declared.definition.Declaration.TheVariants as declaration
use Rattle.sheet_define_data.specs.declared.definition.Definition.{Definition}
use Rattle.sheet_define_data.specs.declared.statement.Target.{Target}
use Rattle.sheet_define_data.specs.declared.statement.Statement.{Statement}
use Rattle.sheet_define_data.specs.declared.statement.Statement.TheVariants as statement

-- the token is that reserved word, that symbol, that name
abbrev pub IsWord : String → Token → Type 0
IsWord word t = t.kind ≡ kind.Reserved (codes word)

-- the token is that symbol
abbrev pub IsSymbol : String → Token → Type 0
IsSymbol symbol t = t.kind ≡ kind.Symbol (codes symbol)

-- the token is that name
abbrev pub IsName : List ℕ → Token → Type 0
IsName name t = t.kind ≡ kind.Name name

-- How deep formulas may go, and how many brackets may be open in one.
pub record Limits : Type 0 where
  pub depth : ℕ
  pub nest : ℕ

-- what stands in square brackets in a production: nothing, or the thing itself
pub data Maybe {A : Type 0} (P : List Token → A → List Token → Type 0) : List Token → Option A → List Token → Type 0 where
  left_out : (ts : List Token) → Maybe P ts None ts
  stated : (ts us : List Token) (x : A) → P ts x us → Maybe P ts (Some x) us

-- what stands in curly braces in a production: the thing any number of times
pub data Repeated {A : Type 0} (P : List Token → A → List Token → Type 0) : List Token → List A → List Token → Type 0 where
  none : (ts : List Token) → Repeated P ts [] ts
  one_more : (ts us vs : List Token) (x : A) (xs : List A) → P ts x us → Repeated P us xs vs → Repeated P ts (x ∷ xs) vs

-- a formula, or what stands before the last dot of a target, within the limits
pub record IsFormulaOf (l : Limits) (n : Nonterminal) (ts : List Token) (e : Tree) (us : List Token) : Type 0 where
  pub front : List Token
  pub depth : ℕ
  pub nest : ℕ
  pub split : ts ≡ front ++ us
  pub produced : Produces n front (form e depth nest)
  pub shallow : depth ≤ l.depth
  pub narrow : nest ≤ l.nest

-- a formula within the limits
abbrev pub IsExpression : Limits → List Token → Tree → List Token → Type 0
IsExpression l = IsFormulaOf l expression

-- path = NAME { "." NAME }
pub data AreNames : List Token → List (List ℕ) → List Token → Type 0 where
  one_name : (t : Token) (name : List ℕ) (ts : List Token) → IsName name t → AreNames (t ∷ ts) (name ∷ []) ts
  more_names : (t d : Token) (name : List ℕ) (names : List (List ℕ)) (ts us : List Token) → IsName name t → IsSymbol "." d → AreNames ts names us
      → AreNames (t ∷ d ∷ ts) (name ∷ names) us

-- a path begins in the line of its first name
pub data IsPath : List Token → Path → List Token → Type 0 where
  a_path : (ts us : List Token) (names : List (List ℕ)) → AreNames ts names us → IsPath ts (record { line = line_of ts; names = names }) us

-- type = "number" | "text" | "truth" | path
pub data IsType : List Token → TypeName → List Token → Type 0 where
  numbers : (t : Token) (ts : List Token) → IsWord "number" t → IsType (t ∷ ts) type.Number ts
  texts : (t : Token) (ts : List Token) → IsWord "text" t → IsType (t ∷ ts) type.Text ts
  truths : (t : Token) (ts : List Token) → IsWord "truth" t → IsType (t ∷ ts) type.Truth ts
  objects : (ts us : List Token) (p : Path) → IsPath ts p us → IsType ts (type.Object p) us

-- literal = NUMBER | "-" NUMBER | TEXT | "true" | "false"
pub data IsLiteral : List Token → Literal → List Token → Type 0 where
  a_number : (t : Token) (n : ℤ) (ts : List Token) → t.kind ≡ kind.Number n → IsLiteral (t ∷ ts) (literal.Number t.line n) ts
  a_negative_number : (m t : Token) (n : ℤ) (ts : List Token) → IsSymbol "-" m → t.kind ≡ kind.Number n → IsLiteral (m ∷ t ∷ ts) (literal.Negative m.line n) ts
  a_text : (t : Token) (text : List ℕ) (ts : List Token) → t.kind ≡ kind.Text text → IsLiteral (t ∷ ts) (literal.Text t.line text) ts
  a_true : (t : Token) (ts : List Token) → IsWord "true" t → IsLiteral (t ∷ ts) (literal.Truth t.line true) ts
  a_false : (t : Token) (ts : List Token) → IsWord "false" t → IsLiteral (t ∷ ts) (literal.Truth t.line false) ts

-- [ "one" ]
pub data IsOne : List Token → Bool → List Token → Type 0 where
  any_count : (ts : List Token) → IsOne ts false ts
  just_one : (t : Token) (ts : List Token) → IsWord "one" t → IsOne (t ∷ ts) true ts

-- "=" literal
pub data IsFirst : List Token → Literal → List Token → Type 0 where
  a_first : (e : Token) (ts us : List Token) (v : Literal) → IsSymbol "=" e → IsLiteral ts v us → IsFirst (e ∷ ts) v us

-- ":" type
pub data IsDeclared : List Token → TypeName → List Token → Type 0 where
  a_declared : (k : Token) (ts us : List Token) (t : TypeName) → IsSymbol ":" k → IsType ts t us → IsDeclared (k ∷ ts) t us

-- "allow" expr
pub data IsAllow (l : Limits) : List Token → Tree → List Token → Type 0 where
  an_allow : (w : Token) (ts us : List Token) (e : Tree) → IsWord "allow" w → IsExpression l ts e us → IsAllow l (w ∷ ts) e us

mutual
  -- column = "object" NAME "{" { column } "}" | "state" NAME ":" type [ "one" ] [ "=" literal ] | "formula" NAME [ ":" type ] "=" expr,
  -- which stands in so many object columns: it with all columns in its braces, in the order of the text
  pub data IsColumn (l : Limits) : ℕ → List Token → List Declaration → List Token → Type 0 where
    an_object_column : (depth : ℕ) (w n o c : Token) (name : List ℕ) (ts us : List Token) (ds : List Declaration) → IsWord "object" w → IsName name n → IsSymbol "{" o
        → AreColumns l (suc depth) ts ds (c ∷ us) → IsSymbol "}" c
        → IsColumn l depth (w ∷ n ∷ o ∷ ts) (declaration.Column (record { depth = depth; line = w.line; name = name; content = content.Object }) ∷ ds) us
    a_state_column : (depth : ℕ) (w n k : Token) (name : List ℕ) (ts us vs rest : List Token) (t : TypeName) (one : Bool) (first : Option Literal) → IsWord "state" w → IsName name n
        → IsSymbol ":" k → IsType ts t us → IsOne us one vs → Maybe IsFirst vs first rest
        → IsColumn l depth (w ∷ n ∷ k ∷ ts) (declaration.Column (record { depth = depth; line = w.line; name = name; content = content.State t one first }) ∷ []) rest
    a_formula_column : (depth : ℕ) (w n e : Token) (name : List ℕ) (ts us rest : List Token) (t : Option TypeName) (f : Tree) → IsWord "formula" w → IsName name n
        → Maybe IsDeclared ts t (e ∷ us) → IsSymbol "=" e → IsExpression l us f rest
        → IsColumn l depth (w ∷ n ∷ ts) (declaration.Column (record { depth = depth; line = w.line; name = name; content = content.Formula t f }) ∷ []) rest

  -- { column }
  pub data AreColumns (l : Limits) : ℕ → List Token → List Declaration → List Token → Type 0 where
    no_columns : (depth : ℕ) (ts : List Token) → AreColumns l depth ts [] ts
    more_columns : (depth : ℕ) (ts us rest : List Token) (ds es : List Declaration) → IsColumn l depth ts ds us → AreColumns l depth us es rest
        → AreColumns l depth ts (ds ++ es) rest

-- param = NAME ":" type
pub data IsParameter : List Token → Parameter → List Token → Type 0 where
  a_parameter : (n k : Token) (name : List ℕ) (ts us : List Token) (t : TypeName) → IsName name n → IsSymbol ":" k → IsType ts t us
      → IsParameter (n ∷ k ∷ ts) (record { line = n.line; name = name; values = t }) us

-- param { "," param }
pub data AreParameters : List Token → List Parameter → List Token → Type 0 where
  one_parameter : (ts us : List Token) (p : Parameter) → IsParameter ts p us → AreParameters ts (p ∷ []) us
  more_parameters : (ts us rest : List Token) (k : Token) (p : Parameter) (ps : List Parameter) → IsParameter ts p (k ∷ us) → IsSymbol "," k → AreParameters us ps rest
      → AreParameters ts (p ∷ ps) rest

-- params = "(" [ param { "," param } ] ")", at most 16
pub data InParentheses : List Token → List Parameter → List Token → Type 0 where
  no_parameters : (o c : Token) (ts : List Token) → IsSymbol "(" o → IsSymbol ")" c → InParentheses (o ∷ c ∷ ts) [] ts
  some_parameters : (o c : Token) (ts us : List Token) (ps : List Parameter) → IsSymbol "(" o → AreParameters ts ps (c ∷ us) → length ps ≤ 16 → IsSymbol ")" c
      → InParentheses (o ∷ ts) ps us

-- target = [ postfix "." ] NAME
pub data IsTarget (l : Limits) : List Token → Target → List Token → Type 0 where
  of_root : (n : Token) (name : List ℕ) (ts : List Token) → IsName name n → IsTarget l (n ∷ ts) (record { line = n.line; object = None; column = name }) ts
  of_object : (d n : Token) (name : List ℕ) (ts us : List Token) (e : Tree) → IsFormulaOf l postfix ts e (d ∷ n ∷ us) → IsSymbol "." d → IsName name n
      → IsTarget l ts (record { line = line_of ts; object = Some e; column = name }) us

mutual
  -- the statements, in which so many blocks may be opened in each other
  pub data IsStatement (l : Limits) : ℕ → List Token → Statement → List Token → Type 0 where
    -- "let" NAME "=" expr
    a_let : (b : ℕ) (w n e : Token) (name : List ℕ) (ts rest : List Token) (v : Tree) → IsWord "let" w → IsName name n → IsSymbol "=" e → IsExpression l ts v rest
        → IsStatement l b (w ∷ n ∷ e ∷ ts) (statement.Let w.line name v) rest
    -- "set" target "=" expr
    an_assignment : (b : ℕ) (w e : Token) (ts us rest : List Token) (t : Target) (v : Tree) → IsWord "set" w → IsTarget l ts t (e ∷ us) → IsSymbol "=" e → IsExpression l us v rest
        → IsStatement l b (w ∷ ts) (statement.Set w.line t v) rest
    -- "add" expr "to" target
    an_add : (b : ℕ) (w o : Token) (ts us rest : List Token) (t : Target) (v : Tree) → IsWord "add" w → IsExpression l ts v (o ∷ us) → IsWord "to" o → IsTarget l us t rest
        → IsStatement l b (w ∷ ts) (statement.Add w.line v t) rest
    -- "remove" expr "from" target
    a_remove : (b : ℕ) (w o : Token) (ts us rest : List Token) (t : Target) (v : Tree) → IsWord "remove" w → IsExpression l ts v (o ∷ us) → IsWord "from" o → IsTarget l us t rest
        → IsStatement l b (w ∷ ts) (statement.Remove w.line v t) rest
    -- "new" NAME "=" target
    a_new : (b : ℕ) (w n e : Token) (name : List ℕ) (ts rest : List Token) (t : Target) → IsWord "new" w → IsName name n → IsSymbol "=" e → IsTarget l ts t rest
        → IsStatement l b (w ∷ n ∷ e ∷ ts) (statement.New w.line name t) rest
    -- "delete" expr
    a_delete : (b : ℕ) (w : Token) (ts rest : List Token) (v : Tree) → IsWord "delete" w → IsExpression l ts v rest → IsStatement l b (w ∷ ts) (statement.Delete w.line v) rest
    -- "check" expr "else" TEXT
    a_check : (b : ℕ) (w e m : Token) (message : List ℕ) (ts rest : List Token) (p : Tree) → IsWord "check" w → IsExpression l ts p (e ∷ m ∷ rest) → IsWord "else" e
        → m.kind ≡ kind.Text message → IsStatement l b (w ∷ ts) (statement.Check w.line p message) rest
    -- "reply" expr
    a_reply : (b : ℕ) (w : Token) (ts rest : List Token) (v : Tree) → IsWord "reply" w → IsExpression l ts v rest → IsStatement l b (w ∷ ts) (statement.Reply w.line v) rest
    -- "if" expr block
    an_if : (b : ℕ) (w : Token) (ts us rest : List Token) (p : Tree) (body : List Statement) → IsWord "if" w → IsExpression l ts p us → IsBlock l b us body rest
        → IsStatement l b (w ∷ ts) (statement.If w.line p body) rest
    -- "if" expr block "else" block
    an_if_else : (b : ℕ) (w e : Token) (ts us vs rest : List Token) (p : Tree) (body otherwise : List Statement) → IsWord "if" w → IsExpression l ts p us → IsBlock l b us body (e ∷ vs)
        → IsWord "else" e → IsBlock l b vs otherwise rest → IsStatement l b (w ∷ ts) (statement.IfElse w.line p body otherwise) rest
    -- "for" NAME "in" expr block
    a_for : (b : ℕ) (w n i : Token) (name : List ℕ) (ts us rest : List Token) (v : Tree) (body : List Statement) → IsWord "for" w → IsName name n → IsWord "in" i
        → IsExpression l ts v us → IsBlock l b us body rest
        → IsStatement l b (w ∷ n ∷ i ∷ ts) (statement.For w.line name v body) rest

  -- { statement }
  pub data AreStatements (l : Limits) : ℕ → List Token → List Statement → List Token → Type 0 where
    no_statements : (b : ℕ) (ts : List Token) → AreStatements l b ts [] ts
    more_statements : (b : ℕ) (ts us rest : List Token) (x : Statement) (xs : List Statement) → IsStatement l b ts x us → AreStatements l b us xs rest
        → AreStatements l b ts (x ∷ xs) rest

  -- block = "{" { statement } "}"
  pub data IsBlock (l : Limits) : ℕ → List Token → List Statement → List Token → Type 0 where
    a_block : (b : ℕ) (o c : Token) (ts rest : List Token) (xs : List Statement) → IsSymbol "{" o → AreStatements l b ts xs (c ∷ rest) → IsSymbol "}" c
        → IsBlock l (suc b) (o ∷ ts) xs rest

-- procedure = "procedure" NAME params [ "allow" expr ] block
pub data IsProcedure (l : Limits) (b : ℕ) : List Token → Procedure → List Token → Type 0 where
  a_procedure : (w n : Token) (name : List ℕ) (ps ts bs rest : List Token) (parameters : List Parameter) (allow : Option Tree) (body : List Statement)
      → IsWord "procedure" w → IsName name n → InParentheses ps parameters ts → Maybe (IsAllow l) ts allow bs → IsBlock l b bs body rest
      → IsProcedure l b (w ∷ n ∷ ps) (record { line = w.line; name = name; parameters = parameters; allow = allow; body = body }) rest

-- show = "show" NAME "=" expr
pub data IsShow (l : Limits) : List Token → Show → List Token → Type 0 where
  a_show : (w n e : Token) (name : List ℕ) (ts rest : List Token) (f : Tree) → IsWord "show" w → IsName name n → IsSymbol "=" e → IsExpression l ts f rest
      → IsShow l (w ∷ n ∷ e ∷ ts) (record { line = w.line; name = name; shown = f }) rest

-- part = show | "table" NAME "=" NAME "in" expr "{" { show } "}"
pub data IsPart (l : Limits) : List Token → Part → List Token → Type 0 where
  one_show : (ts rest : List Token) (x : Show) → IsShow l ts x rest → IsPart l ts (part.Show x) rest
  a_table : (w n e v i o c : Token) (name variable : List ℕ) (ts us rest : List Token) (f : Tree) (shows : List Show) → IsWord "table" w → IsName name n → IsSymbol "=" e
      → IsName variable v → IsWord "in" i → IsExpression l ts f (o ∷ us) → IsSymbol "{" o → Repeated (IsShow l) us shows (c ∷ rest) → IsSymbol "}" c
      → IsPart l (w ∷ n ∷ e ∷ v ∷ i ∷ ts) (part.Table w.line name variable f shows) rest

-- view = "view" NAME params [ "allow" expr ] "{" { part } "}"
pub data IsView (l : Limits) : List Token → View → List Token → Type 0 where
  a_view : (w n o c : Token) (name : List ℕ) (ps ts us rest : List Token) (parameters : List Parameter) (allow : Option Tree) (parts : List Part) → IsWord "view" w
      → IsName name n → InParentheses ps parameters ts → Maybe (IsAllow l) ts allow (o ∷ us) → IsSymbol "{" o → Repeated (IsPart l) us parts (c ∷ rest) → IsSymbol "}" c
      → IsView l (w ∷ n ∷ ps) (record { line = w.line; name = name; parameters = parameters; allow = allow; parts = parts }) rest

-- "callers" path | column | procedure | view, where a column comes with all columns in its braces
pub data IsDeclaration (l : Limits) (b : ℕ) : List Token → List Declaration → List Token → Type 0 where
  the_callers : (w : Token) (ts rest : List Token) (p : Path) → IsWord "callers" w → IsPath ts p rest → IsDeclaration l b (w ∷ ts) (declaration.Callers w.line p ∷ []) rest
  a_column : (ts rest : List Token) (ds : List Declaration) → IsColumn l 0 ts ds rest → IsDeclaration l b ts ds rest
  one_procedure : (ts rest : List Token) (p : Procedure) → IsProcedure l b ts p rest → IsDeclaration l b ts (declaration.Procedure p ∷ []) rest
  one_view : (ts rest : List Token) (v : View) → IsView l ts v rest → IsDeclaration l b ts (declaration.View v ∷ []) rest

-- definition = { "callers" path | column | procedure | view }, which all the tokens are
pub data AreDeclarations (l : Limits) (b : ℕ) : List Token → List Declaration → Type 0 where
  no_declarations : AreDeclarations l b [] []
  more_declarations : (ts us : List Token) (ds es : List Declaration) → IsDeclaration l b ts ds us → AreDeclarations l b us es → AreDeclarations l b ts (ds ++ es)

-- The text stands for the definition: it is UTF-8 of 262,144 bytes at most, and its tokens are those of the productions, with
-- formulas of depth 32 at most, in each of which at most 32 brackets are open, and at most 16 blocks of statements open.
pub record IsDefinition (text : List ℕ) (definition : Definition) : Type 0 where
  pub short : length text ≤ 262144
  pub encoded : is_utf8 text ≡ true
  pub tokens : List Token
  pub told : lexed text ≡ Ok tokens
  pub produced : AreDeclarations (record { depth = 32; nest = 32 }) 16 tokens definition.declarations

-- the tokens begin some definition, of any depth
pub record BeginsDefinition (tokens : List Token) : Type 0 where
  pub behind : List Token
  pub limits : Limits
  pub blocks : ℕ
  pub declarations : List Declaration
  pub produced : AreDeclarations limits blocks (tokens ++ behind) declarations

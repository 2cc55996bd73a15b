-- Reading definitions from the left: what stands at the front of a list of tokens, and the tokens behind it.
-- That these are what the productions allow is proved.
use Rattle.std.specs.Prelude.{ℕ, ℤ, ◌+◌, zero, suc, List, [], ◌∷◌, ◌++◌, length, Bool, true, false, if◌then◌else◌, Option, Some, None, option_map, Result, Ok, Err}
use Rattle.sheet_syntax_trees.specs.declared.token.Token.{Token}
use Rattle.sheet_syntax_trees.specs.declared.token.TokenKind.{TokenKind}
use Rattle.sheet_syntax_trees.specs.declared.token.TokenKind.TheVariants as kind
use Rattle.sheet_syntax_trees.specs.declared.token.SyntaxRefusal.{SyntaxRefusal}
use Rattle.sheet_syntax_trees.specs.declared.token.SyntaxRefusal.TheVariants.{Expected, TooNested}
use Rattle.sheet_syntax_trees.specs.Tokens.{lexed}
use Rattle.sheet_syntax_trees.specs.declared.tree.Tree.{Tree}
use Rattle.sheet_syntax_trees.specs.declared.tree.Formed.{Formed}
use Rattle.sheet_syntax_trees.specs.Reading.{Answer, ◌>>=◌, offset, line_of, or_expected, with_rest, name_of, name_at, formula_at, atom, setting, made, step_of}
use Rattle.sheet_define_data.specs.declared.definition.Path.{Path}
use Rattle.sheet_define_data.specs.declared.definition.TypeName.{TypeName}
use Rattle.sheet_define_data.specs.declared.definition.TypeName.TheVariants as type
use Rattle.sheet_define_data.specs.declared.definition.Literal.{Literal}
use Rattle.sheet_define_data.specs.declared.definition.Literal.TheVariants as literal
use Rattle.sheet_define_data.specs.declared.definition.Column.{Column}
use Rattle.sheet_define_data.specs.declared.definition.Content.TheVariants as content
use Rattle.sheet_define_data.specs.declared.definition.Parameter.{Parameter}
use Rattle.sheet_define_data.specs.declared.definition.Procedure.{Procedure}
use Rattle.sheet_define_data.specs.declared.definition.Show.{Show}
use Rattle.sheet_define_data.specs.declared.definition.Part.{Part}
use Rattle.sheet_define_data.specs.declared.definition.Part.TheVariants as part
use Rattle.sheet_define_data.specs.declared.definition.View.{View}
use Rattle.sheet_define_data.specs.declared.definition.Declaration.{Declaration}
use Rattle.sheet_define_data.specs.declared.definition.Declaration.TheVariants as declaration
use Rattle.sheet_define_data.specs.declared.statement.Target.{Target}
use Rattle.sheet_define_data.specs.declared.statement.Statement.{Statement}
use Rattle.sheet_define_data.specs.declared.statement.Statement.TheVariants as statement
use Rattle.sheet_define_reading.specs.declared.mark.Mark.{Mark}
use Rattle.sheet_define_reading.specs.declared.mark.Mark.TheVariants as mark
use Rattle.sheet_define_reading.specs.Marks.{mark_of, same_mark}

-- The text's length, the greatest depth of a formula, and how many brackets may be open in one.
pub record Bounds : Type 0 where
  pub end : ℕ
  pub depth : ℕ
  pub nest : ℕ

-- reads a thing at the front of tokens, and gives the tokens behind it
abbrev pub Reader : Type 0 → Type 0
Reader A = List Token → Answer (A × List Token)

-- the mark of the first token
abbrev pub mark_at : List Token → Mark
mark_at [] = mark.Other
mark_at (t ∷ ts) = mark_of t.kind

-- the tokens behind a first one of that mark
abbrev pub after : Mark → List Token → Option (List Token)
after m [] = None
after m (t ∷ ts) = if same_mark (mark_of t.kind) m then Some ts else None

-- the tokens behind a first one of that mark; else that one is refused
abbrev pub expect : ℕ → Mark → List Token → Answer (List Token)
expect end m ts = or_expected (offset end ts) (after m ts)

-- these things before those that were read behind them
abbrev pub with_front : {A : Type 0} → List A → Answer (List A × List Token) → Answer (List A × List Token)
with_front front (Ok x) = Ok (front ++ x.0, x.1)
with_front front (Err e) = Err e

-- what is read where a token stood that says that it is there
abbrev pub optional : {A : Type 0} → Reader A → List Token → Option (List Token) → Answer (Option A × List Token)
optional read ts None = Ok (None, ts)
optional read ts (Some rest) = read rest >>= (λ x. Ok (Some x.0, x.1))

-- the formula at the front
unfoldable pub formula : Bounds → Reader Tree
formula s ts = formula_at s.depth s.nest s.end ts >>= (λ x. Ok (x.0.tree, x.1))

-- ---- paths, types and first values

-- the names of a path behind the first one
unfoldable pub more_names : ℕ → Reader (List (List ℕ))
more_names end [] = Ok ([], [])
more_names end (d ∷ []) = if same_mark (mark_of d.kind) mark.Dot then Err (Expected end) else Ok ([], d ∷ [])
more_names end (d ∷ t ∷ ts) =
    if same_mark (mark_of d.kind) mark.Dot
    then or_expected t.start (name_of t.kind) >>= (λ name. with_front (name ∷ []) (more_names end ts))
    else Ok ([], d ∷ t ∷ ts)

-- the path at the front
unfoldable pub path : Bounds → Reader Path
path s ts =
    name_at s.end ts >>= (λ name.
    more_names s.end name.1 >>= (λ more.
    Ok (record { line = line_of ts; names = name.0 ∷ more.0 }, more.1)))

-- the type that begins with a token of that mark
abbrev pub type_by : Bounds → Token → List Token → Mark → Answer (TypeName × List Token)
type_by s t ts mark.Number = Ok (type.Number, ts)
type_by s t ts mark.Text = Ok (type.Text, ts)
type_by s t ts mark.Truth = Ok (type.Truth, ts)
type_by s t ts _ = path s (t ∷ ts) >>= (λ p. Ok (type.Object p.0, p.1))

-- the type at the front
unfoldable pub type_at : Bounds → Reader TypeName
type_at s [] = Err (Expected s.end)
type_at s (t ∷ ts) = type_by s t ts (mark_of t.kind)

-- a first value that is one token
abbrev pub truth_by : ℕ → Mark → Option Literal
truth_by line mark.True = Some (literal.Truth line true)
truth_by line mark.False = Some (literal.Truth line false)
truth_by line _ = None

-- the first value that a token is by itself
abbrev pub literal_of : ℕ → TokenKind → Option Literal
literal_of line (kind.Name name) = None
literal_of line (kind.Reserved word) = truth_by line (mark_of (kind.Reserved word))
literal_of line (kind.Number n) = Some (literal.Number line n)
literal_of line (kind.Text text) = Some (literal.Text line text)
literal_of line (kind.Symbol symbol) = None

-- the number that a token is
abbrev pub number_of : TokenKind → Option ℤ
number_of (kind.Name name) = None
number_of (kind.Reserved word) = None
number_of (kind.Number n) = Some n
number_of (kind.Text text) = None
number_of (kind.Symbol symbol) = None

-- the text that a token is
abbrev pub text_of : TokenKind → Option (List ℕ)
text_of (kind.Name name) = None
text_of (kind.Reserved word) = None
text_of (kind.Number n) = None
text_of (kind.Text text) = Some text
text_of (kind.Symbol symbol) = None

-- the number behind a minus
unfoldable pub negative : Bounds → Token → Reader Literal
negative s m [] = Err (Expected s.end)
negative s m (t ∷ ts) = or_expected t.start (number_of t.kind) >>= (λ n. Ok (literal.Negative m.line n, ts))

-- the first value that a token is, or the number behind the minus that it is
abbrev pub literal_or : Bounds → Token → List Token → Option Literal → Answer (Literal × List Token)
literal_or s t ts (Some v) = Ok (v, ts)
literal_or s t ts None = if same_mark (mark_of t.kind) mark.Minus then negative s t ts else Err (Expected t.start)

-- the first value at the front
unfoldable pub literal_at : Bounds → Reader Literal
literal_at s [] = Err (Expected s.end)
literal_at s (t ∷ ts) = literal_or s t ts (literal_of t.line t.kind)

-- ---- columns, behind the word that begins them

-- an object column, behind its word
unfoldable pub object_column : Bounds → ℕ → Token → Reader Column
object_column s depth w ts =
    name_at s.end ts >>= (λ name.
    expect s.end mark.OpenBrace name.1 >>= (λ rest.
    Ok (record { depth = depth; line = w.line; name = name.0; content = content.Object }, rest)))

-- whether the word "one" stood there, and the tokens behind it
abbrev pub one_or : List Token → Option (List Token) → Bool × List Token
one_or ts None = (false, ts)
one_or ts (Some rest) = (true, rest)

-- a state column, behind its type
abbrev pub state_behind : Bounds → ℕ → Token → List ℕ → TypeName → Bool × List Token → Answer (Column × List Token)
state_behind s depth w name t one =
    optional (literal_at s) one.1 (after mark.Equals one.1) >>= (λ first.
    Ok (record { depth = depth; line = w.line; name = name; content = content.State t one.0 first.0 }, first.1))

-- a state column, behind its word
unfoldable pub state_column : Bounds → ℕ → Token → Reader Column
state_column s depth w ts =
    name_at s.end ts >>= (λ name.
    expect s.end mark.Colon name.1 >>= (λ a.
    type_at s a >>= (λ t.
    state_behind s depth w name.0 t.0 (one_or t.1 (after mark.One t.1)))))

-- a formula column, behind its word
unfoldable pub formula_column : Bounds → ℕ → Token → Reader Column
formula_column s depth w ts =
    name_at s.end ts >>= (λ name.
    optional (type_at s) name.1 (after mark.Colon name.1) >>= (λ t.
    expect s.end mark.Equals t.1 >>= (λ a.
    formula s a >>= (λ f.
    Ok (record { depth = depth; line = w.line; name = name.0; content = content.Formula t.0 f.0 }, f.1)))))

-- ---- parameters

-- the parameter at the front
unfoldable pub parameter : Bounds → Reader Parameter
parameter s ts =
    name_at s.end ts >>= (λ name.
    expect s.end mark.Colon name.1 >>= (λ a.
    type_at s a >>= (λ t.
    Ok (record { line = line_of ts; name = name.0; values = t.0 }, t.1))))

-- no parameter more, and the closing parenthesis
abbrev pub closed : Bounds → Reader (List Parameter)
closed s ts = expect s.end mark.Close ts >>= (λ rest. Ok ([], rest))

-- behind a parameter: one more where a comma stood
abbrev pub more_by : Bounds → List Token → Option (List Token) → Reader (List Parameter) → Answer (List Parameter × List Token)
more_by s ts None more = closed s ts
more_by s ts (Some rest) more = parameter s rest >>= (λ p. with_front (p.0 ∷ []) (more p.1))

-- behind a parameter: at most so many more, each behind a comma
unfoldable pub more_parameters : Bounds → ℕ → Reader (List Parameter)
more_parameters s zero ts = closed s ts
more_parameters s (suc room) ts = more_by s ts (after mark.Comma ts) (λ rest. more_parameters s room rest)

-- behind the opening parenthesis: none where the closing one stood
abbrev pub parameters_or : Bounds → List Token → Option (List Token) → Answer (List Parameter × List Token)
parameters_or s ts None = parameter s ts >>= (λ p. with_front (p.0 ∷ []) (more_parameters s 15 p.1))
parameters_or s ts (Some rest) = Ok ([], rest)

-- the parameters in parentheses
unfoldable pub parameters : Bounds → Reader (List Parameter)
parameters s ts = expect s.end mark.Open ts >>= (λ a. parameters_or s a (after mark.Close a))

-- ---- targets

-- a name that no dot follows, and the tokens behind it
abbrev pub alone : List Token → Option (List ℕ × List Token)
alone [] = None
alone (t ∷ ts) = if same_mark (mark_at ts) mark.Dot then None else option_map (λ name. (name, ts)) (name_of t.kind)

-- a step of a target: its column where no dot follows
abbrev pub step_by : Bounds → ℕ → ℕ → Formed → List Token → Option (List ℕ × List Token) → (Formed → Reader Target) → Answer (Target × List Token)
step_by s at line f ts (Some x) more = Ok (record { line = line; object = Some f.tree; column = x.0 }, x.1)
step_by s at line f [] None more = Err (Expected s.end)
step_by s at line f (t ∷ ts) None more = or_expected t.start (step_of line f.tree t.kind) >>= (λ form. made s.depth at form f.depth >>= (λ g. more g ts))

-- the steps behind a formula that begins at that offset and line, at most so many, of which the last is the column
unfoldable pub last_step : Bounds → ℕ → ℕ → ℕ → Formed → Reader Target
last_step s zero at line f ts = Err (Expected (offset s.end ts))
last_step s (suc n) at line f ts = expect s.end mark.Dot ts >>= (λ a. step_by s at line f a (alone a) (λ g rest. last_step s n at line g rest))

-- a target: a name alone, or steps behind a formula
abbrev pub target_by : Bounds → List Token → Option (List ℕ × List Token) → Answer (Target × List Token)
target_by s ts (Some x) = Ok (record { line = line_of ts; object = None; column = x.0 }, x.1)
target_by s ts None =
    atom (setting s.depth s.end (length ts + 1) s.nest) ts >>= (λ x.
    last_step s (length x.1) (offset s.end ts) (line_of ts) x.0 x.1)

-- the target at the front
unfoldable pub target : Bounds → Reader Target
target s ts = target_by s ts (alone ts)

-- ---- statements, behind the word that begins them

-- a let, behind its word
unfoldable pub let_statement : Bounds → Token → Reader Statement
let_statement s w ts =
    name_at s.end ts >>= (λ name.
    expect s.end mark.Equals name.1 >>= (λ a.
    formula s a >>= (λ v.
    Ok (statement.Let w.line name.0 v.0, v.1))))

-- a set, behind its word
unfoldable pub set_statement : Bounds → Token → Reader Statement
set_statement s w ts =
    target s ts >>= (λ t.
    expect s.end mark.Equals t.1 >>= (λ a.
    formula s a >>= (λ v.
    Ok (statement.Set w.line t.0 v.0, v.1))))

-- an add, behind its word
unfoldable pub add_statement : Bounds → Token → Reader Statement
add_statement s w ts =
    formula s ts >>= (λ v.
    expect s.end mark.To v.1 >>= (λ a.
    target s a >>= (λ t.
    Ok (statement.Add w.line v.0 t.0, t.1))))

-- a remove, behind its word
unfoldable pub remove_statement : Bounds → Token → Reader Statement
remove_statement s w ts =
    formula s ts >>= (λ v.
    expect s.end mark.From v.1 >>= (λ a.
    target s a >>= (λ t.
    Ok (statement.Remove w.line v.0 t.0, t.1))))

-- a new, behind its word
unfoldable pub new_statement : Bounds → Token → Reader Statement
new_statement s w ts =
    name_at s.end ts >>= (λ name.
    expect s.end mark.Equals name.1 >>= (λ a.
    target s a >>= (λ t.
    Ok (statement.New w.line name.0 t.0, t.1))))

-- a delete, behind its word
unfoldable pub delete_statement : Bounds → Token → Reader Statement
delete_statement s w ts = formula s ts >>= (λ v. Ok (statement.Delete w.line v.0, v.1))

-- the text at the front
unfoldable pub text_at : ℕ → Reader (List ℕ)
text_at end [] = Err (Expected end)
text_at end (t ∷ ts) = with_rest ts (or_expected t.start (text_of t.kind))

-- a check, behind its word
unfoldable pub check_statement : Bounds → Token → Reader Statement
check_statement s w ts =
    formula s ts >>= (λ p.
    expect s.end mark.Else p.1 >>= (λ a.
    text_at s.end a >>= (λ message.
    Ok (statement.Check w.line p.0 message.0, message.1))))

-- a reply, behind its word
unfoldable pub reply_statement : Bounds → Token → Reader Statement
reply_statement s w ts = formula s ts >>= (λ v. Ok (statement.Reply w.line v.0, v.1))

-- behind the first block of an "if"
abbrev pub otherwise : Reader (List Statement) → Token → Tree → List Statement → List Token → Option (List Token) → Answer (Statement × List Token)
otherwise block w p body ts None = Ok (statement.If w.line p body, ts)
otherwise block w p body ts (Some rest) = block rest >>= (λ other. Ok (statement.IfElse w.line p body other.0, other.1))

-- an if, behind its word
unfoldable pub if_statement : Bounds → Reader (List Statement) → Token → Reader Statement
if_statement s block w ts =
    formula s ts >>= (λ p.
    block p.1 >>= (λ body.
    otherwise block w p.0 body.0 body.1 (after mark.Else body.1)))

-- a for, behind its word
unfoldable pub for_statement : Bounds → Reader (List Statement) → Token → Reader Statement
for_statement s block w ts =
    name_at s.end ts >>= (λ name.
    expect s.end mark.In name.1 >>= (λ a.
    formula s a >>= (λ v.
    block v.1 >>= (λ body.
    Ok (statement.For w.line name.0 v.0 body.0, body.1)))))

-- a statement that begins with a token of that mark
unfoldable pub statement_by : Bounds → Reader (List Statement) → Token → List Token → Mark → Answer (Statement × List Token)
statement_by s block w ts mark.Let = let_statement s w ts
statement_by s block w ts mark.Set = set_statement s w ts
statement_by s block w ts mark.Add = add_statement s w ts
statement_by s block w ts mark.Remove = remove_statement s w ts
statement_by s block w ts mark.New = new_statement s w ts
statement_by s block w ts mark.Delete = delete_statement s w ts
statement_by s block w ts mark.Check = check_statement s w ts
statement_by s block w ts mark.Reply = reply_statement s w ts
statement_by s block w ts mark.If = if_statement s block w ts
statement_by s block w ts mark.For = for_statement s block w ts
statement_by s block w ts _ = Err (Expected w.start)

-- things of a kind up to a closing brace, and the tokens behind it: at most so many
abbrev pub many_by : {A : Type 0} → (Token → List Token → Mark → Answer (A × List Token)) → Token → List Token → Bool → Reader (List A) → Answer (List A × List Token)
many_by one t ts true more = Ok ([], ts)
many_by one t ts false more = one t ts (mark_of t.kind) >>= (λ x. with_front (x.0 ∷ []) (more x.1))

-- things of a kind up to a closing brace, at most so many, where the text may end
unfoldable pub many : {A : Type 0} → ℕ → (Token → List Token → Mark → Answer (A × List Token)) → ℕ → Reader (List A)
many end one n [] = Err (Expected end)
many end one zero (t ∷ ts) = Err (Expected t.start)
many end one (suc n) (t ∷ ts) = many_by one t ts (same_mark (mark_of t.kind) mark.CloseBrace) (λ rest. many end one n rest)

-- a block of statements, in which so many, with it, may be opened in each other
unfoldable pub block : Bounds → ℕ → Reader (List Statement)
block s zero ts = expect s.end mark.OpenBrace ts >>= (λ rest. Err (TooNested (offset s.end ts)))
block s (suc n) ts = expect s.end mark.OpenBrace ts >>= (λ a. many s.end (statement_by s (λ rest. block s n rest)) (length a) a)

-- ---- procedures and views, behind the word that begins them

-- a procedure, behind its word
unfoldable pub procedure : Bounds → ℕ → Token → Reader Procedure
procedure s blocks w ts =
    name_at s.end ts >>= (λ name.
    parameters s name.1 >>= (λ ps.
    optional (formula s) ps.1 (after mark.Allow ps.1) >>= (λ allow.
    block s blocks allow.1 >>= (λ body.
    Ok (record { line = w.line; name = name.0; parameters = ps.0; allow = allow.0; body = body.0 }, body.1)))))

-- a slot, behind its word
unfoldable pub show : Bounds → Token → Reader Show
show s w ts =
    name_at s.end ts >>= (λ name.
    expect s.end mark.Equals name.1 >>= (λ a.
    formula s a >>= (λ f.
    Ok (record { line = w.line; name = name.0; shown = f.0 }, f.1))))

-- a slot of a table, which begins with a token of that mark
unfoldable pub show_by : Bounds → Token → List Token → Mark → Answer (Show × List Token)
show_by s w ts mark.Show = show s w ts
show_by s w ts _ = Err (Expected w.start)

-- a table, behind its word
unfoldable pub table : Bounds → Token → Reader Part
table s w ts =
    name_at s.end ts >>= (λ name.
    expect s.end mark.Equals name.1 >>= (λ a.
    name_at s.end a >>= (λ variable.
    expect s.end mark.In variable.1 >>= (λ c.
    formula s c >>= (λ f.
    expect s.end mark.OpenBrace f.1 >>= (λ d.
    many s.end (show_by s) (length d) d >>= (λ shows.
    Ok (part.Table w.line name.0 variable.0 f.0 shows.0, shows.1))))))))

-- a slot or a table, which begins with a token of that mark
unfoldable pub part_by : Bounds → Token → List Token → Mark → Answer (Part × List Token)
part_by s w ts mark.Show = show s w ts >>= (λ x. Ok (part.Show x.0, x.1))
part_by s w ts mark.Table = table s w ts
part_by s w ts _ = Err (Expected w.start)

-- a view, behind its word
unfoldable pub view : Bounds → Token → Reader View
view s w ts =
    name_at s.end ts >>= (λ name.
    parameters s name.1 >>= (λ ps.
    optional (formula s) ps.1 (after mark.Allow ps.1) >>= (λ allow.
    expect s.end mark.OpenBrace allow.1 >>= (λ a.
    many s.end (part_by s) (length a) a >>= (λ parts.
    Ok (record { line = w.line; name = name.0; parameters = ps.0; allow = allow.0; parts = parts.0 }, parts.1))))))

-- ---- declarations

-- One turn, where so many object columns are open: a declaration or a closing brace, how many are open then, and the tokens behind.
abbrev pub Turn : Type 0
Turn = Option Declaration × ℕ × List Token

-- the turn that finds a column
abbrev pub column_found : ℕ → Answer (Column × List Token) → Answer Turn
column_found opened (Ok c) = Ok (Some (declaration.Column c.0), opened, c.1)
column_found opened (Err e) = Err e

-- a declaration that stands in no object column, and begins with a token of that mark
unfoldable pub outermost_by : Bounds → ℕ → Token → List Token → Mark → Answer Turn
outermost_by s blocks w ts mark.Callers = path s ts >>= (λ p. Ok (Some (declaration.Callers w.line p.0), 0, p.1))
outermost_by s blocks w ts mark.Procedure = procedure s blocks w ts >>= (λ p. Ok (Some (declaration.Procedure p.0), 0, p.1))
outermost_by s blocks w ts mark.View = view s w ts >>= (λ v. Ok (Some (declaration.View v.0), 0, v.1))
outermost_by s blocks w ts _ = Err (Expected w.start)

-- a declaration that stands in no object column
abbrev pub outside : Bounds → ℕ → ℕ → Token → List Token → Mark → Answer Turn
outside s blocks zero w ts m = outermost_by s blocks w ts m
outside s blocks (suc opened) w ts m = Err (Expected w.start)

-- a closing brace, where so many object columns are open
abbrev pub closing : ℕ → Token → List Token → Answer Turn
closing zero w ts = Err (Expected w.start)
closing (suc opened) w ts = Ok (None, opened, ts)

-- the turn at a token of that mark
unfoldable pub turn_by : Bounds → ℕ → ℕ → Token → List Token → Mark → Answer Turn
turn_by s blocks opened w ts mark.Object = column_found (suc opened) (object_column s opened w ts)
turn_by s blocks opened w ts mark.State = column_found opened (state_column s opened w ts)
turn_by s blocks opened w ts mark.Formula = column_found opened (formula_column s opened w ts)
turn_by s blocks opened w ts mark.CloseBrace = closing opened w ts
turn_by s blocks opened w ts m = outside s blocks opened w ts m

-- these declarations before those that are found behind them
abbrev pub all_before : List Declaration → Answer (List Declaration) → Answer (List Declaration)
all_before front (Ok ds) = Ok (front ++ ds)
all_before front (Err e) = Err e

-- what a turn found, as a list
abbrev pub found_list : Option Declaration → List Declaration
found_list None = []
found_list (Some d) = d ∷ []

-- the end of the text, where so many object columns are open
abbrev pub ended : ℕ → ℕ → Answer (List Declaration)
ended end zero = Ok []
ended end (suc opened) = Err (Expected end)

-- all tokens, in at most so many turns, where so many object columns are open
unfoldable pub declarations : Bounds → ℕ → ℕ → ℕ → List Token → Answer (List Declaration)
declarations s blocks n opened [] = ended s.end opened
declarations s blocks zero opened (t ∷ ts) = Err (Expected t.start)
declarations s blocks (suc n) opened (t ∷ ts) =
    turn_by s blocks opened t ts (mark_of t.kind) >>= (λ x.
    all_before (found_list x.0) (declarations s blocks n x.1 x.2))

-- the bounds of definitions, over a text of that length
abbrev pub usual : ℕ → Bounds
usual end = record { end = end; depth = 32; nest = 32 }

-- the declarations that all the tokens are
unfoldable pub whole_definition : ℕ → List Token → Answer (List Declaration)
whole_definition end ts = declarations (usual end) 16 (length ts) 0 ts

-- what is read of a text, with the offset of each refusal
abbrev pub definition_read : List ℕ → Answer (List Declaration)
definition_read text = lexed text >>= (λ tokens. whole_definition (length text) tokens)

-- Two small definitions, with their texts.
use Rattle.std.specs.Prelude.{◌≡◌, ℕ, List, [], ◌∷◌, ◌++◌, pos, true, false, Some, None, codes}
use Rattle.sheet_syntax_trees.specs.declared.operators.Operator.TheVariants as operator
use Rattle.sheet_syntax_trees.specs.declared.operators.Function.TheVariants as function
use Rattle.sheet_syntax_trees.specs.declared.operators.Gathering.TheVariants as gathering
use Rattle.sheet_syntax_trees.specs.declared.operators.Quantifier.TheVariants as quantifier
use Rattle.sheet_syntax_trees.specs.declared.tree.Tree.TheVariants as tree
use Rattle.sheet_define_data.specs.declared.definition.TypeName.TheVariants as type
use Rattle.sheet_define_data.specs.declared.definition.Literal.TheVariants as literal
use Rattle.sheet_define_data.specs.declared.definition.Content.{Content}
use Rattle.sheet_define_data.specs.declared.definition.Content.TheVariants as content
use Rattle.sheet_define_data.specs.declared.definition.Declaration.{Declaration}
use Rattle.sheet_define_data.specs.declared.definition.Part.TheVariants as part
use Rattle.sheet_define_data.specs.declared.definition.Declaration.TheVariants as declaration
use Rattle.sheet_define_data.specs.declared.statement.Statement.TheVariants as statement
use Rattle.sheet_define_data.specs.declared.definition.Definition.{Definition}
use Rattle.sheet_define_data.specs.Grammar.{IsDefinition}
use Rattle.sheet_define_data.specs.Printing.{definition_text}

-- a column of that depth, line, name and content
abbrev pub column : ℕ → ℕ → List ℕ → Content → Declaration
column depth line name held = declaration.Column (record { depth = depth; line = line; name = name; content = held })

-- a definition of courses, as it is written
abbrev pub courses_text : List ℕ
courses_text =
    codes "callers Member\n"
    ++ codes "object Member {\n"
    ++ codes "  state name : text one\n"
    ++ codes "}\n"
    ++ codes "object Course {\n"
    ++ codes "  state capacity : number one = 8\n"
    ++ codes "  object Seat {\n"
    ++ codes "    state member : Member one\n"
    ++ codes "  }\n"
    ++ codes "  formula free : number = capacity - count(Seat)\n"
    ++ codes "}\n"
    ++ codes "procedure leave(c : Course, last : truth) allow operator {\n"
    ++ codes "  if last {\n"
    ++ codes "    delete c\n"
    ++ codes "  } else {\n"
    ++ codes "    for s in c.Seat {\n"
    ++ codes "      set s.member = caller\n"
    ++ codes "    }\n"
    ++ codes "  }\n"
    ++ codes "}\n"
    ++ codes "view open() {\n"
    ++ codes "  table courses = c in Course {\n"
    ++ codes "    show free = c.free\n"
    ++ codes "  }\n"
    ++ codes "}\n"

-- the definition that it stands for
abbrev pub courses : Definition
courses =
    record {
      declarations =
          declaration.Callers 1 (record { line = 1; names = codes "Member" ∷ [] })
          ∷ column 0 2 (codes "Member") content.Object
          ∷ column 1 3 (codes "name") (content.State type.Text true None)
          ∷ column 0 5 (codes "Course") content.Object
          ∷ column 1 6 (codes "capacity") (content.State type.Number true (Some (literal.Number 6 (pos 8))))
          ∷ column 1 7 (codes "Seat") content.Object
          ∷ column 2 8 (codes "member") (content.State (type.Object (record { line = 8; names = codes "Member" ∷ [] })) true None)
          ∷ column 1 10 (codes "free")
          (content.Formula (Some type.Number)
          (tree.Binary 10 operator.Minus (tree.Name 10 (codes "capacity")) (tree.Call 10 function.Count (tree.Name 10 (codes "Seat")))))
          ∷ declaration.Procedure (record {
            line = 12;
            name = codes "leave";
            parameters = record { line = 12; name = codes "c"; values = type.Object (record { line = 12; names = codes "Course" ∷ [] }) }
                ∷ record { line = 12; name = codes "last"; values = type.Truth }
                ∷ [];
            allow = Some (tree.Operator 12);
            body = statement.IfElse 13 (tree.Name 13 (codes "last")) (statement.Delete 14 (tree.Name 14 (codes "c")) ∷ [])
                (statement.For 16 (codes "s") (tree.Child 16 (tree.Name 16 (codes "c")) (codes "Seat"))
                (statement.Set 17
                (record { line = 17; object = Some (tree.Name 17 (codes "s")); column = codes "member" }) (tree.Caller 17)
                ∷ [])
                ∷ [])
                ∷ [];
          })
          ∷ declaration.View (record {
            line = 21;
            name = codes "open";
            parameters = [];
            allow = None;
            parts = part.Table 22 (codes "courses") (codes "c") (tree.Name 22 (codes "Course"))
                (record { line = 23; name = codes "free"; shown = tree.Child 23 (tree.Name 23 (codes "c")) (codes "free") } ∷ [])
                ∷ [];
          })
          ∷ [];
    }

-- a definition of a workshop, as it is written
abbrev pub workshop_text : List ℕ
workshop_text =
    codes "state open : truth one = true\n"
    ++ codes "state least : number = -3\n"
    ++ codes "state title : text one = \"say \\\"go\\\"\"\n"
    ++ codes "object Order {\n"
    ++ codes "  state notes : text\n"
    ++ codes "  state paid : truth one = false\n"
    ++ codes "  object Line {\n"
    ++ codes "    state parts : Order.Line\n"
    ++ codes "  }\n"
    ++ codes "}\n"
    ++ codes "procedure move(l : Order.Line) {\n"
    ++ codes "  let parts = l.parts\n"
    ++ codes "  check count(parts) > least else \"too few parts\"\n"
    ++ codes "  new n = Order\n"
    ++ codes "  add title to l.up.notes\n"
    ++ codes "  remove {} from l.parts\n"
    ++ codes "  if open {\n"
    ++ codes "    set open = not open\n"
    ++ codes "  }\n"
    ++ codes "  reply n\n"
    ++ codes "}\n"
    ++ codes "procedure clear() {\n"
    ++ codes "}\n"
    ++ codes "view lines(l : Order.Line) allow operator {\n"
    ++ codes "  show parts = {p : p in l.parts | any(q in p.parts | q = l)}\n"
    ++ codes "  show orders = sum(1 : o in Order) + (-least)\n"
    ++ codes "}\n"

-- the definition that it stands for
abbrev pub workshop : Definition
workshop =
    record {
      declarations =
          column 0 1 (codes "open") (content.State type.Truth true (Some (literal.Truth 1 true)))
          ∷ column 0 2 (codes "least") (content.State type.Number false (Some (literal.Negative 2 (pos 3))))
          ∷ column 0 3 (codes "title") (content.State type.Text true (Some (literal.Text 3 (codes "say \"go\""))))
          ∷ column 0 4 (codes "Order") content.Object
          ∷ column 1 5 (codes "notes") (content.State type.Text false None)
          ∷ column 1 6 (codes "paid") (content.State type.Truth true (Some (literal.Truth 6 false)))
          ∷ column 1 7 (codes "Line") content.Object
          ∷ column 2 8 (codes "parts") (content.State (type.Object (record { line = 8; names = codes "Order" ∷ codes "Line" ∷ [] })) false None)
          ∷ declaration.Procedure (record {
            line = 11;
            name = codes "move";
            parameters = record { line = 11; name = codes "l"; values = type.Object (record { line = 11; names = codes "Order" ∷ codes "Line" ∷ [] }) } ∷ [];
            allow = None;
            body = statement.Let 12 (codes "parts") (tree.Child 12 (tree.Name 12 (codes "l")) (codes "parts"))
                ∷ statement.Check 13
                (tree.Binary 13 operator.Greater (tree.Call 13 function.Count (tree.Name 13 (codes "parts"))) (tree.Name 13 (codes "least")))
                (codes "too few parts")
                ∷ statement.New 14 (codes "n") (record { line = 14; object = None; column = codes "Order" })
                ∷ statement.Add 15 (tree.Name 15 (codes "title"))
                (record { line = 15; object = Some (tree.Up 15 (tree.Name 15 (codes "l"))); column = codes "notes" })
                ∷ statement.Remove 16 (tree.Set 16 []) (record { line = 16; object = Some (tree.Name 16 (codes "l")); column = codes "parts" })
                ∷ statement.If 17 (tree.Name 17 (codes "open"))
                (statement.Set 18 (record { line = 18; object = None; column = codes "open" }) (tree.Not 18 (tree.Name 18 (codes "open")))
                ∷ [])
                ∷ statement.Reply 20 (tree.Name 20 (codes "n"))
                ∷ [];
          })
          ∷ declaration.Procedure (record { line = 22; name = codes "clear"; parameters = []; allow = None; body = [] })
          ∷ declaration.View (record {
            line = 24;
            name = codes "lines";
            parameters = record { line = 24; name = codes "l"; values = type.Object (record { line = 24; names = codes "Order" ∷ codes "Line" ∷ [] }) } ∷ [];
            allow = Some (tree.Operator 24);
            parts = part.Show (record {
              line = 25;
              name = codes "parts";
              shown = tree.GatherWhere 25 gathering.Union (tree.Name 25 (codes "p")) (codes "p")
                  (tree.Child 25 (tree.Name 25 (codes "l")) (codes "parts"))
                  (tree.Test 25 quantifier.Any (codes "q") (tree.Child 25 (tree.Name 25 (codes "p")) (codes "parts"))
                  (tree.Binary 25 operator.Equals (tree.Name 25 (codes "q")) (tree.Name 25 (codes "l"))));
            })
                ∷ part.Show (record {
                  line = 26;
                  name = codes "orders";
                  shown = tree.Binary 26 operator.Plus
                      (tree.Gather 26 gathering.Sum (tree.Number 26 (pos 1)) (codes "o") (tree.Name 26 (codes "Order")))
                      (tree.Negate 26 (tree.Name 26 (codes "least")));
                })
                ∷ [];
          })
          ∷ [];
    }

-- each text stands for its definition
abbrev pub ExamplesAreRead : Type 0
ExamplesAreRead = IsDefinition courses_text courses × IsDefinition workshop_text workshop

-- and is what that definition is printed as
abbrev pub ExamplesArePrinted : Type 0
ExamplesArePrinted = (definition_text courses ≡ courses_text) × (definition_text workshop ≡ workshop_text)

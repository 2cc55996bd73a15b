-- A club's courses and members, with the text.
use Rattle.std.specs.Prelude.{◌≡◌, ℕ, List, [], ◌∷◌, ◌++◌, pos, true, false, Some, None, codes}
use Rattle.sheet_syntax_trees.specs.declared.operators.Operator.TheVariants as operator
use Rattle.sheet_syntax_trees.specs.declared.operators.Function.TheVariants as function
use Rattle.sheet_syntax_trees.specs.declared.operators.Gathering.TheVariants as gathering
use Rattle.sheet_syntax_trees.specs.declared.tree.Tree.TheVariants as tree
use Rattle.sheet_define_data.specs.declared.definition.TypeName.TheVariants as type
use Rattle.sheet_define_data.specs.declared.definition.Content.TheVariants as content
use Rattle.sheet_define_data.specs.declared.definition.Part.TheVariants as part
use Rattle.sheet_define_data.specs.declared.definition.Declaration.TheVariants as declaration
use Rattle.sheet_define_data.specs.declared.statement.Statement.TheVariants as statement
use Rattle.sheet_define_data.specs.declared.definition.Definition.{Definition}
use Rattle.sheet_define_data.specs.Grammar.{IsDefinition}
use Rattle.sheet_define_data.specs.Printing.{definition_text}
use Rattle.sheet_define_data.specs.Examples.{column}

-- the definition of a club, as it is written
abbrev pub club_text : List ℕ
club_text =
    codes "callers Member\n"
    ++ codes "object Course {\n"
    ++ codes "  state title : text one\n"
    ++ codes "  state capacity : number one\n"
    ++ codes "  object Seat {\n"
    ++ codes "    state member : Member one\n"
    ++ codes "  }\n"
    ++ codes "  formula taken = Seat.member\n"
    ++ codes "  formula free = capacity - count(Seat)\n"
    ++ codes "}\n"
    ++ codes "object Member {\n"
    ++ codes "  state name : text one\n"
    ++ codes "  formula courses = {c : c in Course | this in c.taken}\n"
    ++ codes "}\n"
    ++ codes "procedure add_course(title : text, capacity : number) allow operator {\n"
    ++ codes "  check capacity >= 0 else \"capacity is below zero\"\n"
    ++ codes "  new c = Course\n"
    ++ codes "  set c.title = title\n"
    ++ codes "  set c.capacity = capacity\n"
    ++ codes "  reply c\n"
    ++ codes "}\n"
    ++ codes "procedure add_member(name : text) allow operator {\n"
    ++ codes "  new m = Member\n"
    ++ codes "  set m.name = name\n"
    ++ codes "  reply m\n"
    ++ codes "}\n"
    ++ codes "procedure set_name(m : Member, name : text) allow operator {\n"
    ++ codes "  set m.name = name\n"
    ++ codes "}\n"
    ++ codes "procedure join(c : Course) {\n"
    ++ codes "  check count(caller) = 1 else \"no member\"\n"
    ++ codes "  check not caller in c.taken else \"already joined\"\n"
    ++ codes "  check c.free > 0 else \"the course is full\"\n"
    ++ codes "  new s = c.Seat\n"
    ++ codes "  set s.member = caller\n"
    ++ codes "  reply s\n"
    ++ codes "}\n"
    ++ codes "procedure enrol(c : Course, m : Member) allow operator {\n"
    ++ codes "  check not m in c.taken else \"already joined\"\n"
    ++ codes "  check c.free > 0 else \"the course is full\"\n"
    ++ codes "  new s = c.Seat\n"
    ++ codes "  set s.member = m\n"
    ++ codes "  reply s\n"
    ++ codes "}\n"
    ++ codes "procedure leave(c : Course) {\n"
    ++ codes "  delete {s : s in c.Seat | s.member = caller}\n"
    ++ codes "}\n"
    ++ codes "procedure drop_member(m : Member) allow operator {\n"
    ++ codes "  delete m\n"
    ++ codes "}\n"
    ++ codes "procedure wipe(c : Course) allow operator {\n"
    ++ codes "  for s in c.Seat {\n"
    ++ codes "    delete c\n"
    ++ codes "  }\n"
    ++ codes "  check false else \"kept\"\n"
    ++ codes "}\n"
    ++ codes "view mine() {\n"
    ++ codes "  show name = caller.name\n"
    ++ codes "  table courses = c in caller.courses {\n"
    ++ codes "    show title = c.title\n"
    ++ codes "    show free = c.free\n"
    ++ codes "  }\n"
    ++ codes "}\n"
    ++ codes "view overview() allow operator {\n"
    ++ codes "  table courses = c in Course {\n"
    ++ codes "    show title = c.title\n"
    ++ codes "    show free = c.free\n"
    ++ codes "  }\n"
    ++ codes "  show seats = count(Course.Seat)\n"
    ++ codes "}\n"

-- the definition that it stands for
abbrev pub club : Definition
club =
    record {
      declarations =
          declaration.Callers 1 (record { line = 1; names = codes "Member" ∷ [] })
          ∷ column 0 2 (codes "Course") content.Object
          ∷ column 1 3 (codes "title") (content.State type.Text true None)
          ∷ column 1 4 (codes "capacity") (content.State type.Number true None)
          ∷ column 1 5 (codes "Seat") content.Object
          ∷ column 2 6 (codes "member") (content.State (type.Object (record { line = 6; names = codes "Member" ∷ [] })) true None)
          ∷ column 1 8 (codes "taken") (content.Formula None (tree.Child 8 (tree.Name 8 (codes "Seat")) (codes "member")))
          ∷ column 1 9 (codes "free")
          (content.Formula None (tree.Binary 9 operator.Minus (tree.Name 9 (codes "capacity")) (tree.Call 9 function.Count (tree.Name 9 (codes "Seat")))))
          ∷ column 0 11 (codes "Member") content.Object
          ∷ column 1 12 (codes "name") (content.State type.Text true None)
          ∷ column 1 13 (codes "courses")
          (content.Formula None
          (tree.GatherWhere 13 gathering.Union (tree.Name 13 (codes "c")) (codes "c") (tree.Name 13 (codes "Course"))
          (tree.Binary 13 operator.In (tree.This 13) (tree.Child 13 (tree.Name 13 (codes "c")) (codes "taken")))))
          ∷ declaration.Procedure (record {
            line = 15;
            name = codes "add_course";
            parameters = record { line = 15; name = codes "title"; values = type.Text }
                ∷ record { line = 15; name = codes "capacity"; values = type.Number }
                ∷ [];
            allow = Some (tree.Operator 15);
            body = statement.Check 16
                (tree.Binary 16 operator.AtLeast (tree.Name 16 (codes "capacity")) (tree.Number 16 (pos 0))) (codes "capacity is below zero")
                ∷ statement.New 17 (codes "c") (record { line = 17; object = None; column = codes "Course" })
                ∷ statement.Set 18
                (record { line = 18; object = Some (tree.Name 18 (codes "c")); column = codes "title" }) (tree.Name 18 (codes "title"))
                ∷ statement.Set 19
                (record { line = 19; object = Some (tree.Name 19 (codes "c")); column = codes "capacity" }) (tree.Name 19 (codes "capacity"))
                ∷ statement.Reply 20 (tree.Name 20 (codes "c"))
                ∷ [];
          })
          ∷ declaration.Procedure (record {
            line = 22;
            name = codes "add_member";
            parameters = record { line = 22; name = codes "name"; values = type.Text } ∷ [];
            allow = Some (tree.Operator 22);
            body = statement.New 23 (codes "m") (record { line = 23; object = None; column = codes "Member" })
                ∷ statement.Set 24
                (record { line = 24; object = Some (tree.Name 24 (codes "m")); column = codes "name" }) (tree.Name 24 (codes "name"))
                ∷ statement.Reply 25 (tree.Name 25 (codes "m"))
                ∷ [];
          })
          ∷ declaration.Procedure (record {
            line = 27;
            name = codes "set_name";
            parameters = record { line = 27; name = codes "m"; values = type.Object (record { line = 27; names = codes "Member" ∷ [] }) }
                ∷ record { line = 27; name = codes "name"; values = type.Text }
                ∷ [];
            allow = Some (tree.Operator 27);
            body = statement.Set 28
                (record { line = 28; object = Some (tree.Name 28 (codes "m")); column = codes "name" }) (tree.Name 28 (codes "name"))
                ∷ [];
          })
          ∷ declaration.Procedure (record {
            line = 30;
            name = codes "join";
            parameters = record { line = 30; name = codes "c"; values = type.Object (record { line = 30; names = codes "Course" ∷ [] }) } ∷ [];
            allow = None;
            body = statement.Check 31
                (tree.Binary 31 operator.Equals (tree.Call 31 function.Count (tree.Caller 31)) (tree.Number 31 (pos 1))) (codes "no member")
                ∷ statement.Check 32
                (tree.Not 32 (tree.Binary 32 operator.In (tree.Caller 32) (tree.Child 32 (tree.Name 32 (codes "c")) (codes "taken"))))
                (codes "already joined")
                ∷ statement.Check 33
                (tree.Binary 33 operator.Greater (tree.Child 33 (tree.Name 33 (codes "c")) (codes "free")) (tree.Number 33 (pos 0)))
                (codes "the course is full")
                ∷ statement.New 34 (codes "s") (record { line = 34; object = Some (tree.Name 34 (codes "c")); column = codes "Seat" })
                ∷ statement.Set 35 (record { line = 35; object = Some (tree.Name 35 (codes "s")); column = codes "member" }) (tree.Caller 35)
                ∷ statement.Reply 36 (tree.Name 36 (codes "s"))
                ∷ [];
          })
          ∷ declaration.Procedure (record {
            line = 38;
            name = codes "enrol";
            parameters = record { line = 38; name = codes "c"; values = type.Object (record { line = 38; names = codes "Course" ∷ [] }) }
                ∷ record { line = 38; name = codes "m"; values = type.Object (record { line = 38; names = codes "Member" ∷ [] }) }
                ∷ [];
            allow = Some (tree.Operator 38);
            body = statement.Check 39
                (tree.Not 39
                (tree.Binary 39 operator.In (tree.Name 39 (codes "m")) (tree.Child 39 (tree.Name 39 (codes "c")) (codes "taken"))))
                (codes "already joined")
                ∷ statement.Check 40
                (tree.Binary 40 operator.Greater (tree.Child 40 (tree.Name 40 (codes "c")) (codes "free")) (tree.Number 40 (pos 0)))
                (codes "the course is full")
                ∷ statement.New 41 (codes "s") (record { line = 41; object = Some (tree.Name 41 (codes "c")); column = codes "Seat" })
                ∷ statement.Set 42
                (record { line = 42; object = Some (tree.Name 42 (codes "s")); column = codes "member" }) (tree.Name 42 (codes "m"))
                ∷ statement.Reply 43 (tree.Name 43 (codes "s"))
                ∷ [];
          })
          ∷ declaration.Procedure (record {
            line = 45;
            name = codes "leave";
            parameters = record { line = 45; name = codes "c"; values = type.Object (record { line = 45; names = codes "Course" ∷ [] }) } ∷ [];
            allow = None;
            body = statement.Delete 46
                (tree.GatherWhere 46 gathering.Union (tree.Name 46 (codes "s")) (codes "s")
                (tree.Child 46 (tree.Name 46 (codes "c")) (codes "Seat"))
                (tree.Binary 46 operator.Equals (tree.Child 46 (tree.Name 46 (codes "s")) (codes "member")) (tree.Caller 46)))
                ∷ [];
          })
          ∷ declaration.Procedure (record {
            line = 48;
            name = codes "drop_member";
            parameters = record { line = 48; name = codes "m"; values = type.Object (record { line = 48; names = codes "Member" ∷ [] }) } ∷ [];
            allow = Some (tree.Operator 48);
            body = statement.Delete 49 (tree.Name 49 (codes "m")) ∷ [];
          })
          ∷ declaration.Procedure (record {
            line = 51;
            name = codes "wipe";
            parameters = record { line = 51; name = codes "c"; values = type.Object (record { line = 51; names = codes "Course" ∷ [] }) } ∷ [];
            allow = Some (tree.Operator 51);
            body = statement.For 52 (codes "s") (tree.Child 52 (tree.Name 52 (codes "c")) (codes "Seat"))
                (statement.Delete 53 (tree.Name 53 (codes "c")) ∷ [])
                ∷ statement.Check 55 (tree.Truth 55 false) (codes "kept")
                ∷ [];
          })
          ∷ declaration.View (record {
            line = 57;
            name = codes "mine";
            parameters = [];
            allow = None;
            parts = part.Show (record { line = 58; name = codes "name"; shown = tree.Child 58 (tree.Caller 58) (codes "name") })
                ∷ part.Table 59 (codes "courses") (codes "c") (tree.Child 59 (tree.Caller 59) (codes "courses"))
                (record { line = 60; name = codes "title"; shown = tree.Child 60 (tree.Name 60 (codes "c")) (codes "title") }
                ∷ record { line = 61; name = codes "free"; shown = tree.Child 61 (tree.Name 61 (codes "c")) (codes "free") }
                ∷ [])
                ∷ [];
          })
          ∷ declaration.View (record {
            line = 64;
            name = codes "overview";
            parameters = [];
            allow = Some (tree.Operator 64);
            parts = part.Table 65 (codes "courses") (codes "c") (tree.Name 65 (codes "Course"))
                (record { line = 66; name = codes "title"; shown = tree.Child 66 (tree.Name 66 (codes "c")) (codes "title") }
                ∷ record { line = 67; name = codes "free"; shown = tree.Child 67 (tree.Name 67 (codes "c")) (codes "free") }
                ∷ [])
                ∷ part.Show (record {
                  line = 69;
                  name = codes "seats";
                  shown = tree.Call 69 function.Count (tree.Child 69 (tree.Name 69 (codes "Course")) (codes "Seat"));
                })
                ∷ [];
          })
          ∷ [];
    }

-- the text that it is printed as: an operand with an operator stands in parentheses
abbrev pub printed_club_text : List ℕ
printed_club_text =
    codes "callers Member\n"
    ++ codes "object Course {\n"
    ++ codes "  state title : text one\n"
    ++ codes "  state capacity : number one\n"
    ++ codes "  object Seat {\n"
    ++ codes "    state member : Member one\n"
    ++ codes "  }\n"
    ++ codes "  formula taken = Seat.member\n"
    ++ codes "  formula free = capacity - count(Seat)\n"
    ++ codes "}\n"
    ++ codes "object Member {\n"
    ++ codes "  state name : text one\n"
    ++ codes "  formula courses = {c : c in Course | this in c.taken}\n"
    ++ codes "}\n"
    ++ codes "procedure add_course(title : text, capacity : number) allow operator {\n"
    ++ codes "  check capacity >= 0 else \"capacity is below zero\"\n"
    ++ codes "  new c = Course\n"
    ++ codes "  set c.title = title\n"
    ++ codes "  set c.capacity = capacity\n"
    ++ codes "  reply c\n"
    ++ codes "}\n"
    ++ codes "procedure add_member(name : text) allow operator {\n"
    ++ codes "  new m = Member\n"
    ++ codes "  set m.name = name\n"
    ++ codes "  reply m\n"
    ++ codes "}\n"
    ++ codes "procedure set_name(m : Member, name : text) allow operator {\n"
    ++ codes "  set m.name = name\n"
    ++ codes "}\n"
    ++ codes "procedure join(c : Course) {\n"
    ++ codes "  check count(caller) = 1 else \"no member\"\n"
    ++ codes "  check not (caller in c.taken) else \"already joined\"\n"
    ++ codes "  check c.free > 0 else \"the course is full\"\n"
    ++ codes "  new s = c.Seat\n"
    ++ codes "  set s.member = caller\n"
    ++ codes "  reply s\n"
    ++ codes "}\n"
    ++ codes "procedure enrol(c : Course, m : Member) allow operator {\n"
    ++ codes "  check not (m in c.taken) else \"already joined\"\n"
    ++ codes "  check c.free > 0 else \"the course is full\"\n"
    ++ codes "  new s = c.Seat\n"
    ++ codes "  set s.member = m\n"
    ++ codes "  reply s\n"
    ++ codes "}\n"
    ++ codes "procedure leave(c : Course) {\n"
    ++ codes "  delete {s : s in c.Seat | s.member = caller}\n"
    ++ codes "}\n"
    ++ codes "procedure drop_member(m : Member) allow operator {\n"
    ++ codes "  delete m\n"
    ++ codes "}\n"
    ++ codes "procedure wipe(c : Course) allow operator {\n"
    ++ codes "  for s in c.Seat {\n"
    ++ codes "    delete c\n"
    ++ codes "  }\n"
    ++ codes "  check false else \"kept\"\n"
    ++ codes "}\n"
    ++ codes "view mine() {\n"
    ++ codes "  show name = caller.name\n"
    ++ codes "  table courses = c in caller.courses {\n"
    ++ codes "    show title = c.title\n"
    ++ codes "    show free = c.free\n"
    ++ codes "  }\n"
    ++ codes "}\n"
    ++ codes "view overview() allow operator {\n"
    ++ codes "  table courses = c in Course {\n"
    ++ codes "    show title = c.title\n"
    ++ codes "    show free = c.free\n"
    ++ codes "  }\n"
    ++ codes "  show seats = count(Course.Seat)\n"
    ++ codes "}\n"

-- the text stands for the definition
abbrev pub ClubIsRead : Type 0
ClubIsRead = IsDefinition club_text club

-- the definition is printed so
abbrev pub ClubIsPrinted : Type 0
ClubIsPrinted = definition_text club ≡ printed_club_text

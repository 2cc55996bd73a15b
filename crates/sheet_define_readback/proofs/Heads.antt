-- What stands in the lines of columns, and in the first lines of procedures and views, is read back.
use Rattle.std.proofs.Common.{◌≡◌, ℕ, ◌≤◌, List, [], ◌∷◌, ◌++◌, length, map, Bool, true, false, refl, sym, ap, ◌∙◌, subst, append_assoc, append-nil, pos, Some}
use Rattle.std.proofs.Common.{None, Option, option_map}
use Rattle.std.specs.Prelude.{codes}
use Rattle.std.specs.Fmt.{signed_decimal}
use Rattle.std.specs.List.{join_by}
use Rattle.std.proofs.lemmas.List.{length-map}
use Rattle.sheet_syntax_trees.specs.declared.token.Token.{Token}
use Rattle.sheet_syntax_trees.specs.declared.token.TokenKind.TheVariants as kind
use Rattle.sheet_syntax_trees.proofs.Printable.{Lexable, Good}
use Rattle.sheet_syntax_trees.proofs.Seeing.{Ends}
use Rattle.sheet_syntax_trees.specs.declared.tree.Tree.{Tree}
use Rattle.sheet_syntax_trees.specs.Grammar.{expression, postfix}
use Rattle.sheet_syntax_trees.specs.Reading.{line_of}
use Rattle.sheet_syntax_trees.specs.Texts.{on_one_line}
use Rattle.sheet_define_data.specs.declared.definition.Path.{Path}
use Rattle.sheet_define_data.specs.declared.definition.TypeName.{TypeName}
use Rattle.sheet_define_data.specs.declared.definition.TypeName.TheVariants as type
use Rattle.sheet_define_data.specs.declared.definition.Literal.{Literal}
use Rattle.sheet_define_data.specs.declared.definition.Literal.TheVariants as literal
use Rattle.sheet_define_data.specs.declared.definition.Parameter.{Parameter}
use Rattle.sheet_define_data.specs.declared.statement.Target.{Target}
use Rattle.sheet_define_data.specs.Grammar.{Limits, IsFormulaOf, Maybe, left_out, stated, AreNames, one_name, more_names, IsPath, a_path, IsType, numbers}
use Rattle.sheet_define_data.specs.Grammar.{texts, truths, objects, IsLiteral, a_number, a_negative_number, a_text, a_true, a_false, IsOne, any_count, just_one}
use Rattle.sheet_define_data.specs.Grammar.{IsFirst, a_first, IsDeclared, a_declared, IsAllow, an_allow, IsParameter, a_parameter, AreParameters, one_parameter}
use Rattle.sheet_define_data.specs.Grammar.{more_parameters, InParentheses, no_parameters, some_parameters, IsTarget, of_root, of_object}
use Rattle.sheet_define_data.specs.Printing.{path_text, type_text, literal_text, one_text, first_text, declared_text, parameter_text, parameters_text}
use Rattle.sheet_define_data.specs.Printing.{allow_text, header_text, target_text}
use Rattle.sheet_syntax_print.proofs.Back.{named_word}
use Rattle.sheet_define_readback.specs.Lines.{path_on_one_line, type_on_one_line, literal_on_one_line, parameter_on_one_line, target_on_one_line}
use Rattle.sheet_define_readback.proofs.Pieces.{name_written, number_written, text_written, number_word, text_word, truth_word, true_word, false_word, one_word}
use Rattle.sheet_define_readback.proofs.Pieces.{after_space, allow_piece, equals_piece, colon_piece, comma_piece, open_piece, close_piece, dot_piece}
use Rattle.sheet_define_readback.proofs.Pieces.{minus_piece, expression_back, operand_back}
use Rattle.sheet_define_readback.proofs.Written.{Written, Any, Then, then, One, one, Read, both, behind, made, nothing}

pub retext : {C : List ℕ → Type 0} {Q : List Token → List Token → Type 0} {a b : List ℕ} → a ≡ b → Written C Q a → Written C Q b
retext {C} {Q} e w = subst (Written C Q) e w

-- ---- lists with something between their elements

pub join_more : {A : Type 0} (f : A → List ℕ) (s : List ℕ) (x : A) (xs : List A) (y : A) (ys : List A) → xs ≡ y ∷ ys →
    (f x ++ s) ++ join_by f s xs ≡ join_by f s (x ∷ xs)
join_more f s x xs y ys e =
    ap (λ l. (f x ++ s) ++ join_by f s l) e ∙ append_assoc (f x) s (join_by f s (y ∷ ys)) ∙ ap (λ l. f x ++ l) (sym (append_assoc s (f y) _))
    ∙ ap (λ l. join_by f s (x ∷ l)) (sym e)

-- ---- paths

one_made : (name : List ℕ) (ts us : List Token) → One (kind.Name name) ts us → AreNames ts (name ∷ []) us
one_made name _ _ (one t ts is) = one_name t name ts is

more_made : (name : List ℕ) (names : List (List ℕ)) (ts us : List Token) →
    Then (Then (One (kind.Name name)) (One (kind.Symbol (codes ".")))) (λ vs us. AreNames vs names us) ts us → AreNames ts (name ∷ names) us
more_made name names _ us (then _ _ _ (then _ _ _ (one t _ is) (one d ts dot)) more) = more_names t d name names ts us is dot more

some_names : (ts us : List Token) (names : List (List ℕ)) → AreNames ts names us → (y : List ℕ) × (ys : List (List ℕ)) × (names ≡ y ∷ ys)
some_names _ _ _ (one_name t name ts is) = (name, [], refl)
some_names _ _ _ (more_names t d name names ts us is dot more) = (name, names, refl)

names_back : (ts us : List Token) (names : List (List ℕ)) → AreNames ts names us → Good ts →
    Good us × Written Ends (λ ts us. AreNames ts names us) (join_by (λ name. name) (codes ".") names)
names_back _ _ _ (one_name t name ts is) good =
    let (word, free) = named_word t.kind name is good.0 in
    (good.1, retext (sym (append-nil name)) (made (one_made name) (name_written name word free)))
names_back _ _ _ (more_names t d name names ts us is dot more) good =
    let (word, free) = named_word t.kind name is good.0 in
    let (rest, w) = names_back ts us names more good.1.1 in
    let (y, ys, e) = some_names ts us names more in (
      rest,
      retext (join_more (λ name. name) (codes ".") name names y ys e)
          (made (more_made name names) (behind (both (name_written name word free) dot_piece (λ rest d. refl)) w)),
    )

path_made : (line : ℕ) (names : List (List ℕ)) (ts us : List Token) → AreNames ts names us →
    Read IsPath path_on_one_line (record { line = line; names = names }) ts us
path_made line names ts us a = record { thing = record { line = line_of ts; names = names }; stands = a_path ts us names a; same = refl }

pub path_back : (ts us : List Token) (p : Path) → IsPath ts p us → Good ts → Good us × Written Ends (Read IsPath path_on_one_line p) (path_text p)
path_back _ _ _ (a_path ts us names a) good = let (rest, w) = names_back ts us names a good in (rest, made (path_made (line_of ts) names) w)

-- ---- types

number_made : (ts us : List Token) → One (kind.Reserved (codes "number")) ts us → Read IsType type_on_one_line type.Number ts us
number_made _ _ (one t ts is) = record { thing = type.Number; stands = numbers t ts is; same = refl }

text_made : (ts us : List Token) → One (kind.Reserved (codes "text")) ts us → Read IsType type_on_one_line type.Text ts us
text_made _ _ (one t ts is) = record { thing = type.Text; stands = texts t ts is; same = refl }

truth_made : (ts us : List Token) → One (kind.Reserved (codes "truth")) ts us → Read IsType type_on_one_line type.Truth ts us
truth_made _ _ (one t ts is) = record { thing = type.Truth; stands = truths t ts is; same = refl }

objects_made : (p : Path) (ts us : List Token) → Read IsPath path_on_one_line p ts us → Read IsType type_on_one_line (type.Object p) ts us
objects_made p ts us r = record { thing = type.Object r.thing; stands = objects ts us r.thing r.stands; same = ap type.Object r.same }

pub type_back : (ts us : List Token) (t : TypeName) → IsType ts t us → Good ts → Good us × Written Ends (Read IsType type_on_one_line t) (type_text t)
type_back _ _ _ (numbers t ts is) good = (good.1, made number_made number_word)
type_back _ _ _ (texts t ts is) good = (good.1, made text_made text_word)
type_back _ _ _ (truths t ts is) good = (good.1, made truth_made truth_word)
type_back _ _ _ (objects ts us p a) good = let (rest, w) = path_back ts us p a good in (rest, made (objects_made p) w)

declared_made : (t : TypeName) (ts us : List Token) → Then (One (kind.Symbol (codes ":"))) (Read IsType type_on_one_line t) ts us →
    Read (Maybe IsDeclared) (option_map type_on_one_line) (Some t) ts us
declared_made t _ us (then _ _ _ (one k ts is) r) =
    record { thing = Some r.thing; stands = stated _ _ _ (a_declared k ts us r.thing is r.stands); same = ap Some r.same }

pub declared_back : (ts us : List Token) (t : Option TypeName) → Maybe IsDeclared ts t us → Good ts →
    Good us × Written Ends (Read (Maybe IsDeclared) (option_map type_on_one_line) t) (declared_text t)
declared_back _ _ _ (left_out ts) good = (good, nothing (λ ts. record { thing = None; stands = left_out ts; same = refl }))
declared_back _ _ _ (stated _ _ _ (a_declared k ts us t is a)) good = let (rest, w) = type_back ts us t a good.1 in
    (rest, made (declared_made t) (behind colon_piece w))

pub declared_ends : (t : Option TypeName) (rest : List ℕ) → Ends rest → Ends (declared_text t ++ rest)
declared_ends (Some t) rest ends = refl
declared_ends None rest ends = ends

-- ---- first values

number_value : (line n : ℕ) (ts us : List Token) → One (kind.Number (pos n)) ts us → Read IsLiteral literal_on_one_line (literal.Number line (pos n)) ts us
number_value line n _ _ (one t ts is) = record { thing = literal.Number t.line (pos n); stands = a_number t (pos n) ts is; same = refl }

negative_value : (line n : ℕ) (ts us : List Token) → Then (One (kind.Symbol (codes "-"))) (One (kind.Number (pos n))) ts us →
    Read IsLiteral literal_on_one_line (literal.Negative line (pos n)) ts us
negative_value line n _ _ (then _ _ _ (one m _ minus) (one t ts is)) =
    record { thing = literal.Negative m.line (pos n); stands = a_negative_number m t (pos n) ts minus is; same = refl }

text_value : (line : ℕ) (content : List ℕ) (ts us : List Token) → One (kind.Text content) ts us →
    Read IsLiteral literal_on_one_line (literal.Text line content) ts us
text_value line content _ _ (one t ts is) = record { thing = literal.Text t.line content; stands = a_text t content ts is; same = refl }

true_value : (line : ℕ) (ts us : List Token) → One (kind.Reserved (codes "true")) ts us → Read IsLiteral literal_on_one_line (literal.Truth line true) ts us
true_value line _ _ (one t ts is) = record { thing = literal.Truth t.line true; stands = a_true t ts is; same = refl }

false_value : (line : ℕ) (ts us : List Token) → One (kind.Reserved (codes "false")) ts us → Read IsLiteral literal_on_one_line (literal.Truth line false) ts us
false_value line _ _ (one t ts is) = record { thing = literal.Truth t.line false; stands = a_false t ts is; same = refl }

literal_back : (ts us : List Token) (v : Literal) → IsLiteral ts v us → Good ts → Good us × Written Ends (Read IsLiteral literal_on_one_line v) (literal_text v)
literal_back _ _ _ (a_number t z ts is) good =
    let (n, e, fits) = subst Lexable is good.0 in (
      good.1,
      subst (λ z. Written Ends (Read IsLiteral literal_on_one_line (literal.Number t.line z)) (signed_decimal z)) (sym e)
          (made (number_value t.line n) (number_written n fits)),
    )
literal_back _ _ _ (a_negative_number m t z ts minus is) good =
    let (n, e, fits) = subst Lexable is good.1.0 in (
      good.1.1,
      subst (λ z. Written Ends (Read IsLiteral literal_on_one_line (literal.Negative m.line z)) (codes "-" ++ signed_decimal z)) (sym e)
          (made (negative_value m.line n) (behind minus_piece (number_written n fits))),
    )
literal_back _ _ _ (a_text t content ts is) good = let (short, bytes) = subst Lexable is good.0 in
    (good.1, made (text_value t.line content) (text_written content short bytes))
literal_back _ _ _ (a_true t ts is) good = (good.1, made (true_value t.line) true_word)
literal_back _ _ _ (a_false t ts is) good = (good.1, made (false_value t.line) false_word)

first_made : (v : Literal) (ts us : List Token) → Then (One (kind.Symbol (codes "="))) (Read IsLiteral literal_on_one_line v) ts us →
    Read (Maybe IsFirst) (option_map literal_on_one_line) (Some v) ts us
first_made v _ us (then _ _ _ (one e ts is) r) =
    record { thing = Some r.thing; stands = stated _ _ _ (a_first e ts us r.thing is r.stands); same = ap Some r.same }

pub first_back : (ts us : List Token) (v : Option Literal) → Maybe IsFirst ts v us → Good ts →
    Good us × Written Ends (Read (Maybe IsFirst) (option_map literal_on_one_line) v) (first_text v)
first_back _ _ _ (left_out ts) good = (good, nothing (λ ts. record { thing = None; stands = left_out ts; same = refl }))
first_back _ _ _ (stated _ _ _ (a_first e ts us v is a)) good = let (rest, w) = literal_back ts us v a good.1 in
    (rest, made (first_made v) (behind equals_piece w))

pub first_ends : (v : Option Literal) (rest : List ℕ) → Ends rest → Ends (first_text v ++ rest)
first_ends (Some v) rest ends = refl
first_ends None rest ends = ends

just_made : (ts us : List Token) → One (kind.Reserved (codes "one")) ts us → IsOne ts true us
just_made _ _ (one t ts is) = just_one t ts is

pub one_back : (ts us : List Token) (b : Bool) → IsOne ts b us → Good ts → Good us × Written Ends (λ ts us. IsOne ts b us) (one_text b)
one_back _ _ _ (any_count ts) good = (good, nothing any_count)
one_back _ _ _ (just_one t ts is) good = (good.1, made just_made (after_space one_word))

pub one_ends : (b : Bool) (rest : List ℕ) → Ends rest → Ends (one_text b ++ rest)
one_ends true rest ends = refl
one_ends false rest ends = ends

-- ---- parameters

parameter_made : (line : ℕ) (name : List ℕ) (t : TypeName) (ts us : List Token) →
    Then (Then (One (kind.Name name)) (One (kind.Symbol (codes ":")))) (Read IsType type_on_one_line t) ts us
    → Read IsParameter parameter_on_one_line (record { line = line; name = name; values = t }) ts us
parameter_made line name t _ us (then _ _ _ (then _ _ _ (one n _ is) (one k ts colon)) r) =
    record {
      thing = record { line = n.line; name = name; values = r.thing };
      stands = a_parameter n k name ts us r.thing is colon r.stands;
      same = ap (λ (v : TypeName). record { line = 1; name = name; values = v }) r.same;
    }

parameter_back : (ts us : List Token) (p : Parameter) → IsParameter ts p us → Good ts →
    Good us × Written Ends (Read IsParameter parameter_on_one_line p) (parameter_text p)
parameter_back _ _ _ (a_parameter n k name ts us t is colon a) good =
    let (word, free) = named_word n.kind name is good.0 in
    let (rest, w) = type_back ts us t a good.1.1 in
    (rest, made (parameter_made n.line name t) (behind (both (name_written name word free) colon_piece (λ rest d. refl)) w))

one_parameter_made : (p : Parameter) (ts us : List Token) → Read IsParameter parameter_on_one_line p ts us →
    Read AreParameters (map parameter_on_one_line) (p ∷ []) ts us
one_parameter_made p ts us r = record { thing = r.thing ∷ []; stands = one_parameter ts us r.thing r.stands; same = ap (λ q. q ∷ []) r.same }

more_parameters_made : (p : Parameter) (ps : List Parameter) (ts us : List Token) →
    Then (Then (Read IsParameter parameter_on_one_line p) (One (kind.Symbol (codes ",")))) (Read AreParameters (map parameter_on_one_line) ps) ts us
    → Read AreParameters (map parameter_on_one_line) (p ∷ ps) ts us
more_parameters_made p ps ts us (then _ _ _ (then _ _ _ q (one k vs comma)) r) =
    record {
      thing = q.thing ∷ r.thing;
      stands = more_parameters ts vs us k q.thing r.thing q.stands comma r.stands;
      same = ap (λ x. x ∷ map parameter_on_one_line r.thing) q.same ∙ ap (λ l. parameter_on_one_line p ∷ l) r.same;
    }

some_parameter : (ts us : List Token) (ps : List Parameter) → AreParameters ts ps us → (y : Parameter) × (ys : List Parameter) × (ps ≡ y ∷ ys)
some_parameter _ _ _ (one_parameter ts us p a) = (p, [], refl)
some_parameter _ _ _ (more_parameters ts us rest k p ps a comma more) = (p, ps, refl)

each_parameter_back : (ts us : List Token) (ps : List Parameter) → AreParameters ts ps us → Good ts →
    Good us × Written Ends (Read AreParameters (map parameter_on_one_line) ps) (join_by parameter_text (codes ", ") ps)
each_parameter_back _ _ _ (one_parameter ts us p a) good =
    let (rest, w) = parameter_back ts us p a good in
    (rest, retext (sym (append-nil (parameter_text p))) (made (one_parameter_made p) w))
each_parameter_back _ _ _ (more_parameters ts us rest k p ps a comma more) good =
    let (good1, w) = parameter_back ts (k ∷ us) p a good in
    let (good2, v) = each_parameter_back us rest ps more good1.1 in
    let (y, ys, e) = some_parameter us rest ps more in
    (good2, retext (join_more parameter_text (codes ", ") p ps y ys e) (made (more_parameters_made p ps) (behind (both w comma_piece (λ rest d. refl)) v)))

none_made : (ts us : List Token) → Then (One (kind.Symbol (codes "("))) (One (kind.Symbol (codes ")"))) ts us →
    Read InParentheses (map parameter_on_one_line) [] ts us
none_made _ us (then _ _ _ (one o _ io) (one c _ ic)) = record { thing = []; stands = no_parameters o c us io ic; same = refl }

within_sixteen : (ps qs : List Parameter) → map parameter_on_one_line qs ≡ map parameter_on_one_line ps → length ps ≤ 16 → length qs ≤ 16
within_sixteen ps qs e few = subst (λ n. n ≤ 16) (sym (length-map ps parameter_on_one_line) ∙ ap length (sym e) ∙ length-map qs parameter_on_one_line) few

some_made : (ps : List Parameter) → length ps ≤ 16 → (ts us : List Token) →
    Then (Then (One (kind.Symbol (codes "("))) (Read AreParameters (map parameter_on_one_line) ps)) (One (kind.Symbol (codes ")"))) ts us
    → Read InParentheses (map parameter_on_one_line) ps ts us
some_made ps few _ us (then _ _ _ (then _ _ _ (one o ts io) r) (one c _ ic)) =
    record { thing = r.thing; stands = some_parameters o c ts us r.thing io r.stands (within_sixteen ps r.thing r.same few) ic; same = r.same }

parameters_back : (ts us : List Token) (ps : List Parameter) → InParentheses ts ps us → Good ts →
    Good us × Written Any (Read InParentheses (map parameter_on_one_line) ps) (parameters_text ps)
parameters_back _ _ _ (no_parameters o c ts io ic) good = (good.1.1, made none_made (behind open_piece close_piece))
parameters_back _ _ _ (some_parameters o c ts us ps io a few ic) good =
    let (rest, w) = each_parameter_back ts (c ∷ us) ps a good.1 in
    (rest.1, made (some_made ps few) (both (behind open_piece w) close_piece (λ rest d. refl)))

-- ---- first lines

module _ (l : Limits) (fits : l.depth ≤ l.nest) where
  allow_made : (e : Tree) (ts us : List Token) → Then (One (kind.Reserved (codes "allow"))) (Read (IsFormulaOf l expression) on_one_line e) ts us →
      Read (Maybe (IsAllow l)) (option_map on_one_line) (Some e) ts us
  allow_made e _ us (then _ _ _ (one w ts is) r) =
      record { thing = Some r.thing; stands = stated _ _ _ (an_allow w ts us r.thing is r.stands); same = ap Some r.same }

  pub allow_back : (ts us : List Token) (e : Option Tree) → Maybe (IsAllow l) ts e us → Good ts →
      Good us × Written Ends (Read (Maybe (IsAllow l)) (option_map on_one_line) e) (allow_text e)
  allow_back _ _ _ (left_out ts) good = (good, nothing (λ ts. record { thing = None; stands = left_out ts; same = refl }))
  allow_back _ _ _ (stated _ _ _ (an_allow w ts us e is a)) good = let (rest, v) = expression_back l fits ts us e a good.1 in
      (rest, made (allow_made e) (behind allow_piece v))

  -- a name, parameters and a condition
  pub header_back : (name : List ℕ) (n : Token) (ps ts us : List Token) (parameters : List Parameter) (allow : Option Tree) → n.kind ≡ kind.Name name →
      InParentheses ps parameters ts → Maybe (IsAllow l) ts allow us → Good (n ∷ ps)
      → Good us × Written Ends
      (Then (Then (One (kind.Name name)) (Read InParentheses (map parameter_on_one_line) parameters))
      (Read (Maybe (IsAllow l)) (option_map on_one_line) allow)) (header_text name parameters allow)
  header_back name n ps ts us parameters allow is a b good =
      let (word, free) = named_word n.kind name is good.0 in
      let (good1, w) = parameters_back ps ts parameters a good.1 in
      let (good2, v) = allow_back ts us allow b good1 in
      (good2, behind (both (name_written name word free) w (λ rest d. refl)) v)

  -- ---- targets

  root_made : (line : ℕ) (name : List ℕ) (ts us : List Token) → One (kind.Name name) ts us →
      Read (IsTarget l) target_on_one_line (record { line = line; object = None; column = name }) ts us
  root_made line name _ _ (one n ts is) = record { thing = record { line = n.line; object = None; column = name }; stands = of_root n name ts is; same = refl }

  object_made : (line : ℕ) (e : Tree) (name : List ℕ) (ts us : List Token) →
      Then (Then (Read (IsFormulaOf l postfix) on_one_line e) (One (kind.Symbol (codes ".")))) (One (kind.Name name)) ts us
      → Read (IsTarget l) target_on_one_line (record { line = line; object = Some e; column = name }) ts us
  object_made line e name ts us (then _ _ _ (then _ _ _ r (one d _ dot)) (one n _ is)) =
      record {
        thing = record { line = line_of ts; object = Some r.thing; column = name };
        stands = of_object d n name ts us r.thing r.stands dot is;
        same = ap (λ (x : Tree). record { line = 1; object = Some x; column = name }) r.same;
      }

  pub target_back : (ts us : List Token) (t : Target) → IsTarget l ts t us → Good ts →
      Good us × Written Ends (Read (IsTarget l) target_on_one_line t) (target_text t)
  target_back _ _ _ (of_root n name ts is) good =
      let (word, free) = named_word n.kind name is good.0 in
      (good.1, made (root_made n.line name) (name_written name word free))
  target_back _ _ _ (of_object d n name ts us e a dot is) good =
      let (good1, w) = operand_back l fits ts (d ∷ n ∷ us) e a good in
      let (word, free) = named_word n.kind name is good1.1.0 in
      (good1.1.1, made (object_made (line_of ts) e name) (behind (both w dot_piece (λ rest d. refl)) (name_written name word free)))

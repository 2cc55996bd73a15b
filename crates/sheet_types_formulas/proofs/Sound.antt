-- A typed formula has its type by the rules for resolved formulas, and the line of its first token.
use Rattle.std.proofs.Common.{◌≡◌, refl, sym, ap, ◌∙◌, subst, ℕ, ◌+◌, zero, suc, Bool, true, false, List, [], ◌∷◌, ◌++◌, map, Option, Some, None, Ok, Err, inl}
use Rattle.std.proofs.Common.{inr, arith}
use Rattle.std.specs.Prelude.{◌⊎◌, ◌&&◌, Result, IfOk, if◌then◌else◌, slice_get, slice_index_or, is_some, option_map, option_and_then, unwrap_or, ok_or}
use Rattle.std.specs.Prelude.{bytes_eq, codes}
use Rattle.std.specs.Option.{option_or}
use Rattle.std.proofs.lemmas.Bool.{eq-eqb}
use Rattle.sheet_values.specs.declared.value.Kind.{Kind}
use Rattle.sheet_values.specs.declared.value.Kind.TheVariants as kind
use Rattle.sheet_columns.specs.declared.tree.Column.{Column}
use Rattle.sheet_columns.specs.declared.tree.Column.TheVariants.{Object, State, Formula}
use Rattle.sheet_columns.specs.declared.tree.Node.{Node}
use Rattle.sheet_columns.specs.Tree.{column_of, above_of, child_named, is_number}
use Rattle.sheet_columns.specs.declared.formula.Core.{Core}
use Rattle.sheet_columns.specs.declared.formula.Core.TheVariants as core
use Rattle.sheet_columns.specs.declared.formula.SetOperator.{SetOperator}
use Rattle.sheet_columns.specs.declared.formula.SetOperator.TheVariants as set_operator
use Rattle.sheet_columns.specs.declared.formula.SetTest.{SetTest}
use Rattle.sheet_columns.specs.declared.formula.SetTest.TheVariants as set_test
use Rattle.sheet_columns.specs.declared.formula.OrderTest.{OrderTest}
use Rattle.sheet_columns.specs.declared.formula.OrderTest.TheVariants as order_test
use Rattle.sheet_columns.specs.declared.formula.ArithmeticOperator.{ArithmeticOperator}
use Rattle.sheet_columns.specs.declared.formula.ArithmeticOperator.TheVariants as arithmetic_operator
use Rattle.sheet_columns.specs.declared.formula.Connective.{Connective}
use Rattle.sheet_columns.specs.declared.formula.Connective.TheVariants as connective
use Rattle.sheet_columns.specs.declared.formula.Extremum.{Extremum}
use Rattle.sheet_columns.specs.declared.formula.Extremum.TheVariants as extremum
use Rattle.sheet_syntax_trees.specs.declared.operators.Operator.{Operator}
use Rattle.sheet_syntax_trees.specs.declared.operators.Operator.TheVariants as operator
use Rattle.sheet_syntax_trees.specs.declared.operators.Function.{Function}
use Rattle.sheet_syntax_trees.specs.declared.operators.Function.TheVariants as function
use Rattle.sheet_syntax_trees.specs.declared.operators.Gathering.{Gathering}
use Rattle.sheet_syntax_trees.specs.declared.operators.Gathering.TheVariants as gathering
use Rattle.sheet_syntax_trees.specs.declared.operators.Quantifier.{Quantifier}
use Rattle.sheet_syntax_trees.specs.declared.tree.Tree.{Tree, Number, Text, Truth, Root, This, Caller, Operator as OperatorWord, Name, Child', Up', Negate'}
use Rattle.sheet_syntax_trees.specs.declared.tree.Tree.{Not', Binary', If', Set', Call', Gather', GatherWhere', Test', Row_of-Tree, end_of-Tree as end}
use Rattle.sheet_syntax_trees.specs.declared.tree.Tree.{more_of-Tree as more}
use Rattle.sheet_types_formulas.specs.declared.refusal.TypeRefusal.{TypeRefusal}
use Rattle.sheet_types_formulas.specs.declared.refusal.TypeRefusal.TheVariants.{UnknownName}
use Rattle.sheet_types_formulas.specs.declared.scope.Typed.{Typed}
use Rattle.sheet_types_formulas.specs.declared.scope.Variable.{Variable}
use Rattle.sheet_types_formulas.specs.declared.scope.Scope.{Scope}
use Rattle.sheet_types_formulas.specs.Answers.{Answer, Answers, ◌>>=◌}
use Rattle.sheet_types_rules.specs.Kinds.{common, has_order, objects_in}
use Rattle.sheet_types_formulas.specs.Kinds.{mismatch, kind_text, agreed, ordered, object_column, column_above}
use Rattle.sheet_types_formulas.specs.Names.{Reach, reach, in_scope, within, bind, typed_as, variable_from, variable, step_to, child, upward, nearest}
use Rattle.sheet_types_formulas.specs.Names.{nearest_to, column_in_reach, named, word}
use Rattle.sheet_types_formulas.specs.Forms.{step, up, negated, denied, both_agreed, compared, in_order, operation_kind, operation_core, operation, branches}
use Rattle.sheet_types_formulas.specs.Forms.{choice, all_agreed, set_of, call_kind, call_core, called, no_condition, gathered_kind, gathered_core, gathered}
use Rattle.sheet_types_formulas.specs.Forms.{quantifier_of, tested}
use Rattle.sheet_types_formulas.specs.Typing.{typed, typed_each, line_of}
use Rattle.sheet_types_rules.specs.Formulas.{kind_in, provided, serves, all_common, is_under, is_object, is_state, is_formula, ◌>>◌}
use Rattle.sheet_types_formulas.proofs.Agreeing.{came, same_ok}
use Rattle.sheet_types_formulas.proofs.Finding.{child_is_under}
use Rattle.sheet_types_formulas.proofs.Rules.{kind-ObjectStep, kind-StateStep, kind-FormulaStep, kind-Up, kind-Combine, kind-Compare, kind-Order}
use Rattle.sheet_types_formulas.proofs.Rules.{kind-Arithmetic, kind-Negate, kind-Join, kind-Not, kind-Connect, kind-If, kind-Count, kind-Only, kind-Extreme}
use Rattle.sheet_types_formulas.proofs.Rules.{kind-Comprehension, kind-Sum, kind-Quantify, kind-Set, kinds_of_all, kinds_of_none, kinds_of_more}

-- ---- answers and options

same_some : {A : Type 0} (a b : A) → Some a ≡ Some b → a ≡ b
same_some a b e = cc

ok_is : {A : Type 0} (o : Option A) (d : TypeRefusal) (a : A) → ok_or o d ≡ Ok a → o ≡ Some a
ok_is None d a e = let wrong : ⊥ = cc in absurd wrong
ok_is (Some b) d a e = ap Some (same_ok b a e)

or_is : {A : Type 0} (o p : Option A) (a : A) → option_or o p ≡ Some a → (o ≡ Some a) ⊎ (p ≡ Some a)
or_is None p a e = inr e
or_is (Some b) p a e = inl e

agreed_is : (n : List Node) (wanted : Kind) (part : Typed) (l : Kind) → agreed n wanted part ≡ Ok l → common wanted part.kind ≡ Some l
unfolding agreed
agreed_is n wanted part l e = ok_is (common wanted part.kind) (mismatch n (kind_text n wanted) part) l e

served : (wanted l m : Kind) → common wanted l ≡ Some m → serves wanted l ≡ true
served wanted l m e = ap is_some e

agreed_serves : (n : List Node) (wanted : Kind) (part : Typed) (l : Kind) → agreed n wanted part ≡ Ok l → serves wanted part.kind ≡ true
agreed_serves n wanted part l e = served wanted part.kind l (agreed_is n wanted part l e)

tested_order : (b : Bool) (l m : Kind) (d : TypeRefusal) → (if b then Ok l else Err d) ≡ Ok m → (b ≡ true) × (l ≡ m)
tested_order true l m d e = (refl, same_ok l m e)
tested_order false l m d e = let wrong : ⊥ = cc in absurd wrong

ordered_is : (n : List Node) (part : Typed) (l : Kind) → ordered n part ≡ Ok l → (has_order part.kind ≡ true) × (part.kind ≡ l)
unfolding ordered
ordered_is n part l e = tested_order (has_order part.kind) part.kind l (mismatch n (codes "number or text") part) e

objects_is : (k : Kind) (c : ℕ) → objects_in k ≡ Some c → k ≡ kind.Object c
objects_is kind.Unknown c e = let wrong : ⊥ = cc in absurd wrong
objects_is kind.Truth c e = let wrong : ⊥ = cc in absurd wrong
objects_is kind.Number c e = let wrong : ⊥ = cc in absurd wrong
objects_is kind.Text c e = let wrong : ⊥ = cc in absurd wrong
objects_is (kind.Object d) c e = ap kind.Object (same_some d c e)

above_is : (n : List Node) (k : Kind) (above : ℕ) → option_and_then (above_of n) (objects_in k) ≡ Some above →
    (c : ℕ) × (k ≡ kind.Object c) × (above_of n c ≡ Some above)
above_is n kind.Unknown above e = let wrong : ⊥ = cc in absurd wrong
above_is n kind.Truth above e = let wrong : ⊥ = cc in absurd wrong
above_is n kind.Number above e = let wrong : ⊥ = cc in absurd wrong
above_is n kind.Text above e = let wrong : ⊥ = cc in absurd wrong
above_is n (kind.Object c) above e = (c, refl, e)

all_true : (a b : Bool) → a ≡ true → b ≡ true → a && b ≡ true
all_true a b p q = ap (λ x. x && b) p ∙ q

then_one : (x : Option Kind) (a : Kind) (f : Kind → Option Kind) → x ≡ Some a → x >> f ≡ f a
then_one x a f e = ap (λ o. o >> f) e

then_two : (x y : Option Kind) (a b : Kind) (f : Kind → Kind → Option Kind) → x ≡ Some a → y ≡ Some b → x >> (λ l. y >> f l) ≡ f a b
then_two x y a b f p q = then_one x a (λ l. y >> f l) p ∙ then_one y b (f a) q

then_three : (x y z : Option Kind) (a b c : Kind) (f : Kind → Kind → Kind → Option Kind) → x ≡ Some a → y ≡ Some b → z ≡ Some c →
    x >> (λ l. y >> (λ m. z >> f l m)) ≡ f a b c
then_three x y z a b c f p q s = then_one x a (λ l. y >> (λ m. z >> f l m)) p ∙ then_two y z b c (f a) q s

-- the types of the positions
abbrev pub kinds_of : List Variable → List Kind
kinds_of vs = map (λ (v : Variable). v.kind) vs

kinds_of_bound : (vs : List Variable) (v : Variable) → kinds_of (vs ++ v ∷ []) ≡ kinds_of vs ++ v.kind ∷ []
kinds_of_bound [] v = refl
kinds_of_bound (w ∷ vs) v = ap (λ ks. w.kind ∷ ks) (kinds_of_bound vs v)

-- the type of a resolved formula where these are in reach
abbrev pub kind_here : Reach → Core → Option Kind
kind_here r e = kind_in e r.columns r.kinds (kinds_of r.variables)

-- a typed formula of that line, with its type
pub record Sound (r : Reach) (line : ℕ) (t : Typed) : Type 0 where
  pub line_is : t.line ≡ line
  pub kind_is : kind_here r t.core ≡ Some t.kind

sound_as : (r : Reach) (line : ℕ) (e : Core) (k : Kind) (t : Typed) → typed_as line e k ≡ t → kind_here r e ≡ Some k → Sound r line t
sound_as r line e k t same h = subst (Sound r line) same (record { line_is = refl; kind_is = h })

sound_ok : (r : Reach) (line : ℕ) (e : Core) (k : Kind) (t : Typed) → ◌≡◌ {A = Answer Typed} (Ok (typed_as line e k)) (Ok t) → kind_here r e ≡ Some k →
    Sound r line t
sound_ok r line e k t same h = sound_as r line e k t (same_ok (typed_as line e k) t same) h

sound_some : (r : Reach) (line : ℕ) (e : Core) (k : Kind) (t : Typed) → Some (typed_as line e k) ≡ Some t → kind_here r e ≡ Some k → Sound r line t
sound_some r line e k t same h = sound_as r line e k t (same_some (typed_as line e k) t same) h

-- ---- variables

-- a variable of these, the first of which has the position p
record Held (p line : ℕ) (vs : List Variable) (t : Typed) : Type 0 where
  index : ℕ
  kind : Kind
  is : typed_as line (core.Variable (p + index)) kind ≡ t
  got : slice_get (kinds_of vs) index ≡ Some kind

held_first : (p line : ℕ) (v : Variable) (vs : List Variable) (b : Bool) (t : Typed) →
    (if b then Some (typed_as line (core.Variable p) v.kind) else None) ≡ Some t → Held p line (v ∷ vs) t
held_first p line v vs true t e =
    let at : p + 0 ≡ p = omega arith in
    record {
      index = 0;
      kind = v.kind;
      is = ap (λ q. typed_as line (core.Variable q) v.kind) at ∙ same_some (typed_as line (core.Variable p) v.kind) t e;
      got = refl;
    }
held_first p line v vs false t e = let wrong : ⊥ = cc in absurd wrong

held_later : (p line : ℕ) (v : Variable) (vs : List Variable) (t : Typed) → Held (p + 1) line vs t → Held p line (v ∷ vs) t
held_later p line v vs t h =
    let at : p + suc h.index ≡ p + 1 + h.index = omega arith in
    record { index = suc h.index; kind = h.kind; is = ap (λ q. typed_as line (core.Variable q) h.kind) at ∙ h.is; got = h.got }

held : (p line : ℕ) (name : List ℕ) (vs : List Variable) (t : Typed) → variable_from p line name vs ≡ Some t → Held p line vs t
held p line name [] t e = let wrong : ⊥ = cc in absurd wrong
held p line name (v ∷ vs) t e =
    elim (or_is (variable_from (p + 1) line name vs) (if bytes_eq v.name name then Some (typed_as line (core.Variable p) v.kind) else None) t e) [
      | inl later ↦ held_later p line v vs t (held (p + 1) line name vs t later)
      | inr first ↦ held_first p line v vs (bytes_eq v.name name) t first
    ]

variable_sound : (r : Reach) (line : ℕ) (name : List ℕ) (t : Typed) → variable r line name ≡ Some t → Sound r line t
variable_sound r line name t e =
    let h = held 0 line name r.variables t e in
    let at : 0 + h.index ≡ h.index = omega arith in
    sound_as r line (core.Variable (0 + h.index)) h.kind t h.is (ap (slice_get (kinds_of r.variables)) at ∙ h.got)

word_sound : (r : Reach) (line : ℕ) (name : List ℕ) (t : Typed) → word r line name ≡ Ok t → Sound r line t
unfolding word
word_sound r line name t e = variable_sound r line name t (ok_is (variable r line name) (UnknownName line) t e)

-- ---- columns

is_above : (n : List Node) (above c : ℕ) → above_of n c ≡ Some above → is_under n (kind.Object above) c ≡ true
is_above n above c e = ap (is_number above) e ∙ eq-eqb above above refl

step_sound_to : (r : Reach) (line : ℕ) (e : Core) (above c : ℕ) (column : Column) → column_of r.columns c ≡ Some column → above_of r.columns c ≡ Some above →
    kind_here r e ≡ Some (kind.Object above) → kind_here r (step_to r line e c column).core ≡ Some (step_to r line e c column).kind
step_sound_to r line e above c Object is under h =
    kind-ObjectStep r.columns r.kinds (kinds_of r.variables) e c
    ∙ then_one (kind_here r e) (kind.Object above) (λ x. provided (is_under r.columns x c && is_object (column_of r.columns c)) (kind.Object c)) h
    ∙ ap (λ b. provided b (kind.Object c))
    (all_true (is_under r.columns (kind.Object above) c) (is_object (column_of r.columns c)) (is_above r.columns above c under) (ap is_object is))
step_sound_to r line e above c (State k one first) is under h =
    kind-StateStep r.columns r.kinds (kinds_of r.variables) e c
    ∙ then_one (kind_here r e) (kind.Object above)
    (λ x. provided (is_under r.columns x c && is_state (column_of r.columns c)) (slice_index_or r.kinds c kind.Unknown)) h
    ∙ ap (λ b. provided b (slice_index_or r.kinds c kind.Unknown))
    (all_true (is_under r.columns (kind.Object above) c) (is_state (column_of r.columns c)) (is_above r.columns above c under) (ap is_state is))
step_sound_to r line e above c (Formula k) is under h =
    kind-FormulaStep r.columns r.kinds (kinds_of r.variables) e c
    ∙ then_one (kind_here r e) (kind.Object above)
    (λ x. provided (is_under r.columns x c && is_formula (column_of r.columns c)) (slice_index_or r.kinds c kind.Unknown)) h
    ∙ ap (λ b. provided b (slice_index_or r.kinds c kind.Unknown))
    (all_true (is_under r.columns (kind.Object above) c) (is_formula (column_of r.columns c)) (is_above r.columns above c under) (ap is_formula is))

step_to_line : (r : Reach) (line : ℕ) (e : Core) (c : ℕ) (column : Column) → (step_to r line e c column).line ≡ line
step_to_line r line e c Object = refl
step_to_line r line e c (State k one first) = refl
step_to_line r line e c (Formula k) = refl

child_sound : (r : Reach) (line : ℕ) (e : Core) (above : ℕ) (name : List ℕ) (t : Typed) → child r line e above name ≡ Some t →
    kind_here r e ≡ Some (kind.Object above) → Sound r line t
child_sound r line e above name t found h = by_child (child_named r.columns above name) refl found
  where
    by_column : (c : ℕ) → above_of r.columns c ≡ Some above → (o : Option Column) → column_of r.columns c ≡ o → option_map (step_to r line e c) o ≡ Some t →
        Sound r line t
    by_column c under None is f = let wrong : ⊥ = cc in absurd wrong
    by_column c under (Some column) is f =
        subst (Sound r line) (same_some (step_to r line e c column) t f)
        (record { line_is = step_to_line r line e c column; kind_is = step_sound_to r line e above c column is under h })

    by_child : (o : Option ℕ) → child_named r.columns above name ≡ o →
        option_and_then (λ c. option_map (step_to r line e c) (column_of r.columns c)) o ≡ Some t → Sound r line t
    by_child None is f = let wrong : ⊥ = cc in absurd wrong
    by_child (Some c) is f = by_column c (child_is_under r.columns above c name is) (column_of r.columns c) refl f

up_kind : (r : Reach) (e : Core) (c above : ℕ) → kind_here r e ≡ Some (kind.Object c) → above_of r.columns c ≡ Some above →
    kind_here r (core.Up e) ≡ Some (kind.Object above)
up_kind r e c above h under =
    kind-Up r.columns r.kinds (kinds_of r.variables) e
    ∙ then_one (kind_here r e) (kind.Object c) (λ x. objects_in x >> (λ c. above_of r.columns c >> (λ above. Some (kind.Object above)))) h
    ∙ ap (λ o. o >> (λ above. Some (kind.Object above))) under

nearest_sound : (r : Reach) (line : ℕ) (name : List ℕ) (steps : ℕ) (e : Core) (c : ℕ) (t : Typed) → nearest r line name e (upward steps r.columns c) ≡ Some t →
    kind_here r e ≡ Some (kind.Object c) → Sound r line t
nearest_sound r line name zero e c t found h =
    elim (or_is (child r line e c name) None t found) [
      | inl here ↦ child_sound r line e c name t here h
      | inr none ↦ let wrong : ⊥ = cc in absurd wrong
    ]
nearest_sound r line name (suc steps) e c t found h =
    elim (or_is (child r line e c name) (nearest r line name (core.Up e) (unwrap_or (option_map (upward steps r.columns) (above_of r.columns c)) [])) t found) [
      | inl here ↦ child_sound r line e c name t here h
      | inr above ↦ by_above (λ a f k. nearest_sound r line name steps (core.Up e) a t f k) (above_of r.columns c) refl above
    ]
  where
    by_above : ((a : ℕ) → nearest r line name (core.Up e) (upward steps r.columns a) ≡ Some t → kind_here r (core.Up e) ≡ Some (kind.Object a) → Sound r line t)
        → (o : Option ℕ) → above_of r.columns c ≡ o → nearest r line name (core.Up e) (unwrap_or (option_map (upward steps r.columns) o) []) ≡ Some t →
        Sound r line t
    by_above onward None is f = let wrong : ⊥ = cc in absurd wrong
    by_above onward (Some a) is f = onward a f (up_kind r e c a h is)

near_sound : (r : Reach) (line : ℕ) (name : List ℕ) (e : Core) (k : Kind) (t : Typed) → nearest_to r line name e k ≡ Some t → kind_here r e ≡ Some k →
    Sound r line t
near_sound r line name e kind.Unknown t found h = let wrong : ⊥ = cc in absurd wrong
near_sound r line name e kind.Truth t found h = let wrong : ⊥ = cc in absurd wrong
near_sound r line name e kind.Number t found h = let wrong : ⊥ = cc in absurd wrong
near_sound r line name e kind.Text t found h = let wrong : ⊥ = cc in absurd wrong
near_sound r line name e (kind.Object c) t found h = nearest_sound r line name c e c t found h

reach_sound : (r : Reach) (line : ℕ) (name : List ℕ) (this : Option Typed) (t : Typed) → variable r line (codes "this") ≡ this →
    column_in_reach r line name this ≡ Some t → Sound r line t
reach_sound r line name None t is found = child_sound r line core.Root 0 name t found refl
reach_sound r line name (Some this) t is found = near_sound r line name this.core this.kind t found (variable_sound r line (codes "this") this is).kind_is

named_sound : (r : Reach) (line : ℕ) (name : List ℕ) (t : Typed) → named r line name ≡ Ok t → Sound r line t
unfolding named
named_sound r line name t e =
    let this = variable r line (codes "this") in
    elim (or_is (variable r line name) (column_in_reach r line name this) t
    (ok_is (option_or (variable r line name) (column_in_reach r line name this)) (UnknownName line) t e)) [
      | inl inner ↦ variable_sound r line name t inner
      | inr column ↦ reach_sound r line name this t refl column
    ]

-- ---- forms of formulas in reach

module _ (r : Reach) (line : ℕ) where
  abbrev n : List Node
  n = r.columns

  abbrev v : List Kind
  v = kinds_of r.variables

  step_sound : (name : List ℕ) (e t : Typed) → step r line name e ≡ Ok t → kind_here r e.core ≡ Some e.kind → Sound r line t
  unfolding step object_column
  step_sound name e t made h =
      let (above, first, second) = came (object_column n e) (λ above. ok_or (child r line e.core above name) (UnknownName line)) t made in
      let objects : objects_in e.kind ≡ Some above = ok_is (objects_in e.kind) (mismatch n (codes "object") e) above first in
      child_sound r line e.core above name t (ok_is (child r line e.core above name) (UnknownName line) t second)
      (h ∙ ap Some (objects_is e.kind above objects))

  up_sound : (e t : Typed) → up n line e ≡ Ok t → kind_here r e.core ≡ Some e.kind → Sound r line t
  unfolding up column_above
  up_sound e t made h =
      let (above, first, second) = came (column_above n e) (λ above. Ok (typed_as line (core.Up e.core) (kind.Object above))) t made in
      let under : option_and_then (above_of n) (objects_in e.kind) ≡ Some above =
      ok_is (option_and_then (above_of n) (objects_in e.kind)) (mismatch n (codes "object below the root") e) above first in
      let (c, objects, is) = above_is n e.kind above under in
      sound_ok r line (core.Up e.core) (kind.Object above) t second (up_kind r e.core c above (h ∙ ap Some objects) is)

  negated_sound : (a t : Typed) → negated n line a ≡ Ok t → kind_here r a.core ≡ Some a.kind → Sound r line t
  unfolding negated
  negated_sound a t made h =
      let (l, first, second) = came (agreed n kind.Number a) (λ k. Ok (typed_as line (core.Negate a.core) kind.Number)) t made in
      sound_ok r line (core.Negate a.core) kind.Number t second
      (kind-Negate n r.kinds v a.core ∙ then_one (kind_here r a.core) a.kind (λ x. provided (serves kind.Number x) kind.Number) h
      ∙ ap (λ b. provided b kind.Number) (agreed_serves n kind.Number a l first))

  denied_sound : (a t : Typed) → denied n line a ≡ Ok t → kind_here r a.core ≡ Some a.kind → Sound r line t
  unfolding denied
  denied_sound a t made h =
      let (l, first, second) = came (agreed n kind.Truth a) (λ k. Ok (typed_as line (core.Not a.core) kind.Truth)) t made in
      sound_ok r line (core.Not a.core) kind.Truth t second
      (kind-Not n r.kinds v a.core ∙ then_one (kind_here r a.core) a.kind (λ x. provided (serves kind.Truth x) kind.Truth) h
      ∙ ap (λ b. provided b kind.Truth) (agreed_serves n kind.Truth a l first))

  -- two parts that both must have a type, which the form then has
  both_serve : (wanted : Kind) (a b : Typed) (make : Core) (k : Kind) → both_agreed n wanted a b ≡ Ok k
      → kind_here r a.core ≡ Some a.kind → kind_here r b.core ≡ Some b.kind
      → kind_here r make ≡ kind_here r a.core >> (λ x. kind_here r b.core >> (λ y. provided (serves wanted x && serves wanted y) wanted)) →
      kind_here r make ≡ Some k
  unfolding both_agreed
  both_serve wanted a b make k made ha hb law =
      let (l, first, rest) = came (agreed n wanted a) (λ k. agreed n wanted b >>= (λ l. Ok wanted)) k made in
      let (m, second, third) = came (agreed n wanted b) (λ l. Ok wanted) k rest in
      law ∙ then_two (kind_here r a.core) (kind_here r b.core) a.kind b.kind (λ x y. provided (serves wanted x && serves wanted y) wanted) ha hb
      ∙ ap (λ b. provided b wanted)
      (all_true (serves wanted a.kind) (serves wanted b.kind) (agreed_serves n wanted a l first) (agreed_serves n wanted b m second))
      ∙ ap Some (same_ok wanted k third)

  calculates : (op : ArithmeticOperator) (a b : Typed) (k : Kind) → both_agreed n kind.Number a b ≡ Ok k → kind_here r a.core ≡ Some a.kind →
      kind_here r b.core ≡ Some b.kind → kind_here r (core.Arithmetic op a.core b.core) ≡ Some k
  calculates op a b k made ha hb = both_serve kind.Number a b (core.Arithmetic op a.core b.core) k made ha hb (kind-Arithmetic n r.kinds v op a.core b.core)

  connects : (op : Connective) (a b : Typed) (k : Kind) → both_agreed n kind.Truth a b ≡ Ok k → kind_here r a.core ≡ Some a.kind →
      kind_here r b.core ≡ Some b.kind → kind_here r (core.Connect op a.core b.core) ≡ Some k
  connects op a b k made ha hb = both_serve kind.Truth a b (core.Connect op a.core b.core) k made ha hb (kind-Connect n r.kinds v op a.core b.core)

  compares : (test : SetTest) (a b : Typed) (k : Kind) → compared n a b ≡ Ok k → kind_here r a.core ≡ Some a.kind → kind_here r b.core ≡ Some b.kind →
      kind_here r (core.Compare test a.core b.core) ≡ Some k
  unfolding compared
  compares test a b k made ha hb =
      let (l, first, second) = came (agreed n a.kind b) (λ l. Ok kind.Truth) k made in
      kind-Compare n r.kinds v test a.core b.core
      ∙ then_two (kind_here r a.core) (kind_here r b.core) a.kind b.kind (λ x y. provided (serves x y) kind.Truth) ha hb
      ∙ ap (λ b. provided b kind.Truth) (agreed_serves n a.kind b l first)
      ∙ ap Some (same_ok kind.Truth k second)

  orders : (test : OrderTest) (a b : Typed) (k : Kind) → in_order n a b ≡ Ok k → kind_here r a.core ≡ Some a.kind → kind_here r b.core ≡ Some b.kind →
      kind_here r (core.Order test a.core b.core) ≡ Some k
  unfolding in_order compared
  orders test a b k made ha hb =
      let (x, first, rest) = came (ordered n a) (λ x. ordered n b >>= (λ y. compared n a b)) k made in
      let (y, second, others) = came (ordered n b) (λ y. compared n a b) k rest in
      let (m, third, last) = came (agreed n a.kind b) (λ m. Ok kind.Truth) k others in
      kind-Order n r.kinds v test a.core b.core
      ∙ then_two (kind_here r a.core) (kind_here r b.core) a.kind b.kind (λ x y. provided (has_order x && has_order y && serves x y) kind.Truth) ha hb
      ∙ ap (λ b. provided b kind.Truth)
      (all_true (has_order a.kind && has_order b.kind) (serves a.kind b.kind)
      (all_true (has_order a.kind) (has_order b.kind) (ordered_is n a x first).0 (ordered_is n b y second).0) (agreed_serves n a.kind b m third))
      ∙ ap Some (same_ok kind.Truth k last)

  combines : (op : SetOperator) (a b : Typed) (k : Kind) → agreed n a.kind b ≡ Ok k → kind_here r a.core ≡ Some a.kind → kind_here r b.core ≡ Some b.kind →
      kind_here r (core.Combine op a.core b.core) ≡ Some k
  combines op a b k made ha hb =
      kind-Combine n r.kinds v op a.core b.core
      ∙ then_two (kind_here r a.core) (kind_here r b.core) a.kind b.kind common ha hb
      ∙ agreed_is n a.kind b k made

  operates : (op : Operator) (a b : Typed) (k : Kind) → operation_kind n op a b ≡ Ok k → kind_here r a.core ≡ Some a.kind → kind_here r b.core ≡ Some b.kind →
      kind_here r (operation_core op a.core b.core) ≡ Some k
  unfolding operation_kind
  operates operator.Or a b k made ha hb = connects connective.Or a b k made ha hb
  operates operator.And a b k made ha hb = connects connective.And a b k made ha hb
  operates operator.Equals a b k made ha hb = compares set_test.Equal a b k made ha hb
  operates operator.NotEquals a b k made ha hb = compares set_test.Unequal a b k made ha hb
  operates operator.Less a b k made ha hb = orders order_test.Less a b k made ha hb
  operates operator.AtMost a b k made ha hb = orders order_test.AtMost a b k made ha hb
  operates operator.Greater a b k made ha hb = orders order_test.Greater a b k made ha hb
  operates operator.AtLeast a b k made ha hb = orders order_test.AtLeast a b k made ha hb
  operates operator.In a b k made ha hb = compares set_test.Within a b k made ha hb
  operates operator.Union a b k made ha hb = combines set_operator.Union a b k made ha hb
  operates operator.Intersect a b k made ha hb = combines set_operator.Intersect a b k made ha hb
  operates operator.Except a b k made ha hb = combines set_operator.Except a b k made ha hb
  operates operator.Plus a b k made ha hb = calculates arithmetic_operator.Add a b k made ha hb
  operates operator.Minus a b k made ha hb = calculates arithmetic_operator.Subtract a b k made ha hb
  operates operator.Join a b k made ha hb = both_serve kind.Text a b (core.Join a.core b.core) k made ha hb (kind-Join n r.kinds v a.core b.core)
  operates operator.Times a b k made ha hb = calculates arithmetic_operator.Multiply a b k made ha hb
  operates operator.Divide a b k made ha hb = calculates arithmetic_operator.Divide a b k made ha hb
  operates operator.Remainder a b k made ha hb = calculates arithmetic_operator.Remainder a b k made ha hb

  operation_sound : (op : Operator) (a b t : Typed) → operation n line op a b ≡ Ok t → kind_here r a.core ≡ Some a.kind → kind_here r b.core ≡ Some b.kind →
      Sound r line t
  unfolding operation
  operation_sound op a b t made ha hb =
      let (k, first, second) = came (operation_kind n op a b) (λ k. Ok (typed_as line (operation_core op a.core b.core) k)) t made in
      sound_ok r line (operation_core op a.core b.core) k t second (operates op a b k first ha hb)

  choice_sound : (c a b t : Typed) → choice n line c a b ≡ Ok t → kind_here r c.core ≡ Some c.kind → kind_here r a.core ≡ Some a.kind →
      kind_here r b.core ≡ Some b.kind → Sound r line t
  unfolding choice branches
  choice_sound c a b t made hc ha hb =
      let (l, both, second) = came (branches n c a b) (λ k. Ok (typed_as line (core.If c.core a.core b.core) k)) t made in
      let (k, first, third) = came (agreed n kind.Truth c) (λ k. agreed n a.kind b) l both in
      sound_ok r line (core.If c.core a.core b.core) l t second
      (kind-If n r.kinds v c.core a.core b.core
      ∙ then_three (kind_here r c.core) (kind_here r a.core) (kind_here r b.core) c.kind a.kind b.kind (λ x y z. if serves kind.Truth x then common y z
      else None) hc ha hb
      ∙ ap (λ x. if x then common a.kind b.kind else None) (agreed_serves n kind.Truth c k first)
      ∙ agreed_is n a.kind b l third)

  extreme_is : (m : Extremum) (s : Typed) (k : Kind) → ordered n s ≡ Ok k → kind_here r s.core ≡ Some s.kind → kind_here r (core.Extreme m s.core) ≡ Some k
  extreme_is m s k made h =
      let (test, same) = ordered_is n s k made in
      kind-Extreme n r.kinds v m s.core
      ∙ then_one (kind_here r s.core) s.kind (λ x. provided (has_order x) x) h
      ∙ ap (λ b. provided b s.kind) test ∙ ap Some same

  calls : (f : Function) (s : Typed) (k : Kind) → call_kind n f s ≡ Ok k → kind_here r s.core ≡ Some s.kind → kind_here r (call_core f s.core) ≡ Some k
  unfolding call_kind
  calls function.Count s k made h =
      kind-Count n r.kinds v s.core ∙ then_one (kind_here r s.core) s.kind (λ x. Some kind.Number) h ∙ ap Some (same_ok kind.Number k made)
  calls function.Only s k made h = kind-Only n r.kinds v s.core ∙ h ∙ ap Some (same_ok s.kind k made)
  calls function.Min s k made h = extreme_is extremum.Min s k made h
  calls function.Max s k made h = extreme_is extremum.Max s k made h

  called_sound : (f : Function) (s t : Typed) → called n line f s ≡ Ok t → kind_here r s.core ≡ Some s.kind → Sound r line t
  unfolding called
  called_sound f s t made h =
      let (k, first, second) = came (call_kind n f s) (λ k. Ok (typed_as line (call_core f s.core) k)) t made in
      sound_ok r line (call_core f s.core) k t second (calls f s k first h)

  all_agreed_is : (so_far : Kind) (parts : List Typed) (l : Kind) → all_agreed n so_far parts ≡ Ok l →
      all_common so_far (map (λ (part : Typed). part.kind) parts) ≡ Some l
  unfolding all_agreed
  all_agreed_is so_far [] l e = ap Some (same_ok so_far l e)
  all_agreed_is so_far (part ∷ parts) l e =
      let (k, first, rest) = came (agreed n so_far part) (λ k. all_agreed n k parts) l e in
      ap (λ o. o >> (λ m. all_common m (map (λ (part : Typed). part.kind) parts))) (agreed_is n so_far part k first)
      ∙ all_agreed_is k parts l rest

  set_sound : (parts : List Typed) (t : Typed) → set_of n line parts ≡ Ok t →
      kinds_of_all n r.kinds v (map (λ (part : Typed). part.core) parts) ≡ Some (map (λ (part : Typed). part.kind) parts) → Sound r line t
  unfolding set_of
  set_sound parts t made h =
      let (k, first, second) = came (all_agreed n kind.Unknown parts) (λ k. Ok (typed_as line (core.Set (map (λ (part : Typed). part.core) parts)) k)) t made in
      sound_ok r line (core.Set (map (λ (part : Typed). part.core) parts)) k t second
      (kind-Set n r.kinds v (map (λ (part : Typed). part.core) parts) ∙ ap (λ o. o >> all_common kind.Unknown) h ∙ all_agreed_is kind.Unknown parts k first)

  -- the parts of a comprehension stand behind one variable more
  abbrev inner : Kind → List Kind
  inner k = v ++ k ∷ []

  gathers : (g : Gathering) (f s p : Typed) (k : Kind) → gathered_kind n g f p ≡ Ok k → kind_here r s.core ≡ Some s.kind →
      kind_in f.core n r.kinds (inner s.kind) ≡ Some f.kind → kind_in p.core n r.kinds (inner s.kind) ≡ Some p.kind →
      kind_here r (gathered_core g f.core s.core p.core) ≡ Some k
  unfolding gathered_kind
  gathers gathering.Union f s p k made hs hf hp =
      let (l, first, second) = came (agreed n kind.Truth p) (λ l. Ok f.kind) k made in
      kind-Comprehension n r.kinds v f.core s.core p.core
      ∙ then_one (kind_here r s.core) s.kind
      (λ x. kind_in f.core n r.kinds (inner x) >> (λ y. kind_in p.core n r.kinds (inner x) >> (λ z. provided (serves kind.Truth z) y))) hs
      ∙ then_two (kind_in f.core n r.kinds (inner s.kind)) (kind_in p.core n r.kinds (inner s.kind)) f.kind p.kind (λ y z. provided (serves kind.Truth z) y) hf
      hp
      ∙ ap (λ b. provided b f.kind) (agreed_serves n kind.Truth p l first)
      ∙ ap Some (same_ok f.kind k second)
  gathers gathering.Sum f s p k made hs hf hp =
      let (l, first, rest) = came (agreed n kind.Number f) (λ l. agreed n kind.Truth p >>= (λ m. Ok kind.Number)) k made in
      let (m, second, third) = came (agreed n kind.Truth p) (λ m. Ok kind.Number) k rest in
      kind-Sum n r.kinds v f.core s.core p.core
      ∙ then_one (kind_here r s.core) s.kind
      (λ x. kind_in f.core n r.kinds (inner x) >>
      (λ y. kind_in p.core n r.kinds (inner x) >> (λ z. provided (serves kind.Number y && serves kind.Truth z) kind.Number))) hs
      ∙ then_two (kind_in f.core n r.kinds (inner s.kind)) (kind_in p.core n r.kinds (inner s.kind)) f.kind p.kind
      (λ y z. provided (serves kind.Number y && serves kind.Truth z) kind.Number) hf hp
      ∙ ap (λ b. provided b kind.Number) (all_true (serves kind.Number f.kind) (serves kind.Truth p.kind) (agreed_serves n kind.Number f l first)
      (agreed_serves n kind.Truth p m second))
      ∙ ap Some (same_ok kind.Number k third)

  gathered_sound : (g : Gathering) (f s p t : Typed) → gathered n line g f s p ≡ Ok t → kind_here r s.core ≡ Some s.kind →
      kind_in f.core n r.kinds (inner s.kind) ≡ Some f.kind → kind_in p.core n r.kinds (inner s.kind) ≡ Some p.kind → Sound r line t
  unfolding gathered
  gathered_sound g f s p t made hs hf hp =
      let (k, first, second) = came (gathered_kind n g f p) (λ k. Ok (typed_as line (gathered_core g f.core s.core p.core) k)) t made in
      sound_ok r line (gathered_core g f.core s.core p.core) k t second (gathers g f s p k first hs hf hp)

  tested_sound : (q : Quantifier) (s p t : Typed) → tested n line q s p ≡ Ok t → kind_here r s.core ≡ Some s.kind →
      kind_in p.core n r.kinds (inner s.kind) ≡ Some p.kind → Sound r line t
  unfolding tested
  tested_sound q s p t made hs hp =
      let (l, first, second) = came (agreed n kind.Truth p) (λ k. Ok (typed_as line (core.Quantify (quantifier_of q) s.core p.core) kind.Truth)) t made in
      sound_ok r line (core.Quantify (quantifier_of q) s.core p.core) kind.Truth t second
      (kind-Quantify n r.kinds v (quantifier_of q) s.core p.core
      ∙ then_one (kind_here r s.core) s.kind (λ x. kind_in p.core n r.kinds (inner x) >> (λ z. provided (serves kind.Truth z) kind.Truth)) hs
      ∙ then_one (kind_in p.core n r.kinds (inner s.kind)) p.kind (λ z. provided (serves kind.Truth z) kind.Truth) hp
      ∙ ap (λ b. provided b kind.Truth) (agreed_serves n kind.Truth p l first))

-- what a part has where one variable more is bound
inner_kind : (r : Reach) (x : List ℕ) (k : Kind) (line : ℕ) (part : Typed) → Sound (bind r x k) line part →
    kind_in part.core r.columns r.kinds (kinds_of r.variables ++ k ∷ []) ≡ Some part.kind
inner_kind r x k line part s = ap (kind_in part.core r.columns r.kinds) (sym (kinds_of_bound r.variables (record { name = x; kind = k }))) ∙ s.kind_is

mutual
  pub sound : (e : Tree) (r : Reach) (t : Typed) → typed e r ≡ Ok t → Sound r (line_of e) t
  sound (Number line i) r t h = sound_ok r line (core.Number i) kind.Number t h refl
  sound (Text line x) r t h = sound_ok r line (core.Text x) kind.Text t h refl
  sound (Truth line b) r t h = sound_ok r line (core.Truth b) kind.Truth t h refl
  sound (Root line) r t h = sound_ok r line core.Root (kind.Object 0) t h refl
  sound (This line) r t h = word_sound r line (codes "this") t h
  sound (Caller line) r t h = word_sound r line (codes "caller") t h
  sound (OperatorWord line) r t h = word_sound r line (codes "operator") t h
  sound (Name line name) r t h = named_sound r line name t h
  sound (Child' line _ (more e end) name) r t h =
      let (x, first, last) = came (typed e r) (step r line name) t h in
      step_sound r line name x t last (sound e r x first).kind_is
  sound (Up' line _ (more e end)) r t h =
      let (x, first, last) = came (typed e r) (up r.columns line) t h in
      up_sound r line x t last (sound e r x first).kind_is
  sound (Negate' line _ (more a end)) r t h =
      let (x, first, last) = came (typed a r) (negated r.columns line) t h in
      negated_sound r line x t last (sound a r x first).kind_is
  sound (Not' line _ (more a end)) r t h =
      let (x, first, last) = came (typed a r) (denied r.columns line) t h in
      denied_sound r line x t last (sound a r x first).kind_is
  sound (Binary' line op _ (more a end) _ (more b end)) r t h =
      let (x, first, rest) = came (typed a r) (λ x. typed b r >>= operation r.columns line op x) t h in
      let (y, second, last) = came (typed b r) (operation r.columns line op x) t rest in
      operation_sound r line op x y t last (sound a r x first).kind_is (sound b r y second).kind_is
  sound (If' line _ (more c end) _ (more a end) _ (more b end)) r t h =
      let (x, first, rest) = came (typed c r) (λ x. typed a r >>= (λ y. typed b r >>= choice r.columns line x y)) t h in
      let (y, second, others) = came (typed a r) (λ y. typed b r >>= choice r.columns line x y) t rest in
      let (z, third, last) = came (typed b r) (choice r.columns line x y) t others in
      choice_sound r line x y z t last (sound c r x first).kind_is (sound a r y second).kind_is (sound b r z third).kind_is
  sound (Set' line _ parts) r t h =
      let (xs, first, last) = came (typed_each parts r) (set_of r.columns line) t h in
      set_sound r line xs t last (sound_each parts r xs first)
  sound (Call' line f _ (more s end)) r t h =
      let (x, first, last) = came (typed s r) (called r.columns line f) t h in
      called_sound r line f x t last (sound s r x first).kind_is
  sound (Gather' line g _ (more f end) x _ (more s end)) r t h =
      let (source, first, rest) =
      came (typed s r) (λ source. typed f (bind r x source.kind) >>= (λ body. gathered r.columns line g body source (no_condition line))) t h in
      let (body, second, last) = came (typed f (bind r x source.kind)) (λ body. gathered r.columns line g body source (no_condition line)) t rest in
      gathered_sound r line g body source (no_condition line) t last (sound s r source first).kind_is
      (inner_kind r x source.kind (line_of f) body (sound f (bind r x source.kind) body second)) refl
  sound (GatherWhere' line g _ (more f end) x _ (more s end) _ (more p end)) r t h =
      let (source, first, rest) =
      came (typed s r) (λ source. typed f (bind r x source.kind) >>= (λ body. typed p (bind r x source.kind) >>= gathered r.columns line g body source)) t
      h in
      let (body, second, others) = came (typed f (bind r x source.kind)) (λ body. typed p (bind r x source.kind) >>= gathered r.columns line g body source) t
      rest in
      let (condition, third, last) = came (typed p (bind r x source.kind)) (gathered r.columns line g body source) t others in
      gathered_sound r line g body source condition t last (sound s r source first).kind_is
      (inner_kind r x source.kind (line_of f) body (sound f (bind r x source.kind) body second))
      (inner_kind r x source.kind (line_of p) condition (sound p (bind r x source.kind) condition third))
  sound (Test' line q x _ (more s end) _ (more p end)) r t h =
      let (source, first, rest) = came (typed s r) (λ source. typed p (bind r x source.kind) >>= tested r.columns line q source) t h in
      let (condition, second, last) = came (typed p (bind r x source.kind)) (tested r.columns line q source) t rest in
      tested_sound r line q source condition t last (sound s r source first).kind_is
      (inner_kind r x source.kind (line_of p) condition (sound p (bind r x source.kind) condition second))

  sound_each : {m : _} (row : Row_of-Tree m) (r : Reach) (ts : List Typed) → typed_each row r ≡ Ok ts
      → kinds_of_all r.columns r.kinds (kinds_of r.variables) (map (λ (part : Typed). part.core) ts) ≡ Some (map (λ (part : Typed). part.kind) ts)
  sound_each end r ts h =
      let none : [] ≡ ts = same_ok [] ts h in
      subst (λ xs. kinds_of_all r.columns r.kinds (kinds_of r.variables) (map (λ (part : Typed). part.core) xs) ≡ Some (map (λ (part : Typed). part.kind) xs))
      none
      (kinds_of_none r.columns r.kinds (kinds_of r.variables))
  sound_each (more e rest) r ts h =
      let (x, first, others) = came (typed e r) (λ x. typed_each rest r >>= (λ xs. Ok (x ∷ xs))) ts h in
      let (xs, second, last) = came (typed_each rest r) (λ xs. Ok (x ∷ xs)) ts others in
      subst (λ ys. kinds_of_all r.columns r.kinds (kinds_of r.variables) (map (λ (part : Typed). part.core) ys) ≡ Some (map (λ (part : Typed). part.kind) ys))
      (same_ok (x ∷ xs) ts last)
      (kinds_of_more r.columns r.kinds (kinds_of r.variables) x.core (map (λ (part : Typed). part.core) xs) x.kind (map (λ (part : Typed). part.kind) xs)
      (sound e r x first).kind_is (sound_each rest r xs second))

append_none : (vs : List Variable) → vs ++ [] ≡ vs
append_none [] = refl
append_none (v ∷ vs) = ap (λ ws. v ∷ ws) (append_none vs)

-- where no variable is bound
pub none_bound : (s : Scope) → within s [] ≡ in_scope s
none_bound s = ap (reach s.columns.now s.kinds.now) (append_none s.variables.now)

pub kind_of_answer : (answer : Result Typed TypeRefusal) (e : Tree) (r : Reach) → Answers answer (typed e r) →
    IfOk answer (λ t. kind_here r t.core ≡ Some t.kind)
kind_of_answer (Ok t) e r h = (sound e r t h).kind_is
kind_of_answer (Err d) e r h = tt

pub line_of_answer : (answer : Result Typed TypeRefusal) (e : Tree) (r : Reach) → Answers answer (typed e r) → IfOk answer (λ t. t.line ≡ line_of e)
line_of_answer (Ok t) e r h = (sound e r t h).line_is
line_of_answer (Err d) e r h = tt

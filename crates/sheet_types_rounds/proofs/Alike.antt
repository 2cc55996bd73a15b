-- Formulas that mention no column whose type has changed have the types that they had.
use Rattle.std.proofs.Common.{◌≡◌, refl, sym, ap, ◌∙◌, ℕ, Bool, true, false, List, [], ◌∷◌, ◌++◌, Option, Some, None, Ok, Err}
use Rattle.std.specs.Prelude.{◌&&◌, ◌||◌, codes, slice_index_or, option_map, option_and_then, ok_or, bytes_eq}
use Rattle.std.specs.Option.{option_or}
use Rattle.std.specs.Prelude.{get_or}
use Rattle.std.proofs.lemmas.List.Quantifiers.{position-Some}
use Rattle.std.proofs.lemmas.Option.{slice_get-get_or}
use Rattle.std.proofs.lemmas.Slice.Eq.{bytes_eq-Decides}
use Rattle.sheet_values.specs.declared.value.Kind.{Kind}
use Rattle.sheet_values.specs.declared.value.Kind.TheVariants as kind
use Rattle.sheet_columns.specs.declared.tree.Column.{Column}
use Rattle.sheet_columns.specs.declared.tree.Column.TheVariants as column
use Rattle.sheet_columns.specs.declared.tree.Node.{Node}
use Rattle.sheet_columns.specs.Tree.{root, column_of, name_of, is_child_named, is_number, child_named}
use Rattle.sheet_columns.specs.declared.formula.Core.{Core}
use Rattle.sheet_columns.specs.declared.formula.Core.TheVariants as core
use Rattle.sheet_syntax_trees.specs.declared.tree.Tree.{Tree, Number, Text, Truth, Root, This, Caller, Operator as OperatorWord, Name, Child', Up'}
use Rattle.sheet_syntax_trees.specs.declared.tree.Tree.{Negate', Not', Binary', If', Set', Call', Gather', GatherWhere', Test', Row_of-Tree}
use Rattle.sheet_syntax_trees.specs.declared.tree.Tree.{end_of-Tree as end, more_of-Tree as more}
use Rattle.sheet_types_formulas.specs.declared.refusal.TypeRefusal.TheVariants.{UnknownName}
use Rattle.sheet_types_formulas.specs.declared.scope.Typed.{Typed}
use Rattle.sheet_types_formulas.specs.declared.scope.Variable.{Variable}
use Rattle.sheet_types_formulas.specs.Answers.{Answer, ◌>>=◌}
use Rattle.sheet_types_formulas.specs.Kinds.{object_column}
use Rattle.sheet_types_formulas.specs.Names.{reach, bind, typed_as, variable, upward, child, step_to, nearest, nearest_to, column_in_reach, named, word}
use Rattle.sheet_types_formulas.specs.Forms.{step, up, negated, denied, operation, choice, set_of, called, no_condition, gathered, tested}
use Rattle.sheet_types_formulas.specs.Typing.{typed, typed_each}
use Rattle.sheet_types_rounds.specs.Mentions.{is_among, mentions, mentions_each, AgreeBut}

both_are : (a b : Bool) → (a && b) ≡ true → (a ≡ true) × (b ≡ true)
both_are true b all = (refl, all)
both_are false b all = absurd cc

pub neither : (a b : Bool) → (a || b) ≡ false → (a ≡ false) × (b ≡ false)
neither true b none = absurd cc
neither false b none = (refl, none)

-- a step behind answers that are the same
then_alike : {A B : Type 0} (a b : Answer A) (f g : A → Answer B) → a ≡ b → ((x : A) → f x ≡ g x) → (a >>= f) ≡ (b >>= g)
then_alike {A} {B} a b f g same each = ap (λ c. c >>= f) same ∙ then_each b
  where
    then_each : (c : Answer A) → (c >>= f) ≡ (c >>= g)
    then_each (Ok x) = each x
    then_each (Err e) = refl

-- the column at the place of the first of that name has it
pub has_name : (nodes : List Node) (above : ℕ) (name : List ℕ) (c : ℕ) → child_named nodes above name ≡ Some c → name_of nodes c ≡ Some name
has_name nodes above name c got =
    let found = position-Some (is_child_named above name) nodes c root got in
    let there = slice_get-get_or nodes c root found.0 in
    let tests = both_are (is_number above (get_or nodes c root).above) (bytes_eq name (get_or nodes c root).name) found.1 in
    ap (option_map (λ (n : Node). n.name)) there ∙ ap Some (sym ((bytes_eq-Decides name (get_or nodes c root).name).0 tests.1))

at_column : (nodes : List Node) (k l : List Kind) (v : List Variable) (line c : ℕ) (e : Core) (w : Option Column)
    → slice_index_or k c kind.Unknown ≡ slice_index_or l c kind.Unknown
    → option_map (step_to (reach nodes k v) line e c) w ≡ option_map (step_to (reach nodes l v) line e c) w
at_column nodes k l v line c e None same = refl
at_column nodes k l v line c e (Some column.Object) same = refl
at_column nodes k l v line c e (Some (column.State t one first)) same = ap (λ x. Some (typed_as line (core.StateStep e c) x)) same
at_column nodes k l v line c e (Some (column.Formula t)) same = ap (λ x. Some (typed_as line (core.FormulaStep e c) x)) same

at_place : (nodes : List Node) (k l : List Kind) (v : List Variable) (line : ℕ) (e : Core) (o : Option ℕ)
    → ((c : ℕ) → o ≡ Some c → slice_index_or k c kind.Unknown ≡ slice_index_or l c kind.Unknown)
    → option_and_then (λ c. option_map (step_to (reach nodes k v) line e c) (column_of nodes c)) o
    ≡ option_and_then (λ c. option_map (step_to (reach nodes l v) line e c) (column_of nodes c)) o
at_place nodes k l v line e None same = refl
at_place nodes k l v line e (Some c) same = at_column nodes k l v line c e (column_of nodes c) (same c refl)

child_alike : (ns : List (List ℕ)) (nodes : List Node) (k l : List Kind) (v : List Variable) (line : ℕ) (e : Core) (above : ℕ) (name : List ℕ)
    → AgreeBut ns nodes k l → is_among ns name ≡ false → child (reach nodes k v) line e above name ≡ child (reach nodes l v) line e above name
child_alike ns nodes k l v line e above name agree other =
    at_place nodes k l v line e (child_named nodes above name) (λ c got. agree c name (has_name nodes above name c got) other)

nearest_alike : (ns : List (List ℕ)) (nodes : List Node) (k l : List Kind) (v : List Variable) (line : ℕ) (name : List ℕ) (e : Core) (cs : List ℕ)
    → AgreeBut ns nodes k l → is_among ns name ≡ false → nearest (reach nodes k v) line name e cs ≡ nearest (reach nodes l v) line name e cs
nearest_alike ns nodes k l v line name e [] agree other = refl
nearest_alike ns nodes k l v line name e (c ∷ cs) agree other =
    ap (λ o. option_or o (nearest (reach nodes k v) line name (core.Up e) cs)) (child_alike ns nodes k l v line e c name agree other)
    ∙ ap (λ o. option_or (child (reach nodes l v) line e c name) o) (nearest_alike ns nodes k l v line name (core.Up e) cs agree other)

nearest_to_alike : (ns : List (List ℕ)) (nodes : List Node) (k l : List Kind) (v : List Variable) (line : ℕ) (name : List ℕ) (e : Core) (t : Kind)
    → AgreeBut ns nodes k l → is_among ns name ≡ false → nearest_to (reach nodes k v) line name e t ≡ nearest_to (reach nodes l v) line name e t
nearest_to_alike ns nodes k l v line name e kind.Unknown agree other = refl
nearest_to_alike ns nodes k l v line name e kind.Truth agree other = refl
nearest_to_alike ns nodes k l v line name e kind.Number agree other = refl
nearest_to_alike ns nodes k l v line name e kind.Text agree other = refl
nearest_to_alike ns nodes k l v line name e (kind.Object c) agree other = nearest_alike ns nodes k l v line name e (upward c nodes c) agree other

in_reach_alike : (ns : List (List ℕ)) (nodes : List Node) (k l : List Kind) (v : List Variable) (line : ℕ) (name : List ℕ) (this : Option Typed)
    → AgreeBut ns nodes k l → is_among ns name ≡ false → column_in_reach (reach nodes k v) line name this ≡ column_in_reach (reach nodes l v) line name this
in_reach_alike ns nodes k l v line name None agree other = child_alike ns nodes k l v line core.Root 0 name agree other
in_reach_alike ns nodes k l v line name (Some this) agree other = nearest_to_alike ns nodes k l v line name this.core this.kind agree other

named_alike : (ns : List (List ℕ)) (nodes : List Node) (k l : List Kind) (v : List Variable) (line : ℕ) (name : List ℕ)
    → AgreeBut ns nodes k l → is_among ns name ≡ false → named (reach nodes k v) line name ≡ named (reach nodes l v) line name
unfolding named
named_alike ns nodes k l v line name agree other =
    ap (λ o. ok_or (option_or (variable (reach nodes k v) line name) o) (UnknownName line))
    (in_reach_alike ns nodes k l v line name (variable (reach nodes k v) line (codes "this")) agree other)

word_alike : (nodes : List Node) (k l : List Kind) (v : List Variable) (line : ℕ) (name : List ℕ)
    → word (reach nodes k v) line name ≡ word (reach nodes l v) line name
unfolding word
word_alike nodes k l v line name = refl

step_alike : (ns : List (List ℕ)) (nodes : List Node) (k l : List Kind) (v : List Variable) (line : ℕ) (name : List ℕ) (e : Typed)
    → AgreeBut ns nodes k l → is_among ns name ≡ false → step (reach nodes k v) line name e ≡ step (reach nodes l v) line name e
unfolding step
step_alike ns nodes k l v line name e agree other =
    then_alike (object_column nodes e) (object_column nodes e) (λ above. ok_or (child (reach nodes k v) line e.core above name) (UnknownName line))
    (λ above. ok_or (child (reach nodes l v) line e.core above name) (UnknownName line)) refl
    (λ above. ap (λ o. ok_or o (UnknownName line)) (child_alike ns nodes k l v line e.core above name agree other))

mutual
  pub typed_alike : (e : Tree) (ns : List (List ℕ)) (nodes : List Node) (k l : List Kind) (v : List Variable)
      → AgreeBut ns nodes k l → mentions e ns ≡ false → typed e (reach nodes k v) ≡ typed e (reach nodes l v)
  typed_alike (Number line n) ns nodes k l v agree none = refl
  typed_alike (Text line t) ns nodes k l v agree none = refl
  typed_alike (Truth line b) ns nodes k l v agree none = refl
  typed_alike (Root line) ns nodes k l v agree none = refl
  typed_alike (This line) ns nodes k l v agree none = word_alike nodes k l v line (codes "this")
  typed_alike (Caller line) ns nodes k l v agree none = word_alike nodes k l v line (codes "caller")
  typed_alike (OperatorWord line) ns nodes k l v agree none = word_alike nodes k l v line (codes "operator")
  typed_alike (Name line name) ns nodes k l v agree none = named_alike ns nodes k l v line name agree none
  typed_alike (Child' line _ (more e end) name) ns nodes k l v agree none =
      let both = neither (is_among ns name) (mentions e ns) none in
      then_alike _ _ (step (reach nodes k v) line name) (step (reach nodes l v) line name) (typed_alike e ns nodes k l v agree both.1)
      (λ x. step_alike ns nodes k l v line name x agree both.0)
  typed_alike (Up' line _ (more e end)) ns nodes k l v agree none = ap (λ a. a >>= up nodes line) (typed_alike e ns nodes k l v agree none)
  typed_alike (Negate' line _ (more a end)) ns nodes k l v agree none = ap (λ x. x >>= negated nodes line) (typed_alike a ns nodes k l v agree none)
  typed_alike (Not' line _ (more a end)) ns nodes k l v agree none = ap (λ x. x >>= denied nodes line) (typed_alike a ns nodes k l v agree none)
  typed_alike (Binary' line op _ (more a end) _ (more b end)) ns nodes k l v agree none =
      let both = neither (mentions a ns) (mentions b ns) none in
      then_alike _ _ (λ x. typed b (reach nodes k v) >>= operation nodes line op x) (λ x. typed b (reach nodes l v) >>= operation nodes line op x)
      (typed_alike a ns nodes k l v agree both.0)
      (λ x. ap (λ y. y >>= operation nodes line op x) (typed_alike b ns nodes k l v agree both.1))
  typed_alike (If' line _ (more c end) _ (more a end) _ (more b end)) ns nodes k l v agree none =
      let one = neither (mentions c ns) (mentions a ns || mentions b ns) none in
      let both = neither (mentions a ns) (mentions b ns) one.1 in
      then_alike _ _ (λ x. typed a (reach nodes k v) >>= (λ y. typed b (reach nodes k v) >>= choice nodes line x y))
      (λ x. typed a (reach nodes l v) >>= (λ y. typed b (reach nodes l v) >>= choice nodes line x y))
      (typed_alike c ns nodes k l v agree one.0)
      (λ x. then_alike _ _ (λ y. typed b (reach nodes k v) >>= choice nodes line x y) (λ y. typed b (reach nodes l v) >>= choice nodes line x y)
      (typed_alike a ns nodes k l v agree both.0)
      (λ y. ap (λ z. z >>= choice nodes line x y) (typed_alike b ns nodes k l v agree both.1)))
  typed_alike (Set' line _ parts) ns nodes k l v agree none = ap (λ xs. xs >>= set_of nodes line) (each_alike parts ns nodes k l v agree none)
  typed_alike (Call' line f _ (more s end)) ns nodes k l v agree none = ap (λ x. x >>= called nodes line f) (typed_alike s ns nodes k l v agree none)
  typed_alike (Gather' line g _ (more f end) x _ (more s end)) ns nodes k l v agree none =
      let both = neither (mentions s ns) (mentions f ns) none in
      then_alike _ _ (λ source. typed f (bind (reach nodes k v) x source.kind) >>= (λ body. gathered nodes line g body source (no_condition line)))
      (λ source. typed f (bind (reach nodes l v) x source.kind) >>= (λ body. gathered nodes line g body source (no_condition line)))
      (typed_alike s ns nodes k l v agree both.0)
      (λ source. ap (λ y. y >>= (λ body. gathered nodes line g body source (no_condition line)))
      (typed_alike f ns nodes k l (v ++ record { name = x; kind = source.kind } ∷ []) agree both.1))
  typed_alike (GatherWhere' line g _ (more f end) x _ (more s end) _ (more p end)) ns nodes k l v agree none =
      let one = neither (mentions s ns) (mentions f ns || mentions p ns) none in
      let both = neither (mentions f ns) (mentions p ns) one.1 in
      then_alike _ _ (λ source. typed f (bind (reach nodes k v) x source.kind) >>=
      (λ body. typed p (bind (reach nodes k v) x source.kind) >>= gathered nodes line g body source))
      (λ source. typed f (bind (reach nodes l v) x source.kind) >>=
      (λ body. typed p (bind (reach nodes l v) x source.kind) >>= gathered nodes line g body source))
      (typed_alike s ns nodes k l v agree one.0)
      (λ source. then_alike _ _ (λ body. typed p (bind (reach nodes k v) x source.kind) >>= gathered nodes line g body source)
      (λ body. typed p (bind (reach nodes l v) x source.kind) >>= gathered nodes line g body source)
      (typed_alike f ns nodes k l (v ++ record { name = x; kind = source.kind } ∷ []) agree both.0)
      (λ body. ap (λ y. y >>= gathered nodes line g body source) (typed_alike p ns nodes k l (v ++ record { name = x; kind = source.kind } ∷ []) agree both.1)))
  typed_alike (Test' line q x _ (more s end) _ (more p end)) ns nodes k l v agree none =
      let both = neither (mentions s ns) (mentions p ns) none in
      then_alike _ _ (λ source. typed p (bind (reach nodes k v) x source.kind) >>= tested nodes line q source)
      (λ source. typed p (bind (reach nodes l v) x source.kind) >>= tested nodes line q source)
      (typed_alike s ns nodes k l v agree both.0)
      (λ source. ap (λ y. y >>= tested nodes line q source) (typed_alike p ns nodes k l (v ++ record { name = x; kind = source.kind } ∷ []) agree both.1))

  each_alike : {m : _} (row : Row_of-Tree m) (ns : List (List ℕ)) (nodes : List Node) (k l : List Kind) (v : List Variable)
      → AgreeBut ns nodes k l → mentions_each row ns ≡ false → typed_each row (reach nodes k v) ≡ typed_each row (reach nodes l v)
  each_alike end ns nodes k l v agree none = refl
  each_alike (more e rest) ns nodes k l v agree none =
      let both = neither (mentions e ns) (mentions_each rest ns) none in
      then_alike _ _ (λ x. typed_each rest (reach nodes k v) >>= (λ xs. Ok (x ∷ xs))) (λ x. typed_each rest (reach nodes l v) >>= (λ xs. Ok (x ∷ xs)))
      (typed_alike e ns nodes k l v agree both.0)
      (λ x. ap (λ y. y >>= (λ xs. Ok (x ∷ xs))) (each_alike rest ns nodes k l v agree both.1))

-- Formulas that wait for a column of a name that isn't known have no type.
use Rattle.std.proofs.Common.{◌≡◌, refl, sym, ap, subst, ℕ, ◌+◌, Bool, true, false, not, List, [], ◌∷◌, ◌++◌, Option, Some, None, Ok, Err, inl, inr}
use Rattle.std.specs.Prelude.{◌||◌, ◌&&◌, ◌⊎◌, codes, slice_index_or, option_map, option_and_then, ok_or, bytes_eq}
use Rattle.std.specs.Option.{option_or}
use Rattle.std.specs.List.{AllByRecursion}
use Rattle.std.proofs.lemmas.Bool.{both_ways}
use Rattle.std.proofs.lemmas.Slice.Eq.{bytes_eq-Decides}
use Rattle.sheet_values.specs.declared.value.Kind.{Kind}
use Rattle.sheet_values.specs.declared.value.Kind.TheVariants as kind
use Rattle.sheet_columns.specs.declared.tree.Column.{Column}
use Rattle.sheet_columns.specs.declared.tree.Column.TheVariants as column
use Rattle.sheet_columns.specs.declared.tree.Node.{Node}
use Rattle.sheet_columns.specs.Tree.{column_of, child_named, above_of}
use Rattle.sheet_columns.specs.declared.formula.Core.{Core}
use Rattle.sheet_columns.specs.declared.formula.Core.TheVariants as core
use Rattle.sheet_syntax_trees.specs.declared.operators.Gathering.{Gathering}
use Rattle.sheet_syntax_trees.specs.declared.operators.Gathering.TheVariants as gathering
use Rattle.sheet_syntax_trees.specs.declared.tree.Tree.{Tree, Number, Text, Truth, Root, This, Caller, Operator as OperatorWord, Name, Child', Up'}
use Rattle.sheet_syntax_trees.specs.declared.tree.Tree.{Negate', Not', Binary', If', Set', Call', Gather', GatherWhere', Test', Row_of-Tree}
use Rattle.sheet_syntax_trees.specs.declared.tree.Tree.{end_of-Tree as end, more_of-Tree as more}
use Rattle.sheet_types_formulas.specs.declared.refusal.TypeRefusal.{TypeRefusal}
use Rattle.sheet_types_formulas.specs.declared.refusal.TypeRefusal.TheVariants.{UnknownName}
use Rattle.sheet_types_formulas.specs.declared.scope.Typed.{Typed}
use Rattle.sheet_types_formulas.specs.declared.scope.Variable.{Variable}
use Rattle.sheet_types_formulas.specs.Answers.{Answer, ◌>>=◌}
use Rattle.sheet_types_formulas.specs.Kinds.{agreed, object_column, column_above, mismatch}
use Rattle.sheet_types_rules.specs.Kinds.{objects_in}
use Rattle.sheet_types_formulas.specs.Names.{Reach, reach, bind, variable, variable_from, upward, child, step_to, nearest, nearest_to, column_in_reach, named}
use Rattle.sheet_types_formulas.specs.Forms.{step, up, negated, denied, operation, choice, set_of, called, no_condition, gathered, gathered_kind}
use Rattle.sheet_types_formulas.specs.Typing.{typed, typed_each}
use Rattle.sheet_types_rounds.specs.Mentions.{is_among, mentions, mentions_each}
use Rattle.sheet_types_rounds.specs.Rounds.{kind_told}
use Rattle.sheet_types_rounds.specs.Waiting.{HoldKnown, waits, each_waits, is_sum}
use Rattle.sheet_types_rounds.proofs.Alike.{has_name, neither}

one_of : (a b : Bool) → (a || b) ≡ true → (a ≡ true) ⊎ (b ≡ true)
one_of true b some = inl refl
one_of false b some = inr some

both_of : (a b : Bool) → (a && b) ≡ true → (a ≡ true) × (b ≡ true)
both_of true b all = (refl, all)
both_of false b all = absurd cc

all_three : (a b c : Bool) → (a || (b || c)) ≡ false → (a ≡ false) × (b ≡ false) × (c ≡ false)
all_three true b c none = absurd cc
all_three false true c none = absurd cc
all_three false false c none = (refl, refl, none)

denied_is : (a : Bool) → not a ≡ true → a ≡ false
denied_is true is = absurd cc
denied_is false is = refl

abbrev is_refused : {A : Type 0} → Answer A → Bool
is_refused (Ok x) = false
is_refused (Err e) = true

-- no type is told, or the answer is a refusal
abbrev pub Blocks : Bool → Answer Typed → Type 0
Blocks false a = kind_told a ≡ kind.Unknown
Blocks true a = is_refused a ≡ true

refused_blocks : (s : Bool) (a : Answer Typed) → is_refused a ≡ true → Blocks s a
refused_blocks s (Ok x) is = absurd cc
refused_blocks false (Err e) is = refl
refused_blocks true (Err e) is = refl

then_first : {A B : Type 0} (a : Answer A) (f : A → Answer B) → is_refused a ≡ true → is_refused (a >>= f) ≡ true
then_first (Ok x) f is = absurd cc
then_first (Err e) f is = refl

then_each : {A : Type 0} (s : Bool) (a : Answer A) (f : A → Answer Typed) → ((x : A) → Blocks s (f x)) → Blocks s (a >>= f)
then_each s (Ok x) f each = each x
then_each s (Err e) f each = refused_blocks s (Err e) refl

then_refused : {A B : Type 0} (a : Answer A) (f : A → Answer B) → ((x : A) → is_refused (f x) ≡ true) → is_refused (a >>= f) ≡ true
then_refused (Ok x) f each = each x
then_refused (Err e) f each = refl

then_unknown : (s : Bool) (a : Answer Typed) (f : Typed → Answer Typed) → kind_told a ≡ kind.Unknown
    → ((x : Typed) → x.kind ≡ kind.Unknown → is_refused (f x) ≡ true)
    → Blocks s (a >>= f)
then_unknown s (Ok x) f is each = refused_blocks s (f x) (each x is)
then_unknown s (Err e) f is each = refused_blocks s (Err e) refl

-- the type of what is found, where it is found
abbrev kind_of : Option Typed → Kind
kind_of None = kind.Unknown
kind_of (Some t) = t.kind

told_found : (o : Option Typed) (e : TypeRefusal) → kind_of o ≡ kind.Unknown → kind_told (ok_or o e) ≡ kind.Unknown
told_found None e is = refl
told_found (Some t) e is = is

or_open : (o p : Option Typed) → kind_of o ≡ kind.Unknown → kind_of p ≡ kind.Unknown → kind_of (option_or o p) ≡ kind.Unknown
or_open None p first second = second
or_open (Some t) p first second = first

at_column : (nodes : List Node) (k : List Kind) (v : List Variable) (line c : ℕ) (e : Core) (w : Option Column)
    → slice_index_or k c kind.Unknown ≡ kind.Unknown → (w ≡ Some column.Object → ⊥) → kind_of (option_map (step_to (reach nodes k v) line e c) w) ≡ kind.Unknown
at_column nodes k v line c e None is other = refl
at_column nodes k v line c e (Some column.Object) is other = absurd (other refl)
at_column nodes k v line c e (Some (column.State t one first)) is other = is
at_column nodes k v line c e (Some (column.Formula t)) is other = is

at_place : (ns : List (List ℕ)) (nodes : List Node) (k : List Kind) (v : List Variable) (line : ℕ) (e : Core) (above : ℕ) (name : List ℕ) (o : Option ℕ)
    → HoldKnown ns nodes k → is_among ns name ≡ false → child_named nodes above name ≡ o
    → kind_of (option_and_then (λ c. option_map (step_to (reach nodes k v) line e c) (column_of nodes c)) o) ≡ kind.Unknown
at_place ns nodes k v line e above name None known other got = refl
at_place ns nodes k v line e above name (Some c) known other got =
    let here = known c name (has_name nodes above name c got) other in
    at_column nodes k v line c e (column_of nodes c) here.0 here.1

nearest_open : (ns : List (List ℕ)) (nodes : List Node) (k : List Kind) (v : List Variable) (line : ℕ) (name : List ℕ) (e : Core) (cs : List ℕ)
    → HoldKnown ns nodes k → is_among ns name ≡ false → kind_of (nearest (reach nodes k v) line name e cs) ≡ kind.Unknown
nearest_open ns nodes k v line name e [] known other = refl
nearest_open ns nodes k v line name e (c ∷ cs) known other =
    or_open (child (reach nodes k v) line e c name) (nearest (reach nodes k v) line name (core.Up e) cs)
    (at_place ns nodes k v line e c name (child_named nodes c name) known other refl) (nearest_open ns nodes k v line name (core.Up e) cs known other)

nearest_to_open : (ns : List (List ℕ)) (nodes : List Node) (k : List Kind) (v : List Variable) (line : ℕ) (name : List ℕ) (e : Core) (t : Kind)
    → HoldKnown ns nodes k → is_among ns name ≡ false → kind_of (nearest_to (reach nodes k v) line name e t) ≡ kind.Unknown
nearest_to_open ns nodes k v line name e kind.Unknown known other = refl
nearest_to_open ns nodes k v line name e kind.Truth known other = refl
nearest_to_open ns nodes k v line name e kind.Number known other = refl
nearest_to_open ns nodes k v line name e kind.Text known other = refl
nearest_to_open ns nodes k v line name e (kind.Object c) known other = nearest_open ns nodes k v line name e (upward c nodes c) known other

in_reach_open : (ns : List (List ℕ)) (nodes : List Node) (k : List Kind) (v : List Variable) (line : ℕ) (name : List ℕ) (this : Option Typed)
    → HoldKnown ns nodes k → is_among ns name ≡ false → kind_of (column_in_reach (reach nodes k v) line name this) ≡ kind.Unknown
in_reach_open ns nodes k v line name None known other = at_place ns nodes k v line core.Root 0 name (child_named nodes 0 name) known other refl
in_reach_open ns nodes k v line name (Some this) known other = nearest_to_open ns nodes k v line name this.core this.kind known other

-- no variable is mentioned
abbrev pub Free : Tree → List Variable → Type 0
Free e v = AllByRecursion (λ (y : Variable). mentions e (y.name ∷ []) ≡ false) v

apart : (a b : List ℕ) → (bytes_eq a b || false) ≡ false → bytes_eq b a ≡ false
apart a b none = by_answer (bytes_eq b a) refl
  where
    by_answer : (r : Bool) → bytes_eq b a ≡ r → r ≡ false
    by_answer false is = refl
    by_answer true is =
        let same : b ≡ a = (bytes_eq-Decides b a).0 is in
        absurd (both_ways (bytes_eq a b) ((neither (bytes_eq a b) false none).0) ((bytes_eq-Decides a b).1 (sym same)))

no_variable : (p line : ℕ) (name : List ℕ) (v : List Variable) → AllByRecursion (λ (y : Variable). (bytes_eq name y.name || false) ≡ false) v
    → variable_from p line name v ≡ None
no_variable p line name [] free = refl
no_variable p line name (y ∷ ys) free = rw (no_variable (p + 1) line name ys free.1, apart name y.name free.0) refl

named_open : (ns : List (List ℕ)) (nodes : List Node) (k : List Kind) (v : List Variable) (line : ℕ) (name : List ℕ)
    → HoldKnown ns nodes k → is_among ns name ≡ false → variable (reach nodes k v) line name ≡ None
    → kind_told (named (reach nodes k v) line name) ≡ kind.Unknown
unfolding named
named_open ns nodes k v line name known other none =
    let this = variable (reach nodes k v) line (codes "this") in
    told_found (option_or (variable (reach nodes k v) line name) (column_in_reach (reach nodes k v) line name this)) (UnknownName line)
    (or_open (variable (reach nodes k v) line name) (column_in_reach (reach nodes k v) line name this) (ap kind_of none)
    (in_reach_open ns nodes k v line name this known other))

step_refused : (r : Reach) (line : ℕ) (name : List ℕ) (x : Typed) → x.kind ≡ kind.Unknown → is_refused (step r line name x) ≡ true
unfolding step object_column
step_refused r line name x is =
    then_first (object_column r.columns x) _ (ap (λ k. is_refused (ok_or (objects_in k) (mismatch r.columns (codes "object") x))) is)

up_refused : (nodes : List Node) (line : ℕ) (x : Typed) → x.kind ≡ kind.Unknown → is_refused (up nodes line x) ≡ true
unfolding up column_above
up_refused nodes line x is =
    then_first (column_above nodes x) _
    (ap (λ k. is_refused (ok_or (option_and_then (above_of nodes) (objects_in k)) (mismatch nodes (codes "object below the root") x))) is)

sum_or : (s : Bool) (g : Gathering) → (s || is_sum g) ≡ true → (s ≡ true) ⊎ (g ≡ gathering.Sum)
sum_or true g is = inl refl
sum_or false gathering.Union is = absurd cc
sum_or false gathering.Sum is = inr refl

union_told : (nodes : List Node) (line : ℕ) (body source condition : Typed) → body.kind ≡ kind.Unknown
    → kind_told (gathered nodes line gathering.Union body source condition) ≡ kind.Unknown
unfolding gathered gathered_kind
union_told nodes line body source condition is = by_answer (agreed nodes kind.Truth condition)
  where
    by_answer : (a : Answer Kind) → kind_told
        ((a >>= (λ k. Ok body.kind)) >>= (λ k. Ok (record { line = line; core = core.Comprehension body.core source.core condition.core; kind = k })))
        ≡ kind.Unknown
    by_answer (Ok k) = is
    by_answer (Err e) = refl

each_of : {P Q : Variable → Type 0} → ((y : Variable) → P y → Q y) → (v : List Variable) → AllByRecursion P v → AllByRecursion Q v
each_of f [] all = tt
each_of f (y ∷ ys) all = (f y all.0, each_of f ys all.1)

one_more : (P : Variable → Type 0) (v : List Variable) (y : Variable) → AllByRecursion P v → P y → AllByRecursion P (v ++ y ∷ [])
one_more P [] y all here = (here, tt)
one_more P (z ∷ v) y all here = (all.0, one_more P v y all.1 here)

-- a body that waits, in which the variable isn't mentioned
body_blocks : (s : Bool) (g : Gathering) (a : Answer Typed) (f : Typed → Answer Typed) → Blocks (s || is_sum g) a
    → ((x : Typed) → x.kind ≡ kind.Unknown → g ≡ gathering.Union → kind_told (f x) ≡ kind.Unknown) → Blocks s (a >>= f)
body_blocks true g a f is each = then_first a f is
body_blocks false gathering.Sum a f is each = refused_blocks false (a >>= f) (then_first a f is)
body_blocks false gathering.Union (Ok x) f is each = each x is refl
body_blocks false gathering.Union (Err e) f is each = refl

mutual
  pub blocked : (e : Tree) (s : Bool) (ns : List (List ℕ)) (nodes : List Node) (k : List Kind) (v : List Variable)
      → HoldKnown ns nodes k → Free e v → waits e s ns ≡ true → Blocks s (typed e (reach nodes k v))
  blocked (Number line n) s ns nodes k v known free is = absurd cc
  blocked (Text line t) s ns nodes k v known free is = absurd cc
  blocked (Truth line b) s ns nodes k v known free is = absurd cc
  blocked (Root line) s ns nodes k v known free is = absurd cc
  blocked (This line) s ns nodes k v known free is = absurd cc
  blocked (Caller line) s ns nodes k v known free is = absurd cc
  blocked (OperatorWord line) s ns nodes k v known free is = absurd cc
  blocked (Name line name) true ns nodes k v known free is = absurd cc
  blocked (Name line name) false ns nodes k v known free is =
      named_open ns nodes k v line name known (denied_is (is_among ns name) is) (no_variable 0 line name v free)
  blocked (Child' line _ (more e end) name) s ns nodes k v known free is =
      let inner : Free e v = each_of (λ y none. (neither (is_among (y.name ∷ []) name) (mentions e (y.name ∷ [])) none).1) v free in
      then_unknown s (typed e (reach nodes k v)) (step (reach nodes k v) line name) (blocked e false ns nodes k v known inner is)
      (step_refused (reach nodes k v) line name)
  blocked (Up' line _ (more e end)) s ns nodes k v known free is =
      then_unknown s (typed e (reach nodes k v)) (up nodes line) (blocked e false ns nodes k v known free is) (up_refused nodes line)
  blocked (Negate' line _ (more a end)) s ns nodes k v known free is =
      refused_blocks s _ (then_first (typed a (reach nodes k v)) (negated nodes line) (blocked a true ns nodes k v known free is))
  blocked (Not' line _ (more a end)) s ns nodes k v known free is =
      refused_blocks s _ (then_first (typed a (reach nodes k v)) (denied nodes line) (blocked a true ns nodes k v known free is))
  blocked (Binary' line op _ (more a end) _ (more b end)) s ns nodes k v known free is =
      let first : Free a v = each_of (λ y none. (neither (mentions a (y.name ∷ [])) (mentions b (y.name ∷ [])) none).0) v free in
      let second : Free b v = each_of (λ y none. (neither (mentions a (y.name ∷ [])) (mentions b (y.name ∷ [])) none).1) v free in
      refused_blocks s _
      (elim (one_of (waits a true ns) (waits b true ns) is) [
        | inl here ↦ then_first (typed a (reach nodes k v)) _ (blocked a true ns nodes k v known first here)
        | inr there ↦ then_refused (typed a (reach nodes k v)) _
            (λ x. then_first (typed b (reach nodes k v)) (operation nodes line op x) (blocked b true ns nodes k v known second there))
      ])
  blocked (If' line _ (more c end) _ (more a end) _ (more b end)) s ns nodes k v known free is =
      let first : Free c v = each_of (λ y none. (all_three (mentions c (y.name ∷ [])) (mentions a (y.name ∷ [])) (mentions b (y.name ∷ [])) none).0) v free in
      let second : Free a v = each_of (λ y none. (all_three (mentions c (y.name ∷ [])) (mentions a (y.name ∷ [])) (mentions b (y.name ∷ [])) none).1) v free in
      let third : Free b v = each_of (λ y none. (all_three (mentions c (y.name ∷ [])) (mentions a (y.name ∷ [])) (mentions b (y.name ∷ [])) none).2) v free in
      refused_blocks s _
      (elim (one_of (waits c true ns) (waits a true ns || waits b true ns) is) [
        | inl here ↦ then_first (typed c (reach nodes k v)) _ (blocked c true ns nodes k v known first here)
        | inr behind ↦ then_refused (typed c (reach nodes k v)) _
            (λ x. elim (one_of (waits a true ns) (waits b true ns) behind) [
              | inl here ↦ then_first (typed a (reach nodes k v)) _ (blocked a true ns nodes k v known second here)
              | inr there ↦ then_refused (typed a (reach nodes k v)) _
                  (λ y. then_first (typed b (reach nodes k v)) (choice nodes line x y) (blocked b true ns nodes k v known third there))
            ])
      ])
  blocked (Set' line _ parts) s ns nodes k v known free is =
      refused_blocks s _ (then_first (typed_each parts (reach nodes k v)) (set_of nodes line) (each_blocked parts ns nodes k v known free is))
  blocked (Call' line f _ (more e end)) s ns nodes k v known free is =
      refused_blocks s _ (then_first (typed e (reach nodes k v)) (called nodes line f) (blocked e true ns nodes k v known free is))
  blocked (Gather' line g _ (more f end) x _ (more e end)) s ns nodes k v known free is =
      let first : Free e v = each_of (λ y none. (neither (mentions e (y.name ∷ [])) (mentions f (y.name ∷ [])) none).0) v free in
      let second : Free f v = each_of (λ y none. (neither (mentions e (y.name ∷ [])) (mentions f (y.name ∷ [])) none).1) v free in
      elim (one_of (waits e true ns) (not (mentions f (x ∷ [])) && waits f (s || is_sum g) ns) is) [
        | inl here ↦ refused_blocks s _ (then_first (typed e (reach nodes k v)) _ (blocked e true ns nodes k v known first here))
        | inr there ↦
            let body = both_of (not (mentions f (x ∷ []))) (waits f (s || is_sum g) ns) there in
            then_each s (typed e (reach nodes k v)) _
            (λ source. body_blocks s g (typed f (bind (reach nodes k v) x source.kind)) (λ body. gathered nodes line g body source (no_condition line))
            (blocked f (s || is_sum g) ns nodes k (v ++ record { name = x; kind = source.kind } ∷ []) known
            (one_more (λ (y : Variable). mentions f (y.name ∷ []) ≡ false) v _ second (denied_is (mentions f (x ∷ [])) body.0)) body.1)
            (λ y unknown union. subst (λ g. kind_told (gathered nodes line g y source (no_condition line)) ≡ kind.Unknown) (sym union)
            (union_told nodes line y source (no_condition line) unknown)))
      ]
  blocked (GatherWhere' line g _ (more f end) x _ (more e end) _ (more p end)) s ns nodes k v known free is =
      let first : Free e v = each_of (λ y none. (all_three (mentions e (y.name ∷ [])) (mentions f (y.name ∷ [])) (mentions p (y.name ∷ [])) none).0) v free in
      let second : Free f v = each_of (λ y none. (all_three (mentions e (y.name ∷ [])) (mentions f (y.name ∷ [])) (mentions p (y.name ∷ [])) none).1) v free in
      elim (one_of (waits e true ns) (not (mentions f (x ∷ [])) && waits f (s || is_sum g) ns) is) [
        | inl here ↦ refused_blocks s _ (then_first (typed e (reach nodes k v)) _ (blocked e true ns nodes k v known first here))
        | inr there ↦
            let body = both_of (not (mentions f (x ∷ []))) (waits f (s || is_sum g) ns) there in
            then_each s (typed e (reach nodes k v)) _
            (λ source. body_blocks s g (typed f (bind (reach nodes k v) x source.kind))
            (λ body. typed p (bind (reach nodes k v) x source.kind) >>= gathered nodes line g body source)
            (blocked f (s || is_sum g) ns nodes k (v ++ record { name = x; kind = source.kind } ∷ []) known
            (one_more (λ (y : Variable). mentions f (y.name ∷ []) ≡ false) v _ second (denied_is (mentions f (x ∷ [])) body.0)) body.1)
            (λ y unknown union. then_each false (typed p (bind (reach nodes k v) x source.kind)) (gathered nodes line g y source)
            (λ condition. subst (λ g. kind_told (gathered nodes line g y source condition) ≡ kind.Unknown) (sym union)
            (union_told nodes line y source condition unknown))))
      ]
  blocked (Test' line q x _ (more e end) _ (more p end)) s ns nodes k v known free is =
      let first : Free e v = each_of (λ y none. (neither (mentions e (y.name ∷ [])) (mentions p (y.name ∷ [])) none).0) v free in
      refused_blocks s _ (then_first (typed e (reach nodes k v)) _ (blocked e true ns nodes k v known first is))

  each_blocked : {m : _} (row : Row_of-Tree m) (ns : List (List ℕ)) (nodes : List Node) (k : List Kind) (v : List Variable)
      → HoldKnown ns nodes k → AllByRecursion (λ (y : Variable). mentions_each row (y.name ∷ []) ≡ false) v → each_waits row ns ≡ true
      → is_refused (typed_each row (reach nodes k v)) ≡ true
  each_blocked end ns nodes k v known free is = absurd cc
  each_blocked (more e rest) ns nodes k v known free is =
      let first : Free e v = each_of (λ y none. (neither (mentions e (y.name ∷ [])) (mentions_each rest (y.name ∷ [])) none).0) v free in
      let second = each_of (λ y none. (neither (mentions e (y.name ∷ [])) (mentions_each rest (y.name ∷ [])) none).1) v free in
      elim (one_of (waits e true ns) (each_waits rest ns) is) [
        | inl here ↦ then_first (typed e (reach nodes k v)) _ (blocked e true ns nodes k v known first here)
        | inr there ↦ then_refused (typed e (reach nodes k v)) _
            (λ x. then_first (typed_each rest (reach nodes k v)) _ (each_blocked rest ns nodes k v known second there))
      ]

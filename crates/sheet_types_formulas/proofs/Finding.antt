-- What is found by a name.
use Rattle.std.proofs.Common.{◌≡◌, ℕ, ◌+◌, ◌<◌, ◌≤◌, zero, suc, Bool, true, false, List, [], ◌∷◌, ◌++◌, length, Option, Some, None, refl, sym, ap, ◌∙◌, subst}
use Rattle.std.proofs.Common.{arith, cond}
use Rattle.std.specs.Prelude.{◌&&◌, bytes_eq, slice_get, option_map, option_and_then, unwrap_or, if◌then◌else◌, Result, Ok, Err, IfOk}
use Rattle.std.specs.Option.{option_or}
use Rattle.std.specs.List.{position_from}
use Rattle.std.proofs.lemmas.Iterator.Adapters.{position_from-zero}
use Rattle.std.proofs.lemmas.Option.{slice_get_within}
use Rattle.std.proofs.lemmas.Bool.{eqb-true}
use Rattle.sheet_columns.specs.declared.tree.Node.{Node}
use Rattle.sheet_columns.specs.declared.formula.Core.TheVariants as core
use Rattle.sheet_columns.specs.Tree.{IsTree, IsUnder, column_of, above_of, is_child_named, is_number, child_named}
use Rattle.sheet_types_formulas.specs.declared.scope.Variable.{Variable}
use Rattle.sheet_columns.specs.declared.formula.Core.{Core}
use Rattle.sheet_types_formulas.specs.Names.{Reach, typed_as, variable_from, step_to, child, upward}

or_none : {A : Type 0} (o : Option A) → option_or o None ≡ o
or_none None = refl
or_none (Some x) = refl

or_or : {A : Type 0} (o p q : Option A) → option_or (option_or o p) q ≡ option_or o (option_or p q)
or_or None p q = refl
or_or (Some x) p q = refl

-- the variables behind some others come first
pub variable_append : (p line : ℕ) (name : List ℕ) (xs ys : List Variable) →
    variable_from p line name (xs ++ ys) ≡ option_or (variable_from (p + length xs) line name ys) (variable_from p line name xs)
variable_append p line name [] ys =
    let same : p + 0 ≡ p = omega arith in
    ap (λ q. variable_from q line name ys) (sym same) ∙ sym (or_none (variable_from (p + 0) line name ys))
variable_append p line name (x ∷ xs) ys =
    let same : p + 1 + length xs ≡ p + length (x ∷ xs) = omega arith in
    ap (λ o. option_or o (if bytes_eq x.name name then Some (typed_as line (core.Variable p) x.kind) else None))
    (variable_append (p + 1) line name xs ys ∙ ap (λ q. option_or (variable_from q line name ys) (variable_from (p + 1) line name xs)) same)
    ∙ or_or (variable_from (p + length (x ∷ xs)) line name ys) (variable_from (p + 1) line name xs) _

-- the last one has the name
pub variable_found : (p line : ℕ) (name : List ℕ) (xs : List Variable) (v : Variable) → bytes_eq v.name name ≡ true →
    variable_from p line name (xs ++ v ∷ []) ≡ Some (typed_as line (core.Variable (p + length xs)) v.kind)
variable_found p line name xs v e =
    variable_append p line name xs (v ∷ [])
    ∙ ap (λ b. option_or (if b then Some (typed_as line (core.Variable (p + length xs)) v.kind) else None) (variable_from p line name xs)) e

-- or it hasn't
pub variable_passed : (p line : ℕ) (name : List ℕ) (xs : List Variable) (v : Variable) → bytes_eq v.name name ≡ false →
    variable_from p line name (xs ++ v ∷ []) ≡ variable_from p line name xs
variable_passed p line name xs v e =
    variable_append p line name xs (v ∷ [])
    ∙ ap (λ b. option_or (if b then Some (typed_as line (core.Variable (p + length xs)) v.kind) else None) (variable_from p line name xs)) e

-- ---- columns

-- the element of a list at a place that is found, where the list begins at j
pub record Found {A : Type 0} (q : A → Bool) (j k : ℕ) (xs : List A) : Type 0 where
  pub element : A
  pub index : ℕ
  pub at : k ≡ j + index
  pub got : slice_get xs index ≡ Some element
  pub passes : q element ≡ true

pub found_from : {A : Type 0} (q : A → Bool) (j k : ℕ) (xs : List A) → position_from q j xs ≡ Some k → Found q j k xs
found_from q j k [] e = let wrong : ⊥ = cc in absurd wrong
found_from q j k (x ∷ xs) e =
    elim (q x) as (λ b. q x ≡ b → cond b (Some j) (position_from q (j + 1) xs) ≡ Some k → Found q j k (x ∷ xs)) [
      | true ↦ λ t h. let same : j ≡ k = cc in record { element = x; index = 0; at = omega arith; got = refl; passes = t }
      | false ↦ λ t h.
          let f = found_from q (j + 1) k xs h in
          let shifted : k ≡ j + suc f.index = (let at = f.at in omega arith) in
          record { element = f.element; index = suc f.index; at = shifted; got = f.got; passes = f.passes }
    ] refl e

pub both_true : (a b : Bool) → a && b ≡ true → a ≡ true
both_true true b e = refl
both_true false b e = let wrong : ⊥ = cc in absurd wrong

number_is : (k : ℕ) (o : Option ℕ) → is_number k o ≡ true → o ≡ Some k
number_is k None e = let wrong : ⊥ = cc in absurd wrong
number_is k (Some j) e = let same : k ≡ j = eqb-true k j e in ap Some (sym same)

pub found_child : (nodes : List Node) (above c : ℕ) (name : List ℕ) → child_named nodes above name ≡ Some c → Found (is_child_named above name) 0 c nodes
found_child nodes above c name e = found_from (is_child_named above name) 0 c nodes (sym (position_from-zero (is_child_named above name) nodes) ∙ e)

-- a column that is found stands directly under that one
pub child_is_under : (nodes : List Node) (above c : ℕ) (name : List ℕ) → child_named nodes above name ≡ Some c → above_of nodes c ≡ Some above
child_is_under nodes above c name e =
    let f = found_child nodes above c name e in
    let same : c ≡ f.index = (let at = f.at in omega arith) in
    ap (above_of nodes) same ∙ ap (option_and_then (λ (n : Node). n.above)) f.got
    ∙ number_is above f.element.above (both_true _ (bytes_eq name f.element.name) f.passes)

pub child_is_counted : (nodes : List Node) (above c : ℕ) (name : List ℕ) → child_named nodes above name ≡ Some c → c < length nodes
child_is_counted nodes above c name e =
    let f = found_child nodes above c name e in
    let at = f.at in
    let inside = slice_get_within nodes f.index f.element f.got in
    omega arith

-- ---- the way up

some_above : (o : Option Node) (a : ℕ) → option_and_then (λ (n : Node). n.above) o ≡ Some a → (n : Node) × (o ≡ Some n) × (n.above ≡ Some a)
some_above None a e = let wrong : ⊥ = cc in absurd wrong
some_above (Some n) a e = (n, refl, e)

-- columns stand under earlier ones
pub earlier : (nodes : List Node) → IsTree nodes → (c a : ℕ) → above_of nodes c ≡ Some a → a < c
earlier nodes tree c a e =
    let (n, got, is) = some_above (slice_get nodes c) a e in
    (subst (IsUnder nodes c) is (tree.placed c n got)).0

ways_same : (r s : ℕ → List ℕ) (o : Option ℕ) → ((a : ℕ) → o ≡ Some a → r a ≡ s a) → unwrap_or (option_map r o) [] ≡ unwrap_or (option_map s o) []
ways_same r s None same = refl
ways_same r s (Some a) same = same a refl

ways_none : (r : ℕ → List ℕ) (o : Option ℕ) → ((a : ℕ) → o ≡ Some a → ⊥) → unwrap_or (option_map r o) [] ≡ []
ways_none r None none = refl
ways_none r (Some a) none = absurd (none a refl)

-- more steps than the column's number change nothing
upward_more : (nodes : List Node) → IsTree nodes → (f g c : ℕ) → c ≤ f → c ≤ g → upward f nodes c ≡ upward g nodes c
upward_more nodes tree zero zero c lf lg = refl
upward_more nodes tree zero (suc g) c lf lg =
    ap (λ cs. c ∷ cs) (sym (ways_none (upward g nodes) (above_of nodes c) (λ a e. let lt = earlier nodes tree c a e in omega arith)))
upward_more nodes tree (suc f) zero c lf lg =
    ap (λ cs. c ∷ cs) (ways_none (upward f nodes) (above_of nodes c) (λ a e. let lt = earlier nodes tree c a e in omega arith))
upward_more nodes tree (suc f) (suc g) c lf lg =
    ap (λ cs. c ∷ cs)
    (ways_same (upward f nodes) (upward g nodes) (above_of nodes c)
    (λ a e. let lt = earlier nodes tree c a e in upward_more nodes tree f g a (omega arith) (omega arith)))

-- the way begins with the column, and goes on with that of the one above
pub upward_above : (nodes : List Node) → IsTree nodes → (c a : ℕ) → above_of nodes c ≡ Some a → upward c nodes c ≡ c ∷ upward a nodes a
upward_above nodes tree zero a e = let lt = earlier nodes tree 0 a e in absurd (omega arith)
upward_above nodes tree (suc c) a e =
    let lt = earlier nodes tree (suc c) a e in
    ap (λ o. suc c ∷ unwrap_or (option_map (upward c nodes) o) []) e
    ∙ ap (λ cs. suc c ∷ cs) (upward_more nodes tree c a a (omega arith) (omega arith))

pub upward_root : (nodes : List Node) (c : ℕ) → above_of nodes c ≡ None → upward c nodes c ≡ c ∷ []
upward_root nodes zero e = refl
upward_root nodes (suc c) e = ap (λ o. suc c ∷ unwrap_or (option_map (upward c nodes) o) []) e

-- no column of that name stands directly under that one
pub child_none : (r : Reach) (line : ℕ) (e : Core) (above : ℕ) (name : List ℕ) → child_named r.columns above name ≡ None → child r line e above name ≡ None
child_none r line e above name none = ap (option_and_then (λ c. option_map (step_to r line e c) (column_of r.columns c))) none

pub same_if_ok : {A E : Type 0} (r : Result A E) {x y : A} → x ≡ y → IfOk r (λ a. a ≡ x) → IfOk r (λ a. a ≡ y)
same_if_ok (Ok a) e h = h ∙ e
same_if_ok (Err f) e h = tt

-- the bound variables come before those around them
pub variables_append : (line : ℕ) (name : List ℕ) (xs ys : List Variable) →
    variable_from 0 line name (xs ++ ys) ≡ option_or (variable_from (length xs) line name ys) (variable_from 0 line name xs)
variables_append line name xs ys =
    let same : 0 + length xs ≡ length xs = omega arith in
    variable_append 0 line name xs ys ∙ ap (λ p. option_or (variable_from p line name ys) (variable_from 0 line name xs)) same

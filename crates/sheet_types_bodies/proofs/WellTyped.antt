-- What is resolved is well typed, where typed formulas have their types.
use Rattle.std.proofs.Common.{◌≡◌, refl, sym, ◌∙◌, ap, subst, ℕ, ◌+◌, ◌&&◌, Bool, true, false, List, [], ◌∷◌, ◌++◌, map, eq-eqb}
use Rattle.std.specs.Prelude.{Option, Some, None, Ok, Err, ok_or, is_some, slice_index_or, option_map, option_and_then, if◌then◌else◌, codes}
use Rattle.sheet_values.specs.declared.value.Kind.{Kind}
use Rattle.sheet_values.specs.declared.value.Kind.TheVariants as kind
use Rattle.sheet_columns.specs.declared.tree.Node.{Node}
use Rattle.sheet_columns.specs.declared.tree.Column.{Column}
use Rattle.sheet_columns.specs.declared.tree.Column.TheVariants.{Object, State, Formula}
use Rattle.sheet_columns.specs.Tree.{column_of, above_of, child_named, is_number}
use Rattle.sheet_columns.specs.declared.formula.Core.{Core}
use Rattle.sheet_columns.specs.declared.formula.Core.TheVariants as formula
use Rattle.sheet_columns.specs.declared.statement.Change.{Change}
use Rattle.sheet_columns.specs.declared.statement.Target.{Target as CoreTarget}
use Rattle.sheet_columns.specs.declared.statement.CoreStatement.{CoreStatement}
use Rattle.sheet_columns.specs.declared.statement.CoreStatement.TheVariants as core
use Rattle.sheet_define_data.specs.declared.statement.Target.{Target}
use Rattle.sheet_syntax_trees.specs.declared.tree.Tree.{Tree}
use Rattle.sheet_types_formulas.specs.declared.refusal.TypeRefusal.{TypeRefusal}
use Rattle.sheet_types_formulas.specs.declared.refusal.TypeRefusal.TheVariants.{UnknownName}
use Rattle.sheet_types_formulas.specs.declared.scope.Typed.{Typed}
use Rattle.sheet_types_formulas.specs.declared.scope.Variable.{Variable}
use Rattle.sheet_types_formulas.specs.Answers.{Answer, ◌>>=◌}
use Rattle.sheet_types_rules.specs.Kinds.{common, objects_in}
use Rattle.sheet_types_formulas.specs.Kinds.{agreed, object_column, column_above, mismatch, kind_text}
use Rattle.sheet_types_formulas.specs.Names.{reach}
use Rattle.sheet_types_formulas.specs.Typing.{typed}
use Rattle.sheet_types_rules.specs.Formulas.{kind_in, serves, is_object, is_state, ◌>>◌}
use Rattle.sheet_types_bodies.specs.Targets.{holder, column_under, target, on_state, state_target, on_objects, objects_target}
use Rattle.sheet_types_rules.specs.Columns.{is_known}
use Rattle.sheet_types_bodies.specs.Statements.{Step, step, formula_of, deletable, let_of, changed, change_of, new_of, delete_of, check_of, reply_of}
use Rattle.sheet_types_rules.specs.Statements.{where_so, suits, is_placed, is_deletable, changes_state, makes_object, behind, counted, numbered}
use Rattle.sheet_types_bodies.proofs.Finding.{child_is_under}

-- the types of variables by position
abbrev pub kinds_of : List Variable → List Kind
kinds_of v = map (λ (x : Variable). x.kind) v

-- what is told of typed formulas
pub record HaveKinds : Type 0 where
  pub has : (n : List Node) (k : List Kind) (v : List Variable) (e : Tree) (t : Typed) → typed e (reach n k v) ≡ Ok t →
      kind_in t.core n k (map (λ (x : Variable). x.kind) v) ≡ Some t.kind

-- an answer came from a first step and a second one
pub came_from : {A B : Type 0} (a : Answer A) (f : A → Answer B) (y : B) → a >>= f ≡ Ok y → (x : A) × (a ≡ Ok x) × (f x ≡ Ok y)
came_from (Ok x) f y h = (x, refl, h)
came_from (Err e) f y h = let wrong : ⊥ = cc in absurd wrong

pub ok_same : {A : Type 0} (x y : A) → ◌≡◌ {A = Answer A} (Ok x) (Ok y) → x ≡ y
ok_same x y h = cc

pub told_some : {A : Type 0} (o : Option A) (e : TypeRefusal) (x : A) → ◌≡◌ {A = Answer A} (ok_or o e) (Ok x) → o ≡ Some x
told_some (Some y) e x h = cc
told_some None e x h = let wrong : ⊥ = cc in absurd wrong

-- a formula that agreed with a type serves where it is wanted
pub agreed_serves : (n : List Node) (wanted : Kind) (t : Typed) (l : Kind) → agreed n wanted t ≡ Ok l → serves wanted t.kind ≡ true
unfolding agreed
agreed_serves n wanted t l h = ap is_some (told_some (common wanted t.kind) (mismatch n (kind_text n wanted) t) l h)

pub formula_suits : HaveKinds → (n : List Node) (k : List Kind) (v : List Variable) (wanted : Kind) (e : Tree) (c : Core)
    → formula_of wanted e (reach n k v) ≡ Ok c → suits wanted (kind_in c n k (kinds_of v)) ≡ true
unfolding formula_of
formula_suits law n k v wanted e c h =
    let a = came_from (typed e (reach n k v)) (λ t. agreed n wanted t >>= (λ l. Ok t.core)) c h in
    let b = came_from (agreed n wanted a.0) (λ l. Ok a.0.core) c a.2 in
    let P : Core → Type 0 = λ x. suits wanted (kind_in x n k (kinds_of v)) ≡ true in
    subst P (ok_same a.0.core c b.2) (ap (suits wanted) (law.has n k v e a.0 a.1) ∙ agreed_serves n wanted a.0 b.0 b.1)

pub map_one : (v : List Variable) (x : Variable) → kinds_of (v ++ x ∷ []) ≡ kinds_of v ++ x.kind ∷ []
map_one [] x = refl
map_one (y ∷ ys) x = ap (λ l. y.kind ∷ l) (map_one ys x)

some_same : {A : Type 0} {x y : A} → Some x ≡ Some y → x ≡ y
some_same h = cc

three_hold : (a b c : Bool) → a && b ≡ true → c ≡ true → (a && b && c) ≡ true
three_hold true true c p q = q
three_hold true false c p q = let wrong : ⊥ = cc in absurd wrong
three_hold false b c p q = let wrong : ⊥ = cc in absurd wrong

pub counts_on : (n : ℕ) → counted n n ≡ Some (n + 1)
counts_on n = ap (λ b. where_so b (n + 1)) (eq-eqb n n refl)

-- a resolved statement is well typed and numbered, where these variables stand before it
pub record Fits (n : List Node) (k : List Kind) (v : List Variable) (i : ℕ) (s : Step) : Type 0 where
  pub columns : s.reach ≡ reach n k s.reach.variables
  pub positions : behind s.core n k (kinds_of v) ≡ Some (kinds_of s.reach.variables)
  pub numbers : numbered s.core i ≡ Some s.next

pub reply_fits : HaveKinds → (n : List Node) (k : List Kind) (v : List Variable) (e : Tree) (i : ℕ) (s : Step)
    → reply_of e (reach n k v) i ≡ Ok s → Fits n k v i s
unfolding reply_of
reply_fits law n k v e i s h =
    let a = came_from (typed e (reach n k v)) (λ t. Ok (step (reach n k v) (i + 1) (core.Reply i t.core))) s h in
    subst (Fits n k v i) (ok_same _ s a.2) (record {
      columns = refl;
      positions = ap (λ o. o >> (λ x. Some (kinds_of v))) (law.has n k v e a.0 a.1);
      numbers = counts_on i;
    })

pub check_fits : HaveKinds → (n : List Node) (k : List Kind) (v : List Variable) (e : Tree) (message : List ℕ) (i : ℕ) (s : Step)
    → check_of e message (reach n k v) i ≡ Ok s → Fits n k v i s
unfolding check_of
check_fits law n k v e message i s h =
    let a = came_from (formula_of kind.Truth e (reach n k v)) (λ c. Ok (step (reach n k v) (i + 1) (core.Check i c message))) s h in
    subst (Fits n k v i) (ok_same _ s a.2)
    (record { columns = refl; positions = ap (λ b. where_so b (kinds_of v)) (formula_suits law n k v kind.Truth e a.0 a.1); numbers = counts_on i })

pub let_fits : HaveKinds → (n : List Node) (k : List Kind) (v : List Variable) (x : List ℕ) (e : Tree) (i : ℕ) (s : Step)
    → let_of x e (reach n k v) i ≡ Ok s → Fits n k v i s
unfolding let_of
let_fits law n k v x e i s h =
    let a = came_from (typed e (reach n k v)) (λ t. Ok (step (reach n k (v ++ record { name = x; kind = t.kind } ∷ [])) (i + 1) (core.Let i t.core))) s h in
    let one_more : kinds_of v ++ a.0.kind ∷ [] ≡ kinds_of (v ++ record { name = x; kind = a.0.kind } ∷ []) =
    sym (map_one v (record { name = x; kind = a.0.kind })) in
    subst (Fits n k v i) (ok_same _ s a.2)
    (record {
      columns = refl;
      positions = ap (λ o. o >> (λ y. Some (kinds_of v ++ y ∷ []))) (law.has n k v e a.0 a.1) ∙ ap Some one_more;
      numbers = counts_on i;
    })

-- ---- targets

objects_are : (k : Kind) (c : ℕ) → objects_in k ≡ Some c → k ≡ kind.Object c
objects_are kind.Unknown c h = let wrong : ⊥ = cc in absurd wrong
objects_are kind.Truth c h = let wrong : ⊥ = cc in absurd wrong
objects_are kind.Number c h = let wrong : ⊥ = cc in absurd wrong
objects_are kind.Text c h = let wrong : ⊥ = cc in absurd wrong
objects_are (kind.Object d) c h = let same : d ≡ c = cc in ap kind.Object same

-- what a target's object formula gives is of the column that its own column is looked for under
holder_kind : HaveKinds → (n : List Node) (k : List Kind) (v : List Variable) (o : Option Tree) (x : Core × ℕ)
    → holder o (reach n k v) ≡ Ok x → kind_in x.0 n k (kinds_of v) ≡ Some (kind.Object x.1)
unfolding holder object_column
holder_kind law n k v None x h =
    let P : Core × ℕ → Type 0 = λ y. kind_in y.0 n k (kinds_of v) ≡ Some (kind.Object y.1) in subst P (ok_same (formula.Root, 0) x h) refl
holder_kind law n k v (Some e) x h =
    let a = came_from (typed e (reach n k v)) (λ t. object_column n t >>= (λ above. Ok (t.core, above))) x h in
    let b = came_from (object_column n a.0) (λ above. Ok (a.0.core, above)) x a.2 in
    let P : Core × ℕ → Type 0 = λ y. kind_in y.0 n k (kinds_of v) ≡ Some (kind.Object y.1) in
    subst P (ok_same (a.0.core, b.0) x b.2) (law.has n k v e a.0 a.1
    ∙ ap Some (objects_are a.0.kind b.0 (told_some (objects_in a.0.kind) (mismatch n (codes "object") a.0) b.0 b.1)))

-- a target is placed under its object
under_it : (n : List Node) (k : List Kind) (v : List Variable) (name : List ℕ) (line : ℕ) (x : Core × ℕ) (c : CoreTarget)
    → column_under name line (reach n k v) x ≡ Ok c → (c.object ≡ x.0) × (is_number x.1 (above_of n c.column) ≡ true)
unfolding column_under
under_it n k v name line x c h =
    let found = told_some (option_map (λ d. record { object = x.0; column = d }) (child_named n x.1 name)) (UnknownName line) c h in
    elim (child_named n x.1 name) as (λ o. child_named n x.1 name ≡ o → option_map (λ d. record { object = x.0; column = d }) o ≡ Some c →
    (c.object ≡ x.0) × (is_number x.1 (above_of n c.column) ≡ true)) [
      | None ↦ λ is none. let wrong : ⊥ = cc in absurd wrong
      | Some d ↦ λ is some.
          let same : record { object = x.0; column = d } ≡ c = some_same some in (
            ap (λ (t : CoreTarget). t.object) (sym same),
            ap (λ (t : CoreTarget). is_number x.1 (above_of n t.column)) (sym same)
                ∙ child_is_under n x.1 d name is,
          )
    ] refl found

target_placed : HaveKinds → (n : List Node) (k : List Kind) (v : List Variable) (t : Target) (c : CoreTarget)
    → target t (reach n k v) ≡ Ok c → is_placed n (kind_in c.object n k (kinds_of v)) c.column ≡ true
unfolding target
target_placed law n k v t c h =
    let a = came_from (holder t.object (reach n k v)) (column_under t.column t.line (reach n k v)) c h in
    let u = under_it n k v t.column t.line a.0 c a.2 in
    ap (λ o. is_placed n o c.column) (ap (λ e. kind_in e n k (kinds_of v)) u.0 ∙ holder_kind law n k v t.object a.0 a.1) ∙ u.1

holds_state : (line : ℕ) (t c : CoreTarget) (o : Option Column) → on_state line t o ≡ Ok c → (t ≡ c) × (is_state o ≡ true)
unfolding on_state
holds_state line t c None h = let wrong : ⊥ = cc in absurd wrong
holds_state line t c (Some Object) h = let wrong : ⊥ = cc in absurd wrong
holds_state line t c (Some (State k one first)) h = (ok_same t c h, refl)
holds_state line t c (Some (Formula k)) h = let wrong : ⊥ = cc in absurd wrong

holds_objects : (line : ℕ) (t c : CoreTarget) (o : Option Column) → on_objects line t o ≡ Ok c → (t ≡ c) × (is_object o ≡ true)
unfolding on_objects
holds_objects line t c None h = let wrong : ⊥ = cc in absurd wrong
holds_objects line t c (Some Object) h = (ok_same t c h, refl)
holds_objects line t c (Some (State k one first)) h = let wrong : ⊥ = cc in absurd wrong
holds_objects line t c (Some (Formula k)) h = let wrong : ⊥ = cc in absurd wrong

pub both_hold : (a b : Bool) → a ≡ true → b ≡ true → a && b ≡ true
both_hold a b p q = ap (λ x. x && b) p ∙ q

state_is_placed : HaveKinds → (n : List Node) (k : List Kind) (v : List Variable) (t : Target) (c : CoreTarget)
    → state_target t (reach n k v) ≡ Ok c → is_placed n (kind_in c.object n k (kinds_of v)) c.column && is_state (column_of n c.column) ≡ true
unfolding state_target
state_is_placed law n k v t c h =
    let a = came_from (target t (reach n k v)) (λ found. on_state t.line found (column_of n found.column)) c h in
    let u = holds_state t.line a.0 c (column_of n a.0.column) a.2 in
    let P : CoreTarget → Type 0 = λ d. is_placed n (kind_in d.object n k (kinds_of v)) d.column && is_state (column_of n d.column) ≡ true in
    subst P u.0 (both_hold _ _ (target_placed law n k v t a.0 a.1) u.1)

objects_are_placed : HaveKinds → (n : List Node) (k : List Kind) (v : List Variable) (t : Target) (c : CoreTarget)
    → objects_target t (reach n k v) ≡ Ok c → makes_object c n k (kinds_of v) ≡ true
unfolding objects_target
objects_are_placed law n k v t c h =
    let a = came_from (target t (reach n k v)) (λ found. on_objects t.line found (column_of n found.column)) c h in
    let u = holds_objects t.line a.0 c (column_of n a.0.column) a.2 in
    let P : CoreTarget → Type 0 = λ d. makes_object d n k (kinds_of v) ≡ true in
    subst P u.0 (both_hold _ _ (target_placed law n k v t a.0 a.1) u.1)

-- ---- the statements with targets, and `delete`

pub change_fits : HaveKinds → (n : List Node) (k : List Kind) (v : List Variable) (how : Change) (t : Target) (e : Tree) (i : ℕ) (s : Step)
    → change_of how t e (reach n k v) i ≡ Ok s → Fits n k v i s
unfolding change_of changed
change_fits law n k v how t e i s h =
    let r = reach n k v in
    let a = came_from (state_target t r) (λ c. changed how e r i c >>= (λ x. Ok (step r (i + 1) x))) s h in
    let b = came_from (changed how e r i a.0) (λ x. Ok (step r (i + 1) x)) s a.2 in
    let c = came_from (formula_of (slice_index_or k a.0.column kind.Unknown) e r) (λ x. Ok (core.Change i how a.0 x)) b.0 b.1 in
    let holds : changes_state a.0 c.0 n k (kinds_of v) ≡ true =
    three_hold (is_placed n (kind_in a.0.object n k (kinds_of v)) a.0.column) (is_state (column_of n a.0.column))
    (suits (slice_index_or k a.0.column kind.Unknown) (kind_in c.0 n k (kinds_of v))) (state_is_placed law n k v t a.0 a.1)
    (formula_suits law n k v (slice_index_or k a.0.column kind.Unknown) e c.0 c.1) in
    let P : CoreStatement → Type 0 = λ x. Fits n k v i (step r (i + 1) x) in
    subst (Fits n k v i) (ok_same _ s b.2)
    (subst P (ok_same (core.Change i how a.0 c.0) b.0 c.2)
    (record { columns = refl; positions = ap (λ x. where_so x (kinds_of v)) holds; numbers = counts_on i }))

pub new_fits : HaveKinds → (n : List Node) (k : List Kind) (v : List Variable) (x : List ℕ) (t : Target) (i : ℕ) (s : Step)
    → new_of x t (reach n k v) i ≡ Ok s → Fits n k v i s
unfolding new_of
new_fits law n k v x t i s h =
    let a = came_from (objects_target t (reach n k v))
    (λ c. Ok (step (reach n k (v ++ record { name = x; kind = kind.Object c.column } ∷ [])) (i + 1) (core.New i c))) s h in
    let one_more : kinds_of v ++ kind.Object a.0.column ∷ [] ≡ kinds_of (v ++ record { name = x; kind = kind.Object a.0.column } ∷ []) =
    sym (map_one v (record { name = x; kind = kind.Object a.0.column })) in
    subst (Fits n k v i) (ok_same _ s a.2)
    (record {
      columns = refl;
      positions = ap (λ b. where_so b (kinds_of v ++ kind.Object a.0.column ∷ [])) (objects_are_placed law n k v t a.0 a.1)
          ∙ ap Some one_more;
      numbers = counts_on i;
    })

above_some : (n : List Node) (x : Kind) (a : ℕ) → option_and_then (above_of n) (objects_in x) ≡ Some a → is_deletable n (Some x) ≡ true
above_some n kind.Unknown a h = refl
above_some n kind.Truth a h = let wrong : ⊥ = cc in absurd wrong
above_some n kind.Number a h = let wrong : ⊥ = cc in absurd wrong
above_some n kind.Text a h = let wrong : ⊥ = cc in absurd wrong
above_some n (kind.Object c) a h = ap is_some h

can_go : (n : List Node) (x : Kind) (e : Core) (y : Answer ℕ) (c : Core)
    → ((a : ℕ) → y ≡ Ok a → is_deletable n (Some x) ≡ true)
    → (if is_known x then (y >>= (λ above. Ok e)) else Ok e) ≡ Ok c
    → (e ≡ c) × (is_deletable n (Some x) ≡ true)
can_go n kind.Unknown e y c f h = (ok_same e c h, refl)
can_go n kind.Truth e y c f h = let a = came_from y (λ above. Ok e) c h in (ok_same e c a.2, f a.0 a.1)
can_go n kind.Number e y c f h = let a = came_from y (λ above. Ok e) c h in (ok_same e c a.2, f a.0 a.1)
can_go n kind.Text e y c f h = let a = came_from y (λ above. Ok e) c h in (ok_same e c a.2, f a.0 a.1)
can_go n (kind.Object d) e y c f h = let a = came_from y (λ above. Ok e) c h in (ok_same e c a.2, f a.0 a.1)

goes : (n : List Node) (t : Typed) (c : Core) → deletable n t ≡ Ok c → (t.core ≡ c) × (is_deletable n (Some t.kind) ≡ true)
unfolding deletable column_above
goes n t c h =
    can_go n t.kind t.core (column_above n t) c
    (λ a is. above_some n t.kind a (told_some (option_and_then (above_of n) (objects_in t.kind)) (mismatch n (codes "object below the root") t) a is))
    h

pub delete_fits : HaveKinds → (n : List Node) (k : List Kind) (v : List Variable) (e : Tree) (i : ℕ) (s : Step)
    → delete_of e (reach n k v) i ≡ Ok s → Fits n k v i s
unfolding delete_of
delete_fits law n k v e i s h =
    let r = reach n k v in
    let a = came_from (typed e r) (λ t. deletable n t >>= (λ c. Ok (step r (i + 1) (core.Delete i c)))) s h in
    let b = came_from (deletable n a.0) (λ c. Ok (step r (i + 1) (core.Delete i c))) s a.2 in
    let u = goes n a.0 b.0 b.1 in
    let holds : is_deletable n (kind_in b.0 n k (kinds_of v)) ≡ true = ap (λ c. is_deletable n (kind_in c n k (kinds_of v))) (sym u.0)
    ∙ ap (is_deletable n) (law.has n k v e a.0 a.1) ∙ u.1 in
    subst (Fits n k v i) (ok_same _ s b.2) (record { columns = refl; positions = ap (λ x. where_so x (kinds_of v)) holds; numbers = counts_on i })

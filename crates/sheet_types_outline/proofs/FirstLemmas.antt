-- A column of one value directly under the root has a first value.
use Rattle.std.proofs.Common.{◌≡◌, ℕ, ◌+◌, ◌<◌, zero, suc, Bool, true, false, cond, List, [], ◌∷◌, ◌++◌, length, take, Option, Some, None, Ok, Err, refl, sym}
use Rattle.std.proofs.Common.{ap, ◌∙◌, subst, append_assoc, length-append, add-one, arith, eq-eqb}
use Rattle.std.specs.Prelude.{◌==◌, ◌&&◌, is_some, slice_index_or}
use Rattle.std.specs.List.{AllByRecursion}
use Rattle.std.proofs.lemmas.Bool.{eqb-true}
use Rattle.sheet_values.specs.declared.value.Kind.{Kind}
use Rattle.sheet_columns.specs.declared.tree.Column as columns
use Rattle.sheet_columns.specs.declared.tree.Column.TheVariants as column
use Rattle.sheet_columns.specs.declared.tree.Node.{Node}
use Rattle.sheet_columns.specs.Firsts.{lacks_first, HasFirstValues}
use Rattle.sheet_columns.specs.Tree.{root, child_named, depth, is_number, path}
use Rattle.sheet_define_data.specs.declared.definition.Column.{Column}
use Rattle.sheet_define_data.specs.declared.definition.Content.{Content}
use Rattle.sheet_define_data.specs.declared.definition.Content.TheVariants as content
use Rattle.sheet_define_data.specs.declared.definition.Literal.{Literal}
use Rattle.sheet_define_data.specs.declared.definition.Procedure.{Procedure}
use Rattle.sheet_define_data.specs.declared.definition.View.{View}
use Rattle.sheet_define_data.specs.declared.definition.Declaration.{Declaration}
use Rattle.sheet_define_data.specs.declared.definition.Declaration.TheVariants as declaration
use Rattle.sheet_types_formulas.specs.declared.refusal.TypeRefusal.TheVariants.{Doubled, NeedsFirst}
use Rattle.sheet_types_formulas.specs.Answers.{◌>>=◌}
use Rattle.sheet_types_outline.specs.declared.naming.Named.{Named}
use Rattle.sheet_types_outline.specs.declared.resolving.Resolved.{Resolved}
use Rattle.sheet_types_outline.specs.Columns.{AreObjects}
use Rattle.sheet_types_outline.specs.Names.{one_more}
use Rattle.sheet_types_outline.specs.Naming.{untyped, open_behind, name_callers, name_under, parameter_names, part_names, name_procedure, name_view}
use Rattle.sheet_types_outline.specs.Naming.{name_declaration, nothing_named, all_named}
use Rattle.sheet_types_outline.specs.Orderly.{IsOrderlyAt, IsOrderlyFrom, count_behind}
use Rattle.sheet_types_outline.specs.Outlines.{filled}
use Rattle.sheet_types_outline.specs.Resolving.{parameters_of, resolve, nothing_resolved, all_resolved}
use Rattle.sheet_types_outline.specs.Steps.{in_turn}
use Rattle.sheet_types_outline.specs.Types.{object_column_at, kind_of, declared_kind, first_value, state_column, column_content}
use Rattle.sheet_types_outline.proofs.NamingLemmas.{goes_on}
use Rattle.sheet_types_outline.proofs.StepLemmas.{both_ok, refused_not, passed, same_ok}

-- the depths of the declared columns, in the order of the text
depths_at : Declaration → List ℕ
depths_at (declaration.Callers line p) = []
depths_at (declaration.Column c) = c.depth ∷ []
depths_at (declaration.Procedure p) = []
depths_at (declaration.View v) = []

abbrev depths_in : List Declaration → List ℕ
depths_in [] = []
depths_in (d ∷ ds) = depths_at d ++ depths_in ds

append_nil : {A : Type 0} (xs : List A) → xs ++ [] ≡ xs
append_nil [] = refl
append_nil (x ∷ xs) = ap (λ t. x ∷ t) (append_nil xs)

-- Columns in one list and depths in another go together.
abbrev Pairs : {A : Type 0} → (A → ℕ → Type 0) → List A → List ℕ → Type 0
Pairs P [] [] = Unit {0}
Pairs P [] (k ∷ ks) = ⊥
Pairs P (x ∷ xs) [] = ⊥
Pairs P (x ∷ xs) (k ∷ ks) = P x k × Pairs P xs ks

both_pairs : {A : Type 0} (P : A → ℕ → Type 0) (xs ys : List A) (ks ls : List ℕ) → Pairs P xs ks → Pairs P ys ls → Pairs P (xs ++ ys) (ks ++ ls)
both_pairs P [] ys [] ls h g = g
both_pairs P [] ys (k ∷ ks) ls h g = absurd h
both_pairs P (x ∷ xs) ys [] ls h g = absurd h
both_pairs P (x ∷ xs) ys (k ∷ ks) ls h g = (h.0, both_pairs P xs ys ks ls h.1 g)

-- a column that stands under the root was declared at depth 0
abbrev IsPlaced : Node → ℕ → Type 0
IsPlaced n k = is_number 0 n.above ≡ true → k ≡ 0

-- of the open columns only the first is the root
abbrev IsOpen : List ℕ → Type 0
IsOpen [] = Unit {0}
IsOpen (o ∷ os) = AllByRecursion (λ (c : ℕ). 0 < c) os

taken : (k : ℕ) (os : List ℕ) → AllByRecursion (λ (c : ℕ). 0 < c) os → AllByRecursion (λ (c : ℕ). 0 < c) (take k os)
taken zero os h = tt
taken (suc k) [] h = tt
taken (suc k) (o ∷ os) h = (h.0, taken k os h.1)

taken_open : (k : ℕ) (os : List ℕ) → IsOpen os → IsOpen (take k os)
taken_open zero os h = tt
taken_open (suc k) [] h = tt
taken_open (suc k) (o ∷ os) h = taken k os h

more_positive : (os : List ℕ) (n : ℕ) → 0 < n → AllByRecursion (λ (c : ℕ). 0 < c) os → AllByRecursion (λ (c : ℕ). 0 < c) (os ++ n ∷ [])
more_positive [] n lt h = (lt, tt)
more_positive (o ∷ os) n lt h = (h.0, more_positive os n lt h.1)

more_open : (os : List ℕ) (n : ℕ) → 0 < n → IsOpen os → IsOpen (os ++ n ∷ [])
more_open [] n lt h = tt
more_open (o ∷ os) n lt h = more_positive os n lt h

behind_open : (os : List ℕ) (k n : ℕ) (c : Content) → 0 < n → IsOpen os → IsOpen (open_behind os k n c)
behind_open os k n content.Object lt h = more_open (take (k + 1) os) n lt (taken_open (k + 1) os h)
behind_open os k n (content.State t one first) lt h = taken_open (k + 1) os h
behind_open os k n (content.Formula t f) lt h = taken_open (k + 1) os h

positive_at : (os : List ℕ) (k : ℕ) → k < length os → AllByRecursion (λ (c : ℕ). 0 < c) os → 0 < slice_index_or os k 0
positive_at [] k lt h = absurd (omega (arith, lt))
positive_at (o ∷ os) zero lt h = h.0
positive_at (o ∷ os) (suc k) lt h = positive_at os k (omega (arith, lt)) h.1

root_at : (os : List ℕ) (k : ℕ) → k < length os → IsOpen os → is_number 0 (Some (slice_index_or os k 0)) ≡ true → k ≡ 0
root_at [] k lt h e = absurd (omega (arith, lt))
root_at (o ∷ os) zero lt h e = refl
root_at (o ∷ os) (suc k) lt h e =
    let positive = positive_at os k (omega (arith, lt)) h in
    let zero_is : 0 ≡ slice_index_or os k 0 = eqb-true 0 (slice_index_or os k 0) e in
    absurd (omega (arith, positive, zero_is))

-- What a step of the first pass leaves: columns are open as before, and a column is placed at its depth.
record Places (s t : Named) (ks : List ℕ) : Type 0 where
  more : List Node
  grown : t.columns ≡ s.columns ++ more
  placed : Pairs IsPlaced more ks
  opened : IsOpen t.opened
  rooted : 0 < length t.columns

same : (s t : Named) (ks : List ℕ) → ks ≡ [] → IsOpen s.opened → 0 < length s.columns → s.columns ≡ t.columns → s.opened ≡ t.opened → Places s t ks
same s t ks none opened rooted columns open_same = record {
  more = [];
  grown = sym columns ∙ sym (append_nil s.columns);
  placed = subst (Pairs IsPlaced []) (sym none) tt;
  opened = subst IsOpen open_same opened;
  rooted = subst (λ (ns : List Node). 0 < length ns) columns rooted;
}

places_column : (s t : Named) (c : Column) → IsOpen s.opened → 0 < length s.columns → c.depth < length s.opened →
    name_under s (slice_index_or s.opened c.depth 0) c ≡ Ok t → Places s t (c.depth ∷ [])
unfolding name_under
places_column s t c opened rooted inside is =
    let above = slice_index_or s.opened c.depth 0 in
    let a = refused_not (is_some (child_named s.columns above c.name)) _ _ t is in
    let b = refused_not (depth s.columns above == 8) _ _ t a in
    let e = passed (length s.columns == 1000) _ _ t b in
    let node : Node = record { above = Some above; name = c.name; column = untyped c.content } in
    let longer = length-append s.columns (node ∷ []) in
    record {
      more = node ∷ [];
      grown = ap (λ (n : Named). n.columns) (sym e);
      placed = (root_at s.opened c.depth inside opened, tt);
      opened = subst (λ (n : Named). IsOpen n.opened) e (behind_open s.opened c.depth (length s.columns) c.content rooted opened);
      rooted = subst (λ (n : Named). 0 < length n.columns) e (omega (arith, rooted, longer));
    }

places_procedure : (s t : Named) (p : Procedure) → IsOpen s.opened → 0 < length s.columns → name_procedure s p ≡ Ok t → Places s t []
unfolding name_procedure
places_procedure s t p opened rooted is =
    let a = both_ok (one_more s.procedures p.line p.name) (λ names. parameter_names p.parameters >>= λ parameters. Ok (record s { procedures = names })) t is in
    let b = both_ok (parameter_names p.parameters) (λ parameters. Ok (record s { procedures = a.0 })) t a.2 in
    let e : record s { procedures = a.0 } ≡ t = passed false (Doubled 0) _ t b.2 in
    same s t [] refl opened rooted (ap (λ (n : Named). n.columns) e) (ap (λ (n : Named). n.opened) e)

places_view : (s t : Named) (v : View) → IsOpen s.opened → 0 < length s.columns → name_view s v ≡ Ok t → Places s t []
unfolding name_view
places_view s t v opened rooted is =
    let a = both_ok (one_more s.views v.line v.name) (λ names. parameter_names v.parameters >>= λ parameters. part_names v.parts >>= λ parts.
    Ok (record s { views = names })) t is in
    let b = both_ok (parameter_names v.parameters) (λ parameters. part_names v.parts >>= λ parts. Ok (record s { views = a.0 })) t a.2 in
    let f = both_ok (part_names v.parts) (λ parts. Ok (record s { views = a.0 })) t b.2 in
    let e : record s { views = a.0 } ≡ t = passed false (Doubled 0) _ t f.2 in
    same s t [] refl opened rooted (ap (λ (n : Named). n.columns) e) (ap (λ (n : Named). n.opened) e)

places_at : (s t : Named) (d : Declaration) (count : ℕ) → length s.opened ≡ count → IsOrderlyAt count d → IsOpen s.opened → 0 < length s.columns →
    name_declaration s d ≡ Ok t → Places s t (depths_at d)
unfolding depths_at
places_at s t (declaration.Callers line p) count counted orderly opened rooted is =
    let e : record s { has_callers = true } ≡ t = passed s.has_callers _ _ t is in
    same s t [] refl opened rooted (ap (λ (n : Named). n.columns) e) (ap (λ (n : Named). n.opened) e)
places_at s t (declaration.Column c) count counted orderly opened rooted is =
    places_column s t c opened rooted (subst (λ n. c.depth < n) (sym counted) orderly.inside) is
places_at s t (declaration.Procedure p) count counted orderly opened rooted is = places_procedure s t p opened rooted is
places_at s t (declaration.View v) count counted orderly opened rooted is = places_view s t v opened rooted is

-- all columns that the first pass places
places_all : (s t : Named) (ds : List Declaration) (count : ℕ) → length s.opened ≡ count → AreObjects s.columns s.opened → IsOrderlyFrom count ds →
    IsOpen s.opened → 0 < length s.columns
    → in_turn name_declaration s ds ≡ Ok t → Places s t (depths_in ds)
places_all s t [] count counted all orderly opened rooted is =
    let e = same_ok s t is in same s t [] refl opened rooted (ap (λ (n : Named). n.columns) e) (ap (λ (n : Named). n.opened) e)
places_all s t (d ∷ ds) count counted all orderly opened rooted is =
    let a = both_ok (name_declaration s d) (λ u. in_turn name_declaration u ds) t is in
    let g = goes_on s a.0 d all (subst (λ n. IsOrderlyAt n d) (sym counted) orderly.0) a.1 in
    let here = places_at s a.0 d count counted orderly.0 opened rooted a.1 in
    let rest = places_all a.0 t ds (count_behind count d) (g.count ∙ ap (λ n. count_behind n d) counted) g.objects orderly.1 here.opened here.rooted a.2 in
    record {
      more = here.more ++ rest.more;
      grown = rest.grown ∙ ap (λ ns. ns ++ rest.more) here.grown ∙ append_assoc s.columns here.more rest.more;
      placed = both_pairs IsPlaced here.more rest.more (depths_at d) (depths_in ds) here.placed rest.placed;
      opened = rest.opened;
      rooted = rest.rooted;
    }

-- what a column at that depth holds has a first value, where it must have one
abbrev IsStated : columns.Column → ℕ → Type 0
IsStated x k = (k == 0 && lacks_first x) ≡ false

swapped : (a b : Bool) → (a && b) ≡ false → (b && a) ≡ false
swapped true true e = e
swapped true false e = refl
swapped false true e = refl
swapped false false e = refl

never : (b : Bool) → (b && false) ≡ false
never true = refl
never false = refl

state_stated : (nodes : List Node) (number k : ℕ) (one : Bool) (first : Option Literal) (t : Kind) (x : columns.Column) →
    state_column nodes number k one first t ≡ Ok x → IsStated x k
state_stated nodes number k one None t x is =
    let tested : (one && k == 0) ≡ false = not_refused (one && k == 0) is in
    subst (λ y. IsStated y k) (passed (one && k == 0) (NeedsFirst (path nodes number)) (column.State t one None) x is) (lacking one (k == 0) tested)
  where
    not_refused : (b : Bool) → cond b (Err (NeedsFirst (path nodes number))) (Ok (column.State t one None)) ≡ Ok x → b ≡ false
    not_refused true e = cc
    not_refused false e = refl

    lacking : (a b : Bool) → (a && b) ≡ false → (b && (a && true)) ≡ false
    lacking true b e = swapped true b e ∙ refl
    lacking false b e = never b
state_stated nodes number k one (Some l) t x is =
    let a = both_ok (first_value nodes t l) (λ v. Ok (column.State t one (Some v))) x is in
    subst (λ y. IsStated y k) (same_ok (column.State t one (Some a.0)) x a.2) (given one (k == 0))
  where
    given : (a b : Bool) → (b && (a && false)) ≡ false
    given true b = never b
    given false b = never b

content_stated : (nodes : List Node) (number k : ℕ) (c : Content) (x : columns.Column) → column_content nodes number k c ≡ Ok x → IsStated x k
content_stated nodes number k content.Object x is = subst (λ y. IsStated y k) (same_ok column.Object x is) (never (k == 0))
content_stated nodes number k (content.State t one first) x is =
    let a = both_ok (kind_of nodes t) (state_column nodes number k one first) x is in
    state_stated nodes number k one first a.0 x a.2
content_stated nodes number k (content.Formula t f) x is =
    let a = both_ok (declared_kind nodes t) (λ l. Ok (column.Formula l)) x is in
    subst (λ y. IsStated y k) (same_ok (column.Formula a.0) x a.2) (never (k == 0))

-- What the second pass states.
record States (r t : Resolved) (ks : List ℕ) : Type 0 where
  more : List columns.Column
  grown : t.contents ≡ r.contents ++ more
  stated : Pairs IsStated more ks

nothing : (r t : Resolved) → r.contents ≡ t.contents → States r t []
nothing r t e = record { more = []; grown = sym e ∙ sym (append_nil r.contents); stated = tt }

states_at : (nodes : List Node) (r t : Resolved) (d : Declaration) → resolve nodes r d ≡ Ok t → States r t (depths_at d)
unfolding depths_at
states_at nodes r t (declaration.Callers line p) is =
    let a = both_ok (object_column_at nodes p) (λ c. Ok (record r { callers = c })) t is in
    let e : record r { callers = a.0 } ≡ t = same_ok _ t a.2 in
    nothing r t (ap (λ (s : Resolved). s.contents) e)
states_at nodes r t (declaration.Column c) is =
    let a = both_ok (column_content nodes (length r.contents) c.depth c.content) (λ x. Ok (record r { contents = r.contents ++ x ∷ [] })) t is in
    let e : record r { contents = r.contents ++ a.0 ∷ [] } ≡ t = same_ok _ t a.2 in
    record {
      more = a.0 ∷ [];
      grown = ap (λ (s : Resolved). s.contents) (sym e);
      stated =
          (content_stated nodes (length r.contents) c.depth c.content a.0 a.1, tt);
    }
states_at nodes r t (declaration.Procedure p) is =
    let a = both_ok (parameters_of nodes p.parameters) (λ ps. Ok (record r { procedures = r.procedures ++ ps ∷ [] })) t is in
    let e : record r { procedures = r.procedures ++ a.0 ∷ [] } ≡ t = same_ok _ t a.2 in
    nothing r t (ap (λ (s : Resolved). s.contents) e)
states_at nodes r t (declaration.View v) is =
    let a = both_ok (parameters_of nodes v.parameters) (λ ps. Ok (record r { views = r.views ++ ps ∷ [] })) t is in
    let e : record r { views = r.views ++ a.0 ∷ [] } ≡ t = same_ok _ t a.2 in
    nothing r t (ap (λ (s : Resolved). s.contents) e)

states_all : (nodes : List Node) (r t : Resolved) (ds : List Declaration) → in_turn (resolve nodes) r ds ≡ Ok t → States r t (depths_in ds)
states_all nodes r t [] is = nothing r t (ap (λ (s : Resolved). s.contents) (same_ok r t is))
states_all nodes r t (d ∷ ds) is =
    let a = both_ok (resolve nodes r d) (λ u. in_turn (resolve nodes) u ds) t is in
    let here = states_at nodes r a.0 d a.1 in
    let rest = states_all nodes a.0 t ds a.2 in
    record {
      more = here.more ++ rest.more;
      grown = rest.grown ∙ ap (λ xs. xs ++ rest.more) here.grown ∙ append_assoc r.contents here.more rest.more;
      stated = both_pairs IsStated here.more rest.more (depths_at d) (depths_in ds) here.stated rest.stated;
    }

abbrev HasOwn : Node → Type 0
HasOwn n = (is_number 0 n.above && lacks_first n.column) ≡ false

has_own : (n : Node) (x : columns.Column) (k : ℕ) → IsPlaced n k → IsStated x k → (is_number 0 n.above && lacks_first x) ≡ false
has_own n x k placed stated =
    elim (is_number 0 n.above) as (λ b. is_number 0 n.above ≡ b → (b && lacks_first x) ≡ false) [
      | true ↦ λ e. sym (ap (λ b. b && lacks_first x) (eq-eqb k 0 (placed e))) ∙ stated
      | false ↦ λ e. refl
    ] refl

firsts : (nodes : List Node) (xs : List columns.Column) (ks : List ℕ) → Pairs IsPlaced nodes ks → Pairs IsStated xs ks → AllByRecursion HasOwn (filled nodes xs)
firsts [] [] [] h g = tt
firsts [] [] (k ∷ ks) h g = absurd h
firsts [] (x ∷ xs) [] h g = absurd g
firsts [] (x ∷ xs) (k ∷ ks) h g = absurd h
firsts (n ∷ nodes) [] [] h g = absurd h
firsts (n ∷ nodes) [] (k ∷ ks) h g = absurd g
firsts (n ∷ nodes) (x ∷ xs) [] h g = absurd h
firsts (n ∷ nodes) (x ∷ xs) (k ∷ ks) h g = (has_own n x k h.0 g.0, firsts nodes xs ks h.1 g.1)

-- the columns of an outline have the first values that they must have
pub outline_firsts : (ds : List Declaration) (s : Named) (r : Resolved) → IsOrderlyFrom 1 ds → all_named ds ≡ Ok s → all_resolved s.columns ds ≡ Ok r →
    HasFirstValues (filled s.columns r.contents)
outline_firsts ds s r orderly named resolved =
    let p = places_all nothing_named s ds 1 refl (refl, tt) orderly tt (omega arith) named in
    let q = states_all s.columns nothing_resolved r ds resolved in
    subst (λ ns. HasFirstValues (filled ns r.contents)) (sym p.grown)
    (subst (λ xs. HasFirstValues (filled (root ∷ p.more) xs)) (sym q.grown) (refl, firsts p.more q.more (depths_in ds) p.placed q.stated))

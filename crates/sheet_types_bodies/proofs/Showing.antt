-- Resolved parts of views are well typed, where typed formulas have their types.
use Rattle.std.proofs.Common.{◌≡◌, refl, sym, ◌∙◌, ap, subst, ℕ, ◌+◌, ◌==◌, suc, true, List, [], ◌∷◌, ◌++◌, length, eq-eqb}
use Rattle.std.specs.Prelude.{Ok, is_some}
use Rattle.sheet_values.specs.declared.value.Kind.{Kind}
use Rattle.sheet_columns.specs.declared.tree.Node.{Node}
use Rattle.sheet_columns.specs.declared.view.CoreSlot.{CoreSlot}
use Rattle.sheet_columns.specs.declared.view.CoreView.{CoreView}
use Rattle.sheet_columns.specs.declared.view.CoreView.TheVariants as core
use Rattle.sheet_syntax_trees.specs.declared.tree.Tree.{Tree}
use Rattle.sheet_define_data.specs.declared.definition.Show.{Show}
use Rattle.sheet_define_data.specs.declared.definition.Part.{Part}
use Rattle.sheet_define_data.specs.declared.definition.Part.TheVariants as part
use Rattle.sheet_types_rules.specs.Views.{is_slot, are_slots, is_table, is_part, numbers_in, are_parts}
use Rattle.sheet_types_formulas.specs.declared.scope.Typed.{Typed}
use Rattle.sheet_types_formulas.specs.declared.scope.Variable.{Variable}
use Rattle.sheet_types_formulas.specs.Answers.{◌>>=◌}
use Rattle.sheet_types_formulas.specs.Names.{reach, bind}
use Rattle.sheet_types_formulas.specs.Typing.{typed}
use Rattle.sheet_types_bodies.specs.Parts.{slot, slots, numbers_of, table, part_of, parts}
use Rattle.sheet_types_bodies.proofs.WellTyped.{HaveKinds, kinds_of, map_one, came_from, ok_same, both_hold}

slot_fits : HaveKinds → (n : List Node) (k : List Kind) (v : List Variable) (s : Show) (i : ℕ) (c : CoreSlot)
    → slot s (reach n k v) i ≡ Ok c → is_slot n k (kinds_of v) i c ≡ true
unfolding slot
slot_fits law n k v s i c h =
    let made : Typed → CoreSlot = λ t. record { number = i; name = s.name; shown = t.core } in
    let a = came_from (typed s.shown (reach n k v)) (λ t. Ok (made t)) c h in
    let P : CoreSlot → Type 0 = λ x. is_slot n k (kinds_of v) i x ≡ true in
    subst P (ok_same (made a.0) c a.2) (both_hold (i == i) _ (eq-eqb i i refl) (ap is_some (law.has n k v s.shown a.0 a.1)))

-- slots in order, of which there are as many as are written
slots_fit : HaveKinds → (n : List Node) (k : List Kind) (v : List Variable) (ss : List Show) (i : ℕ) (xs : List CoreSlot)
    → slots ss (reach n k v) i ≡ Ok xs → (are_slots xs n k (kinds_of v) i ≡ true) × (length xs ≡ length ss)
slots_fit law n k v [] i xs h =
    let P : List CoreSlot → Type 0 = λ ys. (are_slots ys n k (kinds_of v) i ≡ true) × (length ys ≡ 0) in
    subst P (ok_same [] xs h) (refl, refl)
slots_fit law n k v (s ∷ ss) i xs h =
    let r = reach n k v in
    let a = came_from (slot s r i) (λ y. slots ss r (i + 1) >>= (λ ys. Ok (y ∷ ys))) xs h in
    let b = came_from (slots ss r (i + 1)) (λ ys. Ok (a.0 ∷ ys)) xs a.2 in
    let rest = slots_fit law n k v ss (i + 1) b.0 b.1 in
    let P : List CoreSlot → Type 0 = λ ys. (are_slots ys n k (kinds_of v) i ≡ true) × (length ys ≡ length (s ∷ ss)) in
    subst P (ok_same (a.0 ∷ b.0) xs b.2) (both_hold _ _ (slot_fits law n k v s i a.0 a.1) rest.0, ap suc rest.1)

-- a part that takes as many numbers as it is written to
abbrev FitsPart : List Node → List Kind → List Variable → ℕ → Part → CoreView → Type 0
FitsPart n k v i p c = (is_part c n k (kinds_of v) i ≡ true) × (numbers_in c ≡ numbers_of p)

table_fits : HaveKinds → (n : List Node) (k : List Kind) (v : List Variable) (line : ℕ) (name x : List ℕ) (e : Tree) (shows : List Show) (i : ℕ) (c : CoreView)
    → table name x e shows (reach n k v) i ≡ Ok c → FitsPart n k v i (part.Table line name x e shows) c
unfolding table
table_fits law n k v line name x e shows i c h =
    let r = reach n k v in
    let a = came_from (typed e r) (λ t. slots shows (bind r x t.kind) (i + 1) >>= (λ xs. Ok (core.Table i name t.core xs))) c h in
    let one : Variable = record { name = x; kind = a.0.kind } in
    let b = came_from (slots shows (bind r x a.0.kind) (i + 1)) (λ xs. Ok (core.Table i name a.0.core xs)) c a.2 in
    let inner = slots_fit law n k (v ++ one ∷ []) shows (i + 1) b.0 b.1 in
    let within : are_slots b.0 n k (kinds_of v ++ a.0.kind ∷ []) (i + 1) ≡ true = ap (λ u. are_slots b.0 n k u (i + 1)) (sym (map_one v one)) ∙ inner.0 in
    subst (FitsPart n k v i (part.Table line name x e shows)) (ok_same (core.Table i name a.0.core b.0) c b.2)
    (ap (is_table n k (kinds_of v) i i b.0) (law.has n k v e a.0 a.1) ∙ both_hold (i == i) _ (eq-eqb i i refl) within, ap (λ m. 1 + m) inner.1)

part_fits : HaveKinds → (n : List Node) (k : List Kind) (v : List Variable) (p : Part) (i : ℕ) (c : CoreView)
    → part_of p (reach n k v) i ≡ Ok c → FitsPart n k v i p c
unfolding part_of
part_fits law n k v (part.Show s) i c h =
    let a = came_from (slot s (reach n k v) i) (λ x. Ok (core.Show x)) c h in
    subst (FitsPart n k v i (part.Show s)) (ok_same (core.Show a.0) c a.2) (slot_fits law n k v s i a.0 a.1, refl)
part_fits law n k v (part.Table line name x e shows) i c h = table_fits law n k v line name x e shows i c h

pub parts_fit : HaveKinds → (n : List Node) (k : List Kind) (v : List Variable) (ps : List Part) (i : ℕ) (xs : List CoreView)
    → parts ps (reach n k v) i ≡ Ok xs → are_parts xs n k (kinds_of v) i ≡ true
parts_fit law n k v [] i xs h = let P : List CoreView → Type 0 = λ ys. are_parts ys n k (kinds_of v) i ≡ true in subst P (ok_same [] xs h) refl
parts_fit law n k v (p ∷ ps) i xs h =
    let r = reach n k v in
    let a = came_from (part_of p r i) (λ y. parts ps r (i + numbers_of p) >>= (λ ys. Ok (y ∷ ys))) xs h in
    let b = came_from (parts ps r (i + numbers_of p)) (λ ys. Ok (a.0 ∷ ys)) xs a.2 in
    let first = part_fits law n k v p i a.0 a.1 in
    let rest : are_parts b.0 n k (kinds_of v) (i + numbers_in a.0) ≡ true = ap (λ m. are_parts b.0 n k (kinds_of v) (i + m)) first.1
    ∙ parts_fit law n k v ps (i + numbers_of p) b.0 b.1 in
    let P : List CoreView → Type 0 = λ ys. are_parts ys n k (kinds_of v) i ≡ true in
    subst P (ok_same (a.0 ∷ b.0) xs b.2) (both_hold _ _ first.0 rest)

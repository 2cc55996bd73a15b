-- What stays true of variables when a state changes.
use Rattle.std.proofs.Common.{◌≡◌, refl, subst, ℕ, ◌≤◌, ◌<◌, List, [], ◌∷◌, arith, Option, Some, None}
use Rattle.std.specs.List.{AllByRecursion}
use Rattle.sheet_values.specs.declared.value.Kind.{Kind}
use Rattle.sheet_values.specs.declared.value.Kind.TheVariants as kind
use Rattle.sheet_values.specs.declared.value.Value.{Value}
use Rattle.sheet_values.specs.declared.value.Value.TheVariants.{Truth, Number, Text, Object}
use Rattle.sheet_meaning.specs.Drawn.{IsDrawn}
use Rattle.sheet_meaning.specs.Formula.{Variables}
use Rattle.sheet_meaning.specs.WellFormed.{HasKind, IsWellFormed}
use Rattle.sheet_meaning.specs.Workbook.{object_at, column_in}
use Rattle.sheet_meaning.specs.declared.workbook.LiveObject.{LiveObject}
use Rattle.sheet_meaning.specs.declared.workbook.State.{State}
use Rattle.sheet_meaning.specs.declared.workbook.Workbook.{Workbook}
use Rattle.sheet_meaning.proofs.Columns.{all_in}
use Rattle.sheet_state.proofs.Existing.{live_in}
use Rattle.sheet_engine_types.specs.Types.{HasKindWhereLive, HaveKinds}
use Rattle.sheet_engine_types.proofs.Given.{all_more}
use Rattle.sheet_procs_laws.specs.Keeping.{AreDrawn}

-- numbers that were drawn stay drawn, and an object that had one is live only where it was, in the same column
pub record Follows (s t : State) : Type 0 where
  pub drawn : s.next ≤ t.next
  pub column : (o d : ℕ) → o < s.next → column_in (object_at t.objects o) ≡ Some d → column_in (object_at s.objects o) ≡ Some d

pub follows_itself : (s : State) → Follows s s
follows_itself s = record { drawn = omega arith; column = λ o d lt e. e }

pub follows_on : (s t u : State) → Follows s t → Follows t u → Follows s u
follows_on s t u f g =
    let a = f.drawn in
    let b = g.drawn in
    record { drawn = omega arith; column = λ o d lt e. f.column o d lt (g.column o d (omega arith) e) }

module _ (s t : State) (f : Follows s t) where
  value_follows : (k : Kind) (v : Value) → IsDrawn s.next v → HasKindWhereLive s k v → HasKindWhereLive t k v
  value_follows kind.Unknown (Truth b) d h = h
  value_follows kind.Unknown (Number n) d h = h
  value_follows kind.Unknown (Text x) d h = h
  value_follows kind.Unknown (Object o) d h = h
  value_follows kind.Truth (Truth b) d h = h
  value_follows kind.Truth (Number n) d h = h
  value_follows kind.Truth (Text x) d h = h
  value_follows kind.Truth (Object o) d h = h
  value_follows kind.Number (Truth b) d h = h
  value_follows kind.Number (Number n) d h = h
  value_follows kind.Number (Text x) d h = h
  value_follows kind.Number (Object o) d h = h
  value_follows kind.Text (Truth b) d h = h
  value_follows kind.Text (Number n) d h = h
  value_follows kind.Text (Text x) d h = h
  value_follows kind.Text (Object o) d h = h
  value_follows (kind.Object c) (Truth b) d h = h
  value_follows (kind.Object c) (Number n) d h = h
  value_follows (kind.Object c) (Text x) d h = h
  value_follows (kind.Object c) (Object o) d h = λ e is. h e (f.column o e d is)

  drawn_follows : (v : Value) → IsDrawn s.next v → IsDrawn t.next v
  drawn_follows (Truth b) d = tt
  drawn_follows (Number n) d = tt
  drawn_follows (Text x) d = tt
  drawn_follows (Object o) d = let grown = f.drawn in omega arith

  pub values_follow : (k : Kind) (xs : List Value) → AllByRecursion (IsDrawn s.next) xs → AllByRecursion (HasKindWhereLive s k) xs →
      AllByRecursion (HasKindWhereLive t k) xs
  values_follow k [] d h = tt
  values_follow k (x ∷ xs) d h = (value_follows k x d.0 h.0, values_follow k xs d.1 h.1)

  pub set_drawn_still : (xs : List Value) → AllByRecursion (IsDrawn s.next) xs → AllByRecursion (IsDrawn t.next) xs
  set_drawn_still xs d = all_more (IsDrawn s.next) (IsDrawn t.next) drawn_follows xs d

  pub drawn_still : (sets : Variables) → AreDrawn s sets → AreDrawn t sets
  drawn_still sets d =
      all_more (λ (set : List Value). AllByRecursion (IsDrawn s.next) set) (λ (set : List Value). AllByRecursion (IsDrawn t.next) set) set_drawn_still sets d

  pub kinds_still : (ks : List Kind) (sets : Variables) → AreDrawn s sets → HaveKinds s ks sets → HaveKinds t ks sets
  kinds_still [] [] d h = tt
  kinds_still [] (set ∷ sets) d h = absurd h
  kinds_still (k ∷ ks) [] d h = absurd h
  kinds_still (k ∷ ks) (set ∷ sets) d h = ((h.0.0, values_follow k set d.0 h.0.1), kinds_still ks sets d.1 h.1)

-- what a formula gives was drawn
module _ (w : Workbook) (formed : IsWellFormed w) where
  kind_drawn : (k : Kind) (v : Value) → HasKind w.state k v → IsDrawn w.state.next v
  kind_drawn k (Truth b) h = tt
  kind_drawn k (Number n) h = tt
  kind_drawn k (Text x) h = tt
  kind_drawn kind.Unknown (Object o) h = absurd h
  kind_drawn kind.Truth (Object o) h = absurd h
  kind_drawn kind.Number (Object o) h = absurd h
  kind_drawn kind.Text (Object o) h = absurd h
  kind_drawn (kind.Object c) (Object o) h = found (object_at w.state.objects o) refl h
    where
      found : (x : Option LiveObject) → object_at w.state.objects o ≡ x → column_in x ≡ Some c → o < w.state.next
      found None e g = cc
      found (Some x) e g =
          let l = live_in w.state.objects o x e in
          subst (λ n. n < w.state.next) l.1 (all_in (λ (y : LiveObject). y.number < w.state.next) w.state.objects x formed.drawn l.0)

  pub set_drawn : (k : Kind) (xs : List Value) → AllByRecursion (HasKind w.state k) xs → AllByRecursion (IsDrawn w.state.next) xs
  set_drawn k xs h = all_more (HasKind w.state k) (IsDrawn w.state.next) (kind_drawn k) xs h

-- The live objects of a set, one after another.
use Rattle.std.proofs.Common.{◌≡◌, refl, sym, ap, ◌∙◌, ℕ, Bool, true, false, cond, List, Option, Some, None}
use Rattle.std.specs.Prelude.{◌&&◌, ◌||◌, is_some, option_map}
use Rattle.std.specs.Ordering.{is_eq, nat_cmp}
use Rattle.std.proofs.lemmas.Bool.{eqb-true}
use Rattle.sheet_values.specs.declared.value.Value.{Value}
use Rattle.sheet_values.specs.declared.value.Value.TheVariants.{Object}
use Rattle.sheet_state_rows.specs.declared.row.ObjectRow.{ObjectRow}
use Rattle.sheet_meaning.specs.Workbook.{object_at}
use Rattle.sheet_meaning.specs.declared.workbook.LiveObject.{LiveObject}
use Rattle.sheet_state_references.specs.Below.{has}
use Rattle.sheet_state_references.proofs.Numbers.{ties, ties_turned, no_object}
use Rattle.sheet_state.specs.Removals.{AddsLive}
use Rattle.sheet_state.specs.Rows.{object_of}

or_false : (b : Bool) → b ≡ (b || false)
or_false true = refl
or_false false = refl

or_true : (b : Bool) → true ≡ (b || true)
or_true true = refl
or_true false = refl

tied : (n o : ℕ) → is_eq (nat_cmp n o) ≡ true → n ≡ o
tied n o e = eqb-true n o (sym (ties n o) ∙ e)

-- an object that isn't live adds nothing
pub none_added : (xs : List LiveObject) (o : ℕ) (old : List ℕ) → object_at xs o ≡ None → AddsLive xs (Object o) old old
none_added xs o old dead n = at (is_eq (nat_cmp n o)) refl
  where
    at : (b : Bool) → is_eq (nat_cmp n o) ≡ b → has n old ≡ (has n old || (is_eq (nat_cmp n o) && is_some (object_at xs n)))
    at true e =
        or_false (has n old)
        ∙ sym (ap (λ b. has n old || (b && is_some (object_at xs n))) e ∙ ap (λ k. has n old || is_some (object_at xs k)) (tied n o e)
        ∙ ap (λ x. has n old || is_some x) dead)
    at false e = or_false (has n old) ∙ sym (ap (λ b. has n old || (b && is_some (object_at xs n))) e)

-- a live one adds its number
pub one_added : (xs : List LiveObject) (o : ℕ) (old new : List ℕ) → is_some (object_at xs o) ≡ true → ((n : ℕ) →
    has n new ≡ cond (is_eq (nat_cmp o n)) true (has n old)) → AddsLive xs (Object o) old new
one_added xs o old new live is n = is n ∙ ap (λ b. cond b true (has n old)) (ties_turned o n) ∙ at (is_eq (nat_cmp n o)) refl
  where
    at : (b : Bool) → is_eq (nat_cmp n o) ≡ b →
        cond (is_eq (nat_cmp n o)) true (has n old) ≡ (has n old || (is_eq (nat_cmp n o) && is_some (object_at xs n)))
    at true e =
        ap (λ b. cond b true (has n old)) e
        ∙ or_true (has n old)
        ∙ sym (ap (λ b. has n old || (b && is_some (object_at xs n))) e ∙ ap (λ k. has n old || is_some (object_at xs k)) (tied n o e)
        ∙ ap (λ b. has n old || b) live)
    at false e =
        ap (λ b. cond b true (has n old)) e
        ∙ or_false (has n old)
        ∙ sym (ap (λ b. has n old || (b && is_some (object_at xs n))) e)

-- a value that is no object adds nothing
pub other_added : (xs : List LiveObject) (v : Value) (old : List ℕ) → ((m : ℕ) → v ≡ Object m → ⊥) → AddsLive xs v old old
other_added xs v old none n = or_false (has n old) ∙ sym (ap (λ b. has n old || (b && is_some (object_at xs n))) (no_object n v none))

pub spread : (a e s : Bool) → ((a && s) || (e && s)) ≡ ((a || e) && s)
spread true true true = refl
spread true true false = refl
spread true false true = refl
spread true false false = refl
spread false e s = refl

-- a row tells that its object is live
pub row_tells : (r : Option ObjectRow) (x : Option LiveObject) (q : ObjectRow) → option_map object_of r ≡ x → r ≡ Some q → is_some x ≡ true
row_tells None x q e f = cc
row_tells (Some p) x q e f = ap is_some (sym e)

pub no_row_tells : (r : Option ObjectRow) (x : Option LiveObject) → option_map object_of r ≡ x → r ≡ None → x ≡ None
no_row_tells None x e f = sym e
no_row_tells (Some p) x e f = cc

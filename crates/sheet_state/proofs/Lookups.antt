-- Rows that are found, and what they stand for.
use Rattle.std.proofs.Common.{◌≡◌, refl, sym, ap, ◌∙◌, subst, ℕ, ◌+◌, ◌<◌, zero, suc, Bool, true, false, cond, List, [], ◌∷◌, length, get_or, arith, Some, None}
use Rattle.std.specs.Prelude.{slice_get, position, ◌==◌, ◌&&◌, if◌then◌else◌}
use Rattle.std.specs.List.{position_from, cons_option, AllByRecursion}
use Rattle.std.proofs.lemmas.Iterator.Adapters.{position_from-zero}
use Rattle.sheet_state_rows.specs.declared.row.ObjectRow.{ObjectRow}
use Rattle.sheet_state_rows.specs.declared.row.SetRow.{SetRow}
use Rattle.sheet_meaning.specs.Workbook.{set_in, object_at}
use Rattle.sheet_meaning.specs.declared.workbook.LiveObject.{LiveObject}
use Rattle.sheet_meaning.specs.declared.workbook.StoredCell.{StoredCell}
use Rattle.sheet_state.specs.Rows.{live_object, live_cell, objects_in, cells_in, is_object, is_set}

-- x is the first that passes, at place k
abbrev pub FirstAt : {A : Type 0} → (A → Bool) → List A → ℕ → A → Type 0
FirstAt p [] k x = ⊥
FirstAt p (y ∷ ys) zero x = (y ≡ x) × (p y ≡ true)
FirstAt p (y ∷ ys) (suc k) x = (p y ≡ false) × FirstAt p ys k x

first_from : {A : Type 0} (p : A → Bool) (i : ℕ) (xs : List A) (k : ℕ) → position_from p i xs ≡ Some k → (j : ℕ) × (x : A) × (k ≡ i + j) × FirstAt p xs j x
first_from p i [] k e = cc
first_from {A} p i (y ∷ ys) k e =
    elim (p y) as (λ b. p y ≡ b → cond b (Some i) (position_from p (i + 1) ys) ≡ Some k → (j : ℕ) × (x : A) × (k ≡ i + j) × FirstAt p (y ∷ ys) j x) [
      | true ↦ λ t h. let same : i ≡ k = cc in (0, y, omega arith, (refl, t))
      | false ↦ λ t h. let f = first_from p (i + 1) ys k h in (suc f.0, f.1, let e2 = f.2 in omega arith, (t, f.3))
    ] refl e

pub first_at : {A : Type 0} (p : A → Bool) (xs : List A) (k : ℕ) → position p xs ≡ Some k → (x : A) × FirstAt p xs k x
first_at {A} p xs k e =
    let f = first_from p 0 xs k (sym (position_from-zero p xs) ∙ e) in
    let same : f.0 ≡ k = let h = f.2 in omega arith in
    (f.1, subst (λ j. FirstAt p xs j f.1) same f.3)

none_from : {A : Type 0} (p : A → Bool) (i : ℕ) (xs : List A) → position_from p i xs ≡ None → AllByRecursion (λ x. p x ≡ false) xs
none_from p i [] e = tt
none_from {A} p i (y ∷ ys) e =
    elim (p y) as (λ b. p y ≡ b → cond b (Some i) (position_from p (i + 1) ys) ≡ None → AllByRecursion (λ x. p x ≡ false) (y ∷ ys)) [
      | true ↦ λ t h. cc
      | false ↦ λ t h. (t, none_from p (i + 1) ys h)
    ] refl e

pub none_at : {A : Type 0} (p : A → Bool) (xs : List A) → position p xs ≡ None → AllByRecursion (λ x. p x ≡ false) xs
none_at p xs e = none_from p 0 xs (sym (position_from-zero p xs) ∙ e)

pub first_within : {A : Type 0} (p : A → Bool) (xs : List A) (k : ℕ) (x : A) → FirstAt p xs k x → k < length xs
first_within p [] k x f = absurd f
first_within p (y ∷ ys) zero x f = omega arith
first_within p (y ∷ ys) (suc k) x f = let lt = first_within p ys k x f.1 in omega arith

pub first_got : {A : Type 0} (p : A → Bool) (xs : List A) (k : ℕ) (x : A) → FirstAt p xs k x → slice_get xs k ≡ Some x
first_got p [] k x f = absurd f
first_got p (y ∷ ys) zero x f = ap Some f.0
first_got p (y ∷ ys) (suc k) x f = first_got p ys k x f.1

pub first_read : {A : Type 0} (p : A → Bool) (xs : List A) (k : ℕ) (x d : A) → FirstAt p xs k x → get_or xs k d ≡ x
first_read p [] k x d f = absurd f
first_read p (y ∷ ys) zero x d f = f.0
first_read p (y ∷ ys) (suc k) x d f = first_read p ys k x d f.1

pub first_passes : {A : Type 0} (p : A → Bool) (xs : List A) (k : ℕ) (x : A) → FirstAt p xs k x → p x ≡ true
first_passes p [] k x f = absurd f
first_passes p (y ∷ ys) zero x f = subst (λ z. p z ≡ true) f.0 f.1
first_passes p (y ∷ ys) (suc k) x f = first_passes p ys k x f.1

-- the set of a row that passes is what the cell holds
pub set_first : (o c : ℕ) (r : SetRow) (rest : List StoredCell) → is_set o c r ≡ true → set_in (cons_option (live_cell r) rest) o c ≡ r.set
set_first o c r rest e =
    elim r.live as (λ b. (b && (r.object == o && r.column == c)) ≡ true →
    set_in (cons_option (if b then Some (record { object = r.object; column = r.column; set = r.set }) else None) rest) o c ≡ r.set) [
      | true ↦ λ h. ap (λ t. if t then r.set else set_in rest o c) h
      | false ↦ λ h. cc
    ] e

pub set_skip : (o c : ℕ) (r : SetRow) (rest : List StoredCell) → is_set o c r ≡ false → set_in (cons_option (live_cell r) rest) o c ≡ set_in rest o c
set_skip o c r rest e =
    elim r.live as (λ b. (b && (r.object == o && r.column == c)) ≡ false →
    set_in (cons_option (if b then Some (record { object = r.object; column = r.column; set = r.set }) else None) rest) o c ≡ set_in rest o c) [
      | true ↦ λ h. ap (λ t. if t then r.set else set_in rest o c) h
      | false ↦ λ h. refl
    ] e

pub set_found : (o c : ℕ) (rows : List SetRow) (k : ℕ) (r : SetRow) → FirstAt (is_set o c) rows k r → set_in (cells_in rows) o c ≡ r.set
set_found o c [] k r f = absurd f
set_found o c (q ∷ rows) zero r f = set_first o c q (cells_in rows) f.1 ∙ ap (λ (x : SetRow). x.set) f.0
set_found o c (q ∷ rows) (suc k) r f = set_skip o c q (cells_in rows) f.0 ∙ set_found o c rows k r f.1

pub set_missing : (o c : ℕ) (rows : List SetRow) → AllByRecursion (λ r. is_set o c r ≡ false) rows → set_in (cells_in rows) o c ≡ []
set_missing o c [] h = refl
set_missing o c (q ∷ rows) h = set_skip o c q (cells_in rows) h.0 ∙ set_missing o c rows h.1

object_first : (o : ℕ) (r : ObjectRow) (rest : List LiveObject) → is_object o r ≡ true → object_at (cons_option (live_object r) rest) o ≡ live_object r
object_first o r rest e =
    elim r.live as (λ b. (b && r.number == o) ≡ true →
    object_at (cons_option (if b then Some (record { number = r.number; column = r.column; parent = r.parent }) else None) rest)
    o ≡ (if b then Some (record { number = r.number; column = r.column; parent = r.parent }) else None)) [
      | true ↦ λ h. ap (λ t. if t then Some (record { number = r.number; column = r.column; parent = r.parent }) else object_at rest o) h
      | false ↦ λ h. cc
    ] e

object_skip : (o : ℕ) (r : ObjectRow) (rest : List LiveObject) → is_object o r ≡ false → object_at (cons_option (live_object r) rest) o ≡ object_at rest o
object_skip o r rest e =
    elim r.live as (λ b. (b && r.number == o) ≡ false →
    object_at (cons_option (if b then Some (record { number = r.number; column = r.column; parent = r.parent }) else None) rest) o ≡ object_at rest o) [
      | true ↦ λ h. ap (λ t. if t then Some (record { number = r.number; column = r.column; parent = r.parent }) else object_at rest o) h
      | false ↦ λ h. refl
    ] e

pub object_found : (o : ℕ) (rows : List ObjectRow) (k : ℕ) (r : ObjectRow) → FirstAt (is_object o) rows k r → live_object r ≡ object_at (objects_in rows) o
object_found o [] k r f = absurd f
object_found o (q ∷ rows) zero r f = ap live_object (sym f.0) ∙ sym (object_first o q (objects_in rows) f.1)
object_found o (q ∷ rows) (suc k) r f = object_found o rows k r f.1 ∙ sym (object_skip o q (objects_in rows) f.0)

pub object_missing : (o : ℕ) (rows : List ObjectRow) → AllByRecursion (λ r. is_object o r ≡ false) rows → object_at (objects_in rows) o ≡ None
object_missing o [] h = refl
object_missing o (q ∷ rows) h = object_skip o q (objects_in rows) h.0 ∙ object_missing o rows h.1

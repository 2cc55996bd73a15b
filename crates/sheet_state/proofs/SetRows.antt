-- A row whose set is replaced.
use Rattle.std.proofs.Common.{◌≡◌, refl, sym, ap, ◌∙◌, subst, ℕ, ◌+◌, ◌<◌, zero, suc, Bool, true, false, List, [], ◌∷◌, length, arith, Some, None, eq-eqb}
use Rattle.std.proofs.Common.{zero-add}
use Rattle.std.specs.Prelude.{slice_set, ◌==◌, ◌&&◌, if◌then◌else◌, map}
use Rattle.std.specs.List.{cons_option, AllByRecursion}
use Rattle.std.specs.declared.cmp.Ordering.TheVariants.{Less, Equal}
use Rattle.std.specs.Ordering.{nat_cmp, ordering_then}
use Rattle.std.specs.Cmp.{nat_cmp_is}
use Rattle.std.proofs.lemmas.Bool.{eqb-true}
use Rattle.std.proofs.lemmas.List.Sums.{sum_by-cons}
use Rattle.sheet_values.specs.Sorted.{IsBelow, IsRising}
use Rattle.sheet_values.specs.declared.value.Value.{Value}
use Rattle.sheet_state_rows.specs.declared.row.SetRow.{SetRow}
use Rattle.sheet_meaning.specs.WellFormed.{stored_values}
use Rattle.sheet_meaning.specs.declared.workbook.StoredCell.{StoredCell}
use Rattle.sheet_state.specs.Rows.{live_cell, cells_in, row_cmp, is_set}
use Rattle.sheet_state_rows.specs.Rows.{set_row}
use Rattle.sheet_state.specs.Births.{live_row, set_at}
use Rattle.sheet_state.proofs.Lookups.{FirstAt, first_passes, first_read}

-- the cell of an object and a column gets a set
abbrev pub set_of : ℕ → ℕ → List Value → StoredCell → StoredCell
set_of o c set x = if x.object == o && x.column == c then record x { set = set } else x

-- whether a row is that of an object and a column
abbrev pub at : ℕ → ℕ → SetRow → Bool
at o c r = r.object == o && r.column == c

ties : (a b : ℕ) → a ≡ b → nat_cmp a b ≡ Equal
ties a b e = sym (nat_cmp_is a b Equal e)

pub both : (a b : Bool) → (a && b) ≡ true → (a ≡ true) × (b ≡ true)
both true b e = (refl, e)
both false b e = cc

pub key_is : (o c : ℕ) (r : SetRow) → at o c r ≡ true → (r.object ≡ o) × (r.column ≡ c)
key_is o c r e = let h = both (r.object == o) (r.column == c) e in (eqb-true r.object o h.0, eqb-true r.column c h.1)

pub passes : (o c : ℕ) (r : SetRow) → is_set o c r ≡ true → (r.live ≡ true) × (at o c r ≡ true)
passes o c r e = both r.live (at o c r) e

tied_rows : (r q : SetRow) → r.object ≡ q.object → r.column ≡ q.column → row_cmp r q ≡ Equal
tied_rows r q e f = ap (λ x. ordering_then x (nat_cmp r.column q.column)) (ties r.object q.object e) ∙ ties r.column q.column f

-- a row above another isn't that of the same object and column
pub apart : (o c : ℕ) (r q : SetRow) → at o c r ≡ true → row_cmp r q ≡ Less → at o c q ≡ false
apart o c r q e lt =
    elim (at o c q) as (λ b. at o c q ≡ b → b ≡ false) [
      | true ↦ λ t.
          let x = key_is o c r e in
          let y = key_is o c q t in
          let tied = tied_rows r q (x.0 ∙ sym y.0) (x.1 ∙ sym y.1) in
          cc
      | false ↦ λ t. refl
    ] refl

-- the new row
abbrev pub row : ℕ → ℕ → List Value → SetRow
row o c set = record { object = o; column = c; live = true; set = set }

row_passes : (o c : ℕ) (set : List Value) → is_set o c (row o c set) ≡ true
row_passes o c set = ap (λ b. b && c == c) (eq-eqb o o refl) ∙ eq-eqb c c refl

kept_cell : (o c : ℕ) (set : List Value) (q : SetRow) (b : Bool) (rest : List StoredCell) → (b && at o c q) ≡ false →
    map (set_of o c set) (cons_option (if b then Some (record { object = q.object; column = q.column; set = q.set }) else None) rest) ≡ cons_option
    (if b then Some (record { object = q.object; column = q.column; set = q.set }) else None) (map (set_of o c set) rest)
kept_cell o c set q true rest e =
    ap (λ t. (if t then record { object = q.object; column = q.column; set = set } else record { object = q.object; column = q.column; set = q.set }) ∷ map
    (set_of o c set) rest) e
kept_cell o c set q false rest e = refl

untouched : (o c : ℕ) (set : List Value) (r : SetRow) (rows : List SetRow) → at o c r ≡ true → IsBelow row_cmp r rows →
    map (set_of o c set) (cells_in rows) ≡ cells_in rows
untouched o c set r [] e b = refl
untouched o c set r (q ∷ rows) e b =
    kept_cell o c set q q.live (cells_in rows) (ap (λ t. q.live && t) (apart o c r q e b.0) ∙ never q.live)
    ∙ ap (cons_option (live_cell q)) (untouched o c set r rows e b.1)
  where
    never : (b : Bool) → (b && false) ≡ false
    never true = refl
    never false = refl

new_cell_is : (o c : ℕ) (set : List Value) (q : SetRow) (b : Bool) (rest : List StoredCell) → (b && at o c q) ≡ true →
    record { object = o; column = c; set = set } ∷ map (set_of o c set) rest ≡ map (set_of o c set)
    (cons_option (if b then Some (record { object = q.object; column = q.column; set = q.set }) else None) rest)
new_cell_is o c set q true rest e =
    let k = key_is o c q e in
    ap (λ n. record { object = n; column = c; set = set } ∷ map (set_of o c set) rest) (sym k.0)
    ∙ ap (λ n. record { object = q.object; column = n; set = set } ∷ map (set_of o c set) rest) (sym k.1)
    ∙ ap (λ t. (if t then record { object = q.object; column = q.column; set = set } else record { object = q.object; column = q.column; set = q.set }) ∷ map
    (set_of o c set) rest) (sym e)
new_cell_is o c set q false rest e = cc

-- the cells after the row of one got another set
pub cells_set : (o c : ℕ) (set : List Value) (rows : List SetRow) (k : ℕ) (r : SetRow) → IsRising row_cmp rows → FirstAt (is_set o c) rows k r →
    cells_in (slice_set rows k (row o c set)) ≡ map (set_of o c set) (cells_in rows)
cells_set o c set [] k r rising f = absurd f
cells_set o c set (q ∷ rows) zero r rising f =
    ap (λ l. record { object = o; column = c; set = set } ∷ l) (sym (untouched o c set q rows (passes o c q f.1).1 rising.0))
    ∙ new_cell_is o c set q q.live (cells_in rows) f.1
cells_set o c set (q ∷ rows) (suc k) r rising f =
    ap (cons_option (live_cell q)) (cells_set o c set rows k r rising.1 f.1) ∙ sym (kept_cell o c set q q.live (cells_in rows) f.0)

-- the row stands where the old one stood
pub first_set : (o c : ℕ) (set : List Value) (rows : List SetRow) (k : ℕ) (r : SetRow) → FirstAt (is_set o c) rows k r →
    FirstAt (is_set o c) (slice_set rows k (row o c set)) k (row o c set)
first_set o c set [] k r f = absurd f
first_set o c set (q ∷ rows) zero r f = (refl, row_passes o c set)
first_set o c set (q ∷ rows) (suc k) r f = (f.0, first_set o c set rows k r f.1)

same_order : (p q r : SetRow) → q.object ≡ r.object → q.column ≡ r.column → row_cmp p q ≡ row_cmp p r
same_order p q r e f =
    ap (λ n. ordering_then (nat_cmp p.object n) (nat_cmp p.column q.column)) e ∙ ap (λ n. ordering_then (nat_cmp p.object r.object) (nat_cmp p.column n)) f

same_below : (q r : SetRow) (rows : List SetRow) → q.object ≡ r.object → q.column ≡ r.column → IsBelow row_cmp q rows → IsBelow row_cmp r rows
same_below q r [] e f b = tt
same_below q r (p ∷ rows) e f b = (
  ap (λ n. ordering_then (nat_cmp n p.object) (nat_cmp r.column p.column)) (sym e)
      ∙ ap (λ n. ordering_then (nat_cmp q.object p.object) (nat_cmp n p.column)) (sym f) ∙ b.0,
  same_below q r rows e f b.1,
)

below_set : (o c : ℕ) (set : List Value) (p : SetRow) (rows : List SetRow) (k : ℕ) (r : SetRow) → FirstAt (is_set o c) rows k r → IsBelow row_cmp p rows →
    IsBelow row_cmp p (slice_set rows k (row o c set))
below_set o c set p [] k r f b = absurd f
below_set o c set p (q ∷ rows) zero r f b =
    let key = key_is o c q (passes o c q f.1).1 in
    (same_order p (row o c set) q (sym key.0) (sym key.1) ∙ b.0, b.1)
below_set o c set p (q ∷ rows) (suc k) r f b = (b.0, below_set o c set p rows k r f.1 b.1)

pub rising_set : (o c : ℕ) (set : List Value) (rows : List SetRow) (k : ℕ) (r : SetRow) → FirstAt (is_set o c) rows k r → IsRising row_cmp rows →
    IsRising row_cmp (slice_set rows k (row o c set))
rising_set o c set [] k r f b = absurd f
rising_set o c set (q ∷ rows) zero r f b =
    let key = key_is o c q (passes o c q f.1).1 in
    (same_below q (row o c set) rows key.0 key.1 b.0, b.1)
rising_set o c set (q ∷ rows) (suc k) r f b = (below_set o c set q rows k r f.1 b.0, rising_set o c set rows k r f.1 b.1)

pub all_set : {A : Type 0} (P : A → Type 0) (xs : List A) (k : ℕ) (x : A) → AllByRecursion P xs → P x → AllByRecursion P (slice_set xs k x)
all_set P [] k x h here = tt
all_set P (y ∷ ys) zero x h here = (here, h.1)
all_set P (y ∷ ys) (suc k) x h here = (h.0, all_set P ys k x h.1 here)

pub first_all : {A : Type 0} (P : A → Type 0) (p : A → Bool) (xs : List A) (k : ℕ) (x : A) → FirstAt p xs k x → AllByRecursion P xs → P x
first_all P p [] k x f h = absurd f
first_all P p (y ∷ ys) zero x f h = subst P f.0 h.0
first_all P p (y ∷ ys) (suc k) x f h = first_all P p ys k x f.1 h.1

row_drawn : (o c n : ℕ) (rows : List SetRow) (k : ℕ) (r : SetRow) → FirstAt (is_set o c) rows k r → AllByRecursion (λ (q : SetRow). q.object < n) rows → o < n
row_drawn o c n rows k r f h =
    let below = first_all (λ (q : SetRow). q.object < n) (is_set o c) rows k r f h in
    let key = key_is o c r (passes o c r (first_passes (is_set o c) rows k r f)).1 in
    subst (λ m. m < n) key.0 below

pub drawn_set : (o c n : ℕ) (set : List Value) (rows : List SetRow) (k : ℕ) (r : SetRow) → FirstAt (is_set o c) rows k r →
    AllByRecursion (λ (q : SetRow). q.object < n) rows → AllByRecursion (λ (q : SetRow). q.object < n) (slice_set rows k (row o c set))
drawn_set o c n set rows k r f h = all_set (λ (q : SetRow). q.object < n) rows k (row o c set) h (row_drawn o c n rows k r f h)

size : (b : Bool) (x : StoredCell) (rest : List StoredCell) →
    stored_values (cons_option (if b then Some x else None) rest) ≡ (if b then length x.set else 0) + stored_values rest
size true x rest = sum_by-cons (λ (y : StoredCell). length y.set) x rest
size false x rest = sym (zero-add (stored_values rest))

-- how many values are stored after
pub values_set : (o c : ℕ) (set : List Value) (rows : List SetRow) (k : ℕ) (r : SetRow) → FirstAt (is_set o c) rows k r →
    stored_values (cells_in (slice_set rows k (row o c set))) + length r.set ≡ stored_values (cells_in rows) + length set
values_set o c set [] k r f = absurd f
values_set o c set (q ∷ rows) zero r f =
    let s = size q.live (record { object = q.object; column = q.column; set = q.set }) (cells_in rows) in
    let new = sum_by-cons (λ (y : StoredCell). length y.set) (record { object = o; column = c; set = set }) (cells_in rows) in
    let live = ap (λ b. if b then length q.set else 0) (passes o c q f.1).0 in
    let same = ap (λ (x : SetRow). length x.set) f.0 in
    omega (arith, s, new, live, same)
values_set o c set (q ∷ rows) (suc k) r f =
    let s = size q.live (record { object = q.object; column = q.column; set = q.set }) (cells_in rows) in
    let t = size q.live (record { object = q.object; column = q.column; set = q.set }) (cells_in (slice_set rows k (row o c set))) in
    let rest = values_set o c set rows k r f.1 in
    omega (arith, s, t, rest)

-- what stands at the place of a found row
pub row_read : (o c : ℕ) (rows : List SetRow) (k : ℕ) (r : SetRow) → FirstAt (is_set o c) rows k r → set_row rows k ≡ live_row o c (set_at rows k)
row_read o c rows k r f =
    let there : set_row rows k ≡ r = first_read (is_set o c) rows k r _ f in
    let p = passes o c r (first_passes (is_set o c) rows k r f) in
    let key = key_is o c r p.1 in
    there
    ∙ ap (λ n. record { object = n; column = r.column; live = r.live; set = r.set }) key.0
    ∙ ap (λ n. record { object = o; column = n; live = r.live; set = r.set }) key.1
    ∙ ap (λ b. record { object = o; column = c; live = b; set = r.set }) p.0
    ∙ ap (λ (q : SetRow). live_row o c q.set) (sym there)

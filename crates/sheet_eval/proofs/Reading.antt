-- Reading a variable.
use Rattle.std.proofs.Common.{◌≡◌, refl, sym, ap, ◌∙◌, subst, ℕ, zero, suc, ◌-◌, ◌≤◌, Bool, true, false, List, [], ◌∷◌, ◌++◌, length, arith}
use Rattle.std.proofs.Common.{append_assoc, Some}
use Rattle.std.specs.Prelude.{slice_get, slice_index_or, filter, cond, if◌then◌else◌, ◌&&◌}
use Rattle.std.specs.List.{list_all}
use Rattle.sheet_values.specs.declared.value.Value.{Value}
use Rattle.sheet_values.specs.declared.value.Value.TheVariants as value
use Rattle.sheet_values.specs.Sets.{IsRising, insert}
use Rattle.sheet_values.specs.Order.{value_cmp}
use Rattle.sheet_values.specs.OrderLaws.{value_total}
use Rattle.sheet_values.proofs.Merging.{filter_rising}
use Rattle.std.specs.Prelude.{Ok}
use Rattle.std.specs.declared.cmp.Ordering.{Ordering}
use Rattle.std.specs.declared.cmp.Ordering.TheVariants.{Less, Greater}
use Rattle.std.specs.Ordering.{ordering_reverse}
use Rattle.std.specs.Cmp.{IsTotalOrder}
use Rattle.sheet_values.specs.Sorted.{IsBelow, IsRising as rising, by_order, insert as insert_in}
use Rattle.sheet_meaning.specs.Formula.{World, is_read, live_reads, variable_read}
use Rattle.sheet_eval.specs.Told.{Noted, noted, Came}
use Rattle.sheet_eval.proofs.PartLemmas.{noted_more}

live_reads_more : (v : Value) (rest : List Value) → live_reads (v ∷ rest) ≡ live_reads (v ∷ []) ++ live_reads rest
live_reads_more (value.Truth b) rest = refl
live_reads_more (value.Number n) rest = refl
live_reads_more (value.Text t) rest = refl
live_reads_more (value.Object o) rest = refl

-- a value that stands in rising order behind others goes to their end
module _ {A : Type 0} (cmp : A → A → Ordering) (total : IsTotalOrder cmp) where
  below_middle : (x : A) (xs : List A) (v : A) (rest : List A) → IsBelow cmp x (xs ++ v ∷ rest) → cmp x v ≡ Less
  below_middle x [] v rest b = b.0
  below_middle x (y ∷ xs) v rest b = below_middle x xs v rest b.1

  above_all : (xs : List A) (v : A) (rest : List A) → rising cmp (xs ++ v ∷ rest) → insert_in cmp v xs ≡ xs ++ v ∷ []
  above_all [] v rest r = refl
  above_all (x ∷ xs) v rest r =
      let above : cmp v x ≡ Greater = total.antisymm v x ∙ ap ordering_reverse (below_middle x xs v rest r.0) in
      ap (λ o. by_order o (v ∷ x ∷ xs) (x ∷ xs) (x ∷ insert_in cmp v xs)) above ∙ ap (λ l. x ∷ l) (above_all xs v rest r.1)

-- one value of a set noted, and then those behind it
pub note_more : (n : Noted) (v : Value) (rest : List Value) {new : Noted} → new ≡ noted n (live_reads (v ∷ []))
    → noted new (live_reads rest) ≡ noted n (live_reads (v ∷ rest))
note_more n v rest e =
    ap (λ m. noted m (live_reads rest)) e
    ∙ sym (noted_more n (live_reads (v ∷ [])) (live_reads rest))
    ∙ ap (noted n) (sym (live_reads_more v rest))

-- a set of which all values are read is what is read of it
all_kept : (p : Value → Bool) (s : List Value) → list_all p s ≡ true → filter p s ≡ s
all_kept p [] e = refl
all_kept p (v ∷ s) e =
    elim (p v) as (λ b. p v ≡ b → (b && list_all p s) ≡ true → cond b (v ∷ filter p s) (filter p s) ≡ v ∷ s) [
      | true ↦ λ _ h. ap (λ l. v ∷ l) (all_kept p s h)
      | false ↦ λ _ h. cc
    ] refl e

one_read : (read : List Value) (v : Value) (rest : List Value) (b : Bool) → IsRising (read ++ cond b (v ∷ rest) rest)
    → (if b then insert v read else read) ++ rest ≡ read ++ cond b (v ∷ rest) rest
one_read read v rest true r = ap (λ l. l ++ rest) (above_all value_cmp value_total read v rest r) ∙ append_assoc read (v ∷ []) rest
one_read read v rest false r = refl

-- the values that are read of the front of a set, and one more
pub read_more : (p : Value → Bool) (s read rest : List Value) (v : Value) {next : List Value} → IsRising s → read ++ filter p (v ∷ rest) ≡ filter p s
    → next ≡ (if p v then insert v read else read) → next ++ filter p rest ≡ filter p s
read_more p s read rest v rising h e =
    ap (λ l. l ++ filter p rest) e
    ∙ one_read read v (filter p rest) (p v) (subst IsRising (sym h) (filter_rising value_cmp value_total p s rising))
    ∙ h

-- a variable whose values are noted, and copied or lent
pub read_came : (w : World) (s read : List Value) (old new : Noted) → read ≡ filter (is_read w) s → new ≡ noted old (live_reads s)
    → Came (variable_read w s) old (Ok read) new
read_came w s read old new e f = record { outcome = ap Ok e; uses = f }

pub lent_came : (w : World) (s : List Value) (old new : Noted) → list_all (is_read w) s ≡ true → new ≡ noted old (live_reads s)
    → Came (variable_read w s) old (Ok s) new
lent_came w s old new e f = record { outcome = ap Ok (sym (all_kept (is_read w) s e)); uses = f }

-- the variable at a position of two lists
pub left_variable : (xs ys : List (List Value)) (k : ℕ) (s : List Value) → slice_get xs k ≡ Some s → slice_index_or (xs ++ ys) k [] ≡ s
left_variable [] ys zero s e = cc
left_variable [] ys (suc k) s e = cc
left_variable (x ∷ xs) ys zero s e = cc
left_variable (x ∷ xs) ys (suc k) s e = left_variable xs ys k s e

own_variable : (xs : List (List Value)) (k : ℕ) (s : List Value) → slice_get xs k ≡ Some s → slice_index_or xs k [] ≡ s
own_variable [] zero s e = cc
own_variable [] (suc k) s e = cc
own_variable (x ∷ xs) zero s e = cc
own_variable (x ∷ xs) (suc k) s e = own_variable xs k s e

past_variable : (xs ys : List (List Value)) (k : ℕ) → length xs ≤ k → slice_index_or (xs ++ ys) k [] ≡ slice_index_or ys (k - length xs) []
past_variable [] ys k le = let e : k ≡ k - 0 = omega arith in ap (λ j. slice_index_or ys j []) e
past_variable (x ∷ xs) ys zero le = absurd (omega arith)
past_variable (x ∷ xs) ys (suc k) le =
    let e : k - length xs ≡ suc k - suc (length xs) = omega arith in past_variable xs ys k (omega arith) ∙ ap (λ j. slice_index_or ys j []) e

pub right_variable : (xs ys : List (List Value)) (k : ℕ) (s : List Value) → length xs ≤ k → slice_get ys (k - length xs) ≡ Some s
    → slice_index_or (xs ++ ys) k [] ≡ s
right_variable xs ys k s le e = past_variable xs ys k le ∙ own_variable ys (k - length xs) s e

none_past : (ys : List (List Value)) (k : ℕ) → length ys ≤ k → slice_index_or ys k [] ≡ []
none_past [] zero le = refl
none_past [] (suc k) le = refl
none_past (y ∷ ys) zero le = absurd (omega arith)
none_past (y ∷ ys) (suc k) le = none_past ys k (omega arith)

pub no_variable : (xs ys : List (List Value)) (k : ℕ) → length xs ≤ k → length ys ≤ k - length xs → slice_index_or (xs ++ ys) k [] ≡ []
no_variable xs ys k le lf = past_variable xs ys k le ∙ none_past ys (k - length xs) lf

pub nothing_read : (w : World) (old : Noted) → Came (variable_read w []) old (Ok []) old
nothing_read w old = record { outcome = refl; uses = refl }

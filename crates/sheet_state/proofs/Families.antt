-- Some objects of a set that are live, and all below them, by the rows.
use Rattle.std.proofs.Common.{◌≡◌, refl, sym, ap, ◌∙◌, ℕ, ◌<◌, zero, suc, Bool, true, false, List, [], ◌∷◌, arith, Option, Some, None, inl, inr}
use Rattle.std.specs.Prelude.{not, nat_lt, ◌&&◌, ◌||◌, is_some}
use Rattle.std.specs.List.{filter_map, AllByRecursion}
use Rattle.std.specs.Ordering.{is_eq, nat_cmp}
use Rattle.std.proofs.lemmas.Bool.{lt-ltb, ltb-true}
use Rattle.sheet_values.specs.Order.{value_cmp}
use Rattle.sheet_values.specs.Sets.{contains}
use Rattle.sheet_values.specs.declared.value.Value.{Value}
use Rattle.sheet_values.specs.declared.value.Value.TheVariants.{Truth, Number, Text, Object}
use Rattle.sheet_columns.specs.declared.tree.Node.{Node}
use Rattle.sheet_state_rows.specs.Rows.{Table}
use Rattle.sheet_meaning.specs.Changes.{has_number, has_parent_in, is_other, without}
use Rattle.sheet_meaning.specs.Formula.{object_in}
use Rattle.sheet_meaning.specs.Workbook.{object_at}
use Rattle.sheet_meaning.specs.declared.workbook.LiveObject.{LiveObject}
use Rattle.sheet_meaning.proofs.Members.{IsIn, both_true}
use Rattle.sheet_state_references.specs.Below.{GoesDown, AreFamilies, has}
use Rattle.sheet_state_references.proofs.Numbers.{ties, ties_turned}
use Rattle.sheet_state.specs.Stored.{IsMoment}
use Rattle.sheet_state.specs.Places.{AreSmall, AreObjects}
use Rattle.sheet_state.specs.Removals.{without_all, AreLive}
use Rattle.sheet_state.specs.Rows.{objects_in, state_of, moment, IsSound}
use Rattle.sheet_state.proofs.Existing.{live_in}
use Rattle.sheet_state.proofs.Family.{Knows}
use Rattle.sheet_state.proofs.Relatives.{lower}
use Rattle.sheet_state.proofs.Removed.{Passes, AreGone, some_is, removed}
use Rattle.sheet_state.proofs.Rid.{MayGo}
use Rattle.sheet_state.proofs.Underneath.{all_in, up_child, down_child}
use Rattle.sheet_state.proofs.Without.{IsDown}

-- the numbers of the objects of a set
pub numbers : (vs : List Value) (n : ℕ) → has_number (filter_map object_in vs) n ≡ contains (Object n) vs
numbers [] n = refl
numbers (Truth b ∷ vs) n = numbers vs n
numbers (Number k ∷ vs) n = numbers vs n
numbers (Text t ∷ vs) n = numbers vs n
numbers (Object m ∷ vs) n =
    ap (λ b. b || has_number (filter_map object_in vs) n) (sym (ties_turned n m ∙ ties m n))
    ∙ ap (λ b. is_eq (value_cmp (Object n) (Object m)) || b) (numbers vs n)

above_zero : (m : ℕ) → is_eq (nat_cmp 0 m) ≡ false → 0 < m
above_zero zero e = cc
above_zero (suc m) e = omega arith

neither : (a b : Bool) → (a || b) ≡ false → (a ≡ false) × (b ≡ false)
neither true b e = cc
neither false b e = (refl, e)

all_positive : (vs : List Value) → contains (Object 0) vs ≡ false → AllByRecursion (λ o. 0 < o) (filter_map object_in vs)
all_positive [] e = tt
all_positive (Truth b ∷ vs) e = all_positive vs e
all_positive (Number k ∷ vs) e = all_positive vs e
all_positive (Text t ∷ vs) e = all_positive vs e
all_positive (Object m ∷ vs) e = let h = neither (is_eq (nat_cmp 0 m)) (contains (Object 0) vs) e in (above_zero m h.0, all_positive vs h.1)

all_from : {A : Type 0} (P : A → Type 0) (xs : List A) → ((x : A) → IsIn x xs → P x) → AllByRecursion P xs
all_from P [] h = tt
all_from P (x ∷ xs) h = (h x (inl refl), all_from P xs (λ y i. h y (inr i)))

same_object : (n m : ℕ) → Object n ≡ Object m → n ≡ m
same_object n m e = cc

module _ (nodes : List Node) (t : Table) (sound : IsSound t) (m : IsMoment nodes (moment t)) (set : List Value) (no_root : contains (Object
    0) set ≡ false) (starts : List ℕ) (live : AreLive (objects_in t.objects) set starts) (d : List Value) (f : AreFamilies t.extents (λ n. has n starts) d) where
  abbrev xs : List LiveObject
  xs = objects_in t.objects

  abbrev os : List ℕ
  os = filter_map object_in set

  abbrev pub gone : List ℕ
  gone = filter_map object_in d

  goes_down : (q : ℕ → Bool) → ((x : LiveObject) → IsIn x xs → Passes q x) → GoesDown t.extents q
  goes_down q pass p n h u =
      let k = up_child t sound p n u in
      ap q (sym k.number) ∙ pass k.object k.is_there p k.parent h

  started : (n : ℕ) → has n starts ≡ true → (contains (Object n) set ≡ true) × (is_some (object_at xs n) ≡ true)
  started n h = both_true (contains (Object n) set) (is_some (object_at xs n)) (sym (live n) ∙ h)

  pub only : AreObjects d
  only v e = let w = f.least (λ n. true) (λ n h. refl) (λ p n h u. refl) v e in (w.0, w.1)

  -- each was drawn
  drawn : (n : ℕ) → contains (Object n) d ≡ true → n < t.counters.next
  drawn n e =
      let w = f.least (λ j. nat_lt j t.counters.next) (λ j s. begins j (started j s).1) (goes_down (λ j. nat_lt j t.counters.next) (λ x i p up h. step x i))
      (Object n) e in
      let same = same_object n w.0 w.1 in
      let lt = ltb-true w.0 t.counters.next w.2 in
      omega (arith, same, lt)
    where
      step : (x : LiveObject) → IsIn x xs → nat_lt x.number t.counters.next ≡ true
      step x i = lt-ltb x.number t.counters.next (all_in (λ (y : LiveObject). y.number < t.counters.next) xs x m.well_formed.drawn i)

      begins : (j : ℕ) → is_some (object_at xs j) ≡ true → nat_lt j t.counters.next ≡ true
      begins j s =
          let x = some_is (object_at xs j) s in
          let l = live_in xs j x.0 x.1 in
          ap (λ k. nat_lt k t.counters.next) (sym l.1) ∙ step x.0 l.0

  pub small : AreSmall d
  small n e =
      let lt = drawn n e in
      let few = m.well_formed.few_numbers in
      omega arith

  down : AllByRecursion (IsDown gone) xs
  down = all_from (IsDown gone) xs (λ x i h. at x i x.parent refl h)
    where
      at : (x : LiveObject) → IsIn x xs → (p : Option ℕ) → x.parent ≡ p → has_parent_in gone p ≡ true → has_number gone x.number ≡ true
      at x i None up h = cc
      at x i (Some p) up h = numbers d x.number ∙ f.down p x.number (sym (numbers d p) ∙ h) (down_child t sound x p i up)

  root_stays : has_number gone 0 ≡ false
  root_stays = at (has_number gone 0) refl
    where
      step : (x : LiveObject) → IsIn x xs → (p : ℕ) → x.parent ≡ Some p → nat_lt 0 x.number ≡ true
      step x i p up = let less = lower nodes t sound m x p i up in lt-ltb 0 x.number (omega arith)

      positive : (n : ℕ) → contains (Object n) set ≡ true → nat_lt 0 n ≡ true
      positive zero e = let clash : true ≡ false = sym e ∙ no_root in absurd cc
      positive (suc n) e = lt-ltb 0 (suc n) (omega arith)

      at : (b : Bool) → has_number gone 0 ≡ b → has_number gone 0 ≡ false
      at false e = e
      at true e =
          let w = f.least (nat_lt 0) (λ n s. positive n (started n s).0) (goes_down (nat_lt 0) (λ x i p up h. step x i p up)) (Object 0)
          (sym (numbers d 0) ∙ e) in
          let same = same_object 0 w.0 w.1 in
          let lt = ltb-true 0 w.0 w.2 in
          absurd (omega (arith, same, lt))

  known : Knows d gone
  known = record { holds = holds }
    where
      none : (v : Value) → ((n : ℕ) → v ≡ Object n → ⊥) → (b : Bool) → contains v d ≡ b → contains v d ≡ false
      none v other true e = let w = only v e in absurd (other w.0 w.1)
      none v other false e = e

      twice : (b : Bool) → b ≡ not (not b)
      twice true = refl
      twice false = refl

      holds : (v : Value) → contains v d ≡ not (is_other gone v)
      holds (Truth b) = none (Truth b) (λ n e. cc) (contains (Truth b) d) refl
      holds (Number k) = none (Number k) (λ n e. cc) (contains (Number k) d) refl
      holds (Text s) = none (Text s) (λ n e. cc) (contains (Text s) d) refl
      holds (Object n) = sym (numbers d n) ∙ twice (has_number gone n)

  pub may_go : MayGo t d gone
  may_go = record { known = known; down = down; root = root_stays }

  are_gone : AreGone (state_of t) os gone
  are_gone = record {
    first = λ o h l.
        numbers d o
        ∙ f.first o (live o ∙ ap (λ b. b && is_some (object_at xs o)) (sym (numbers set o) ∙ h) ∙ l);
    down = down;
    least = λ q e pass n h.
        let w = f.least q (λ j s. let b = started j s in e j (numbers set j ∙ b.0) b.1) (goes_down q (λ x i. all_in (Passes q) xs x pass i)) (Object n)
        (sym (numbers d n) ∙ h) in
        ap q (same_object n w.0 w.1) ∙ w.2;
  }

  -- what is left is the state without the objects of the set, one after another
  pub all_removed : without_all (state_of t) set ≡ without (state_of t) gone
  all_removed = removed nodes os (state_of t) m.well_formed gone (all_positive set no_root) are_gone

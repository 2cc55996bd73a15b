-- Elements that change one after another, at places that rise, where all others stay as they are.
use Rattle.std.proofs.Common.{◌≡◌, refl, sym, ap, ◌∙◌, ℕ, ◌+◌, ◌-◌, ◌<◌, ◌≤◌, zero, suc, Bool, true, false, List, [], ◌∷◌, ◌++◌, length, take, drop, get_or}
use Rattle.std.proofs.Common.{arith, add-one, eq-eqb}
use Rattle.std.specs.Prelude.{map, fold, slice_set, sum_by, nat_lt, if◌then◌else◌}
use Rattle.std.specs.List.{All, AllByRecursion, flat_map}
use Rattle.std.specs.Ordering.{is_eq, nat_cmp}
use Rattle.std.specs.declared.cmp.Ordering.TheVariants.{Less}
use Rattle.std.proofs.lemmas.Bool.{eqb-true}
use Rattle.std.proofs.lemmas.List.{take_more, take_all, drop_all, append-nil, set-get_or}
use Rattle.std.proofs.lemmas.List.Sums.{fold-append, sum_by-cons}
use Rattle.std.specs.Prelude.{◌==◌, ◌||◌}
use Rattle.sheet_state_references.specs.Below.{has}
use Rattle.sheet_state_references.proofs.Numbers.{ties}
use Rattle.sheet_values.specs.Sets.{contains}
use Rattle.sheet_values.specs.declared.value.Value.{Value}
use Rattle.sheet_values.specs.declared.value.Value.TheVariants.{Object}
use Rattle.sheet_columns.specs.declared.item.Item.{Item}
use Rattle.sheet_columns.specs.declared.item.Item.TheVariants.{Extent, Stored}
use Rattle.sheet_columns.specs.declared.tree.Node.{Node}
use Rattle.sheet_state_rows.specs.declared.row.ObjectRow.{ObjectRow}
use Rattle.sheet_state_rows.specs.declared.row.SetRow.{SetRow}
use Rattle.sheet_meaning.specs.WellFormed.{state_columns}
use Rattle.sheet_meaning.proofs.Members.{both_true}
use Rattle.sheet_state.specs.Births.{with_items, formula_columns}
use Rattle.sheet_state.specs.Deaths.{is_doomed, buried, swept, swept_items, lost, lost_objects, lost_cells}
use Rattle.sheet_state.specs.Stored.{schema_of}
use Rattle.sheet_state.specs.Places.{Fits}
use Rattle.sheet_state_references.proofs.Searched.{right, nat_less}

-- a number ties with no other
apart_from : (a b : ℕ) → (a ≡ b → ⊥) → is_eq (nat_cmp a b) ≡ false
apart_from a b ne = ties a b ∙ (elim (a == b) as (λ t. (a == b) ≡ t → t ≡ false) [ true ↦ λ e. absurd (ne (eqb-true a b e)) | false ↦ λ e. refl ] refl)

-- what holds of each place holds of each in turn
pub each_above : (m : ℕ) (ps : List ℕ) → All (λ p. nat_cmp m p ≡ Less) ps → AllByRecursion (λ p. m < p) ps
each_above m [] all = tt
each_above m (p ∷ ps) all = (nat_less m p (all 0 m (omega arith)), each_above m ps (λ j d lt. all (suc j) d (omega arith)))

-- the first k changed, the others not yet
abbrev pub partly : {A : Type 0} → (A → A) → List A → ℕ → List A
partly f xs k = map f (take k xs) ++ drop k xs

module _ {A S : Type 0} (f : A → A) (acc : S → A → S) (quiet : (s : S) (x : A) → f x ≡ x → acc s x ≡ s) where
  partly_got : (xs : List A) (k : ℕ) (d : A) → get_or (partly f xs k) k d ≡ get_or xs k d
  partly_got [] zero d = refl
  partly_got [] (suc k) d = refl
  partly_got (x ∷ xs) zero d = refl
  partly_got (x ∷ xs) (suc k) d = partly_got xs k d

  partly_next : (xs : List A) (k : ℕ) (d : A) → k < length xs → slice_set (partly f xs k) k (f (get_or xs k d)) ≡ partly f xs (suc k)
  partly_next [] k d lt = absurd (omega arith)
  partly_next (x ∷ xs) zero d lt = refl
  partly_next (x ∷ xs) (suc k) d lt = ap (λ l. f x ∷ l) (partly_next xs k d (omega arith))

  total_next : (s : S) (xs : List A) (k : ℕ) (d : A) → k < length xs → acc (fold acc s (take k xs)) (get_or xs k d) ≡ fold acc s (take (suc k) xs)
  total_next s xs k d lt =
      sym (ap (fold acc s) (ap (λ n. take n xs) (sym (add-one k)) ∙ take_more xs k d lt) ∙ fold-append acc s (take k xs) (get_or xs k d ∷ []))

  -- an element that stays as it is, is as if it had been changed
  skip_rows : (xs : List A) (k : ℕ) (d : A) → k < length xs → f (get_or xs k d) ≡ get_or xs k d → partly f xs k ≡ partly f xs (suc k)
  skip_rows xs k d lt same =
      sym (set-get_or (partly f xs k) k d)
      ∙ ap (slice_set (partly f xs k) k) (partly_got xs k d ∙ sym same)
      ∙ partly_next xs k d lt

  skip_total : (s : S) (xs : List A) (k : ℕ) (d : A) → k < length xs → f (get_or xs k d) ≡ get_or xs k d → fold acc s (take k xs) ≡ fold acc s (take (suc k) xs)
  skip_total s xs k d lt same = sym (quiet (fold acc s (take k xs)) (get_or xs k d) same) ∙ total_next s xs k d lt

  -- all between two places stay as they are
  abbrev pub StayBetween : List A → ℕ → ℕ → Type 0
  StayBetween xs q p = (k : ℕ) (d : A) → q ≤ k → k < p → f (get_or xs k d) ≡ get_or xs k d

  skip_far : (s : S) (xs : List A) (d : A) (q n : ℕ) → q + n ≤ length xs → StayBetween xs q (q + n) →
      (partly f xs q ≡ partly f xs (q + n)) × (fold acc s (take q xs) ≡ fold acc s (take (q + n) xs))
  skip_far s xs d q zero fits stay = let e : q ≡ q + 0 = omega arith in (ap (partly f xs) e, ap (λ k. fold acc s (take k xs)) e)
  skip_far s xs d q (suc n) fits stay =
      let rest = skip_far s xs d q n (omega arith) (λ k e lo hi. stay k e lo (omega arith)) in
      let lt : q + n < length xs = omega arith in
      let same = stay (q + n) d (omega arith) (omega arith) in
      let e : suc (q + n) ≡ q + suc n = omega arith in (
        rest.0 ∙ skip_rows xs (q + n) d lt same ∙ ap (partly f xs) e,
        rest.1 ∙ skip_total s xs (q + n) d lt same ∙ ap (λ k. fold acc s (take k xs)) e,
      )

  skip : (s : S) (xs : List A) (d : A) (q p : ℕ) → q ≤ p → p ≤ length xs → StayBetween xs q p →
      (partly f xs q ≡ partly f xs p) × (fold acc s (take q xs) ≡ fold acc s (take p xs))
  skip s xs d q p le fits stay =
      let e : q + (p - q) ≡ p = omega arith in
      let far = skip_far s xs d q (p - q) (omega arith) (λ k c lo hi. stay k c lo (omega arith)) in
      (far.0 ∙ ap (partly f xs) e, far.1 ∙ ap (λ k. fold acc s (take k xs)) e)

  -- all before a place have changed, and what is still to be visited lies behind it
  pub record Visited (xs ys : List A) (s t : S) (rest : List ℕ) : Type 0 where
    pub upto : ℕ
    pub rows : ys ≡ partly f xs upto
    pub total : t ≡ fold acc s (take upto xs)
    pub fits : upto ≤ length xs
    pub ahead : AllByRecursion (λ p. upto ≤ p) rest
    pub others : (k : ℕ) (d : A) → upto ≤ k → k < length xs → has k rest ≡ false → f (get_or xs k d) ≡ get_or xs k d

  pub starts : (xs : List A) (s : S) (places : List ℕ) → ((k : ℕ) (d : A) → k < length xs → has k places ≡ false → f (get_or xs k d) ≡ get_or xs k d) →
      Visited xs xs s s places
  starts xs s places others = record {
    upto = 0;
    rows = refl;
    total = refl;
    fits = omega arith;
    ahead = all places;
    others = λ k d lo hi out. others k d hi out;
  }
    where
      all : (ps : List ℕ) → AllByRecursion (λ p. 0 ≤ p) ps
      all [] = tt
      all (p ∷ ps) = (omega arith, all ps)

  not_among : (k : ℕ) (ps : List ℕ) → AllByRecursion (λ p. k < p) ps → has k ps ≡ false
  not_among k [] h = refl
  not_among k (p ∷ ps) h = ap (λ b. b || has k ps) (let lt = h.0 in apart_from k p (λ e. omega arith)) ∙ not_among k ps h.1

  -- a turn at the first place
  pub turn : (xs ys : List A) (s t : S) (p : ℕ) (rest : List ℕ) (d : A) → AllByRecursion (λ n. p < n) rest → p < length xs → Visited xs ys s t (p ∷ rest) →
      Visited xs (slice_set ys p (f (get_or ys p d))) s (acc t (get_or ys p d)) rest
  turn xs ys s t p rest d above lt v =
      let le = v.ahead.0 in
      let far = skip s xs d v.upto p le (omega arith) (λ k e lo hi. v.others k e lo (omega arith) (not_among k (p ∷ rest) (hi, lower k hi rest above))) in
      let rows : ys ≡ partly f xs p = v.rows ∙ far.0 in
      let got : get_or ys p d ≡ get_or xs p d = ap (λ l. get_or l p d) rows ∙ partly_got xs p d in
      record {
        upto = suc p;
        rows = ap (λ x. slice_set ys p (f x)) got ∙ ap (λ l. slice_set l p (f (get_or xs p d))) rows ∙ partly_next xs p d lt;
        total = ap (acc t) got ∙ ap (λ u. acc u (get_or xs p d)) (v.total ∙ far.1) ∙ total_next s xs p d lt;
        fits = omega arith;
        ahead = next rest above;
        others = λ k e lo hi out. v.others k e (omega arith) hi (ap (λ b. b || has k rest) (apart_from k p (λ same. omega arith)) ∙ out);
      }
    where
      lower : (k : ℕ) → k < p → (ns : List ℕ) → AllByRecursion (λ n. p < n) ns → AllByRecursion (λ n. k < n) ns
      lower k hi [] h = tt
      lower k hi (n ∷ ns) h = (let a = h.0 in omega arith, lower k hi ns h.1)

      next : (ns : List ℕ) → AllByRecursion (λ n. p < n) ns → AllByRecursion (λ n. suc p ≤ n) ns
      next [] h = tt
      next (n ∷ ns) h = (let a = h.0 in omega arith, next ns h.1)

  -- all have changed where no place is left
  pub ends : (xs ys : List A) (s t : S) (d : A) → Visited xs ys s t [] → (ys ≡ map f xs) × (t ≡ fold acc s xs)
  ends xs ys s t d v =
      let far = skip s xs d v.upto (length xs) v.fits (omega arith) (λ k e lo hi. v.others k e lo hi refl) in (
        v.rows ∙ far.0 ∙ ap (λ l. map f l ++ drop (length xs) xs) (take_all (length xs) xs (omega arith))
            ∙ ap (λ l. map f xs ++ l) (drop_all (length xs) xs (omega arith)) ∙ append-nil (map f xs),
        v.total ∙ far.1 ∙ ap (fold acc s) (take_all (length xs) xs (omega arith)),
      )

-- what is told of rows that change, and how much two counts lose
pub record Totals : Type 0 where
  pub items : List Item
  pub first : ℕ
  pub second : ℕ

abbrev pub totals : List Item → ℕ → ℕ → Totals
totals items n m = record { items = items; first = n; second = m }

-- with what is told of one row
abbrev pub with_row : {A : Type 0} → (A → List Item) → (A → ℕ) → (A → ℕ) → Totals → A → Totals
with_row f g h s x = totals (with_items s.items (f x)) (s.first - g x) (s.second - h x)

-- nothing is told of a row
pub told_nothing : {A : Type 0} (f : A → List Item) (g h : A → ℕ) (s : Totals) (x : A) → f x ≡ [] → g x ≡ 0 → h x ≡ 0 → with_row f g h s x ≡ s
told_nothing f g h s x none first second =
    ap (λ l. totals (with_items s.items l) (s.first - g x) (s.second - h x)) none
    ∙ ap (λ n. totals s.items (s.first - n) (s.second - h x)) first
    ∙ ap (λ n. totals s.items (s.first - 0) (s.second - n)) second
    ∙ ap (λ n. totals s.items n (s.second - 0)) (let z : s.first - 0 ≡ s.first = omega arith in z)
    ∙ ap (λ n. totals s.items s.first n) (let z : s.second - 0 ≡ s.second = omega arith in z)

-- what is told of all rows
pub all_told : {A : Type 0} (f : A → List Item) (g h : A → ℕ) (xs : List A) (items : List Item) (n m : ℕ) →
    fold (with_row f g h) (totals items n m) xs ≡ totals (with_items items (flat_map f xs)) (n - sum_by g xs) (m - sum_by h xs)
all_told f g h [] items n m =
    ap (λ k. totals items k m) (let z : n ≡ n - 0 = omega arith in z) ∙ ap (λ k. totals items (n - 0) k) (let z : m ≡ m - 0 = omega arith in z)
all_told f g h (x ∷ xs) items n m =
    all_told f g h xs (with_items items (f x)) (n - g x) (m - h x)
    ∙ ap (λ l. totals l ((n - g x) - sum_by g xs) ((m - h x) - sum_by h xs)) (sym (fold-append _ items (f x) (flat_map f xs)))
    ∙ ap (λ k. totals (with_items items (f x ++ flat_map f xs)) k ((m - h x) - sum_by h xs)) (let one = sum_by-cons g x xs in
    let z : (n - g x) - sum_by g xs ≡ n - sum_by g (x ∷ xs) = omega arith in z)
    ∙ ap (λ k. totals (with_items items (f x ++ flat_map f xs)) (n - sum_by g (x ∷ xs)) k) (let one = sum_by-cons h x xs in
    let z : (m - h x) - sum_by h xs ≡ m - sum_by h (x ∷ xs) = omega arith in z)

-- none waits where none comes
pub none_waits : (ks : List ℕ) → (0 < length ks → ⊥) → ks ≡ []
none_waits [] h = refl
none_waits (k ∷ ks) h = absurd (h (omega arith))

pub fits_rest : (n p : ℕ) (ks rest : List ℕ) → ks ≡ p ∷ rest → Fits n ks → (p < n) × Fits n rest
fits_rest n p ks rest is fits = (
  fits p (ap (has p) is ∙ ap (λ b. b || has p rest) (ties p p ∙ eq-eqb p p refl)),
  λ k h. fits k (ap (has k) is ∙ right (is_eq (nat_cmp k p)) (has k rest) h),
)

none_lost : (d : List Value) (r : SetRow) → swept d r ≡ r → lost d r ≡ 0
none_lost d r e = ap (λ (q : SetRow). length r.set - length q.set) e ∙ (let z : length r.set - length r.set ≡ 0 = omega arith in z)

none_told : (item : ℕ → ℕ → Item) (d : List Value) (r : SetRow) → swept d r ≡ r → swept_items item d r ≡ []
none_told item d r e = ap (λ n. if nat_lt 0 n then item r.object r.column ∷ [] else []) (none_lost d r e)

pub quiet_cell : (d : List Value) (s : Totals) (r : SetRow) → swept d r ≡ r → with_row (swept_items Stored d) (lost d) (λ q. 0) s r ≡ s
quiet_cell d s r e = told_nothing (swept_items Stored d) (lost d) (λ q. 0) s r (none_told Stored d r e) (none_lost d r e) refl

pub quiet_extent : (d : List Value) (s : Totals) (r : SetRow) → swept d r ≡ r → with_row (swept_items Extent d) (λ q. 0) (λ q. 0) s r ≡ s
quiet_extent d s r e = told_nothing (swept_items Extent d) (λ q. 0) (λ q. 0) s r (none_told Extent d r e) refl refl

alive : (d : List Value) (r : ObjectRow) → buried d r ≡ r → is_doomed d r ≡ false
alive d r e = at (is_doomed d r) refl
  where
    at : (b : Bool) → is_doomed d r ≡ b → is_doomed d r ≡ false
    at false h = h
    at true h =
        let gone : r.live ≡ false = ap (λ (q : ObjectRow). q.live) (sym e ∙ ap (λ b. if b then record r { live = false } else r) h) in
        let live = (both_true r.live (contains (Object r.number) d) h).0 in
        cc

pub quiet_object : (nodes : List Node) (d : List Value) (s : Totals) (r : ObjectRow) → buried d r ≡ r →
    with_row (λ q. []) (lost_objects d) (lost_cells nodes d) s r ≡ s
quiet_object nodes d s r e =
    let a = alive d r e in
    told_nothing (λ q. []) (lost_objects d) (lost_cells nodes d) s r refl
    (ap (λ b. if b then 1 else 0) a)
    (ap (λ b. if b then length (state_columns (schema_of nodes) r.column) + length (formula_columns nodes r.column) else 0) a)

pub length_set : {A : Type 0} (xs : List A) (k : ℕ) (x : A) → length (slice_set xs k x) ≡ length xs
length_set [] k x = refl
length_set (y ∷ ys) zero x = refl
length_set (y ∷ ys) (suc k) x = ap suc (length_set ys k x)

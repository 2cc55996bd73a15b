-- Lists of cells in order.
use Rattle.std.proofs.Common.{◌≡◌, refl, sym, ap, ◌∙◌, subst, Bool, true, false, List, [], ◌∷◌, ⊎_elim, inl, inr}
use Rattle.std.specs.Prelude.{◌||◌, filter, find, cond, if◌then◌else◌, Option, Some, None}
use Rattle.std.specs.BTreeSet.{insert_key}
use Rattle.std.specs.Cmp.{IsTotalOrder, then_total, on_total, nat_cmp_total, tied_itself}
use Rattle.std.specs.FinMap.{nat_cmp-IsAntisymmetric}
use Rattle.std.specs.Ordering.{is_eq, nat_cmp, ordering_reverse, ordering_then, match_ordering}
use Rattle.std.specs.declared.cmp.Ordering.{Ordering}
use Rattle.std.specs.declared.cmp.Ordering.TheVariants.{Less, Equal, Greater}
use Rattle.sheet_values.specs.Sorted.{IsBelow, IsRising, contains, insert, by_order}
use Rattle.sheet_columns.specs.Cells.{Cell}
use Rattle.sheet_meaning.proofs.Members.{IsIn}
use Rattle.sheet_procs_touched.specs.Touched.{cell_cmp}

pub cell_total : IsTotalOrder cell_cmp
cell_total = then_total (on_total (λ (x : Cell). x.0) nat_cmp_total) (on_total (λ (x : Cell). x.1) nat_cmp_total)

first_tied : (r s : Ordering) → ordering_then r s ≡ Equal → (r ≡ Equal) × (s ≡ Equal)
first_tied Less s e = cc
first_tied Equal s e = (refl, e)
first_tied Greater s e = cc

pub cell_same : (x y : Cell) → cell_cmp x y ≡ Equal → x ≡ y
cell_same x y e =
    let p = first_tied (nat_cmp x.0 y.0) (nat_cmp x.1 y.1) e in
    ap (λ n. (n, x.1)) (nat_cmp-IsAntisymmetric x.0 y.0 p.0) ∙ ap (λ n. (y.0, n)) (nat_cmp-IsAntisymmetric x.1 y.1 p.1)

tie : (r : Ordering) → is_eq r ≡ true → r ≡ Equal
tie Less e = cc
tie Equal e = refl
tie Greater e = cc

-- the same test, by what each says of the other
pub both_ways : (a b : Bool) → (a ≡ true → b ≡ true) → (b ≡ true → a ≡ true) → a ≡ b
both_ways true b f g = sym (f refl)
both_ways false true f g = g refl
both_ways false false f g = refl

pub has_itself : (x : Cell) (xs : List Cell) → contains cell_cmp x (x ∷ xs) ≡ true
has_itself x xs = ap (λ r. is_eq r || contains cell_cmp x xs) (tied_itself cell_total x)

pub has_behind : (x y : Cell) (xs : List Cell) → contains cell_cmp x xs ≡ true → contains cell_cmp x (y ∷ xs) ≡ true
has_behind x y xs h = elim (is_eq (cell_cmp x y)) as (λ b. (b || contains cell_cmp x xs) ≡ true) [ true ↦ refl | false ↦ h ]

pub from_has : (x : Cell) (xs : List Cell) → contains cell_cmp x xs ≡ true → IsIn x xs
from_has x [] h = cc
from_has x (y ∷ ys) h =
    elim (is_eq (cell_cmp x y)) as (λ b. is_eq (cell_cmp x y) ≡ b → (b || contains cell_cmp x ys) ≡ true → IsIn x (y ∷ ys)) [
      | true ↦ λ e k. inl (cell_same x y (tie (cell_cmp x y) e))
      | false ↦ λ e k. inr (from_has x ys k)
    ] refl h

pub to_has : (x : Cell) (xs : List Cell) → IsIn x xs → contains cell_cmp x xs ≡ true
to_has x [] h = absurd h
to_has x (y ∷ ys) h =
    ⊎_elim (λ e. subst (λ z. contains cell_cmp x (z ∷ ys) ≡ true) e (has_itself x ys)) (λ k. has_behind x y ys (to_has x ys k)) h

-- what a set's keys are with one more
pub keys_insert : (x : Cell) (xs : List Cell) → insert_key cell_cmp xs x ≡ insert cell_cmp x xs
keys_insert x [] = refl
keys_insert x (y ∷ ys) =
    elim (cell_cmp x y) as (λ r. match_ordering r (x ∷ y ∷ ys) (y ∷ ys) (y ∷ insert_key cell_cmp ys x) ≡ by_order r (x ∷ y ∷ ys) (y ∷ ys)
    (y ∷ insert cell_cmp x ys)) [
      | Less ↦ refl
      | Equal ↦ refl
      | Greater ↦ ap (λ l. y ∷ l) (keys_insert x ys)
    ]

pub inserted : (x : Cell) (xs : List Cell) → contains cell_cmp x (insert cell_cmp x xs) ≡ true
inserted x [] = has_itself x []
inserted x (y ∷ ys) =
    elim (cell_cmp x y)
    as (λ o. cell_cmp x y ≡ o → contains cell_cmp x (by_order o (x ∷ y ∷ ys) (y ∷ ys) (y ∷ insert cell_cmp x ys)) ≡ true) [
      | Less ↦ λ e. has_itself x (y ∷ ys)
      | Equal ↦ λ e. ap (λ r. is_eq r || contains cell_cmp x ys) e
      | Greater ↦ λ e. has_behind x y (insert cell_cmp x ys) (inserted x ys)
    ] refl

grown : (x y : Cell) (xs ys : List Cell) → (contains cell_cmp x xs ≡ true → contains cell_cmp x ys ≡ true) → contains cell_cmp x (y ∷ xs) ≡ true →
    contains cell_cmp x (y ∷ ys) ≡ true
grown x y xs ys g h =
    elim (is_eq (cell_cmp x y)) as (λ b. (b || contains cell_cmp x xs) ≡ true → (b || contains cell_cmp x ys) ≡ true) [ true ↦ λ e. refl | false ↦ g ] h

pub stays : (x y : Cell) (xs : List Cell) → contains cell_cmp x xs ≡ true → contains cell_cmp x (insert cell_cmp y xs) ≡ true
stays x y [] h = cc
stays x y (z ∷ zs) h =
    elim (cell_cmp y z) as (λ o. contains cell_cmp x (by_order o (y ∷ z ∷ zs) (z ∷ zs) (z ∷ insert cell_cmp y zs)) ≡ true) [
      | Less ↦ has_behind x y (z ∷ zs) h
      | Equal ↦ h
      | Greater ↦ grown x z zs (insert cell_cmp y zs) (stays x y zs) h
    ]

below_chain : (x y : Cell) (ys : List Cell) → cell_cmp x y ≡ Less → IsBelow cell_cmp y ys → IsBelow cell_cmp x ys
below_chain x y [] lt b = tt
below_chain x y (z ∷ ys) lt b = (cell_total.trans x y z lt b.0, below_chain x y ys lt b.1)

not_below : (x : Cell) (ys : List Cell) → IsBelow cell_cmp x ys → contains cell_cmp x ys ≡ false
not_below x [] b = refl
not_below x (y ∷ ys) b = ap (λ r. is_eq r || contains cell_cmp x ys) b.0 ∙ not_below x ys b.1

-- lists in order with the same cells are the same
pub same_rising : (xs ys : List Cell) → IsRising cell_cmp xs → IsRising cell_cmp ys → ((x : Cell) → contains cell_cmp x xs ≡ contains cell_cmp x ys) → xs ≡ ys
same_rising [] [] r s same = refl
same_rising [] (y ∷ ys) r s same = let no : false ≡ true = same y ∙ has_itself y ys in cc
same_rising (x ∷ xs) [] r s same = let no : false ≡ true = sym (same x) ∙ has_itself x xs in cc
same_rising (x ∷ xs) (y ∷ ys) r s same =
    elim (cell_cmp x y) as (λ o. cell_cmp x y ≡ o → x ∷ xs ≡ y ∷ ys) [
      | Less ↦ λ e.
          let none : contains cell_cmp x (y ∷ ys) ≡ false = not_below x (y ∷ ys) (e, below_chain x y ys e s.0) in
          let no : true ≡ false = sym (has_itself x xs) ∙ same x ∙ none in
          cc
      | Equal ↦ λ e.
          let head : x ≡ y = cell_same x y e in
          let above : IsBelow cell_cmp x ys = subst (λ z. IsBelow cell_cmp z ys) (sym head) s.0 in
          ap (λ l. x ∷ l) (same_rising xs ys r.1 s.1 (λ z. rest head above z)) ∙ ap (λ z. z ∷ ys) head
      | Greater ↦ λ e.
          let less : cell_cmp y x ≡ Less = cell_total.antisymm y x ∙ ap ordering_reverse e in
          let none : contains cell_cmp y (x ∷ xs) ≡ false = not_below y (x ∷ xs) (less, below_chain y x xs less r.0) in
          let no : true ≡ false = sym (has_itself y ys) ∙ sym (same y) ∙ none in
          cc
    ] refl
  where
    rest : x ≡ y → IsBelow cell_cmp x ys → (z : Cell) → contains cell_cmp z xs ≡ contains cell_cmp z ys
    rest head above z =
        let same_z : contains cell_cmp z (x ∷ xs) ≡ contains cell_cmp z (x ∷ ys) = same z ∙ ap (λ w. contains cell_cmp z (w ∷ ys)) (sym head) in
        elim (is_eq (cell_cmp z x)) as (λ b. is_eq (cell_cmp z x) ≡ b → (b || contains cell_cmp z xs) ≡ (b || contains cell_cmp z ys) →
        contains cell_cmp z xs ≡ contains cell_cmp z ys) [
          | true ↦ λ t k.
              let is : z ≡ x = cell_same z x (tie (cell_cmp z x) t) in
              ap (λ w. contains cell_cmp w xs) is ∙ not_below x xs r.0 ∙ sym (not_below x ys above) ∙ ap (λ w. contains cell_cmp w ys) (sym is)
          | false ↦ λ t k. k
        ] refl same_z

abbrev pub head : {A : Type 0} → List A → Option A
head [] = None
head (x ∷ xs) = Some x

-- what is found first is the first of those that pass
pub find_head : {A : Type 0} (p : A → Bool) (xs : List A) → find p xs ≡ head (filter p xs)
find_head p [] = refl
find_head p (x ∷ xs) =
    elim (p x) as (λ b. (if b then Some x else find p xs) ≡ head (cond b (x ∷ filter p xs) (filter p xs))) [ true ↦ refl | false ↦ find_head p xs ]

pub filter_in : {A : Type 0} (p : A → Bool) (xs : List A) (x : A) → IsIn x (filter p xs) → IsIn x xs × (p x ≡ true)
filter_in p [] x h = absurd h
filter_in {A} p (y ∷ ys) x h =
    elim (p y) as (λ b. p y ≡ b → IsIn x (cond b (y ∷ filter p ys) (filter p ys)) → IsIn x (y ∷ ys) × (p x ≡ true)) [
      | true ↦ λ e k. ⊎_elim (λ same. (inl same, ap p same ∙ e)) (λ j. let r = filter_in p ys x j in (inr r.0, r.1)) k
      | false ↦ λ e k. let r = filter_in p ys x k in (inr r.0, r.1)
    ] refl h

pub in_filter : {A : Type 0} (p : A → Bool) (xs : List A) (x : A) → IsIn x xs → p x ≡ true → IsIn x (filter p xs)
in_filter p [] x h e = absurd h
in_filter {A} p (y ∷ ys) x h e =
    elim (p y) as (λ b. p y ≡ b → IsIn x (cond b (y ∷ filter p ys) (filter p ys))) [
      | true ↦ λ t. ⊎_elim (λ same. inl same) (λ j. inr (in_filter p ys x j e)) h
      | false ↦ λ t. ⊎_elim (λ same. let no : false ≡ true = sym t ∙ ap p (sym same) ∙ e in cc) (λ j. in_filter p ys x j e) h
    ] refl

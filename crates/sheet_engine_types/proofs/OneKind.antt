-- Sets of one type, made of others.
use Rattle.std.proofs.Common.{◌≡◌, refl, subst, inl, inr, ⊎_elim, ℕ, Bool, true, false, cond, List, [], ◌∷◌, ◌++◌, Option, Some, None}
use Rattle.std.specs.Prelude.{◌⊎◌, ◌==◌, fold, filter, zero, suc, slice_get, slice_index_or, if◌then◌else◌}
use Rattle.std.specs.List.{AllByRecursion}
use Rattle.std.specs.declared.cmp.Ordering.TheVariants.{Less, Equal, Greater}
use Rattle.std.proofs.lemmas.Bool.{eqb-true}
use Rattle.sheet_values.specs.Order.{value_cmp}
use Rattle.sheet_values.specs.OrderLaws.{value_total}
use Rattle.sheet_values.specs.Sets.{insert, union, contains}
use Rattle.sheet_values.specs.Sorted.{by_order, agrees}
use Rattle.sheet_values.proofs.Merging.{union_rising, filter_rising}
use Rattle.sheet_values.specs.declared.value.Kind.{Kind}
use Rattle.sheet_values.specs.declared.value.Kind.TheVariants as kind
use Rattle.sheet_values.specs.declared.value.Value.{Value}
use Rattle.sheet_values.specs.declared.value.Value.TheVariants.{Truth, Number, Text, Object}
use Rattle.sheet_columns.specs.declared.formula.SetOperator.{SetOperator}
use Rattle.sheet_columns.specs.declared.formula.SetOperator.TheVariants.{Union, Intersect, Except}
use Rattle.sheet_types_rules.specs.Formulas.{provided, all_common, ◌>>◌}
use Rattle.sheet_types_rules.specs.Kinds.{common}
use Rattle.sheet_meaning.specs.Formula.{Variables, combine}
use Rattle.sheet_meaning.specs.WellFormed.{HasKind}
use Rattle.sheet_meaning.specs.declared.workbook.State.{State}
use Rattle.sheet_engine_types.specs.Types.{IsSetOf, HasKindWhereLive, IsVariableOf, HaveKinds}
use Rattle.sheet_engine_types.proofs.Given.{all_more}

-- a step that gave something came from something
pub record Came {A B : Type 0} (o : Option A) (f : A → Option B) (y : B) : Type 0 where
  pub from : A
  pub is : o ≡ Some from
  pub gives : f from ≡ Some y

pub came : {A B : Type 0} (o : Option A) (f : A → Option B) (y : B) → (o >> f) ≡ Some y → Came o f y
came (Some a) f y got = record { from = a; is = refl; gives = got }
came None f y got = cc

-- a type that a test gave
pub passed : (b : Bool) (k m : Kind) → provided b k ≡ Some m → (b ≡ true) × (k ≡ m)
passed true k m got = (refl, let same : k ≡ m = cc in same)
passed false k m got = cc

-- one type stands for another: it is unknown, or the same
abbrev pub Becomes : Kind → Kind → Type 0
Becomes k m = (k ≡ kind.Unknown) ⊎ (k ≡ m)

-- two types that agree
pub record Agree (k l m : Kind) : Type 0 where
  pub left : Becomes k m
  pub right : Becomes l m

itself : (k l m : Kind) → Some k ≡ Some m → l ≡ k → Agree k l m
itself k l m got e = let same : k ≡ m = cc in record { left = inr same; right = inr (subst (λ x. l ≡ x) same e) }

left_only : (k m : Kind) → Some k ≡ Some m → Agree k kind.Unknown m
left_only k m got = let same : k ≡ m = cc in record { left = inr same; right = inl refl }

pub agree : (k l m : Kind) → common k l ≡ Some m → Agree k l m
agree kind.Unknown l m got = let same : l ≡ m = cc in record { left = inl refl; right = inr same }
agree kind.Truth kind.Unknown m got = left_only kind.Truth m got
agree kind.Truth kind.Truth m got = itself kind.Truth kind.Truth m got refl
agree kind.Truth kind.Number m got = cc
agree kind.Truth kind.Text m got = cc
agree kind.Truth (kind.Object d) m got = cc
agree kind.Number kind.Unknown m got = left_only kind.Number m got
agree kind.Number kind.Truth m got = cc
agree kind.Number kind.Number m got = itself kind.Number kind.Number m got refl
agree kind.Number kind.Text m got = cc
agree kind.Number (kind.Object d) m got = cc
agree kind.Text kind.Unknown m got = left_only kind.Text m got
agree kind.Text kind.Truth m got = cc
agree kind.Text kind.Number m got = cc
agree kind.Text kind.Text m got = itself kind.Text kind.Text m got refl
agree kind.Text (kind.Object d) m got = cc
agree (kind.Object c) kind.Unknown m got = left_only (kind.Object c) m got
agree (kind.Object c) kind.Truth m got = cc
agree (kind.Object c) kind.Number m got = cc
agree (kind.Object c) kind.Text m got = cc
agree (kind.Object c) (kind.Object d) m got =
    elim (c == d) as (λ b. (c == d) ≡ b → (if b then Some (kind.Object c) else None) ≡ Some m → Agree (kind.Object c) (kind.Object d) m) [
      | true ↦ λ e h. itself (kind.Object c) (kind.Object d) m h (subst (λ x. kind.Object x ≡ kind.Object c) (eqb-true c d e) refl)
      | false ↦ λ e h. cc
    ] refl got

module _ (s : State) where
  pub nothing_unknown : (v : Value) → HasKind s kind.Unknown v → ⊥
  nothing_unknown (Truth b) h = h
  nothing_unknown (Number n) h = h
  nothing_unknown (Text t) h = h
  nothing_unknown (Object o) h = h

  pub becomes : (k m : Kind) (set : List Value) → Becomes k m → IsSetOf s k set → IsSetOf s m set
  becomes k m set b h =
      ⊎_elim
      (λ e. (h.0, all_more (HasKind s k) (HasKind s m) (λ v g. absurd (nothing_unknown v (subst (λ x. HasKind s x v) e g))) set h.1))
      (λ e. subst (λ x. IsSetOf s x set) e h)
      b

  pub of_none : (k : Kind) → IsSetOf s k []
  of_none k = (tt, tt)

  pub of_one : (k : Kind) (v : Value) → HasKind s k v → IsSetOf s k (v ∷ [])
  of_one k v h = ((tt, tt), (h, tt))

  module _ (k : Kind) where
    abbrev All : List Value → Type 0
    All = AllByRecursion (HasKind s k)

    insert_all : (x : Value) (xs : List Value) → HasKind s k x → All xs → All (insert x xs)
    insert_all x [] h g = (h, tt)
    insert_all x (y ∷ ys) h g =
        elim (value_cmp x y) as (λ o. All (by_order o (x ∷ y ∷ ys) (y ∷ ys) (y ∷ insert x ys))) [
          | Less ↦ (h, g)
          | Equal ↦ g
          | Greater ↦ (g.0, insert_all x ys h g.1)
        ]

    union_all : (xs ys : List Value) → All xs → All ys → All (union xs ys)
    union_all [] ys h g = g
    union_all (x ∷ xs) ys h g = insert_all x (union xs ys) h.0 (union_all xs ys h.1 g)

    filter_all : (p : Value → Bool) (xs : List Value) → All xs → All (filter p xs)
    filter_all p [] h = tt
    filter_all p (x ∷ xs) h =
        elim (p x) as (λ b. All (cond b (x ∷ filter p xs) (filter p xs))) [ true ↦ (h.0, filter_all p xs h.1) | false ↦ filter_all p xs h.1 ]

    pub of_union : (xs ys : List Value) → IsSetOf s k xs → IsSetOf s k ys → IsSetOf s k (union xs ys)
    of_union xs ys h g = (union_rising value_cmp value_total xs ys g.0, union_all xs ys h.1 g.1)

    pub of_filter : (p : Value → Bool) (xs : List Value) → IsSetOf s k xs → IsSetOf s k (filter p xs)
    of_filter p xs h = (filter_rising value_cmp value_total p xs h.0, filter_all p xs h.1)

    pub of_combined : (op : SetOperator) (xs ys : List Value) → IsSetOf s k xs → IsSetOf s k ys → IsSetOf s k (combine op xs ys)
    of_combined Union xs ys h g = of_union xs ys h g
    of_combined Intersect xs ys h g = of_filter (λ x. agrees true (contains x ys)) xs h
    of_combined Except xs ys h g = of_filter (λ x. agrees false (contains x ys)) xs h

    pub of_unions : (xs : List Value) (parts : List (List Value)) → IsSetOf s k xs → AllByRecursion (IsSetOf s k) parts → IsSetOf s k (fold union xs parts)
    of_unions xs [] h g = h
    of_unions xs (ys ∷ parts) h g = of_unions (union xs ys) parts (of_union xs ys h g.0) g.1

  -- sets of the types of a list, each becomes one of the type on which all agree
  abbrev pub AreSetsOf : List Kind → List (List Value) → Type 0
  AreSetsOf [] [] = Unit {0}
  AreSetsOf [] (set ∷ sets) = ⊥
  AreSetsOf (k ∷ ks) [] = ⊥
  AreSetsOf (k ∷ ks) (set ∷ sets) = IsSetOf s k set × AreSetsOf ks sets

  further : (k l m : Kind) → Becomes k l → Becomes l m → Becomes k m
  further k l m a b = ⊎_elim (λ e. inl e) (λ e. subst (λ x. Becomes x m) (same e) b) a
    where
      same : k ≡ l → l ≡ k
      same e = subst (λ x. x ≡ k) e refl

  start_becomes : (k : Kind) (ks : List Kind) (m : Kind) → all_common k ks ≡ Some m → Becomes k m
  start_becomes k [] m got = let same : k ≡ m = cc in inr same
  start_becomes k (l ∷ ks) m got =
      let c = came (common k l) (λ x. all_common x ks) m got in
      further k c.from m (agree k l c.from c.is).left (start_becomes c.from ks m c.gives)

  pub all_become : (k : Kind) (ks : List Kind) (m : Kind) (sets : List (List Value)) → all_common k ks ≡ Some m → AreSetsOf ks sets →
      AllByRecursion (IsSetOf s m) sets
  all_become k [] m [] got h = tt
  all_become k [] m (set ∷ sets) got h = absurd h
  all_become k (l ∷ ks) m [] got h = absurd h
  all_become k (l ∷ ks) m (set ∷ sets) got h =
      let c = came (common k l) (λ x. all_common x ks) m got in (
        becomes l m set (further l c.from m (agree k l c.from c.is).right (start_becomes c.from ks m c.gives)) h.0,
        all_become c.from ks m sets c.gives h.1,
      )

  -- variables
  pub where_live : (k : Kind) (v : Value) → HasKind s k v → HasKindWhereLive s k v
  where_live kind.Unknown v h = absurd (nothing_unknown v h)
  where_live kind.Truth (Truth b) h = tt
  where_live kind.Truth (Number n) h = absurd h
  where_live kind.Truth (Text t) h = absurd h
  where_live kind.Truth (Object o) h = absurd h
  where_live kind.Number (Truth b) h = absurd h
  where_live kind.Number (Number n) h = tt
  where_live kind.Number (Text t) h = absurd h
  where_live kind.Number (Object o) h = absurd h
  where_live kind.Text (Truth b) h = absurd h
  where_live kind.Text (Number n) h = absurd h
  where_live kind.Text (Text t) h = tt
  where_live kind.Text (Object o) h = absurd h
  where_live (kind.Object c) (Truth b) h = absurd h
  where_live (kind.Object c) (Number n) h = absurd h
  where_live (kind.Object c) (Text t) h = absurd h
  where_live (kind.Object c) (Object o) h = λ d e. cc

  pub set_where_live : (k : Kind) (set : List Value) → IsSetOf s k set → IsVariableOf s k set
  set_where_live k set h = (h.0, all_more (HasKind s k) (HasKindWhereLive s k) (where_live k) set h.1)

  pub one_more : (ks : List Kind) (sets : Variables) (k : Kind) (set : List Value) → HaveKinds s ks sets → IsVariableOf s k set →
      HaveKinds s (ks ++ k ∷ []) (sets ++ set ∷ [])
  one_more [] [] k set h g = (g, tt)
  one_more [] (x ∷ sets) k set h g = absurd h
  one_more (l ∷ ks) [] k set h g = absurd h
  one_more (l ∷ ks) (x ∷ sets) k set h g = (h.0, one_more ks sets k set h.1 g)

  pub at_position : (ks : List Kind) (sets : Variables) (p : ℕ) (k : Kind) → HaveKinds s ks sets → slice_get ks p ≡ Some k →
      IsVariableOf s k (slice_index_or sets p [])
  at_position [] sets p k h got = cc
  at_position (l ∷ ks) [] p k h got = absurd h
  at_position (l ∷ ks) (x ∷ sets) zero k h got = let same : l ≡ k = cc in subst (λ y. IsVariableOf s y x) same h.0
  at_position (l ∷ ks) (x ∷ sets) (suc p) k h got = at_position ks sets p k h.1 got

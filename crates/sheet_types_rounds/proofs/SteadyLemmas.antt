-- Which formula columns of no known type have none after the next round either.
use Rattle.std.proofs.Common.{arith, ◌≡◌, refl, sym, ap, ◌∙◌, ℕ, ◌+◌, zero, suc, Bool, true, false, if◌then◌else◌, ◌<◌, ◌≤◌, length, inl, inr, List}
use Rattle.std.proofs.Common.{[], ◌∷◌, ◌++◌, Option, Some, None}
use Rattle.std.specs.Prelude.{◌||◌, ◌⊎◌, bytes_eq, slice_index_or}
use Rattle.std.proofs.lemmas.Bool.{both_ways}
use Rattle.std.proofs.lemmas.Slice.Eq.{bytes_eq-Decides}
use Rattle.std.proofs.lemmas.List.Folds.{list_any-append}
use Rattle.sheet_values.specs.declared.value.Kind.{Kind}
use Rattle.sheet_values.specs.declared.value.Kind.TheVariants as kind
use Rattle.sheet_columns.specs.declared.tree.Node.{Node}
use Rattle.sheet_columns.specs.Tree.{name_of}
use Rattle.sheet_syntax_trees.specs.declared.tree.Tree.{Tree}
use Rattle.sheet_types_formulas.specs.Typing.{typed}
use Rattle.sheet_types_rounds.specs.Rounds.{is_unknown, kind_told, at_column, next_kind, next_kinds, round}
use Rattle.sheet_types_rounds.specs.Mentions.{is_among, AgreeBut, AgreeBelow, IsSteady, AreSteady}
use Rattle.sheet_types_rounds.proofs.Alike.{typed_alike}

-- where all types may be others, nothing is said
pub all_steady : (nodes : List Node) (kinds : List Kind) (ns : List (List ℕ)) (c : ℕ) (fs : List (Option Tree)) → AreSteady nodes kinds true ns c fs
all_steady nodes kinds ns c [] = tt
all_steady nodes kinds ns c (None ∷ fs) = (tt, all_steady nodes kinds ns (c + 1) fs)
all_steady nodes kinds ns c (Some e ∷ fs) = ((λ untouched. absurd cc), all_steady nodes kinds ns (c + 1) fs)

unknown_is : (k : Kind) → is_unknown k ≡ true → k ≡ kind.Unknown
unknown_is kind.Unknown is = refl
unknown_is kind.Truth is = absurd cc
unknown_is kind.Number is = absurd cc
unknown_is kind.Text is = absurd cc
unknown_is (kind.Object c) is = absurd cc

-- what is unknown after a round was unknown before it, and its formula had no type
was_unknown : (old found : Kind) → is_unknown (if is_unknown old then found else old) ≡ true → found ≡ kind.Unknown
was_unknown kind.Unknown found is = unknown_is found is
was_unknown kind.Truth found is = absurd cc
was_unknown kind.Number found is = absurd cc
was_unknown kind.Text found is = absurd cc
was_unknown (kind.Object c) found is = absurd cc

steady_one : (nodes : List Node) (old new : List Kind) (ns : List (List ℕ)) (c : ℕ) (f : Option Tree) → AgreeBut ns nodes old new
    → slice_index_or new c kind.Unknown ≡ next_kind nodes old c f (slice_index_or old c kind.Unknown) → IsSteady nodes new false ns c f
steady_one nodes old new ns c None agree is = tt
steady_one nodes old new ns c (Some e) agree is = λ untouched unknown.
    sym (ap kind_told (typed_alike e ns nodes old new (at_column nodes old c).variables agree untouched))
    ∙ was_unknown (slice_index_or old c kind.Unknown) (kind_told (typed e (at_column nodes old c))) (sym (ap is_unknown is) ∙ unknown)

steady_from : (nodes : List Node) (old new : List Kind) (ns : List (List ℕ)) (c : ℕ) (fs : List (Option Tree)) → AgreeBut ns nodes old new
    → ((j : ℕ) → slice_index_or new (c + j) kind.Unknown ≡ slice_index_or (next_kinds nodes old c fs) j kind.Unknown) → AreSteady nodes new false ns c fs
steady_from nodes old new ns c [] agree is = tt
steady_from nodes old new ns c (f ∷ fs) agree is =
    let here : c + 0 ≡ c = omega (arith) in (
      steady_one nodes old new ns c f agree (sym (ap (λ d. slice_index_or new d kind.Unknown) here) ∙ is 0),
      steady_from nodes old new ns (c + 1) fs agree (λ j. let there : c + 1 + j
          ≡ c + suc j = omega (arith) in ap (λ d. slice_index_or new d kind.Unknown) there ∙ is (suc j)),
    )

-- after a round, only what mentions a column whose type it found may find one in the next
pub steady_after : (nodes : List Node) (old new : List Kind) (all : Bool) (ns : List (List ℕ)) (fs : List (Option Tree)) → all ≡ false
    → AgreeBut ns nodes old new → new ≡ round nodes fs old → AreSteady nodes new all ns 0 fs
steady_after nodes old new true ns fs some agree is = absurd cc
steady_after nodes old new false ns fs some agree is =
    steady_from nodes old new ns 0 fs agree (λ j. let same : 0 + j ≡ j = omega (arith) in ap (λ d. slice_index_or new d kind.Unknown) same
    ∙ ap (λ ks. slice_index_or ks j kind.Unknown) is)

pub below : (c n : ℕ) → c < n + 1 → (c < n) ⊎ (c ≡ n)
below zero zero lt = inr refl
below zero (suc n) lt = inl (omega (arith))
below (suc c) zero lt = absurd (omega (arith, lt))
below (suc c) (suc n) lt = up (below c n (omega (arith, lt)))
  where
    up : (c < n) ⊎ (c ≡ n) → (suc c < suc n) ⊎ (suc c ≡ suc n)
    up (inl before) = inl (omega (arith, before))
    up (inr here) = inr (ap suc here)

pub some_is : {A : Type 0} {x y : A} → Some x ≡ Some y → x ≡ y
some_is same = cc

pub counted : (nodes : List Node) (c : ℕ) (name : List ℕ) → name_of nodes c ≡ Some name → c < length nodes
counted [] c name got = absurd cc
counted (n ∷ nodes) zero name got = omega (arith)
counted (n ∷ nodes) (suc c) name got = omega (arith, counted nodes c name got)

neither : (a b : Bool) → (a || b) ≡ false → (a ≡ false) × (b ≡ false)
neither true b all = absurd cc
neither false b all = (refl, all)

-- one column more, whose type is the same
pub agree_same : (n : ℕ) (ns : List (List ℕ)) (nodes : List Node) (k l : List Kind) → AgreeBelow n ns nodes k l
    → slice_index_or k n kind.Unknown ≡ slice_index_or l n kind.Unknown → AgreeBelow (n + 1) ns nodes k l
agree_same n ns nodes k l agree same c name lt got other = by_place (below c n lt)
  where
    by_place : (c < n) ⊎ (c ≡ n) → slice_index_or k c kind.Unknown ≡ slice_index_or l c kind.Unknown
    by_place (inl before) = agree c name before got other
    by_place (inr here) = ap (λ d. slice_index_or k d kind.Unknown) here ∙ same ∙ ap (λ d. slice_index_or l d kind.Unknown) (sym here)

-- one column more, whose name is noted
pub agree_noted : (n : ℕ) (ns : List (List ℕ)) (one : List ℕ) (nodes : List Node) (k l : List Kind) → AgreeBelow n ns nodes k l → name_of nodes n ≡ Some one
    → AgreeBelow (n + 1) (ns ++ one ∷ []) nodes k l
agree_noted n ns one nodes k l agree is c name lt got other = by_place (below c n lt)
  where
    apart : (is_among ns name ≡ false) × (is_among (one ∷ []) name ≡ false)
    apart = neither (is_among ns name) (is_among (one ∷ []) name) (sym (list_any-append _ ns (one ∷ [])) ∙ other)

    by_place : (c < n) ⊎ (c ≡ n) → slice_index_or k c kind.Unknown ≡ slice_index_or l c kind.Unknown
    by_place (inl before) = agree c name before got apart.0
    by_place (inr here) =
        let same : name ≡ one = some_is (sym got ∙ ap (name_of nodes) here ∙ is) in
        let yes : bytes_eq name one ≡ true = (bytes_eq-Decides name one).1 same in
        absurd (both_ways (bytes_eq name one) ((neither (bytes_eq name one) false apart.1).0) yes)

-- all columns
pub agree_all : (n : ℕ) (ns : List (List ℕ)) (nodes : List Node) (k l : List Kind) → length nodes ≤ n → AgreeBelow n ns nodes k l → AgreeBut ns nodes k l
agree_all n ns nodes k l all agree c name got other = agree c name (omega (arith, counted nodes c name got)) got other

-- Arguments judged one after another.
use Rattle.std.proofs.Common.{◌≡◌, refl, sym, ap, ◌∙◌, ℕ, zero, suc, ◌+◌, ◌≤◌, true, false, List, [], ◌∷◌, ◌++◌, length, take, drop, get_or, ◌<◌, arith, append_assoc, Some, None, eq-eqb}
use Rattle.std.specs.Prelude.{map, slice_get, if◌then◌else◌}
use Rattle.std.proofs.lemmas.List.{take_more, take_all}
use Rattle.sheet_values.specs.declared.value.Kind.{Kind}
use Rattle.sheet_values.specs.declared.value.Value.{Value}
use Rattle.sheet_meaning.specs.Arguments.{is_live, bad_from, bad_argument}
use Rattle.sheet_meaning.specs.declared.workbook.State.{State}
use Rattle.sheet_eval_sets.proofs.Cutting.{cut_at}

module _ (s : State) (ps : List (List ℕ × Kind)) (vs : List Value) (k : ℕ) (p : List ℕ × Kind) (v : Value) (at_p : slice_get ps k ≡ Some p)
    (at_v : slice_get vs k ≡ Some v) (so_far : bad_from s 1 ps vs ≡ bad_from s (k + 1) (drop k ps) (drop k vs)) where
  judged : bad_from s 1 ps vs ≡ (if is_live s p.1 v then bad_from s (k + 1 + 1) (drop (k + 1) ps) (drop (k + 1) vs) else Some (k + 1))
  judged = so_far ∙ ap (λ l. bad_from s (k + 1) l (drop k vs)) (cut_at ps k p at_p) ∙ ap (λ l. bad_from s (k + 1) (p ∷ drop (k + 1) ps) l) (cut_at vs k v at_v)

  pub judged_good : is_live s p.1 v ≡ true → bad_from s 1 ps vs ≡ bad_from s (k + 1 + 1) (drop (k + 1) ps) (drop (k + 1) vs)
  judged_good e = judged ∙ ap (λ b. if b then bad_from s (k + 1 + 1) (drop (k + 1) ps) (drop (k + 1) vs) else Some (k + 1)) e

  pub judged_bad : is_live s p.1 v ≡ false → length ps ≡ length vs → Some (k + 1) ≡ bad_argument s ps vs
  judged_bad e long =
      sym (ap (λ b. if b then bad_from s 1 ps vs else Some 0) (eq-eqb (length ps) (length vs) long) ∙ judged
      ∙ ap (λ b. if b then bad_from s (k + 1 + 1) (drop (k + 1) ps) (drop (k + 1) vs) else Some (k + 1)) e)

none_from : (s : State) (k : ℕ) (ps : List (List ℕ × Kind)) (vs : List Value) → ps ≡ [] → bad_from s k ps vs ≡ None
none_from s k ps vs e = ap (λ l. bad_from s k l vs) e

empty_drop : {A : Type 0} (xs : List A) (k : ℕ) → length xs ≤ k → drop k xs ≡ []
empty_drop [] zero le = refl
empty_drop [] (suc k) le = refl
empty_drop (x ∷ xs) zero le = absurd (omega (arith, le))
empty_drop (x ∷ xs) (suc k) le = empty_drop xs k (omega (arith, le))

pub all_good : (s : State) (ps : List (List ℕ × Kind)) (vs : List Value) (k : ℕ) → length ps ≤ k → length ps ≡ length vs →
    bad_from s 1 ps vs ≡ bad_from s (k + 1) (drop k ps) (drop k vs) → None ≡ bad_argument s ps vs
all_good s ps vs k le long so_far =
    sym (ap (λ b. if b then bad_from s 1 ps vs else Some 0) (eq-eqb (length ps) (length vs) long) ∙ so_far
    ∙ none_from s (k + 1) (drop k ps) (drop k vs) (empty_drop ps k le))

map_parts : {A B : Type 0} (f : A → B) (xs ys : List A) → map f (xs ++ ys) ≡ map f xs ++ map f ys
map_parts f [] ys = refl
map_parts f (x ∷ xs) ys = ap (λ l. f x ∷ l) (map_parts f xs ys)

-- the variables with one argument more, and with all
pub variables_more : (xs : List Value) (i : ℕ) (x : Value) (old now new : List (List Value)) → i < length xs → x ≡ get_or xs i x →
    now ≡ old ++ map (λ (a : Value). a ∷ []) (take i xs) → new ≡ now ++ (x ∷ []) ∷ [] → new ≡ old ++ map (λ (a : Value). a ∷ []) (take (i + 1) xs)
variables_more xs i x old now new lt is so_far push =
    push
    ∙ ap (λ l. l ++ (x ∷ []) ∷ []) so_far
    ∙ append_assoc old (map (λ (a : Value). a ∷ []) (take i xs)) ((x ∷ []) ∷ [])
    ∙ ap (λ l. old ++ l)
    (sym (map_parts (λ (a : Value). a ∷ []) (take i xs) (x ∷ []))
    ∙ ap (map (λ (a : Value). a ∷ [])) (sym (take_more xs i x lt ∙ ap (λ y. take i xs ++ y ∷ []) (sym is))))

pub variables_all : (xs : List Value) (i : ℕ) (old now : List (List Value)) → length xs ≤ i → now ≡ old ++ map (λ (a : Value). a ∷ []) (take i xs) →
    now ≡ old ++ map (λ (a : Value). a ∷ []) xs
variables_all xs i old now le so_far = so_far ∙ ap (λ l. old ++ map (λ (a : Value). a ∷ []) l) (take_all i xs le)

-- What a sink gains, table by table.
use Rattle.std.proofs.Common.{◌≡◌, ap, sym, ◌∙◌, ℕ, ◌+◌, ◌-◌, ◌<◌, ◌≤◌, zero, suc, List, [], ◌∷◌, ◌++◌, arith, append_assoc}
use Rattle.std.proofs.lemmas.List.{map-id, flat_map_more}
use Rattle.std.proofs.lemmas.List.Concat.{flat_map-append}
use Rattle.std.proofs.lemmas.List.FromFn.{map-range_with_len_more}
use Rattle.std.specs.Prelude.{Option, flat_map}
use Rattle.std.specs.List.{range_with_len}
use Rattle.sheet_lines.specs.Told.{GainsFront}
use Rattle.sheet_lines.proofs.Telling.{told_then}
use Rattle.sheet_outside.specs.Causes.{Rose}
use Rattle.sheet_outside.specs.Told.{Gains, WhereTold}

range_more : (n : ℕ) → range_with_len 0 (n + 1) ≡ range_with_len 0 n ++ n ∷ []
range_more n =
    sym (map-id (range_with_len 0 (n + 1)))
    ∙ map-range_with_len_more (λ x. x) 0 n n (omega arith)
    ∙ ap (λ l. l ++ n ∷ []) (map-id (range_with_len 0 n))

range_split : (a m n : ℕ) → range_with_len a (m + n) ≡ range_with_len a m ++ range_with_len (a + m) n
range_split a zero n =
    let all : zero + n ≡ n = omega arith in
    let same : a ≡ a + zero = omega arith in
    ap (range_with_len a) all ∙ ap (λ b. range_with_len b n) same
range_split a (suc m) n =
    let more : suc m + n ≡ suc (m + n) = omega arith in
    let next : a + 1 + m ≡ a + suc m = omega arith in
    ap (range_with_len a) more ∙ ap (λ l. a ∷ l) (range_split (a + 1) m n ∙ ap (λ b. range_with_len (a + 1) m ++ range_with_len b n) next)

module _ (f : ℕ → List ℕ) (k : ℕ) where
  -- the tables of the first columns
  abbrev before : List ℕ
  before = flat_map f (range_with_len 0 k)

  one_more : flat_map f (range_with_len 0 (k + 1)) ≡ before ++ f k
  one_more = ap (flat_map f) (range_more k) ∙ sym (flat_map_more f [] (range_with_len 0 k) k)

  -- one table more
  pub gains_table : (a b c : Option (List ℕ)) → Gains a b before → Gains b c (f k) → Gains a c (flat_map f (range_with_len 0 (k + 1)))
  gains_table a b c first more =
      told_then (λ x y. y ≡ x ++ before) (λ y z. z ≡ y ++ f k) (λ x z. z ≡ x ++ flat_map f (range_with_len 0 (k + 1))) a b c first more
      (λ x y z had gained. gained ∙ ap (λ l. l ++ f k) had ∙ append_assoc x before (f k) ∙ ap (λ l. x ++ l) (sym one_more))

  -- a front of one table more is a front of all
  pub gains_front : (n : ℕ) → k < n → (a b c : Option (List ℕ)) → Gains a b before → WhereTold (GainsFront (f k)) b c →
      WhereTold (GainsFront (flat_map f (range_with_len 0 n))) a c
  gains_front n within a b c first more =
      let rest = flat_map f (range_with_len (0 + (k + 1)) (n - (k + 1))) in
      let parts : n ≡ k + 1 + (n - (k + 1)) = omega arith in
      let all : flat_map f (range_with_len 0 n) ≡ before ++ f k ++ rest =
      ap (λ m. flat_map f (range_with_len 0 m)) parts
      ∙ ap (flat_map f) (range_split 0 (k + 1) (n - (k + 1)))
      ∙ flat_map-append f (range_with_len 0 (k + 1)) (range_with_len (0 + (k + 1)) (n - (k + 1)))
      ∙ ap (λ l. l ++ rest) one_more in
      told_then (λ x y. y ≡ x ++ before) (GainsFront (f k)) (GainsFront (flat_map f (range_with_len 0 n))) a b c first more
      (λ x y z had gained.
      let front = gained.0 in
      let back = gained.2.0 in (
        before ++ front,
        gained.1 ∙ ap (λ l. l ++ front) had ∙ append_assoc x before front,
        (
          back ++ rest,
          all ∙ ap (λ l. before ++ l ++ rest) gained.2.1 ∙ ap (λ l. l ++ rest) (sym (append_assoc before front back))
              ∙ append_assoc (before ++ front) back rest,
        ),
      ))

-- what rose since a later time rose since an earlier one
pub rose_since : (a b c : ℕ) → a ≤ b → Rose b c → Rose a c
rose_since a b c before rose = omega arith

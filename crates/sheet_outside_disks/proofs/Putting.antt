-- A piece that is written over bytes.
use Rattle.std.proofs.Common.{◌≡◌, inl, inr, ℕ, ◌+◌, ◌-◌, ◌<◌, ◌≤◌, List, [], ◌∷◌, ◌++◌, length, take, drop, replicate, sym, ◌∙◌, ap, arith, length-append}
use Rattle.std.proofs.Common.{append_assoc}
use Rattle.std.proofs.lemmas.Bool.{cases_lt}
use Rattle.std.proofs.lemmas.List.{append-nil, take-append-le, drop_all, length-replicate, replicate-append-replicate}
use Rattle.sheet_outside.specs.Crash.{put}

-- what lies behind a place that the padding doesn't pass
pub drop_padded : (n : ℕ) (xs : List ℕ) (z : ℕ) → drop n (xs ++ replicate (n - length xs) z) ≡ drop n xs
drop_padded n xs z = elim (cases_lt n (length xs)) [
  | inl below ↦ let none : n - length xs ≡ 0 = omega (arith, below) in
      ap (λ k. drop n (xs ++ replicate k z)) none ∙ ap (λ (l : List ℕ). drop n l) (append-nil xs)
  | inr above ↦ drop_all n (xs ++ replicate (n - length xs) z)
      (omega (arith, above, length-append xs (replicate (n - length xs) z), length-replicate {A = ℕ} (n - length xs) z)) ∙ sym (drop_all n xs above)
]

-- and in front of it
pub take_padded : (place end : ℕ) (xs : List ℕ) (z : ℕ) → place ≤ end →
    take place (xs ++ replicate (end - length xs) z) ≡ take place (xs ++ replicate (place - length xs) z)
take_padded place end xs z ordered = elim (cases_lt place (length xs)) [
  | inl below ↦ take-append-le place xs (replicate (end - length xs) z) (omega (arith, below))
      ∙ sym (take-append-le place xs (replicate (place - length xs) z) (omega (arith, below)))
  | inr above ↦
      let parted : end - length xs ≡ (place - length xs) + (end - place) = omega (arith, above, ordered) in
      ap (λ k. take place (xs ++ replicate k z)) parted
      ∙ ap (λ (l : List ℕ). take place (xs ++ l)) (sym (replicate-append-replicate (place - length xs) (end - place) z))
      ∙ ap (λ (l : List ℕ). take place l) (sym (append_assoc xs (replicate (place - length xs) z) (replicate (end - place) z)))
      ∙ take-append-le place (xs ++ replicate (place - length xs) z) (replicate (end - place) z)
      (omega (arith, above, length-append xs (replicate (place - length xs) z), length-replicate {A = ℕ} (place - length xs) z))
]

pub put_padded : (bytes piece : List ℕ) (place : ℕ) → 0 < length piece →
    take place (bytes ++ replicate (place + length piece - length bytes) 0) ++ (piece ++ drop (place + length piece)
    (bytes ++ replicate (place + length piece - length bytes) 0)) ≡ put bytes place piece
put_padded bytes [] place some = absurd (omega (arith, some))
put_padded bytes (b ∷ piece) place some =
    ap (λ (l : List ℕ). l ++ ((b ∷ piece) ++ drop (place + length (b ∷ piece)) (bytes ++ replicate (place + length (b ∷ piece) - length bytes) 0)))
    (take_padded place (place + length (b ∷ piece)) bytes 0 (omega arith))
    ∙ ap (λ (l : List ℕ). take place (bytes ++ replicate (place - length bytes) 0) ++ ((b ∷ piece) ++ l)) (drop_padded (place + length (b ∷ piece)) bytes 0)

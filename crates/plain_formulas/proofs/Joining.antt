-- Parts put together, from the last to the first.
use Rattle.std.proofs.Common.{◌≡◌, refl, sym, ap, ◌∙◌, List, [], ◌∷◌, ◌++◌}
use Rattle.std.specs.Prelude.{Ok, Err}
use Rattle.sheet_meaning.specs.declared.run.Run.{Run}
use Rattle.sheet_meaning.specs.Run.{Outcome, given, done, finish, both, all, after, both_outcomes}
use Rattle.sheet_meaning.specs.Formula.{joined}
use Rattle.plain_formulas.specs.Forms.{all_joined}

-- a part in front of others
abbrev pub in_front : {A : Type 0} → Run (List A) → Run (List A) → Run (List A)
in_front part rest = finish (both part rest) (λ x. Ok (x.0 ++ x.1))

-- parts in front of others
abbrev pub joined_before : {A : Type 0} → List (Run (List A)) → Run (List A) → Run (List A)
joined_before [] rest = rest
joined_before (r ∷ rs) rest = in_front r (joined_before rs rest)

module _ {A : Type 0} where
  outcomes : (o : Outcome (List A)) (q : Outcome (List (List A))) →
      after (both_outcomes o (after q (λ parts. Ok (joined parts)))) (λ x. Ok (x.0 ++ x.1)) ≡ after (after (both_outcomes o q) (λ x. Ok (x.0 ∷ x.1)))
      (λ parts. Ok (joined parts))
  outcomes (Ok xs) (Ok xss) = refl
  outcomes (Ok xs) (Err f) = refl
  outcomes (Err e) (Ok xss) = refl
  outcomes (Err e) (Err f) = refl

  pub joined_all : (rs : List (Run (List A))) → joined_before rs (done []) ≡ all_joined rs
  joined_all [] = refl
  joined_all (r ∷ rs) =
      ap (in_front r) (joined_all rs)
      ∙ ap (λ (o : Outcome (List A)). record { outcome = o; uses = r.uses ++ (all rs).uses }) (outcomes r.outcome (all rs).outcome)

  pub joined_last : (rs : List (Run (List A))) (r rest : Run (List A)) → joined_before (rs ++ r ∷ []) rest ≡ joined_before rs (in_front r rest)
  joined_last [] r rest = refl
  joined_last (q ∷ rs) r rest = ap (in_front q) (joined_last rs r rest)

  pub joined_start : (rs : List (Run (List A))) (start : Run (List A)) (l : List A) → start ≡ given (Ok l) → l ≡ [] → joined_before rs start ≡ all_joined rs
  joined_start rs start l is empty = ap (joined_before rs) (is ∙ ap (λ (m : List A). given (Ok m)) empty) ∙ joined_all rs

  pub joined_step : (rs left : List (Run (List A))) (r rest next whole : Run (List A)) → joined_before rs rest ≡ whole → rs ≡ left ++ r ∷ [] →
      next ≡ in_front r rest → joined_before left next ≡ whole
  joined_step rs left r rest next whole so_far cut is =
      ap (joined_before left) is ∙ sym (joined_last left r rest) ∙ sym (ap (λ l. joined_before l rest) cut) ∙ so_far

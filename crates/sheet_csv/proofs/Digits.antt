-- A number grows with its digits.
use Rattle.std.proofs.Common.{◌≡◌, ℕ, ◌≤◌, ◌<◌, ◌+◌, ◌-◌, ◌*◌, List, [], ◌∷◌, length, get_or, drop, suc, None, inl, inr, sym, ap, ◌∙◌, drop-cons, arith}
use Rattle.std.specs.Prelude.{nat_le}
use Rattle.std.proofs.lemmas.Bool.{cases_Bool, leb-true}
use Rattle.sheet_csv.specs.Fields.{digits_value, value_up_to}

pub grows : (v : ℕ) (ds : List ℕ) → v ≤ digits_value v ds
grows v [] = omega arith
grows v (d ∷ ds) = let more = grows (v * 10 + (d - 48)) ds in omega arith

-- the digits so far are too many already
pub too_wide : (most : ℕ) (run : List ℕ) (v k : ℕ) → k < length run → digits_value v (drop k run) ≡ digits_value 0 run → most < v * 10 + (get_or run k 0 - 48)
    → None ≡ value_up_to most run
too_wide most run v k within same wide =
    let more = grows (v * 10 + (get_or run k 0 - 48)) (drop (suc k) run) in
    let next : digits_value (v * 10 + (get_or run k 0 - 48)) (drop (suc k) run) ≡ digits_value 0 run = sym (ap (digits_value v) (drop-cons run k 0 within))
    ∙ same in
    elim (cases_Bool (nat_le (digits_value 0 run) most)) [
      | inl fits ↦ let bound = leb-true (digits_value 0 run) most fits in absurd (omega arith)
      | inr other ↦ rw other
    ]

-- What a sink gains, piece by piece.
use Rattle.std.proofs.Common.{◌≡◌, ℕ, ◌+◌, List, [], ◌++◌, take, drop, Ok, Err, sym, ap, ◌∙◌, append_assoc, append-nil}
use Rattle.std.proofs.Math.Seq.{take-add}
use Rattle.std.proofs.lemmas.List.{take-append-drop}
use Rattle.std.specs.Prelude.{Option}
use Rattle.sheet_outside.specs.Told.{WhereTold, Gains, WriteAdds}
use Rattle.sheet_lines.specs.Told.{GainsFront}
use Rattle.sheet_lines.proofs.Telling.{told_then}

-- a sink that had gained a front of the text gains more of it
pub gains_more : (E : Type 0) (a b c : Option (List ℕ)) (text rest : List ℕ) (at count : ℕ) → rest ≡ drop at text → Gains a b (take at text) →
    WriteAdds {E = E} b c (Ok count) rest → Gains a c (take (at + count) text)
gains_more E a b c text rest at count here first more =
    told_then (λ old now. now ≡ old ++ take at text) (λ old now. now ≡ old ++ take count rest) (λ old now. now ≡ old ++ take (at + count) text) a b c first more
    (λ x y z had gained. gained ∙ ap (λ l. y ++ take count l) here ∙ ap (λ l. l ++ take count (drop at text)) had
    ∙ append_assoc x (take at text) (take count (drop at text)) ∙ ap (λ l. x ++ l) (sym (take-add at count text)))

-- what it had gained is a front of the text
pub gains_front : (E : Type 0) (e : E) (a b c : Option (List ℕ)) (text piece : List ℕ) (at : ℕ) → Gains a b (take at text) → WriteAdds b c (Err e) piece →
    WhereTold (GainsFront text) a c
gains_front E e a b c text piece at first none =
    told_then (λ old now. now ≡ old ++ take at text) (λ old now. now ≡ old ++ []) (GainsFront text) a b c first none
    (λ x y z had same. (take at text, same ∙ append-nil y ∙ had, (drop at text, sym (take-append-drop at text))))

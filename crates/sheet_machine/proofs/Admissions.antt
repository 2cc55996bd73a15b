-- Who isn't admitted, and who goes again.
use Rattle.std.proofs.Common.{◌≡◌, refl, ap, ◌∙◌, ℕ, ◌-◌, List, [], ◌∷◌, ◌++◌, length, take, arith, Err, length-append}
use Rattle.sheet_callers.specs.declared.admission.AdmitRefusal.{AdmitRefusal}
use Rattle.sheet_callers.specs.declared.admission.AdmitRefusal.TheVariants.{KeyTaken, NameTaken, TooMany, NoMemory}
use Rattle.sheet_callers.specs.Admitting.{Admits, refused}
use Rattle.sheet_callers.specs.Callers.{Caller}
use Rattle.sheet_machine.specs.Admissions.{IsAdmissionRefusal}

pub not_admitted : (cs new : List Caller) (key name : List ℕ) (o : ℕ) (x : AdmitRefusal) → Admits cs new key name o (Err x)
    → IsAdmissionRefusal x (refused cs key name) × (new ≡ cs)
not_admitted cs new key name o (KeyTaken c) h = h
not_admitted cs new key name o (NameTaken c) h = h
not_admitted cs new key name o (TooMany n) h = h
not_admitted cs new key name o NoMemory h = (tt, h)

pub last_goes : (cs : List Caller) (d : Caller) → take (length (cs ++ d ∷ []) - 1) (cs ++ d ∷ []) ≡ cs
last_goes cs d =
    let long = length-append cs (d ∷ []) in
    let e : length (cs ++ d ∷ []) - 1 ≡ length cs = omega (arith, long) in
    ap (λ n. take n (cs ++ d ∷ [])) e ∙ front cs
  where
    front : (xs : List Caller) → take (length xs) (xs ++ d ∷ []) ≡ xs
    front [] = refl
    front (x ∷ xs) = ap (λ t. x ∷ t) (front xs)

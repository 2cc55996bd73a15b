-- Which fields are texts.
use Rattle.std.proofs.Common.{◌≡◌, ◌≤◌, ◌<◌, ℕ, List, length, true, false, Bool, refl, inl, inr, arith}
use Rattle.std.specs.Prelude.{IsUtf8, ◌&&◌, nat_le}
use Rattle.std.specs.Str.{is_utf8, IsValidUpTo}
use Rattle.std.proofs.lemmas.Bool.{cases_Bool, le-leb, leb-true}
use Rattle.std.proofs.lemmas.Str.{is_utf8-from_IsUtf8, IsUtf8-from_is_utf8}
use Rattle.std.proofs.Common.{sym, subst}
use Rattle.std.proofs.lemmas.List.{take_all}
use Rattle.sheet_csv.specs.Fields.{is_text}

pub short_text : (bytes : List ℕ) → IsUtf8 bytes → length bytes ≤ 1000 → is_text bytes ≡ true
short_text bytes utf8 short = rw (is_utf8-from_IsUtf8 bytes utf8) (le-leb (length bytes) 1000 short)

pub no_text : (bytes : List ℕ) → ¬ (IsUtf8 bytes) → is_text bytes ≡ false
no_text bytes other =
    elim (cases_Bool (is_utf8 bytes)) [ inl utf8 ↦ absurd (other (IsUtf8-from_is_utf8 bytes utf8)) | inr wrong ↦ rw wrong refl ]

and_false : (b : Bool) → b && false ≡ false
and_false true = refl
and_false false = refl

pub long_text : (bytes : List ℕ) → 1000 < length bytes → is_text bytes ≡ false
long_text bytes long =
    elim (cases_Bool (nat_le (length bytes) 1000)) [ inl short ↦ let bound = leb-true (length bytes) 1000 short in absurd (omega arith) | inr other ↦ rw other (and_false (is_utf8 bytes)) ]

-- bytes that are UTF-8 up to some place only
pub wrong_text : (bytes : List ℕ) (offset : ℕ) → IsValidUpTo bytes offset → is_text bytes ≡ false
wrong_text bytes offset v = no_text bytes (λ utf8. v.longest (length bytes) v.short (subst IsUtf8 (sym (take_all (length bytes) bytes (omega arith))) utf8))

-- Which contents are texts.
use Rattle.std.proofs.Common.{◌≡◌, ◌≤◌, ℕ, List, length, true, false, refl, inl, inr}
use Rattle.std.specs.Prelude.{IsUtf8}
use Rattle.std.specs.Str.{is_utf8}
use Rattle.std.proofs.lemmas.Bool.{cases_Bool, le-leb}
use Rattle.std.proofs.lemmas.Str.{is_utf8-from_IsUtf8, IsUtf8-from_is_utf8}
use Rattle.sheet_syntax_trees.specs.Tokens.{is_short_text}

pub short_text : (bytes : List ℕ) → IsUtf8 bytes → length bytes ≤ 1000 → is_short_text bytes ≡ true
short_text bytes utf8 short = rw (is_utf8-from_IsUtf8 bytes utf8) (le-leb (length bytes) 1000 short)

pub no_text : (bytes : List ℕ) → ¬ (IsUtf8 bytes) → is_short_text bytes ≡ false
no_text bytes other =
    elim (cases_Bool (is_utf8 bytes)) [ inl utf8 ↦ absurd (other (IsUtf8-from_is_utf8 bytes utf8)) | inr wrong ↦ rw wrong refl ]

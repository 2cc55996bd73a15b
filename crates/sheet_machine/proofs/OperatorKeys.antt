-- A key is a name.
use Rattle.std.proofs.Common.{◌≡◌, subst, sym, ap, ◌∙◌, ℕ, zero, suc, ◌<◌, true, List, [], ◌∷◌, length, take, arith, append-nil, refl, Err}
use Rattle.std.specs.Prelude.{IsUtf8, slice_index}
use Rattle.std.specs.Str.{IsValidUpTo}
use Rattle.std.specs.List.{list_all}
use Rattle.std.proofs.Math.Seq.{take-append_seam}
use Rattle.std.proofs.lemmas.Bool.{and_parts, leb-true}
use Rattle.std.proofs.lemmas.Str.{IsUtf8-from_ascii}
use Rattle.sheet_values.specs.Name.{ReadsName}
use Rattle.sheet_values.specs.declared.name.NameRefusal.{NameRefusal}
use Rattle.sheet_values.specs.declared.name.NameRefusal.TheVariants.{TooLong, NotUtf8, NoMemory}
use Rattle.sheet_requests.specs.Reading.{is_key_byte}
use Rattle.sheet_machine_laws.specs.Ranges.{IsKey}

low_bytes : (s : List ℕ) → list_all is_key_byte s ≡ true → (i : ℕ) → slice_index s i < 128
low_bytes [] all i = omega arith
low_bytes (b ∷ s) all zero = omega (arith, leb-true b 0x7e (and_parts _ _ (and_parts _ _ all).0).1)
low_bytes (b ∷ s) all (suc i) = low_bytes s (and_parts _ _ all).1 i

-- its bytes are UTF-8
key_is_utf8 : (s : List ℕ) (n : ℕ) → IsKey s → IsValidUpTo s n → ⊥
key_is_utf8 s n is v =
    let whole : take (length s) s ≡ s = ap (take (length s)) (sym (append-nil s)) ∙ take-append_seam s [] in
    v.longest (length s) v.short (subst IsUtf8 (sym whole) (IsUtf8-from_ascii s (low_bytes s (and_parts _ _ is).1)))

-- and they aren't too many
key_is_short : (s : List ℕ) → IsKey s → 1000 < length s → ⊥
key_is_short s is long = omega (arith, long, leb-true (length s) 64 (and_parts _ _ (and_parts _ _ is).0).1)

-- so it is read as a name
pub key_is_read : (s : List ℕ) (why : NameRefusal) → IsKey s → ReadsName s (Err why) → (why ≡ NoMemory → ⊥) → ⊥
key_is_read s (TooLong n) is r other = key_is_short s is r.0
key_is_read s (NotUtf8 n) is r other = key_is_utf8 s n is r.1
key_is_read s NoMemory is r other = other refl

pub not_too_long : (why : NameRefusal) (n : ℕ) → why ≡ TooLong n → why ≡ NoMemory → ⊥
not_too_long why n e f = cc

pub not_other_bytes : (why : NameRefusal) (n : ℕ) → why ≡ NotUtf8 n → why ≡ NoMemory → ⊥
not_other_bytes why n e f = cc

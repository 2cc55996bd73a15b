-- The front of a head that needs no second look: a start line and whole fields.
use Rattle.std.specs.Prelude.{ℕ, zero, suc, ◌≡◌, ◌≤◌, List, ◌∷◌, ◌++◌, length, take, All}
use Rattle.std.specs.List.{flat_map}
use Rattle.httparse.specs.Grammar.{Field, IsField, print_field, print_blank, print_version, print_end, RequestHead, IsRequestHead}

-- the bytes are whole fields
pub record AreFields (bytes : List ℕ) : Type 0 where
  pub fields : List Field
  pub each : All IsField fields
  pub print : bytes ≡ flat_map print_field fields

-- the bytes of a head's start line, before others
abbrev pub begin : RequestHead → List ℕ → List ℕ
begin h more = print_blank h.blank ++ (h.method ++ 32 ∷ (h.target ++ 32 ∷ (print_version h.minor ++ (print_end h.line_end ++ more))))

-- the first so many bytes are a start line and whole fields
pub record IsFront (bytes : List ℕ) (n : ℕ) : Type 0 where
  pub within : n ≤ length bytes
  pub head : RequestHead
  pub is : IsRequestHead head
  pub print : take n bytes ≡ begin head (flat_map print_field head.fields)

-- the same, where the place isn't 0
abbrev pub IsKnownFront : List ℕ → ℕ → Type 0
IsKnownFront bytes zero = Unit {0}
IsKnownFront bytes (suc n) = IsFront bytes (suc n)

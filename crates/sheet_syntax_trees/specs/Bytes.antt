-- The bytes of tokens.
use Rattle.std.specs.Prelude.{ℕ, ◌+◌, List, [], ◌∷◌, Bool, false, ◌&&◌, ◌||◌, ◌==◌, not, nat_le, if◌then◌else◌, codes}
use Rattle.std.specs.List.{list_any}

-- A to Z, a to z
abbrev pub is_letter : ℕ → Bool
is_letter c = (nat_le 65 c && nat_le c 90) || (nat_le 97 c && nat_le c 122)

-- 0 to 9
abbrev pub is_digit : ℕ → Bool
is_digit c = nat_le 48 c && nat_le c 57

-- space, tab, CR, LF
abbrev pub is_blank : ℕ → Bool
is_blank c = (c == 32) || (c == 9) || (c == 13) || (c == 10)

-- a byte that may stand as it is in a text: no control byte, no DEL
abbrev pub is_plain : ℕ → Bool
is_plain c = nat_le 32 c && not (c == 127)

-- a byte that goes on with a word: a letter, a digit or _
abbrev pub is_in_word : ℕ → Bool
is_in_word c = is_letter c || is_digit c || (c == 95)

-- a byte that goes on with a comment: any but LF
abbrev pub is_in_comment : ℕ → Bool
is_in_comment c = not (c == 10)

-- how many bytes at the front pass the test
abbrev pub run_length : (ℕ → Bool) → List ℕ → ℕ
run_length passes [] = 0
run_length passes (c ∷ cs) = if passes c then run_length passes cs + 1 else 0

-- whether a byte is a symbol
abbrev pub is_symbol : ℕ → Bool
is_symbol c = list_any (λ s. s == c) (codes "$.,(){}:|=<>+-*/%&")

-- whether a byte and = are a symbol
abbrev pub is_before_equals : ℕ → Bool
is_before_equals c = (c == 33) || (c == 60) || (c == 62)

-- whether the first byte is this one
abbrev pub begins_with : ℕ → List ℕ → Bool
begins_with c [] = false
begins_with c (d ∷ ds) = d == c

-- the length of the longest symbol at the front, or 0 where there is none
abbrev pub symbol_length : List ℕ → ℕ
symbol_length [] = 0
symbol_length (c ∷ cs) = if is_before_equals c && begins_with 61 cs then 2 else (if is_symbol c then 1 else 0)

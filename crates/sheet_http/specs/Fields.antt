-- What the fields of a head say, from the list of their names and values.
use Rattle.std.specs.Prelude.{◌≡◌, ℕ, ◌<◌, ◌+◌, ◌-◌, ◌*◌, min, ◌==◌, ◌&&◌, nat_lt, nat_le, List, [], ◌∷◌, length, take, drop, map, filter, codes}
use Rattle.std.specs.Prelude.{Bool, true, false, if◌then◌else◌, bytes_eq, Option, Some, None, Result, Ok, Err}
use Rattle.std.specs.List.{list_all, list_any}
use Rattle.std.specs.Char.{is_ascii_digit, to_ascii_lowercase}
use Rattle.std.specs.Str.Parse.{digits_value}
use Rattle.httparse.specs.Ascii.{comma}
use Rattle.httparse.specs.Grammar.{skip_ows, is_ows}
use Rattle.std.specs.Borrow.{Bor}
use Rattle.sheet_http.specs.declared.fields.Scan.{Scan}
use Rattle.sheet_http.specs.declared.fields.Scan.TheVariants.{Nothing, One, Several}
use Rattle.sheet_http.specs.declared.refusal.HttpRefusal.{HttpRefusal}
use Rattle.sheet_http.specs.declared.refusal.HttpRefusal.TheVariants.{NoLength, BadLength, BodyTooLong}

-- a name and a value
abbrev pub NameAndValue : Type 0
NameAndValue = List ℕ × List ℕ

-- the same letters, without case in ASCII
abbrev pub same_letters : List ℕ → List ℕ → Bool
same_letters a b = bytes_eq (map to_ascii_lowercase a) (map to_ascii_lowercase b)

-- the values of the fields of that name
abbrev pub values_named : List ℕ → List NameAndValue → List (List ℕ)
values_named name fs = map (λ (f : NameAndValue). f.1) (filter (λ (f : NameAndValue). same_letters f.0 name) fs)

-- the parts of a value between commas
abbrev pub grow : ℕ → List (List ℕ) → List (List ℕ)
grow b [] = (b ∷ []) ∷ []
grow b (part ∷ parts) = (b ∷ part) ∷ parts

abbrev pub between_commas : List ℕ → List (List ℕ)
between_commas [] = [] ∷ []
between_commas (b ∷ bs) = if b == comma then [] ∷ between_commas bs else grow b (between_commas bs)

-- `close` without case, and white space round it
abbrev pub is_close : List ℕ → Bool
is_close part =
    let word = skip_ows part in
    let n = min (length word) 5 in
    same_letters (take n word) (codes "close") && list_all is_ows (drop n word)

-- whether one of the parts is `close`
abbrev pub lists_close : List ℕ → Bool
lists_close value = list_any is_close (between_commas value)

abbrev pub says_close : List NameAndValue → Bool
says_close fs = list_any lists_close (values_named (codes "connection") fs)

-- one Host field, which version 1.0 may lack
abbrev pub has_host : ℕ → List (List ℕ) → Bool
has_host minor [] = minor == 0
has_host minor (host ∷ []) = true
has_host minor (host ∷ other ∷ more) = false

-- a value that is one or more digits
abbrev pub is_digits : List ℕ → Bool
is_digits value = nat_lt 0 (length value) && list_all is_ascii_digit value

abbrev pub longest_body : ℕ
longest_body = 65536

abbrev pub length_of : List ℕ → Result ℕ HttpRefusal
length_of value =
    if is_digits value then (if nat_le (digits_value 10 value) longest_body then Ok (digits_value 10 value) else Err BodyTooLong) else Err BadLength

-- the length that the Content-Length fields give
abbrev pub body_length : List (List ℕ) → Result ℕ HttpRefusal
body_length [] = Err NoLength
body_length (value ∷ []) = length_of value
body_length (value ∷ other ∷ more) = Err BadLength

abbrev pub is_some_value : List (List ℕ) → Bool
is_some_value [] = false
is_some_value (value ∷ more) = true

-- what a scan for the fields of a name came to: no value, one value, or several
abbrev pub Scans : List (List ℕ) → Scan → Type 0
Scans values Nothing = values ≡ []
Scans values (One value) = values ≡ value.now ∷ []
Scans values Several = 1 < length values

-- a value that was found so far
abbrev pub so_far : Option (Bor (List ℕ)) → List (List ℕ)
so_far None = []
so_far (Some value) = value.now ∷ []

-- the number that digits write behind n, but at most one more than the greatest length
abbrev pub cut_value : ℕ → List ℕ → ℕ
cut_value n [] = n
cut_value n (b ∷ bs) = cut_value (min (n * 10 + (b - 48)) 65537) bs

-- How long request lines are.
use Rattle.std.proofs.Common.{ℕ, suc, ℤ, pos, negsuc, ◌+◌, ◌*◌, ◌/◌, ◌%◌, ◌≤◌, Bool, true, false, cond, List, [], ◌∷◌, ◌++◌, length, arith, length-append}
use Rattle.std.specs.Prelude.{nat_lt, nat_le, ◌&&◌, map, codes, decimal}
use Rattle.std.specs.List.{AllByRecursion, list_all}
use Rattle.std.specs.Char.{digit_char}
use Rattle.std.proofs.lemmas.Bool.{leb-true}
use Rattle.std.proofs.lemmas.Fmt.{length-decimal-le_wide}
use Rattle.json.specs.Print.{escape_letter, escape_byte, escape, quoted}
use Rattle.serde_json.specs.Data.{Data, string, number, boolean, Members, member, no_members, unsigned}
use Rattle.serde_json.specs.Find.{of_integer}
use Rattle.serde_json.specs.View.{items_of}
use Rattle.serde_json.specs.Written.{compact_text, items_text, members_text, comma_if, number_text}
use Rattle.sheet_values.specs.declared.value.Value.{Value}
use Rattle.sheet_values.specs.declared.value.Value.TheVariants.{Truth, Number, Text, Object}
use Rattle.sheet_meaning.proofs.Members.{both_true}
use Rattle.sheet_requests.specs.Bodies.{value_data, values_data}
use Rattle.sheet_requests.specs.Lines.{request_line}
use Rattle.sheet_requests.specs.Reading.{greatest, is_key_byte}
use Rattle.sheet_requests.specs.declared.request.Request.TheVariants.{Do, Admit}
use Rattle.sheet_machine_laws.specs.Ranges.{IsSigned, IsArgument, IsKey, IsName, IsNumber}

-- a byte takes six at most
escaped_short : (b c : Bool) (l d e x : ℕ) → length (cond b (92 ∷ l ∷ []) (cond c (92 ∷ 117 ∷ 48 ∷ 48 ∷ d ∷ e ∷ []) (x ∷ []))) ≤ 6
escaped_short true c l d e x = omega arith
escaped_short false true l d e x = omega arith
escaped_short false false l d e x = omega arith

byte_short : (x : ℕ) → length (escape_byte x) ≤ 6
unfolding escape_byte
byte_short x = escaped_short (nat_lt 0 (escape_letter x)) (nat_lt x 32) (escape_letter x) (digit_char (x / 16)) (digit_char (x % 16)) x

escape_short : (s : List ℕ) → length (escape s) ≤ 6 * length s
escape_short [] = omega arith
escape_short (x ∷ xs) = omega (arith, length-append (escape_byte x) (escape xs), byte_short x, escape_short xs)

quoted_short : (s : List ℕ) → length (quoted s) ≤ 6 * length s + 2
quoted_short s = omega (arith, length-append (escape s) (34 ∷ []), escape_short s)

-- a number takes 20 at most
digits_short : (n : ℕ) → n ≤ greatest + 1 → length (decimal n) ≤ 20
digits_short n le = length-decimal-le_wide 20 n (omega arith) (omega (arith, le)) (omega (arith, le))

comma_short : (later : Bool) → length (comma_if later) ≤ 1
comma_short true = omega arith
comma_short false = omega arith

member_short : (later : Bool) (k : List ℕ) (d : Data) (ms : Members)
    → length (members_text later (member k d ms)) ≤ 6 * length k + 4 + length (compact_text d) + length (members_text true ms)
member_short later k d ms =
    let inner = 58 ∷ (compact_text d ++ members_text true ms) in
    omega (
      arith,
      comma_short later,
      length-append (comma_if later) (quoted k ++ inner),
      length-append (quoted k) inner,
      length-append (compact_text d) (members_text true ms),
      quoted_short k,
    )

signed_short : (z : ℤ) → IsSigned z → length (number_text (of_integer z)) ≤ 21
signed_short (pos n) le = let short = digits_short n (omega (arith, le)) in omega (arith, short)
signed_short (negsuc n) le = let short = digits_short (suc n) (omega (arith, le)) in omega (arith, short)

truth_short : (b : Bool) → length (compact_text (boolean b)) ≤ 5
truth_short true = omega arith
truth_short false = omega arith

-- an argument takes 6,002 at most
value_short : (v : Value) → IsArgument v → length (compact_text (value_data v)) ≤ 6002
value_short (Truth b) h = let short = truth_short b in omega (arith, short)
value_short (Number z) h = let short = signed_short z h in omega (arith, short)
value_short (Text t) h = let short = quoted_short t in omega (arith, short, h)
value_short (Object o) h =
    let short = digits_short o (omega (arith, h)) in
    let text = member_short false (codes "object") (number (unsigned o)) no_members in
    omega (arith, short, text)

values_short_from : (later : Bool) (vs : List Value) → AllByRecursion IsArgument vs
    → length (items_text later (items_of (map value_data vs))) ≤ 6003 * length vs + 1
values_short_from later [] h = omega arith
values_short_from later (v ∷ vs) h =
    let d = value_data v in
    let rest = items_text true (items_of (map value_data vs)) in
    omega (
      arith,
      comma_short later,
      length-append (comma_if later) (compact_text d ++ rest),
      length-append (compact_text d) rest,
      value_short v h.0,
      values_short_from true vs h.1,
    )

key_short : (s : List ℕ) → IsKey s → length s ≤ 64
key_short s e =
    let all = both_true (nat_lt 0 (length s) && nat_le (length s) 64) (list_all is_key_byte s) e in
    leb-true (length s) 64 (both_true (nat_lt 0 (length s)) (nat_le (length s) 64) all.0).1

name_short : (s : List ℕ) → IsName s → length s ≤ 63
name_short s e = leb-true (length s) 63 (both_true (nat_lt 0 (length s)) (nat_le (length s) 63) e).1

-- the line of a call with 16 arguments at most
pub call_short : (key name : List ℕ) (n : ℕ) (vs : List Value) → IsKey key → IsName name → IsNumber n → AllByRecursion IsArgument vs → length vs ≤ 16
    → length (request_line (Do key name n vs)) ≤ 1000000
call_short key name n vs is_key_of is_name_of is_number_of fit few =
    let with_member = member (codes "with") (values_data vs) no_members in
    let number_member = member (codes "number") (number (unsigned n)) with_member in
    let key_member = member (codes "key") (string key) number_member in
    omega (
      arith,
      member_short false (codes "do") (string name) key_member,
      member_short true (codes "key") (string key) number_member,
      member_short true (codes "number") (number (unsigned n)) with_member,
      member_short true (codes "with") (values_data vs) no_members,
      quoted_short name,
      quoted_short key,
      name_short name is_name_of,
      key_short key is_key_of,
      digits_short n (omega (arith, is_number_of.1)),
      values_short_from false vs fit,
      few,
    )

-- the line of an admission
pub admission_short : (key newkey name : List ℕ) (n o : ℕ) → IsKey key → IsKey newkey → IsName name → IsNumber n → o ≤ greatest
    → length (request_line (Admit key newkey name n o)) ≤ 1000000
admission_short key newkey name n o is_key_of is_newkey is_name_of is_number_of le =
    let object_member = member (codes "object") (number (unsigned o)) no_members in
    let number_member = member (codes "number") (number (unsigned n)) object_member in
    let newkey_member = member (codes "newkey") (string newkey) number_member in
    let key_member = member (codes "key") (string key) newkey_member in
    omega (
      arith,
      member_short false (codes "admit") (string name) key_member,
      member_short true (codes "key") (string key) newkey_member,
      member_short true (codes "newkey") (string newkey) number_member,
      member_short true (codes "number") (number (unsigned n)) object_member,
      member_short true (codes "object") (number (unsigned o)) no_members,
      quoted_short name,
      quoted_short key,
      quoted_short newkey,
      name_short name is_name_of,
      key_short key is_key_of,
      key_short newkey is_newkey,
      digits_short n (omega (arith, is_number_of.1)),
      digits_short o (omega (arith, le)),
    )

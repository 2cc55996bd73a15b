-- The tokens of a text.
use Rattle.std.specs.Prelude.{◌≡◌, ℕ, ◌+◌, ◌-◌, ◌*◌, zero, suc, pos, List, [], ◌∷◌, ◌++◌, length, take, Bool, true, false, ◌&&◌, ◌==◌, nat_le, if◌then◌else◌, Option, Some, None, option_map, option_and_then, Result, Ok, Err, bytes_eq}
use Rattle.std.specs.List.{list_any}
use Rattle.std.specs.Str.{is_utf8}
use Rattle.sheet_syntax_trees.specs.declared.token.TokenKind.{TokenKind}
use Rattle.sheet_syntax_trees.specs.declared.token.TokenKind.TheVariants.{Name, Reserved, Number, Text, Symbol}
use Rattle.sheet_syntax_trees.specs.declared.token.Token.{Token}
use Rattle.sheet_syntax_trees.specs.declared.token.SyntaxRefusal.{SyntaxRefusal}
use Rattle.sheet_syntax_trees.specs.declared.token.SyntaxRefusal.TheVariants.{BadToken, NumberTooWide, NoMemory}
use Rattle.sheet_syntax_trees.specs.declared.scan.Scan.{Scan}
use Rattle.sheet_syntax_trees.specs.declared.scan.Scan.TheVariants.{Found, Bad, TooWide}
use Rattle.sheet_syntax_trees.specs.Bytes.{is_letter, is_digit, is_blank, is_plain, is_in_word, is_in_comment, run_length, symbol_length}
use Rattle.sheet_syntax_trees.specs.Words.{reserved_words}

-- whether a word is reserved
unfoldable pub is_reserved : List ℕ → Bool
is_reserved word = list_any (λ r. bytes_eq r word) reserved_words

-- the number of these digits
abbrev pub digits_value : ℕ → List ℕ → ℕ
digits_value value [] = value
digits_value value (d ∷ ds) = digits_value (value * 10 + (d - 48)) ds

-- whether several digits begin with a zero
abbrev pub has_leading_zero : List ℕ → Bool
has_leading_zero [] = false
has_leading_zero (d ∷ []) = false
has_leading_zero (d ∷ e ∷ ds) = d == 48

-- a reserved word, or a name of at most 63 bytes
abbrev pub word_kind : List ℕ → TokenKind
word_kind word = if is_reserved word then Reserved word else Name word

-- a word of at most 63 bytes
abbrev pub scan_word : List ℕ → Scan
scan_word word = if nat_le (length word) 63 then Found (word_kind word) (length word) else Bad

-- digits without a leading zero, within 63 bits
abbrev pub scan_number : List ℕ → Scan
scan_number digits =
    if has_leading_zero digits then Bad
    else (if nat_le (digits_value 0 digits) 9223372036854775807 then Found (Number (pos (digits_value 0 digits))) (length digits) else TooWide)

-- what stands behind a backslash: a quote, a backslash, or n for LF
abbrev pub escaped : ℕ → Option ℕ
escaped c = if c == 34 then Some 34 else (if c == 92 then Some 92 else (if c == 110 then Some 10 else None))

-- these bytes, and that many taken, before what follows
abbrev pub with_content : List ℕ → ℕ → Option (List ℕ × ℕ) → Option (List ℕ × ℕ)
with_content content taken more = option_map (λ (p : List ℕ × ℕ). (content ++ p.0, taken + p.1)) more

-- The content of a text up to its closing quote, and how many bytes it takes with that quote;
-- the test says whether a backslash stands before the bytes.
abbrev pub text_from : Bool → List ℕ → Option (List ℕ × ℕ)
text_from behind [] = None
text_from behind (c ∷ cs) =
    if behind then option_and_then (λ byte. with_content (byte ∷ []) 1 (text_from false cs)) (escaped c)
    else (if c == 34 then Some ([], 1)
    else (if c == 92 then with_content [] 1 (text_from true cs)
    else (if is_plain c then with_content (c ∷ []) 1 (text_from false cs) else None)))

-- UTF-8 of at most 1,000 bytes
abbrev pub is_short_text : List ℕ → Bool
is_short_text content = is_utf8 content && nat_le (length content) 1000

-- a text with its quotes, of that content and length behind its first quote
abbrev pub text_scan : Option (List ℕ × ℕ) → Scan
text_scan None = Bad
text_scan (Some p) = if is_short_text p.0 then Found (Text p.0) (p.1 + 1) else Bad

-- the symbol of that length, where there is one
abbrev pub symbol_scan : ℕ → List ℕ → Scan
symbol_scan count rest = if count == 0 then Bad else Found (Symbol (take count rest)) count

-- The token at the front of bytes, which aren't a blank nor a comment, and its length.
abbrev pub scan : List ℕ → Scan
scan [] = Bad
scan (c ∷ cs) =
    if is_letter c then scan_word (take (run_length is_in_word (c ∷ cs)) (c ∷ cs))
    else (if is_digit c then scan_number (take (run_length is_digit (c ∷ cs)) (c ∷ cs))
    else (if c == 34 then text_scan (text_from false cs)
    else symbol_scan (symbol_length (c ∷ cs)) (c ∷ cs)))

-- these tokens, then those that follow
abbrev pub with_tokens : List Token → Result (List Token) SyntaxRefusal → Result (List Token) SyntaxRefusal
with_tokens front (Ok more) = Ok (front ++ more)
with_tokens front (Err e) = Err e

-- the token that was found there, then those that stand behind it
abbrev pub scanned : ℕ → ℕ → Scan → (ℕ → Result (List Token) SyntaxRefusal) → Result (List Token) SyntaxRefusal
scanned at line (Found kind len) behind = with_tokens (record { kind = kind; start = at; end = at + len; line = line } ∷ []) (behind len)
scanned at line Bad behind = Err (BadToken at)
scanned at line TooWide behind = Err (NumberTooWide at)

-- the line behind a byte
abbrev pub line_after : ℕ → ℕ → ℕ
line_after c line = if c == 10 then line + 1 else line

-- The tokens of the bytes from an offset on, in that line, behind the first bytes that are passed over.
abbrev pub tokens_from : List ℕ → ℕ → ℕ → ℕ → Result (List Token) SyntaxRefusal
tokens_from [] at line passed = Ok []
tokens_from (c ∷ cs) at line (suc passed) = tokens_from cs (at + 1) (line_after c line) passed
tokens_from (c ∷ cs) at line zero =
    if is_blank c then tokens_from cs (at + 1) (line_after c line) 0
    else (if c == 35 then tokens_from cs (at + 1) line (run_length is_in_comment cs)
    else scanned at line (scan (c ∷ cs)) (λ len. tokens_from cs (at + 1) line (len - 1)))

-- the tokens of a text
abbrev pub lexed : List ℕ → Result (List Token) SyntaxRefusal
lexed text = tokens_from text 0 1 0

-- what reading tokens answers, where a refusal for want of memory is free
abbrev pub Reads : {X Y : Type 0} → (X → Y) → Result X SyntaxRefusal → Result Y SyntaxRefusal → Type 0
Reads view (Ok x) told = told ≡ Ok (view x)
Reads view (Err NoMemory) told = Unit {0}
Reads view (Err e) told = told ≡ Err e

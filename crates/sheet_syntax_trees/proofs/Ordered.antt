-- The tokens of a text are in order.
use Rattle.std.proofs.Common.{◌≡◌, ℕ, zero, suc, ◌+◌, ◌-◌, ◌≤◌, List, [], ◌∷◌, ◌++◌, length, drop, Bool, true, false, Ok, Err, refl, sym, subst, arith}
use Rattle.std.proofs.Common.{append-nil}
use Rattle.std.specs.Prelude.{Result, if◌then◌else◌, ◌==◌}
use Rattle.sheet_syntax_trees.specs.declared.token.Token.{Token}
use Rattle.sheet_syntax_trees.specs.declared.token.SyntaxRefusal.{SyntaxRefusal}
use Rattle.sheet_syntax_trees.specs.declared.scan.Scan.{Scan}
use Rattle.sheet_syntax_trees.specs.declared.scan.Scan.TheVariants.{Found, Bad, TooWide}
use Rattle.sheet_syntax_trees.specs.Bytes.{is_blank, is_in_comment, run_length}
use Rattle.sheet_syntax_trees.specs.Tokens.{tokens_from, with_tokens, scanned, scan, lexed, line_after}
use Rattle.sheet_syntax_trees.specs.Order.{InOrder}

abbrev Told : Type 0
Told = Result (List Token) SyntaxRefusal

pub order_within : (low end : ℕ) (ts : List Token) → InOrder low end ts → low ≤ end
order_within low end [] h = h
order_within low end (t ∷ ts) h = let a = h.0 in let b = order_within (t.start + 1) end ts h.1 in omega (arith, a, b)

pub order_lower : (low high end : ℕ) (ts : List Token) → low ≤ high → InOrder high end ts → InOrder low end ts
order_lower low high end [] h o = omega (arith, h, o)
order_lower low high end (t ∷ ts) h o = let a = o.0 in (omega (arith, h, a), o.1)

pub order_drop : (n low end : ℕ) (ts : List Token) → InOrder low end ts → InOrder low end (drop n ts)
order_drop zero low end ts h = h
order_drop (suc n) low end [] h = h
order_drop (suc n) low end (t ∷ ts) h = let a = h.0 in order_lower low (t.start + 1) end (drop n ts) (omega (arith, a)) (order_drop n (t.start + 1) end ts h.1)

-- tokens that were put before others
put_before : (t : Token) (r : Told) (ts : List Token) → with_tokens (t ∷ []) r ≡ Ok ts → (more : List Token) × (r ≡ Ok more) × (ts ≡ t ∷ more)
put_before t (Ok more) ts h = (more, refl, (let same : t ∷ more ≡ ts = cc in sym same))
put_before t (Err e) ts h = let wrong : ⊥ = cc in absurd wrong

choice : (b : Bool) (x y : Told) (ts : List Token) (P : Type 0) → (if b then x else y) ≡ Ok ts → (x ≡ Ok ts → P) → (y ≡ Ok ts → P) → P
choice true x y ts P h f g = f h
choice false x y ts P h f g = g h

scanned_order : (at line end : ℕ) (s : Scan) (behind : ℕ → Told) (ts : List Token) → scanned at line s behind ≡ Ok ts →
    ((n : ℕ) (more : List Token) → behind n ≡ Ok more → InOrder (at + 1) end more) → InOrder at end ts
scanned_order at line end (Found kind len) behind ts h go =
    let (more, told, is) = put_before (record { kind = kind; start = at; end = at + len; line = line }) (behind len) ts h in
    let P : List Token → Type 0 = λ l. InOrder at end l in
    subst P (sym is) (omega arith, go len more told)
scanned_order at line end Bad behind ts h go = let wrong : ⊥ = cc in absurd wrong
scanned_order at line end TooWide behind ts h go = let wrong : ⊥ = cc in absurd wrong

-- what holds from one byte further on
further : (at : ℕ) (c : ℕ) (cs : List ℕ) (ts : List Token) → InOrder (at + 1) ((at + 1) + length cs) ts → InOrder at (at + length (c ∷ cs)) ts
further at c cs ts h =
    let count : (at + 1) + length cs ≡ at + length (c ∷ cs) = omega arith in
    let P : ℕ → Type 0 = λ n. InOrder (at + 1) n ts in
    order_lower at (at + 1) (at + length (c ∷ cs)) ts (omega arith) (subst P count h)

behind_one : (at : ℕ) (c : ℕ) (cs : List ℕ) (ts : List Token) → InOrder (at + 1) ((at + 1) + length cs) ts → InOrder (at + 1) (at + length (c ∷ cs)) ts
behind_one at c cs ts h =
    let count : (at + 1) + length cs ≡ at + length (c ∷ cs) = omega arith in
    let P : ℕ → Type 0 = λ n. InOrder (at + 1) n ts in
    subst P count h

from_order : (cs : List ℕ) (at line passed : ℕ) (ts : List Token) → tokens_from cs at line passed ≡ Ok ts → InOrder at (at + length cs) ts
from_order [] at line passed ts h = let P : List Token → Type 0 = λ l. InOrder at (at + 0) l in let same : [] ≡ ts = cc in subst P same (omega arith)
from_order (c ∷ cs) at line (suc passed) ts h = further at c cs ts (from_order cs (at + 1) (line_after c line) passed ts h)
from_order (c ∷ cs) at line zero ts h =
    choice (is_blank c) (tokens_from cs (at + 1) (line_after c line) 0)
    (if c == 35 then tokens_from cs (at + 1) line (run_length is_in_comment cs)
    else scanned at line (scan (c ∷ cs)) (λ len. tokens_from cs (at + 1) line (len - 1))) ts (InOrder at (at + length (c ∷ cs)) ts) h
    (λ told. further at c cs ts (from_order cs (at + 1) (line_after c line) 0 ts told))
    (λ told. choice (c == 35) (tokens_from cs (at + 1) line (run_length is_in_comment cs))
    (scanned at line (scan (c ∷ cs)) (λ len. tokens_from cs (at + 1) line (len - 1))) ts (InOrder at (at + length (c ∷ cs)) ts) told
    (λ again. further at c cs ts (from_order cs (at + 1) line (run_length is_in_comment cs) ts again))
    (λ again. scanned_order at line (at + length (c ∷ cs)) (scan (c ∷ cs)) (λ len. tokens_from cs (at + 1) line (len - 1)) ts again
    (λ n more is. behind_one at c cs more (from_order cs (at + 1) line (n - 1) more is))))

pub lexed_order : (text : List ℕ) (ts : List Token) → lexed text ≡ Ok ts → InOrder 0 (length text) ts
lexed_order text ts h = let P : ℕ → Type 0 = λ n. InOrder 0 n ts in subst P (omega arith) (from_order text 0 1 0 ts h)

-- the tokens that were read when none is left
pub order_at_end : (text rest : List ℕ) (at line : ℕ) (list : List Token) → length rest ≡ 0 → with_tokens list (tokens_from rest at line 0) ≡ lexed text →
    InOrder 0 (length text) list
order_at_end text [] at line list none told =
    let P : List Token → Type 0 = λ l. InOrder 0 (length text) l in
    subst P (append-nil list) (lexed_order text (list ++ []) (sym told))
order_at_end text (c ∷ cs) at line list none told = absurd (omega (arith, none))

-- One turn of reading tokens.
use Rattle.std.proofs.Common.{◌≡◌, ℕ, ◌+◌, ◌-◌, zero, suc, List, [], ◌∷◌, ◌++◌, drop, true, false, refl, sym, ap, ◌∙◌, arith, append_assoc, Ok, Err}
use Rattle.std.specs.Prelude.{◌==◌, Result}
use Rattle.std.proofs.lemmas.Bool.{eqb-true}
use Rattle.sheet_syntax_trees.specs.declared.token.Token.{Token}
use Rattle.sheet_syntax_trees.specs.declared.token.TokenKind.{TokenKind}
use Rattle.sheet_syntax_trees.specs.declared.token.SyntaxRefusal.{SyntaxRefusal}
use Rattle.sheet_syntax_trees.specs.declared.scan.Scan.TheVariants.{Found}
use Rattle.sheet_syntax_trees.specs.Bytes.{is_blank, is_in_comment, run_length}
use Rattle.sheet_syntax_trees.specs.Lexing.{Goes}
use Rattle.sheet_syntax_trees.specs.Tokens.{scan, tokens_from, with_tokens}
use Rattle.sheet_syntax_trees.proofs.FrontLemmas.{front_no_feed}
use Rattle.sheet_syntax_trees.proofs.RunLemmas.{NoFeed, no_feed_length, run_no_feed, comment_no_feed}

with_tokens_twice : (old new : List Token) (t : Token) (more : Result (List Token) SyntaxRefusal) → new ≡ old ++ t ∷ [] →
    with_tokens old (with_tokens (t ∷ []) more) ≡ with_tokens new more
with_tokens_twice old new t (Ok more) e = ap Ok (sym (ap (λ l. l ++ more) e ∙ append_assoc old (t ∷ []) more))
with_tokens_twice old new t (Err r) e = refl

-- bytes without a line feed are passed over
pub passed_over : (n : ℕ) (cs : List ℕ) (at line : ℕ) → NoFeed n cs → tokens_from cs at line n ≡ tokens_from (drop n cs) (at + n) line 0
passed_over zero cs at line h = let e : at + 0 ≡ at = omega arith in rw e refl
passed_over (suc n) [] at line h = absurd h
passed_over (suc n) (c ∷ cs) at line h =
    let e : at + suc n ≡ at + 1 + n = omega arith in
    rw (h.0, e) (passed_over n cs (at + 1) line h.1)

pub comment_goes : (old : List Token) (c : ℕ) (cs : List ℕ) (at line count : ℕ) → is_blank c ≡ false → (c == 35) ≡ true →
    count ≡ 1 + run_length is_in_comment cs → Goes old (c ∷ cs) at line (Ok count) old
comment_goes old c cs at line count blank comment e =
    let free = run_no_feed is_in_comment comment_no_feed cs in
    let some : c ≡ 35 = eqb-true c 35 comment in
    let none : (c == 10) ≡ false = ap (λ n. n == 10) some in
    let within = no_feed_length (run_length is_in_comment cs) cs free in
    let s : count ≡ suc (run_length is_in_comment cs) = omega arith in
    let a : at + suc (run_length is_in_comment cs) ≡ at + 1 + run_length is_in_comment cs = omega arith in
    rw s (omega arith, omega arith, rw (blank, comment, none, a) (ap (with_tokens old) (passed_over (run_length is_in_comment cs) cs (at + 1) line free)))

pub token_goes : (old new : List Token) (c : ℕ) (cs : List ℕ) (at line count : ℕ) (kind : TokenKind) → is_blank c ≡ false → (c == 35) ≡ false →
    scan (c ∷ cs) ≡ Found kind count
    → new ≡ old ++ record { kind = kind; start = at; end = at + count; line = line } ∷ [] → Goes old (c ∷ cs) at line (Ok count) new
token_goes old new c cs at line zero kind blank comment e more = let front = front_no_feed c cs kind zero e in absurd (omega arith)
token_goes old new c cs at line (suc n) kind blank comment e more =
    let front = front_no_feed c cs kind (suc n) e in
    let within = no_feed_length (suc n) (c ∷ cs) front.1 in
    let a : at + suc n ≡ at + 1 + n = omega arith in
    let d : suc n - 1 ≡ n = omega arith in
    let t : Token = record { kind = kind; start = at; end = at + suc n; line = line } in (
      omega arith,
      within,
      rw (blank, comment, e)
          (with_tokens_twice old new t (tokens_from cs (at + 1) line (suc n - 1)) more
          ∙ rw (d, front.1.0, a) (ap (with_tokens new) (passed_over n cs (at + 1) line front.1.1))),
    )

-- What is read of a text is what it stands for.
use Rattle.std.proofs.Common.{Bor, append_assoc, ◌≡◌, ℕ, ◌+◌, ◌-◌, ◌≤◌, ◌<◌, List, [], ◌∷◌, ◌++◌, length, take, drop, Ok, Err, sym, ap, ◌∙◌, subst, arith}
use Rattle.std.proofs.Common.{length-append, length-drop}
use Rattle.std.specs.Prelude.{Result, IfOk}
use Rattle.std.proofs.lemmas.List.{take-append-drop}
use Rattle.std.proofs.Math.Seq.{take-append_seam, drop-append_seam}
use Rattle.sheet_syntax_trees.specs.declared.token.Token.{Token}
use Rattle.sheet_syntax_trees.specs.declared.token.SyntaxRefusal.{SyntaxRefusal}
use Rattle.sheet_syntax_trees.specs.declared.token.SyntaxRefusal.TheVariants.{BadToken, NumberTooWide, Expected, TooNested, NoMemory}
use Rattle.sheet_syntax_trees.specs.TokenList.{TokenList}
use Rattle.sheet_syntax_trees.specs.Tokens.{Reads, lexed}
use Rattle.sheet_syntax_trees.specs.declared.tree.Tree.{Tree}
use Rattle.sheet_syntax_trees.specs.declared.tree.Formed.{Formed}
use Rattle.sheet_syntax_trees.specs.Grammar.{IsFormula, Produces, form, expression}
use Rattle.sheet_syntax_trees.specs.Reading.{Answer, ◌>>=◌, formula_at, nothing_behind, whole_formula, within}
use Rattle.sheet_syntax_trees.proofs.Answering.{ok_then}
use Rattle.sheet_syntax_trees.proofs.Soundness.{Stands, within_sound, whole_sound}
use Rattle.sheet_syntax_trees.proofs.Completeness.{read_whole, whole_given}
use Rattle.sheet_syntax_trees.proofs.Locality.{blocked, taken}
use Rattle.sheet_syntax_trees.proofs.Refusing.{first, first_at, nested, nested_at}
use Rattle.sheet_syntax_trees.proofs.Ordered.{lexed_order, order_drop}
use Rattle.sheet_syntax_trees.specs.Refusals.{IsBlocked}
use Rattle.sheet_syntax_trees.specs.Texts.{StandsFor}
use Rattle.sheet_syntax.specs.Formulas.{Parses, parsed, parsed_at, ParsesAt}

apart : {A : Type 0} (x : A) (d : SyntaxRefusal) → ◌≡◌ {A = Answer A} (Ok x) (Err d) → ⊥
apart x d e = cc

stands : (text : List ℕ) (e : Tree) → parsed text ≡ Ok e → StandsFor text e
stands text e h =
    let (tokens, is, whole) = ok_then (lexed text) (λ tokens. whole_formula (length text) tokens) e h in
    record { tokens = tokens; lexed = is; formula = whole_sound (length text) tokens e whole }

given : (text : List ℕ) (e : Tree) → StandsFor text e → parsed text ≡ Ok e
given text e s = ap (λ r. r >>= (λ tokens. whole_formula (length text) tokens)) s.lexed ∙ whole_given (length text) s.tokens e s.formula

none : (text : List ℕ) (d : SyntaxRefusal) → parsed text ≡ Err d → (e : Tree) → StandsFor text e → ⊥
none text d h e s = apart e d (sym (given text e s) ∙ h)

pub parses : (text : List ℕ) (r : Result Tree SyntaxRefusal) → Reads (λ t. t) r (parsed text) → Parses text r
parses text (Ok e) h = stands text e h
parses text (Err (BadToken k)) h = none text (BadToken k) h
parses text (Err (NumberTooWide k)) h = none text (NumberTooWide k) h
parses text (Err (Expected k)) h = (
  none text (Expected k) h,
  λ tokens is. first (length text) tokens k (lexed_order text tokens is) (sym (ap (λ r. r >>= (λ tokens. whole_formula (length text) tokens)) is) ∙ h),
)
parses text (Err (TooNested k)) h =
    (none text (TooNested k) h, λ tokens is. nested (length text) tokens k (sym (ap (λ r. r >>= (λ tokens. whole_formula (length text) tokens)) is) ∙ h))
parses text (Err NoMemory) h = tt

pub front_of : (limit room end : ℕ) (ts : List Token) (x : Formed × List Token) → 0 < limit → formula_at limit room end ts ≡ Ok x →
    Stands limit room expression ts x.0 x.1
unfolding formula_at
front_of limit room end ts x deep e = within_sound limit end deep (length ts + 1) room ts x e

pub shorter : (limit room end : ℕ) (ts : List Token) (x : Formed × List Token) → 0 < limit → formula_at limit room end ts ≡ Ok x → length x.1 ≤ length ts
shorter limit room end ts x deep e =
    let s = front_of limit room end ts x deep e in
    let same : length ts ≡ length s.front + length x.1 = ap length s.split ∙ length-append s.front x.1 in
    omega arith

stands_front : (tokens : TokenList) (from : ℕ) (x : Tree × ℕ) → from ≤ length tokens.list → x.1 ≤ length tokens.list →
    parsed_at tokens from ≡ Ok (x.0, drop x.1 tokens.list)
    → (from ≤ x.1) × IsFormula (take (x.1 - from) (drop from tokens.list)) x.0
stands_front tokens from x within below h =
    let (y, found, is) = ok_then (formula_at 32 32 tokens.text_length (drop from tokens.list)) (λ x. Ok (x.0.tree, x.1)) (x.0, drop x.1 tokens.list) h in
    let s = front_of 32 32 tokens.text_length (drop from tokens.list) y (omega arith) found in
    let both : (y.0.tree, y.1) ≡ (x.0, drop x.1 tokens.list) = pair_ok is in
    let tree : y.0.tree ≡ x.0 = ap (λ (p : Tree × List Token). p.0) both in
    let rest : y.1 ≡ drop x.1 tokens.list = ap (λ (p : Tree × List Token). p.1) both in
    let lengths : length (drop from tokens.list) ≡ length s.front + length y.1 = ap length s.split ∙ length-append s.front y.1 in
    let a : length (drop from tokens.list) ≡ length tokens.list - from = length-drop from tokens.list in
    let b : length (drop x.1 tokens.list) ≡ length tokens.list - x.1 = length-drop x.1 tokens.list in
    let c : length y.1 ≡ length (drop x.1 tokens.list) = ap length rest in
    let count : x.1 - from ≡ length s.front = omega arith in
    let front : take (x.1 - from) (drop from tokens.list) ≡ s.front = ap (λ n. take n (drop from tokens.list)) count ∙ ap (take (length s.front)) s.split
    ∙ take-append_seam s.front y.1 in
    let P : List Token → Type 0 = λ l. Produces expression l (form x.0 y.0.depth s.nest) in
    let Q : Tree → Type 0 = λ t. Produces expression s.front (form t y.0.depth s.nest) in (
      omega arith,
      record {
        depth = y.0.depth;
        nest = s.nest;
        produced = subst P (sym front) (subst Q tree s.produced);
        shallow = s.shallow;
        narrow =
            s.narrow;
      },
    ) where
      pair_ok : {p q : Tree × List Token} → ◌≡◌ {A = Answer (Tree × List Token)} (Ok p) (Ok q) → p ≡ q
      pair_ok {p} {q} e = cc

same_pair : (p q : Tree × List Token) → ◌≡◌ {A = Answer (Tree × List Token)} (Ok p) (Ok q) → p ≡ q
same_pair p q e = cc

stands_at : (tokens : TokenList) (from : ℕ) (x : Tree × ℕ) → from ≤ length tokens.list → x.1 ≤ length tokens.list →
    parsed_at tokens from ≡ Ok (x.0, drop x.1 tokens.list) → ParsesAt tokens from (Ok x)
stands_at tokens from x within below h =
    let (short, is_formula) = stands_front tokens from x within below h in (
      short,
      is_formula,
      λ t rest e.
          let (y, found, is) = ok_then (formula_at 32 32 tokens.text_length (drop from tokens.list)) (λ x. Ok (x.0.tree, x.1)) (x.0, drop x.1 tokens.list) h in
          let both = same_pair (y.0.tree, y.1) (x.0, drop x.1 tokens.list) is in
          let behind : y.1 ≡ t ∷ rest = ap (λ (p : Tree × List Token). p.1) both ∙ e in
          taken tokens.text_length (drop from tokens.list) y.0 t rest (found ∙ ap (λ l. Ok (y.0, l)) behind),
    )

err_front : (r : Answer (Formed × List Token)) (d : SyntaxRefusal) → ◌≡◌ {A = Answer (Tree × List Token)} (r >>= (λ x. Ok (x.0.tree, x.1))) (Err d) →
    ◌≡◌ {A = Answer (Formed × List Token)} r (Err d)
err_front (Ok x) d e = let wrong : ⊥ = cc in absurd wrong
err_front (Err c) d e = let same : c ≡ d = cc in ap Err same

blocked_front : (tokens : TokenList) (from k : ℕ) → parsed_at tokens from ≡ Err (Expected k) → IsBlocked tokens.text_length (drop from tokens.list) k
blocked_front tokens from k h =
    blocked tokens.text_length (drop from tokens.list) k
    (ap (λ r. r >>= nothing_behind tokens.text_length) (err_front (formula_at 32 32 tokens.text_length (drop from tokens.list)) (Expected k) h))

none_at : (tokens : TokenList) (from : ℕ) (d : SyntaxRefusal) → parsed_at tokens from ≡ Err d → (e : Tree) → IsFormula (drop from tokens.list) e → ⊥
none_at tokens from d h e f =
    apart (e, []) d (sym
    (ap (λ r. r >>= (λ x. Ok (x.0.tree, x.1))) (read_whole (drop from tokens.list) (form e f.depth f.nest) f.produced 32 tokens.text_length 32 f.shallow
    f.narrow)) ∙ h)

pub parses_at : (tokens : TokenList) (from : ℕ) (r : Result (Tree × ℕ) SyntaxRefusal) → from ≤ length tokens.list → IfOk r (λ x. x.1 ≤ length tokens.list) →
    Reads (λ x. (x.0, drop x.1 tokens.list)) r (parsed_at tokens from) → ParsesAt tokens from r
parses_at tokens from (Ok x) within below h = stands_at tokens from x within below h
parses_at tokens from (Err (BadToken k)) within below h = none_at tokens from (BadToken k) h
parses_at tokens from (Err (NumberTooWide k)) within below h = none_at tokens from (NumberTooWide k) h
parses_at tokens from (Err (Expected k)) within below h = (
  none_at tokens from (Expected k) h,
  blocked_front tokens from k h,
  λ order. first_at tokens.text_length (drop from tokens.list) k (order_drop from 0 tokens.text_length tokens.list order)
      (err_front (formula_at 32 32 tokens.text_length (drop from tokens.list)) (Expected k) h),
)
parses_at tokens from (Err (TooNested k)) within below h = (
  none_at tokens from (TooNested k) h,
  nested_at tokens.text_length (drop from tokens.list) k (err_front (formula_at 32 32 tokens.text_length (drop from tokens.list)) (TooNested k) h),
)
parses_at tokens from (Err NoMemory) within below h = tt

abbrev pub read : Formed × Bor (List Token) → Formed × List Token
read x = (x.0, x.1.now)

pub shorter_if : (end : ℕ) (ts : List Token) (r : Result (Formed × Bor (List Token)) SyntaxRefusal) → Reads read r (within 32 end (length ts + 1) 32 ts) →
    IfOk r (λ x. length x.1.now ≤ length ts)
unfolding formula_at
shorter_if end ts (Ok x) h = shorter 32 32 end ts (x.0, x.1.now) (omega arith) h
shorter_if end ts (Err e) h = tt

rest_index : (list front behind : List Token) (from : ℕ) → drop from list ≡ front ++ behind → drop (length list - length behind) list ≡ behind
rest_index list front behind from e =
    let whole : list ≡ (take from list ++ front) ++ behind = sym (take-append-drop from list) ∙ ap (λ l. take from list ++ l) e
    ∙ sym (append_assoc (take from list) front behind) in
    let long : length list ≡ length (take from list ++ front) + length behind = ap length whole ∙ length-append (take from list ++ front) behind in
    let count : length list - length behind ≡ length (take from list ++ front) = omega arith in
    ap (λ n. drop n list) count ∙ ap (drop (length (take from list ++ front))) whole ∙ drop-append_seam (take from list ++ front) behind

pub exact_at : (tokens : TokenList) (from next end : ℕ) (f : Formed) (rest behind : List Token) → end ≡ tokens.text_length → rest ≡ drop from tokens.list →
    formula_at 32 32 end rest ≡ Ok (f, behind)
    → next ≡ length tokens.list - length behind → parsed_at tokens from ≡ Ok (f.tree, drop next tokens.list)
exact_at tokens from next end f rest behind ended is e count =
    let found : formula_at 32 32 tokens.text_length (drop from tokens.list) ≡ Ok (f, behind) = ap (λ n. formula_at 32 32 n (drop from tokens.list)) (sym ended)
    ∙ ap (formula_at 32 32 end) (sym is) ∙ e in
    let s = front_of 32 32 tokens.text_length (drop from tokens.list) (f, behind) (omega arith) found in
    ap (λ r. r >>= (λ x. Ok (x.0.tree, x.1))) found
    ∙ ap (λ l. Ok (f.tree, l)) (sym (ap (λ n. drop n tokens.list) count ∙ rest_index tokens.list s.front behind from s.split))

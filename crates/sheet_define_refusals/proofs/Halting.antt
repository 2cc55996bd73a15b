-- Where a reader stops, the tokens before begin what it reads; lemmas that lift this from a part to the whole.
use Rattle.std.proofs.Common.{◌≡◌, ℕ, ◌+◌, ◌-◌, ◌<◌, ◌≤◌, max, List, [], ◌∷◌, ◌++◌, true, false, Some, None, Ok, Err, refl, sym, ap, ◌∙◌, subst, arith}
use Rattle.std.proofs.Common.{append_assoc, inl, inr}
use Rattle.std.specs.Prelude.{Bool, Option, if◌then◌else◌, ◌⊎◌}
use Rattle.sheet_syntax_trees.specs.declared.token.Token.{Token}
use Rattle.sheet_syntax_trees.specs.declared.token.TokenKind.TheVariants as kind
use Rattle.sheet_syntax_trees.specs.declared.token.SyntaxRefusal.{SyntaxRefusal}
use Rattle.sheet_syntax_trees.specs.declared.token.SyntaxRefusal.TheVariants.{Expected, TooNested}
use Rattle.sheet_syntax_trees.specs.declared.tree.Tree.{Tree}
use Rattle.sheet_syntax_trees.specs.Grammar.{Produces, Form, expression}
use Rattle.sheet_syntax_trees.specs.Reading.{Answer, ◌>>=◌, offset, or_expected, with_rest, name_of, name_at, formula_at}
use Rattle.sheet_syntax_trees.proofs.Answering.{name_some, err_then}
use Rattle.sheet_define_reading.specs.declared.mark.Mark.{Mark}
use Rattle.sheet_define_reading.specs.Marks.{mark_of, mark_rank, same_mark}
use Rattle.sheet_define_reading.specs.Reading as reading
use Rattle.sheet_define_reading.specs.Reading.{Bounds, Reader, Turn, after, expect, with_front, optional, mark_at}
use Rattle.sheet_define_reading.proofs.MarkLemmas.{spelling, spelled, same_is}
use Rattle.std.specs.Prelude.{codes}
use Rattle.sheet_syntax_trees.specs.Grammar.{Nonterminal}
use Rattle.sheet_syntax_trees.specs.Refusals.{IsTooNested, a_bracket, a_form}
use Rattle.sheet_syntax_trees.proofs.Contexts.{zeros, a_zero, spelled as dummy}
use Rattle.sheet_syntax_trees.proofs.Soundness.{nonempty}
use Rattle.sheet_syntax_trees.proofs.Stopping.{Stop, waits, crowded, deep, formula_stops}
use Rattle.sheet_define_reading.proofs.Soundness.{formula_sound, limits}
use Rattle.sheet_define_refusals.proofs.Moving.{Moved, FormOf, Expr, Aim, form_moved}

-- some tokens that are such a piece before any others
pub record Sample (P : ℕ → List Token → List Token → Type 0) : Type 0 where
  pub tokens : List Token
  pub least : ℕ
  pub whole : (m : ℕ) → least ≤ m → (vs : List Token) → P m (tokens ++ vs) vs

-- Behind the front the second piece may stand: with some tokens behind it, all is the first one, in which so many more
-- blocks are opened in each other.
pub record Context (P Q : ℕ → List Token → List Token → Type 0) (front : List Token) : Type 0 where
  pub more : List Token
  pub least : ℕ
  pub blocks : ℕ
  pub whole : (m : ℕ) → least ≤ m → (us vs : List Token) → Q m us (more ++ vs) → P (m + blocks) (front ++ us) vs

-- with no block opened
pub flat : (P Q : ℕ → List Token → List Token → Type 0) (front more : List Token) (least : ℕ) →
    ((m : ℕ) → least ≤ m → (us vs : List Token) → Q m us (more ++ vs) → P m (front ++ us) vs) → Context P Q front
flat P Q front more least h =
    record {
      more = more;
      least = least;
      blocks = 0;
      whole = λ m some us vs q. subst (λ k. P k (front ++ us) vs) (let e : m ≡ m + 0 = omega arith in
          e) (h m some us vs q);
    }

-- why tokens are refused at that offset: for what stands there, for what is nested too deeply in a formula or a target,
-- or for a block of which that is known
pub data Cause (P : ℕ → List Token → List Token → Type 0) (B : ℕ → Type 0) (end : ℕ) (ts : List Token) (e : SyntaxRefusal) (at : ℕ) : Type 0 where
  expected : e ≡ Expected at → Cause P B end ts e at
  formula : (front rest : List Token) → ts ≡ front ++ rest → Context P Expr front → IsTooNested end rest at → e ≡ TooNested at → Cause P B end ts e at
  target : (front rest : List Token) → ts ≡ front ++ rest → Context P Aim front → IsTooNested end rest at → e ≡ TooNested at → Cause P B end ts e at
  a_block : B at → e ≡ TooNested at → Cause P B end ts e at

-- the tokens before the refusal begin the piece
pub record Halt (P : ℕ → List Token → List Token → Type 0) (B : ℕ → Type 0) (end : ℕ) (ts : List Token) (e : SyntaxRefusal) : Type 0 where
  pub front : List Token
  pub rest : List Token
  pub split : ts ≡ front ++ rest
  pub more : List Token
  pub least : ℕ
  pub whole : (m : ℕ) → least ≤ m → (vs : List Token) → P m (front ++ (more ++ vs)) vs
  pub cause : Cause P B end ts e (offset end rest)

pub context_then : (P Q R : ℕ → List Token → List Token → Type 0) (f g : List Token) → Context P Q f → Context Q R g → Context P R (f ++ g)
context_then P Q R f g c d =
    record {
      more = d.more ++ c.more;
      least = max c.least d.least;
      blocks = d.blocks + c.blocks;
      whole = λ m some us vs r.
          let sum : (m + d.blocks) + c.blocks ≡ m + (d.blocks + c.blocks) = omega arith in
          subst (λ l. P (m + (d.blocks + c.blocks)) l vs) (sym (append_assoc f g us))
          (subst (λ k. P k (f ++ (g ++ us)) vs) sum
          (c.whole (m + d.blocks) (omega (arith, some)) (g ++ us) vs
          (d.whole m (omega (arith, some)) us (c.more ++ vs) (subst (λ l. R m us l) (append_assoc d.more c.more vs) r))));
    }

lifted_cause : (P Q : ℕ → List Token → List Token → Type 0) (B : ℕ → Type 0) (end : ℕ) (front us ts : List Token) (e : SyntaxRefusal) (at : ℕ) →
    Context P Q front → ts ≡ front ++ us → Cause Q B end us e at → Cause P B end ts e at
lifted_cause P Q B end front us ts e at c split (expected is) = expected is
lifted_cause P Q B end front us ts e at c split (formula f rest here d nests is) =
    formula (front ++ f) rest (split ∙ ap (λ l. front ++ l) here ∙ sym (append_assoc front f rest)) (context_then P Q Expr front f c d) nests is
lifted_cause P Q B end front us ts e at c split (target f rest here d nests is) =
    target (front ++ f) rest (split ∙ ap (λ l. front ++ l) here ∙ sym (append_assoc front f rest)) (context_then P Q Aim front f c d) nests is
lifted_cause P Q B end front us ts e at c split (a_block b is) = a_block b is

pub lifted : (P Q : ℕ → List Token → List Token → Type 0) (B : ℕ → Type 0) (end : ℕ) (front us ts : List Token) (e : SyntaxRefusal) → Context P Q front →
    ts ≡ front ++ us → Halt Q B end us e → Halt P B end ts e
lifted P Q B end front us ts e c split h =
    record {
      front = front ++ h.front;
      rest = h.rest;
      split = split ∙ ap (λ l. front ++ l) h.split ∙ sym (append_assoc front h.front h.rest);
      more = h.more ++ c.more;
      least = max c.least h.least + c.blocks;
      whole = λ m some vs.
          let rest : (m - c.blocks) + c.blocks ≡ m = omega (arith, some) in
          subst (λ l. P m l vs) (ap (λ l. front ++ (h.front ++ l)) (sym (append_assoc h.more c.more vs))
          ∙ sym (append_assoc front h.front ((h.more ++ c.more) ++ vs)))
          (subst (λ k. P k (front ++ (h.front ++ (h.more ++ (c.more ++ vs)))) vs) rest
          (c.whole (m - c.blocks) (omega (arith, some)) (h.front ++ (h.more ++ (c.more ++ vs))) vs
          (h.whole (m - c.blocks) (omega (arith, some)) (c.more ++ vs))));
      cause = lifted_cause P Q B end front us ts e (offset end h.rest) c split h.cause;
    }

-- with other knowledge of blocks
pub known : (P : ℕ → List Token → List Token → Type 0) (B D : ℕ → Type 0) (end : ℕ) (ts : List Token) (e : SyntaxRefusal) → ((at : ℕ) → B at → D at) →
    Halt P B end ts e → Halt P D end ts e
known P B D end ts e h s =
    record { front = s.front; rest = s.rest; split = s.split; more = s.more; least = s.least; whole = s.whole; cause = by (offset end s.rest) s.cause } where
      by : (at : ℕ) → Cause P B end ts e at → Cause P D end ts e at
      by at (expected is) = expected is
      by at (formula f rest here d nests is) = formula f rest here d nests is
      by at (target f rest here d nests is) = target f rest here d nests is
      by at (a_block b is) = a_block (h at b) is

-- at the first token something else could stand
pub halt_here : (P : ℕ → List Token → List Token → Type 0) (B : ℕ → Type 0) (end : ℕ) (ts : List Token) (e : SyntaxRefusal) → Sample P →
    e ≡ Expected (offset end ts) → Halt P B end ts e
halt_here P B end ts e s is = record { front = []; rest = ts; split = refl; more = s.tokens; least = s.least; whole = s.whole; cause = expected is }

-- a piece behind a token, and behind another piece
abbrev pub Behind : Token → (ℕ → List Token → List Token → Type 0) → ℕ → List Token → List Token → Type 0
Behind t P m xs ws = P m (t ∷ xs) ws

abbrev pub After : (Q P : ℕ → List Token → List Token → Type 0) → ℕ → List Token → List Token → Type 0
After Q P m xs ws = (ys : List Token) → Q m ys xs → P m ys ws

pub behind_token : (P : ℕ → List Token → List Token → Type 0) (t : Token) → Context P (Behind t P) (t ∷ [])
behind_token P t = flat P (Behind t P) (t ∷ []) [] 0 (λ m some us vs r. r)

pub mark_err : {C : Type 0} (end : ℕ) (m : Mark) → 0 < mark_rank m → (ts : List Token) (k : List Token → Answer C) (e : SyntaxRefusal) →
    ◌≡◌ {A = Answer C} (expect end m ts >>= k) (Err e)
    → (e ≡ Expected (offset end ts)) ⊎ ((t : Token) × (us : List Token) × (ts ≡ t ∷ us) × (t.kind ≡ spelling m) × (◌≡◌ {A = Answer C} (k us) (Err e)))
mark_err end m some [] k e h = inl cc
mark_err {C} end m some (t ∷ ts) k e h = by (same_mark (mark_of t.kind) m) refl h where
  by : (b : Bool) → same_mark (mark_of t.kind) m ≡ b → ◌≡◌ {A = Answer C} (or_expected t.start (if b then Some ts else None) >>= k) (Err e)
      → (e ≡ Expected t.start) ⊎ ((u : Token) × (us : List Token) × (t ∷ ts ≡ u ∷ us) × (u.kind ≡ spelling m) × (◌≡◌ {A = Answer C} (k us) (Err e)))
  by true is h = inr (t, ts, refl, spelled t.kind m (same_is (mark_of t.kind) m is) some, h)
  by false is h = inl cc

pub name_err : {C : Type 0} (end : ℕ) (ts : List Token) (k : List ℕ × List Token → Answer C) (e : SyntaxRefusal) →
    ◌≡◌ {A = Answer C} (name_at end ts >>= k) (Err e)
    → (e ≡ Expected (offset end ts)) ⊎
    ((t : Token) × (name : List ℕ) × (us : List Token) × (ts ≡ t ∷ us) × (t.kind ≡ kind.Name name) × (◌≡◌ {A = Answer C} (k (name, us)) (Err e)))
name_err end [] k e h = inl cc
name_err {C} end (t ∷ ts) k e h = by (name_of t.kind) refl h where
  by : (o : Option (List ℕ)) → name_of t.kind ≡ o → ◌≡◌ {A = Answer C} (with_rest ts (or_expected t.start o) >>= k) (Err e)
      → (e ≡ Expected t.start) ⊎ ((u : Token) × (name : List ℕ) × (us : List Token) × (t ∷ ts ≡ u ∷ us) × (u.kind ≡ kind.Name name) ×
      (◌≡◌ {A = Answer C} (k (name, us)) (Err e)))
  by (Some name) is h = inr (t, name, ts, refl, name_some t.kind name is, h)
  by None is h = inl cc

-- a piece, and what stands behind it
pub halt_part : (P Q : ℕ → List Token → List Token → Type 0) (B : ℕ → Type 0) {A C : Type 0} (end : ℕ) (ts : List Token) (r : Answer (A × List Token))
    (k : A × List Token → Answer C) (e : SyntaxRefusal) → ◌≡◌ {A = Answer C} (r >>= k) (Err e) → Sample (After Q P)
    → (◌≡◌ {A = Answer (A × List Token)} r (Err e) → Halt Q B end ts e) →
    ((x : A) (us : List Token) → ◌≡◌ {A = Answer (A × List Token)} r (Ok (x, us)) → Moved Q ts us)
    → ((x : A) (us : List Token) → ◌≡◌ {A = Answer (A × List Token)} r (Ok (x, us)) → ◌≡◌ {A = Answer C} (k (x, us)) (Err e) → Halt (After Q P) B end us e) →
    Halt P B end ts e
halt_part P Q B end ts r k e h s inner moved next =
    elim (err_then r k e h) [
      | inl is ↦ lifted P Q B end [] ts ts e (flat P Q [] s.tokens s.least (λ m some us vs q. s.whole m some vs us q)) refl (inner is)
      | inr (x, ex, more) ↦
          (let q = moved x.0 x.1 ex in
          lifted P (After Q P) B end q.front x.1 ts e (flat P (After Q P) q.front [] q.least (λ m some us vs r. r (q.front ++ us) (q.again m some us))) q.split
          (next x.0 x.1 ex more))
    ]

-- a piece that ends the whole
pub halt_as : (P Q : ℕ → List Token → List Token → Type 0) (B : ℕ → Type 0) (end : ℕ) (ts : List Token) (e : SyntaxRefusal) →
    ((m : ℕ) (us vs : List Token) → Q m us vs → P m us vs) → Halt Q B end ts e → Halt P B end ts e
halt_as P Q B end ts e join h = lifted P Q B end [] ts ts e (flat P Q [] [] 0 (λ m some us vs q. join m us vs q)) refl h

pub last_err : {A C : Type 0} (r : Answer (A × List Token)) (f : A × List Token → C) (e : SyntaxRefusal) → ◌≡◌ {A = Answer C} (r >>= (λ x. Ok (f x))) (Err e) →
    ◌≡◌ {A = Answer (A × List Token)} r (Err e)
last_err r f e h =
    elim (err_then r (λ x. Ok (f x)) e h) [
      | inl is ↦ is
      | inr (x, ex, more) ↦ (let wrong : ⊥ = cc in absurd wrong)
    ]

pub halt_last : (P Q : ℕ → List Token → List Token → Type 0) (B : ℕ → Type 0) {A C : Type 0} (end : ℕ) (ts : List Token) (r : Answer (A × List Token))
    (f : A × List Token → C) (e : SyntaxRefusal) → ◌≡◌ {A = Answer C} (r >>= (λ x. Ok (f x))) (Err e)
    → ((m : ℕ) (us vs : List Token) → Q m us vs → P m us vs) → (◌≡◌ {A = Answer (A × List Token)} r (Err e) → Halt Q B end ts e) → Halt P B end ts e
halt_last P Q B end ts r f e h join inner = halt_as P Q B end ts e join (inner (last_err r f e h))

-- ---- tokens that may stand anywhere

abbrev pub name_dummy : Token
name_dummy = dummy (kind.Name (codes "x"))

abbrev pub word : Mark → Token
word m = dummy (spelling m)

pub zero_form : (n : Nonterminal) (m : ℕ) → 1 ≤ m → (vs : List Token) → FormOf n m (zeros ++ vs) vs
zero_form n m some vs l h =
    (_, record { front = zeros; depth = 1; nest = 0; split = refl; produced = a_zero n; shallow = omega (arith, some, h); narrow = omega arith })

-- ---- formulas

formula_refused : (s : Bounds) (ts : List Token) (e : SyntaxRefusal) → reading.formula s ts ≡ Err e → formula_at s.depth s.nest s.end ts ≡ Err e
unfolding reading.formula
formula_refused s ts e h = last_err (formula_at s.depth s.nest s.end ts) (λ x. (x.0.tree, x.1)) e h

-- a form may stand where some form stands
whole_form : (front more vs : List Token) (w : Form) → Produces expression (front ++ more) w → (m : ℕ) → max w.depth w.nest ≤ m →
    Expr m (front ++ (more ++ vs)) vs
whole_form front more vs w p m some l h = (
  w.tree,
  record {
    front = front ++ more;
    depth = w.depth;
    nest = w.nest;
    split = sym (append_assoc front more vs);
    produced = p;
    shallow = omega (arith, some, h);
    narrow = omega (arith, some, h);
  },
)

nowhere : Context Expr Expr []
nowhere = flat Expr Expr [] [] 0 (λ m some us vs r. r)

pub formula_halts : (B : ℕ → Type 0) (end : ℕ) (ts : List Token) (e : SyntaxRefusal) → reading.formula (reading.usual end) ts ≡ Err e → Halt Expr B end ts e
formula_halts B end ts e h = by (formula_stops 32 32 end (omega arith) ts e (formula_refused (reading.usual end) ts e h)) where
  by : Stop 32 32 end expression ts e → Halt Expr B end ts e
  by (waits front rest more w split p same) =
      record {
        front = front;
        rest = rest;
        split = split;
        more = more;
        least = max w.depth w.nest;
        whole = λ m some vs. whole_form front more vs w p m some;
        cause = expected same;
      }
  by (crowded front rest more b w split bracket raised p same) =
      record {
        front = front;
        rest = b ∷ rest;
        split = split;
        more = b ∷ more;
        least = max w.depth w.nest;
        whole = λ m some vs. whole_form front (b ∷ more) vs w p m some;
        cause =
            formula [] ts refl nowhere
            (a_bracket front rest b split bracket raised.is
            (record { behind = more; whole = w; produced = subst (λ l. Produces expression l w) (sym (append_assoc front (b ∷ []) more)) p }) refl) same;
      }
  by (deep front mid rest n f split a p depth same) =
      let (w, q, d) = a.whole mid f p in
      let first = nonempty n mid f p in
      let here : offset end (mid ++ rest) ≡ offset end mid = ap (λ l. offset end (l ++ rest)) first.is ∙ sym (ap (offset end) first.is) in
      record {
        front = front;
        rest = mid ++ rest;
        split = split;
        more = mid ++ a.behind;
        least = max w.depth w.nest;
        whole = λ m some vs. whole_form front (mid ++ a.behind) vs w q m some;
        cause = formula [] ts refl nowhere (a_form front mid rest n f split a p (depth ∙ omega arith) here) (same ∙ ap TooNested (sym here));
      }

pub formula_sound_moved : (end : ℕ) (ts us : List Token) (v : Tree) → reading.formula (reading.usual end) ts ≡ Ok (v, us) → Moved Expr ts us
formula_sound_moved end ts us v e = form_moved (limits (reading.usual end)) expression ts us v (formula_sound (reading.usual end) (omega arith) ts (v, us) e)

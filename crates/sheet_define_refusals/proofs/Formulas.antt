-- Formulas and targets stop at tokens that go on with none.
use Rattle.std.proofs.Common.{◌≡◌, ℕ, suc, ◌+◌, ◌-◌, ◌<◌, ◌≤◌, List, [], ◌∷◌, ◌++◌, length, true, false, None, Ok, Err, refl, sym, ap, ◌∙◌, subst, arith}
use Rattle.std.proofs.Common.{append_assoc, length-append, inl, inr}
use Rattle.std.specs.Prelude.{◌⊎◌}
use Rattle.std.proofs.lemmas.Bool.{cases_Bool}
use Rattle.sheet_syntax_trees.specs.declared.token.Token.{Token}
use Rattle.sheet_syntax_trees.specs.declared.token.TokenKind.{TokenKind}
use Rattle.sheet_syntax_trees.specs.declared.token.TokenKind.TheVariants as kind
use Rattle.sheet_syntax_trees.specs.declared.token.SyntaxRefusal.{SyntaxRefusal}
use Rattle.sheet_syntax_trees.specs.declared.token.SyntaxRefusal.TheVariants.{Expected, TooNested}
use Rattle.sheet_syntax_trees.specs.Order.{InOrder}
use Rattle.sheet_syntax_trees.specs.declared.tree.Tree.{Tree}
use Rattle.sheet_syntax_trees.specs.declared.tree.Formed.{Formed}
use Rattle.sheet_syntax_trees.specs.Grammar.{Produces, Form, form, expression, postfix, atom}
use Rattle.sheet_syntax_trees.specs.Reading as trees
use Rattle.sheet_syntax_trees.specs.Reading.{Answer, ◌>>=◌, offset, line_of, or_expected, with_rest, name_of, name_at, sign_at, formula_at, within, setting}
use Rattle.sheet_syntax_trees.specs.Reading.{step_of, made}
use Rattle.sheet_syntax_trees.proofs.Answering.{ok_then, err_then}
use Rattle.sheet_define_reading.specs.Reading as reading
use Rattle.sheet_define_reading.specs.Reading.{Bounds, Reader, Turn, after, expect, with_front, optional, mark_at}
use Rattle.sheet_syntax_trees.specs.declared.sign.Sign.TheVariants as sign
use Rattle.sheet_syntax_trees.specs.Signs.{sign_of, same_sign}
use Rattle.sheet_syntax_trees.specs.declared.operators.Level.TheVariants as level
use Rattle.sheet_syntax_trees.specs.declared.operators.Prefix.TheVariants as prefix
use Rattle.sheet_syntax_trees.specs.Grammar.{unary, no_choice, an_operand, no_prefix, a_prefix, no_step}
use Rattle.sheet_syntax_trees.specs.Refusals.{NoneBegins, IsBlocked}
use Rattle.sheet_syntax_trees.proofs.Contexts.{zeros, a_zero}
use Rattle.sheet_syntax_trees.proofs.Soundness.{Stands, within_sound, atom_sound}
use Rattle.sheet_syntax_trees.proofs.Completeness.{read_before, atom_before}
use Rattle.sheet_syntax_trees.proofs.Locality.{blocked_at, blocked_behind}
use Rattle.std.specs.Prelude.{codes}
use Rattle.sheet_syntax_trees.specs.declared.operators.Level.{Level}
use Rattle.sheet_syntax_trees.specs.declared.operators.Prefix.{Prefix}
use Rattle.sheet_syntax_trees.proofs.SignLemmas.{same_is as same_sign_is}
use Rattle.sheet_syntax_trees.proofs.Refusing.{divided}
use Rattle.sheet_define_refusals.proofs.Widening.{Wider, same, nested, within_wider, formula_wider, atom_wider}
use Rattle.sheet_define_refusals.proofs.Locality.{Same, same_nil, same_cons, Ordered, Det, Given, Refused, Reads, Any, Loose, first}
use Rattle.sheet_define_refusals.proofs.Words.{wide}

-- ---- parts of a list

divide : {A : Type 0} (xs us ys ws : List A) → xs ++ us ≡ ys ++ ws →
    ((t : A) × (h : List A) × (ys ≡ xs ++ t ∷ h) × (us ≡ t ∷ (h ++ ws))) ⊎ ((h : List A) × (xs ≡ ys ++ h) × (ws ≡ h ++ us))
divide [] us [] ws e = inr ([], refl, sym e)
divide [] us (y ∷ ys) ws e = inl (y, ys, refl, e)
divide (x ∷ xs) us [] ws e = inr (x ∷ xs, refl, sym e)
divide (x ∷ xs) us (y ∷ ys) ws e =
    let head : x ≡ y = cc in
    let tail : xs ++ us ≡ ys ++ ws = cc in
    elim (divide xs us ys ws tail) [
      | inl (t, h, a, b) ↦ inl (t, h, ap (λ l. y ∷ l) a ∙ ap (λ z. z ∷ (xs ++ t ∷ h)) (sym head), b)
      | inr (h, a, b) ↦ inr (h, ap (λ l. x ∷ l) a ∙ ap (λ z. z ∷ (ys ++ h)) head, b)
    ]

-- no formula begins with the front and the token behind it
none_begins : (front rest : List Token) → NoneBegins front rest → (t : Token) (us behind : List Token) (f : Form) → rest ≡ t ∷ us →
    Produces expression (front ++ t ∷ behind) f → ⊥
none_begins front rest none t us behind f is p = let here : NoneBegins front (t ∷ us) = subst (λ l. NoneBegins front l) is none in here behind f p

same_first : (t : Token) (us vs rest : List Token) → Same rest vs → vs ≡ t ∷ us → (ws : List Token) × (rest ≡ t ∷ ws)
same_first t us vs rest s is = same_cons t us rest (record { is = sym (s.is ∙ ap first is) })

same_loose : (h rest vs : List Token) → Same rest vs → Loose (h ++ vs) → Loose (h ++ rest)
same_loose [] [] vs s l = subst Loose (same_nil vs s) l
same_loose [] (t ∷ ts) vs s l = let (us, e) = same_cons t ts vs s in let k = subst Loose e l in record { is = k.is }
same_loose (t ∷ h) rest vs s l = record { is = l.is }

same_length : (h us : List Token) → us ≡ h ++ us → h ≡ []
same_length [] us e = refl
same_length (t ∷ h) us e =
    let n : length us ≡ length (h ++ us) + 1 = ap length e ∙ (let l : length (t ∷ (h ++ us)) ≡ length (h ++ us) + 1 = omega arith in l) in
    let m = length-append h us in absurd (omega (arith, n, m))

ok_not_err : {A P : Type 0} (x : A) (e : SyntaxRefusal) → ◌≡◌ {A = Answer A} (Ok x) (Err e) → P
ok_not_err x e h = let wrong : ⊥ = cc in absurd wrong

rest_is : {A : Type 0} (x y : A) (us vs : List Token) → ◌≡◌ {A = Answer (A × List Token)} (Ok (x, us)) (Ok (y, vs)) → us ≡ vs
rest_is {A} x y us vs e = let both : (x, us) ≡ (y, vs) = cc in ap (λ (p : A × List Token). p.1) both

wider_ok : {A : Type 0} (r w : Answer A) (x : A) → Wider A r w → r ≡ Ok x → w ≡ Ok x
wider_ok r w x (same e) h = sym e ∙ h
wider_ok r w x (nested o e) h = ok_not_err x (TooNested o) (sym h ∙ e)

wider_err : {A : Type 0} (r w : Answer A) (o : ℕ) → Wider A r w → ◌≡◌ {A = Answer A} r (Err (Expected o)) → ◌≡◌ {A = Answer A} w (Err (Expected o))
wider_err r w o (same e) h = sym e ∙ h
wider_err r w o (nested p e) h = let both : ◌≡◌ {A = Answer _} (Err (Expected o)) (Err (TooNested p)) = sym h ∙ e in let wrong : ⊥ = cc in absurd wrong

module _ (end d n : ℕ) where
  abbrev W : Bounds
  W = wide end d n

  abbrev U : Bounds
  U = reading.usual end

  abbrev D : ℕ
  D = d + 32

  abbrev N : ℕ
  N = n + 32

  -- what is read of these bounds, with greater ones
  tree_of : (s : Bounds) (ts ws : List Token) (v : Tree) → reading.formula s ts ≡ Ok (v, ws) → (f : Formed) × (formula_at s.depth s.nest s.end ts ≡ Ok (f, ws))
  unfolding reading.formula
  tree_of s ts ws v e =
      let (x, ex, e1) = ok_then (formula_at s.depth s.nest s.end ts) (λ x. Ok (x.0.tree, x.1)) (v, ws) e in
      let rest = rest_is x.0.tree v x.1 ws e1 in
      (x.0, ex ∙ ap (λ l. Ok (x.0, l)) rest)

  tree_refused : (s : Bounds) (ts : List Token) (e : SyntaxRefusal) → reading.formula s ts ≡ Err e → formula_at s.depth s.nest s.end ts ≡ Err e
  unfolding reading.formula
  tree_refused s ts e h =
      elim (err_then (formula_at s.depth s.nest s.end ts) (λ x. Ok (x.0.tree, x.1)) e h) [
        | inl r ↦ r
        | inr (x, ex, r) ↦ ok_not_err (x.0.tree, x.1) e r
      ]

  formula_stands : (ts ws : List Token) (v : Tree) → reading.formula W ts ≡ Ok (v, ws) → (f : Formed) × Stands D N expression ts f ws
  unfolding formula_at
  formula_stands ts ws v e =
      let (f, ef) = tree_of W ts ws v e in
      let more = wider_ok (formula_at d n end ts) (formula_at D N end ts) (f, ws) (formula_wider end d D n N (omega arith) (omega arith) ts) ef in
      (f, within_sound D end (omega arith) (length ts + 1) N ts (f, ws) more)

  -- a formula at the front, behind which none goes on, is read
  formula_read : (ts ws : List Token) (f : Formed) → (s : Stands D N expression ts f ws) → (us : List Token) → Loose us →
      (x : Formed) × (formula_at D N end (s.front ++ us) ≡ Ok (x, us))
  unfolding formula_at
  formula_read ts ws f s us loose =
      let long = length-append s.front us in
      (_, read_before s.front (form f.tree f.depth s.nest) s.produced D end (length (s.front ++ us) + 1) N s.shallow s.narrow (omega (arith, long)) us loose.is)

  abbrev pub Formulas : List Token → List Token → Type 0
  Formulas = Reads ℕ Tree Loose (λ e vs. reading.formula W vs)

  formula_stays : (ts us : List Token) (f : Formed) (front : List Token) → ts ≡ front ++ us → formula_at 32 32 end ts ≡ Ok (f, us) → Ordered end ts →
      (vs ws : List Token) → Same us vs → Formulas (front ++ vs) ws → ws ≡ vs
  formula_stays ts us f front split e order vs ws s c =
      let (g, k) = formula_stands (front ++ vs) ws c.value c.is in
      elim (divide front vs k.front ws k.split) [
        | inl (t, h, longer, is) ↦
            (let (rest, here) = same_first t (h ++ ws) vs us s is in
            let b = blocked_behind end ts t.start f t rest refl (e ∙ ap (λ l. Ok (f, l)) here) in
            let (fronts, rests) = divided order.low end b.front front b.rest us (subst (λ l. InOrder order.low end l) b.split order.order) (sym b.split ∙ split)
            (sym b.here ∙ ap (offset end) (sym here)) in
            let none : NoneBegins front us = subst (λ l. NoneBegins l us) fronts (subst (λ l. NoneBegins b.front l) rests b.none) in
            absurd (none_begins front us none t rest h _ here (subst (λ l. Produces expression l (form g.tree g.depth k.nest)) longer k.produced)))
        | inr (h, shorter, is) ↦
            (let whole : ts ≡ k.front ++ (h ++ us) = split ∙ ap (λ l. l ++ us) shorter ∙ append_assoc k.front h us in
            let (x, read) = formula_read (front ++ vs) ws g k (h ++ us) (same_loose h us vs s (subst Loose is c.left)) in
            let more = wider_ok (formula_at 32 32 end ts) (formula_at D N end ts) (f, us) (formula_wider end 32 D 32 N (omega arith) (omega arith) ts) e in
            let both = rest_is f x us (h ++ us) (sym more ∙ ap (formula_at D N end) whole ∙ read) in
            is ∙ ap (λ l. l ++ vs) (same_length h us both))
      ]

  formula_none : (ts front rest : List Token) (o : ℕ) → ts ≡ front ++ rest → NoneBegins front rest → formula_at 32 32 end ts ≡ Err (Expected o) →
      (vs ws : List Token) → Same rest vs → Formulas (front ++ vs) ws → ⊥
  formula_none ts front rest o split none e vs ws s c =
      let (g, k) = formula_stands (front ++ vs) ws c.value c.is in
      elim (divide front vs k.front ws k.split) [
        | inl (t, h, longer, is) ↦
            (let (us, here) = same_first t (h ++ ws) vs rest s is in
            none_begins front rest none t us h _ here (subst (λ l. Produces expression l (form g.tree g.depth k.nest)) longer k.produced))
        | inr (h, shorter, is) ↦
            (let whole : ts ≡ k.front ++ (h ++ rest) = split ∙ ap (λ l. l ++ rest) shorter ∙ append_assoc k.front h rest in
            let (x, read) = formula_read (front ++ vs) ws g k (h ++ rest) (same_loose h rest vs s (subst Loose is c.left)) in
            let more = wider_err (formula_at 32 32 end ts) (formula_at D N end ts) o (formula_wider end 32 D 32 N (omega arith) (omega arith) ts) e in
            ok_not_err (x, h ++ rest) (Expected o) (sym read ∙ ap (formula_at D N end) (sym whole) ∙ more))
      ]

  pub formula_det : (ts : List Token) → Ordered end ts → Det Tree end (reading.formula U ts) Formulas ts
  unfolding formula_at
  formula_det ts order =
      record {
        given = λ v us e.
            let (f, ef) = tree_of U ts us v e in
            let s = within_sound 32 end (omega arith) (length ts + 1) 32 ts (f, us) ef in
            record { front = s.front; split = s.split; again = formula_stays ts us f s.front s.split ef order };
        refused = λ o e.
            let b = blocked_at end ts o (tree_refused U ts (Expected o) e) in
            record {
              front = b.front;
              rest = b.rest;
              split = b.split;
              here = b.here;
              none = formula_none ts b.front b.rest o b.split b.none (tree_refused U ts (Expected o) e);
            };
      }

  -- ---- the atom that a target begins with

  abbrev minus_token : Token
  minus_token = record { kind = kind.Symbol (codes "-"); start = 0; end = 0; line = 0 }

  pub as_expression : (ts : List Token) (f : Form) → Produces unary ts f → Produces expression ts f
  as_expression ts f p =
      no_choice ts f (an_operand level.Or ts f
      (an_operand level.And ts f
      (no_prefix prefix.Not ts f
      (an_operand level.Comparison ts f (an_operand level.Sets ts f (an_operand level.Sums ts f (an_operand level.Products ts f p)))))))

  minus_formula : (ts : List Token) (f : Form) → Produces postfix ts f → (g : Form) × Produces expression (minus_token ∷ ts) g
  minus_formula ts f p = (_, as_expression (minus_token ∷ ts) _ (a_prefix prefix.Minus minus_token ts f refl (no_prefix prefix.Minus ts f p)))

  abbrev Atoms : List Token → List Token → Type 0
  Atoms = Reads ℕ Formed Any (λ e vs. trees.atom (setting d end e n) vs)

  atom_stands : (l m turns : ℕ) → 0 < l → (ts ws : List Token) (f : Formed) → trees.atom (setting l end turns m) ts ≡ Ok (f, ws) → Stands l m atom ts f ws
  atom_stands l m turns positive ts ws f e = atom_sound (setting l end turns m) positive (within_sound l end positive turns (m - 1)) ts (f, ws) e

  atom_more : (l m turns : ℕ) → l ≤ D → m ≤ N → (ts : List Token) →
      Wider (Formed × List Token) (trees.atom (setting l end turns m) ts) (trees.atom (setting D end turns N) ts)
  atom_more l m turns deeper roomier ts =
      atom_wider end l D m N deeper roomier _ _ _ _ (within_wider end l D deeper turns (m - 1) (N - 1) (omega arith))
      (within_wider end l D deeper turns m N roomier) ts

  atom_read : (ts ws : List Token) (f : Formed) (s : Stands D N atom ts f ws) (turns : ℕ) → length s.front ≤ turns → (us : List Token) →
      (x : Formed) × (trees.atom (setting D end turns N) (s.front ++ us) ≡ Ok (x, us))
  atom_read ts ws f s turns short us = (_, atom_before s.front (form f.tree f.depth s.nest) s.produced D end turns N s.shallow s.narrow short us)

  chain_err : (s : trees.Setting) (l : Level) (p : trees.Reader) (ts : List Token) (e : SyntaxRefusal) → p ts ≡ Err e → trees.chain s l p ts ≡ Err e
  unfolding trees.chain
  chain_err s l p ts e h = ap (λ r. r >>= (λ x. trees.more s l p (length x.1) (offset s.end ts) (line_of ts) x.0 x.1)) h

  prefixes_err : (s : trees.Setting) (p : Prefix) (operand : trees.Reader) (ts : List Token) (e : SyntaxRefusal) →
      operand (trees.behind_prefixes p ts) ≡ Err e → trees.with_prefixes s p operand ts ≡ Err e
  unfolding trees.with_prefixes
  prefixes_err s p operand ts e h = ap (λ r. r >>= (λ x. with_rest x.1 (trees.under_prefixes s.limit p (trees.prefixes p ts) (Ok x.0)))) h

  postfix_err : (s : trees.Setting) (ts : List Token) (e : SyntaxRefusal) → trees.atom s ts ≡ Err e → trees.postfix s ts ≡ Err e
  unfolding trees.postfix
  postfix_err s ts e h = ap (λ r. r >>= (λ x. trees.steps s.limit s.end (offset s.end ts) (line_of ts) x.0 x.1)) h

  behind_minus : (ts : List Token) → same_sign (sign_at ts) sign.Minus ≡ false → trees.behind_prefixes prefix.Minus (minus_token ∷ ts) ≡ ts
  unfolding trees.behind_prefixes
  behind_minus [] other = refl
  behind_minus (t ∷ ts) other = rw other refl

  behind_not : (ts : List Token) → trees.behind_prefixes prefix.Not (minus_token ∷ ts) ≡ minus_token ∷ ts
  unfolding trees.behind_prefixes
  behind_not ts = refl

  within_one : (l turns m : ℕ) (ts : List Token) → within l end (suc turns) m (minus_token ∷ ts) ≡ trees.disjunction (setting l end turns m) (minus_token ∷ ts)
  unfolding within trees.expression
  within_one l turns m ts = refl

  disjunction_err : (s : trees.Setting) (ts : List Token) (e : SyntaxRefusal) → same_sign (sign_at ts) sign.Minus ≡ false → trees.atom s ts ≡ Err e →
      trees.disjunction s (minus_token ∷ ts) ≡ Err e
  unfolding trees.disjunction trees.conjunction trees.negation trees.comparison trees.sets trees.sums trees.products trees.unary
  disjunction_err s ts e other h =
      let m : List Token = minus_token ∷ ts in
      let a : trees.unary s m ≡ Err e =
      prefixes_err s prefix.Minus (trees.postfix s) m e (ap (trees.postfix s) (behind_minus ts other) ∙ postfix_err s ts e h) in
      let b : trees.comparison s m ≡ Err e =
      chain_err s level.Comparison _ m e (chain_err s level.Sets _ m e (chain_err s level.Sums _ m e (chain_err s level.Products _ m e a))) in
      chain_err s level.Or _ m e
      (chain_err s level.And _ m e (prefixes_err s prefix.Not (trees.comparison s) m e (ap (trees.comparison s) (behind_not ts) ∙ b)))

  -- behind a minus the atom is read as it is
  minus_read : (ts : List Token) (e : SyntaxRefusal) → same_sign (sign_at ts) sign.Minus ≡ false → trees.atom (setting 32 end (length ts + 1) 32) ts ≡ Err e →
      formula_at 32 32 end (minus_token ∷ ts) ≡ Err e
  unfolding formula_at
  minus_read ts e other h =
      let turns : length (minus_token ∷ ts) + 1 ≡ suc (length ts + 1) = omega arith in
      ap (λ k. within 32 end k 32 (minus_token ∷ ts)) turns ∙ within_one 32 (length ts + 1) 32 ts
      ∙ disjunction_err (setting 32 end (length ts + 1) 32) ts e other h

  no_minus_leaf : (line : ℕ) (k : TokenKind) → sign_of k ≡ sign.Minus → trees.leaf line k ≡ None
  no_minus_leaf line (kind.Name name) e = let wrong : ⊥ = cc in absurd wrong
  no_minus_leaf line (kind.Reserved word) e = ap (trees.leaf_of line) e
  no_minus_leaf line (kind.Number n) e = let wrong : ⊥ = cc in absurd wrong
  no_minus_leaf line (kind.Text text) e = let wrong : ⊥ = cc in absurd wrong
  no_minus_leaf line (kind.Symbol symbol) e = ap (trees.leaf_of line) e

  -- an atom never begins with a minus
  minus_atom : (s : trees.Setting) (t : Token) (ts : List Token) → same_sign (sign_of t.kind) sign.Minus ≡ true → trees.atom s (t ∷ ts) ≡ Err (Expected t.start)
  unfolding trees.atom trees.bracketed
  minus_atom s t ts is =
      let sg : sign_of t.kind ≡ sign.Minus = same_sign_is (sign_of t.kind) sign.Minus is in
      ap (λ o. trees.leaf_or s o t ts) (no_minus_leaf t.line t.kind sg) ∙ ap (λ k. trees.bracketed s k t ts) sg

  no_atom : (t : Token) (ts vs ws : List Token) → same_sign (sign_of t.kind) sign.Minus ≡ true → Same (t ∷ ts) vs → Atoms vs ws → ⊥
  no_atom t ts vs ws is s c =
      let (us, e) = same_cons t ts vs s in
      ok_not_err (c.value, ws) (Expected t.start) (sym (subst (λ l. trees.atom (setting d end c.which n) l ≡ Ok (c.value, ws)) e c.is)
      ∙ minus_atom (setting d end c.which n) t us is)

  atom_stays : (ts us : List Token) (f : Formed) (s : Stands 32 32 atom ts f us) (vs ws : List Token) → Same us vs → Atoms (s.front ++ vs) ws → ws ≡ vs
  atom_stays ts us f s vs ws alike c =
      let more = wider_ok (trees.atom (setting d end c.which n) (s.front ++ vs)) (trees.atom (setting D end c.which N) (s.front ++ vs)) (c.value, ws)
      (atom_more d n c.which (omega arith) (omega arith) (s.front ++ vs)) c.is in
      let k = atom_stands D N c.which (omega arith) (s.front ++ vs) ws c.value more in
      let shallow = s.shallow in let narrow = s.narrow in
      let wide : Stands D N atom ts f us =
      record { front = s.front; nest = s.nest; split = s.split; produced = s.produced; shallow = omega (arith, shallow); narrow = omega (arith, narrow) } in
      let (x, a) = atom_read ts us f wide (length s.front + length k.front) (omega arith) vs in
      let (y, b) = atom_read (s.front ++ vs) ws c.value k (length s.front + length k.front) (omega arith) ws in
      rest_is y x ws vs (sym b ∙ ap (trees.atom (setting D end (length s.front + length k.front) N)) (sym k.split) ∙ a)

  atom_none : (ts front rest : List Token) (o : ℕ) → ts ≡ front ++ rest → NoneBegins (minus_token ∷ front) rest →
      trees.atom (setting 32 end (length ts + 1) 32) ts ≡ Err (Expected o) → (vs ws : List Token) → Same rest vs → Atoms (front ++ vs) ws → ⊥
  atom_none ts front rest o split none e vs ws s c =
      let more = wider_ok (trees.atom (setting d end c.which n) (front ++ vs)) (trees.atom (setting D end c.which N) (front ++ vs)) (c.value, ws)
      (atom_more d n c.which (omega arith) (omega arith) (front ++ vs)) c.is in
      let k = atom_stands D N c.which (omega arith) (front ++ vs) ws c.value more in
      elim (divide front vs k.front ws k.split) [
        | inl (t, h, longer, is) ↦
            (let (us, here) = same_first t (h ++ ws) vs rest s is in
            let (g, p) = minus_formula k.front (form c.value.tree c.value.depth k.nest) (no_step k.front (form c.value.tree c.value.depth k.nest) k.produced) in
            none_begins (minus_token ∷ front) rest none t us h g here (subst (λ l. Produces expression (minus_token ∷ l) g) longer p))
        | inr (h, shorter, is) ↦
            (let whole : ts ≡ k.front ++ (h ++ rest) = split ∙ ap (λ l. l ++ rest) shorter ∙ append_assoc k.front h rest in
            let long : length ts ≡ length k.front + length (h ++ rest) = ap length whole ∙ length-append k.front (h ++ rest) in
            let (x, read) = atom_read (front ++ vs) ws c.value k (length ts + 1) (omega (arith, long)) (h ++ rest) in
            let refuses = wider_err (trees.atom (setting 32 end (length ts + 1) 32) ts) (trees.atom (setting D end (length ts + 1) N) ts) o
            (atom_more 32 32 (length ts + 1) (omega arith) (omega arith) ts) e in
            ok_not_err (x, h ++ rest) (Expected o) (sym read ∙ ap (trees.atom (setting D end (length ts + 1) N)) (sym whole) ∙ refuses))
      ]

  -- the refusal of the atom behind a minus, without that minus
  behind_it : (ts : List Token) (o : ℕ) (b : IsBlocked end (minus_token ∷ ts) o) → trees.atom (setting 32 end (length ts + 1) 32) ts ≡ Err (Expected o) →
      Refused end Atoms ts o
  behind_it ts o b e = by b.front b.rest b.split b.here b.none where
    by : (front rest : List Token) → minus_token ∷ ts ≡ front ++ rest → o ≡ offset end rest → NoneBegins front rest → Refused end Atoms ts o
    by [] rest split here none =
        let (g, p) = minus_formula zeros _ (a_zero postfix) in
        absurd (none_begins [] rest none minus_token ts zeros g (sym split) p)
    by (m ∷ front) rest split here none =
        let head : minus_token ≡ m = cc in
        let tail : ts ≡ front ++ rest = cc in
        record {
          front = front;
          rest = rest;
          split = tail;
          here = here;
          none = atom_none ts front rest o tail (subst (λ z. NoneBegins (z ∷ front) rest) (sym head) none) e;
        }

  atom_given : (ts us : List Token) (x : Formed) → trees.atom (setting 32 end (length ts + 1) 32) ts ≡ Ok (x, us) → Given Atoms ts us
  atom_given ts us x e =
      let s = atom_stands 32 32 (length ts + 1) (omega arith) ts us x e in
      record { front = s.front; split = s.split; again = λ vs ws alike c. atom_stays ts us x s vs ws alike c }

  pub atom_det : (ts : List Token) → Det Formed end (trees.atom (setting 32 end (length ts + 1) 32) ts) Atoms ts
  atom_det ts =
      record {
        given = λ x us e. atom_given ts us x e;
        refused = λ o e.
            elim (cases_Bool (same_sign (sign_at ts) sign.Minus)) [
              | inl is ↦ at_minus ts o e is
              | inr other ↦ behind_it ts o (blocked_at end (minus_token ∷ ts) o (minus_read ts (Expected o) other e)) e
            ];
      } where
        at_minus : (ts : List Token) (o : ℕ) → trees.atom (setting 32 end (length ts + 1) 32) ts ≡ Err (Expected o) → same_sign (sign_at ts) sign.Minus ≡ true →
            Refused end Atoms ts o
        at_minus [] o e is = let wrong : ⊥ = cc in absurd wrong
        at_minus (t ∷ ts) o e is =
            let both : ◌≡◌ {A = Answer (Formed × List Token)} (Err (Expected o)) (Err (Expected t.start)) =
            sym e ∙ minus_atom (setting 32 end (length (t ∷ ts) + 1) 32) t ts is in
            let here : o ≡ t.start = cc in
            record { front = []; rest = t ∷ ts; split = refl; here = here; none = λ vs ws s c. no_atom t ts vs ws is s c }

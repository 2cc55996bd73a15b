-- Where a reader stops rests on the tokens up to there and on the one behind them alone, whatever stands further behind.
use Rattle.std.proofs.Common.{◌≡◌, ℕ, ◌+◌, ◌<◌, ◌≤◌, List, [], ◌∷◌, ◌++◌, length, true, false, Some, None, Ok, Err, refl, sym, ap, ◌∙◌, subst, arith}
use Rattle.std.proofs.Common.{append_assoc, length-append, inl, inr}
use Rattle.std.specs.Prelude.{Bool, Option, if◌then◌else◌, ◌⊎◌}
use Rattle.sheet_syntax_trees.specs.declared.token.Token.{Token}
use Rattle.sheet_syntax_trees.specs.declared.token.SyntaxRefusal.{SyntaxRefusal}
use Rattle.sheet_syntax_trees.specs.declared.token.SyntaxRefusal.TheVariants.{Expected, TooNested}
use Rattle.sheet_syntax_trees.specs.Order.{InOrder}
use Rattle.sheet_syntax_trees.specs.Reading.{Answer, ◌>>=◌, offset, or_expected, sign_at}
use Rattle.sheet_syntax_trees.proofs.Answering.{ok_then, err_then}
use Rattle.sheet_syntax_trees.proofs.Binding.{binding}
use Rattle.sheet_define_reading.specs.declared.mark.Mark.{Mark}
use Rattle.sheet_define_reading.specs.Marks.{mark_of, same_mark}
use Rattle.sheet_define_reading.specs.Reading.{Reader, expect}

-- ---- tokens with one first token, and in order

abbrev pub first : List Token → Option Token
first [] = None
first (t ∷ ts) = Some t

pub record Same (xs ys : List Token) : Type 0 where
  pub is : first xs ≡ first ys

pub alike : (ts : List Token) → Same ts ts
alike ts = record { is = refl }

pub same_behind : (front xs ys : List Token) → Same xs ys → Same (front ++ xs) (front ++ ys)
same_behind [] xs ys h = h
same_behind (t ∷ ts) xs ys h = record { is = refl }

pub same_nil : (ys : List Token) → Same [] ys → ys ≡ []
same_nil [] h = refl
same_nil (y ∷ ys) h = let e = h.is in let wrong : ⊥ = cc in absurd wrong

pub same_cons : (t : Token) (ts ys : List Token) → Same (t ∷ ts) ys → (us : List Token) × (ys ≡ t ∷ us)
same_cons t ts [] h = let e = h.is in let wrong : ⊥ = cc in absurd wrong
same_cons t ts (y ∷ ys) h = let e = h.is in let same : t ≡ y = cc in (ys, ap (λ z. z ∷ ys) (sym same))

pub record Ordered (end : ℕ) (ts : List Token) : Type 0 where
  pub low : ℕ
  pub order : InOrder low end ts

order_within : (low end : ℕ) (front rest : List Token) → InOrder low end (front ++ rest) → Ordered end rest
order_within low end [] rest h = record { low = low; order = h }
order_within low end (t ∷ front) rest h = order_within (t.start + 1) end front rest h.1

pub ordered_behind : (end : ℕ) (ts front rest : List Token) → Ordered end ts → ts ≡ front ++ rest → Ordered end rest
ordered_behind end ts front rest o split = order_within o.low end front rest (subst (λ l. InOrder o.low end l) split o.order)

-- ---- readers

-- what stands behind is read of that length in any other place with these tokens and the one behind them
pub record Given (Q : List Token → List Token → Type 0) (ts us : List Token) : Type 0 where
  pub front : List Token
  pub split : ts ≡ front ++ us
  pub again : (vs ws : List Token) → Same us vs → Q (front ++ vs) ws → ws ≡ vs

-- nothing is read in any other place with these tokens and the one behind them
pub record Refused (end : ℕ) (Q : List Token → List Token → Type 0) (ts : List Token) (o : ℕ) : Type 0 where
  pub front : List Token
  pub rest : List Token
  pub split : ts ≡ front ++ rest
  pub here : o ≡ offset end rest
  pub none : (vs ws : List Token) → Same rest vs → Q (front ++ vs) ws → ⊥

-- an answer over tokens, and what is read of other tokens
pub record Det (A : Type 0) (end : ℕ) (r : Answer (A × List Token)) (Q : List Token → List Token → Type 0) (ts : List Token) : Type 0 where
  pub given : (x : A) (us : List Token) → ◌≡◌ {A = Answer (A × List Token)} r (Ok (x, us)) → Given Q ts us
  pub refused : (o : ℕ) → ◌≡◌ {A = Answer (A × List Token)} r (Err (Expected o)) → Refused end Q ts o

-- A reader reads of the tokens up to others, whichever of these readers it is, and what is left there is such.
pub record Reads (Y A : Type 0) (K : List Token → Type 0) (q : Y → Reader A) (ts us : List Token) : Type 0 where
  pub which : Y
  pub value : A
  pub is : ◌≡◌ {A = Answer (A × List Token)} (q which ts) (Ok (value, us))
  pub left : K us

abbrev pub Any : List Token → Type 0
Any ts = ts ≡ ts

-- no formula goes on with the first token
pub record Loose (ts : List Token) : Type 0 where
  pub is : 6 < binding (sign_at ts)

pub det_weaken : (A : Type 0) (end : ℕ) (r : Answer (A × List Token)) (Q R : List Token → List Token → Type 0) (ts : List Token) → Det A end r Q ts →
    ((vs ws : List Token) → Same ts vs → R vs ws → Q vs ws) → Det A end r R ts
det_weaken A end r Q R ts d h =
    record {
      given = λ x us e.
          let g = d.given x us e in
          record {
            front = g.front;
            split = g.split;
            again = λ vs ws s k. g.again vs ws s (h (g.front ++ vs) ws (record { is = ap first g.split ∙ (same_behind g.front us vs s).is }) k);
          };
      refused = λ o e.
          let f = d.refused o e in
          record {
            front = f.front;
            rest = f.rest;
            split = f.split;
            here = f.here;
            none = λ vs ws s k. f.none vs ws s (h (f.front ++ vs) ws (record { is = ap first f.split ∙ (same_behind f.front f.rest vs s).is }) k);
          };
    }

-- a reader that rests on nothing else
pub det_steady : (A Y B : Type 0) (end : ℕ) (K : List Token → Type 0) (r : Answer (A × List Token)) (q : Reader B) (ts : List Token) →
    Det A end r (Reads ℕ B K (λ e. q)) ts → Det A end r (Reads Y B K (λ e. q)) ts
det_steady A Y B end K r q ts d =
    det_weaken A end r (Reads ℕ B K (λ e. q)) (Reads Y B K (λ e. q)) ts d (λ vs ws s c. record { which = 0; value = c.value; is = c.is; left = c.left })

-- an answer over the tokens behind a first one
pub det_cons : (A : Type 0) (end : ℕ) (r : Answer (A × List Token)) (Q R : List Token → List Token → Type 0) (t : Token) (ts : List Token) → Det A end r Q ts →
    ((vs ws : List Token) → R (t ∷ vs) ws → Q vs ws) → Det A end r R (t ∷ ts)
det_cons A end r Q R t ts d h =
    record {
      given = λ x us e. let g = d.given x us e in
          record { front = t ∷ g.front; split = ap (λ l. t ∷ l) g.split; again = λ vs ws s k. g.again vs ws s (h (g.front ++ vs) ws k) };
      refused = λ o e. let f = d.refused o e in
          record {
            front = t ∷ f.front;
            rest = f.rest;
            split = ap (λ l. t ∷ l) f.split;
            here = f.here;
            none = λ vs ws s k. f.none vs ws s (h (f.front ++ vs) ws k);
          };
    }

-- an answer that is refused at the first token
pub det_refused : (A : Type 0) (end at : ℕ) (Q : List Token → List Token → Type 0) (ts : List Token) → at ≡ offset end ts →
    ((vs ws : List Token) → Same ts vs → Q vs ws → ⊥) → Det A end (Err (Expected at)) Q ts
det_refused A end at Q ts here none =
    record {
      given = λ x us e. let wrong : ⊥ = cc in absurd wrong;
      refused = λ o e. let same : at ≡ o = cc in record { front = []; rest = ts; split = refl; here = sym same ∙ here; none = none };
    }

-- an answer that is refused for nesting
pub det_nested : (A : Type 0) (end at : ℕ) (Q : List Token → List Token → Type 0) (ts : List Token) → Det A end (Err (TooNested at)) Q ts
det_nested A end at Q ts =
    record {
      given = λ x us e. let wrong : ⊥ = cc in absurd wrong;
      refused = λ o e. let wrong : ⊥ = cc in absurd wrong;
    }

-- an answer that reads nothing further
pub det_ok : (A : Type 0) (end : ℕ) (x : A) (Q : List Token → List Token → Type 0) (ts : List Token) → ((vs ws : List Token) → Same ts vs → Q vs ws → ws ≡ vs) →
    Det A end (Ok (x, ts)) Q ts
det_ok A end x Q ts h =
    record {
      given = λ y us e. let same : ts ≡ us = ap (λ (p : A × List Token). p.1) (let s : (x, ts) ≡ (y, us) = cc in s) in
          record { front = []; split = same; again = λ vs ws s k. h vs ws (record { is = ap first same ∙ s.is }) k };
      refused = λ o e. let wrong : ⊥ = cc in absurd wrong;
    }

pub det_last : (A Y B : Type 0) (end : ℕ) (x : A) (K : List Token → Type 0) (f : Y → B) (ts : List Token) →
    Det A end (Ok (x, ts)) (Reads Y B K (λ e us. Ok (f e, us))) ts
det_last A Y B end x K f ts =
    det_ok A end x (Reads Y B K (λ e us. Ok (f e, us))) ts (λ vs ws s k. let e = k.is in let same : (f k.which, vs) ≡ (k.value, ws) = cc in
    sym (ap (λ (p : B × List Token). p.1) same))

-- one reader after another
pub det_bind : (A B Y C D : Type 0) (end : ℕ) (K L : List Token → Type 0) (r : Answer (A × List Token)) (k : A × List Token → Answer (B × List Token)) (q : Y →
    Reader C) (g : Y → C × List Token → Answer (D × List Token)) (ts : List Token) → Ordered end ts
    → Det A end r (Reads Y C K q) ts →
    ((e : Y) (y : C) (us : List Token) (z : D) (ws : List Token) → ◌≡◌ {A = Answer (D × List Token)} (g e (y, us)) (Ok (z, ws)) → L ws → K us)
    → ((x : A) (us : List Token) → ◌≡◌ {A = Answer (A × List Token)} r (Ok (x, us)) → Ordered end us →
    Det B end (k (x, us)) (Reads (Y × C) D L (λ e vs. g e.0 (e.1, vs))) us)
    → Det B end (r >>= k) (Reads Y D L (λ e vs. q e vs >>= g e)) ts
det_bind A B Y C D end K L r k q g ts order d follow next =
    record {
      given = λ x us e.
          let (m, em, e1) = ok_then r k (x, us) e in
          let f = d.given m.0 m.1 em in
          let n = (next m.0 m.1 em (ordered_behind end ts f.front m.1 order f.split)).given x us e1 in
          record {
            front = f.front ++ n.front;
            split = f.split ∙ ap (λ l. f.front ++ l) n.split ∙ sym (append_assoc f.front n.front us);
            again = λ vs ws s c.
                let (y, ey, e2) = ok_then (q c.which ((f.front ++ n.front) ++ vs)) (g c.which) (c.value, ws) c.is in
                let there : ◌≡◌ {A = Answer (C × List Token)} (q c.which (f.front ++ (n.front ++ vs))) (Ok y) =
                subst (λ l. ◌≡◌ {A = Answer (C × List Token)} (q c.which l) (Ok y)) (append_assoc f.front n.front vs) ey in
                let mid : Same m.1 (n.front ++ vs) = record { is = ap first n.split ∙ (same_behind n.front us vs s).is } in
                let same = f.again (n.front ++ vs) y.1 mid
                (record { which = c.which; value = y.0; is = there; left = follow c.which y.0 y.1 c.value ws e2 c.left }) in
                n.again vs ws s (record {
                  which = (c.which, y.0);
                  value = c.value;
                  is = subst (λ l. ◌≡◌ {A = Answer (D × List Token)} (g c.which (y.0, l)) (Ok (c.value, ws))) same e2;
                  left = c.left;
                });
          };
      refused = λ o e.
          elim (err_then r k (Expected o) e) [
            | inl e1 ↦
                let f = d.refused o e1 in
                record {
                  front = f.front;
                  rest = f.rest;
                  split = f.split;
                  here = f.here;
                  none = λ vs ws s c.
                      let (y, ey, e2) = ok_then (q c.which (f.front ++ vs)) (g c.which) (c.value, ws) c.is in
                      f.none vs y.1 s (record { which = c.which; value = y.0; is = ey; left = follow c.which y.0 y.1 c.value ws e2 c.left });
                }
            | inr (m, em, e1) ↦
                let f = d.given m.0 m.1 em in
                let n = (next m.0 m.1 em (ordered_behind end ts f.front m.1 order f.split)).refused o e1 in
                record {
                  front = f.front ++ n.front;
                  rest = n.rest;
                  split = f.split ∙ ap (λ l. f.front ++ l) n.split ∙ sym (append_assoc f.front n.front n.rest);
                  here = n.here;
                  none = λ vs ws s c.
                      let (y, ey, e2) = ok_then (q c.which ((f.front ++ n.front) ++ vs)) (g c.which) (c.value, ws) c.is in
                      let there : ◌≡◌ {A = Answer (C × List Token)} (q c.which (f.front ++ (n.front ++ vs))) (Ok y) =
                      subst (λ l. ◌≡◌ {A = Answer (C × List Token)} (q c.which l) (Ok y)) (append_assoc f.front n.front vs) ey in
                      let mid : Same m.1 (n.front ++ vs) = record { is = ap first n.split ∙ (same_behind n.front n.rest vs s).is } in
                      let same = f.again (n.front ++ vs) y.1 mid
                      (record { which = c.which; value = y.0; is = there; left = follow c.which y.0 y.1 c.value ws e2 c.left }) in
                      n.none vs ws s (record {
                        which = (c.which, y.0);
                        value = c.value;
                        is = subst (λ l. ◌≡◌ {A = Answer (D × List Token)} (g c.which (y.0, l)) (Ok (c.value, ws))) same e2;
                        left = c.left;
                      });
                }
          ];
    }

-- a reader whose rest is told by nothing
pub det_seq : (A B Y C D : Type 0) (end : ℕ) (L : List Token → Type 0) (r : Answer (A × List Token)) (k : A × List Token → Answer (B × List Token)) (q : Y →
    Reader C) (g : Y → C × List Token → Answer (D × List Token)) (ts : List Token) → Ordered end ts
    → Det A end r (Reads Y C Any q) ts
    → ((x : A) (us : List Token) → ◌≡◌ {A = Answer (A × List Token)} r (Ok (x, us)) → Ordered end us →
    Det B end (k (x, us)) (Reads (Y × C) D L (λ e vs. g e.0 (e.1, vs))) us)
    → Det B end (r >>= k) (Reads Y D L (λ e vs. q e vs >>= g e)) ts
det_seq A B Y C D end L r k q g ts order d next = det_bind A B Y C D end Any L r k q g ts order d (λ e y us z ws h l. refl) next

-- ---- one token

tested : {B : Type 0} (b : Bool) (ts : List Token) (at : ℕ) (k : List Token → Answer B) (y : B) →
    ◌≡◌ {A = Answer B} (or_expected at (if b then Some ts else None) >>= k) (Ok y) → (b ≡ true) × (◌≡◌ {A = Answer B} (k ts) (Ok y))
tested true ts at k y e = (refl, e)
tested false ts at k y e = let wrong : ⊥ = cc in absurd wrong

pub det_mark : (B Y D : Type 0) (end : ℕ) (m : Mark) (L : List Token → Type 0) (k : List Token → Answer (B × List Token)) (g : Y → Reader D) (ts : List Token) →
    Ordered end ts
    → ((t : Token) (us : List Token) → ts ≡ t ∷ us → same_mark (mark_of t.kind) m ≡ true → Ordered end us → Det B end (k us) (Reads Y D L g) us)
    → Det B end (expect end m ts >>= k) (Reads Y D L (λ e vs. expect end m vs >>= g e)) ts
det_mark B Y D end m L k g [] order next =
    det_refused B end end (Reads Y D L (λ e vs. expect end m vs >>= g e)) [] refl (λ vs ws s c.
    let none : ◌≡◌ {A = Answer (D × List Token)} (expect end m [] >>= g c.which) (Ok (c.value, ws)) =
    subst (λ l. ◌≡◌ {A = Answer (D × List Token)} (expect end m l >>= g c.which) (Ok (c.value, ws))) (same_nil vs s) c.is in
    let wrong : ⊥ = cc in wrong)
det_mark B Y D end m L k g (t ∷ ts) order next = by (same_mark (mark_of t.kind) m) refl where
  Q : List Token → List Token → Type 0
  Q = Reads Y D L (λ e vs. expect end m vs >>= g e)

  by : (b : Bool) → same_mark (mark_of t.kind) m ≡ b →
      Det B end (or_expected t.start (if b then Some ts else None) >>= k) (Reads Y D L (λ e vs. expect end m vs >>= g e)) (t ∷ ts)
  by true is =
      det_cons B end (k ts) (Reads Y D L g) (Reads Y D L (λ e vs. expect end m vs >>= g e)) t ts
      (next t ts refl is (ordered_behind end (t ∷ ts) (t ∷ []) ts order refl))
      (λ vs ws c. record {
        which = c.which;
        value = c.value;
        is = (tested (same_mark (mark_of t.kind) m) vs t.start (g c.which) (c.value, ws) c.is).1;
        left = c.left;
      })
  by false is =
      det_refused B end t.start (Reads Y D L (λ e vs. expect end m vs >>= g e)) (t ∷ ts) refl (λ vs ws s c.
      let (us, e) = same_cons t ts vs s in
      let there = subst (λ l. ◌≡◌ {A = Answer (D × List Token)} (expect end m l >>= g c.which) (Ok (c.value, ws))) e c.is in
      let yes = (tested (same_mark (mark_of t.kind) m) us t.start (g c.which) (c.value, ws) there).0 in
      let wrong : ⊥ = cc in wrong)

-- with readers that are told by less
pub det_env : (A Y Z B : Type 0) (end : ℕ) (K : List Token → Type 0) (r : Answer (A × List Token)) (q : Z → Reader B) (f : Y → Z) (ts : List Token) →
    Det A end r (Reads Z B K q) ts → Det A end r (Reads Y B K (λ e. q (f e))) ts
det_env A Y Z B end K r q f ts d =
    det_weaken A end r (Reads Z B K q) (Reads Y B K (λ e. q (f e))) ts d (λ vs ws s c. record { which = f c.which; value = c.value; is = c.is; left = c.left })

-- ---- things that begin with a first token

-- what is read where a first token stands
abbrev pub head_of : {A : Type 0} → (Token → List Token → Mark → Answer (A × List Token)) → Reader A
head_of one [] = Err (Expected 0)
head_of one (t ∷ ts) = one t ts (mark_of t.kind)

-- an answer over tokens that takes the first of them
pub record Element (A : Type 0) (end : ℕ) (r : Answer (A × List Token)) (Q : List Token → List Token → Type 0) (t : Token) (ts : List Token) : Type 0 where
  pub det : Det A end r Q (t ∷ ts)
  pub shorter : (x : A) (us : List Token) → ◌≡◌ {A = Answer (A × List Token)} r (Ok (x, us)) → length us ≤ length ts

pub element : (A : Type 0) (end : ℕ) (r : Answer (A × List Token)) (Q R : List Token → List Token → Type 0) (t : Token) (ts : List Token) → Det A end r Q ts →
    ((vs ws : List Token) → R (t ∷ vs) ws → Q vs ws) → Element A end r R t ts
element A end r Q R t ts d h =
    record {
      det = det_cons A end r Q R t ts d h;
      shorter = λ x us e. let g = d.given x us e in let n : length ts ≡ length g.front + length us = ap length g.split ∙ length-append g.front us in
          omega (arith, n);
    }

-- no thing begins with the first token
pub no_element : (A : Type 0) (end : ℕ) (Q : List Token → List Token → Type 0) (t : Token) (ts : List Token) → ((vs ws : List Token) → Q (t ∷ vs) ws → ⊥) →
    Element A end (Err (Expected t.start)) Q t ts
no_element A end Q t ts none =
    record {
      det = det_refused A end t.start Q (t ∷ ts) refl (λ vs ws s c. let (us, e) = same_cons t ts vs s in none us ws (subst (λ l. Q l ws) e c));
      shorter = λ x us e. let wrong : ⊥ = cc in absurd wrong;
    }

-- Things up to a closing brace stop at tokens that go on with none.
use Rattle.std.proofs.Common.{◌≡◌, ℕ, zero, suc, ◌<◌, ◌≤◌, List, [], ◌∷◌, length, true, false, Ok, Err, refl, sym, ap, ◌∙◌, subst, arith}
use Rattle.std.specs.Prelude.{Bool}
use Rattle.sheet_syntax_trees.specs.declared.token.Token.{Token}
use Rattle.sheet_syntax_trees.specs.declared.token.SyntaxRefusal.TheVariants.{Expected}
use Rattle.sheet_syntax_trees.specs.Reading.{Answer, ◌>>=◌}
use Rattle.sheet_syntax_trees.proofs.Answering.{ok_then}
use Rattle.sheet_syntax_trees.proofs.Binding.{binding}
use Rattle.sheet_define_reading.specs.declared.mark.Mark.{Mark}
use Rattle.sheet_define_reading.specs.declared.mark.Mark.TheVariants as mark
use Rattle.sheet_define_reading.specs.Marks.{mark_of, mark_rank, same_mark}
use Rattle.sheet_define_reading.specs.Reading as reading
use Rattle.sheet_define_reading.specs.Reading.{Bounds, Reader, Turn, after, expect, with_front, optional, mark_at}
use Rattle.sheet_define_reading.proofs.MarkLemmas.{spelling, spelled, same_is}
use Rattle.sheet_define_reading.proofs.Answering.{front_ok}
use Rattle.sheet_syntax_trees.specs.Signs.{sign_of}
use Rattle.sheet_define_reading.proofs.Answering.{after_mark}
use Rattle.sheet_define_reading.proofs.StatementCompleteness.{loose}
use Rattle.sheet_define_refusals.proofs.Locality.{same_nil, same_cons, Ordered, Det, Reads, Any, Loose, det_weaken, det_cons, det_refused, det_ok, det_bind}
use Rattle.sheet_define_refusals.proofs.Locality.{det_env, head_of, Element}
use Rattle.sheet_define_refusals.proofs.Words.{apart, det_front}

-- a mark with which no formula goes on
pub record Ends (m : Mark) : Type 0 where
  pub some : 0 < mark_rank m
  pub ends : 6 < binding (sign_of (spelling m))

pub mark_loose : {B : Type 0} (end : ℕ) (m : Mark) → Ends m → (us : List Token) (k : List Token → Answer B) (y : B) →
    ◌≡◌ {A = Answer B} (expect end m us >>= k) (Ok y) → Loose us
mark_loose end m h us k y e = after_mark m end us k y Loose h.some e (λ t vs is e1. record { is = loose t vs (spelling m) is h.ends })

pub spelled_loose : (m : Mark) → Ends m → (t : Token) (ts : List Token) → mark_of t.kind ≡ m → Loose (t ∷ ts)
spelled_loose m h t ts is = record { is = loose t ts (spelling m) (spelled t.kind m is h.some) h.ends }

-- how things are read up to a closing brace
pub record Many (Y : Type 0) : Type 0 where
  pub inside : Y
  pub turns : ℕ

pub many_nil : {A : Type 0} (end k : ℕ) (one : Token → List Token → Mark → Answer (A × List Token)) → reading.many end one k [] ≡ Err (Expected end)
unfolding reading.many
many_nil end zero one = refl
many_nil end (suc k) one = refl

pub many_none : {A : Type 0} (end : ℕ) (one : Token → List Token → Mark → Answer (A × List Token)) (t : Token) (ts : List Token) →
    reading.many end one zero (t ∷ ts) ≡ Err (Expected t.start)
unfolding reading.many
many_none end one t ts = refl

pub many_suc : {A : Type 0} (end k : ℕ) (one : Token → List Token → Mark → Answer (A × List Token)) (t : Token) (ts : List Token) (b : Bool) →
    same_mark (mark_of t.kind) mark.CloseBrace ≡ b
    → reading.many end one (suc k) (t ∷ ts) ≡ reading.many_by one t ts b (λ rest. reading.many end one k rest)
unfolding reading.many
many_suc end k one t ts b is = ap (λ b. reading.many_by one t ts b (λ rest. reading.many end one k rest)) is

module _ (end : ℕ) (A Y C : Type 0) (one : Token → List Token → Mark → Answer (A × List Token)) (other : Y → Token → List Token → Mark →
    Answer (C × List Token)) where
  abbrev Q : List Token → List Token → Type 0
  Q = Reads Y C Loose (λ e. head_of (other e))

  abbrev Listed : List Token → List Token → Type 0
  Listed = Reads (Many Y) (List C) Any (λ e vs. reading.many end (other e.inside) e.turns vs)

  abbrev One : Type 0
  One = (t : Token) (ts : List Token) → Ordered end (t ∷ ts) → Element A end (one t ts (mark_of t.kind)) Q t ts

  abbrev Opening : Type 0
  Opening = (e : Y) (t : Token) (ts : List Token) (y : C × List Token) → ◌≡◌ {A = Answer (C × List Token)} (other e t ts (mark_of t.kind)) (Ok y) →
      Loose (t ∷ ts)

  many_loose : Opening → (e : Y) (k : ℕ) (us : List Token) (y : List C × List Token) → reading.many end (other e) k us ≡ Ok y → Loose us
  many_loose opening e k [] y h = apart y (Expected end) (sym (many_nil end k (other e)) ∙ h)
  many_loose opening e zero (t ∷ us) y h = apart y (Expected t.start) (sym (many_none end (other e) t us) ∙ h)
  many_loose opening e (suc k) (t ∷ us) y h = by (same_mark (mark_of t.kind) mark.CloseBrace) refl where
    by : (b : Bool) → same_mark (mark_of t.kind) mark.CloseBrace ≡ b → Loose (t ∷ us)
    by true is = spelled_loose mark.CloseBrace (record { some = omega arith; ends = omega arith }) t us (same_is (mark_of t.kind) mark.CloseBrace is)
    by false is = let (x, ex, e1) =
        ok_then (other e t us (mark_of t.kind)) (λ x. with_front (x.0 ∷ []) (reading.many end (other e) k x.1)) y (sym (many_suc end k (other e) t us false is)
        ∙ h) in opening e t us x ex

  -- one thing more, or the end
  closes : (t : Token) (vs ws : List Token) → same_mark (mark_of t.kind) mark.CloseBrace ≡ true → Listed (t ∷ vs) ws → ws ≡ vs
  closes t vs ws is c = by c.which.turns c.is where
    by : (k : ℕ) → reading.many end (other c.which.inside) k (t ∷ vs) ≡ Ok (c.value, ws) → ws ≡ vs
    by zero h = apart (c.value, ws) (Expected t.start) (sym (many_none end (other c.which.inside) t vs) ∙ h)
    by (suc k) h =
        let there = sym (many_suc end k (other c.which.inside) t vs true is) ∙ h in
        let both : ([], vs) ≡ (c.value, ws) = cc in
        sym (ap (λ (p : List C × List Token). p.1) both)

  abbrev Next : List Token → List Token → Type 0
  Next = Reads (Many Y) (List C) Any (λ e vs. head_of (other e.inside) vs >>= (λ x. with_front (x.0 ∷ []) (reading.many end (other e.inside) e.turns x.1)))

  goes_on : (t : Token) (vs ws : List Token) → same_mark (mark_of t.kind) mark.CloseBrace ≡ false → Listed (t ∷ vs) ws → Next (t ∷ vs) ws
  goes_on t vs ws is c = by c.which.turns c.is where
    by : (k : ℕ) → reading.many end (other c.which.inside) k (t ∷ vs) ≡ Ok (c.value, ws) → Next (t ∷ vs) ws
    by zero h = apart (c.value, ws) (Expected t.start) (sym (many_none end (other c.which.inside) t vs) ∙ h)
    by (suc k) h = record {
      which = record { inside = c.which.inside; turns = k };
      value = c.value;
      is = sym (many_suc end k (other c.which.inside) t vs false is) ∙ h;
      left = refl;
    }

  pub many_det : One → Opening → (k : ℕ) (ts : List Token) → length ts ≤ k → Ordered end ts → Det (List A) end (reading.many end one k ts) Listed ts
  many_det each opening k [] short order =
      subst (λ r. Det (List A) end r Listed []) (sym (many_nil end k one))
      (det_refused (List A) end end Listed [] refl (λ vs ws s c.
      apart (c.value, ws) (Expected end) (sym (many_nil end c.which.turns (other c.which.inside))
      ∙ subst (λ l. reading.many end (other c.which.inside) c.which.turns l ≡ Ok (c.value, ws)) (same_nil vs s) c.is)))
  many_det each opening zero (t ∷ ts) short order = absurd (omega arith)
  many_det each opening (suc k) (t ∷ ts) short order = by (many_det each opening k) (same_mark (mark_of t.kind) mark.CloseBrace) refl where
    by : ((us : List Token) → length us ≤ k → Ordered end us → Det (List A) end (reading.many end one k us) Listed us) → (b : Bool) →
        same_mark (mark_of t.kind) mark.CloseBrace ≡ b → Det (List A) end (reading.many end one (suc k) (t ∷ ts)) Listed (t ∷ ts)
    by again true is =
        subst (λ r. Det (List A) end r Listed (t ∷ ts)) (sym (many_suc end k one t ts true is))
        (det_cons (List A) end (Ok ([], ts)) (λ vs. Listed (t ∷ vs)) Listed t ts
        (det_ok (List A) end [] (λ vs. Listed (t ∷ vs)) ts (λ vs ws s c. closes t vs ws is c)) (λ vs ws c. c))
    by again false is =
        let first = each t ts order in
        subst (λ r. Det (List A) end r Listed (t ∷ ts)) (sym (many_suc end k one t ts false is))
        (det_weaken (List A) end (one t ts (mark_of t.kind) >>= (λ x. with_front (x.0 ∷ []) (reading.many end one k x.1))) Next Listed (t ∷ ts)
        (det_bind A (List A) (Many Y) C (List C) end Loose Any (one t ts (mark_of t.kind)) (λ x. with_front (x.0 ∷ []) (reading.many end one k x.1))
        (λ e. head_of (other e.inside)) (λ e x. with_front (x.0 ∷ []) (reading.many end (other e.inside) e.turns x.1)) (t ∷ ts) order
        (det_env A (Many Y) Y C end Loose (one t ts (mark_of t.kind)) (λ e. head_of (other e)) (λ e. e.inside) (t ∷ ts) first.det)
        (λ e y us z ws h l. let (x, ex, same) = front_ok (y ∷ []) (reading.many end (other e.inside) e.turns us) (z, ws) h in
        many_loose opening e.inside e.turns us x ex)
        (λ x us ex o. det_front A (Many Y × C) C end Any (x ∷ []) (reading.many end one k us) (λ e. e.1 ∷ [])
        (λ e vs. reading.many end (other e.0.inside) e.0.turns vs) us
        (det_env (List A) (Many Y × C) (Many Y) (List C) end Any (reading.many end one k us) (λ e vs. reading.many end (other e.inside) e.turns vs) (λ e. e.0)
        us (again us (let n = first.shorter x us ex in omega (arith, n)) o))))
        (λ vs ws s c. let (us, e) = same_cons t ts vs s in subst (λ l. Next l ws) (sym e) (goes_on t us ws is (subst (λ l. Listed l ws) e c))))

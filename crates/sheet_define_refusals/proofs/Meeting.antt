-- What a reader gives stands there before any tokens, and where it is refused the tokens before begin what it reads.
use Rattle.std.proofs.Common.{◌≡◌, ℕ, ℤ, zero, suc, ◌<◌, ◌≤◌, List, [], ◌∷◌, ◌++◌, length, true, false, Some, None, Ok, Err, refl, sym, ap, ◌∙◌, subst, arith}
use Rattle.std.proofs.Common.{inl, inr}
use Rattle.std.specs.Prelude.{Bool, Option, if◌then◌else◌}
use Rattle.sheet_syntax_trees.specs.declared.token.Token.{Token}
use Rattle.sheet_syntax_trees.specs.declared.token.TokenKind.TheVariants as kind
use Rattle.sheet_syntax_trees.specs.declared.token.SyntaxRefusal.{SyntaxRefusal}
use Rattle.sheet_syntax_trees.specs.declared.token.SyntaxRefusal.TheVariants.{Expected}
use Rattle.sheet_syntax_trees.specs.declared.tree.Tree.{Tree}
use Rattle.sheet_syntax_trees.specs.Reading.{Answer, ◌>>=◌, offset, line_of, or_expected, with_rest, name_of, name_at}
use Rattle.sheet_syntax_trees.proofs.Answering.{ok_then, name_some}
use Rattle.sheet_define_data.specs.declared.definition.Path.{Path}
use Rattle.sheet_define_data.specs.declared.definition.TypeName.{TypeName}
use Rattle.sheet_define_data.specs.declared.definition.TypeName.TheVariants as type
use Rattle.sheet_define_data.specs.declared.definition.Literal.{Literal}
use Rattle.sheet_define_data.specs.declared.definition.Literal.TheVariants as literal
use Rattle.sheet_define_data.specs.declared.definition.Parameter.{Parameter}
use Rattle.sheet_define_data.specs.declared.statement.Target.{Target}
use Rattle.sheet_define_reading.specs.declared.mark.Mark.{Mark}
use Rattle.sheet_define_reading.specs.declared.mark.Mark.TheVariants as mark
use Rattle.sheet_define_reading.specs.Marks.{mark_of, mark_rank, same_mark}
use Rattle.sheet_define_reading.specs.Reading as reading
use Rattle.sheet_define_reading.specs.Reading.{Bounds, Reader, Turn, after, expect, with_front, optional, mark_at}
use Rattle.sheet_define_reading.proofs.MarkLemmas.{spelling, spelled, same_is}
use Rattle.sheet_define_reading.proofs.Answering.{front_ok}
use Rattle.std.specs.Prelude.{codes, pos}
use Rattle.sheet_define_data.specs.Grammar.{IsSymbol, one_name, more_names, a_path, numbers, texts, truths, objects, a_number, a_negative_number, a_parameter}
use Rattle.sheet_define_data.specs.Grammar.{AreParameters, one_parameter, more_parameters, no_parameters, some_parameters}
use Rattle.sheet_define_reading.proofs.Answering.{after_told}
use Rattle.sheet_syntax_trees.proofs.Contexts.{spelled as dummy}
use Rattle.sheet_define_reading.proofs.Soundness.{literal_sound, text_some}
use Rattle.sheet_define_refusals.proofs.Moving.{Moved, moved_front, moved_join, moved_as, moved_tokens, Expr, Aim, Names, APath, AType, ALiteral, AParameter}
use Rattle.sheet_define_refusals.proofs.Moving.{Params, literal_moved}
use Rattle.sheet_define_refusals.proofs.Halting.{Sample, Halt, lifted, known, halt_here, Behind, After, behind_token, mark_err, name_err, halt_part, halt_as}
use Rattle.sheet_define_refusals.proofs.Halting.{name_dummy, word, formula_halts, formula_sound_moved}
use Rattle.sheet_define_refusals.proofs.Aims.{target_halts, target_sound_moved}

pub record Meets (P : ℕ → List Token → List Token → Type 0) (B : ℕ → Type 0) (end : ℕ) (A : Type 0) (r : Answer (A × List Token)) (ts : List Token) :
    Type 0 where
  pub halts : (e : SyntaxRefusal) → ◌≡◌ {A = Answer (A × List Token)} r (Err e) → Halt P B end ts e
  pub moves : (x : A) (us : List Token) → ◌≡◌ {A = Answer (A × List Token)} r (Ok (x, us)) → Moved P ts us

pub apart : {A P : Type 0} (x : A) (e : SyntaxRefusal) → ◌≡◌ {A = Answer A} (Ok x) (Err e) → P
apart x e h = let wrong : ⊥ = cc in absurd wrong

pub other : {A P : Type 0} (x : A) (e : SyntaxRefusal) → ◌≡◌ {A = Answer A} (Err e) (Ok x) → P
other x e h = let wrong : ⊥ = cc in absurd wrong

-- nothing more is read
pub meets_ok : (P : ℕ → List Token → List Token → Type 0) (B : ℕ → Type 0) (end : ℕ) (A : Type 0) (x : A) (ts : List Token) →
    ((m : ℕ) (vs : List Token) → P m vs vs) → Meets P B end A (Ok (x, ts)) ts
meets_ok P B end A x ts h =
    record {
      halts = λ e r. apart (x, ts) e r;
      moves = λ y us r.
          let same : ts ≡ us = ap (λ (p : A × List Token). p.1) (let s : (x, ts) ≡ (y, us) = cc in s) in
          subst (λ l. Moved P ts l) same (moved_tokens P [] ts h);
    }

-- the first token is refused
pub meets_none : (P : ℕ → List Token → List Token → Type 0) (B : ℕ → Type 0) (end : ℕ) (A : Type 0) (ts : List Token) (at : ℕ) → at ≡ offset end ts → Sample P →
    Meets P B end A (Err (Expected at)) ts
meets_none P B end A ts at is s =
    record {
      halts = λ e r. halt_here P B end ts e s (let same : e ≡ Expected at = cc in same ∙ ap Expected is);
      moves = λ x us r. other (x, us) (Expected at) r;
    }

mark_ok : {C : Type 0} (end : ℕ) (m : Mark) → 0 < mark_rank m → (ts : List Token) (k : List Token → Answer C) (y : C) →
    ◌≡◌ {A = Answer C} (expect end m ts >>= k) (Ok y)
    → (t : Token) × (us : List Token) × (ts ≡ t ∷ us) × (t.kind ≡ spelling m) × (◌≡◌ {A = Answer C} (k us) (Ok y))
mark_ok end m some [] k y h = other y (Expected end) h
mark_ok {C} end m some (t ∷ ts) k y h = by (same_mark (mark_of t.kind) m) refl h where
  by : (b : Bool) → same_mark (mark_of t.kind) m ≡ b → ◌≡◌ {A = Answer C} (or_expected t.start (if b then Some ts else None) >>= k) (Ok y)
      → (u : Token) × (us : List Token) × (t ∷ ts ≡ u ∷ us) × (u.kind ≡ spelling m) × (◌≡◌ {A = Answer C} (k us) (Ok y))
  by true is h = (t, ts, refl, spelled t.kind m (same_is (mark_of t.kind) m is) some, h)
  by false is h = other y (Expected t.start) h

name_ok : {C : Type 0} (end : ℕ) (ts : List Token) (k : List ℕ × List Token → Answer C) (y : C) → ◌≡◌ {A = Answer C} (name_at end ts >>= k) (Ok y)
    → (t : Token) × (name : List ℕ) × (us : List Token) × (ts ≡ t ∷ us) × (t.kind ≡ kind.Name name) × (◌≡◌ {A = Answer C} (k (name, us)) (Ok y))
name_ok end [] k y h = other y (Expected end) h
name_ok {C} end (t ∷ ts) k y h = by (name_of t.kind) refl h where
  by : (o : Option (List ℕ)) → name_of t.kind ≡ o → ◌≡◌ {A = Answer C} (with_rest ts (or_expected t.start o) >>= k) (Ok y)
      → (u : Token) × (name : List ℕ) × (us : List Token) × (t ∷ ts ≡ u ∷ us) × (u.kind ≡ kind.Name name) × (◌≡◌ {A = Answer C} (k (name, us)) (Ok y))
  by (Some name) is h = (t, name, ts, refl, name_some t.kind name is, h)
  by None is h = other y (Expected t.start) h

-- with what the tokens are
pub meets_mark_split : (P : ℕ → List Token → List Token → Type 0) (B : ℕ → Type 0) (end : ℕ) (C : Type 0) (m : Mark) → 0 < mark_rank m →
    (ts : List Token) (k : List Token → Answer (C × List Token)) → Sample P
    → ((t : Token) (us : List Token) → t.kind ≡ spelling m → ts ≡ t ∷ us → Meets (Behind t P) B end C (k us) us) → Meets P B end C (expect end m ts >>= k) ts
meets_mark_split P B end C m some ts k s next =
    record {
      halts = λ e r.
          elim (mark_err end m some ts k e r) [
            | inl is ↦ halt_here P B end ts e s is
            | inr (t, us, split, is, h) ↦ lifted P (Behind t P) B end (t ∷ []) us ts e (behind_token P t) split ((next t us is split).halts e h)
          ];
      moves = λ x ws r.
          let (t, us, split, is, h) = mark_ok end m some ts k (x, ws) r in
          subst (λ l. Moved P l ws) (sym split) (moved_front P (Behind t P) (t ∷ []) us ws ((next t us is split).moves x ws h) (λ m xs ws q. q));
    }

pub meets_mark : (P : ℕ → List Token → List Token → Type 0) (B : ℕ → Type 0) (end : ℕ) (C : Type 0) (m : Mark) → 0 < mark_rank m →
    (ts : List Token) (k : List Token → Answer (C × List Token)) → Sample P
    → ((t : Token) (us : List Token) → t.kind ≡ spelling m → Meets (Behind t P) B end C (k us) us) → Meets P B end C (expect end m ts >>= k) ts
meets_mark P B end C m some ts k s next = meets_mark_split P B end C m some ts k s (λ t us is split. next t us is)

pub meets_name_split : (P : ℕ → List Token → List Token → Type 0) (B : ℕ → Type 0) (end : ℕ) (C : Type 0) (ts : List Token) (k : List ℕ × List Token →
    Answer (C × List Token)) → Sample P
    → ((t : Token) (name : List ℕ) (us : List Token) → t.kind ≡ kind.Name name → ts ≡ t ∷ us → Meets (Behind t P) B end C (k (name, us)) us) →
    Meets P B end C (name_at end ts >>= k) ts
meets_name_split P B end C ts k s next =
    record {
      halts = λ e r.
          elim (name_err end ts k e r) [
            | inl is ↦ halt_here P B end ts e s is
            | inr (t, name, us, split, is, h) ↦ lifted P (Behind t P) B end (t ∷ []) us ts e (behind_token P t) split ((next t name us is split).halts e h)
          ];
      moves = λ x ws r.
          let (t, name, us, split, is, h) = name_ok end ts k (x, ws) r in
          subst (λ l. Moved P l ws) (sym split) (moved_front P (Behind t P) (t ∷ []) us ws ((next t name us is split).moves x ws h) (λ m xs ws q. q));
    }

pub meets_name : (P : ℕ → List Token → List Token → Type 0) (B : ℕ → Type 0) (end : ℕ) (C : Type 0) (ts : List Token) (k : List ℕ × List Token →
    Answer (C × List Token)) → Sample P
    → ((t : Token) (name : List ℕ) (us : List Token) → t.kind ≡ kind.Name name → Meets (Behind t P) B end C (k (name, us)) us) →
    Meets P B end C (name_at end ts >>= k) ts
meets_name P B end C ts k s next = meets_name_split P B end C ts k s (λ t name us is split. next t name us is)

pub meets_part : (P Q : ℕ → List Token → List Token → Type 0) (B : ℕ → Type 0) (end : ℕ) (A C : Type 0) (ts : List Token) (r : Answer (A × List Token))
    (k : A × List Token → Answer (C × List Token)) → Sample (After Q P) → Meets Q B end A r ts
    → ((x : A) (us : List Token) → ◌≡◌ {A = Answer (A × List Token)} r (Ok (x, us)) → Meets (After Q P) B end C (k (x, us)) us) → Meets P B end C (r >>= k) ts
meets_part P Q B end A C ts r k s inner next =
    record {
      halts = λ e h. halt_part P Q B end ts r k e h s (λ h. inner.halts e h) (λ x us is. inner.moves x us is) (λ x us is h. (next x us is).halts e h);
      moves = λ x ws h.
          let (y, ey, more) = ok_then r k (x, ws) h in
          moved_join P Q (After Q P) [] ts y.1 ws (inner.moves y.0 y.1 ey) ((next y.0 y.1 ey).moves x ws more) (λ m xs vs ws q r. r xs q);
    }

pub meets_last : (P Q : ℕ → List Token → List Token → Type 0) (B : ℕ → Type 0) (end : ℕ) (A C : Type 0) (ts : List Token) (r : Answer (A × List Token)) (f : A →
    C) → Meets Q B end A r ts → ((m : ℕ) (us vs : List Token) → Q m us vs → P m us vs)
    → Meets P B end C (r >>= (λ x. Ok (f x.0, x.1))) ts
meets_last P Q B end A C ts r f inner join =
    meets_part P Q B end A C ts r (λ x. Ok (f x.0, x.1)) (record { tokens = []; least = 0; whole = λ m some vs ys q. join m ys vs q }) inner
    (λ x us is. meets_ok (After Q P) B end C (f x) us (λ m vs ys q. join m ys vs q))

pub meets_as : (P Q : ℕ → List Token → List Token → Type 0) (B : ℕ → Type 0) (end : ℕ) (A : Type 0) (ts : List Token) (r : Answer (A × List Token)) →
    Meets Q B end A r ts → ((m : ℕ) (us vs : List Token) → Q m us vs → P m us vs) → Meets P B end A r ts
meets_as P Q B end A ts r inner join =
    record { halts = λ e h. halt_as P Q B end ts e join (inner.halts e h); moves = λ x us h. moved_as P Q ts us (inner.moves x us h) join }

-- behind a first token
pub meets_behind : (P : ℕ → List Token → List Token → Type 0) (B : ℕ → Type 0) (end : ℕ) (A : Type 0) (t : Token) (ts : List Token)
    (r : Answer (A × List Token)) → Meets (Behind t P) B end A r ts → Meets P B end A r (t ∷ ts)
meets_behind P B end A t ts r inner =
    record {
      halts = λ e h. lifted P (Behind t P) B end (t ∷ []) ts (t ∷ ts) e (behind_token P t) refl (inner.halts e h);
      moves = λ x us h. moved_front P (Behind t P) (t ∷ []) ts us (inner.moves x us h) (λ m xs ws q. q);
    }

pub meets_known : (P : ℕ → List Token → List Token → Type 0) (B D : ℕ → Type 0) (end : ℕ) (A : Type 0) (ts : List Token) (r : Answer (A × List Token)) →
    ((at : ℕ) → B at → D at) → Meets P B end A r ts → Meets P D end A r ts
meets_known P B D end A ts r h inner = record { halts = λ e is. known P B D end ts e h (inner.halts e is); moves = inner.moves }

-- these things before those that are read behind them
pub meets_front : (P : ℕ → List Token → List Token → Type 0) (B : ℕ → Type 0) (end : ℕ) (A : Type 0) (front : List A) (r : Answer (List A × List Token))
    (ts : List Token) → Meets P B end (List A) r ts → Meets P B end (List A) (with_front front r) ts
meets_front P B end A front r ts inner =
    record {
      halts = λ e h. inner.halts e (front_err r e h);
      moves = λ x us h.
          let (y, ey, same) = front_ok front r (x, us) h in
          let rest : us ≡ y.1 = ap (λ (p : List A × List Token). p.1) same in
          subst (λ l. Moved P ts l) (sym rest) (inner.moves y.0 y.1 ey);
    } where
      front_err : (r : Answer (List A × List Token)) (e : SyntaxRefusal) → with_front front r ≡ Err e → ◌≡◌ {A = Answer (List A × List Token)} r (Err e)
      front_err (Ok x) e h = apart (front ++ x.0, x.1) e h
      front_err (Err d) e h = let same : d ≡ e = cc in ap Err same

-- what may be left out
pub meets_optional : (P Q : ℕ → List Token → List Token → Type 0) (B : ℕ → Type 0) (end : ℕ) (A : Type 0) (m : Mark) → 0 < mark_rank m →
    (p : Reader A) (ts : List Token) → ((k : ℕ) (vs : List Token) → P k vs vs)
    → ((us : List Token) → Meets Q B end A (p us) us) → ((t : Token) → t.kind ≡ spelling m → (k : ℕ) (us vs : List Token) → Q k us vs → P k (t ∷ us) vs) →
    Meets P B end (Option A) (optional p ts (after m ts)) ts
meets_optional P Q B end A m some p [] absent inner join = meets_ok P B end (Option A) None [] absent
meets_optional P Q B end A m some p (t ∷ ts) absent inner join = by (same_mark (mark_of t.kind) m) refl where
  by : (b : Bool) → same_mark (mark_of t.kind) m ≡ b → Meets P B end (Option A) (optional p (t ∷ ts) (if b then Some ts else None)) (t ∷ ts)
  by true is =
      meets_behind P B end (Option A) t ts (p ts >>= (λ x. Ok (Some x.0, x.1)))
      (meets_last (Behind t P) Q B end A (Option A) ts (p ts) (λ x. Some x) (inner ts) (join t (spelled t.kind m (same_is (mark_of t.kind) m is) some)))
  by false is = meets_ok P B end (Option A) None (t ∷ ts) absent

module _ (end : ℕ) (B : ℕ → Type 0) where
  abbrev U : Bounds
  U = reading.usual end

  pub formula_meets : (ts : List Token) → Meets Expr B end Tree (reading.formula U ts) ts
  formula_meets ts = record { halts = λ e h. formula_halts B end ts e h; moves = λ v us h. formula_sound_moved end ts us v h }

  pub target_meets : (ts : List Token) → Meets Aim B end Target (reading.target U ts) ts
  target_meets ts = record { halts = λ e h. target_halts end B ts e h; moves = λ v us h. target_sound_moved end ts us v h }

  -- ---- paths and types

  abbrev More : ℕ → List Token → List Token → Type 0
  More m xs ws = (t : Token) (name : List ℕ) → t.kind ≡ kind.Name name → Names m (t ∷ xs) ws

  dot_sample : (d : Token) → d.kind ≡ spelling mark.Dot → Sample (Behind d More)
  dot_sample d is =
      record {
        tokens = name_dummy ∷ [];
        least = 0;
        whole = λ m some vs t name named. (_, more_names t d name (codes "x" ∷ []) (name_dummy ∷ vs) vs named is (one_name name_dummy (codes "x") vs refl));
      }

  no_names : (m : ℕ) (vs : List Token) → More m vs vs
  no_names m vs t name named = (name ∷ [], one_name t name vs named)

  named_sample : Sample More
  named_sample = record { tokens = []; least = 0; whole = λ m some vs. no_names m vs }

  names_meet : (ts : List Token) → Meets More B end (List (List ℕ)) (reading.more_names end ts) ts
  unfolding reading.more_names
  names_meet [] = meets_ok More B end (List (List ℕ)) [] [] no_names
  names_meet (d ∷ []) = by (same_mark (mark_of d.kind) mark.Dot) refl where
    by : (b : Bool) → same_mark (mark_of d.kind) mark.Dot ≡ b → Meets More B end (List (List ℕ)) (if b then Err (Expected end) else Ok ([], d ∷ [])) (d ∷ [])
    by true is = meets_behind More B end (List (List ℕ)) d [] (Err (Expected end))
        (meets_none (Behind d More) B end (List (List ℕ)) [] end refl
        (dot_sample d (spelled d.kind mark.Dot (same_is (mark_of d.kind) mark.Dot is) (omega arith))))
    by false is = meets_ok More B end (List (List ℕ)) [] (d ∷ []) no_names
  names_meet (d ∷ u ∷ ts) = dotted d u ts (names_meet ts) (same_mark (mark_of d.kind) mark.Dot) refl where
    dotted : (d u : Token) (ts : List Token) → Meets More B end (List (List ℕ)) (reading.more_names end ts) ts → (b : Bool) →
        same_mark (mark_of d.kind) mark.Dot ≡ b
        → Meets More B end (List (List ℕ)) (if b then or_expected u.start (name_of u.kind) >>= (λ name. with_front (name ∷ []) (reading.more_names end ts))
        else Ok ([], d ∷ u ∷ ts)) (d ∷ u ∷ ts)
    dotted d u ts again false is = meets_ok More B end (List (List ℕ)) [] (d ∷ u ∷ ts) no_names
    dotted d u ts again true is = meets_behind More B end (List (List ℕ)) d (u ∷ ts) _ (by (name_of u.kind) refl) where
      isd : d.kind ≡ spelling mark.Dot
      isd = spelled d.kind mark.Dot (same_is (mark_of d.kind) mark.Dot is) (omega arith)

      by : (o : Option (List ℕ)) → name_of u.kind ≡ o →
          Meets (Behind d More) B end (List (List ℕ)) (or_expected u.start o >>= (λ name. with_front (name ∷ []) (reading.more_names end ts))) (u ∷ ts)
      by (Some n) isn =
          meets_behind (Behind d More) B end (List (List ℕ)) u ts (with_front (n ∷ []) (reading.more_names end ts))
          (meets_front (Behind u (Behind d More)) B end (List ℕ) (n ∷ []) (reading.more_names end ts) ts
          (meets_as (Behind u (Behind d More)) More B end (List (List ℕ)) ts (reading.more_names end ts) again
          (λ m us vs r t name named. let (names, are) = r u n (name_some u.kind n isn) in (name ∷ names, more_names t d name names (u ∷ us) vs named isd are))))
      by None isn = meets_none (Behind d More) B end (List (List ℕ)) (u ∷ ts) u.start refl (dot_sample d isd)

  abbrev name_sample : Sample APath
  name_sample = record {
    tokens = name_dummy ∷ [];
    least = 0;
    whole = λ m some vs. (_, a_path (name_dummy ∷ vs) vs (codes "x" ∷ []) (one_name name_dummy (codes "x") vs refl));
  }

  pub path_meets : (ts : List Token) → Meets APath B end Path (reading.path U ts) ts
  unfolding reading.path
  path_meets ts =
      meets_name APath B end Path ts _ name_sample (λ t name us named.
      meets_last (Behind t APath) More B end (List (List ℕ)) Path us (reading.more_names end us) (λ more. record { line = line_of ts; names = name ∷ more })
      (names_meet us)
      (λ m us vs r. let (names, are) = r t name named in (_, a_path (t ∷ us) vs names are)))

  abbrev pub type_sample : Sample AType
  type_sample = record {
    tokens = name_dummy ∷ [];
    least = 0;
    whole = λ m some vs. let (p, is) = name_sample.whole m some vs in
        (type.Object p, objects (name_dummy ∷ vs) vs p is);
  }

  type_by_meets : (t : Token) (ts : List Token) (m : Mark) → mark_of t.kind ≡ m → Meets AType B end TypeName (reading.type_by U t ts m) (t ∷ ts)
  type_by_meets t ts mark.Number is =
      meets_behind AType B end TypeName t ts _
      (meets_ok (Behind t AType) B end TypeName type.Number ts (λ m vs. (_, numbers t vs (spelled t.kind mark.Number is (omega arith)))))
  type_by_meets t ts mark.Text is =
      meets_behind AType B end TypeName t ts _
      (meets_ok (Behind t AType) B end TypeName type.Text ts (λ m vs. (_, texts t vs (spelled t.kind mark.Text is (omega arith)))))
  type_by_meets t ts mark.Truth is =
      meets_behind AType B end TypeName t ts _
      (meets_ok (Behind t AType) B end TypeName type.Truth ts (λ m vs. (_, truths t vs (spelled t.kind mark.Truth is (omega arith)))))
  type_by_meets t ts _ is =
      meets_last AType APath B end Path TypeName (t ∷ ts) (reading.path U (t ∷ ts)) (λ p. type.Object p) (path_meets (t ∷ ts))
      (λ m us vs q. (_, objects us vs q.0 q.1))

  pub type_meets : (ts : List Token) → Meets AType B end TypeName (reading.type_at U ts) ts
  unfolding reading.type_at
  type_meets [] = meets_none AType B end TypeName [] end refl type_sample
  type_meets (t ∷ ts) = type_by_meets t ts (mark_of t.kind) refl

  -- ---- first values and texts

  abbrev pub literal_sample : Sample ALiteral
  literal_sample =
      record { tokens = dummy (kind.Number (pos 0)) ∷ []; least = 0; whole = λ m some vs. (_, a_number (dummy (kind.Number (pos 0))) (pos 0) vs refl) }

  literal_refused : (ts : List Token) (e : SyntaxRefusal) → reading.literal_at U ts ≡ Err e → Halt ALiteral B end ts e
  unfolding reading.literal_at reading.negative
  literal_refused [] e h = halt_here ALiteral B end [] e literal_sample cc
  literal_refused (t ∷ ts) e h = by (reading.literal_of t.line t.kind) h where
    second : (isd : t.kind ≡ spelling mark.Minus) → Sample (Behind t ALiteral)
    second is = record {
      tokens = dummy (kind.Number (pos 0)) ∷ [];
      least = 0;
      whole = λ m some vs. (_, a_negative_number t (dummy (kind.Number (pos 0))) (pos 0) vs is refl);
    }

    behind : (isd : t.kind ≡ spelling mark.Minus) (ts : List Token) → reading.negative U t ts ≡ Err e → Halt (Behind t ALiteral) B end ts e
    behind is [] h = halt_here (Behind t ALiteral) B end [] e (second is) cc
    behind is (u ∷ us) h = number (reading.number_of u.kind) h where
      number : (o : Option ℤ) → ◌≡◌ {A = Answer (Literal × List Token)} (or_expected u.start o >>= (λ n. Ok (literal.Negative t.line n, us))) (Err e) →
          Halt (Behind t ALiteral) B end (u ∷ us) e
      number (Some n) h = apart (literal.Negative t.line n, us) e h
      number None h = halt_here (Behind t ALiteral) B end (u ∷ us) e (second is) cc

    minus : (b : Bool) → same_mark (mark_of t.kind) mark.Minus ≡ b →
        ◌≡◌ {A = Answer (Literal × List Token)} (if b then reading.negative U t ts else Err (Expected t.start)) (Err e) → Halt ALiteral B end (t ∷ ts) e
    minus true is h =
        lifted ALiteral (Behind t ALiteral) B end (t ∷ []) ts (t ∷ ts) e (behind_token ALiteral t) refl
        (behind (spelled t.kind mark.Minus (same_is (mark_of t.kind) mark.Minus is) (omega arith)) ts h)
    minus false is h = halt_here ALiteral B end (t ∷ ts) e literal_sample cc

    by : (o : Option Literal) → ◌≡◌ {A = Answer (Literal × List Token)} (reading.literal_or U t ts o) (Err e) → Halt ALiteral B end (t ∷ ts) e
    by (Some v) h = apart (v, ts) e h
    by None h = minus (same_mark (mark_of t.kind) mark.Minus) refl h

  pub literal_meets : (ts : List Token) → Meets ALiteral B end Literal (reading.literal_at U ts) ts
  literal_meets ts = record { halts = λ e h. literal_refused ts e h; moves = λ v us h. literal_moved ts us v (literal_sound U ts (v, us) h) }

  -- one text
  abbrev pub AText : ℕ → List Token → List Token → Type 0
  AText m xs ws = (t : Token) × (text : List ℕ) × (xs ≡ t ∷ ws) × (t.kind ≡ kind.Text text)

  abbrev pub text_sample : Sample AText
  text_sample = record { tokens = dummy (kind.Text []) ∷ []; least = 0; whole = λ m some vs. (dummy (kind.Text []), [], refl, refl) }

  pub text_meets : (ts : List Token) → Meets AText B end (List ℕ) (reading.text_at end ts) ts
  unfolding reading.text_at
  text_meets [] = meets_none AText B end (List ℕ) [] end refl text_sample
  text_meets (t ∷ ts) = by (reading.text_of t.kind) refl where
    by : (o : Option (List ℕ)) → reading.text_of t.kind ≡ o → Meets AText B end (List ℕ) (with_rest ts (or_expected t.start o)) (t ∷ ts)
    by (Some text) is =
        meets_behind AText B end (List ℕ) t ts (Ok (text, ts))
        (meets_ok (Behind t AText) B end (List ℕ) text ts (λ m vs. (t, text, refl, text_some t.kind text is)))
    by None is = meets_none AText B end (List ℕ) (t ∷ ts) t.start refl text_sample

  -- ---- parameters

  abbrev colon_type : (n : Token) (name : List ℕ) → n.kind ≡ kind.Name name → Sample (Behind n AParameter)
  colon_type n name named =
      record {
        tokens = word mark.Colon ∷ name_dummy ∷ [];
        least = 0;
        whole = λ m some vs. let (t, is) = type_sample.whole m some vs in
            (_, a_parameter n (word mark.Colon) name (name_dummy ∷ vs) vs t named refl is);
      }

  pub parameter_meets : (ts : List Token) → Meets AParameter B end Parameter (reading.parameter U ts) ts
  unfolding reading.parameter
  parameter_meets ts =
      meets_name AParameter B end Parameter ts _
      (record {
        tokens = name_dummy ∷ word mark.Colon ∷ name_dummy ∷ [];
        least = 0;
        whole = λ m some vs. (colon_type name_dummy (codes "x") refl).whole m some vs;
      }) (λ n name us named.
      meets_mark (Behind n AParameter) B end Parameter mark.Colon (omega arith) us _ (colon_type n name named) (λ c xs isc.
      meets_last (Behind c (Behind n AParameter)) AType B end TypeName Parameter xs (reading.type_at U xs)
      (λ t. record { line = line_of ts; name = name; values = t }) (type_meets xs)
      (λ m us vs q. (_, a_parameter n c name us vs q.0 named isc q.1))))

  -- parameters up to a closing parenthesis, at most so many
  record Closing (few : ℕ) (m : ℕ) (xs ws : List Token) : Type 0 where
    ps : List Parameter
    close : Token
    are : AreParameters xs ps (close ∷ ws)
    closes : IsSymbol ")" close
    count : length ps ≤ few

  -- behind a parameter: at most so many more
  abbrev Others : ℕ → ℕ → List Token → List Token → Type 0
  Others room m xs ws = (ys : List Token) → AParameter m ys xs → Closing (suc room) m ys ws

  closing_sample : (room : ℕ) → Sample (Others room)
  closing_sample room =
      record {
        tokens = word mark.Close ∷ [];
        least = 0;
        whole =
            λ m some vs ys p. record {
              ps = p.0 ∷ [];
              close = word mark.Close;
              are = one_parameter ys (word mark.Close ∷ vs) p.0 p.1;
              closes = refl;
              count = omega arith;
            };
      }

  closed_meets : (room : ℕ) (ts : List Token) → Meets (Others room) B end (List Parameter) (reading.closed U ts) ts
  closed_meets room ts =
      meets_mark (Others room) B end (List Parameter) mark.Close (omega arith) ts (λ rest. Ok ([], rest)) (closing_sample room) (λ c us isc.
      meets_ok (Behind c (Others room)) B end (List Parameter) [] us
      (λ m vs ys p. record { ps = p.0 ∷ []; close = c; are = one_parameter ys (c ∷ vs) p.0 p.1; closes = isc; count = omega arith }))

  listed_meets : (room : ℕ) → ((us : List Token) → Meets (Others room) B end (List Parameter) (reading.more_parameters U room us) us) → (ts : List Token)
      → Meets (Closing (suc room)) B end (List Parameter) (reading.parameter U ts >>= (λ p. with_front (p.0 ∷ []) (reading.more_parameters U room p.1))) ts
  listed_meets room again ts =
      meets_part (Closing (suc room)) AParameter B end Parameter (List Parameter) ts (reading.parameter U ts)
      (λ p. with_front (p.0 ∷ []) (reading.more_parameters U room p.1)) (closing_sample room) (parameter_meets ts)
      (λ p us is. meets_front (After AParameter (Closing (suc room))) B end Parameter (p ∷ []) (reading.more_parameters U room us) us (again us))

  more_meets : (room : ℕ) (ts : List Token) → Meets (Others room) B end (List Parameter) (reading.more_parameters U room ts) ts
  unfolding reading.more_parameters
  more_meets zero ts = closed_meets zero ts
  more_meets (suc room) ts = by ts (after mark.Comma ts) refl (listed_meets room (more_meets room)) where
    by : (ts : List Token) (o : Option (List Token)) → after mark.Comma ts ≡ o →
        ((us : List Token) →
        Meets (Closing (suc room)) B end (List Parameter) (reading.parameter U us >>= (λ p. with_front (p.0 ∷ []) (reading.more_parameters U room p.1))) us)
        → Meets (Others (suc room)) B end (List Parameter) (reading.more_by U ts o (λ rest. reading.more_parameters U room rest)) ts
    by ts None missing listed = closed_meets (suc room) ts
    by ts (Some rest) some listed =
        let (k, split, isk) = after_told mark.Comma (omega arith) ts rest some in
        subst (λ l. Meets (Others (suc room)) B end (List Parameter)
        (reading.parameter U rest >>= (λ p. with_front (p.0 ∷ []) (reading.more_parameters U room p.1))) l) (sym split)
        (meets_behind (Others (suc room)) B end (List Parameter) k rest _
        (meets_as (Behind k (Others (suc room))) (Closing (suc room)) B end (List Parameter) rest _ (listed rest)
        (λ m us vs c ys p. let n = c.count in
        record {
          ps = p.0 ∷ c.ps;
          close = c.close;
          are = more_parameters ys us (c.close ∷ vs) k p.0 c.ps p.1 isk c.are;
          closes = c.closes;
          count = omega (arith, n);
        })))

  none_sample : (o : Token) → IsSymbol "(" o → Sample (Behind o Params)
  none_sample o is = record { tokens = word mark.Close ∷ []; least = 0; whole = λ m some vs. ([], no_parameters o (word mark.Close) vs is refl) }

  parameters_or_meets : (o : Token) →
      IsSymbol "(" o → (ts : List Token) (c : Option (List Token)) → after mark.Close ts ≡ c →
      Meets (Behind o Params) B end (List Parameter) (reading.parameters_or U ts c) ts
  parameters_or_meets o is ts None missing =
      meets_as (Behind o Params) (Closing 16) B end (List Parameter) ts _ (listed_meets 15 (more_meets 15) ts)
      (λ m us vs c. (c.ps, some_parameters o c.close us vs c.ps is c.are c.count c.closes))
  parameters_or_meets o is ts (Some rest) some =
      let (c, split, isc) = after_told mark.Close (omega arith) ts rest some in
      subst (λ l. Meets (Behind o Params) B end (List Parameter) (Ok ([], rest)) l) (sym split)
      (meets_behind (Behind o Params) B end (List Parameter) c rest (Ok ([], rest))
      (meets_ok (Behind c (Behind o Params)) B end (List Parameter) [] rest (λ m vs. ([], no_parameters o c vs is isc))))

  abbrev pub parameters_sample : Sample Params
  parameters_sample =
      record {
        tokens = word mark.Open ∷ word mark.Close ∷ [];
        least = 0;
        whole = λ m some vs. ([], no_parameters (word mark.Open) (word mark.Close) vs refl refl);
      }

  pub parameters_meets : (ts : List Token) → Meets Params B end (List Parameter) (reading.parameters U ts) ts
  unfolding reading.parameters
  parameters_meets ts =
      meets_mark Params B end (List Parameter) mark.Open (omega arith) ts (λ a. reading.parameters_or U a (after mark.Close a)) parameters_sample
      (λ o us iso. parameters_or_meets o iso us (after mark.Close us) refl)

-- The small readers stop where their tokens do: names, paths, types, first values and parameters.
use Rattle.std.proofs.Common.{◌≡◌, ℕ, ℤ, zero, suc, ◌<◌, ◌≤◌, List, [], ◌∷◌, ◌++◌, length, true, false, Some, None, Ok, Err, refl, sym, ap, ◌∙◌, subst, arith}
use Rattle.std.specs.Prelude.{Bool, Option, if◌then◌else◌}
use Rattle.sheet_syntax_trees.specs.declared.token.Token.{Token}
use Rattle.sheet_syntax_trees.specs.declared.token.TokenKind.{TokenKind}
use Rattle.sheet_syntax_trees.specs.declared.token.SyntaxRefusal.{SyntaxRefusal}
use Rattle.sheet_syntax_trees.specs.declared.token.SyntaxRefusal.TheVariants.{Expected}
use Rattle.sheet_syntax_trees.specs.Reading.{Answer, ◌>>=◌, line_of, or_expected, with_rest, name_of, name_at}
use Rattle.sheet_define_data.specs.declared.definition.Path.{Path}
use Rattle.sheet_define_data.specs.declared.definition.TypeName.{TypeName}
use Rattle.sheet_define_data.specs.declared.definition.TypeName.TheVariants as type
use Rattle.sheet_define_data.specs.declared.definition.Literal.{Literal}
use Rattle.sheet_define_data.specs.declared.definition.Literal.TheVariants as literal
use Rattle.sheet_define_data.specs.declared.definition.Parameter.{Parameter}
use Rattle.sheet_define_reading.specs.declared.mark.Mark.{Mark}
use Rattle.sheet_define_reading.specs.declared.mark.Mark.TheVariants as mark
use Rattle.sheet_define_reading.specs.Marks.{mark_of, same_mark}
use Rattle.sheet_define_reading.specs.Reading as reading
use Rattle.sheet_define_reading.specs.Reading.{Bounds, Reader, Turn, after, expect, with_front, optional, mark_at}
use Rattle.sheet_define_reading.proofs.Answering.{front_ok}
use Rattle.sheet_define_refusals.proofs.Locality.{Same, same_nil, same_cons, Ordered, ordered_behind, Det, Reads, Any, det_weaken, det_cons, det_refused}
use Rattle.sheet_define_refusals.proofs.Locality.{det_ok, det_last, det_steady, det_bind, det_seq, det_mark, first}

pub apart : {A P : Type 0} (x : A) (e : SyntaxRefusal) → ◌≡◌ {A = Answer A} (Err e) (Ok x) → P
apart x e h = let wrong : ⊥ = cc in absurd wrong

-- ---- names

pub det_name : (B Y D : Type 0) (end : ℕ) (L : List Token → Type 0) (k : List ℕ × List Token → Answer (B × List Token)) (g : Y → List ℕ × List Token →
    Answer (D × List Token)) (ts : List Token) → Ordered end ts
    → ((name : List ℕ) (us : List Token) → length us < length ts → Ordered end us → Det B end (k (name, us)) (Reads Y D L (λ e vs. g e (name, vs))) us)
    → Det B end (name_at end ts >>= k) (Reads Y D L (λ e vs. name_at end vs >>= g e)) ts
det_name B Y D end L k g [] order next =
    det_refused B end end (Reads Y D L (λ e vs. name_at end vs >>= g e)) [] refl (λ vs ws s c.
    apart (c.value, ws) (Expected end) (subst (λ l. ◌≡◌ {A = Answer (D × List Token)} (name_at end l >>= g c.which) (Ok (c.value, ws))) (same_nil vs s) c.is))
det_name B Y D end L k g (t ∷ ts) order next = by (name_of t.kind) refl where
  by : (o : Option (List ℕ)) → name_of t.kind ≡ o →
      Det B end (with_rest ts (or_expected t.start o) >>= k) (Reads Y D L (λ e vs. name_at end vs >>= g e)) (t ∷ ts)
  by (Some name) is =
      det_cons B end (k (name, ts)) (Reads Y D L (λ e vs. g e (name, vs))) (Reads Y D L (λ e vs. name_at end vs >>= g e)) t ts
      (next name ts (omega arith) (ordered_behind end (t ∷ ts) (t ∷ []) ts order refl))
      (λ vs ws c. record { which = c.which; value = c.value; is = sym (ap (λ o. with_rest vs (or_expected t.start o) >>= g c.which) is) ∙ c.is; left = c.left })
  by None is =
      det_refused B end t.start (Reads Y D L (λ e vs. name_at end vs >>= g e)) (t ∷ ts) refl (λ vs ws s c.
      let (us, e) = same_cons t ts vs s in
      let there = subst (λ l. ◌≡◌ {A = Answer (D × List Token)} (name_at end l >>= g c.which) (Ok (c.value, ws))) e c.is in
      apart (c.value, ws) (Expected t.start) (sym (ap (λ o. with_rest us (or_expected t.start o) >>= g c.which) is) ∙ there))

-- ---- what may be left out

pub det_optional : (A Y C : Type 0) (end : ℕ) (K : List Token → Type 0) (m : Mark) (p : Reader A) (q : Y → Reader C) (ts : List Token) → Ordered end ts
    → ((us : List Token) → Ordered end us → Det A end (p us) (Reads Y C K q) us)
    → Det (Option A) end (optional p ts (after m ts)) (Reads Y (Option C) K (λ e vs. optional (q e) vs (after m vs))) ts
det_optional A Y C end K m p q [] order next =
    det_ok (Option A) end None (Reads Y (Option C) K (λ e vs. optional (q e) vs (after m vs))) [] (λ vs ws s c.
    let none = same_nil vs s in
    let there : ◌≡◌ {A = Answer (Option C × List Token)} (Ok (None, [])) (Ok (c.value, ws)) =
    subst (λ l. ◌≡◌ {A = Answer (Option C × List Token)} (optional (q c.which) l (after m l)) (Ok (c.value, ws))) none c.is in
    let both : (None, []) ≡ (c.value, ws) = cc in
    sym (ap (λ (p : Option C × List Token). p.1) both) ∙ sym none)
det_optional A Y C end K m p q (t ∷ ts) order next = by (same_mark (mark_of t.kind) m) refl where
  by : (b : Bool) → same_mark (mark_of t.kind) m ≡ b →
      Det (Option A) end (optional p (t ∷ ts) (if b then Some ts else None)) (Reads Y (Option C) K (λ e vs. optional (q e) vs (after m vs))) (t ∷ ts)
  by true is =
      det_cons (Option A) end (p ts >>= (λ x. Ok (Some x.0, x.1))) (Reads Y (Option C) K (λ e vs. q e vs >>= (λ x. Ok (Some x.0, x.1))))
      (Reads Y (Option C) K (λ e vs. optional (q e) vs (after m vs))) t ts
      (det_bind A (Option A) Y C (Option C) end K K (p ts) (λ x. Ok (Some x.0, x.1)) q (λ e x. Ok (Some x.0, x.1)) ts
      (ordered_behind end (t ∷ ts) (t ∷ []) ts order refl) (next ts (ordered_behind end (t ∷ ts) (t ∷ []) ts order refl))
      (λ e y us z ws h l. let same : (Some y, us) ≡ (z, ws) = cc in subst K (sym (ap (λ (p : Option C × List Token). p.1) same)) l)
      (λ x us ex o. det_last (Option A) (Y × C) (Option C) end (Some x) K (λ e. Some e.1) us))
      (λ vs ws c. record {
        which = c.which;
        value = c.value;
        is = sym (ap (λ b. optional (q c.which) (t ∷ vs) (if b then Some vs else None)) is) ∙ c.is;
        left = c.left;
      })
  by false is =
      det_ok (Option A) end None (Reads Y (Option C) K (λ e vs. optional (q e) vs (after m vs))) (t ∷ ts) (λ vs ws s c.
      let (us, e) = same_cons t ts vs s in
      let there = subst (λ l. ◌≡◌ {A = Answer (Option C × List Token)} (optional (q c.which) l (after m l)) (Ok (c.value, ws))) e c.is in
      let left : ◌≡◌ {A = Answer (Option C × List Token)} (Ok (None, t ∷ us)) (Ok (c.value, ws)) =
      sym (ap (λ b. optional (q c.which) (t ∷ us) (if b then Some us else None)) is) ∙ there in
      let both : (None, t ∷ us) ≡ (c.value, ws) = cc in
      sym (ap (λ (p : Option C × List Token). p.1) both) ∙ sym e)

-- these things before those that are read behind them
pub det_front : (A Y C : Type 0) (end : ℕ) (K : List Token → Type 0) (front : List A) (r : Answer (List A × List Token)) (others : Y → List C) (q : Y →
    Reader (List C)) (ts : List Token) → Det (List A) end r (Reads Y (List C) K q) ts
    → Det (List A) end (with_front front r) (Reads Y (List C) K (λ e vs. with_front (others e) (q e vs))) ts
det_front A Y C end K front r others q ts d =
    record {
      given = λ x us e.
          let (y, ey, same) = front_ok front r (x, us) e in
          let g = d.given y.0 y.1 ey in
          let rest : us ≡ y.1 = ap (λ (p : List A × List Token). p.1) same in
          record {
            front = g.front;
            split = g.split ∙ ap (λ l. g.front ++ l) (sym rest);
            again = λ vs ws s c.
                let (z, ez, is) = front_ok (others c.which) (q c.which (g.front ++ vs)) (c.value, ws) c.is in
                let w : ws ≡ z.1 = ap (λ (p : List C × List Token). p.1) is in
                w ∙ g.again vs z.1 (record { is = ap first (sym rest) ∙ s.is }) (record { which = c.which; value = z.0; is = ez; left = subst K w c.left });
          };
      refused = λ o e.
          let f = d.refused o (front_err front r (Expected o) e) in
          record {
            front = f.front;
            rest = f.rest;
            split = f.split;
            here = f.here;
            none = λ vs ws s c.
                let (z, ez, is) = front_ok (others c.which) (q c.which (f.front ++ vs)) (c.value, ws) c.is in
                let w : ws ≡ z.1 = ap (λ (p : List C × List Token). p.1) is in
                f.none vs z.1 s (record { which = c.which; value = z.0; is = ez; left = subst K w c.left });
          };
    } where
      front_err : (front : List A) (r : Answer (List A × List Token)) (e : SyntaxRefusal) → with_front front r ≡ Err e →
          ◌≡◌ {A = Answer (List A × List Token)} r (Err e)
      front_err front (Ok x) e h = let wrong : ⊥ = cc in absurd wrong
      front_err front (Err d) e h = let same : d ≡ e = cc in ap Err same

-- ---- paths and types

more_by : (end : ℕ) (d : Token) (ts : List Token) → same_mark (mark_of d.kind) mark.Dot ≡ true →
    (reading.more_names end (d ∷ ts) ≡ (name_at end ts >>= (λ name. with_front (name.0 ∷ []) (reading.more_names end name.1))))
unfolding reading.more_names
more_by end d [] is = rw is refl
more_by end d (t ∷ ts) is = rw is (by (name_of t.kind)) where
  by : (o : Option (List ℕ)) →
      (or_expected t.start o >>= (λ name. with_front (name ∷ []) (reading.more_names end ts))) ≡ (with_rest ts (or_expected t.start o) >>= (λ name.
      with_front (name.0 ∷ []) (reading.more_names end name.1)))
  by (Some name) = refl
  by None = refl

no_more : (end : ℕ) (ts : List Token) → same_mark (mark_at ts) mark.Dot ≡ false → reading.more_names end ts ≡ Ok ([], ts)
unfolding reading.more_names
no_more end [] unlike = refl
no_more end (d ∷ []) unlike = rw unlike refl
no_more end (d ∷ t ∷ ts) unlike = rw unlike refl

pub same_dot : (ts us : List Token) → Same ts us → same_mark (mark_at us) mark.Dot ≡ same_mark (mark_at ts) mark.Dot
same_dot [] us s = ap (λ l. same_mark (mark_at l) mark.Dot) (same_nil us s)
same_dot (t ∷ ts) us s = let (vs, e) = same_cons t ts us s in ap (λ l. same_mark (mark_at l) mark.Dot) e

abbrev Names : ℕ → List Token → List Token → Type 0
Names end = Reads ℕ (List (List ℕ)) Any (λ e vs. reading.more_names end vs)

names_by : (end : ℕ) (ts : List Token) → Ordered end ts →
    ((us : List Token) → length us < length ts → Ordered end us → Det (List (List ℕ)) end (reading.more_names end us) (Names end) us) → (b : Bool) →
    same_mark (mark_at ts) mark.Dot ≡ b
    → Det (List (List ℕ)) end (reading.more_names end ts) (Names end) ts
names_by end ts order again false is =
    subst (λ r. Det (List (List ℕ)) end r (Names end) ts) (sym (no_more end ts is)) (det_ok (List (List ℕ)) end [] (Names end) ts (λ vs ws s c.
    let there = sym (no_more end vs (same_dot ts vs s ∙ is)) ∙ c.is in
    let both : ([], vs) ≡ (c.value, ws) = cc in
    sym (ap (λ (p : List (List ℕ) × List Token). p.1) both)))
names_by end [] order again true is = let wrong : ⊥ = cc in absurd wrong
names_by end (d ∷ ts) order again true is =
    subst (λ r. Det (List (List ℕ)) end r (Names end) (d ∷ ts)) (sym (more_by end d ts is))
    (det_cons (List (List ℕ)) end (name_at end ts >>= (λ name. with_front (name.0 ∷ []) (reading.more_names end name.1)))
    (Reads ℕ (List (List ℕ)) Any (λ e vs. name_at end vs >>= (λ name. with_front (name.0 ∷ []) (reading.more_names end name.1)))) (Names end) d ts
    (det_name (List (List ℕ)) ℕ (List (List ℕ)) end Any (λ name. with_front (name.0 ∷ []) (reading.more_names end name.1))
    (λ e name. with_front (name.0 ∷ []) (reading.more_names end name.1)) ts (ordered_behind end (d ∷ ts) (d ∷ []) ts order refl)
    (λ name us shorter o. det_front (List ℕ) ℕ (List ℕ) end Any (name ∷ []) (reading.more_names end us) (λ e. name ∷ []) (λ e vs. reading.more_names end vs) us
    (again us (omega arith) o)))
    (λ vs ws c. record { which = c.which; value = c.value; is = sym (more_by end d vs is) ∙ c.is; left = c.left }))

names_det : (end n : ℕ) (ts : List Token) → length ts ≤ n → Ordered end ts → Det (List (List ℕ)) end (reading.more_names end ts) (Names end) ts
names_det end zero [] short order = names_by end [] order (λ us shorter o. absurd (omega arith)) (same_mark (mark_at []) mark.Dot) refl
names_det end zero (t ∷ ts) short order = absurd (omega arith)
names_det end (suc n) ts short order = names_by end ts order (λ us shorter o. names_det end n us (omega arith) o) (same_mark (mark_at ts) mark.Dot) refl

-- the bounds that some definition keeps
abbrev pub wide : ℕ → ℕ → ℕ → Bounds
wide end d n = record { end = end; depth = d; nest = n }

module _ (end d n : ℕ) where
  abbrev W : Bounds
  W = wide end d n

  abbrev U : Bounds
  U = reading.usual end

  abbrev pub Paths : List Token → List Token → Type 0
  Paths = Reads ℕ Path Any (λ e vs. reading.path W vs)

  pub path_det : (ts : List Token) → Ordered end ts → Det Path end (reading.path U ts) Paths ts
  unfolding reading.path
  path_det ts order =
      det_weaken Path end (reading.path U ts)
      (Reads ℕ Path Any
      (λ e vs. name_at end vs >>= (λ name. reading.more_names end name.1 >>= (λ more. Ok (record { line = e; names = name.0 ∷ more.0 }, more.1))))) Paths ts
      (det_name Path ℕ Path end Any _ (λ e name. reading.more_names end name.1 >>= (λ more. Ok (record { line = e; names = name.0 ∷ more.0 }, more.1))) ts order
      (λ name us shorter o.
      det_seq (List (List ℕ)) Path ℕ (List (List ℕ)) Path end Any (reading.more_names end us)
      (λ more. Ok (record { line = line_of ts; names = name ∷ more.0 }, more.1)) (λ e vs. reading.more_names end vs)
      (λ e more. Ok (record { line = e; names = name ∷ more.0 }, more.1)) us o
      (names_det end (length us) us (omega arith) o)
      (λ more vs e k. det_last Path (ℕ × List (List ℕ)) Path end (record { line = line_of ts; names = name ∷ more }) Any
      (λ e. record { line = e.0; names = name ∷ e.1 }) vs)))
      (λ vs ws s c. record { which = line_of vs; value = c.value; is = c.is; left = c.left })

  abbrev pub Types : List Token → List Token → Type 0
  Types = Reads ℕ TypeName Any (λ e vs. reading.type_at W vs)

  type_cons : (t : Token) (vs : List Token) → reading.type_at W (t ∷ vs) ≡ reading.type_by W t vs (mark_of t.kind)
  unfolding reading.type_at
  type_cons t vs = refl

  one_type : (t : Token) (ts : List Token) (x : TypeName) → ((vs : List Token) → reading.type_at W (t ∷ vs) ≡ Ok (x, vs)) →
      Det TypeName end (Ok (x, ts)) Types (t ∷ ts)
  one_type t ts x h =
      det_cons TypeName end (Ok (x, ts)) (Reads ℕ TypeName Any (λ e vs. Ok (x, vs))) Types t ts (det_last TypeName ℕ TypeName end x Any (λ e. x) ts)
      (λ vs ws c. record { which = c.which; value = c.value; is = sym (h vs) ∙ c.is; left = c.left })

  type_by_det : (t : Token) (ts : List Token) → Ordered end (t ∷ ts) → (m : Mark) → mark_of t.kind ≡ m →
      Det TypeName end (reading.type_by U t ts m) Types (t ∷ ts)
  type_by_det t ts order mark.Number is = one_type t ts type.Number (λ vs. type_cons t vs ∙ ap (reading.type_by W t vs) is)
  type_by_det t ts order mark.Text is = one_type t ts type.Text (λ vs. type_cons t vs ∙ ap (reading.type_by W t vs) is)
  type_by_det t ts order mark.Truth is = one_type t ts type.Truth (λ vs. type_cons t vs ∙ ap (reading.type_by W t vs) is)
  type_by_det t ts order m is =
      det_weaken TypeName end (reading.path U (t ∷ ts) >>= (λ p. Ok (type.Object p.0, p.1)))
      (Reads ℕ TypeName Any (λ e vs. reading.path W vs >>= (λ p. Ok (type.Object p.0, p.1)))) Types (t ∷ ts)
      (det_seq Path TypeName ℕ Path TypeName end Any (reading.path U (t ∷ ts)) (λ p. Ok (type.Object p.0, p.1)) (λ e vs. reading.path W vs)
      (λ e p. Ok (type.Object p.0, p.1)) (t ∷ ts) order (path_det (t ∷ ts) order)
      (λ p us e o. det_last TypeName (ℕ × Path) TypeName end (type.Object p) Any (λ e. type.Object e.1) us))
      (λ vs ws s c.
      let (us, e) = same_cons t ts vs s in
      let there = subst (λ l. ◌≡◌ {A = Answer (TypeName × List Token)} (reading.type_at W l) (Ok (c.value, ws))) e c.is in
      let read = sym (type_cons t us ∙ ap (reading.type_by W t us) is) ∙ there in
      record {
        which = c.which;
        value = c.value;
        is = subst (λ l. ◌≡◌ {A = Answer (TypeName × List Token)} (reading.path W l >>= (λ p. Ok (type.Object p.0, p.1))) (Ok (c.value, ws))) (sym e) read;
        left = c.left;
      })

  pub type_det : (ts : List Token) → Ordered end ts → Det TypeName end (reading.type_at U ts) Types ts
  unfolding reading.type_at
  type_det [] order =
      det_refused TypeName end end Types [] refl (λ vs ws s c.
      apart (c.value, ws) (Expected end) (subst (λ l. ◌≡◌ {A = Answer (TypeName × List Token)} (reading.type_at W l) (Ok (c.value, ws))) (same_nil vs s) c.is))
  type_det (t ∷ ts) order = type_by_det t ts order (mark_of t.kind) refl

  -- ---- first values and texts

  -- one token of a kind
  abbrev picked : {A : Type 0} → (TokenKind → Option A) → Reader A
  picked f [] = Err (Expected end)
  picked f (t ∷ ts) = with_rest ts (or_expected t.start (f t.kind))

  picked_det : (A : Type 0) (f : TokenKind → Option A) (ts : List Token) → Det A end (picked f ts) (Reads ℕ A Any (λ e. picked f)) ts
  picked_det A f [] =
      det_refused A end end (Reads ℕ A Any (λ e. picked f)) [] refl
      (λ vs ws s c. apart (c.value, ws) (Expected end) (subst (λ l. ◌≡◌ {A = Answer (A × List Token)} (picked f l) (Ok (c.value, ws))) (same_nil vs s) c.is))
  picked_det A f (t ∷ ts) = by (f t.kind) refl where
    by : (o : Option A) → f t.kind ≡ o → Det A end (with_rest ts (or_expected t.start o)) (Reads ℕ A Any (λ e. picked f)) (t ∷ ts)
    by (Some x) is =
        det_cons A end (Ok (x, ts)) (Reads ℕ A Any (λ e vs. Ok (x, vs))) (Reads ℕ A Any (λ e. picked f)) t ts (det_last A ℕ A end x Any (λ e. x) ts)
        (λ vs ws c. record { which = c.which; value = c.value; is = sym (ap (λ o. with_rest vs (or_expected t.start o)) is) ∙ c.is; left = c.left })
    by None is =
        det_refused A end t.start (Reads ℕ A Any (λ e. picked f)) (t ∷ ts) refl (λ vs ws s c.
        let (us, e) = same_cons t ts vs s in
        let there = subst (λ l. ◌≡◌ {A = Answer (A × List Token)} (picked f l) (Ok (c.value, ws))) e c.is in
        apart (c.value, ws) (Expected t.start) (sym (ap (λ o. with_rest us (or_expected t.start o)) is) ∙ there))

  text_picked : (ts : List Token) → reading.text_at end ts ≡ picked reading.text_of ts
  unfolding reading.text_at
  text_picked [] = refl
  text_picked (t ∷ ts) = refl

  pub text_det : (ts : List Token) → Det (List ℕ) end (reading.text_at end ts) (Reads ℕ (List ℕ) Any (λ e vs. reading.text_at end vs)) ts
  text_det ts =
      subst (λ r. Det (List ℕ) end r (Reads ℕ (List ℕ) Any (λ e vs. reading.text_at end vs)) ts) (sym (text_picked ts))
      (det_weaken (List ℕ) end (picked reading.text_of ts) (Reads ℕ (List ℕ) Any (λ e. picked reading.text_of))
      (Reads ℕ (List ℕ) Any (λ e vs. reading.text_at end vs)) ts (picked_det (List ℕ) reading.text_of ts)
      (λ vs ws s c. record { which = c.which; value = c.value; is = sym (text_picked vs) ∙ c.is; left = c.left }))

  negative_picked : (s : Bounds) (m : Token) (ts : List Token) → s.end ≡ end →
      ◌≡◌ {A = Answer (Literal × List Token)} (reading.negative s m ts) (picked reading.number_of ts >>= (λ x. Ok (literal.Negative m.line x.0, x.1)))
  unfolding reading.negative
  negative_picked s m [] is = ap (λ e. Err (Expected e)) is
  negative_picked s m (t ∷ ts) is = by (reading.number_of t.kind) where
    by : (o : Option ℤ) →
        ◌≡◌ {A = Answer (Literal × List Token)} (or_expected t.start o >>= (λ n. Ok (literal.Negative m.line n, ts)))
        (with_rest ts (or_expected t.start o) >>= (λ x. Ok (literal.Negative m.line x.0, x.1)))
    by (Some n) = refl
    by None = refl

  abbrev pub Literals : List Token → List Token → Type 0
  Literals = Reads ℕ Literal Any (λ e vs. reading.literal_at W vs)

  literal_cons : (t : Token) (vs : List Token) → reading.literal_at W (t ∷ vs) ≡ reading.literal_or W t vs (reading.literal_of t.line t.kind)
  unfolding reading.literal_at
  literal_cons t vs = refl

  negative_det : (m : Token) (ts : List Token) → Ordered end ts →
      Det Literal end (reading.negative U m ts) (Reads ℕ Literal Any (λ e vs. reading.negative W m vs)) ts
  negative_det m ts order =
      subst (λ r. Det Literal end r (Reads ℕ Literal Any (λ e vs. reading.negative W m vs)) ts) (sym (negative_picked U m ts refl))
      (det_weaken Literal end (picked reading.number_of ts >>= (λ x. Ok (literal.Negative m.line x.0, x.1)))
      (Reads ℕ Literal Any (λ e vs. picked reading.number_of vs >>= (λ x. Ok (literal.Negative m.line x.0, x.1))))
      (Reads ℕ Literal Any (λ e vs. reading.negative W m vs)) ts
      (det_seq ℤ Literal ℕ ℤ Literal end Any (picked reading.number_of ts) (λ x. Ok (literal.Negative m.line x.0, x.1)) (λ e. picked reading.number_of)
      (λ e x. Ok (literal.Negative m.line x.0, x.1)) ts order (picked_det ℤ reading.number_of ts)
      (λ n us e o. det_last Literal (ℕ × ℤ) Literal end (literal.Negative m.line n) Any (λ e. literal.Negative m.line e.1) us))
      (λ vs ws s c. record { which = c.which; value = c.value; is = sym (negative_picked W m vs refl) ∙ c.is; left = c.left }))

  literal_or_det : (t : Token) (ts : List Token) → Ordered end ts → (o : Option Literal) → reading.literal_of t.line t.kind ≡ o →
      Det Literal end (reading.literal_or U t ts o) Literals (t ∷ ts)
  literal_or_det t ts order (Some v) is =
      det_cons Literal end (Ok (v, ts)) (Reads ℕ Literal Any (λ e vs. Ok (v, vs))) Literals t ts (det_last Literal ℕ Literal end v Any (λ e. v) ts)
      (λ vs ws c. record { which = c.which; value = c.value; is = sym (literal_cons t vs ∙ ap (reading.literal_or W t vs) is) ∙ c.is; left = c.left })
  literal_or_det t ts order None is = by (same_mark (mark_of t.kind) mark.Minus) refl where
    by : (b : Bool) → same_mark (mark_of t.kind) mark.Minus ≡ b →
        Det Literal end (if b then reading.negative U t ts else Err (Expected t.start)) Literals (t ∷ ts)
    by true test =
        det_cons Literal end (reading.negative U t ts) (Reads ℕ Literal Any (λ e vs. reading.negative W t vs)) Literals t ts (negative_det t ts order)
        (λ vs ws c. record {
          which = c.which;
          value = c.value;
          is =
              sym (literal_cons t vs ∙ ap (reading.literal_or W t vs) is ∙ ap (λ b. if b then reading.negative W t vs else Err (Expected t.start)) test) ∙ c.is;
          left = c.left;
        })
    by false test =
        det_refused Literal end t.start Literals (t ∷ ts) refl (λ vs ws s c.
        let (us, e) = same_cons t ts vs s in
        let there = subst (λ l. ◌≡◌ {A = Answer (Literal × List Token)} (reading.literal_at W l) (Ok (c.value, ws))) e c.is in
        apart (c.value, ws) (Expected t.start)
        (sym (literal_cons t us ∙ ap (reading.literal_or W t us) is ∙ ap (λ b. if b then reading.negative W t us else Err (Expected t.start)) test)
        ∙ there))

  pub literal_det : (ts : List Token) → Ordered end ts → Det Literal end (reading.literal_at U ts) Literals ts
  unfolding reading.literal_at
  literal_det [] order =
      det_refused Literal end end Literals [] refl (λ vs ws s c.
      apart (c.value, ws) (Expected end) (subst (λ l. ◌≡◌ {A = Answer (Literal × List Token)} (reading.literal_at W l) (Ok (c.value, ws))) (same_nil vs s)
      c.is))
  literal_det (t ∷ ts) order = literal_or_det t ts (ordered_behind end (t ∷ ts) (t ∷ []) ts order refl) (reading.literal_of t.line t.kind) refl

  -- ---- parameters

  abbrev pub OneParameter : List Token → List Token → Type 0
  OneParameter = Reads ℕ Parameter Any (λ e vs. reading.parameter W vs)

  pub parameter_det : (ts : List Token) → Ordered end ts → Det Parameter end (reading.parameter U ts) OneParameter ts
  unfolding reading.parameter
  parameter_det ts order =
      det_weaken Parameter end (reading.parameter U ts)
      (Reads ℕ Parameter Any
      (λ e vs. name_at end
      vs >>= (λ name. expect end mark.Colon name.1 >>= (λ a. reading.type_at W a >>= (λ t. Ok (record { line = e; name = name.0; values = t.0 }, t.1))))))
      OneParameter ts
      (det_name Parameter ℕ Parameter end Any _
      (λ e name. expect end mark.Colon name.1 >>= (λ a. reading.type_at W a >>= (λ t. Ok (record { line = e; name = name.0; values = t.0 }, t.1)))) ts order
      (λ name us shorter o.
      det_mark Parameter ℕ Parameter end mark.Colon Any _ (λ e a. reading.type_at W a >>= (λ t. Ok (record { line = e; name = name; values = t.0 }, t.1))) us o
      (λ c xs split is o1.
      det_seq TypeName Parameter ℕ TypeName Parameter end Any (reading.type_at U xs) (λ t. Ok (record { line = line_of ts; name = name; values = t.0 }, t.1))
      (λ e vs. reading.type_at W vs) (λ e t. Ok (record { line = e; name = name; values = t.0 }, t.1)) xs o1
      (type_det xs o1) (λ t vs e k. det_last Parameter (ℕ × TypeName) Parameter end (record { line = line_of ts; name = name; values = t }) Any
      (λ e. record { line = e.0; name = name; values = e.1 }) vs))))
      (λ vs ws s c. record { which = line_of vs; value = c.value; is = c.is; left = c.left })

  abbrev Closed : List Token → List Token → Type 0
  Closed = Reads ℕ (List Parameter) Any (λ e vs. reading.closed W vs)

  closed_det : (ts : List Token) → Ordered end ts → Det (List Parameter) end (reading.closed U ts) Closed ts
  closed_det ts order =
      det_mark (List Parameter) ℕ (List Parameter) end mark.Close Any (λ rest. Ok ([], rest)) (λ e rest. Ok ([], rest)) ts order
      (λ c us split is o. det_last (List Parameter) ℕ (List Parameter) end [] Any (λ e. []) us)

  abbrev More : ℕ → List Token → List Token → Type 0
  More room = Reads ℕ (List Parameter) Any (λ e vs. reading.more_parameters W room vs)

  pub same_after : (m : Mark) (ts vs : List Token) → Same ts vs → after m ts ≡ None → after m vs ≡ None
  same_after m [] vs s h = ap (after m) (same_nil vs s)
  same_after m (t ∷ ts) vs s h = let (us, e) = same_cons t ts vs s in ap (after m) e ∙ none (same_mark (mark_of t.kind) m) h us where
    none : (b : Bool) → (if b then Some ts else None) ≡ None → (us : List Token) → (if b then Some us else None) ≡ None
    none true h us = let wrong : ⊥ = cc in absurd wrong
    none false h us = refl

  pub after_same : (m : Mark) (t : Token) (ts rest : List Token) → after m (t ∷ ts) ≡ Some rest → (same_mark (mark_of t.kind) m ≡ true) × (rest ≡ ts)
  after_same m t ts rest h = by (same_mark (mark_of t.kind) m) refl h where
    by : (b : Bool) → same_mark (mark_of t.kind) m ≡ b → (if b then Some ts else None) ≡ Some rest → (same_mark (mark_of t.kind) m ≡ true) × (rest ≡ ts)
    by true is e = (is, let s : ts ≡ rest = cc in sym s)
    by false is e = let wrong : ⊥ = cc in absurd wrong

  pub after_is : (m : Mark) (t : Token) (vs : List Token) → same_mark (mark_of t.kind) m ≡ true → after m (t ∷ vs) ≡ Some vs
  after_is m t vs is = ap (λ b. if b then Some vs else None) is

  listed_det : (room : ℕ) → ((us : List Token) → Ordered end us → Det (List Parameter) end (reading.more_parameters U room us) (More room) us) →
      (ts : List Token) → Ordered end ts
      → Det (List Parameter) end (reading.parameter U ts >>= (λ p. with_front (p.0 ∷ []) (reading.more_parameters U room p.1)))
      (Reads ℕ (List Parameter) Any (λ e vs. reading.parameter W vs >>= (λ p. with_front (p.0 ∷ []) (reading.more_parameters W room p.1)))) ts
  listed_det room again ts order =
      det_seq Parameter (List Parameter) ℕ Parameter (List Parameter) end Any (reading.parameter U ts)
      (λ p. with_front (p.0 ∷ []) (reading.more_parameters U room p.1)) (λ e vs. reading.parameter W vs)
      (λ e p. with_front (p.0 ∷ []) (reading.more_parameters W room p.1)) ts order
      (parameter_det ts order)
      (λ p us e o. det_front Parameter (ℕ × Parameter) Parameter end Any (p ∷ []) (reading.more_parameters U room us) (λ e. e.1 ∷ [])
      (λ e vs. reading.more_parameters W room vs) us
      (det_steady (List Parameter) (ℕ × Parameter) (List Parameter) end Any (reading.more_parameters U room us) (λ vs. reading.more_parameters W room vs) us
      (again us o)))

  more_zero : (s : Bounds) (ts : List Token) → reading.more_parameters s zero ts ≡ reading.closed s ts
  unfolding reading.more_parameters
  more_zero s ts = refl

  more_suc : (s : Bounds) (room : ℕ) (ts : List Token) →
      reading.more_parameters s (suc room) ts ≡ reading.more_by s ts (after mark.Comma ts) (λ rest. reading.more_parameters s room rest)
  unfolding reading.more_parameters
  more_suc s room ts = refl

  more_by_det : (room : ℕ) → ((us : List Token) → Ordered end us → Det (List Parameter) end (reading.more_parameters U room us) (More room) us) →
      (ts : List Token) → Ordered end ts → (o : Option (List Token)) → after mark.Comma ts ≡ o
      → Det (List Parameter) end (reading.more_by U ts o (λ rest. reading.more_parameters U room rest)) (More (suc room)) ts
  more_by_det room again ts order None is =
      det_weaken (List Parameter) end (reading.closed U ts) Closed (More (suc room)) ts (closed_det ts order)
      (λ vs ws s c. record {
        which = c.which;
        value = c.value;
        is =
            sym (more_suc W room vs ∙ ap (λ o. reading.more_by W vs o (λ rest. reading.more_parameters W room rest)) (same_after mark.Comma ts vs s is)) ∙ c.is;
        left = c.left;
      })
  more_by_det room again [] order (Some rest) is = let wrong : ⊥ = cc in absurd wrong
  more_by_det room again (t ∷ ts) order (Some rest) is =
      let (test, same) = after_same mark.Comma t ts rest is in
      subst (λ l. Det (List Parameter) end (reading.parameter U l >>= (λ p. with_front (p.0 ∷ []) (reading.more_parameters U room p.1))) (More (suc room))
      (t ∷ ts)) (sym same)
      (det_cons (List Parameter) end (reading.parameter U ts >>= (λ p. with_front (p.0 ∷ []) (reading.more_parameters U room p.1)))
      (Reads ℕ (List Parameter) Any (λ e vs. reading.parameter W vs >>= (λ p. with_front (p.0 ∷ []) (reading.more_parameters W room p.1))))
      (More (suc room)) t ts
      (listed_det room again ts (ordered_behind end (t ∷ ts) (t ∷ []) ts order refl))
      (λ vs ws c. record {
        which = c.which;
        value = c.value;
        is =
            sym (more_suc W room (t ∷ vs) ∙ ap (λ o. reading.more_by W (t ∷ vs) o (λ rest. reading.more_parameters W room rest))
            (after_is mark.Comma t vs test))
            ∙ c.is;
        left = c.left;
      }))

  more_det : (room : ℕ) (ts : List Token) → Ordered end ts → Det (List Parameter) end (reading.more_parameters U room ts) (More room) ts
  more_det zero ts order =
      subst (λ r. Det (List Parameter) end r (More zero) ts) (sym (more_zero U ts))
      (det_weaken (List Parameter) end (reading.closed U ts) Closed (More zero) ts (closed_det ts order)
      (λ vs ws s c. record { which = c.which; value = c.value; is = sym (more_zero W vs) ∙ c.is; left = c.left }))
  more_det (suc room) ts order =
      subst (λ r. Det (List Parameter) end r (More (suc room)) ts) (sym (more_suc U room ts))
      (more_by_det room (more_det room) ts order (after mark.Comma ts) refl)

  parameters_or_det : (ts : List Token) → Ordered end ts → (o : Option (List Token)) → after mark.Close ts ≡ o
      → Det (List Parameter) end (reading.parameters_or U ts o) (Reads ℕ (List Parameter) Any (λ e vs. reading.parameters_or W vs (after mark.Close vs))) ts
  parameters_or_det ts order None is =
      det_weaken (List Parameter) end (reading.parameter U ts >>= (λ p. with_front (p.0 ∷ []) (reading.more_parameters U 15 p.1)))
      (Reads ℕ (List Parameter) Any (λ e vs. reading.parameter W vs >>= (λ p. with_front (p.0 ∷ []) (reading.more_parameters W 15 p.1))))
      (Reads ℕ (List Parameter) Any (λ e vs. reading.parameters_or W vs (after mark.Close vs))) ts (listed_det 15 (more_det 15) ts order)
      (λ vs ws s c. record {
        which = c.which;
        value = c.value;
        is = sym (ap (reading.parameters_or W vs) (same_after mark.Close ts vs s is)) ∙ c.is;
        left = c.left;
      })
  parameters_or_det [] order (Some rest) is = let wrong : ⊥ = cc in absurd wrong
  parameters_or_det (t ∷ ts) order (Some rest) is =
      let (test, same) = after_same mark.Close t ts rest is in
      subst (λ l. Det (List Parameter) end (Ok ([], l)) (Reads ℕ (List Parameter) Any (λ e vs. reading.parameters_or W vs (after mark.Close vs))) (t ∷ ts))
      (sym same)
      (det_cons (List Parameter) end (Ok ([], ts)) (Reads ℕ (List Parameter) Any (λ e vs. Ok ([], vs)))
      (Reads ℕ (List Parameter) Any (λ e vs. reading.parameters_or W vs (after mark.Close vs))) t ts
      (det_last (List Parameter) ℕ (List Parameter) end [] Any (λ e. []) ts)
      (λ vs ws c. record {
        which = c.which;
        value = c.value;
        is = sym (ap (reading.parameters_or W (t ∷ vs)) (after_is mark.Close t vs test)) ∙ c.is;
        left = c.left;
      }))

  pub parameters_det : (ts : List Token) → Ordered end ts →
      Det (List Parameter) end (reading.parameters U ts) (Reads ℕ (List Parameter) Any (λ e vs. reading.parameters W vs)) ts
  unfolding reading.parameters
  parameters_det ts order =
      det_mark (List Parameter) ℕ (List Parameter) end mark.Open Any (λ a. reading.parameters_or U a (after mark.Close a))
      (λ e a. reading.parameters_or W a (after mark.Close a)) ts order
      (λ t us split is o. parameters_or_det us o (after mark.Close us) refl)

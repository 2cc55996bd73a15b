-- Targets stop at tokens that go on with none.
use Rattle.std.proofs.Common.{◌≡◌, ℕ, zero, suc, ◌+◌, ◌<◌, ◌≤◌, List, [], ◌∷◌, length, true, false, Some, None, Ok, Err, refl, sym, ap, ◌∙◌, subst, arith}
use Rattle.std.specs.Prelude.{Bool, Option, if◌then◌else◌, option_map}
use Rattle.sheet_syntax_trees.specs.declared.token.Token.{Token}
use Rattle.sheet_syntax_trees.specs.declared.token.TokenKind.{TokenKind}
use Rattle.sheet_syntax_trees.specs.declared.token.TokenKind.TheVariants as kind
use Rattle.sheet_syntax_trees.specs.declared.token.SyntaxRefusal.TheVariants.{Expected, TooNested}
use Rattle.sheet_syntax_trees.specs.declared.tree.Tree.{Tree}
use Rattle.sheet_syntax_trees.specs.declared.tree.Formed.{Formed}
use Rattle.sheet_syntax_trees.specs.Grammar.{form}
use Rattle.sheet_syntax_trees.specs.Reading as trees
use Rattle.sheet_syntax_trees.specs.Reading.{Answer, ◌>>=◌, offset, line_of, or_expected, with_rest, name_of, name_at, sign_at, formula_at, within, setting}
use Rattle.sheet_syntax_trees.specs.Reading.{step_of, made}
use Rattle.sheet_syntax_trees.proofs.Answering.{ok_then, name_some}
use Rattle.sheet_define_data.specs.declared.statement.Target.{Target}
use Rattle.sheet_define_reading.specs.declared.mark.Mark.TheVariants as mark
use Rattle.sheet_define_reading.specs.Marks.{same_mark}
use Rattle.sheet_define_reading.specs.Reading as reading
use Rattle.sheet_define_reading.specs.Reading.{Bounds, Reader, Turn, after, expect, with_front, optional, mark_at}
use Rattle.sheet_define_reading.proofs.Answering.{alone_ok}
use Rattle.std.specs.Prelude.{nat_lt}
use Rattle.sheet_syntax_trees.specs.Signs.{sign_of, same_sign}
use Rattle.sheet_syntax_trees.specs.declared.sign.Sign.TheVariants as sign
use Rattle.sheet_syntax_trees.specs.declared.tree.Tree.TheVariants as tree
use Rattle.sheet_define_reading.specs.Reading.{alone}
use Rattle.sheet_define_refusals.proofs.Locality.{Same, same_nil, same_cons, Ordered, ordered_behind, Det, Reads, Any, det_weaken, det_cons, det_refused}
use Rattle.sheet_define_refusals.proofs.Locality.{det_nested, det_ok, det_seq, det_mark}
use Rattle.sheet_define_refusals.proofs.Words.{wide, apart, same_dot}
use Rattle.sheet_define_refusals.proofs.Formulas.{atom_det}

-- ---- a name that no dot follows

with_name : List Token → Option (List ℕ × List Token) → Option (List ℕ × List Token)
with_name vs None = None
with_name vs (Some x) = Some (x.0, vs)

alone_by : (t : Token) (ts vs : List Token) → Same ts vs → alone (t ∷ vs) ≡ with_name vs (alone (t ∷ ts))
unfolding with_name
alone_by t ts vs s = ap (λ b. if b then None else option_map (λ name. (name, vs)) (name_of t.kind)) (same_dot ts vs s)
    ∙ by (same_mark (mark_at ts) mark.Dot) (name_of t.kind) where
      by : (b : Bool) (o : Option (List ℕ)) →
          (if b then None else option_map (λ name. (name, vs)) o) ≡ with_name vs (if b then None else option_map (λ name. (name, ts)) o)
      by true o = refl
      by false (Some name) = refl
      by false None = refl

alone_some : (t : Token) (ts vs : List Token) (x : List ℕ × List Token) → Same ts vs → alone (t ∷ ts) ≡ Some x → alone (t ∷ vs) ≡ Some (x.0, vs)
unfolding with_name
alone_some t ts vs x s is = alone_by t ts vs s ∙ ap (with_name vs) is

alone_none : (t : Token) (ts vs : List Token) → Same ts vs → alone (t ∷ ts) ≡ None → alone (t ∷ vs) ≡ None
unfolding with_name
alone_none t ts vs s is = alone_by t ts vs s ∙ ap (with_name vs) is

-- a token that is no name is not alone
alone_other : (t : Token) (vs : List Token) → name_of t.kind ≡ None → alone (t ∷ vs) ≡ None
alone_other t vs is = ap (λ o. if same_mark (mark_at vs) mark.Dot then None else option_map (λ name. (name, vs)) o) is
    ∙ by (same_mark (mark_at vs) mark.Dot) where
      by : (b : Bool) → ◌≡◌ {A = Option (List ℕ × List Token)} (if b then None else None) None
      by true = refl
      by false = refl

-- what a token that is no step is for any formula
step_none : (l m : ℕ) (f g : Tree) (k : TokenKind) → step_of l f k ≡ None → step_of m g k ≡ None
step_none l m f g (kind.Name name) e = let wrong : ⊥ = cc in absurd wrong
step_none l m f g (kind.Reserved word) e = by (same_sign (sign_of (kind.Reserved word)) sign.Up) e where
  by : (b : Bool) → (if b then Some (tree.Up l f) else None) ≡ None → (if b then Some (tree.Up m g) else None) ≡ None
  by true h = let wrong : ⊥ = cc in absurd wrong
  by false h = refl
step_none l m f g (kind.Number x) e = refl
step_none l m f g (kind.Text text) e = refl
step_none l m f g (kind.Symbol symbol) e = by (same_sign (sign_of (kind.Symbol symbol)) sign.Up) e where
  by : (b : Bool) → (if b then Some (tree.Up l f) else None) ≡ None → (if b then Some (tree.Up m g) else None) ≡ None
  by true h = let wrong : ⊥ = cc in absurd wrong
  by false h = refl

-- where the steps behind a formula are read
record Steps : Type 0 where
  turns : ℕ
  at : ℕ
  line : ℕ
  form : Formed

-- where a target is read that begins with a formula
record Start : Type 0 where
  fuel : ℕ
  steps : ℕ
  at : ℕ
  line : ℕ

module _ (end d n : ℕ) where
  abbrev W : Bounds
  W = wide end d n

  abbrev U : Bounds
  U = reading.usual end

  abbrev T : Type 0
  T = Answer (Target × List Token)

  abbrev Lasts : List Token → List Token → Type 0
  Lasts = Reads Steps Target Any (λ e vs. reading.last_step W e.turns e.at e.line e.form vs)

  pub last_zero : (s : Bounds) (at line : ℕ) (f : Formed) (ts : List Token) → reading.last_step s zero at line f ts ≡ Err (Expected (offset s.end ts))
  unfolding reading.last_step
  last_zero s at line f ts = refl

  pub last_suc : (s : Bounds) (k at line : ℕ) (f : Formed) (ts : List Token) →
      reading.last_step s (suc k) at line f
      ts ≡ (expect s.end mark.Dot ts >>= (λ a. reading.step_by s at line f a (alone a) (λ g rest. reading.last_step s k at line g rest)))
  unfolding reading.last_step
  last_suc s k at line f ts = refl

  no_last : (k at line : ℕ) (f : Formed) (x : Target × List Token) → reading.last_step W k at line f [] ≡ Ok x → ⊥
  no_last zero at line f x h = apart x (Expected end) (sym (last_zero W at line f []) ∙ h)
  no_last (suc k) at line f x h = apart x (Expected end) (sym (last_suc W k at line f []) ∙ h)

  abbrev Stepped : List Token → List Token → Type 0
  Stepped = Reads Steps Target Any (λ e a. reading.step_by W e.at e.line e.form a (alone a) (λ g rest. reading.last_step W e.turns e.at e.line g rest))

  abbrev Dotted : List Token → List Token → Type 0
  Dotted = Reads Steps Target Any
      (λ e vs. expect end mark.Dot vs >>= (λ a. reading.step_by W e.at e.line e.form a (alone a) (λ g rest. reading.last_step W e.turns e.at e.line g rest)))

  -- a step more is read behind a dot
  unwind : (vs ws : List Token) → Lasts vs ws → Dotted vs ws
  unwind vs ws c = by c.which.turns c.which.at c.which.line c.which.form c.is where
    by : (k at line : ℕ) (f : Formed) → reading.last_step W k at line f vs ≡ Ok (c.value, ws) → Dotted vs ws
    by zero at line f h = apart (c.value, ws) (Expected (offset end vs)) (sym (last_zero W at line f vs) ∙ h)
    by (suc k) at line f h =
        record { which = record { turns = k; at = at; line = line; form = f }; value = c.value; is = sym (last_suc W k at line f vs) ∙ h; left = refl }

  abbrev Again : ℕ → List Token → Type 0
  Again k a = (at line : ℕ) (g : Formed) (us : List Token) → length us < length a → Ordered end us →
      Det Target end (reading.last_step U k at line g us) Lasts us

  step_some : (k at line : ℕ) (f : Formed) (t : Token) (ts : List Token) (x : List ℕ × List Token) → alone (t ∷ ts) ≡ Some x → (v : Target) →
      Det Target end (Ok (v, x.1)) Stepped (t ∷ ts)
  step_some k at line f t ts x is v =
      let (u, split, named) = alone_ok (t ∷ ts) x is in
      let tail : ts ≡ x.1 = cc in
      subst (λ l. Det Target end (Ok (v, l)) Stepped (t ∷ ts)) tail
      (det_cons Target end (Ok (v, ts)) (λ vs. Stepped (t ∷ vs)) Stepped t ts
      (det_ok Target end v (λ vs. Stepped (t ∷ vs)) ts (λ vs ws s c.
      let there = sym (ap
      (λ o. reading.step_by W c.which.at c.which.line c.which.form (t ∷ vs) o (λ g rest. reading.last_step W c.which.turns c.which.at c.which.line g rest))
      (alone_some t ts vs x s is)) ∙ c.is in
      let both : (record { line = c.which.line; object = Some c.which.form.tree; column = x.0 }, vs) ≡ (c.value, ws) = cc in
      sym (ap (λ (p : Target × List Token). p.1) both)))
      (λ vs ws c. c))

  -- a token that is no step
  no_step : (t : Token) (us ws : List Token) (l : ℕ) (f : Tree) → step_of l f t.kind ≡ None → Stepped (t ∷ us) ws → ⊥
  no_step t us ws l f is c = by (alone (t ∷ us)) refl c.is where
    by : (o : Option (List ℕ × List Token)) → alone (t ∷ us) ≡ o →
        reading.step_by W c.which.at c.which.line c.which.form (t ∷ us) o (λ g rest. reading.last_step W c.which.turns c.which.at c.which.line g rest) ≡ Ok
        (c.value, ws) → ⊥
    by (Some x) some h =
        let (u, split, named) = alone_ok (t ∷ us) x some in
        let head : t ≡ u = cc in
        let there : ◌≡◌ {A = Option Tree} (Some (tree.Child l f x.0)) None = sym (ap (step_of l f) (ap (λ (z : Token). z.kind) head ∙ named)) ∙ is in
        let wrong : ⊥ = cc in
        wrong
    by None none h =
        apart (c.value, ws) (Expected t.start)
        (sym (ap (λ o. or_expected t.start
        o >>= (λ form. made d c.which.at form c.which.form.depth >>= (λ g. reading.last_step W c.which.turns c.which.at c.which.line g us)))
        (step_none l c.which.line f c.which.form.tree t.kind is)) ∙ h)

  -- behind a step the others are read
  stepped_on : (t : Token) (ts vs ws : List Token) → alone (t ∷ ts) ≡ None → Same ts vs → Stepped (t ∷ vs) ws → Lasts vs ws
  stepped_on t ts vs ws none s c =
      let there = sym (ap
      (λ o. reading.step_by W c.which.at c.which.line c.which.form (t ∷ vs) o (λ g rest. reading.last_step W c.which.turns c.which.at c.which.line g rest))
      (alone_none t ts vs s none)) ∙ c.is in
      let (form, ef, e1) =
      ok_then (or_expected t.start (step_of c.which.line c.which.form.tree t.kind))
      (λ form. made d c.which.at form c.which.form.depth >>= (λ g. reading.last_step W c.which.turns c.which.at c.which.line g vs)) (c.value, ws) there in
      let (g, eg, e2) = ok_then (made d c.which.at form c.which.form.depth) (λ g. reading.last_step W c.which.turns c.which.at c.which.line g vs) (c.value, ws)
      e1 in
      record { which = record { turns = c.which.turns; at = c.which.at; line = c.which.line; form = g }; value = c.value; is = e2; left = refl }

  step_det : (k at line : ℕ) (f : Formed) (a : List Token) → Ordered end a → Again k a → (o : Option (List ℕ × List Token)) → alone a ≡ o →
      Det Target end (reading.step_by U at line f a o (λ g rest. reading.last_step U k at line g rest)) Stepped a
  step_det k at line f [] order again (Some x) is = let wrong : ⊥ = cc in absurd wrong
  step_det k at line f (t ∷ ts) order again (Some x) is = step_some k at line f t ts x is (record { line = line; object = Some f.tree; column = x.0 })
  step_det k at line f [] order again None is =
      det_refused Target end end Stepped [] refl (λ vs ws s c.
      apart (c.value, ws) (Expected end)
      (subst (λ l. reading.step_by W c.which.at c.which.line c.which.form l (alone l)
      (λ g rest. reading.last_step W c.which.turns c.which.at c.which.line g rest) ≡ Ok (c.value, ws)) (same_nil vs s) c.is))
  step_det k at line f (t ∷ ts) order again None is = by (step_of line f.tree t.kind) refl where
    deeper : (form : Tree) (b : Bool) →
        Det Target end ((if b then Ok (record { tree = form; depth = f.depth + 1 }) else Err (TooNested at)) >>= (λ g. reading.last_step U k at line g ts))
        Stepped (t ∷ ts)
    deeper form true =
        det_cons Target end (reading.last_step U k at line (record { tree = form; depth = f.depth + 1 }) ts) (λ vs. Stepped (t ∷ vs)) Stepped t ts
        (det_weaken Target end (reading.last_step U k at line (record { tree = form; depth = f.depth + 1 }) ts) Lasts (λ vs. Stepped (t ∷ vs)) ts
        (again at line (record { tree = form; depth = f.depth + 1 }) ts (omega arith) (ordered_behind end (t ∷ ts) (t ∷ []) ts order refl))
        (λ vs ws s c. stepped_on t ts vs ws is s c))
        (λ vs ws c. c)
    deeper form false = det_nested Target end at Stepped (t ∷ ts)

    by : (o : Option Tree) → step_of line f.tree t.kind ≡ o →
        Det Target end (or_expected t.start o >>= (λ form. made 32 at form f.depth >>= (λ g. reading.last_step U k at line g ts))) Stepped (t ∷ ts)
    by (Some form) found = deeper form (nat_lt f.depth 32)
    by None missing =
        det_refused Target end t.start Stepped (t ∷ ts) refl (λ vs ws s c. let (us, e) = same_cons t ts vs s in
        no_step t us ws line f.tree missing (subst (λ l. Stepped l ws) e c))

  last_det : (k at line : ℕ) (f : Formed) (ts : List Token) → length ts ≤ k → Ordered end ts → Det Target end (reading.last_step U k at line f ts) Lasts ts
  last_det zero at line f (t ∷ ts) short order = absurd (omega arith)
  last_det zero at line f [] short order =
      subst (λ r. Det Target end r Lasts []) (sym (last_zero U at line f []))
      (det_refused Target end end Lasts [] refl
      (λ vs ws s c. no_last c.which.turns c.which.at c.which.line c.which.form (c.value, ws)
      (subst (λ l. reading.last_step W c.which.turns c.which.at c.which.line c.which.form l ≡ Ok (c.value, ws)) (same_nil vs s) c.is)))
  last_det (suc k) at line f ts short order =
      subst (λ r. Det Target end r Lasts ts) (sym (last_suc U k at line f ts))
      (det_weaken Target end _ Dotted Lasts ts
      (det_mark Target Steps Target end mark.Dot Any (λ a. reading.step_by U at line f a (alone a) (λ g rest. reading.last_step U k at line g rest))
      (λ e a. reading.step_by W e.at e.line e.form a (alone a) (λ g rest. reading.last_step W e.turns e.at e.line g rest)) ts order
      (λ t us split is o. step_det k at line f us o (λ at line g vs shorter o1. last_det k at line g vs (let n = ap length split in omega (arith, n)) o1)
      (alone us) refl))
      (λ vs ws s c. unwind vs ws c))

  -- ---- targets

  abbrev pub Targets : List Token → List Token → Type 0
  Targets = Reads ℕ Target Any (λ e vs. reading.target W vs)

  target_is : (vs : List Token) (o : Option (List ℕ × List Token)) → alone vs ≡ o → reading.target W vs ≡ reading.target_by W vs o
  unfolding reading.target
  target_is vs o is = ap (reading.target_by W vs) is

  abbrev Started : List Token → List Token → Type 0
  Started = Reads Start Target Any (λ e vs. trees.atom (setting d end e.fuel n) vs >>= (λ x. reading.last_step W e.steps e.at e.line x.0 x.1))

  starts : (vs ws : List Token) → alone vs ≡ None → Targets vs ws → Started vs ws
  starts vs ws none c =
      let (x, ex, e1) = ok_then (trees.atom (setting d end (length vs + 1) n) vs) (λ x. reading.last_step W (length x.1) (offset end vs) (line_of vs) x.0 x.1)
      (c.value, ws) (sym (target_is vs None none) ∙ c.is) in
      record {
        which = record { fuel = length vs + 1; steps = length x.1; at = offset end vs; line = line_of vs };
        value = c.value;
        is = ap (λ r. r >>= (λ y. reading.last_step W (length x.1) (offset end vs) (line_of vs) y.0 y.1)) ex ∙ e1;
        left = refl;
      }

  -- a target that begins with a formula whatever stands further behind
  object_det : (ts : List Token) → Ordered end ts → ((vs : List Token) → Same ts vs → alone vs ≡ None) → Det Target end (reading.target_by U ts None) Targets ts
  object_det ts order none =
      det_weaken Target end (reading.target_by U ts None) Started Targets ts
      (det_seq Formed Target Start Formed Target end Any (trees.atom (setting 32 end (length ts + 1) 32) ts)
      (λ x. reading.last_step U (length x.1) (offset end ts) (line_of ts) x.0 x.1) (λ e vs. trees.atom (setting d end e.fuel n) vs)
      (λ e x. reading.last_step W e.steps e.at e.line x.0 x.1) ts order
      (det_weaken Formed end (trees.atom (setting 32 end (length ts + 1) 32) ts) (Reads ℕ Formed Any (λ e vs. trees.atom (setting d end e n) vs))
      (Reads Start Formed Any (λ e vs. trees.atom (setting d end e.fuel n) vs)) ts (atom_det end d n ts)
      (λ vs ws s c. record { which = c.which.fuel; value = c.value; is = c.is; left = c.left }))
      (λ f us e o. det_weaken Target end (reading.last_step U (length us) (offset end ts) (line_of ts) f us) Lasts
      (Reads (Start × Formed) Target Any (λ e vs. reading.last_step W e.0.steps e.0.at e.0.line e.1 vs)) us
      (last_det (length us) (offset end ts) (line_of ts) f us (omega arith) o)
      (λ vs ws s c. record {
        which = record { turns = c.which.0.steps; at = c.which.0.at; line = c.which.0.line; form = c.which.1 };
        value = c.value;
        is = c.is;
        left = c.left;
      })))
      (λ vs ws s c. starts vs ws (none vs s) c)

  name_atom : (l e m : ℕ) (t : Token) (name : List ℕ) (vs : List Token) → t.kind ≡ kind.Name name →
      trees.atom (setting l end e m) (t ∷ vs) ≡ Ok (record { tree = tree.Name t.line name; depth = 1 }, vs)
  unfolding trees.atom
  name_atom l e m t name vs is = ap (λ k. trees.leaf_or (setting l end e m) (trees.leaf t.line k) t vs) is

  -- a name that a dot follows
  named_det : (t : Token) (ts : List Token) (name : List ℕ) → Ordered end (t ∷ ts) → alone (t ∷ ts) ≡ None → t.kind ≡ kind.Name name →
      Det Target end (reading.target_by U (t ∷ ts) None) Targets (t ∷ ts)
  named_det t ts name order none is =
      let f : Formed = record { tree = tree.Name t.line name; depth = 1 } in
      subst (λ r. Det Target end r Targets (t ∷ ts))
      (sym (ap (λ r. r >>= (λ x. reading.last_step U (length x.1) t.start t.line x.0 x.1)) (name_atom 32 (length (t ∷ ts) + 1) 32 t name ts is)))
      (det_cons Target end (reading.last_step U (length ts) t.start t.line f ts) (λ vs. Targets (t ∷ vs)) Targets t ts
      (det_weaken Target end (reading.last_step U (length ts) t.start t.line f ts) Lasts (λ vs. Targets (t ∷ vs)) ts
      (last_det (length ts) t.start t.line f ts (omega arith) (ordered_behind end (t ∷ ts) (t ∷ []) ts order refl))
      (λ vs ws s c. record {
        which = record { turns = length vs; at = t.start; line = t.line; form = f };
        value = c.value;
        left = refl;
        is = sym (ap (λ r. r >>= (λ x. reading.last_step W (length x.1) t.start t.line x.0 x.1)) (name_atom d (length (t ∷ vs) + 1) n t name vs is))
            ∙ sym (target_is (t ∷ vs) None (alone_none t ts vs s none)) ∙ c.is;
      }))
      (λ vs ws c. c))

  alone_det : (t : Token) (ts : List Token) (x : List ℕ × List Token) → alone (t ∷ ts) ≡ Some x → (v : Target) → Det Target end (Ok (v, x.1)) Targets (t ∷ ts)
  alone_det t ts x is v =
      let (u, split, named) = alone_ok (t ∷ ts) x is in
      let tail : ts ≡ x.1 = cc in
      subst (λ l. Det Target end (Ok (v, l)) Targets (t ∷ ts)) tail
      (det_cons Target end (Ok (v, ts)) (λ vs. Targets (t ∷ vs)) Targets t ts
      (det_ok Target end v (λ vs. Targets (t ∷ vs)) ts (λ vs ws s c.
      let there = sym (target_is (t ∷ vs) (Some (x.0, vs)) (alone_some t ts vs x s is)) ∙ c.is in
      let both : (record { line = t.line; object = None; column = x.0 }, vs) ≡ (c.value, ws) = cc in
      sym (ap (λ (p : Target × List Token). p.1) both)))
      (λ vs ws c. c))

  target_by_det : (ts : List Token) → Ordered end ts → (o : Option (List ℕ × List Token)) → alone ts ≡ o → Det Target end (reading.target_by U ts o) Targets ts
  target_by_det [] order (Some x) is = let wrong : ⊥ = cc in absurd wrong
  target_by_det (t ∷ ts) order (Some x) is = alone_det t ts x is (record { line = t.line; object = None; column = x.0 })
  target_by_det [] order None is = object_det [] order (λ vs s. ap alone (same_nil vs s))
  target_by_det (t ∷ ts) order None is = by (name_of t.kind) refl where
    by : (o : Option (List ℕ)) → name_of t.kind ≡ o → Det Target end (reading.target_by U (t ∷ ts) None) Targets (t ∷ ts)
    by (Some name) named = named_det t ts name order is (name_some t.kind name named)
    by None other = object_det (t ∷ ts) order (λ vs s. let (us, e) = same_cons t ts vs s in ap alone e ∙ alone_other t us other)

  pub target_det : (ts : List Token) → Ordered end ts → Det Target end (reading.target U ts) Targets ts
  unfolding reading.target
  target_det ts order = target_by_det ts order (alone ts) refl

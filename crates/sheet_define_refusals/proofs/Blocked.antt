-- Where tokens are refused for what stands there, no definition begins with the tokens up to and with that one.
use Rattle.std.proofs.Common.{◌≡◌, ℕ, zero, suc, ◌+◌, ◌≤◌, List, [], ◌∷◌, ◌++◌, length, Some, None, Ok, Err, refl, sym, ap, ◌∙◌, subst, arith, append_assoc}
use Rattle.std.proofs.Common.{length-append, inl, inr}
use Rattle.std.specs.Prelude.{Option}
use Rattle.sheet_syntax_trees.specs.declared.token.Token.{Token}
use Rattle.sheet_syntax_trees.specs.declared.token.SyntaxRefusal.{SyntaxRefusal}
use Rattle.sheet_syntax_trees.specs.declared.token.SyntaxRefusal.TheVariants.{Expected}
use Rattle.sheet_syntax_trees.specs.Order.{InOrder}
use Rattle.sheet_syntax_trees.specs.Reading.{offset, Answer, ◌>>=◌}
use Rattle.sheet_syntax_trees.proofs.Answering.{ok_then, err_then}
use Rattle.sheet_syntax_trees.proofs.Refusing.{divided}
use Rattle.sheet_define_data.specs.declared.definition.Path.{Path}
use Rattle.sheet_define_data.specs.declared.definition.Column.{Column}
use Rattle.sheet_define_data.specs.declared.definition.Procedure.{Procedure}
use Rattle.sheet_define_data.specs.declared.definition.View.{View}
use Rattle.sheet_define_data.specs.declared.definition.Declaration.{Declaration}
use Rattle.sheet_define_data.specs.declared.definition.Declaration.TheVariants as declaration
use Rattle.sheet_define_reading.specs.declared.mark.Mark.{Mark}
use Rattle.sheet_define_reading.specs.declared.mark.Mark.TheVariants as mark
use Rattle.sheet_define_reading.specs.Marks.{mark_of}
use Rattle.sheet_define_reading.specs.Reading as reading
use Rattle.sheet_define_reading.specs.Reading.{Bounds, Reader, Turn, after, expect, with_front, optional, mark_at}
use Rattle.std.proofs.Common.{append-nil}
use Rattle.sheet_define_data.specs.Grammar.{Limits, AreDeclarations}
use Rattle.sheet_define_reading.proofs.WholeCompleteness.{declarations_given}
use Rattle.sheet_define_refusals.specs.Refusals.{NoneBegins}
use Rattle.sheet_define_refusals.proofs.Locality.{Same, alike, same_nil, same_cons, Ordered, ordered_behind, Det, Refused, Reads, Any, Loose}
use Rattle.sheet_define_refusals.proofs.Locality.{first as token_first, same_behind}
use Rattle.sheet_define_refusals.proofs.Words.{wide, apart, path_det}
use Rattle.sheet_define_refusals.proofs.Blocks.{spelled_loose}
use Rattle.sheet_define_refusals.proofs.Declarations.{object_det, state_det, formula_column_det, procedure_det, view_det}

-- ---- declarations

-- the tokens are all read, where so many object columns are open
record Whole (end d n k : ℕ) (ts ws : List Token) : Type 0 where
  blocks : ℕ
  turns : ℕ
  ds : List Declaration
  is : reading.declarations (wide end d n) blocks turns k ts ≡ Ok ds

-- one turn, and the others
record Turned (end d n k : ℕ) (t : Token) (ts : List Token) : Type 0 where
  blocks : ℕ
  turn : Turn
  is : reading.turn_by (wide end d n) blocks k t ts (mark_of t.kind) ≡ Ok turn
  more : Whole end d n turn.1 turn.2 []

all_then : (front : List Declaration) (r : Answer (List Declaration)) (ds : List Declaration) → reading.all_before front r ≡ Ok ds →
    (es : List Declaration) × (r ≡ Ok es)
all_then front (Ok es) ds e = (es, refl)
all_then front (Err d) ds e = let wrong : ⊥ = cc in absurd wrong

pub all_err : (front : List Declaration) (r : Answer (List Declaration)) (e : SyntaxRefusal) → reading.all_before front r ≡ Err e → r ≡ Err e
all_err front (Ok es) e h = let wrong : ⊥ = cc in absurd wrong
all_err front (Err d) e h = let same : d ≡ e = cc in ap Err same

found_then : (j : ℕ) (r : Answer (Column × List Token)) (x : Turn) → reading.column_found j r ≡ Ok x →
    (c : Column × List Token) × (r ≡ Ok c) × (x ≡ (Some (declaration.Column c.0), j, c.1))
found_then j (Ok c) x e = (c, refl, cc)
found_then j (Err d) x e = let wrong : ⊥ = cc in absurd wrong

found_err : (j : ℕ) (r : Answer (Column × List Token)) (e : SyntaxRefusal) → reading.column_found j r ≡ Err e → r ≡ Err e
found_err j (Ok c) e h = let wrong : ⊥ = cc in absurd wrong
found_err j (Err d) e h = let same : d ≡ e = cc in ap Err same

turned : (end d n k : ℕ) (t : Token) (ts ws : List Token) → Whole end d n k (t ∷ ts) ws → Turned end d n k t ts
unfolding reading.declarations
turned end d n k t ts ws w = by w.turns w.is where
  by : (turns : ℕ) → reading.declarations (wide end d n) w.blocks turns k (t ∷ ts) ≡ Ok w.ds → Turned end d n k t ts
  by zero h = apart w.ds (Expected t.start) h
  by (suc turns) h =
      let (x, ex, e1) =
      ok_then (reading.turn_by (wide end d n) w.blocks k t ts (mark_of t.kind))
      (λ x. reading.all_before (reading.found_list x.0) (reading.declarations (wide end d n) w.blocks turns x.1 x.2)) w.ds h in
      let (es, ee) = all_then (reading.found_list x.0) (reading.declarations (wide end d n) w.blocks turns x.1 x.2) w.ds e1 in
      record { blocks = w.blocks; turn = x; is = ex; more = record { blocks = w.blocks; turns = turns; ds = es; is = ee } }

module _ (end d n : ℕ) where
  abbrev W : Bounds
  W = wide end d n

  abbrev U : Bounds
  U = reading.usual end

  turn_loose : (b k : ℕ) (t : Token) (ts : List Token) (m : Mark) (x : Turn) → mark_of t.kind ≡ m → reading.turn_by W b k t ts m ≡ Ok x → Loose (t ∷ ts)
  unfolding reading.turn_by reading.outermost_by
  turn_loose b k t ts mark.Object x is h = spelled_loose mark.Object (record { some = omega arith; ends = omega arith }) t ts is
  turn_loose b k t ts mark.State x is h = spelled_loose mark.State (record { some = omega arith; ends = omega arith }) t ts is
  turn_loose b k t ts mark.Formula x is h = spelled_loose mark.Formula (record { some = omega arith; ends = omega arith }) t ts is
  turn_loose b k t ts mark.CloseBrace x is h = spelled_loose mark.CloseBrace (record { some = omega arith; ends = omega arith }) t ts is
  turn_loose b zero t ts mark.Callers x is h = spelled_loose mark.Callers (record { some = omega arith; ends = omega arith }) t ts is
  turn_loose b zero t ts mark.Procedure x is h = spelled_loose mark.Procedure (record { some = omega arith; ends = omega arith }) t ts is
  turn_loose b zero t ts mark.View x is h = spelled_loose mark.View (record { some = omega arith; ends = omega arith }) t ts is
  turn_loose b zero t ts m x is h = apart x (Expected t.start) h
  turn_loose b (suc k) t ts m x is h = apart x (Expected t.start) h

  whole_loose : (k : ℕ) (ts ws : List Token) → Whole end d n k ts ws → Loose ts
  whole_loose k [] ws w = record { is = omega arith }
  whole_loose k (t ∷ ts) ws w = let u = turned end d n k t ts ws w in turn_loose u.blocks k t ts (mark_of t.kind) u.turn refl u.is

  abbrev Goal : ℕ → List Token → ℕ → Type 0
  Goal k ts o = Refused end (Whole end d n k) ts o

  -- behind a part that is read
  passed : (A : Type 0) (r : Answer (A × List Token)) (Q : List Token → List Token → Type 0) (k j : ℕ) (t : Token) (ts : List Token) → Det A end r Q ts →
      ((vs ws : List Token) → Whole end d n k (t ∷ vs) ws → (us : List Token) × Q vs us × Whole end d n j us [])
      → (x : A) (us : List Token) → ◌≡◌ {A = Answer (A × List Token)} r (Ok (x, us)) → (o : ℕ) → Goal j us o → Goal k (t ∷ ts) o
  passed A r Q k j t ts det link x us e o g =
      let f = det.given x us e in
      record {
        front = t ∷ (f.front ++ g.front);
        rest = g.rest;
        split = ap (λ l. t ∷ l) (f.split ∙ ap (λ l. f.front ++ l) g.split ∙ sym (append_assoc f.front g.front g.rest));
        here = g.here;
        none = λ vs ws s w.
            let (ys, q, more) = link ((f.front ++ g.front) ++ vs) ws w in
            let there : Q (f.front ++ (g.front ++ vs)) ys = subst (λ l. Q l ys) (append_assoc f.front g.front vs) q in
            let mid : Same us (g.front ++ vs) = record { is = ap token_first g.split ∙ (same_behind g.front g.rest vs s).is } in
            let same = f.again (g.front ++ vs) ys mid there in
            g.none vs [] s (subst (λ l. Whole end d n j l []) same more);
      }

  stopped : (A : Type 0) (r : Answer (A × List Token)) (Q : List Token → List Token → Type 0) (k j : ℕ) (t : Token) (ts : List Token) → Det A end r Q ts →
      ((vs ws : List Token) → Whole end d n k (t ∷ vs) ws → (us : List Token) × Q vs us × Whole end d n j us [])
      → (o : ℕ) → ◌≡◌ {A = Answer (A × List Token)} r (Err (Expected o)) → Goal k (t ∷ ts) o
  stopped A r Q k j t ts det link o e =
      let f = det.refused o e in
      record {
        front = t ∷ f.front;
        rest = f.rest;
        split = ap (λ l. t ∷ l) f.split;
        here = f.here;
        none = λ vs ws s w. let (ys, q, more) =
            link (f.front ++ vs) ws w in f.none vs ys s q;
      }

  -- no declaration begins with that token
  unfit : (k : ℕ) (t : Token) (ts : List Token) (o : ℕ) → o ≡ t.start → ((vs : List Token) → Turned end d n k t vs → ⊥) → Goal k (t ∷ ts) o
  unfit k t ts o here none =
      record {
        front = [];
        rest = t ∷ ts;
        split = refl;
        here = here;
        none = λ vs ws s w. let (us, e) = same_cons t ts vs s in
            none us (turned end d n k t us ws (subst (λ l. Whole end d n k l ws) e w));
      }

  same_expected : {A : Type 0} (o p : ℕ) → ◌≡◌ {A = Answer A} (Err (Expected p)) (Err (Expected o)) → o ≡ p
  same_expected o p h = cc

  -- a column, where so many are open behind it
  column_link : (q : List Token → Answer (Column × List Token)) (K : List Token → Type 0) → ((us : List Token) → Loose us → K us) →
      (k j : ℕ) (t : Token) (vs : List Token)
      → ((b : ℕ) → reading.turn_by W b k t vs (mark_of t.kind) ≡ reading.column_found j (q vs)) → Turned end d n k t vs →
      (us : List Token) × Reads ℕ Column K (λ e. q) vs us × Whole end d n j us []
  column_link q K loose k j t vs is u =
      let (c, ec, same) = found_then j (q vs) u.turn (sym (is u.blocks) ∙ u.is) in
      let more : Whole end d n j c.1 [] = subst (λ (x : Turn). Whole end d n x.1 x.2 []) same u.more in
      (c.1, record { which = 0; value = c.0; is = ec; left = loose c.1 (whole_loose j c.1 [] more) }, more)

  -- another declaration
  other_link : (A Y : Type 0) (q : Y → Reader A) (found : ℕ → Y) (f : A → Declaration) (t : Token) (vs : List Token) →
      ((b : ℕ) → reading.turn_by W b zero t vs (mark_of t.kind) ≡ (q (found b) vs >>= (λ p. Ok (Some (f p.0), 0, p.1)))) → Turned end d n zero t vs
      → (us : List Token) × Reads Y A Any q vs us × Whole end d n zero us []
  other_link A Y q found f t vs is u =
      let (c, ec, e1) = ok_then (q (found u.blocks) vs) (λ p. Ok (Some (f p.0), 0, p.1)) u.turn (sym (is u.blocks) ∙ u.is) in
      let same : (Some (f c.0), 0, c.1) ≡ u.turn = cc in
      let more : Whole end d n zero c.1 [] = subst (λ (x : Turn). Whole end d n x.1 x.2 []) (sym same) u.more in
      (c.1, record { which = found u.blocks; value = c.0; is = ec; left = refl }, more)

  column_turns : (b k : ℕ) (w : Token) (ts : List Token) →
      (reading.turn_by W b k w ts mark.Object ≡ reading.column_found (suc k) (reading.object_column W k w ts))
      × (reading.turn_by W b k w ts mark.State ≡ reading.column_found k (reading.state_column W k w ts)) × (reading.turn_by W b k w ts
      mark.Formula ≡ reading.column_found k (reading.formula_column W k w ts))
      × (reading.turn_by W b k w ts mark.CloseBrace ≡ reading.closing k w ts)
  unfolding reading.turn_by
  column_turns b k w ts = (refl, refl, refl, refl)

  outermost_turns : (b : ℕ) (w : Token) (ts : List Token) →
      (reading.turn_by W b zero w ts mark.Callers ≡ (reading.path W ts >>= (λ p. Ok (Some (declaration.Callers w.line p.0), 0, p.1))))
      × (reading.turn_by W b zero w ts mark.Procedure ≡ (reading.procedure W b w ts >>= (λ p. Ok (Some (declaration.Procedure p.0), 0, p.1)))) ×
      (reading.turn_by W b zero w ts mark.View ≡ (reading.view W w ts >>= (λ v. Ok (Some (declaration.View v.0), 0, v.1))))
  unfolding reading.turn_by reading.outermost_by
  outermost_turns b w ts = (refl, refl, refl)

  abbrev Again : ℕ → List Token → Type 0
  Again j ts = (k : ℕ) (us : List Token) → length us ≤ length ts → Ordered end us → (o : ℕ) → reading.declarations U 16 j k us ≡ Err (Expected o) → Goal k us o

  abbrev rest_of : ℕ → Answer Turn → Answer (List Declaration)
  rest_of j r = r >>= (λ x. reading.all_before (reading.found_list x.0) (reading.declarations U 16 j x.1 x.2))

  -- a reader's answer that begins a turn
  one_turn : (A : Type 0) (r : Answer (A × List Token)) (Q : List Token → List Token → Type 0) (k j : ℕ) (t : Token) (ts : List Token) → Ordered end ts →
      Det A end r Q ts
      → ((vs ws : List Token) → Whole end d n k (t ∷ vs) ws → (us : List Token) × Q vs us × Whole end d n j us []) → (turns : ℕ) → Again turns ts →
      (f : A → Option Declaration) (o : ℕ)
      → rest_of turns (r >>= (λ x. Ok (f x.0, j, x.1))) ≡ Err (Expected o) → Goal k (t ∷ ts) o
  one_turn A r Q k j t ts order det link turns again f o h =
      elim (err_then (r >>= (λ x. Ok (f x.0, j, x.1))) (λ x. reading.all_before (reading.found_list x.0) (reading.declarations U 16 turns x.1 x.2)) (Expected o)
      h) [
        | inl e ↦
            elim (err_then r (λ x. Ok (f x.0, j, x.1)) (Expected o) e) [
              | inl e1 ↦ stopped A r Q k j t ts det link o e1
              | inr (x, ex, e1) ↦ (let wrong : ⊥ = cc in absurd wrong)
            ]
        | inr (y, ey, e) ↦
            (let (x, ex, e1) = ok_then r (λ x. Ok (f x.0, j, x.1)) y ey in
            let same : (f x.0, j, x.1) ≡ y = cc in
            let g = det.given x.0 x.1 ex in
            let long : length ts ≡ length g.front + length x.1 = ap length g.split ∙ length-append g.front x.1 in
            let refuses = all_err (reading.found_list y.0) (reading.declarations U 16 turns y.1 y.2) (Expected o) e in
            let here = subst (λ (z : Turn). reading.declarations U 16 turns z.1 z.2 ≡ Err (Expected o)) (sym same) refuses in
            passed A r Q k j t ts det link x.0 x.1 ex o (again j x.1 (omega (arith, long)) (ordered_behind end ts g.front x.1 order g.split) o here))
      ]

  pub found_is : (j : ℕ) (r : Answer (Column × List Token)) → reading.column_found j r ≡ (r >>= (λ c. Ok (Some (declaration.Column c.0), j, c.1)))
  found_is j (Ok c) = refl
  found_is j (Err e) = refl

  closing_none : (t : Token) (vs : List Token) → mark_of t.kind ≡ mark.CloseBrace → Turned end d n zero t vs → ⊥
  closing_none t vs is u = apart u.turn (Expected t.start) (sym (ap (reading.turn_by W u.blocks zero t vs) is ∙ (column_turns u.blocks zero t vs).3) ∙ u.is)

  -- the brace of an object column
  closed_turn : (k : ℕ) (t : Token) (ts : List Token) → Ordered end ts → mark_of t.kind ≡ mark.CloseBrace → (turns : ℕ) → Again turns ts → (o : ℕ) →
      rest_of turns (reading.closing k t ts) ≡ Err (Expected o) → Goal k (t ∷ ts) o
  closed_turn zero t ts order is turns again o h = unfit zero t ts o (same_expected o t.start h) (λ vs u. closing_none t vs is u)
  closed_turn (suc k) t ts order is turns again o h =
      let g = again k ts (omega arith) order o (all_err [] (reading.declarations U 16 turns k ts) (Expected o) h) in
      record {
        front = t ∷ g.front;
        rest = g.rest;
        split = ap (λ l. t ∷ l) g.split;
        here = g.here;
        none = λ vs ws s w.
            let u = turned end d n (suc k) t (g.front ++ vs) ws w in
            let same : Ok (None, k, g.front ++ vs) ≡ Ok u.turn =
            sym (ap (reading.turn_by W u.blocks (suc k) t (g.front ++ vs)) is ∙ (column_turns u.blocks (suc k) t (g.front ++ vs)).3) ∙ u.is in
            let both : (None, k, g.front ++ vs) ≡ u.turn = cc in
            g.none vs [] s (subst (λ (x : Turn). Whole end d n x.1 x.2 []) (sym both) u.more);
      }

  turn_refused : (k : ℕ) (t : Token) (ts : List Token) → Ordered end ts → (m : Mark) → mark_of t.kind ≡ m → (turns : ℕ) → Again turns ts → (o : ℕ) →
      rest_of turns (reading.turn_by U 16 k t ts m) ≡ Err (Expected o) → Goal k (t ∷ ts) o
  unfolding reading.turn_by reading.outermost_by
  turn_refused k t ts order mark.Object is turns again o h =
      one_turn Column (reading.object_column U k t ts) (Reads ℕ Column Any (λ e vs. reading.object_column W k t vs)) k (suc k) t ts order
      (object_det end d n k t ts order)
      (λ vs ws w. column_link (λ vs. reading.object_column W k t vs) Any (λ us l. refl) k (suc k) t vs (λ b. ap (reading.turn_by W b k t vs) is
      ∙ (column_turns b k t vs).0) (turned end d n k t vs ws w))
      turns again (λ c. Some (declaration.Column c)) o (ap (rest_of turns) (sym (found_is (suc k) (reading.object_column U k t ts))) ∙ h)
  turn_refused k t ts order mark.State is turns again o h =
      one_turn Column (reading.state_column U k t ts) (Reads ℕ Column Any (λ e vs. reading.state_column W k t vs)) k k t ts order
      (state_det end d n k t ts order)
      (λ vs ws w. column_link (λ vs. reading.state_column W k t vs) Any (λ us l. refl) k k t vs (λ b. ap (reading.turn_by W b k t vs) is
      ∙ (column_turns b k t vs).1) (turned end d n k t vs ws w))
      turns again (λ c. Some (declaration.Column c)) o (ap (rest_of turns) (sym (found_is k (reading.state_column U k t ts))) ∙ h)
  turn_refused k t ts order mark.Formula is turns again o h =
      one_turn Column (reading.formula_column U k t ts) (Reads ℕ Column Loose (λ e vs. reading.formula_column W k t vs)) k k t ts order
      (formula_column_det end d n k t ts order)
      (λ vs ws w. column_link (λ vs. reading.formula_column W k t vs) Loose (λ us l. l) k k t vs (λ b. ap (reading.turn_by W b k t vs) is
      ∙ (column_turns b k t vs).2) (turned end d n k t vs ws w))
      turns again (λ c. Some (declaration.Column c)) o (ap (rest_of turns) (sym (found_is k (reading.formula_column U k t ts))) ∙ h)
  turn_refused k t ts order mark.CloseBrace is turns again o h = closed_turn k t ts order is turns again o h
  turn_refused zero t ts order mark.Callers is turns again o h =
      one_turn Path (reading.path U ts) (Reads ℕ Path Any (λ e vs. reading.path W vs)) zero zero t ts order (path_det end d n ts order)
      (λ vs ws w. other_link Path ℕ (λ e vs. reading.path W vs) (λ b. b) (λ p. declaration.Callers t.line p) t vs (λ b. ap (reading.turn_by W b zero t vs) is
      ∙ (outermost_turns b t vs).0) (turned end d n zero t vs ws w))
      turns again (λ p. Some (declaration.Callers t.line p)) o h
  turn_refused zero t ts order mark.Procedure is turns again o h =
      one_turn Procedure (reading.procedure U 16 t ts) (Reads ℕ Procedure Any (λ e vs. reading.procedure W e t vs)) zero zero t ts order
      (procedure_det end d n 16 t ts order)
      (λ vs ws w. other_link Procedure ℕ (λ e vs. reading.procedure W e t vs) (λ b. b) (λ p. declaration.Procedure p) t vs
      (λ b. ap (reading.turn_by W b zero t vs) is ∙ (outermost_turns b t vs).1) (turned end d n zero t vs ws w))
      turns again (λ p. Some (declaration.Procedure p)) o h
  turn_refused zero t ts order mark.View is turns again o h =
      one_turn View (reading.view U t ts) (Reads ℕ View Any (λ e vs. reading.view W t vs)) zero zero t ts order (view_det end d n t ts order)
      (λ vs ws w. other_link View ℕ (λ e vs. reading.view W t vs) (λ b. b) (λ v. declaration.View v) t vs (λ b. ap (reading.turn_by W b zero t vs) is
      ∙ (outermost_turns b t vs).2) (turned end d n zero t vs ws w))
      turns again (λ v. Some (declaration.View v)) o h
  turn_refused zero t ts order m is turns again o h =
      unfit zero t ts o (same_expected o t.start h) (λ vs u. apart u.turn (Expected t.start) (sym (ap (reading.turn_by W u.blocks zero t vs) is) ∙ u.is))
  turn_refused (suc k) t ts order m is turns again o h =
      unfit (suc k) t ts o (same_expected o t.start h) (λ vs u. apart u.turn (Expected t.start) (sym (ap (reading.turn_by W u.blocks (suc k) t vs) is) ∙ u.is))

  no_end : (k o : ℕ) → reading.ended end k ≡ Err (Expected o) → (o ≡ end) × ((ws : List Token) → Whole end d n k [] ws → ⊥)
  unfolding reading.declarations
  no_end zero o h = let wrong : ⊥ = cc in absurd wrong
  no_end (suc k) o h = (cc, λ ws w. apart w.ds (Expected end) (by w.turns w.blocks w.ds w.is)) where
    by : (turns : ℕ) (b : ℕ) (ds : List Declaration) → reading.declarations W b turns (suc k) [] ≡ Ok ds →
        ◌≡◌ {A = Answer (List Declaration)} (Err (Expected end)) (Ok ds)
    by zero b ds h = h
    by (suc turns) b ds h = h

  declarations_refused : (turns k : ℕ) (ts : List Token) → length ts ≤ turns → Ordered end ts → (o : ℕ) →
      reading.declarations U 16 turns k ts ≡ Err (Expected o) → Goal k ts o
  unfolding reading.declarations
  declarations_refused turns k [] short order o h =
      let (here, none) = no_end k o h in
      record { front = []; rest = []; split = refl; here = here; none = λ vs ws s w. none ws (subst (λ l. Whole end d n k l ws) (same_nil vs s) w) }
  declarations_refused zero k (t ∷ ts) short order o h = absurd (omega arith)
  declarations_refused (suc turns) k (t ∷ ts) short order o h =
      turn_refused k t ts (ordered_behind end (t ∷ ts) (t ∷ []) ts order refl) (mark_of t.kind) refl turns
      (λ j us shorter o1 p e. declarations_refused turns j us (omega arith) o1 p e) o h

-- ---- definitions

-- At this offset stands a token such that the tokens up to and with it begin no definition, or the end of tokens that are none.
pub record IsBlocked (end : ℕ) (tokens : List Token) (at : ℕ) : Type 0 where
  pub front : List Token
  pub rest : List Token
  pub split : tokens ≡ front ++ rest
  pub here : at ≡ offset end rest
  pub none : NoneBegins front rest

-- a definition is read with its own limits
whole_of : (end : ℕ) (l : Limits) (b : ℕ) (ts : List Token) (ds : List Declaration) → AreDeclarations l b ts ds → Whole end l.depth l.nest zero ts []
whole_of end l b ts ds a =
    record { blocks = b; turns = length ts; ds = ds; is = declarations_given (wide end l.depth l.nest) b ts ds a (length ts) (omega arith) }

none_of : (front rest : List Token) → ((vs : List Token) → Same rest vs → (l : Limits) (b : ℕ) (ds : List Declaration) → AreDeclarations l b (front ++ vs) ds →
    ⊥) → NoneBegins front rest
none_of front [] h = λ l b ds a. h [] (alike []) l b ds (subst (λ k. AreDeclarations l b k ds) (sym (append-nil front)) a)
none_of front (t ∷ rest) h =
    λ b. h (t ∷ b.behind) (record { is = refl }) b.limits b.blocks b.declarations
    (subst (λ k. AreDeclarations b.limits b.blocks k b.declarations) (append_assoc front (t ∷ []) b.behind) b.produced)

pub blocked : (end : ℕ) (ts : List Token) (o : ℕ) → InOrder 0 end ts → reading.whole_definition end ts ≡ Err (Expected o) → IsBlocked end ts o
unfolding reading.whole_definition
blocked end ts o order h =
    let ordered : Ordered end ts = record { low = 0; order = order } in
    let first = declarations_refused end 0 0 (length ts) zero ts (omega arith) ordered o h in
    record {
      front = first.front;
      rest = first.rest;
      split = first.split;
      here = first.here;
      none = none_of first.front first.rest (λ vs s l b ds a.
          let f = declarations_refused end l.depth l.nest (length ts) zero ts (omega arith) ordered o h in
          let (fronts, rests) = divided 0 end f.front first.front f.rest first.rest (subst (λ k. InOrder 0 end k) f.split order) (sym f.split ∙ first.split)
          (sym f.here ∙ first.here) in
          let w = whole_of end l b (first.front ++ vs) ds a in
          f.none vs [] (record { is = ap token_first rests ∙ s.is }) (subst (λ k. Whole end l.depth l.nest zero (k ++ vs) []) (sym fronts) w));
    }

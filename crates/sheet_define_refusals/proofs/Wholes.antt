-- Where a definition is refused, the tokens before begin one.
use Rattle.std.proofs.Common.{◌≡◌, ℕ, zero, suc, ◌+◌, ◌≤◌, max, List, [], ◌∷◌, ◌++◌, length, Some, Ok, Err, refl, sym, ap, ◌∙◌, subst, arith, inl, inr}
use Rattle.std.specs.Prelude.{Option}
use Rattle.sheet_syntax_trees.specs.declared.token.Token.{Token}
use Rattle.sheet_syntax_trees.specs.declared.token.SyntaxRefusal.{SyntaxRefusal}
use Rattle.sheet_syntax_trees.specs.declared.token.SyntaxRefusal.TheVariants.{Expected, TooNested}
use Rattle.sheet_syntax_trees.specs.Order.{InOrder}
use Rattle.sheet_syntax_trees.specs.Reading.{Answer, ◌>>=◌, offset}
use Rattle.sheet_syntax_trees.proofs.Answering.{ok_then, err_then}
use Rattle.sheet_syntax_trees.proofs.Stopping.{same_err}
use Rattle.sheet_define_data.specs.declared.definition.Path.{Path}
use Rattle.sheet_define_data.specs.declared.definition.Column.{Column}
use Rattle.sheet_define_data.specs.declared.definition.Procedure.{Procedure}
use Rattle.sheet_define_data.specs.declared.definition.View.{View}
use Rattle.sheet_define_data.specs.declared.definition.Declaration.{Declaration}
use Rattle.sheet_define_data.specs.declared.definition.Declaration.TheVariants as declaration
use Rattle.sheet_define_reading.specs.declared.mark.Mark.{Mark}
use Rattle.sheet_define_reading.specs.declared.mark.Mark.TheVariants as mark
use Rattle.sheet_define_reading.specs.Marks.{mark_of}
use Rattle.sheet_define_reading.specs.Reading as reading
use Rattle.sheet_define_reading.specs.Reading.{Bounds, Reader, Turn, after, expect, with_front, optional, mark_at}
use Rattle.sheet_define_reading.proofs.MarkLemmas.{spelling, spelled}
use Rattle.std.proofs.Common.{append-nil}
use Rattle.sheet_define_data.specs.Grammar.{IsSymbol, IsWord, IsName, Limits, Repeated, none, one_more, IsColumn, an_object_column, AreColumns, no_columns}
use Rattle.sheet_define_data.specs.Grammar.{more_columns, IsDeclaration, the_callers, a_column, one_procedure, one_view, AreDeclarations, no_declarations}
use Rattle.sheet_define_data.specs.Grammar.{more_declarations, BeginsDefinition}
use Rattle.sheet_define_refusals.specs.Refusals as spec
use Rattle.sheet_define_refusals.specs.Refusals.{NoneBegins, IsFirstOfDefinition, IsSomeDefinition, AdmitsFormula, AdmitsTarget, IsTooNestedDefinition}
use Rattle.sheet_define_refusals.specs.Refusals.{IsFirstTooNested}
use Rattle.sheet_syntax_trees.proofs.Refusing.{divided}
use Rattle.sheet_define_refusals.proofs.Blocked.{all_err, found_is, blocked}
use Rattle.sheet_define_refusals.proofs.Moving.{lim, Moved, moved_front, moved_join, moved_tokens, Expr, Aim, APath, ACol, Proc, AView, target_moved}
use Rattle.sheet_define_refusals.proofs.Halting.{Sample, Context, flat, Cause, expected, formula, target, a_block, Halt, lifted, known, halt_here, Behind, word}
use Rattle.sheet_define_refusals.proofs.Meeting.{Meets, path_meets}
use Rattle.sheet_define_refusals.proofs.Columns.{CrowdedProcedure, Head, object_meets, state_meets, formula_column_meets, procedure_meets, view_meets}

-- ---- declarations up to a place that stands in no object column

data Up (l : Limits) (b : ℕ) : ℕ → List Token → List Token → Type 0 where
  outermost : (ts us : List Token) (ds : List (List Declaration)) → Repeated (IsDeclaration l b) ts ds us → Up l b 0 ts us
  inside : (k : ℕ) (ts us vs : List Token) (c : Token) (ds : List Declaration) → AreColumns l (suc k) ts ds (c ∷ us) → IsSymbol "}" c → Up l b k us vs →
      Up l b (suc k) ts vs

column_first : (l : Limits) (b k : ℕ) (ts us vs : List Token) (ds : List Declaration) → IsColumn l k ts ds us → Up l b k us vs → Up l b k ts vs
column_first l b _ ts _ _ ds c (outermost us vs es r) = outermost ts vs (ds ∷ es) (one_more ts us vs ds es (a_column ts us ds c) r)
column_first l b _ ts _ _ ds c (inside k us ws vs t es cs ist r) = inside k ts ws vs t (ds ++ es) (more_columns (suc k) ts us (t ∷ ws) ds es c cs) ist r

other_first : (l : Limits) (b : ℕ) (ts us vs : List Token) (ds : List Declaration) → IsDeclaration l b ts ds us → Up l b 0 us vs → Up l b 0 ts vs
other_first l b ts _ _ ds d (outermost us vs es r) = outermost ts vs (ds ∷ es) (one_more ts us vs ds es d r)

object_first : (l : Limits) (b k : ℕ) (w n o : Token) (name : List ℕ) (us vs : List Token) → IsWord "object" w → IsName name n →
    IsSymbol "{" o → Up l b (suc k) us vs → Up l b k (w ∷ n ∷ o ∷ us) vs
object_first l b k w n o name _ _ is named iso (inside _ us ws vs c ds cs isc r) =
    column_first l b k (w ∷ n ∷ o ∷ us) ws vs _ (an_object_column k w n o c name us ws ds is named iso cs isc) r

brace_first : (l : Limits) (b k : ℕ) (c : Token) (us vs : List Token) → IsSymbol "}" c → Up l b k us vs → Up l b (suc k) (c ∷ us) vs
brace_first l b k c us vs isc r = inside k (c ∷ us) us vs c [] (no_columns (suc k) (c ∷ us)) isc r

declared : (l : Limits) (b : ℕ) (ts us : List Token) (ds : List (List Declaration)) → us ≡ [] → Repeated (IsDeclaration l b) ts ds us →
    (es : List Declaration) × AreDeclarations l b ts es
declared l b _ _ _ end (none ts) = ([], subst (λ k. AreDeclarations l b k []) (sym end) no_declarations)
declared l b _ _ _ end (one_more ts us vs x xs p q) = let (es, r) = declared l b us vs xs end q in (x ++ es, more_declarations ts us x es p r)

all_of : (l : Limits) (b : ℕ) (ts us : List Token) → us ≡ [] → Up l b 0 ts us → (es : List Declaration) × AreDeclarations l b ts es
all_of l b _ _ end (outermost ts us ds r) = declared l b ts us ds end r

listed_of : (l : Limits) (b : ℕ) (ts us : List Token) → Up l b 0 ts us → (ds : List (List Declaration)) × Repeated (IsDeclaration l b) ts ds us
listed_of l b _ _ (outermost ts us ds r) = (ds, r)

-- all declarations behind tokens in so many object columns
abbrev Tail : ℕ → ℕ → List Token → List Token → Type 0
Tail k m xs ws = (l : ℕ) → m ≤ l → Up (lim l) m k xs ws

-- so many braces close them
abbrev closers : ℕ → List Token
closers zero = []
closers (suc k) = word mark.CloseBrace ∷ closers k

closed_up : (k m : ℕ) (vs : List Token) → Tail k m (closers k ++ vs) vs
closed_up zero m vs l h = outermost vs vs [] (none vs)
closed_up (suc k) m vs l h = brace_first (lim l) m k (word mark.CloseBrace) (closers k ++ vs) vs refl (closed_up k m vs l h)

tail_sample : (k : ℕ) → Sample (Tail k)
tail_sample k = record { tokens = closers k; least = 0; whole = λ m some vs. closed_up k m vs }

-- a brace of a block too many in a procedure behind other declarations
record CrowdedAll (k : ℕ) (ts : List Token) (at : ℕ) : Type 0 where
  procedure : List Token
  before : Moved (Tail k) ts procedure
  crowded : CrowdedProcedure 16 procedure at

module _ (end : ℕ) where
  abbrev U : Bounds
  U = reading.usual end

  abbrev H : ℕ → List Token → SyntaxRefusal → Type 0
  H k ts e = Halt (Tail k) (CrowdedAll k ts) end ts e

  abbrev Again : ℕ → Type 0
  Again turns = (k : ℕ) (us : List Token) (e : SyntaxRefusal) → reading.declarations U 16 turns k us ≡ Err e → H k us e

  abbrev rest_of : ℕ → Answer Turn → Answer (List Declaration)
  rest_of j r = r >>= (λ x. reading.all_before (reading.found_list x.0) (reading.declarations U 16 j x.1 x.2))

  -- a reader's answer that begins a turn
  one_turn : (A : Type 0) (r : Answer (A × List Token)) (Q : ℕ → List Token → List Token → Type 0) (B : ℕ → Type 0) (k j : ℕ) (t : Token) (ts : List Token) →
      Meets Q B end A r ts → ((at : ℕ) → B at → CrowdedAll k (t ∷ ts) at)
      → ((m : ℕ) (xs ws vs : List Token) → Q m xs ws → Tail j m ws vs → Tail k m (t ∷ xs) vs) → (turns : ℕ) → Again turns →
      (f : A → Option Declaration) (e : SyntaxRefusal) → rest_of turns (r >>= (λ x. Ok (f x.0, j, x.1))) ≡ Err e → H k (t ∷ ts) e
  one_turn A r Q B k j t ts meets first join turns again f e h =
      elim (err_then (r >>= (λ x. Ok (f x.0, j, x.1))) (λ x. reading.all_before (reading.found_list x.0) (reading.declarations U 16 turns x.1 x.2)) e h) [
        | inl e0 ↦
            elim (err_then r (λ x. Ok (f x.0, j, x.1)) e e0) [
              | inl e1 ↦
                  lifted (Tail k) Q (CrowdedAll k (t ∷ ts)) end (t ∷ []) ts (t ∷ ts) e
                  (flat (Tail k) Q (t ∷ []) (closers j) 0 (λ m some us vs q. join m us (closers j ++ vs) vs q (closed_up j m vs))) refl
                  (known Q B (CrowdedAll k (t ∷ ts)) end ts e first (meets.halts e e1))
              | inr (x, ex, e1) ↦ (let wrong : ⊥ = cc in absurd wrong)
            ]
        | inr (y, ey, e0) ↦
            (let (x, ex, e1) = ok_then r (λ x. Ok (f x.0, j, x.1)) y ey in
            let same : (f x.0, j, x.1) ≡ y = cc in
            let q = meets.moves x.0 x.1 ex in
            let refuses = all_err (reading.found_list y.0) (reading.declarations U 16 turns y.1 y.2) e e0 in
            let there = subst (λ (z : Turn). reading.declarations U 16 turns z.1 z.2 ≡ Err e) (sym same) refuses in
            lifted (Tail k) (Tail j) (CrowdedAll k (t ∷ ts)) end (t ∷ q.front) x.1 (t ∷ ts) e
            (flat (Tail k) (Tail j) (t ∷ q.front) [] q.least (λ m some us vs r. join m (q.front ++ us) us vs (q.again m some us) r))
            (ap (λ l. t ∷ l) q.split)
            (known (Tail j) (CrowdedAll j x.1) (CrowdedAll k (t ∷ ts)) end x.1 e
            (λ at c. record {
              procedure = c.procedure;
              crowded = c.crowded;
              before =
                  moved_front (Tail k) (Behind t (Tail k)) (t ∷ []) ts c.procedure
                  (moved_join (Behind t (Tail k)) Q (Tail j) [] ts x.1 c.procedure q c.before (λ m xs vs ws q r. join m xs vs ws q r)) (λ m xs ws q. q);
            })
            (again j x.1 e there)))
      ]

  Never : ℕ → Type 0
  Never at = ⊥

  never : (k : ℕ) (ts : List Token) (at : ℕ) → Never at → CrowdedAll k ts at
  unfolding Never
  never k ts at n = absurd n

  closed_turn : (k : ℕ) (t : Token) (ts : List Token) → t.kind ≡ spelling mark.CloseBrace → (turns : ℕ) → Again turns → (e : SyntaxRefusal) →
      rest_of turns (reading.closing k t ts) ≡ Err e → H k (t ∷ ts) e
  closed_turn zero t ts is turns again e h = halt_here (Tail 0) (CrowdedAll 0 (t ∷ ts)) end (t ∷ ts) e (tail_sample 0) (same_err (Expected t.start) e h)
  closed_turn (suc k) t ts is turns again e h =
      lifted (Tail (suc k)) (Tail k) (CrowdedAll (suc k) (t ∷ ts)) end (t ∷ []) ts (t ∷ ts) e
      (flat (Tail (suc k)) (Tail k) (t ∷ []) [] 0 (λ m some us vs r l b. brace_first (lim l) m k t us vs is (r l b))) refl
      (known (Tail k) (CrowdedAll k ts) (CrowdedAll (suc k) (t ∷ ts)) end ts e
      (λ at c. record {
        procedure = c.procedure;
        crowded = c.crowded;
        before = moved_front (Tail (suc k)) (Tail k) (t ∷ []) ts c.procedure c.before (λ m xs ws r l b. brace_first (lim l) m k t xs ws is (r l b));
      })
      (again k ts e (all_err [] (reading.declarations U 16 turns k ts) e h)))

  turn_halts : (k : ℕ) (t : Token) (ts : List Token) (m : Mark) → mark_of t.kind ≡ m → (turns : ℕ) → Again turns → (e : SyntaxRefusal) →
      rest_of turns (reading.turn_by U 16 k t ts m) ≡ Err e → H k (t ∷ ts) e
  unfolding reading.turn_by reading.outermost_by
  turn_halts k t ts mark.Object is turns again e h =
      one_turn Column (reading.object_column U k t ts) (Head end) Never k (suc k) t ts (object_meets end Never k t ts) (never k (t ∷ ts))
      (λ m xs ws vs q r l b.
      subst (λ k2. Up (lim l) m k (t ∷ k2) vs) (sym q.is)
      (object_first (lim l) m k t q.first q.brace q.name ws vs (spelled t.kind mark.Object is (omega arith)) q.named q.opens (r l b)))
      turns again (λ c. Some (declaration.Column c)) e (ap (rest_of turns) (sym (found_is end 0 0 (suc k) (reading.object_column U k t ts))) ∙ h)
  turn_halts k t ts mark.State is turns again e h =
      one_turn Column (reading.state_column U k t ts) (Behind t (ACol k)) Never k k t ts
      (state_meets end Never k t (spelled t.kind mark.State is (omega arith)) ts) (never k (t ∷ ts))
      (λ m xs ws vs q r l b. let (ds, c) = q l b in column_first (lim l) m k (t ∷ xs) ws vs ds c (r l b))
      turns again (λ c. Some (declaration.Column c)) e (ap (rest_of turns) (sym (found_is end 0 0 k (reading.state_column U k t ts))) ∙ h)
  turn_halts k t ts mark.Formula is turns again e h =
      one_turn Column (reading.formula_column U k t ts) (Behind t (ACol k)) Never k k t ts
      (formula_column_meets end Never k t (spelled t.kind mark.Formula is (omega arith)) ts) (never k (t ∷ ts))
      (λ m xs ws vs q r l b. let (ds, c) = q l b in column_first (lim l) m k (t ∷ xs) ws vs ds c (r l b))
      turns again (λ c. Some (declaration.Column c)) e (ap (rest_of turns) (sym (found_is end 0 0 k (reading.formula_column U k t ts))) ∙ h)
  turn_halts k t ts mark.CloseBrace is turns again e h = closed_turn k t ts (spelled t.kind mark.CloseBrace is (omega arith)) turns again e h
  turn_halts zero t ts mark.Callers is turns again e h =
      one_turn Path (reading.path U ts) APath Never 0 0 t ts (path_meets end Never ts) (never 0 (t ∷ ts))
      (λ m xs ws vs q r l b. other_first (lim l) m (t ∷ xs) ws vs _ (the_callers t xs ws q.0 (spelled t.kind mark.Callers is (omega arith)) q.1) (r l b))
      turns again (λ p. Some (declaration.Callers t.line p)) e h
  turn_halts zero t ts mark.Procedure is turns again e h =
      one_turn Procedure (reading.procedure U 16 t ts) (Behind t Proc) (CrowdedProcedure 16 (t ∷ ts)) 0 0 t ts
      (procedure_meets end 16 t (spelled t.kind mark.Procedure is (omega arith)) ts)
      (λ at c. record { procedure = t ∷ ts; before = moved_tokens (Tail 0) [] (t ∷ ts) (λ m vs l b. outermost vs vs [] (none vs)); crowded = c })
      (λ m xs ws vs q r l b. let (p, c) = q l b in other_first (lim l) m (t ∷ xs) ws vs _ (one_procedure (t ∷ xs) ws p c) (r l b))
      turns again (λ p. Some (declaration.Procedure p)) e h
  turn_halts zero t ts mark.View is turns again e h =
      one_turn View (reading.view U t ts) (Behind t AView) Never 0 0 t ts (view_meets end Never t (spelled t.kind mark.View is (omega arith)) ts)
      (never 0 (t ∷ ts))
      (λ m xs ws vs q r l b. let (v, c) = q l b in other_first (lim l) m (t ∷ xs) ws vs _ (one_view (t ∷ xs) ws v c) (r l b))
      turns again (λ v. Some (declaration.View v)) e h
  turn_halts zero t ts _ is turns again e h = halt_here (Tail 0) (CrowdedAll 0 (t ∷ ts)) end (t ∷ ts) e (tail_sample 0) (same_err (Expected t.start) e h)
  turn_halts (suc k) t ts _ is turns again e h =
      halt_here (Tail (suc k)) (CrowdedAll (suc k) (t ∷ ts)) end (t ∷ ts) e (tail_sample (suc k)) (same_err (Expected t.start) e h)

  ended_halts : (k : ℕ) (e : SyntaxRefusal) → reading.ended end k ≡ Err e → H k [] e
  ended_halts zero e h = let wrong : ⊥ = cc in absurd wrong
  ended_halts (suc k) e h = halt_here (Tail (suc k)) (CrowdedAll (suc k) []) end [] e (tail_sample (suc k)) (same_err (Expected end) e h)

  declarations_halt : (turns : ℕ) → Again turns
  unfolding reading.declarations
  declarations_halt turns k [] e h = ended_halts k e h
  declarations_halt zero k (t ∷ ts) e h = halt_here (Tail k) (CrowdedAll k (t ∷ ts)) end (t ∷ ts) e (tail_sample k) (same_err (Expected t.start) e h)
  declarations_halt (suc turns) k (t ∷ ts) e h = turn_halts k t ts (mark_of t.kind) refl turns (declarations_halt turns) e h

  whole_halts : (ts : List Token) (e : SyntaxRefusal) → reading.whole_definition end ts ≡ Err e → H 0 ts e
  unfolding reading.whole_definition
  whole_halts ts e h = declarations_halt (length ts) 0 ts e h

-- ---- definitions

begun : (front more : List Token) (m : ℕ) → Tail 0 m (front ++ (more ++ [])) [] → BeginsDefinition front
begun front more m t =
    let (ds, a) = all_of (lim m) m (front ++ (more ++ [])) [] refl (t m (omega arith)) in
    record { behind = more ++ []; limits = lim m; blocks = m; declarations = ds; produced = a }

pub first : (end : ℕ) (ts : List Token) (o : ℕ) → InOrder 0 end ts → reading.whole_definition end ts ≡ Err (Expected o) → IsFirstOfDefinition end ts o
first end ts o order h =
    let b = blocked end ts o order h in
    let s = whole_halts end ts (Expected o) h in
    let here : o ≡ offset end s.rest = by (offset end s.rest) s.cause in
    let (fronts, rests) = divided 0 end s.front b.front s.rest b.rest (subst (λ k. InOrder 0 end k) s.split order) (sym s.split ∙ b.split)
    (sym here ∙ b.here) in
    record {
      front = b.front;
      rest = b.rest;
      split = b.split;
      here = b.here;
      begins = subst BeginsDefinition fronts (begun s.front s.more s.least (s.whole s.least (omega arith) []));
      none = b.none;
    } where
      by : (at : ℕ) → Cause (Tail 0) (CrowdedAll 0 ts) end ts (Expected o) at → o ≡ at
      by at (expected is) = cc
      by at (formula f rest split c n is) = let wrong : ⊥ = cc in absurd wrong
      by at (target f rest split c n is) = let wrong : ⊥ = cc in absurd wrong
      by at (a_block c is) = let wrong : ⊥ = cc in absurd wrong

some_definition : (tokens : List Token) (m : ℕ) → Tail 0 m tokens [] → IsSomeDefinition tokens
some_definition tokens m t = let (ds, a) = all_of (lim m) m tokens [] refl (t m (omega arith)) in
    record { limits = lim m; blocks = m; declarations = ds; produced = a }

admits_formula : (front : List Token) → Context (Tail 0) Expr front → AdmitsFormula front
admits_formula front c =
    record {
      behind = c.more;
      whole = λ mid f p.
          let m : ℕ = max c.least (max f.depth f.nest) in
          let here : Expr m (mid ++ c.more) (c.more ++ []) =
          λ l h. (
            f.tree,
            record {
              front = mid;
              depth = f.depth;
              nest = f.nest;
              split = ap (λ l. mid ++ l) (sym (append-nil c.more));
              produced = p;
              shallow = omega (arith, h);
              narrow = omega (arith, h);
            },
          ) in
          some_definition (front ++ (mid ++ c.more)) (m + c.blocks) (c.whole m (omega arith) (mid ++ c.more) [] here);
    }

admits_target : (front : List Token) → Context (Tail 0) Aim front → AdmitsTarget front
admits_target front c =
    record {
      behind = c.more;
      whole = λ l mid t p.
          let q = target_moved l (mid ++ c.more) c.more t p in
          let m : ℕ = max c.least q.least in
          let here : Aim m (mid ++ c.more) (c.more ++ []) =
          subst (λ k. Aim m (mid ++ c.more) k) (sym (append-nil c.more)) (subst (λ k. Aim m k c.more) (sym q.split) (q.again m (omega arith) c.more)) in
          some_definition (front ++ (mid ++ c.more)) (m + c.blocks) (c.whole m (omega arith) (mid ++ c.more) [] here);
    }

crowded_definition : (end : ℕ) (ts : List Token) (at : ℕ) → CrowdedAll 0 ts at → IsTooNestedDefinition end ts at
crowded_definition end ts at c =
    let m = c.before.least in
    let t : Tail 0 m ts c.procedure = subst (λ l. Tail 0 m l c.procedure) (sym c.before.split) (c.before.again m (omega arith) c.procedure) in
    let (ds, are) = listed_of (lim m) m ts c.procedure (t m (omega arith)) in
    let i = c.crowded.crowded in
    spec.a_block (lim m) m ds c.procedure c.crowded.inner i.rest i.brace are c.crowded.begins i.holds i.is i.here

pub nested : (end : ℕ) (ts : List Token) (o : ℕ) → reading.whole_definition end ts ≡ Err (TooNested o) → IsFirstTooNested end ts o
nested end ts o h =
    let s = whole_halts end ts (TooNested o) h in
    let (here, deep) = by (offset end s.rest) s.cause in
    record {
      front = s.front;
      rest = s.rest;
      split = s.split;
      here = here;
      begins = begun s.front s.more s.least (s.whole s.least (omega arith) []);
      nested = deep;
    } where
      by : (at : ℕ) → Cause (Tail 0) (CrowdedAll 0 ts) end ts (TooNested o) at → (o ≡ at) × IsTooNestedDefinition end ts o
      by at (expected is) = let wrong : ⊥ = cc in absurd wrong
      by at (formula f rest split c n is) =
          let same : o ≡ at = cc in (same, subst (λ k. IsTooNestedDefinition end ts k) (sym same) (spec.in_formula f rest split (admits_formula f c) n))
      by at (target f rest split c n is) =
          let same : o ≡ at = cc in (same, subst (λ k. IsTooNestedDefinition end ts k) (sym same) (spec.in_target f rest split (admits_target f c) n))
      by at (a_block c is) = let same : o ≡ at = cc in (same, subst (λ k. IsTooNestedDefinition end ts k) (sym same) (crowded_definition end ts at c))

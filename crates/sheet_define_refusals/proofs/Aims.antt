-- Where a target is refused, the tokens before begin one.
use Rattle.std.proofs.Common.{◌≡◌, ℕ, zero, suc, ◌+◌, ◌-◌, ◌≤◌, max, List, [], ◌∷◌, ◌++◌, length, Some, None, Ok, Err, refl, sym, ap, ◌∙◌, subst, arith}
use Rattle.std.proofs.Common.{append_assoc, inl, inr}
use Rattle.std.specs.Prelude.{Option}
use Rattle.sheet_syntax_trees.specs.declared.token.Token.{Token}
use Rattle.sheet_syntax_trees.specs.declared.token.SyntaxRefusal.{SyntaxRefusal}
use Rattle.sheet_syntax_trees.specs.declared.token.SyntaxRefusal.TheVariants.{Expected, TooNested}
use Rattle.sheet_syntax_trees.specs.declared.tree.Tree.{Tree}
use Rattle.sheet_syntax_trees.specs.declared.tree.Formed.{Formed}
use Rattle.sheet_syntax_trees.specs.Grammar.{Produces, Form, form, expression, postfix, atom}
use Rattle.sheet_syntax_trees.specs.Reading as trees
use Rattle.sheet_syntax_trees.specs.Reading.{Answer, ◌>>=◌, offset, line_of, or_expected, with_rest, name_of, name_at, sign_at, formula_at, within, setting}
use Rattle.sheet_syntax_trees.specs.Reading.{step_of, made}
use Rattle.sheet_syntax_trees.proofs.Answering.{expected_ok, made_ok, err_then}
use Rattle.sheet_define_data.specs.declared.statement.Target.{Target}
use Rattle.sheet_define_reading.specs.declared.mark.Mark.TheVariants as mark
use Rattle.sheet_define_reading.specs.Reading as reading
use Rattle.sheet_define_reading.specs.Reading.{Bounds, Reader, Turn, after, expect, with_front, optional, mark_at}
use Rattle.std.specs.Prelude.{codes}
use Rattle.sheet_syntax_trees.specs.declared.sign.Sign.TheVariants as sign
use Rattle.sheet_syntax_trees.specs.Signs.{sign_of}
use Rattle.sheet_syntax_trees.specs.declared.operators.Prefix.TheVariants as prefix
use Rattle.sheet_syntax_trees.specs.Grammar.{no_prefix, no_step, a_child}
use Rattle.sheet_syntax_trees.specs.Refusals.{a_bracket, a_form, Admits}
use Rattle.sheet_syntax_trees.proofs.Contexts.{at_atom}
use Rattle.sheet_syntax_trees.proofs.Soundness.{Stands, Begins, nonempty, within_sound, atom_sound, step_produced}
use Rattle.sheet_syntax_trees.proofs.Stopping.{Stop, waits, crowded, deep, within_stops, atom_stops, too_deep, lifted as stop_lifted}
use Rattle.sheet_define_data.specs.Grammar.{of_object}
use Rattle.sheet_define_reading.specs.Reading.{alone}
use Rattle.sheet_define_reading.proofs.Soundness.{target_sound, limits}
use Rattle.sheet_define_refusals.proofs.Formulas.{as_expression}
use Rattle.sheet_define_refusals.proofs.Targets.{last_zero, last_suc}
use Rattle.sheet_define_refusals.proofs.Moving.{Moved, Aim, target_moved}
use Rattle.sheet_define_refusals.proofs.Halting.{mark_err, Context, flat, expected, target, Halt, name_dummy, word}

from_postfix : (ts : List Token) (f : Form) → Produces postfix ts f → Produces expression ts f
from_postfix ts f p = as_expression 0 0 0 ts f (no_prefix prefix.Minus ts f p)

-- a name behind a dot ends a target
aim_of : (front more vs : List Token) (w : Form) → Produces postfix (front ++ more) w → (m : ℕ) → max w.depth w.nest ≤ m →
    Aim m (front ++ ((more ++ word mark.Dot ∷ name_dummy ∷ []) ++ vs)) vs
aim_of front more vs w p m some l h = (
  _,
  of_object (word mark.Dot) name_dummy (codes "x") (front ++ ((more ++ word mark.Dot ∷ name_dummy ∷ []) ++ vs)) vs w.tree
      (record {
        front = front ++ more;
        depth = w.depth;
        nest = w.nest;
        split = simp (append_assoc) refl;
        produced = p;
        shallow = omega (arith, some, h);
        narrow = omega (arith, some, h);
      }) refl refl,
)

here_aim : Context Aim Aim []
here_aim = flat Aim Aim [] [] 0 (λ m some us vs r. r)

stop_halts : (B : ℕ → Type 0) (end : ℕ) (ts : List Token) (e : SyntaxRefusal) → Stop 32 32 end postfix ts e → Halt Aim B end ts e
stop_halts B end ts e (waits front rest more w split p same) =
    record {
      front = front;
      rest = rest;
      split = split;
      more = more ++ word mark.Dot ∷ name_dummy ∷ [];
      least = max w.depth w.nest;
      whole = λ m some vs. aim_of front more vs w p m some;
      cause = expected same;
    }
stop_halts B end ts e (crowded front rest more b w split bracket raised p same) =
    record {
      front = front;
      rest = b ∷ rest;
      split = split;
      more = (b ∷ more) ++ word mark.Dot ∷ name_dummy ∷ [];
      least = max w.depth w.nest;
      whole = λ m some vs. aim_of front (b ∷ more) vs w p m some;
      cause =
          target [] ts refl here_aim
          (a_bracket front rest b split bracket raised.is
          (record {
            behind = more;
            whole = w;
            produced = subst (λ l. Produces expression l w) (sym (append_assoc front (b ∷ []) more)) (from_postfix (front ++ b ∷ more) w p);
          }) refl) same;
    }
stop_halts B end ts e (deep front mid rest n f split a p depth same) =
    let (w, q, d) = a.whole mid f p in
    let first = nonempty n mid f p in
    let here : offset end (mid ++ rest) ≡ offset end mid = ap (λ l. offset end (l ++ rest)) first.is ∙ sym (ap (offset end) first.is) in
    let admits : Admits expression front n = record {
      behind = a.behind;
      whole = λ mid f p. let (w, q, d) = a.whole mid f p in
          (w, from_postfix (front ++ (mid ++ a.behind)) w q, d);
    } in
    record {
      front = front;
      rest = mid ++ rest;
      split = split;
      more = (mid ++ a.behind) ++ word mark.Dot ∷ name_dummy ∷ [];
      least = max w.depth w.nest;
      whole = λ m some vs. aim_of front (mid ++ a.behind) vs w q m some;
      cause = target [] ts refl here_aim (a_form front mid rest n f split admits p (depth ∙ omega arith) here) (same ∙ ap TooNested (sym here));
    }

module _ (end : ℕ) where
  abbrev U : Bounds
  U = reading.usual end

  same_err : {A : Type 0} (d e : SyntaxRefusal) → ◌≡◌ {A = Answer A} (Err d) (Err e) → e ≡ d
  same_err d e h = cc

  moved_to : (xs ys : List Token) (w : Form) → xs ≡ ys → Produces postfix xs w → Produces postfix ys w
  moved_to xs ys w e p = subst (λ l. Produces postfix l w) e p

  -- behind a formula that is read a dot could stand
  dot_waits : (h : Token) (hs us ts : List Token) (f : Form) (e : SyntaxRefusal) → Produces postfix (h ∷ hs) f → ts ≡ (h ∷ hs) ++ us →
      e ≡ Expected (offset end us) → Stop 32 32 end postfix ts e
  dot_waits h hs us ts f e p split same =
      waits (h ∷ hs) us (word mark.Dot ∷ name_dummy ∷ []) _ split (a_child (word mark.Dot) name_dummy (codes "x") (h ∷ hs) f p refl refl) same

  -- behind a dot a name could stand
  name_waits : (h d : Token) (hs us ts : List Token) (f : Form) (e : SyntaxRefusal) → Produces postfix (h ∷ hs) f → sign_of d.kind ≡ sign.Dot →
      ts ≡ (h ∷ hs) ++ d ∷ us → e ≡ Expected (offset end us) → Stop 32 32 end postfix ts e
  name_waits h d hs us ts f e p dot split same =
      waits ((h ∷ hs) ++ d ∷ []) us (name_dummy ∷ []) _ (split ∙ sym (append_assoc (h ∷ hs) (d ∷ []) us))
      (moved_to _ _ _ (sym (append_assoc (h ∷ hs) (d ∷ []) (name_dummy ∷ []))) (a_child d name_dummy (codes "x") (h ∷ hs) f p dot refl)) same

  abbrev Lasts : ℕ → Type 0
  Lasts k = (at : ℕ) (h : Token) (hs : List Token) (f : Formed) (nest : ℕ) → h.start ≡ at → Produces postfix (h ∷ hs) (form f.tree f.depth nest) →
      f.depth ≤ 32 → (us ts : List Token) (e : SyntaxRefusal) → ts ≡ (h ∷ hs) ++ us
      → reading.last_step U k at h.line f us ≡ Err e → Stop 32 32 end postfix ts e

  step_stops : (k : ℕ) → Lasts k → (at : ℕ) (h d : Token) (hs : List Token) (f : Formed) (nest : ℕ) → h.start ≡ at →
      Produces postfix (h ∷ hs) (form f.tree f.depth nest) → f.depth ≤ 32 → sign_of d.kind ≡ sign.Dot → (us ts : List Token) (e : SyntaxRefusal)
      → ts ≡ (h ∷ hs) ++ d ∷ us → (o : Option (List ℕ × List Token)) →
      reading.step_by U at h.line f us o (λ g rest. reading.last_step U k at h.line g rest) ≡ Err e → Stop 32 32 end postfix ts e
  step_stops k go at h d hs f nest here p shallow dot us ts e split (Some x) r = let wrong : ⊥ = cc in absurd wrong
  step_stops k go at h d hs f nest here p shallow dot [] ts e split None r = name_waits h d hs [] ts _ e p dot split (same_err (Expected end) e r)
  step_stops k go at h d hs f nest here p shallow dot (t ∷ us) ts e split None r =
      let named = or_expected t.start (step_of h.line f.tree t.kind) in
      elim (err_then named (λ form. made 32 at form f.depth >>= (λ g. reading.last_step U k at h.line g us)) e r) [
        | inl r1 ↦ name_waits h d hs (t ∷ us) ts _ e p dot split (none (step_of h.line f.tree t.kind) r1)
        | inr (step, found, r1) ↦
            (let q = step_produced h d t hs f nest step p dot (expected_ok t.start (step_of h.line f.tree t.kind) step found) in
            let longer : ts ≡ ((h ∷ hs) ++ d ∷ t ∷ []) ++ us = split ∙ sym (append_assoc (h ∷ hs) (d ∷ t ∷ []) us) in
            elim (err_then (made 32 at step f.depth) (λ g. reading.last_step U k at h.line g us) e r1) [
              | inl r2 ↦ too_deep 32 32 end postfix ts ((h ∷ hs) ++ d ∷ t ∷ []) us step f.depth nest at e r2 shallow (sym here) longer q
              | inr (g, madeg, r2) ↦
                  (let (fits, is) = made_ok 32 at step f.depth g madeg in
                  let fit : g.depth ≤ 32 = subst (λ (z : Formed). z.depth ≤ 32) (sym is) (omega arith) in
                  go at h (hs ++ d ∷ t ∷ []) g nest here (subst (λ (z : Formed). Produces postfix (h ∷ (hs ++ d ∷ t ∷ [])) (form z.tree z.depth nest)) (sym is)
                  q) fit us ts e longer r2)
            ])
      ] where
        none : (o : Option Tree) → ◌≡◌ {A = Answer Tree} (or_expected t.start o) (Err e) → e ≡ Expected t.start
        none (Some x) h = let wrong : ⊥ = cc in absurd wrong
        none None h = cc

  last_stops : (k : ℕ) → Lasts k
  last_stops zero at h hs f nest here p shallow us ts e split r =
      dot_waits h hs us ts _ e p split (same_err (Expected (offset end us)) e (sym (last_zero end 0 0 U at h.line f us) ∙ r))
  last_stops (suc k) at h hs f nest here p shallow us ts e split r =
      elim (mark_err end mark.Dot (omega arith) us (λ a. reading.step_by U at h.line f a (alone a) (λ g rest. reading.last_step U k at h.line g rest)) e
      (sym (last_suc end 0 0 U k at h.line f us) ∙ r)) [
        | inl same ↦ dot_waits h hs us ts _ e p split same
        | inr (d, vs, is, dotted, more) ↦ step_stops k (last_stops k) at h d hs f nest here p shallow (ap sign_of dotted) vs ts e
            (split ∙ ap (λ l. (h ∷ hs) ++ l) is) (alone vs) more
      ]

  -- behind the atom that is read
  behind_atom : (ts : List Token) (e : SyntaxRefusal) (x : Formed) (us : List Token) (s : Stands 32 32 atom ts x us) (b : Begins s.front) →
      reading.last_step U (length us) (offset end ts) (line_of ts) x us ≡ Err e → Stop 32 32 end postfix ts e
  behind_atom ts e x us s b r =
      let whole : ts ≡ (b.first ∷ b.others) ++ us = s.split ∙ ap (λ l. l ++ us) b.is in
      let atom_there : Produces postfix (b.first ∷ b.others) (form x.tree x.depth s.nest) =
      subst (λ l. Produces postfix l (form x.tree x.depth s.nest)) b.is (no_step s.front (form x.tree x.depth s.nest) s.produced) in
      last_stops (length us) (offset end ts) b.first b.others x s.nest (sym (ap (offset end) whole)) atom_there s.shallow us ts e whole
      (subst (λ n. reading.last_step U (length us) (offset end ts) n x us ≡ Err e) (ap line_of whole) r)

  target_stops : (ts : List Token) (e : SyntaxRefusal) → reading.target_by U ts None ≡ Err e → Stop 32 32 end postfix ts e
  target_stops ts e r =
      let s : trees.Setting = setting 32 end (length ts + 1) 32 in
      let sound = within_sound 32 end (omega arith) (length ts + 1) (32 - 1) in
      elim (err_then (trees.atom s ts) (λ x. reading.last_step U (length x.1) (offset end ts) (line_of ts) x.0 x.1) e r) [
        | inl r1 ↦ stop_lifted 32 32 32 end 0 postfix atom [] ts ts e at_atom (omega arith) refl
            (atom_stops s (omega arith) sound (within_stops 32 end (omega arith) (length ts + 1) (32 - 1)) ts e r1)
        | inr (x, ex, r1) ↦
            (let there = atom_sound s (omega arith) sound ts x ex in
            behind_atom ts e x.0 x.1 there (nonempty atom there.front (form x.0.tree x.0.depth there.nest) there.produced) r1)
      ]

  target_is : (ts : List Token) → reading.target U ts ≡ reading.target_by U ts (alone ts)
  unfolding reading.target
  target_is ts = refl

  pub target_halts : (B : ℕ → Type 0) (ts : List Token) (e : SyntaxRefusal) → reading.target U ts ≡ Err e → Halt Aim B end ts e
  target_halts B ts e r = stop_halts B end ts e (by (alone ts) (sym (target_is ts) ∙ r)) where
    by : (o : Option (List ℕ × List Token)) → reading.target_by U ts o ≡ Err e → Stop 32 32 end postfix ts e
    by (Some x) h = let wrong : ⊥ = cc in absurd wrong
    by None h = target_stops ts e h

  pub target_sound_moved : (ts us : List Token) (v : Target) → reading.target U ts ≡ Ok (v, us) → Moved Aim ts us
  target_sound_moved ts us v e = target_moved (limits U) ts us v (target_sound U (omega arith) ts (v, us) e)

-- Where the readers refuse: what stands before goes on to a form, and what is nested too deeply is a bracket or a form
-- at its place.
use Rattle.std.proofs.Common.{◌≡◌, ℕ, zero, suc, ◌+◌, ◌-◌, ◌<◌, ◌≤◌, max, List, [], ◌∷◌, ◌++◌, length, true, false, Some, None, Ok, Err, refl, sym, ap, ◌∙◌}
use Rattle.std.proofs.Common.{subst, arith, append_assoc, inl, inr}
use Rattle.std.specs.Prelude.{codes, Bool, Option, nat_lt, if◌then◌else◌, ◌==◌, ◌⊎◌}
use Rattle.std.proofs.lemmas.Bool.{cases_Bool}
use Rattle.sheet_syntax_trees.specs.declared.token.Token.{Token}
use Rattle.sheet_syntax_trees.specs.declared.token.TokenKind.TheVariants as kind
use Rattle.sheet_syntax_trees.specs.declared.token.SyntaxRefusal.{SyntaxRefusal}
use Rattle.sheet_syntax_trees.specs.declared.token.SyntaxRefusal.TheVariants.{Expected, TooNested}
use Rattle.sheet_syntax_trees.specs.declared.sign.Sign.{Sign}
use Rattle.sheet_syntax_trees.specs.declared.sign.Sign.TheVariants as sign
use Rattle.sheet_syntax_trees.specs.declared.operators.Operator.{Operator}
use Rattle.sheet_syntax_trees.specs.declared.operators.Level.{Level}
use Rattle.sheet_syntax_trees.specs.declared.operators.Level.TheVariants as level
use Rattle.sheet_syntax_trees.specs.declared.operators.Prefix.{Prefix}
use Rattle.sheet_syntax_trees.specs.declared.operators.Prefix.TheVariants as prefix
use Rattle.sheet_syntax_trees.specs.declared.operators.Function.{Function}
use Rattle.sheet_syntax_trees.specs.declared.operators.Gathering.{Gathering}
use Rattle.sheet_syntax_trees.specs.declared.operators.Gathering.TheVariants as gathering
use Rattle.sheet_syntax_trees.specs.declared.operators.Quantifier.{Quantifier}
use Rattle.sheet_syntax_trees.specs.declared.tree.Tree.{Tree}
use Rattle.sheet_syntax_trees.specs.declared.tree.Tree.TheVariants as tree
use Rattle.sheet_syntax_trees.specs.declared.tree.Formed.{Formed}
use Rattle.sheet_syntax_trees.specs.Signs.{sign_of, same_sign}
use Rattle.sheet_syntax_trees.specs.Operators.{operator_among, repeats, prefix_sign, prefixed}
use Rattle.sheet_syntax_trees.specs.Grammar.{Nonterminal, expression, chain, postfix, atom, operand, before, prefixing, unprefixed, Form, form, function_of}
use Rattle.sheet_syntax_trees.specs.Grammar.{quantifier_of, Produces, AreParts, a_choice, an_operation, a_prefix, no_step, a_child, in_parentheses, a_set}
use Rattle.sheet_syntax_trees.specs.Grammar.{a_call, a_test, one_part, more_parts, all_values, chosen_values}
use Rattle.sheet_syntax_trees.specs.Refusals.{opening, Admits}
use Rattle.sheet_syntax_trees.specs.Reading as reading
use Rattle.sheet_syntax_trees.specs.Reading.{Answer, Reader, ◌>>=◌, Setting, offset, line_of, after, expect, name_at, with_rest, made, opened, leaf}
use Rattle.sheet_syntax_trees.proofs.SignLemmas.{same_is}
use Rattle.sheet_syntax_trees.proofs.Answering.{err_then, after_ok, expected_ok, expect_ok, name_ok, made_ok, opened_ok, some_room}
use Rattle.sheet_syntax_trees.proofs.Soundness.{Stands, Sound, Begins, nonempty, step_produced, operand_before, chain_before, within_sound, chain_sound}
use Rattle.sheet_syntax_trees.proofs.Soundness.{postfix_sound, prefixes_sound, atom_sound, under_sound, operation_sound}
use Rattle.sheet_syntax_trees.proofs.Contexts.{Raised, Context, plain, over, Flat, flat_sign, zero_expression, zeros, a_zero, then_token, else_token, in_token}
use Rattle.sheet_syntax_trees.proofs.Contexts.{open_token, close_token, close_brace_token, colon_token, bar_token, name_token, nowhere, in_choice_first}
use Rattle.sheet_syntax_trees.proofs.Contexts.{in_choice_second, in_choice_third, in_choice_no, at_operand, behind_operator, behind_prefix, without_prefix}
use Rattle.sheet_syntax_trees.proofs.Contexts.{at_atom, in_parenthesis, in_call, in_test_source, in_test_condition, Wrap, in_braces, in_sum, at_body, at_source}
use Rattle.sheet_syntax_trees.proofs.Contexts.{at_condition, at_first_part, at_next_part, both_raised}

-- why a reader stops: the tokens end too early, or a bracket too many is opened, or a form is too deep
pub data Stop (limit room end : ℕ) (n : Nonterminal) (ts : List Token) (e : SyntaxRefusal) : Type 0 where
  waits : (front rest more : List Token) (w : Form) → ts ≡ front ++ rest → Produces n (front ++ more) w → e ≡ Expected (offset end rest) →
      Stop limit room end n ts e
  crowded : (front rest more : List Token) (b : Token) (w : Form) → ts ≡ front ++ b ∷ rest → opening (sign_of b.kind) ≡ 1 → Raised room front →
      Produces n (front ++ b ∷ more) w → e ≡ TooNested b.start → Stop limit room end n ts e
  deep : (front mid rest : List Token) (m : Nonterminal) (f : Form) → ts ≡ front ++ (mid ++ rest) → Admits n front m → Produces m mid f → f.depth ≡ limit + 1 →
      e ≡ TooNested (offset end mid) → Stop limit room end n ts e

abbrev pub Stops : ℕ → ℕ → ℕ → Nonterminal → Reader → Type 0
Stops limit room end n p = (ts : List Token) (e : SyntaxRefusal) → p ts ≡ Err e → Stop limit room end n ts e

moved : (n : Nonterminal) (xs ys : List Token) (w : Form) → xs ≡ ys → Produces n xs w → Produces n ys w
moved n xs ys w e p = let P : List Token → Type 0 = λ l. Produces n l w in subst P e p

both_admit : (n m k : Nonterminal) (front others : List Token) → Admits n front m → Admits m others k → Admits n (front ++ others) k
both_admit n m k front others a b =
    record {
      behind = b.behind ++ a.behind;
      whole = λ mid f p.
          let (w, q, d) = b.whole mid f p in
          let (v, r, c) = a.whole (others ++ (mid ++ b.behind)) w q in
          (v, moved n _ _ v (simp (append_assoc) refl) r, omega (arith, d, c));
    }

-- a reader stops where the form that is read there does
pub lifted : (limit room inner end k : ℕ) (n m : Nonterminal) (front us ts : List Token) (e : SyntaxRefusal) → Context k n front m → k + inner ≡ room →
    ts ≡ front ++ us → Stop limit inner end m us e → Stop limit room end n ts e
lifted limit room inner end k n m front us ts e c count is (waits others rest more w split p same) =
    let (v, q, d) = c.admits.whole (others ++ more) w p in
    waits (front ++ others) rest (more ++ c.admits.behind) v (is ∙ ap (λ l. front ++ l) split ∙ sym (append_assoc front others rest))
    (moved n _ _ v (simp (append_assoc) refl) q) same
lifted limit room inner end k n m front us ts e c count is (crowded others rest more b w split bracket raised p same) =
    let (v, q, d) = c.admits.whole (others ++ b ∷ more) w p in
    let P : ℕ → Type 0 = λ j. Raised j (front ++ others) in
    crowded (front ++ others) rest (more ++ c.admits.behind) b v (is ∙ ap (λ l. front ++ l) split ∙ sym (append_assoc front others (b ∷ rest))) bracket
    (subst P count (both_raised k inner front others c.raised raised))
    (moved n _ _ v (simp (append_assoc) refl) q) same
lifted limit room inner end k n m front us ts e c count is (deep others mid rest h f split a p depth same) =
    deep (front ++ others) mid rest h f (is ∙ ap (λ l. front ++ l) split ∙ sym (append_assoc front others (mid ++ rest)))
    (both_admit n m h front others c.admits a) p depth same

-- behind the front a token of some kind would go on
pub halted : (limit room end k : ℕ) (n m : Nonterminal) (front rest ts : List Token) (t : Token) (e : SyntaxRefusal) → Context k n (front ++ t ∷ []) m →
    ts ≡ front ++ rest → e ≡ Expected (offset end rest) → Stop limit room end n ts e
halted limit room end k n m front rest ts t e c is same =
    let (v, q, d) = c.admits.whole zeros _ (a_zero m) in
    waits front rest (t ∷ (zeros ++ c.admits.behind)) v is (moved n _ _ v (append_assoc front (t ∷ []) (zeros ++ c.admits.behind)) q) same

-- ---- what small readers tell where they refuse

pub same_err : {A : Type 0} (d e : SyntaxRefusal) → ◌≡◌ {A = Answer A} (Err d) (Err e) → e ≡ d
same_err d e h = cc

expected_err : {A : Type 0} (at : ℕ) (o : Option A) (e : SyntaxRefusal) → ◌≡◌ {A = Answer A} (reading.or_expected at o) (Err e) → (o ≡ None) × (e ≡ Expected at)
expected_err at (Some x) e h = let wrong : ⊥ = cc in absurd wrong
expected_err at None e h = (refl, cc)

expect_err : (end : ℕ) (s : Sign) (ts : List Token) (e : SyntaxRefusal) → ◌≡◌ {A = Answer (List Token)} (expect end s ts) (Err e) → e ≡ Expected (offset end ts)
expect_err end s ts e h = (expected_err (offset end ts) (after s ts) e h).1

rest_err : {A : Type 0} (rest : List Token) (r : Answer A) (e : SyntaxRefusal) → ◌≡◌ {A = Answer (A × List Token)} (with_rest rest r) (Err e) →
    ◌≡◌ {A = Answer A} r (Err e)
rest_err rest (Ok x) e h = let wrong : ⊥ = cc in absurd wrong
rest_err rest (Err d) e h = let same : d ≡ e = cc in ap Err same

name_err : (end : ℕ) (ts : List Token) (e : SyntaxRefusal) → name_at end ts ≡ Err e → e ≡ Expected (offset end ts)
name_err end [] e h = cc
name_err end (t ∷ ts) e h = (expected_err t.start (reading.name_of t.kind) e (rest_err ts (reading.or_expected t.start (reading.name_of t.kind)) e h)).1

made_err_by : (b : Bool) (x : Formed) (at : ℕ) (e : SyntaxRefusal) → ◌≡◌ {A = Answer Formed} (if b then Ok x else Err (TooNested at)) (Err e) →
    (b ≡ false) × (e ≡ TooNested at)
made_err_by true x at e h = let wrong : ⊥ = cc in absurd wrong
made_err_by false x at e h = (refl, cc)

not_below : (a b : ℕ) → nat_lt a b ≡ false → b ≤ a
not_below a b h = grind (arith)

made_err : (limit at : ℕ) (t : Tree) (deepest : ℕ) (e : SyntaxRefusal) → ◌≡◌ {A = Answer Formed} (made limit at t deepest) (Err e) →
    (limit ≤ deepest) × (e ≡ TooNested at)
made_err limit at t deepest e h =
    let (test, is) = made_err_by (nat_lt deepest limit) (record { tree = t; depth = deepest + 1 }) at e h in
    (not_below deepest limit test, is)

-- a form that is one too deep
pub too_deep : (limit room end : ℕ) (n : Nonterminal) (ts mid rest : List Token) (t : Tree) (deepest nest at : ℕ) (e : SyntaxRefusal) →
    ◌≡◌ {A = Answer Formed} (made limit at t deepest) (Err e) → deepest ≤ limit → at ≡ offset end mid → ts ≡ mid ++ rest
    → Produces n mid (form t (deepest + 1) nest) → Stop limit room end n ts e
too_deep limit room end n ts mid rest t deepest nest at e h fits here is p =
    let (over, same) = made_err limit at t deepest e h in
    deep [] mid rest n (form t (deepest + 1) nest) is (nowhere n).admits p (let d : deepest ≡ limit = omega (arith, fits, over) in
    omega (arith, d)) (same ∙ ap TooNested here)

made_rest_deep : (limit room end : ℕ) (n : Nonterminal) (ts mid rest : List Token) (t : Tree) (deepest nest at : ℕ) (e : SyntaxRefusal) →
    ◌≡◌ {A = Answer (Formed × List Token)} (with_rest rest (made limit at t deepest)) (Err e) → deepest ≤ limit
    → at ≡ offset end mid → ts ≡ mid ++ rest → Produces n mid (form t (deepest + 1) nest) → Stop limit room end n ts e
made_rest_deep limit room end n ts mid rest t deepest nest at e h fits here is p =
    too_deep limit room end n ts mid rest t deepest nest at e (rest_err rest (made limit at t deepest) e h) fits here is p

room_err : {A : Type 0} (b : Bool) (at : ℕ) (r : Answer A) (e : SyntaxRefusal) → ◌≡◌ {A = Answer A} (if b then Err (TooNested at) else r) (Err e) →
    ((b ≡ true) × (e ≡ TooNested at)) ⊎ ((b ≡ false) × (◌≡◌ {A = Answer A} r (Err e)))
room_err true at r e h = inl (refl, cc)
room_err false at r e h = inr (refl, h)

no_more : (rest : List Token) (e : SyntaxRefusal) → ◌≡◌ {A = Answer (List Token)} (Ok rest) (Err e) → ⊥
no_more rest e h = cc

given_not_refused : (x : Formed × List Token) (e : SyntaxRefusal) → ◌≡◌ {A = Answer (Formed × List Token)} (Ok x) (Err e) → ⊥
given_not_refused x e h = cc

formed_not_refused : (x : Formed) (e : SyntaxRefusal) → ◌≡◌ {A = Answer Formed} (Ok x) (Err e) → ⊥
formed_not_refused x e h = cc

offset_more : (end : ℕ) (front more : List Token) → Begins front → offset end front ≡ offset end (front ++ more)
offset_more end front more b = ap (offset end) b.is ∙ sym (ap (λ l. offset end (l ++ more)) b.is)

flat_word : (t : Token) (s : Sign) → sign_of t.kind ≡ s → Flat s → Raised 0 (t ∷ [])
flat_word t s is f = plain 0 t [] (flat_sign t s is f) (nowhere atom).raised

no_room : (n : ℕ) → (n == 0) ≡ true → n ≡ 0
no_room n h = grind arith

-- the front goes on to a form
record Goes (n : Nonterminal) (front : List Token) : Type 0 where
  more : List Token
  whole : Form
  produced : Produces n (front ++ more) whole

goes : (k : ℕ) (n : Nonterminal) (front : List Token) (m : Nonterminal) → Context k n front m → Goes n front
goes k n front m c = let (v, q, d) = c.admits.whole zeros _ (a_zero m) in record { more = zeros ++ c.admits.behind; whole = v; produced = q }

test_opened : (t o : Token) (q : Quantifier) → quantifier_of (sign_of t.kind) ≡ Some q → sign_of o.kind ≡ sign.Open → Goes atom (t ∷ o ∷ [])
test_opened t o q is sg =
    record {
      more = name_token ∷ in_token ∷ (zeros ++ bar_token ∷ (zeros ++ close_token ∷ []));
      whole = _;
      produced = a_test t o name_token in_token bar_token close_token q (codes "x") zeros zeros _ _ is sg refl refl zero_expression refl zero_expression refl;
    }

-- a bracket that isn't there, or is one too many
opened_stops : (s : Setting) (n : Nonterminal) (bracket : Sign) (b : Token) (front ts us : List Token) (e : SyntaxRefusal) → (opening bracket ≡ 1) →
    ((o : Token) → sign_of o.kind ≡ bracket → Goes n (front ++ o ∷ [])) → sign_of b.kind ≡ bracket → Raised 0 front
    → ts ≡ front ++ us → ◌≡◌ {A = Answer (List Token)} (opened s bracket us) (Err e) → Stop s.limit s.room s.end n ts e
opened_stops s n bracket b front ts us e opening_one place is raised split h =
    elim (err_then (expect s.end bracket us) (λ rest. if s.room == 0 then Err (TooNested (offset s.end us)) else Ok rest) e h) [
      | inl e1 ↦ (let g = place b is in
          waits front us (b ∷ g.more) g.whole split (moved n _ _ _ (append_assoc front (b ∷ []) g.more) g.produced) (expect_err s.end bracket us e e1))
      | inr (rest, ex, e1) ↦
          elim (room_err (s.room == 0) (offset s.end us) (Ok rest) e e1) [
            | inl (none, same) ↦
                let (o, there, sg) = expect_ok s.end bracket us rest ex in
                let g = place o sg in
                let P : ℕ → Type 0 = λ j. Raised j front in
                let here : offset s.end us ≡ o.start = ap (offset s.end) there in
                crowded front rest g.more o g.whole (split ∙ ap (λ l. front ++ l) there) (ap opening sg ∙ opening_one)
                (subst P (sym (no_room s.room none)) raised) (moved n _ _ _ (append_assoc front (o ∷ []) g.more) g.produced)
                (same ∙ ap TooNested here)
            | inr (some, e2) ↦ absurd (no_more rest e e2)
          ]
    ]

-- ---- if

pub chosen_stops : (s : Setting) → Sound s.limit s.room expression s.nested → Stops s.limit s.room s.end expression s.nested →
    (t : Token) (ts : List Token) (e : SyntaxRefusal) → sign_of t.kind ≡ sign.If → reading.chosen s t ts ≡ Err e
    → Stop s.limit s.room s.end expression (t ∷ ts) e
unfolding reading.chosen
chosen_stops s sound inner t ts e is h =
    elim (err_then (s.nested ts) _ e h) [
      | inl h1 ↦ lifted s.limit s.room s.room s.end 0 expression expression (t ∷ []) ts (t ∷ ts) e (in_choice_first t is) (omega arith) refl (inner ts e h1)
      | inr (c, ec, h1) ↦
          let sc = sound ts c ec in
          elim (err_then (expect s.end sign.Then c.1) _ e h1) [
            | inl h2 ↦
                halted s.limit s.room s.end 0 expression expression (t ∷ sc.front) c.1 (t ∷ ts) then_token e
                (in_choice_second t then_token sc.front _ is sc.produced refl) (ap (λ l. t ∷ l) sc.split) (expect_err s.end sign.Then c.1 e h2)
            | inr (a, ea, h2) ↦
                let (u, isu, signu) = expect_ok s.end sign.Then c.1 a ea in
                let at_then : t ∷ ts ≡ ((t ∷ sc.front) ++ u ∷ []) ++ a =
                ap (λ l. t ∷ l) (sc.split ∙ ap (λ l. sc.front ++ l) isu ∙ sym (append_assoc sc.front (u ∷ []) a)) in
                elim (err_then (s.nested a) _ e h2) [
                  | inl h3 ↦ lifted s.limit s.room s.room s.end 0 expression expression ((t ∷ sc.front) ++ u ∷ []) a (t ∷ ts) e
                      (in_choice_second t u sc.front _ is sc.produced signu) (omega arith) at_then (inner a e h3)
                  | inr (x, ex, h3) ↦
                      let sx = sound a x ex in
                      let at_x : t ∷ ts ≡ (t ∷ (sc.front ++ u ∷ sx.front)) ++ x.1 = at_then ∙ ap (λ l. ((t ∷ sc.front) ++ u ∷ []) ++ l) sx.split
                      ∙ simp (append_assoc) refl in
                      elim (err_then (expect s.end sign.Else x.1) _ e h3) [
                        | inl h4 ↦
                            halted s.limit s.room s.end 0 expression expression (t ∷ (sc.front ++ u ∷ sx.front)) x.1 (t ∷ ts) else_token e
                            (in_choice_third t u else_token sc.front sx.front _ _ is sc.produced signu sx.produced refl) at_x
                            (expect_err s.end sign.Else x.1 e h4)
                        | inr (b, eb, h4) ↦
                            let (v, isv, signv) = expect_ok s.end sign.Else x.1 b eb in
                            let at_else : t ∷ ts ≡ ((t ∷ (sc.front ++ u ∷ sx.front)) ++ v ∷ []) ++ b =
                            at_x ∙ ap (λ l. (t ∷ (sc.front ++ u ∷ sx.front)) ++ l) isv ∙ sym (append_assoc (t ∷ (sc.front ++ u ∷ sx.front)) (v ∷ []) b) in
                            elim (err_then (s.nested b) _ e h4) [
                              | inl h5 ↦
                                  lifted s.limit s.room s.room s.end 0 expression expression ((t ∷ (sc.front ++ u ∷ sx.front)) ++ v ∷ []) b (t ∷ ts) e
                                  (in_choice_third t u v sc.front sx.front _ _ is sc.produced signu sx.produced signv) (omega arith) at_else (inner b e h5)
                              | inr (z, ez, h5) ↦
                                  let sz = sound b z ez in
                                  let fc = sc.shallow in let fx = sx.shallow in let fz = sz.shallow in
                                  made_rest_deep s.limit s.room s.end expression (t ∷ ts) (t ∷ (sc.front ++ u ∷ (sx.front ++ v ∷ sz.front))) z.1
                                  (tree.If t.line c.0.tree x.0.tree z.0.tree) (max c.0.depth (max x.0.depth z.0.depth))
                                  (max sc.nest (max sx.nest sz.nest)) t.start e h5 (omega (arith, fc, fx, fz)) refl
                                  (at_else ∙ ap (λ l. ((t ∷ (sc.front ++ u ∷ sx.front)) ++ v ∷ []) ++ l) sz.split ∙ simp (append_assoc) refl)
                                  (a_choice t u v sc.front sx.front sz.front _ _ _ is sc.produced signu sx.produced signv sz.produced)
                            ]
                      ]
                ]
          ]
    ]

-- ---- functions and conditions in brackets

inside : (room : ℕ) → 0 < room → 1 + (room - 1) ≡ room
inside room some = omega arith

pub called_stops : (s : Setting) → Sound s.limit (s.room - 1) expression s.inner → Stops s.limit (s.room - 1) s.end expression s.inner →
    (h : Function) (t : Token) (ts : List Token) (e : SyntaxRefusal) → function_of (sign_of t.kind) ≡ Some h
    → Raised 0 (t ∷ []) → reading.called s h t ts ≡ Err e → Stop s.limit s.room s.end atom (t ∷ ts) e
unfolding reading.called
called_stops s sound inner h t ts e is flat r =
    elim (err_then (opened s sign.Open ts) _ e r) [
      | inl r1 ↦ opened_stops s atom sign.Open open_token (t ∷ []) (t ∷ ts) ts e refl
          (λ o sg. goes 1 atom ((t ∷ []) ++ o ∷ []) expression (in_call t o h is sg)) refl flat refl r1
      | inr (a, ea, r1) ↦
          let (o, iso, signo, some) = opened_ok s sign.Open ts a ea in
          let at_o : t ∷ ts ≡ ((t ∷ []) ++ o ∷ []) ++ a = ap (λ l. t ∷ l) iso in
          elim (err_then (s.inner a) _ e r1) [
            | inl r2 ↦ lifted s.limit s.room (s.room - 1) s.end 1 atom expression ((t ∷ []) ++ o ∷ []) a (t ∷ ts) e (in_call t o h is signo)
                (inside s.room some) at_o (inner a e r2)
            | inr (x, ex, r2) ↦
                let sx = sound a x ex in
                let at_x : t ∷ ts ≡ (t ∷ o ∷ sx.front) ++ x.1 = at_o ∙ ap (λ l. t ∷ o ∷ l) sx.split in
                elim (err_then (expect s.end sign.Close x.1) _ e r2) [
                  | inl r3 ↦ waits (t ∷ o ∷ sx.front) x.1 (close_token ∷ []) _ at_x (a_call t o close_token h sx.front _ is signo sx.produced refl)
                      (expect_err s.end sign.Close x.1 e r3)
                  | inr (rest, er, r3) ↦
                      let (c, isc, signc) = expect_ok s.end sign.Close x.1 rest er in
                      made_rest_deep s.limit s.room s.end atom (t ∷ ts) (t ∷ o ∷ (sx.front ++ c ∷ [])) rest (tree.Call t.line h x.0.tree) x.0.depth
                      (sx.nest + 1) t.start e r3 sx.shallow refl
                      (at_x ∙ ap (λ l. (t ∷ o ∷ sx.front) ++ l) isc ∙ sym (append_assoc (t ∷ o ∷ sx.front) (c ∷ []) rest))
                      (a_call t o c h sx.front _ is signo sx.produced signc)
                ]
          ]
    ]

pub tested_stops : (s : Setting) → Sound s.limit (s.room - 1) expression s.inner → Stops s.limit (s.room - 1) s.end expression s.inner →
    (q : Quantifier) (t : Token) (ts : List Token) (e : SyntaxRefusal) → quantifier_of (sign_of t.kind) ≡ Some q
    → Raised 0 (t ∷ []) → reading.tested s q t ts ≡ Err e → Stop s.limit s.room s.end atom (t ∷ ts) e
unfolding reading.tested
tested_stops s sound inner q t ts e is flat r =
    elim (err_then (opened s sign.Open ts) _ e r) [
      | inl r1 ↦ opened_stops s atom sign.Open open_token (t ∷ []) (t ∷ ts) ts e refl (λ o sg. test_opened t o q is sg) refl flat refl r1
      | inr (a, ea, r1) ↦
          let (o, iso, signo, some) = opened_ok s sign.Open ts a ea in
          let at_o : t ∷ ts ≡ (t ∷ o ∷ []) ++ a = ap (λ l. t ∷ l) iso in
          elim (err_then (name_at s.end a) _ e r1) [
            | inl r2 ↦
                waits (t ∷ o ∷ []) a (name_token ∷ in_token ∷ (zeros ++ bar_token ∷ (zeros ++ close_token ∷ []))) _ at_o
                (a_test t o name_token in_token bar_token close_token q (codes "x") zeros zeros _ _ is signo refl refl zero_expression refl zero_expression
                refl) (name_err s.end a e r2)
            | inr (name, en, r2) ↦
                let (n, isn, named) = name_ok s.end a name en in
                let at_n : t ∷ ts ≡ (t ∷ o ∷ n ∷ []) ++ name.1 = at_o ∙ ap (λ l. t ∷ o ∷ l) isn in
                elim (err_then (expect s.end sign.In name.1) _ e r2) [
                  | inl r3 ↦ halted s.limit s.room s.end 1 atom expression (t ∷ o ∷ n ∷ []) name.1 (t ∷ ts) in_token e
                      (in_test_source t o n in_token q name.0 is signo named refl) at_n (expect_err s.end sign.In name.1 e r3)
                  | inr (b, eb, r3) ↦
                      let (i, isi, signi) = expect_ok s.end sign.In name.1 b eb in
                      let at_i : t ∷ ts ≡ ((t ∷ o ∷ n ∷ []) ++ i ∷ []) ++ b = at_n ∙ ap (λ l. t ∷ o ∷ n ∷ l) isi in
                      elim (err_then (s.inner b) _ e r3) [
                        | inl r4 ↦ lifted s.limit s.room (s.room - 1) s.end 1 atom expression ((t ∷ o ∷ n ∷ []) ++ i ∷ []) b (t ∷ ts) e
                            (in_test_source t o n i q name.0 is signo named signi) (inside s.room some) at_i (inner b e r4)
                        | inr (x, ex, r4) ↦
                            let sx = sound b x ex in
                            let at_x : t ∷ ts ≡ (t ∷ o ∷ n ∷ i ∷ sx.front) ++ x.1 = at_i ∙ ap (λ l. t ∷ o ∷ n ∷ i ∷ l) sx.split in
                            elim (err_then (expect s.end sign.Bar x.1) _ e r4) [
                              | inl r5 ↦
                                  halted s.limit s.room s.end 1 atom expression (t ∷ o ∷ n ∷ i ∷ sx.front) x.1 (t ∷ ts) bar_token e
                                  (in_test_condition t o n i bar_token q name.0 sx.front _ is signo named signi sx.produced refl) at_x
                                  (expect_err s.end sign.Bar x.1 e r5)
                              | inr (d, ed, r5) ↦
                                  let (k, isk, signk) = expect_ok s.end sign.Bar x.1 d ed in
                                  let at_k : t ∷ ts ≡ ((t ∷ o ∷ n ∷ i ∷ sx.front) ++ k ∷ []) ++ d = at_x ∙ ap (λ l. (t ∷ o ∷ n ∷ i ∷ sx.front) ++ l) isk
                                  ∙ sym (append_assoc (t ∷ o ∷ n ∷ i ∷ sx.front) (k ∷ []) d) in
                                  elim (err_then (s.inner d) _ e r5) [
                                    | inl r6 ↦
                                        lifted s.limit s.room (s.room - 1) s.end 1 atom expression ((t ∷ o ∷ n ∷ i ∷ sx.front) ++ k ∷ []) d (t ∷ ts) e
                                        (in_test_condition t o n i k q name.0 sx.front _ is signo named signi sx.produced signk)
                                        (inside s.room some) at_k (inner d e r6)
                                    | inr (p, ep, r6) ↦
                                        let sp = sound d p ep in
                                        let at_p : t ∷ ts ≡ (t ∷ o ∷ n ∷ i ∷ (sx.front ++ k ∷ sp.front)) ++ p.1 =
                                        at_k ∙ ap (λ l. ((t ∷ o ∷ n ∷ i ∷ sx.front) ++ k ∷ []) ++ l) sp.split ∙ simp (append_assoc) refl in
                                        elim (err_then (expect s.end sign.Close p.1) _ e r6) [
                                          | inl r7 ↦
                                              waits (t ∷ o ∷ n ∷ i ∷ (sx.front ++ k ∷ sp.front)) p.1 (close_token ∷ []) _ at_p
                                              (moved atom _ _ _ (simp (append_assoc) refl)
                                              (a_test t o n i k close_token q name.0 sx.front sp.front _ _ is signo named signi sx.produced signk
                                              sp.produced refl)) (expect_err s.end sign.Close p.1 e r7)
                                          | inr (rest, er, r7) ↦
                                              let (c, isc, signc) = expect_ok s.end sign.Close p.1 rest er in
                                              let dx = sx.shallow in let dp = sp.shallow in
                                              made_rest_deep s.limit s.room s.end atom (t ∷ ts) (t ∷ o ∷ n ∷ i ∷ (sx.front ++ k ∷ (sp.front ++ c ∷ []))) rest
                                              (tree.Test t.line q name.0 x.0.tree p.0.tree) (max x.0.depth p.0.depth)
                                              (max sx.nest sp.nest + 1) t.start e r7 (omega (arith, dx, dp)) refl
                                              (at_p ∙ ap (λ l. (t ∷ o ∷ n ∷ i ∷ (sx.front ++ k ∷ sp.front)) ++ l) isc ∙ simp (append_assoc) refl)
                                              (a_test t o n i k c q name.0 sx.front sp.front _ _ is signo named signi sx.produced signk sp.produced signc)
                                        ]
                                  ]
                            ]
                      ]
                ]
          ]
    ]

-- ---- comprehensions and sums, whose body stands in fs behind the front

conditioned_stops : (s : Setting) → Sound s.limit (s.room - 1) expression s.inner → Stops s.limit (s.room - 1) s.end expression s.inner → 0 < s.room →
    (g : Gathering) (close : Sign) (t : Token) (front : List Token) → Wrap t.line g close front
    → (at : t.start ≡ offset s.end front) → (begins : Begins front) → (f : Formed) (fs : List Token) (nf : ℕ) →
    Produces expression fs (form f.tree f.depth nf) → f.depth ≤ s.limit
    → (k n i : Token) (name : List ℕ) (source : Formed) (ss ts rest : List Token) (ns : ℕ) → sign_of k.kind ≡ sign.Colon → n.kind ≡ kind.Name name →
    sign_of i.kind ≡ sign.In
    → Produces expression ss (form source.tree source.depth ns) → source.depth ≤ s.limit → ts ≡ (front ++ (fs ++ k ∷ n ∷ i ∷ ss)) ++ rest →
    (o : Option (List Token)) → after sign.Bar rest ≡ o → (e : SyntaxRefusal)
    → reading.conditioned s g close t f name source rest o ≡ Err e → Stop s.limit s.room s.end atom ts e
unfolding reading.closed reading.closed_where
conditioned_stops s sound inner some g close t front w at begins f fs nf pf df k n i name source ss ts rest ns signk named signi ps ds split None none e r =
    elim (err_then (expect s.end close rest) _ e r) [
      | inl r1 ↦
          waits (front ++ (fs ++ k ∷ n ∷ i ∷ ss)) rest (w.last ∷ []) _ split
          (moved atom _ _ _ (simp (append_assoc) refl) (w.whole w.last _ _ (all_values t.line g k n i name fs ss _ _ pf signk named signi ps) w.closed))
          (expect_err s.end close rest e r1)
      | inr (end, er, r1) ↦
          let (c, isc, signc) = expect_ok s.end close rest end er in
          made_rest_deep s.limit s.room s.end atom ts (front ++ ((fs ++ k ∷ n ∷ i ∷ ss) ++ c ∷ [])) end (tree.Gather t.line g f.tree name source.tree)
          (max f.depth source.depth) (max nf ns + 1) t.start e r1 (omega (arith, df, ds))
          (at ∙ offset_more s.end front _ begins) (split ∙ ap (λ l. (front ++ (fs ++ k ∷ n ∷ i ∷ ss)) ++ l) isc ∙ simp (append_assoc) refl)
          (w.whole c _ _ (all_values t.line g k n i name fs ss _ _ pf signk named signi ps) signc)
    ]
conditioned_stops s sound inner some g close t front w at begins f fs nf pf df k n i name source ss ts rest ns signk named signi ps ds split (Some more) is e
    r =
    let (b, isb, signb) = after_ok sign.Bar rest more is in
    let at_b : ts ≡ ((front ++ (fs ++ k ∷ n ∷ i ∷ ss)) ++ b ∷ []) ++ more = split ∙ ap (λ l. (front ++ (fs ++ k ∷ n ∷ i ∷ ss)) ++ l) isb
    ∙ sym (append_assoc (front ++ (fs ++ k ∷ n ∷ i ∷ ss)) (b ∷ []) more) in
    elim (err_then (s.inner more) _ e r) [
      | inl r1 ↦
          lifted s.limit s.room (s.room - 1) s.end 1 atom expression ((front ++ (fs ++ k ∷ n ∷ i ∷ ss)) ++ b ∷ []) more ts e
          (at_condition t.line g close front w k n i b name fs ss _ _ pf signk named signi ps signb) (inside s.room some) at_b
          (inner more e r1)
      | inr (p, ep, r1) ↦
          let sp = sound more p ep in
          let at_p : ts ≡ (front ++ (fs ++ k ∷ n ∷ i ∷ (ss ++ b ∷ sp.front))) ++ p.1 =
          at_b ∙ ap (λ l. ((front ++ (fs ++ k ∷ n ∷ i ∷ ss)) ++ b ∷ []) ++ l) sp.split ∙ simp (append_assoc) refl in
          elim (err_then (expect s.end close p.1) _ e r1) [
            | inl r2 ↦
                waits (front ++ (fs ++ k ∷ n ∷ i ∷ (ss ++ b ∷ sp.front))) p.1 (w.last ∷ []) _ at_p
                (moved atom _ _ _ (simp (append_assoc) refl)
                (w.whole w.last _ _ (chosen_values t.line g k n i b name fs ss sp.front _ _ _ pf signk named signi ps signb sp.produced) w.closed))
                (expect_err s.end close p.1 e r2)
            | inr (end, er, r2) ↦
                let (c, isc, signc) = expect_ok s.end close p.1 end er in
                let dp = sp.shallow in
                made_rest_deep s.limit s.room s.end atom ts (front ++ ((fs ++ k ∷ n ∷ i ∷ (ss ++ b ∷ sp.front)) ++ c ∷ [])) end
                (tree.GatherWhere t.line g f.tree name source.tree p.0.tree) (max f.depth (max source.depth p.0.depth))
                (max nf (max ns sp.nest) + 1) t.start e r2 (omega (arith, df, ds, dp)) (at ∙ offset_more s.end front _ begins)
                (at_p ∙ ap (λ l. (front ++ (fs ++ k ∷ n ∷ i ∷ (ss ++ b ∷ sp.front))) ++ l) isc ∙ simp (append_assoc) refl)
                (w.whole c _ _ (chosen_values t.line g k n i b name fs ss sp.front _ _ _ pf signk named signi ps signb sp.produced) signc)
          ]
    ]

gathered_stops : (s : Setting) → Sound s.limit (s.room - 1) expression s.inner → Stops s.limit (s.room - 1) s.end expression s.inner → 0 < s.room →
    (g : Gathering) (close : Sign) (t : Token) (front : List Token) → Wrap t.line g close front
    → (at : t.start ≡ offset s.end front) → (begins : Begins front) → (f : Formed) (fs : List Token) (nf : ℕ) →
    Produces expression fs (form f.tree f.depth nf) → f.depth ≤ s.limit → (ts mid : List Token) → ts ≡ (front ++ fs) ++ mid
    → (e : SyntaxRefusal) → reading.gathered s g close t f mid ≡ Err e → Stop s.limit s.room s.end atom ts e
unfolding reading.gathered
gathered_stops s sound inner some g close t front w at begins f fs nf pf df ts mid split e r =
    elim (err_then (expect s.end sign.Colon mid) _ e r) [
      | inl r1 ↦
          waits (front ++ fs) mid (colon_token ∷ name_token ∷ in_token ∷ (zeros ++ w.last ∷ [])) _ split
          (moved atom _ _ _ (simp (append_assoc) refl)
          (w.whole w.last _ _ (all_values t.line g colon_token name_token in_token (codes "x") fs zeros _ _ pf refl refl refl zero_expression) w.closed))
          (expect_err s.end sign.Colon mid e r1)
      | inr (a, ea, r1) ↦
          let (k, isk, signk) = expect_ok s.end sign.Colon mid a ea in
          let at_k : ts ≡ (front ++ (fs ++ k ∷ [])) ++ a = split ∙ ap (λ l. (front ++ fs) ++ l) isk ∙ simp (append_assoc) refl in
          elim (err_then (name_at s.end a) _ e r1) [
            | inl r2 ↦
                waits (front ++ (fs ++ k ∷ [])) a (name_token ∷ in_token ∷ (zeros ++ w.last ∷ [])) _ at_k
                (moved atom _ _ _ (simp (append_assoc) refl)
                (w.whole w.last _ _ (all_values t.line g k name_token in_token (codes "x") fs zeros _ _ pf signk refl refl zero_expression) w.closed))
                (name_err s.end a e r2)
            | inr (name, en, r2) ↦
                let (n, isn, named) = name_ok s.end a name en in
                let at_n : ts ≡ (front ++ (fs ++ k ∷ n ∷ [])) ++ name.1 = at_k ∙ ap (λ l. (front ++ (fs ++ k ∷ [])) ++ l) isn ∙ simp (append_assoc) refl in
                elim (err_then (expect s.end sign.In name.1) _ e r2) [
                  | inl r3 ↦ halted s.limit s.room s.end 1 atom expression (front ++ (fs ++ k ∷ n ∷ [])) name.1 ts in_token e
                      (at_source t.line g close front w k n in_token name.0 fs _ pf signk named refl) at_n (expect_err s.end sign.In name.1 e r3)
                  | inr (b, eb, r3) ↦
                      let (i, isi, signi) = expect_ok s.end sign.In name.1 b eb in
                      let at_i : ts ≡ ((front ++ (fs ++ k ∷ n ∷ [])) ++ i ∷ []) ++ b = at_n ∙ ap (λ l. (front ++ (fs ++ k ∷ n ∷ [])) ++ l) isi
                      ∙ simp (append_assoc) refl in
                      elim (err_then (s.inner b) _ e r3) [
                        | inl r4 ↦
                            lifted s.limit s.room (s.room - 1) s.end 1 atom expression ((front ++ (fs ++ k ∷ n ∷ [])) ++ i ∷ []) b ts e
                            (at_source t.line g close front w k n i name.0 fs _ pf signk named signi) (inside s.room some) at_i (inner b e r4)
                        | inr (x, ex, r4) ↦
                            let sx = sound b x ex in
                            conditioned_stops s sound inner some g close t front w at begins f fs nf pf df k n i name.0 x.0 sx.front ts x.1 sx.nest signk named
                            signi sx.produced sx.shallow
                            (at_i ∙ ap (λ l. ((front ++ (fs ++ k ∷ n ∷ [])) ++ i ∷ []) ++ l) sx.split ∙ simp (append_assoc) refl) (after sign.Bar x.1) refl e r4
                      ]
                ]
          ]
    ]

pub summed_stops : (s : Setting) → Sound s.limit (s.room - 1) expression s.inner → Stops s.limit (s.room - 1) s.end expression s.inner →
    (t : Token) (ts : List Token) (e : SyntaxRefusal) → sign_of t.kind ≡ sign.Sum → Raised 0 (t ∷ [])
    → reading.summed s t ts ≡ Err e → Stop s.limit s.room s.end atom (t ∷ ts) e
unfolding reading.summed
summed_stops s sound inner t ts e is flat r =
    elim (err_then (opened s sign.Open ts) _ e r) [
      | inl r1 ↦ opened_stops s atom sign.Open open_token (t ∷ []) (t ∷ ts) ts e refl
          (λ o sg. goes 1 atom (t ∷ o ∷ []) expression (at_body t.line gathering.Sum sign.Close (t ∷ o ∷ []) (in_sum t o is sg))) refl flat refl r1
      | inr (a, ea, r1) ↦
          let (o, iso, signo, some) = opened_ok s sign.Open ts a ea in
          let w = in_sum t o is signo in
          let at_o : t ∷ ts ≡ (t ∷ o ∷ []) ++ a = ap (λ l. t ∷ l) iso in
          elim (err_then (s.inner a) _ e r1) [
            | inl r2 ↦ lifted s.limit s.room (s.room - 1) s.end 1 atom expression (t ∷ o ∷ []) a (t ∷ ts) e
                (at_body t.line gathering.Sum sign.Close (t ∷ o ∷ []) w) (inside s.room some) at_o (inner a e r2)
            | inr (f, ef, r2) ↦
                let sf = sound a f ef in
                gathered_stops s sound inner some gathering.Sum sign.Close t (t ∷ o ∷ []) w refl (record { first = t; others = o ∷ []; is = refl }) f.0 sf.front
                sf.nest sf.produced sf.shallow (t ∷ ts) f.1
                (at_o ∙ ap (λ l. t ∷ o ∷ l) sf.split) e r2
          ]
    ]

-- ---- sets, whose parts so far stand in fs

abbrev PartsStop : Setting → Token → (List Tree → ℕ → List Token → Answer (Formed × List Token)) → Type 0
PartsStop s t more = (fs us ts : List Token) (trees : List Tree) (deepest nest : ℕ) (e : SyntaxRefusal) →
    AreParts fs (record { trees = trees; depth = deepest; nest = nest }) → deepest ≤ s.limit → ts ≡ (t ∷ fs) ++ us → more trees deepest us ≡ Err e
    → Stop s.limit s.room s.end atom ts e

-- behind the parts so far the brace could close
parts_wait : (s : Setting) (t : Token) → sign_of t.kind ≡ sign.OpenBrace → (fs us ts : List Token) (trees : List Tree) (deepest nest : ℕ) (e : SyntaxRefusal) →
    AreParts fs (record { trees = trees; depth = deepest; nest = nest }) → ts ≡ (t ∷ fs) ++ us
    → e ≡ Expected (offset s.end us) → Stop s.limit s.room s.end atom ts e
parts_wait s t is fs us ts trees deepest nest e are split same =
    waits (t ∷ fs) us (close_brace_token ∷ []) _ split (a_set t close_brace_token fs _ is are refl) same

parts_by_stops : (s : Setting) → Sound s.limit (s.room - 1) expression s.inner → Stops s.limit (s.room - 1) s.end expression s.inner → 0 < s.room →
    (t : Token) → sign_of t.kind ≡ sign.OpenBrace → (more : List Tree → ℕ → List Token → Answer (Formed × List Token))
    → PartsStop s t more → (fs us ts : List Token) (trees : List Tree) (deepest nest : ℕ) (u : Token) (e : SyntaxRefusal) →
    AreParts fs (record { trees = trees; depth = deepest; nest = nest }) → deepest ≤ s.limit → ts ≡ (t ∷ fs) ++ u ∷ us
    → (sg : Sign) → sign_of u.kind ≡ sg → reading.parts_by s t trees deepest u us sg more ≡ Err e → Stop s.limit s.room s.end atom ts e
parts_by_stops s sound inner some t is more go fs us ts trees deepest nest u e are shallow split sign.CloseBrace signu r =
    made_rest_deep s.limit s.room s.end atom ts (t ∷ (fs ++ u ∷ [])) us (tree.Set t.line trees) deepest (nest + 1) t.start e r shallow refl
    (split ∙ simp (append_assoc) refl) (a_set t u fs _ is are signu)
parts_by_stops s sound inner some t is more go fs us ts trees deepest nest u e are shallow split sign.Comma signu r =
    let at_u : ts ≡ ((t ∷ fs) ++ u ∷ []) ++ us = split ∙ sym (append_assoc (t ∷ fs) (u ∷ []) us) in
    elim (err_then (s.inner us) _ e r) [
      | inl r1 ↦ lifted s.limit s.room (s.room - 1) s.end 1 atom expression ((t ∷ fs) ++ u ∷ []) us ts e (at_next_part t u fs _ is are signu)
          (inside s.room some) at_u (inner us e r1)
      | inr (x, ex, r1) ↦
          let sx = sound us x ex in
          let dx = sx.shallow in
          let longer = more_parts u fs sx.front (record { trees = trees; depth = deepest; nest = nest }) _ are signu sx.produced in
          go (fs ++ u ∷ sx.front) x.1 ts (trees ++ x.0.tree ∷ []) (max deepest x.0.depth) (max nest sx.nest) e longer (omega (arith, shallow, dx))
          (at_u ∙ ap (λ l. ((t ∷ fs) ++ u ∷ []) ++ l) sx.split ∙ simp (append_assoc) refl) r1
    ]
parts_by_stops s sound inner some t is more go fs us ts trees deepest nest u e are shallow split _ signu r =
    parts_wait s t is fs (u ∷ us) ts trees deepest nest e are split (same_err (Expected u.start) e r)

parts_stop : (s : Setting) → Sound s.limit (s.room - 1) expression s.inner → Stops s.limit (s.room - 1) s.end expression s.inner → 0 < s.room →
    (n : ℕ) (t : Token) → sign_of t.kind ≡ sign.OpenBrace → PartsStop s t (λ trees deepest ts. reading.parts s n t trees deepest ts)
unfolding reading.parts
parts_stop s sound inner some zero t is fs us ts trees deepest nest e are shallow split r =
    parts_wait s t is fs us ts trees deepest nest e are split (same_err (Expected (offset s.end us)) e r)
parts_stop s sound inner some (suc n) t is fs [] ts trees deepest nest e are shallow split r =
    parts_wait s t is fs [] ts trees deepest nest e are split (same_err (Expected s.end) e r)
parts_stop s sound inner some (suc n) t is fs (u ∷ us) ts trees deepest nest e are shallow split r =
    parts_by_stops s sound inner some t is (λ trees deepest rest. reading.parts s n t trees deepest rest) (parts_stop s sound inner some n t is) fs us ts trees
    deepest nest u e are shallow split (sign_of u.kind) refl r

behind_part_stops : (s : Setting) → Sound s.limit (s.room - 1) expression s.inner → Stops s.limit (s.room - 1) s.end expression s.inner → 0 < s.room →
    (t : Token) → sign_of t.kind ≡ sign.OpenBrace → (f : Formed) (fs us ts : List Token) (nest : ℕ)
    → Produces expression fs (form f.tree f.depth nest) → f.depth ≤ s.limit → ts ≡ (t ∷ fs) ++ us → (e : SyntaxRefusal) (sg : Sign) →
    reading.behind_part s t f us sg ≡ Err e → Stop s.limit s.room s.end atom ts e
unfolding reading.behind_part
behind_part_stops s sound inner some t is f fs us ts nest p shallow split e sign.Colon r =
    gathered_stops s sound inner some gathering.Union sign.CloseBrace t (t ∷ []) (in_braces t is) refl (record { first = t; others = []; is = refl }) f fs nest
    p shallow ts us split e r
behind_part_stops s sound inner some t is f fs us ts nest p shallow split e _ r =
    parts_stop s sound inner some (length us) t is fs us ts (f.tree ∷ []) f.depth nest e (one_part fs (form f.tree f.depth nest) p) shallow split r

braced_stops : (s : Setting) → 0 < s.limit → Sound s.limit (s.room - 1) expression s.inner → Stops s.limit (s.room - 1) s.end expression s.inner → 0 < s.room →
    (t : Token) (ts : List Token) → sign_of t.kind ≡ sign.OpenBrace → (o : Option (List Token))
    → (e : SyntaxRefusal) → reading.braced s t ts o ≡ Err e → Stop s.limit s.room s.end atom (t ∷ ts) e
unfolding reading.braced
braced_stops s positive sound inner some t ts is (Some rest) e r =
    let (over, same) = made_err s.limit t.start (tree.Set t.line []) 0 e (rest_err rest (made s.limit t.start (tree.Set t.line []) 0) e r) in
    absurd (omega (arith, over, positive))
braced_stops s positive sound inner some t ts is None e r =
    elim (err_then (s.inner ts) _ e r) [
      | inl r1 ↦ lifted s.limit s.room (s.room - 1) s.end 1 atom expression (t ∷ []) ts (t ∷ ts) e (at_first_part t is) (inside s.room some) refl
          (inner ts e r1)
      | inr (f, ef, r1) ↦
          let sf = sound ts f ef in
          behind_part_stops s sound inner some t is f.0 sf.front f.1 (t ∷ ts) sf.nest sf.produced sf.shallow (ap (λ l. t ∷ l) sf.split) e (reading.sign_at f.1)
          r1
    ]

parenthesised_stops : (s : Setting) → Sound s.limit (s.room - 1) expression s.inner → Stops s.limit (s.room - 1) s.end expression s.inner → 0 < s.room →
    (t : Token) (ts : List Token) → sign_of t.kind ≡ sign.Open
    → (e : SyntaxRefusal) → reading.parenthesised s ts ≡ Err e → Stop s.limit s.room s.end atom (t ∷ ts) e
unfolding reading.parenthesised
parenthesised_stops s sound inner some t ts is e r =
    elim (err_then (s.inner ts) _ e r) [
      | inl r1 ↦ lifted s.limit s.room (s.room - 1) s.end 1 atom expression (t ∷ []) ts (t ∷ ts) e (in_parenthesis t is) (inside s.room some) refl
          (inner ts e r1)
      | inr (x, ex, r1) ↦
          let sx = sound ts x ex in
          elim (err_then (expect s.end sign.Close x.1) _ e r1) [
            | inl r2 ↦ waits (t ∷ sx.front) x.1 (close_token ∷ []) _ (ap (λ l. t ∷ l) sx.split) (in_parentheses t close_token sx.front _ is sx.produced refl)
                (expect_err s.end sign.Close x.1 e r2)
            | inr (rest, er, r2) ↦ absurd (given_not_refused (x.0, rest) e r2)
          ]
    ]

-- at a bracket one too many
no_bracket : (s : Setting) (t : Token) (ts : List Token) (m : Nonterminal) (e : SyntaxRefusal) → (s.room == 0) ≡ true → Context 1 atom (t ∷ []) m →
    opening (sign_of t.kind) ≡ 1 → e ≡ TooNested t.start → Stop s.limit s.room s.end atom (t ∷ ts) e
no_bracket s t ts m e none c bracket same =
    let (v, q, d) = c.admits.whole zeros _ (a_zero m) in
    let P : ℕ → Type 0 = λ j. Raised j [] in
    crowded [] ts (zeros ++ c.admits.behind) t v refl bracket (subst P (sym (no_room s.room none)) (nowhere atom).raised) q same

-- what may stand here may begin with a number
other_stops : (s : Setting) (n : Nonterminal) (ts : List Token) (e : SyntaxRefusal) → e ≡ Expected (offset s.end ts) → Stop s.limit s.room s.end n ts e
other_stops s n ts e same = waits [] ts zeros _ refl (a_zero n) same

bracketed_stops : (s : Setting) → 0 < s.limit → Sound s.limit (s.room - 1) expression s.inner → Stops s.limit (s.room - 1) s.end expression s.inner →
    (t : Token) (ts : List Token) (e : SyntaxRefusal) (sg : Sign) → sign_of t.kind ≡ sg
    → reading.bracketed s sg t ts ≡ Err e → Stop s.limit s.room s.end atom (t ∷ ts) e
unfolding reading.bracketed
bracketed_stops s positive sound inner t ts e sign.Open is r =
    elim (room_err (s.room == 0) t.start (reading.parenthesised s ts) e r) [
      | inl (none, same) ↦ no_bracket s t ts expression e none (in_parenthesis t is) (ap opening is) same
      | inr (some, r1) ↦ parenthesised_stops s sound inner (some_room s.room some) t ts is e r1
    ]
bracketed_stops s positive sound inner t ts e sign.OpenBrace is r =
    elim (room_err (s.room == 0) t.start (reading.braced s t ts (after sign.CloseBrace ts)) e r) [
      | inl (none, same) ↦ no_bracket s t ts expression e none (at_first_part t is) (ap opening is) same
      | inr (some, r1) ↦ braced_stops s positive sound inner (some_room s.room some) t ts is (after sign.CloseBrace ts) e r1
    ]
bracketed_stops s positive sound inner t ts e sign.Count is r = called_stops s sound inner _ t ts e (rw is refl) (flat_word t sign.Count is (refl, refl)) r
bracketed_stops s positive sound inner t ts e sign.Only is r = called_stops s sound inner _ t ts e (rw is refl) (flat_word t sign.Only is (refl, refl)) r
bracketed_stops s positive sound inner t ts e sign.Min is r = called_stops s sound inner _ t ts e (rw is refl) (flat_word t sign.Min is (refl, refl)) r
bracketed_stops s positive sound inner t ts e sign.Max is r = called_stops s sound inner _ t ts e (rw is refl) (flat_word t sign.Max is (refl, refl)) r
bracketed_stops s positive sound inner t ts e sign.Sum is r = summed_stops s sound inner t ts e is (flat_word t sign.Sum is (refl, refl)) r
bracketed_stops s positive sound inner t ts e sign.Any is r = tested_stops s sound inner _ t ts e (rw is refl) (flat_word t sign.Any is (refl, refl)) r
bracketed_stops s positive sound inner t ts e sign.All is r = tested_stops s sound inner _ t ts e (rw is refl) (flat_word t sign.All is (refl, refl)) r
bracketed_stops s positive sound inner t ts e _ is r = other_stops s atom (t ∷ ts) e (same_err (Expected t.start) e r)

leaf_or_stops : (s : Setting) → 0 < s.limit → Sound s.limit (s.room - 1) expression s.inner → Stops s.limit (s.room - 1) s.end expression s.inner →
    (t : Token) (ts : List Token) (e : SyntaxRefusal) (o : Option Tree) → reading.leaf_or s o t ts ≡ Err e
    → Stop s.limit s.room s.end atom (t ∷ ts) e
leaf_or_stops s positive sound inner t ts e (Some form) r = absurd (given_not_refused (record { tree = form; depth = 1 }, ts) e r)
leaf_or_stops s positive sound inner t ts e None r = bracketed_stops s positive sound inner t ts e (sign_of t.kind) refl r

pub atom_stops : (s : Setting) → 0 < s.limit → Sound s.limit (s.room - 1) expression s.inner → Stops s.limit (s.room - 1) s.end expression s.inner →
    Stops s.limit s.room s.end atom (reading.atom s)
unfolding reading.atom
atom_stops s positive sound inner [] e r = other_stops s atom [] e (same_err (Expected s.end) e r)
atom_stops s positive sound inner (t ∷ ts) e r = leaf_or_stops s positive sound inner t ts e (leaf t.line t.kind) r

-- ---- steps

dot_err : {A : Type 0} (b : Bool) (x y : Answer A) (e : SyntaxRefusal) → ◌≡◌ {A = Answer A} (if b then x else y) (Err e) →
    ((b ≡ true) × (◌≡◌ {A = Answer A} x (Err e))) ⊎ ((b ≡ false) × (◌≡◌ {A = Answer A} y (Err e)))
dot_err true x y e h = inl (refl, h)
dot_err false x y e h = inr (refl, h)

-- behind a dot a name could stand
dot_waits : (limit room end : ℕ) (h d : Token) (hs ts rest : List Token) (f : Form) (e : SyntaxRefusal) → Produces postfix (h ∷ hs) f →
    sign_of d.kind ≡ sign.Dot → ts ≡ (h ∷ hs) ++ d ∷ rest → e ≡ Expected (offset end rest) → Stop limit room end postfix ts e
dot_waits limit room end h d hs ts rest f e p dot split same =
    waits ((h ∷ hs) ++ d ∷ []) rest (name_token ∷ []) _ (split ∙ sym (append_assoc (h ∷ hs) (d ∷ []) rest))
    (moved postfix _ _ _ (simp (append_assoc) refl) (a_child d name_token (codes "x") (h ∷ hs) f p dot refl)) same

steps_stop : (limit room end at : ℕ) (h : Token) (hs : List Token) (f : Formed) (nest : ℕ) → h.start ≡ at →
    Produces postfix (h ∷ hs) (form f.tree f.depth nest) → f.depth ≤ limit → (us ts : List Token) (e : SyntaxRefusal) → ts ≡ (h ∷ hs) ++ us
    → reading.steps limit end at h.line f us ≡ Err e → Stop limit room end postfix ts e
unfolding reading.steps
steps_stop limit room end at h hs f nest here p shallow [] ts e split r = absurd (given_not_refused (f, []) e r)
steps_stop limit room end at h hs f nest here p shallow (d ∷ []) ts e split r =
    elim (dot_err (same_sign (sign_of d.kind) sign.Dot) (Err (Expected end)) (Ok (f, d ∷ [])) e r) [
      | inl (test, r1) ↦ dot_waits limit room end h d hs ts [] _ e p (same_is (sign_of d.kind) sign.Dot test) split (same_err (Expected end) e r1)
      | inr (test, r1) ↦ absurd (given_not_refused (f, d ∷ []) e r1)
    ]
steps_stop limit room end at h hs f nest here p shallow (d ∷ t ∷ us) ts e split r =
    elim (dot_err (same_sign (sign_of d.kind) sign.Dot)
    (reading.or_expected t.start (reading.step_of h.line f.tree t.kind) >>= (λ form.
    made limit at form f.depth >>= (λ g. reading.steps limit end at h.line g us))) (Ok (f, d ∷ t ∷ us)) e r) [
      | inl (test, r1) ↦
          let dot = same_is (sign_of d.kind) sign.Dot test in
          elim (err_then (reading.or_expected t.start (reading.step_of h.line f.tree t.kind))
          (λ form. made limit at form f.depth >>= (λ g. reading.steps limit end at h.line g us)) e r1) [
            | inl r2 ↦ dot_waits limit room end h d hs ts (t ∷ us) _ e p dot split (expected_err t.start (reading.step_of h.line f.tree t.kind) e r2).1
            | inr (step, found, r2) ↦
                let q = step_produced h d t hs f nest step p dot (expected_ok t.start (reading.step_of h.line f.tree t.kind) step found) in
                let longer : ts ≡ ((h ∷ hs) ++ d ∷ t ∷ []) ++ us = split ∙ sym (append_assoc (h ∷ hs) (d ∷ t ∷ []) us) in
                elim (err_then (made limit at step f.depth) (λ g. reading.steps limit end at h.line g us) e r2) [
                  | inl r3 ↦ too_deep limit room end postfix ts ((h ∷ hs) ++ d ∷ t ∷ []) us step f.depth nest at e r3 shallow (sym here) longer q
                  | inr (g, madeg, r3) ↦
                      let (fits, is) = made_ok limit at step f.depth g madeg in
                      let Q : Formed → Type 0 = λ z. Produces postfix ((h ∷ hs) ++ d ∷ t ∷ []) (form z.tree z.depth nest) in
                      let D : Formed → Type 0 = λ z. z.depth ≤ limit in
                      steps_stop limit room end at h (hs ++ d ∷ t ∷ []) g nest here (subst Q (sym is) q) (subst D (sym is) (omega (arith, fits))) us ts e longer
                      r3
                ]
          ]
      | inr (test, r1) ↦ absurd (given_not_refused (f, d ∷ t ∷ us) e r1)
    ]

postfix_stops : (s : Setting) → 0 < s.limit → Sound s.limit (s.room - 1) expression s.inner → Stops s.limit (s.room - 1) s.end expression s.inner →
    Stops s.limit s.room s.end postfix (reading.postfix s)
unfolding reading.postfix
postfix_stops s positive sound inner ts e r =
    elim (err_then (reading.atom s ts) (λ x. reading.steps s.limit s.end (offset s.end ts) (line_of ts) x.0 x.1) e r) [
      | inl r1 ↦ lifted s.limit s.room s.room s.end 0 postfix atom [] ts ts e at_atom (omega arith) refl (atom_stops s positive sound inner ts e r1)
      | inr (x, ex, r1) ↦
          let sx = atom_sound s positive sound ts x ex in
          let b = nonempty atom sx.front (form x.0.tree x.0.depth sx.nest) sx.produced in
          let whole : ts ≡ (b.first ∷ b.others) ++ x.1 = sx.split ∙ ap (λ l. l ++ x.1) b.is in
          let P : List Token → Type 0 = λ l. Produces postfix l (form x.0.tree x.0.depth sx.nest) in
          let E : ℕ → Type 0 = λ line. reading.steps s.limit s.end (offset s.end ts) line x.0 x.1 ≡ Err e in
          steps_stop s.limit s.room s.end (offset s.end ts) b.first b.others x.0 sx.nest (sym (ap (offset s.end) whole))
          (subst P b.is (no_step sx.front (form x.0.tree x.0.depth sx.nest) sx.produced)) sx.shallow x.1 ts e whole
          (subst E (ap line_of whole) r1)
    ]

-- ---- prefixes

under_stops : (limit room end : ℕ) (p : Prefix) (x : Formed) (rest : List Token) (ts : List Token) (e : SyntaxRefusal) →
    reading.under_prefixes limit p (reading.prefixes p ts) (Ok x) ≡ Err e
    → Stands limit room (unprefixed p) (reading.behind_prefixes p ts) x rest → Stop limit room end (prefixing p) ts e
unfolding reading.under_prefixes reading.prefixes reading.behind_prefixes
under_stops limit room end p x rest [] e r s = absurd (formed_not_refused x e r)
under_stops limit room end p x rest (t ∷ ts) e r s =
    elim (cases_Bool (same_sign (sign_of t.kind) (prefix_sign p))) [
      | inl test ↦
          let r' : (reading.under_prefixes limit p (reading.prefixes p ts) (Ok x) >>= (λ g. made limit t.start (prefixed p t.line g.tree) g.depth)) ≡ Err e =
          sym (rw test refl) ∙ r in
          let P : Bool → Type 0 = λ b. Stands limit room (unprefixed p) (if b then reading.behind_prefixes p ts else t ∷ ts) x rest in
          let s' : Stands limit room (unprefixed p) (reading.behind_prefixes p ts) x rest = subst P test s in
          let sign = same_is (sign_of t.kind) (prefix_sign p) test in
          elim (err_then (reading.under_prefixes limit p (reading.prefixes p ts) (Ok x)) (λ g. made limit t.start (prefixed p t.line g.tree) g.depth) e r') [
            | inl r1 ↦ lifted limit room room end 0 (prefixing p) (prefixing p) (t ∷ []) ts (t ∷ ts) e (behind_prefix p t sign) (omega arith) refl
                (under_stops limit room end p x rest ts e r1 s')
            | inr (g, eg, r1) ↦
                let sg = under_sound limit room p x rest ts g eg s' in
                too_deep limit room end (prefixing p) (t ∷ ts) (t ∷ sg.front) rest (prefixed p t.line g.tree) g.depth sg.nest t.start e r1 sg.shallow refl
                (ap (λ l. t ∷ l) sg.split)
                (a_prefix p t sg.front (form g.tree g.depth sg.nest) sign sg.produced)
          ]
      | inr test ↦ (let r' : ◌≡◌ {A = Answer Formed} (Ok x) (Err e) = sym (rw test refl) ∙ r in absurd (formed_not_refused x e r'))
    ]

-- a reader behind prefixes refuses
prefixes_kept : (limit room end : ℕ) (p : Prefix) (ts : List Token) (e : SyntaxRefusal) → Stop limit room end (unprefixed p) (reading.behind_prefixes p ts) e →
    Stop limit room end (prefixing p) ts e
unfolding reading.behind_prefixes
prefixes_kept limit room end p [] e s = lifted limit room room end 0 (prefixing p) (unprefixed p) [] [] [] e (without_prefix p) (omega arith) refl s
prefixes_kept limit room end p (t ∷ ts) e s =
    elim (cases_Bool (same_sign (sign_of t.kind) (prefix_sign p))) [
      | inl test ↦
          let P : Bool → Type 0 = λ b. Stop limit room end (unprefixed p) (if b then reading.behind_prefixes p ts else t ∷ ts) e in
          lifted limit room room end 0 (prefixing p) (prefixing p) (t ∷ []) ts (t ∷ ts) e (behind_prefix p t (same_is (sign_of t.kind) (prefix_sign p) test))
          (omega arith) refl (prefixes_kept limit room end p ts e (subst P test s))
      | inr test ↦
          let P : Bool → Type 0 = λ b. Stop limit room end (unprefixed p) (if b then reading.behind_prefixes p ts else t ∷ ts) e in
          lifted limit room room end 0 (prefixing p) (unprefixed p) [] (t ∷ ts) (t ∷ ts) e (without_prefix p) (omega arith) refl (subst P test s)
    ]

prefixes_stop : (s : Setting) (p : Prefix) (operand : Reader) → Sound s.limit s.room (unprefixed p) operand →
    Stops s.limit s.room s.end (unprefixed p) operand → Stops s.limit s.room s.end (prefixing p) (reading.with_prefixes s p operand)
unfolding reading.with_prefixes
prefixes_stop s p operand sound inner ts e r =
    elim (err_then (operand (reading.behind_prefixes p ts)) (λ x. with_rest x.1 (reading.under_prefixes s.limit p (reading.prefixes p ts) (Ok x.0))) e r) [
      | inl r1 ↦ prefixes_kept s.limit s.room s.end p ts e (inner (reading.behind_prefixes p ts) e r1)
      | inr (x, ex, r1) ↦
          under_stops s.limit s.room s.end p x.0 x.1 ts e (rest_err x.1 (reading.under_prefixes s.limit p (reading.prefixes p ts) (Ok x.0)) e r1)
          (sound (reading.behind_prefixes p ts) x ex)
    ]

-- ---- levels of operators

abbrev MoreStop : Setting → Level → ℕ → ℕ → (Formed → List Token → Answer (Formed × List Token)) → Type 0
MoreStop s l at line more = (h : Token) (hs : List Token) (f : Formed) (nest : ℕ) → h.start ≡ at → h.line ≡ line →
    Produces (before l) (h ∷ hs) (form f.tree f.depth nest) → f.depth ≤ s.limit → nest ≤ s.room
    → (us ts : List Token) (e : SyntaxRefusal) → ts ≡ (h ∷ hs) ++ us → more f us ≡ Err e → Stop s.limit s.room s.end (chain l) ts e

operation_stops : (s : Setting) (l : Level) (p : Reader) → Sound s.limit s.room (operand l) p → Stops s.limit s.room s.end (operand l) p →
    (at : ℕ) (h o : Token) (hs : List Token) (f : Formed) (nest : ℕ) (op : Operator) → h.start ≡ at
    → Produces (before l) (h ∷ hs) (form f.tree f.depth nest) → f.depth ≤ s.limit → operator_among l (sign_of o.kind) ≡ Some op →
    (us ts : List Token) (e : SyntaxRefusal) → ts ≡ (h ∷ hs) ++ o ∷ us
    → reading.operand_behind s p at h.line op f us ≡ Err e → Stop s.limit s.room s.end (chain l) ts e
operation_stops s l p sound inner at h o hs f nest op here pf shallow is us ts e split r =
    let at_o : ts ≡ ((h ∷ hs) ++ o ∷ []) ++ us = split ∙ sym (append_assoc (h ∷ hs) (o ∷ []) us) in
    elim (err_then (p us) (λ x. with_rest x.1 (reading.operation s.limit at h.line op f x.0)) e r) [
      | inl r1 ↦ lifted s.limit s.room s.room s.end 0 (chain l) (operand l) ((h ∷ hs) ++ o ∷ []) us ts e (behind_operator l op o (h ∷ hs) _ pf is) (omega arith)
          at_o (inner us e r1)
      | inr (x, ex, r1) ↦
          let sx = sound us x ex in
          let dx = sx.shallow in
          made_rest_deep s.limit s.room s.end (chain l) ts ((h ∷ hs) ++ o ∷ sx.front) x.1 (tree.Binary h.line op f.tree x.0.tree) (max f.depth x.0.depth)
          (max nest sx.nest) at e r1 (omega (arith, shallow, dx)) (sym here)
          (at_o ∙ ap (λ l. ((h ∷ hs) ++ o ∷ []) ++ l) sx.split ∙ simp (append_assoc) refl)
          (an_operation l op o (h ∷ hs) sx.front (form f.tree f.depth nest) (form x.0.tree x.0.depth sx.nest) pf is sx.produced)
    ]

go_on_stops : (s : Setting) (l : Level) (at line : ℕ) (more : Formed → List Token → Answer (Formed × List Token)) → MoreStop s l at line more → (b : Bool) →
    repeats l ≡ b → (h : Token) (hs us : List Token) → h.start ≡ at → h.line ≡ line
    → (r : Answer (Formed × List Token)) →
    ((z : Formed × List Token) → ◌≡◌ {A = Answer (Formed × List Token)} r (Ok z) → Stands s.limit s.room (chain l) (h ∷ us) z.0 z.1)
    → ((d : SyntaxRefusal) → ◌≡◌ {A = Answer (Formed × List Token)} r (Err d) → Stop s.limit s.room s.end (chain l) (h ∷ us) d)
    → (e : SyntaxRefusal) → ◌≡◌ {A = Answer (Formed × List Token)} (reading.go_on b r more) (Err e) → Stop s.limit s.room s.end (chain l) (h ∷ us) e
go_on_stops s l at line more go true again h hs us here lined r told refused e q =
    elim (err_then r (λ x. more x.0 x.1) e q) [
      | inl q1 ↦ refused e q1
      | inr (z, rz, q1) ↦
          let sz = told z rz in
          let b = nonempty (chain l) sz.front (form z.0.tree z.0.depth sz.nest) sz.produced in
          let whole : h ∷ us ≡ (b.first ∷ b.others) ++ z.1 = sz.split ∙ ap (λ l. l ++ z.1) b.is in
          let first : h.line ≡ b.first.line = ap line_of whole in
          let start : h.start ≡ b.first.start = ap (offset s.end) whole in
          let Q : List Token → Type 0 = λ k. Produces (before l) k (form z.0.tree z.0.depth sz.nest) in
          go b.first b.others z.0 sz.nest (sym start ∙ here) (sym first ∙ lined)
          (subst Q b.is (chain_before l sz.front (form z.0.tree z.0.depth sz.nest) again sz.produced)) sz.shallow sz.narrow z.1 (h ∷ us) e whole q1
    ]
go_on_stops s l at line more go false again h hs us here lined r told refused e q = refused e q

more_by_stops : (s : Setting) (l : Level) (p : Reader) → Sound s.limit s.room (operand l) p → Stops s.limit s.room s.end (operand l) p →
    (at line : ℕ) (more : Formed → List Token → Answer (Formed × List Token)) → MoreStop s l at line more
    → (h : Token) (hs : List Token) (f : Formed) (nest : ℕ) → h.start ≡ at → h.line ≡ line → Produces (before l) (h ∷ hs) (form f.tree f.depth nest) →
    f.depth ≤ s.limit → nest ≤ s.room → (o : Token) (us ts : List Token) (e : SyntaxRefusal)
    → ts ≡ (h ∷ hs) ++ o ∷ us → (found : Option Operator) → operator_among l (sign_of o.kind) ≡ found →
    reading.more_by s l p at line f o us found more ≡ Err e → Stop s.limit s.room s.end (chain l) ts e
more_by_stops s l p sound inner at line more go h hs f nest here lined pf shallow narrow o us ts e split None is r = absurd (given_not_refused (f, o ∷ us) e r)
more_by_stops s l p sound inner at line more go h hs f nest here lined pf shallow narrow o us ts e split (Some op) is r =
    let P : List Token → Type 0 = λ k. Stop s.limit s.room s.end (chain l) k e in
    subst P (sym split)
    (go_on_stops s l at line more go (repeats l) refl h hs (hs ++ o ∷ us) here lined (reading.operand_behind s p at line op f us)
    (λ z q. let E : ℕ → Type 0 = λ n. reading.operand_behind s p at n op f us ≡ Ok z in
    operation_sound s l p sound at h o hs f nest op pf narrow is us z (subst E (sym lined) q))
    (λ d q. let E : ℕ → Type 0 = λ n. reading.operand_behind s p at n op f us ≡ Err d in
    operation_stops s l p sound inner at h o hs f nest op here pf shallow is us (h ∷ (hs ++ o ∷ us)) d refl (subst E (sym lined) q))
    e r)

more_stops : (s : Setting) (l : Level) (p : Reader) → Sound s.limit s.room (operand l) p → Stops s.limit s.room s.end (operand l) p → (n at line : ℕ) →
    MoreStop s l at line (λ f us. reading.more s l p n at line f us)
unfolding reading.more
more_stops s l p sound inner zero at line h hs f nest here lined pf shallow narrow us ts e split r = absurd (given_not_refused (f, us) e r)
more_stops s l p sound inner (suc n) at line h hs f nest here lined pf shallow narrow [] ts e split r = absurd (given_not_refused (f, []) e r)
more_stops s l p sound inner (suc n) at line h hs f nest here lined pf shallow narrow (o ∷ us) ts e split r =
    more_by_stops s l p sound inner at line (λ f us. reading.more s l p n at line f us) (more_stops s l p sound inner n at line) h hs f nest here lined pf
    shallow narrow o us ts e split (operator_among l (sign_of o.kind)) refl r

chain_stops : (s : Setting) (l : Level) (p : Reader) → Sound s.limit s.room (operand l) p → Stops s.limit s.room s.end (operand l) p →
    Stops s.limit s.room s.end (chain l) (reading.chain s l p)
unfolding reading.chain
chain_stops s l p sound inner ts e r =
    elim (err_then (p ts) (λ x. reading.more s l p (length x.1) (offset s.end ts) (line_of ts) x.0 x.1) e r) [
      | inl r1 ↦ lifted s.limit s.room s.room s.end 0 (chain l) (operand l) [] ts ts e (at_operand l) (omega arith) refl (inner ts e r1)
      | inr (x, ex, r1) ↦
          let sx = sound ts x ex in
          let b = nonempty (operand l) sx.front (form x.0.tree x.0.depth sx.nest) sx.produced in
          let whole : ts ≡ (b.first ∷ b.others) ++ x.1 = sx.split ∙ ap (λ l. l ++ x.1) b.is in
          let Q : List Token → Type 0 = λ k. Produces (before l) k (form x.0.tree x.0.depth sx.nest) in
          more_stops s l p sound inner (length x.1) (offset s.end ts) (line_of ts) b.first b.others x.0 sx.nest (sym (ap (offset s.end) whole))
          (sym (ap line_of whole))
          (subst Q b.is (operand_before l sx.front (form x.0.tree x.0.depth sx.nest) sx.produced)) sx.shallow sx.narrow x.1 ts e whole r1
    ]

-- ---- all of it

record Meets (limit room end : ℕ) (n : Nonterminal) (p : Reader) : Type 0 where
  sound : Sound limit room n p
  stops : Stops limit room end n p

chain_meets : (s : Setting) (l : Level) (p : Reader) → Meets s.limit s.room s.end (operand l) p → Meets s.limit s.room s.end (chain l) (reading.chain s l p)
chain_meets s l p m = record { sound = chain_sound s l p m.sound; stops = chain_stops s l p m.sound m.stops }

prefixes_meet : (s : Setting) (p : Prefix) (operand : Reader) → Meets s.limit s.room s.end (unprefixed p) operand →
    Meets s.limit s.room s.end (prefixing p) (reading.with_prefixes s p operand)
prefixes_meet s p operand m = record { sound = prefixes_sound s p operand m.sound; stops = prefixes_stop s p operand m.sound m.stops }

disjunction_meets : (s : Setting) → 0 < s.limit → Meets s.limit (s.room - 1) s.end expression s.inner →
    Meets s.limit s.room s.end (chain level.Or) (reading.disjunction s)
unfolding reading.disjunction reading.conjunction reading.negation reading.comparison reading.sets reading.sums reading.products reading.unary
disjunction_meets s positive m =
    chain_meets s level.Or _
    (chain_meets s level.And _
    (prefixes_meet s prefix.Not _ (chain_meets s level.Comparison _ (chain_meets s level.Sets _ (chain_meets s level.Sums _ (chain_meets s level.Products _
    (prefixes_meet s prefix.Minus _ (record { sound = postfix_sound s positive m.sound; stops = postfix_stops s positive m.sound m.stops }))))))))

or_stops : (limit room end : ℕ) (ts : List Token) (e : SyntaxRefusal) → Stop limit room end (chain level.Or) ts e → Stop limit room end expression ts e
or_stops limit room end ts e s = lifted limit room room end 0 expression (chain level.Or) [] ts ts e in_choice_no (omega arith) refl s

expression_stops : (s : Setting) → 0 < s.limit → Meets s.limit (s.room - 1) s.end expression s.inner → Meets s.limit s.room s.end expression s.nested →
    Stops s.limit s.room s.end expression (reading.expression s)
unfolding reading.expression
expression_stops s positive inner nested [] e r = or_stops s.limit s.room s.end [] e ((disjunction_meets s positive inner).stops [] e r)
expression_stops s positive inner nested (t ∷ ts) e r =
    elim (dot_err (same_sign (sign_of t.kind) sign.If) (reading.chosen s t ts) (reading.disjunction s (t ∷ ts)) e r) [
      | inl (test, r1) ↦ chosen_stops s nested.sound nested.stops t ts e (same_is (sign_of t.kind) sign.If test) r1
      | inr (test, r1) ↦ or_stops s.limit s.room s.end (t ∷ ts) e ((disjunction_meets s positive inner).stops (t ∷ ts) e r1)
    ]

pub within_stops : (limit end : ℕ) → 0 < limit → (turns room : ℕ) → Stops limit room end expression (reading.within limit end turns room)
unfolding reading.within
within_stops limit end positive zero room ts e r = waits [] ts zeros _ refl zero_expression (same_err (Expected (offset end ts)) e r)
within_stops limit end positive (suc turns) room ts e r =
    expression_stops (reading.setting limit end turns room) positive
    (record { sound = within_sound limit end positive turns (room - 1); stops = within_stops limit end positive turns (room - 1) })
    (record { sound = within_sound limit end positive turns room; stops = within_stops limit end positive turns room }) ts e r

pub formula_stops : (limit room end : ℕ) → 0 < limit → Stops limit room end expression (reading.formula_at limit room end)
unfolding reading.formula_at
formula_stops limit room end positive ts e r = within_stops limit end positive (length ts + 1) room ts e r

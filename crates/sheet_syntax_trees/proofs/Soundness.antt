-- What the readers answer stands there by the productions.
use Rattle.std.proofs.Common.{◌≡◌, ℕ, zero, suc, ◌+◌, ◌-◌, ◌<◌, ◌≤◌, max, List, [], ◌∷◌, ◌++◌, length, true, false, Some, None, Ok, Err, refl, sym, ap, ◌∙◌}
use Rattle.std.proofs.Common.{subst, arith, append_assoc, append-nil, inl, inr}
use Rattle.std.specs.Prelude.{Bool, Option, if◌then◌else◌, ◌==◌, ◌⊎◌}
use Rattle.std.proofs.lemmas.Bool.{cases_Bool}
use Rattle.sheet_syntax_trees.specs.declared.token.Token.{Token}
use Rattle.sheet_syntax_trees.specs.declared.token.TokenKind.{TokenKind}
use Rattle.sheet_syntax_trees.specs.declared.token.TokenKind.TheVariants as kind
use Rattle.sheet_syntax_trees.specs.declared.token.SyntaxRefusal.TheVariants.{Expected, TooNested}
use Rattle.sheet_syntax_trees.specs.declared.sign.Sign.{Sign}
use Rattle.sheet_syntax_trees.specs.declared.sign.Sign.TheVariants as sign
use Rattle.sheet_syntax_trees.specs.declared.operators.Operator.{Operator}
use Rattle.sheet_syntax_trees.specs.declared.operators.Level.{Level}
use Rattle.sheet_syntax_trees.specs.declared.operators.Level.TheVariants as level
use Rattle.sheet_syntax_trees.specs.declared.operators.Prefix.{Prefix}
use Rattle.sheet_syntax_trees.specs.declared.operators.Prefix.TheVariants as prefix
use Rattle.sheet_syntax_trees.specs.declared.operators.Function.{Function}
use Rattle.sheet_syntax_trees.specs.declared.operators.Gathering.{Gathering}
use Rattle.sheet_syntax_trees.specs.declared.operators.Gathering.TheVariants as gathering
use Rattle.sheet_syntax_trees.specs.declared.operators.Quantifier.{Quantifier}
use Rattle.sheet_syntax_trees.specs.declared.tree.Tree.{Tree}
use Rattle.sheet_syntax_trees.specs.declared.tree.Tree.TheVariants as tree
use Rattle.sheet_syntax_trees.specs.declared.tree.Formed.{Formed}
use Rattle.sheet_syntax_trees.specs.Signs.{sign_of, same_sign}
use Rattle.sheet_syntax_trees.specs.Operators.{operator_among, repeats, prefix_sign, prefixed}
use Rattle.sheet_syntax_trees.specs.Grammar.{Nonterminal, expression, chain, postfix, atom, operand, before, prefixing, unprefixed, Form, form, Parts}
use Rattle.sheet_syntax_trees.specs.Grammar.{function_of, quantifier_of, IsFormula, Produces, AreParts, Gathers, a_choice, no_choice, an_operand, an_operation}
use Rattle.sheet_syntax_trees.specs.Grammar.{a_prefix, no_prefix, no_step, a_child, an_up, a_leaf, in_parentheses, no_set, a_set, a_comprehension, a_sum}
use Rattle.sheet_syntax_trees.specs.Grammar.{a_call, a_test, one_part, more_parts, all_values, chosen_values}
use Rattle.sheet_syntax_trees.specs.Reading as reading
use Rattle.sheet_syntax_trees.specs.Reading.{Answer, Reader, ◌>>=◌, Setting, offset, line_of, after, expect, name_at, with_rest, made, opened, leaf}
use Rattle.sheet_syntax_trees.proofs.SignLemmas.{same_is}
use Rattle.sheet_syntax_trees.proofs.Answering.{ok_then, rest_ok, after_ok, expected_ok, expect_ok, name_ok, made_ok, opened_ok, some_room, joined, behind}

-- what was read stands at the front by the productions, within the limits
pub record Stands (limit room : ℕ) (n : Nonterminal) (ts : List Token) (f : Formed) (rest : List Token) : Type 0 where
  pub front : List Token
  pub nest : ℕ
  pub split : ts ≡ front ++ rest
  pub produced : Produces n front (form f.tree f.depth nest)
  pub shallow : f.depth ≤ limit
  pub narrow : nest ≤ room

abbrev pub Sound : ℕ → ℕ → Nonterminal → Reader → Type 0
Sound limit room n p = (ts : List Token) (y : Formed × List Token) → p ts ≡ Ok y → Stands limit room n ts y.0 y.1

-- a form that was made
stands : (limit room : ℕ) (n : Nonterminal) (ts front rest : List Token) (e : Tree) (deepest nest at : ℕ) (y : Formed × List Token) →
    with_rest rest (made limit at e deepest) ≡ Ok y
    → ts ≡ front ++ rest → (deepest < limit → Produces n front (form e (deepest + 1) nest)) → nest ≤ room → Stands limit room n ts y.0 y.1
stands limit room n ts front rest e deepest nest at y h split produced narrow =
    let (f, found, is) = rest_ok rest (made limit at e deepest) y h in
    let (fits, same) = made_ok limit at e deepest f found in
    let P : Formed × List Token → Type 0 = λ z. Stands limit room n ts z.0 z.1 in
    let Q : Formed → Type 0 = λ g. Stands limit room n ts g rest in
    subst P (sym is)
    (subst Q (sym same) (record { front = front; nest = nest; split = split; produced = produced fits; shallow = omega arith; narrow = narrow }))

pub chosen_sound : (s : Setting) → Sound s.limit s.room expression s.nested → (t : Token) (ts : List Token) (y : Formed × List Token) →
    sign_of t.kind ≡ sign.If → reading.chosen s t ts ≡ Ok y
    → Stands s.limit s.room expression (t ∷ ts) y.0 y.1
unfolding reading.chosen
chosen_sound s inner t ts y is e =
    let (c, ec, e1) = ok_then (s.nested ts) _ y e in
    let (a, ea, e2) = ok_then (expect s.end sign.Then c.1) _ y e1 in
    let (x, ex, e3) = ok_then (s.nested a) _ y e2 in
    let (b, eb, e4) = ok_then (expect s.end sign.Else x.1) _ y e3 in
    let (z, ez, e5) = ok_then (s.nested b) _ y e4 in
    let sc = inner ts c ec in
    let sx = inner a x ex in
    let sz = inner b z ez in
    let (u, isu, signu) = expect_ok s.end sign.Then c.1 a ea in
    let (v, isv, signv) = expect_ok s.end sign.Else x.1 b eb in
    stands s.limit s.room expression (t ∷ ts) (t ∷ (sc.front ++ u ∷ (sx.front ++ v ∷ sz.front))) z.1 (tree.If t.line c.0.tree x.0.tree z.0.tree)
    (max c.0.depth (max x.0.depth z.0.depth)) (max sc.nest (max sx.nest sz.nest)) t.start y e5
    (let back = sx.front ++ v ∷ sz.front in
    behind (t ∷ ts) ts z.1 (sc.front ++ u ∷ back) t refl
    (joined ts c.1 z.1 sc.front (u ∷ back) sc.split
    (behind c.1 a z.1 back u isu (joined a x.1 z.1 sx.front (v ∷ sz.front) sx.split (behind x.1 b z.1 sz.front v isv sz.split)))))
    (λ fits. a_choice t u v sc.front sx.front sz.front _ _ _ is sc.produced signu sx.produced signv sz.produced)
    (let p = sc.narrow in let q = sx.narrow in let r = sz.narrow in omega arith)

pub called_sound : (s : Setting) → Sound s.limit (s.room - 1) expression s.inner → (h : Function) (t : Token) (ts : List Token) (y : Formed × List Token) →
    function_of (sign_of t.kind) ≡ Some h
    → reading.called s h t ts ≡ Ok y → Stands s.limit s.room atom (t ∷ ts) y.0 y.1
unfolding reading.called
called_sound s inner h t ts y is e =
    let (a, ea, e1) = ok_then (opened s sign.Open ts) _ y e in
    let (x, ex, e2) = ok_then (s.inner a) _ y e1 in
    let (rest, er, e3) = ok_then (expect s.end sign.Close x.1) _ y e2 in
    let (o, iso, signo, some) = opened_ok s sign.Open ts a ea in
    let sx = inner a x ex in
    let (c, isc, signc) = expect_ok s.end sign.Close x.1 rest er in
    stands s.limit s.room atom (t ∷ ts) (t ∷ o ∷ (sx.front ++ c ∷ [])) rest (tree.Call t.line h x.0.tree) x.0.depth (sx.nest + 1) t.start y e3
    (behind (t ∷ ts) ts rest (o ∷ (sx.front ++ c ∷ [])) t refl (behind ts a rest (sx.front ++ c ∷ []) o iso (joined a x.1 rest sx.front (c ∷ []) sx.split isc)))
    (λ fits. a_call t o c h sx.front _ is signo sx.produced signc)
    (let n = sx.narrow in omega arith)

pub tested_sound : (s : Setting) → Sound s.limit (s.room - 1) expression s.inner → (q : Quantifier) (t : Token) (ts : List Token) (y : Formed × List Token) →
    quantifier_of (sign_of t.kind) ≡ Some q
    → reading.tested s q t ts ≡ Ok y → Stands s.limit s.room atom (t ∷ ts) y.0 y.1
unfolding reading.tested
tested_sound s inner q t ts y is e =
    let (a, ea, e1) = ok_then (opened s sign.Open ts) _ y e in
    let (name, en, e2) = ok_then (name_at s.end a) _ y e1 in
    let (b, eb, e3) = ok_then (expect s.end sign.In name.1) _ y e2 in
    let (x, ex, e4) = ok_then (s.inner b) _ y e3 in
    let (d, ed, e5) = ok_then (expect s.end sign.Bar x.1) _ y e4 in
    let (p, ep, e6) = ok_then (s.inner d) _ y e5 in
    let (rest, er, e7) = ok_then (expect s.end sign.Close p.1) _ y e6 in
    let (o, iso, signo, some) = opened_ok s sign.Open ts a ea in
    let (n, isn, named) = name_ok s.end a name en in
    let (i, isi, signi) = expect_ok s.end sign.In name.1 b eb in
    let sx = inner b x ex in
    let (k, isk, signk) = expect_ok s.end sign.Bar x.1 d ed in
    let sp = inner d p ep in
    let (c, isc, signc) = expect_ok s.end sign.Close p.1 rest er in
    stands s.limit s.room atom (t ∷ ts) (t ∷ o ∷ n ∷ i ∷ (sx.front ++ k ∷ (sp.front ++ c ∷ []))) rest (tree.Test t.line q name.0 x.0.tree p.0.tree)
    (max x.0.depth p.0.depth) (max sx.nest sp.nest + 1) t.start y e7
    (let back = sx.front ++ k ∷ (sp.front ++ c ∷ []) in
    behind (t ∷ ts) ts rest (o ∷ n ∷ i ∷ back) t refl
    (behind ts a rest (n ∷ i ∷ back) o iso (behind a name.1 rest (i ∷ back) n isn (behind name.1 b rest back i isi
    (joined b x.1 rest sx.front (k ∷ (sp.front ++ c ∷ [])) sx.split
    (behind x.1 d rest (sp.front ++ c ∷ []) k isk (joined d p.1 rest sp.front (c ∷ []) sp.split isc)))))))
    (λ fits. a_test t o n i k c q name.0 sx.front sp.front _ _ is signo named signi sx.produced signk sp.produced signc)
    (let m = sx.narrow in let l = sp.narrow in omega arith)

-- ---- comprehensions and sums, whose body stands in fs

pub record GatherStands (limit room line : ℕ) (g : Gathering) (close : Sign) (fs ts : List Token) (f : Formed) (rest : List Token) : Type 0 where
  pub front : List Token
  pub last : Token
  pub form : Form
  pub split : ts ≡ front ++ last ∷ rest
  pub closes : sign_of last.kind ≡ close
  pub gathers : Gathers line g (fs ++ front) form
  pub is : f ≡ record { tree = form.tree; depth = form.depth + 1 }
  pub shallow : form.depth < limit
  pub narrow : form.nest ≤ room - 1

gather_stands : (limit room line : ℕ) (g : Gathering) (close : Sign) (fs ts front rest : List Token) (c : Token) (x : Form) (at : ℕ) (y : Formed × List Token) →
    with_rest rest (made limit at x.tree x.depth) ≡ Ok y
    → ts ≡ front ++ c ∷ rest → sign_of c.kind ≡ close → Gathers line g (fs ++ front) x → x.nest ≤ room - 1 → GatherStands limit room line g close fs ts y.0 y.1
gather_stands limit room line g close fs ts front rest c x at y h split closes gathers narrow =
    let (f, found, is) = rest_ok rest (made limit at x.tree x.depth) y h in
    let (fits, same) = made_ok limit at x.tree x.depth f found in
    let P : Formed × List Token → Type 0 = λ z. GatherStands limit room line g close fs ts z.0 z.1 in
    subst P (sym is) (record {
      front = front;
      last = c;
      form = x;
      split = split;
      closes = closes;
      gathers = gathers;
      is = same;
      shallow = fits;
      narrow =
          narrow;
    })

conditioned_sound : (s : Setting) → Sound s.limit (s.room - 1) expression s.inner →
    (g : Gathering) (close : Sign) (t : Token) (f : Formed) (fs : List Token) (nf : ℕ) → Produces expression fs (form f.tree f.depth nf) → nf ≤ s.room - 1
    → (k n i : Token) (name : List ℕ) (source : Formed) (ss ts rest : List Token) (ns : ℕ) → sign_of k.kind ≡ sign.Colon → n.kind ≡ kind.Name name →
    sign_of i.kind ≡ sign.In
    → Produces expression ss (form source.tree source.depth ns) → ns ≤ s.room - 1 → ts ≡ (k ∷ n ∷ i ∷ ss) ++ rest → (o : Option (List Token)) →
    after sign.Bar rest ≡ o → (y : Formed × List Token)
    → reading.conditioned s g close t f name source rest o ≡ Ok y → GatherStands s.limit s.room t.line g close fs ts y.0 y.1
unfolding reading.closed reading.closed_where
conditioned_sound s inner g close t f fs nf pf wf k n i name source ss ts rest ns signk named signi ps ws split None none y e =
    let (end, er, e1) = ok_then (expect s.end close rest) _ y e in
    let (c, isc, signc) = expect_ok s.end close rest end er in
    gather_stands s.limit s.room t.line g close fs ts (k ∷ n ∷ i ∷ ss) end c
    (form (tree.Gather t.line g f.tree name source.tree) (max f.depth source.depth) (max nf ns)) t.start y e1
    (split ∙ ap (λ l. (k ∷ n ∷ i ∷ ss) ++ l) isc) signc
    (all_values t.line g k n i name fs ss _ _ pf signk named signi ps) (omega arith)
conditioned_sound s inner g close t f fs nf pf wf k n i name source ss ts rest ns signk named signi ps ws split (Some more) some y e =
    let (b, isb, signb) = after_ok sign.Bar rest more some in
    let (p, ep, e1) = ok_then (s.inner more) _ y e in
    let (end, er, e2) = ok_then (expect s.end close p.1) _ y e1 in
    let sp = inner more p ep in
    let (c, isc, signc) = expect_ok s.end close p.1 end er in
    gather_stands s.limit s.room t.line g close fs ts (k ∷ n ∷ i ∷ (ss ++ b ∷ sp.front)) end c
    (form (tree.GatherWhere t.line g f.tree name source.tree p.0.tree) (max f.depth (max source.depth p.0.depth)) (max nf (max ns sp.nest))) t.start y e2
    (split ∙ ap (λ l. (k ∷ n ∷ i ∷ ss) ++ l) (isb ∙ ap (λ l. b ∷ l) (sp.split ∙ ap (λ l. sp.front ++ l) isc))
    ∙ ap (λ l. k ∷ n ∷ i ∷ l) (sym (append_assoc ss (b ∷ sp.front) (c ∷ end)))) signc
    (chosen_values t.line g k n i b name fs ss sp.front _ _ _ pf signk named signi ps signb sp.produced) (let w = sp.narrow in omega arith)

pub gathered_sound : (s : Setting) → Sound s.limit (s.room - 1) expression s.inner →
    (g : Gathering) (close : Sign) (t : Token) (f : Formed) (fs : List Token) (nf : ℕ) → Produces expression fs (form f.tree f.depth nf) → nf ≤ s.room - 1
    → (ts : List Token) (y : Formed × List Token) → reading.gathered s g close t f ts ≡ Ok y → GatherStands s.limit s.room t.line g close fs ts y.0 y.1
unfolding reading.gathered
gathered_sound s inner g close t f fs nf pf wf ts y e =
    let (a, ea, e1) = ok_then (expect s.end sign.Colon ts) _ y e in
    let (name, en, e2) = ok_then (name_at s.end a) _ y e1 in
    let (b, eb, e3) = ok_then (expect s.end sign.In name.1) _ y e2 in
    let (x, ex, e4) = ok_then (s.inner b) _ y e3 in
    let (k, isk, signk) = expect_ok s.end sign.Colon ts a ea in
    let (n, isn, named) = name_ok s.end a name en in
    let (i, isi, signi) = expect_ok s.end sign.In name.1 b eb in
    let sx = inner b x ex in
    conditioned_sound s inner g close t f fs nf pf wf k n i name.0 x.0 sx.front ts x.1 sx.nest signk named signi sx.produced sx.narrow
    (behind ts a x.1 (n ∷ i ∷ sx.front) k isk (behind a name.1 x.1 (i ∷ sx.front) n isn (behind name.1 b x.1 sx.front i isi sx.split)))
    (after sign.Bar x.1) refl y e4

pub summed_sound : (s : Setting) → Sound s.limit (s.room - 1) expression s.inner → (t : Token) (ts : List Token) (y : Formed × List Token) →
    sign_of t.kind ≡ sign.Sum → reading.summed s t ts ≡ Ok y
    → Stands s.limit s.room atom (t ∷ ts) y.0 y.1
unfolding reading.summed
summed_sound s inner t ts y is e =
    let (a, ea, e1) = ok_then (opened s sign.Open ts) _ y e in
    let (f, ef, e2) = ok_then (s.inner a) _ y e1 in
    let (o, iso, signo, some) = opened_ok s sign.Open ts a ea in
    let sf = inner a f ef in
    let g = gathered_sound s inner gathering.Sum sign.Close t f.0 sf.front sf.nest sf.produced sf.narrow f.1 y e2 in
    let P : Formed → Type 0 = λ z. Stands s.limit s.room atom (t ∷ ts) z y.1 in
    subst P (sym g.is)
    (record {
      front = t ∷ o ∷ ((sf.front ++ g.front) ++ g.last ∷ []);
      nest = g.form.nest + 1;
      split = behind (t ∷ ts) ts y.1 (o ∷ ((sf.front ++ g.front) ++ g.last ∷ [])) t refl
          (behind ts a y.1 ((sf.front ++ g.front) ++ g.last ∷ []) o iso
          (joined a (g.last ∷ y.1) y.1 (sf.front ++ g.front) (g.last ∷ []) (joined a f.1 (g.last ∷ y.1) sf.front g.front sf.split g.split) refl));
      produced = a_sum t o g.last (sf.front ++ g.front) g.form is signo g.gathers g.closes;
      shallow = (let l = g.shallow in omega arith);
      narrow = (let n = g.narrow in omega arith);
    })

-- ---- sets, whose parts so far stand in fs

pub record PartsStand (limit room line : ℕ) (fs ts : List Token) (f : Formed) (rest : List Token) : Type 0 where
  pub front : List Token
  pub last : Token
  pub parts : Parts
  pub split : ts ≡ front ++ last ∷ rest
  pub closes : sign_of last.kind ≡ sign.CloseBrace
  pub are : AreParts (fs ++ front) parts
  pub is : f ≡ record { tree = tree.Set line parts.trees; depth = parts.depth + 1 }
  pub shallow : parts.depth < limit
  pub narrow : parts.nest ≤ room - 1

abbrev PartsSound : Setting → Token → (List Tree → ℕ → List Token → Answer (Formed × List Token)) → Type 0
PartsSound s t more = (fs ts : List Token) (trees : List Tree) (deepest nest : ℕ) (y : Formed × List Token) →
    AreParts fs (record { trees = trees; depth = deepest; nest = nest }) → nest ≤ s.room - 1 → more trees deepest ts ≡ Ok y
    → PartsStand s.limit s.room t.line fs ts y.0 y.1

parts_by_sound : (s : Setting) → Sound s.limit (s.room - 1) expression s.inner →
    (t : Token) (more : List Tree → ℕ → List Token → Answer (Formed × List Token)) → PartsSound s t more
    → (fs ts : List Token) (trees : List Tree) (deepest nest : ℕ) (u : Token) (y : Formed × List Token) →
    AreParts fs (record { trees = trees; depth = deepest; nest = nest }) → nest ≤ s.room - 1
    → (sg : Sign) → sign_of u.kind ≡ sg → reading.parts_by s t trees deepest u ts sg more ≡ Ok y → PartsStand s.limit s.room t.line fs (u ∷ ts) y.0 y.1
parts_by_sound s inner t more go fs ts trees deepest nest u y are narrow sign.CloseBrace is e =
    let (f, found, same) = rest_ok ts (made s.limit t.start (tree.Set t.line trees) deepest) y e in
    let (fits, formed) = made_ok s.limit t.start (tree.Set t.line trees) deepest f found in
    let P : Formed × List Token → Type 0 = λ z. PartsStand s.limit s.room t.line fs (u ∷ ts) z.0 z.1 in
    let Q : List Token → Type 0 = λ l. AreParts l (record { trees = trees; depth = deepest; nest = nest }) in
    subst P (sym same) (record {
      front = [];
      last = u;
      parts = record { trees = trees; depth = deepest; nest = nest };
      split = refl;
      closes = is;
      are =
          subst Q (sym (append-nil fs)) are;
      is = formed;
      shallow = fits;
      narrow = narrow;
    })
parts_by_sound s inner t more go fs ts trees deepest nest u y are narrow sign.Comma is e =
    let (x, ex, e1) = ok_then (s.inner ts) _ y e in
    let sx = inner ts x ex in
    let longer = more_parts u fs sx.front (record { trees = trees; depth = deepest; nest = nest }) _ are is sx.produced in
    let r = go (fs ++ u ∷ sx.front) x.1 (trees ++ x.0.tree ∷ []) (max deepest x.0.depth) (max nest sx.nest) y longer (let n = sx.narrow in omega arith) e1 in
    let Q : List Token → Type 0 = λ l. AreParts l r.parts in
    record {
      front = u ∷ (sx.front ++ r.front);
      last = r.last;
      parts = r.parts;
      split = ap (λ l. u ∷ l) (joined ts x.1 (r.last ∷ y.1) sx.front r.front sx.split r.split);
      closes = r.closes;
      are = subst Q (append_assoc fs (u ∷ sx.front) r.front) r.are;
      is = r.is;
      shallow = r.shallow;
      narrow = r.narrow;
    }
parts_by_sound s inner t more go fs ts trees deepest nest u y are narrow _ is e = let wrong : ⊥ = cc in absurd wrong

pub parts_sound : (s : Setting) → Sound s.limit (s.room - 1) expression s.inner → (n : ℕ) (t : Token) →
    PartsSound s t (λ trees deepest ts. reading.parts s n t trees deepest ts)
unfolding reading.parts
parts_sound s inner zero t fs ts trees deepest nest y are narrow e = let wrong : ⊥ = cc in absurd wrong
parts_sound s inner (suc n) t fs [] trees deepest nest y are narrow e = let wrong : ⊥ = cc in absurd wrong
parts_sound s inner (suc n) t fs (u ∷ ts) trees deepest nest y are narrow e =
    parts_by_sound s inner t (λ trees deepest rest. reading.parts s n t trees deepest rest) (parts_sound s inner n t) fs ts trees deepest nest u y are narrow
    (sign_of u.kind) refl e

-- ---- braces and brackets

set_stands : (s : Setting) (t : Token) (fs ts : List Token) (f : Formed) (rest mid : List Token) → sign_of t.kind ≡ sign.OpenBrace → 0 < s.room →
    ts ≡ fs ++ mid → PartsStand s.limit s.room t.line fs mid f rest → Stands s.limit s.room atom (t ∷ ts) f rest
set_stands s t fs ts f rest mid is some split p =
    let P : Formed → Type 0 = λ z. Stands s.limit s.room atom (t ∷ ts) z rest in
    subst P (sym p.is)
    (record {
      front = t ∷ ((fs ++ p.front) ++ p.last ∷ []);
      nest = p.parts.nest + 1;
      split = ap (λ l. t ∷ l) (joined ts (p.last ∷ rest) rest (fs ++ p.front) (p.last ∷ []) (joined ts mid (p.last ∷ rest) fs p.front split p.split) refl);
      produced = a_set t p.last (fs ++ p.front) p.parts is p.are p.closes;
      shallow = (let l = p.shallow in omega arith);
      narrow = (let n = p.narrow in omega arith);
    })

comprehension_stands : (s : Setting) (t : Token) (fs ts : List Token) (f : Formed) (rest mid : List Token) → sign_of t.kind ≡ sign.OpenBrace → 0 < s.room →
    ts ≡ fs ++ mid → GatherStands s.limit s.room t.line gathering.Union sign.CloseBrace fs mid f rest
    → Stands s.limit s.room atom (t ∷ ts) f rest
comprehension_stands s t fs ts f rest mid is some split g =
    let P : Formed → Type 0 = λ z. Stands s.limit s.room atom (t ∷ ts) z rest in
    subst P (sym g.is)
    (record {
      front = t ∷ ((fs ++ g.front) ++ g.last ∷ []);
      nest = g.form.nest + 1;
      split = ap (λ l. t ∷ l) (joined ts (g.last ∷ rest) rest (fs ++ g.front) (g.last ∷ []) (joined ts mid (g.last ∷ rest) fs g.front split g.split) refl);
      produced = a_comprehension t g.last (fs ++ g.front) g.form is g.gathers g.closes;
      shallow = (let l = g.shallow in omega arith);
      narrow = (let n = g.narrow in omega arith);
    })

behind_part_sound : (s : Setting) → Sound s.limit (s.room - 1) expression s.inner → (t : Token) (f : Formed) (fs ts mid : List Token) (nest : ℕ) →
    sign_of t.kind ≡ sign.OpenBrace → 0 < s.room → ts ≡ fs ++ mid
    → Produces expression fs (form f.tree f.depth nest) → nest ≤ s.room - 1 → (y : Formed × List Token) → (sg : Sign) →
    reading.behind_part s t f mid sg ≡ Ok y → Stands s.limit s.room atom (t ∷ ts) y.0 y.1
unfolding reading.behind_part
behind_part_sound s inner t f fs ts mid nest is some split produced narrow y sign.Colon e =
    comprehension_stands s t fs ts y.0 y.1 mid is some split (gathered_sound s inner gathering.Union sign.CloseBrace t f fs nest produced narrow mid y e)
behind_part_sound s inner t f fs ts mid nest is some split produced narrow y _ e =
    set_stands s t fs ts y.0 y.1 mid is some split
    (parts_sound s inner (length mid) t fs mid (f.tree ∷ []) f.depth nest y (one_part fs (form f.tree f.depth nest) produced) narrow e)

braced_sound : (s : Setting) → Sound s.limit (s.room - 1) expression s.inner → (t : Token) (ts : List Token) → sign_of t.kind ≡ sign.OpenBrace → 0 < s.room →
    (o : Option (List Token)) → after sign.CloseBrace ts ≡ o
    → (y : Formed × List Token) → reading.braced s t ts o ≡ Ok y → Stands s.limit s.room atom (t ∷ ts) y.0 y.1
unfolding reading.braced
braced_sound s inner t ts is some (Some rest) e y h =
    let (c, isc, signc) = after_ok sign.CloseBrace ts rest e in
    stands s.limit s.room atom (t ∷ ts) (t ∷ c ∷ []) rest (tree.Set t.line []) 0 1 t.start y h (ap (λ l. t ∷ l) isc) (λ fits. no_set t c is signc) (omega arith)
braced_sound s inner t ts is some None e y h =
    let (f, ef, e1) = ok_then (s.inner ts) _ y h in
    let sf = inner ts f ef in
    behind_part_sound s inner t f.0 sf.front ts f.1 sf.nest is some sf.split sf.produced sf.narrow y (reading.sign_at f.1) e1

parenthesised_sound : (s : Setting) → Sound s.limit (s.room - 1) expression s.inner → (t : Token) (ts : List Token) → sign_of t.kind ≡ sign.Open → 0 < s.room →
    (y : Formed × List Token) → reading.parenthesised s ts ≡ Ok y
    → Stands s.limit s.room atom (t ∷ ts) y.0 y.1
unfolding reading.parenthesised
parenthesised_sound s inner t ts is some y e =
    let (x, ex, e1) = ok_then (s.inner ts) _ y e in
    let (rest, er, e2) = ok_then (expect s.end sign.Close x.1) _ y e1 in
    let sx = inner ts x ex in
    let (c, isc, signc) = expect_ok s.end sign.Close x.1 rest er in
    let same : (x.0, rest) ≡ y = cc in
    let P : Formed × List Token → Type 0 = λ z. Stands s.limit s.room atom (t ∷ ts) z.0 z.1 in
    subst P same
    (record {
      front = t ∷ (sx.front ++ c ∷ []);
      nest = sx.nest + 1;
      split = ap (λ l. t ∷ l) (joined ts x.1 rest sx.front (c ∷ []) sx.split isc);
      produced = in_parentheses t c sx.front (form x.0.tree x.0.depth sx.nest) is sx.produced signc;
      shallow = sx.shallow;
      narrow = (let n = sx.narrow in omega arith);
    })

room_ok : {A : Type 0} (b : Bool) (at : ℕ) (r : Answer A) (y : A) → ◌≡◌ {A = Answer A} (if b then Err (TooNested at) else r) (Ok y) →
    (b ≡ false) × (◌≡◌ {A = Answer A} r (Ok y))
room_ok true at r y e = let wrong : ⊥ = cc in absurd wrong
room_ok false at r y e = (refl, e)

bracketed_sound : (s : Setting) → Sound s.limit (s.room - 1) expression s.inner → (t : Token) (ts : List Token) (y : Formed × List Token) → (sg : Sign) →
    sign_of t.kind ≡ sg → reading.bracketed s sg t ts ≡ Ok y
    → Stands s.limit s.room atom (t ∷ ts) y.0 y.1
unfolding reading.bracketed
bracketed_sound s inner t ts y sign.Open is e =
    let (some, r) = room_ok (s.room == 0) t.start (reading.parenthesised s ts) y e in
    parenthesised_sound s inner t ts is (some_room s.room some) y r
bracketed_sound s inner t ts y sign.OpenBrace is e =
    let (some, r) = room_ok (s.room == 0) t.start (reading.braced s t ts (after sign.CloseBrace ts)) y e in
    braced_sound s inner t ts is (some_room s.room some) (after sign.CloseBrace ts) refl y r
bracketed_sound s inner t ts y sign.Count is e = called_sound s inner _ t ts y (rw is refl) e
bracketed_sound s inner t ts y sign.Only is e = called_sound s inner _ t ts y (rw is refl) e
bracketed_sound s inner t ts y sign.Min is e = called_sound s inner _ t ts y (rw is refl) e
bracketed_sound s inner t ts y sign.Max is e = called_sound s inner _ t ts y (rw is refl) e
bracketed_sound s inner t ts y sign.Sum is e = summed_sound s inner t ts y is e
bracketed_sound s inner t ts y sign.Any is e = tested_sound s inner _ t ts y (rw is refl) e
bracketed_sound s inner t ts y sign.All is e = tested_sound s inner _ t ts y (rw is refl) e
bracketed_sound s inner t ts y _ is e = let wrong : ⊥ = cc in absurd wrong

leaf_or_sound : (s : Setting) → 0 < s.limit → Sound s.limit (s.room - 1) expression s.inner →
    (t : Token) (ts : List Token) (y : Formed × List Token) (o : Option Tree) → leaf t.line t.kind ≡ o → reading.leaf_or s o t ts ≡ Ok y
    → Stands s.limit s.room atom (t ∷ ts) y.0 y.1
leaf_or_sound s deep inner t ts y (Some e) is h =
    let same : (record { tree = e; depth = 1 }, ts) ≡ y = cc in
    let P : Formed × List Token → Type 0 = λ z. Stands s.limit s.room atom (t ∷ ts) z.0 z.1 in
    subst P same (record { front = t ∷ []; nest = 0; split = refl; produced = a_leaf t e is; shallow = deep; narrow = omega arith })
leaf_or_sound s deep inner t ts y None is h = bracketed_sound s inner t ts y (sign_of t.kind) refl h

pub atom_sound : (s : Setting) → 0 < s.limit → Sound s.limit (s.room - 1) expression s.inner → Sound s.limit s.room atom (reading.atom s)
unfolding reading.atom
atom_sound s deep inner [] y e = let wrong : ⊥ = cc in absurd wrong
atom_sound s deep inner (t ∷ ts) y e = leaf_or_sound s deep inner t ts y (leaf t.line t.kind) refl e

-- ---- a formula has a first token

pub record Begins (ts : List Token) : Type 0 where
  pub first : Token
  pub others : List Token
  pub is : ts ≡ first ∷ others

begins_more : (xs ys : List Token) → Begins xs → Begins (xs ++ ys)
begins_more xs ys b = record { first = b.first; others = b.others ++ ys; is = ap (λ l. l ++ ys) b.is }

pub nonempty : (n : Nonterminal) (ts : List Token) (f : Form) → Produces n ts f → Begins ts
nonempty _ _ _ (a_choice i t e cs xs ys c x y a b d g h k) = record { first = i; others = _; is = refl }
nonempty _ _ _ (no_choice ts f p) = nonempty _ ts f p
nonempty _ _ _ (an_operand l ts f p) = nonempty _ ts f p
nonempty _ _ _ (an_operation l op o xs ys x y p is q) = begins_more xs (o ∷ ys) (nonempty _ xs x p)
nonempty _ _ _ (a_prefix p t ts f is q) = record { first = t; others = _; is = refl }
nonempty _ _ _ (no_prefix p ts f q) = nonempty _ ts f q
nonempty _ _ _ (no_step ts f p) = nonempty _ ts f p
nonempty _ _ _ (a_child d t name ts f p a b) = begins_more ts (d ∷ t ∷ []) (nonempty _ ts f p)
nonempty _ _ _ (an_up d t ts f p a b) = begins_more ts (d ∷ t ∷ []) (nonempty _ ts f p)
nonempty _ _ _ (a_leaf t e is) = record { first = t; others = _; is = refl }
nonempty _ _ _ (in_parentheses o c ts f a p b) = record { first = o; others = _; is = refl }
nonempty _ _ _ (no_set o c a b) = record { first = o; others = _; is = refl }
nonempty _ _ _ (a_set o c ts p a q b) = record { first = o; others = _; is = refl }
nonempty _ _ _ (a_comprehension o c ts g a q b) = record { first = o; others = _; is = refl }
nonempty _ _ _ (a_sum w o c ts g a b q d) = record { first = w; others = _; is = refl }
nonempty _ _ _ (a_call w o c h ts f a b q d) = record { first = w; others = _; is = refl }
nonempty _ _ _ (a_test w o n i b c q name ss ps x p a1 a2 a3 a4 a5 a6 a7 a8) = record { first = w; others = _; is = refl }

-- ---- steps

pub dotted : {A : Type 0} (b : Bool) (x y : Answer A) (z : A) → ◌≡◌ {A = Answer A} (if b then x else y) (Ok z) →
    ((b ≡ true) × (◌≡◌ {A = Answer A} x (Ok z))) ⊎ ((b ≡ false) × (◌≡◌ {A = Answer A} y (Ok z)))
dotted true x y z e = inl (refl, e)
dotted false x y z e = inr (refl, e)

up_told : (b : Bool) (line : ℕ) (e form : Tree) → (if b then Some (tree.Up line e) else None) ≡ Some form → (b ≡ true) × (form ≡ tree.Up line e)
up_told true line e form h = (refl, cc)
up_told false line e form h = let wrong : ⊥ = cc in absurd wrong

pub step_told : (line : ℕ) (e : Tree) (k : TokenKind) (form : Tree) → reading.step_of line e k ≡ Some form →
    ((name : List ℕ) × (k ≡ kind.Name name) × (form ≡ tree.Child line e name)) ⊎ ((sign_of k ≡ sign.Up) × (form ≡ tree.Up line e))
step_told line e (kind.Name name) form h = inl (name, refl, cc)
step_told line e (kind.Reserved word) form h = let (test, is) = up_told (same_sign (sign_of (kind.Reserved word)) sign.Up) line e form h in
    inr (same_is (sign_of (kind.Reserved word)) sign.Up test, is)
step_told line e (kind.Number n) form h = let wrong : ⊥ = cc in absurd wrong
step_told line e (kind.Text x) form h = let wrong : ⊥ = cc in absurd wrong
step_told line e (kind.Symbol x) form h = let (test, is) = up_told (same_sign (sign_of (kind.Symbol x)) sign.Up) line e form h in
    inr (same_is (sign_of (kind.Symbol x)) sign.Up test, is)

pub step_produced : (h d t : Token) (hs : List Token) (f : Formed) (nest : ℕ) (e : Tree) → Produces postfix (h ∷ hs) (form f.tree f.depth nest) →
    sign_of d.kind ≡ sign.Dot → reading.step_of h.line f.tree t.kind ≡ Some e
    → Produces postfix ((h ∷ hs) ++ d ∷ t ∷ []) (form e (f.depth + 1) nest)
step_produced h d t hs f nest e p dot step =
    let P : Tree → Type 0 = λ z. Produces postfix ((h ∷ hs) ++ d ∷ t ∷ []) (form z (f.depth + 1) nest) in
    elim (step_told h.line f.tree t.kind e step) [
      | inl (name, named, is) ↦ subst P (sym is) (a_child d t name (h ∷ hs) (form f.tree f.depth nest) p dot named)
      | inr (up, is) ↦ subst P (sym is) (an_up d t (h ∷ hs) (form f.tree f.depth nest) p dot up)
    ]

steps_sound : (limit room end at : ℕ) (h : Token) (hs : List Token) (f : Formed) (nest : ℕ) → Produces postfix (h ∷ hs) (form f.tree f.depth nest) →
    f.depth ≤ limit → nest ≤ room → (ts : List Token) (y : Formed × List Token)
    → reading.steps limit end at h.line f ts ≡ Ok y → Stands limit room postfix ((h ∷ hs) ++ ts) y.0 y.1
unfolding reading.steps
steps_sound limit room end at h hs f nest p deep narrow [] y e =
    let same : (f, []) ≡ y = cc in
    let P : Formed × List Token → Type 0 = λ z. Stands limit room postfix ((h ∷ hs) ++ []) z.0 z.1 in
    subst P same (record { front = h ∷ hs; nest = nest; split = refl; produced = p; shallow = deep; narrow = narrow })
steps_sound limit room end at h hs f nest p deep narrow (d ∷ []) y e =
    let P : Formed × List Token → Type 0 = λ z. Stands limit room postfix ((h ∷ hs) ++ d ∷ []) z.0 z.1 in
    elim (dotted (same_sign (sign_of d.kind) sign.Dot) (Err (Expected end)) (Ok (f, d ∷ [])) y e) [
      | inl (test, r) ↦ (let wrong : ⊥ = cc in absurd wrong)
      | inr (test, r) ↦
          (let same : (f, d ∷ []) ≡ y = cc in
          subst P same (record { front = h ∷ hs; nest = nest; split = refl; produced = p; shallow = deep; narrow = narrow }))
    ]
steps_sound limit room end at h hs f nest p deep narrow (d ∷ t ∷ ts) y e =
    let P : Formed × List Token → Type 0 = λ z. Stands limit room postfix ((h ∷ hs) ++ d ∷ t ∷ ts) z.0 z.1 in
    elim (dotted (same_sign (sign_of d.kind) sign.Dot)
    (reading.or_expected t.start (reading.step_of h.line f.tree t.kind) >>= (λ form.
    made limit at form f.depth >>= (λ g. reading.steps limit end at h.line g ts))) (Ok (f, d ∷ t ∷ ts)) y e) [
      | inl (test, r) ↦
          let (e, found, r1) =
          ok_then (reading.or_expected t.start (reading.step_of h.line f.tree t.kind))
          (λ form. made limit at form f.depth >>= (λ g. reading.steps limit end at h.line g ts)) y r in
          let (g, madeg, r2) = ok_then (made limit at e f.depth) (λ g. reading.steps limit end at h.line g ts) y r1 in
          let (fits, is) = made_ok limit at e f.depth g madeg in
          let step = expected_ok t.start (reading.step_of h.line f.tree t.kind) e found in
          let q = step_produced h d t hs f nest e p (same_is (sign_of d.kind) sign.Dot test) step in
          let Q : Formed → Type 0 = λ z. Produces postfix ((h ∷ hs) ++ d ∷ t ∷ []) (form z.tree z.depth nest) in
          let D : Formed → Type 0 = λ z. z.depth ≤ limit in
          let S : List Token → Type 0 = λ l. Stands limit room postfix (h ∷ l) y.0 y.1 in
          subst S (append_assoc hs (d ∷ t ∷ []) ts)
          (steps_sound limit room end at h (hs ++ d ∷ t ∷ []) g nest (subst Q (sym is) q) (subst D (sym is) (omega arith)) narrow ts y r2)
      | inr (test, r) ↦ (let same : (f, d ∷ t ∷ ts) ≡ y = cc in
          subst P same (record { front = h ∷ hs; nest = nest; split = refl; produced = p; shallow = deep; narrow = narrow }))
    ]

pub postfix_sound : (s : Setting) → 0 < s.limit → Sound s.limit (s.room - 1) expression s.inner → Sound s.limit s.room postfix (reading.postfix s)
unfolding reading.postfix
postfix_sound s deep inner ts y e =
    let (x, ex, e1) = ok_then (reading.atom s ts) (λ x. reading.steps s.limit s.end (offset s.end ts) (line_of ts) x.0 x.1) y e in
    let sx = atom_sound s deep inner ts x ex in
    let b = nonempty atom sx.front (form x.0.tree x.0.depth sx.nest) sx.produced in
    let whole : ts ≡ (b.first ∷ b.others) ++ x.1 = sx.split ∙ ap (λ l. l ++ x.1) b.is in
    let P : List Token → Type 0 = λ l. Produces postfix l (form x.0.tree x.0.depth sx.nest) in
    let S : List Token → Type 0 = λ l. Stands s.limit s.room postfix l y.0 y.1 in
    let E : ℕ → Type 0 = λ line. reading.steps s.limit s.end (offset s.end ts) line x.0 x.1 ≡ Ok y in
    subst S (sym whole)
    (steps_sound s.limit s.room s.end (offset s.end ts) b.first b.others x.0 sx.nest
    (subst P b.is (no_step sx.front (form x.0.tree x.0.depth sx.nest) sx.produced)) sx.shallow sx.narrow x.1 y
    (subst E (ap line_of whole) e1))

-- ---- prefixes

pub under_sound : (limit room : ℕ) (p : Prefix) (x : Formed) (rest : List Token) (ts : List Token) (f : Formed) →
    reading.under_prefixes limit p (reading.prefixes p ts) (Ok x) ≡ Ok f
    → Stands limit room (unprefixed p) (reading.behind_prefixes p ts) x rest → Stands limit room (prefixing p) ts f rest
unfolding reading.under_prefixes reading.prefixes reading.behind_prefixes
under_sound limit room p x rest [] f e s =
    let same : x ≡ f = cc in
    let P : Formed → Type 0 = λ z. Stands limit room (prefixing p) [] z rest in
    subst P same (record {
      front = s.front;
      nest = s.nest;
      split = s.split;
      produced = no_prefix p s.front (form x.tree x.depth s.nest) s.produced;
      shallow =
          s.shallow;
      narrow = s.narrow;
    })
under_sound limit room p x rest (t ∷ ts) f e s =
    elim (cases_Bool (same_sign (sign_of t.kind) (prefix_sign p))) [
      | inl test ↦
          let e' : (reading.under_prefixes limit p (reading.prefixes p ts) (Ok x) >>= (λ g. made limit t.start (prefixed p t.line g.tree) g.depth)) ≡ Ok f =
          sym (rw test refl) ∙ e in
          let s' : Stands limit room (unprefixed p) (reading.behind_prefixes p ts) x rest = under_behind limit room p x rest t ts test s in
          let (g, eg, e1) = ok_then (reading.under_prefixes limit p (reading.prefixes p ts) (Ok x)) (λ g. made limit t.start (prefixed p t.line g.tree) g.depth)
          f e' in
          let sg = under_sound limit room p x rest ts g eg s' in
          let (fits, is) = made_ok limit t.start (prefixed p t.line g.tree) g.depth f e1 in
          let P : Formed → Type 0 = λ z. Stands limit room (prefixing p) (t ∷ ts) z rest in
          subst P (sym is) (record {
            front = t ∷ sg.front;
            nest = sg.nest;
            split = ap (λ l. t ∷ l) sg.split;
            produced =
                a_prefix p t sg.front (form g.tree g.depth sg.nest) (same_is (sign_of t.kind) (prefix_sign p) test) sg.produced;
            shallow = omega arith;
            narrow =
                sg.narrow;
          })
      | inr test ↦
          let e' : ◌≡◌ {A = Answer Formed} (Ok x) (Ok f) = sym (rw test refl) ∙ e in
          let same : x ≡ f = cc in
          let s' : Stands limit room (unprefixed p) (t ∷ ts) x rest = under_front limit room p x rest t ts test s in
          let P : Formed → Type 0 = λ z. Stands limit room (prefixing p) (t ∷ ts) z rest in
          subst P same (record {
            front = s'.front;
            nest = s'.nest;
            split = s'.split;
            produced = no_prefix p s'.front (form x.tree x.depth s'.nest) s'.produced;
            shallow = s'.shallow;
            narrow = s'.narrow;
          })
    ] where
      under_behind : (limit room : ℕ) (p : Prefix) (x : Formed) (rest : List Token) (t : Token) (ts : List Token) →
          same_sign (sign_of t.kind) (prefix_sign p) ≡ true
          → Stands limit room (unprefixed p) (if same_sign (sign_of t.kind) (prefix_sign p) then reading.behind_prefixes p ts else t ∷ ts) x rest →
          Stands limit room (unprefixed p) (reading.behind_prefixes p ts) x rest
      under_behind limit room p x rest t ts test s =
          let P : Bool → Type 0 = λ b. Stands limit room (unprefixed p) (if b then reading.behind_prefixes p ts else t ∷ ts) x rest in subst P test s

      under_front : (limit room : ℕ) (p : Prefix) (x : Formed) (rest : List Token) (t : Token) (ts : List Token) →
          same_sign (sign_of t.kind) (prefix_sign p) ≡ false
          → Stands limit room (unprefixed p) (if same_sign (sign_of t.kind) (prefix_sign p) then reading.behind_prefixes p ts else t ∷ ts) x rest →
          Stands limit room (unprefixed p) (t ∷ ts) x rest
      under_front limit room p x rest t ts test s =
          let P : Bool → Type 0 = λ b. Stands limit room (unprefixed p) (if b then reading.behind_prefixes p ts else t ∷ ts) x rest in subst P test s

pub prefixes_sound : (s : Setting) (p : Prefix) (operand : Reader) → Sound s.limit s.room (unprefixed p) operand →
    Sound s.limit s.room (prefixing p) (reading.with_prefixes s p operand)
unfolding reading.with_prefixes
prefixes_sound s p operand inner ts y e =
    let (x, ex, e1) = ok_then (operand (reading.behind_prefixes p ts)) (λ x. with_rest x.1 (reading.under_prefixes s.limit p (reading.prefixes p ts) (Ok x.0)))
    y e in
    let (f, ef, is) = rest_ok x.1 (reading.under_prefixes s.limit p (reading.prefixes p ts) (Ok x.0)) y e1 in
    let P : Formed × List Token → Type 0 = λ z. Stands s.limit s.room (prefixing p) ts z.0 z.1 in
    subst P (sym is) (under_sound s.limit s.room p x.0 x.1 ts f ef (inner (reading.behind_prefixes p ts) x ex))

-- ---- levels of operators

pub before_chain : (l : Level) (ts : List Token) (f : Form) → Produces (before l) ts f → Produces (chain l) ts f
before_chain level.Or ts f p = p
before_chain level.And ts f p = p
before_chain level.Comparison ts f p = an_operand level.Comparison ts f p
before_chain level.Sets ts f p = p
before_chain level.Sums ts f p = p
before_chain level.Products ts f p = p

pub operand_before : (l : Level) (ts : List Token) (f : Form) → Produces (operand l) ts f → Produces (before l) ts f
operand_before level.Or ts f p = an_operand level.Or ts f p
operand_before level.And ts f p = an_operand level.And ts f p
operand_before level.Comparison ts f p = p
operand_before level.Sets ts f p = an_operand level.Sets ts f p
operand_before level.Sums ts f p = an_operand level.Sums ts f p
operand_before level.Products ts f p = an_operand level.Products ts f p

pub chain_before : (l : Level) (ts : List Token) (f : Form) → repeats l ≡ true → Produces (chain l) ts f → Produces (before l) ts f
chain_before level.Or ts f again p = p
chain_before level.And ts f again p = p
chain_before level.Comparison ts f again p = let wrong : ⊥ = cc in absurd wrong
chain_before level.Sets ts f again p = p
chain_before level.Sums ts f again p = p
chain_before level.Products ts f again p = p

pub operation_sound : (s : Setting) (l : Level) (p : Reader) → Sound s.limit s.room (operand l) p →
    (at : ℕ) (h o : Token) (hs : List Token) (f : Formed) (nest : ℕ) (op : Operator) → Produces (before l) (h ∷ hs) (form f.tree f.depth nest)
    → nest ≤ s.room → operator_among l (sign_of o.kind) ≡ Some op → (ts : List Token) (y : Formed × List Token) →
    reading.operand_behind s p at h.line op f ts ≡ Ok y → Stands s.limit s.room (chain l) ((h ∷ hs) ++ o ∷ ts) y.0 y.1
operation_sound s l p inner at h o hs f nest op pf narrow is ts y e =
    let (x, ex, e1) = ok_then (p ts) (λ x. with_rest x.1 (reading.operation s.limit at h.line op f x.0)) y e in
    let sx = inner ts x ex in
    stands s.limit s.room (chain l) ((h ∷ hs) ++ o ∷ ts) ((h ∷ hs) ++ o ∷ sx.front) x.1 (tree.Binary h.line op f.tree x.0.tree) (max f.depth x.0.depth)
    (max nest sx.nest) at y e1
    (ap (λ l. (h ∷ hs) ++ o ∷ l) sx.split ∙ sym (append_assoc (h ∷ hs) (o ∷ sx.front) x.1))
    (λ fits. an_operation l op o (h ∷ hs) sx.front (form f.tree f.depth nest) (form x.0.tree x.0.depth sx.nest) pf is sx.produced)
    (let n = sx.narrow in omega arith)

abbrev MoreSound : Setting → Level → ℕ → (Formed → List Token → Answer (Formed × List Token)) → Type 0
MoreSound s l line more = (h : Token) (hs : List Token) (f : Formed) (nest : ℕ) → h.line ≡ line → Produces (before l) (h ∷ hs) (form f.tree f.depth nest) →
    f.depth ≤ s.limit → nest ≤ s.room
    → (ts : List Token) (y : Formed × List Token) → more f ts ≡ Ok y → Stands s.limit s.room (chain l) ((h ∷ hs) ++ ts) y.0 y.1

begun_stands : (limit room : ℕ) (l : Level) (h : Token) (hs ts : List Token) (f : Formed) (nest : ℕ) → Produces (before l) (h ∷ hs) (form f.tree f.depth nest) →
    f.depth ≤ limit → nest ≤ room
    → (y : Formed × List Token) → ◌≡◌ {A = Answer (Formed × List Token)} (Ok (f, ts)) (Ok y) → Stands limit room (chain l) ((h ∷ hs) ++ ts) y.0 y.1
begun_stands limit room l h hs ts f nest p deep narrow y e =
    let same : (f, ts) ≡ y = cc in
    let P : Formed × List Token → Type 0 = λ z. Stands limit room (chain l) ((h ∷ hs) ++ ts) z.0 z.1 in
    subst P same (record {
      front = h ∷ hs;
      nest = nest;
      split = refl;
      produced = before_chain l (h ∷ hs) (form f.tree f.depth nest) p;
      shallow = deep;
      narrow =
          narrow;
    })

go_on_sound : (s : Setting) (l : Level) (line : ℕ) (more : Formed → List Token → Answer (Formed × List Token)) → MoreSound s l line more → (b : Bool) →
    repeats l ≡ b → (h : Token) (hs us : List Token) → h.line ≡ line
    → (r : Answer (Formed × List Token)) →
    ((z : Formed × List Token) → ◌≡◌ {A = Answer (Formed × List Token)} r (Ok z) → Stands s.limit s.room (chain l) (h ∷ us) z.0 z.1)
    → (y : Formed × List Token) → ◌≡◌ {A = Answer (Formed × List Token)} (reading.go_on b r more) (Ok y) → Stands s.limit s.room (chain l) (h ∷ us) y.0 y.1
go_on_sound s l line more go true again h hs us lined r told y e =
    let (z, rz, e1) = ok_then r (λ x. more x.0 x.1) y e in
    let sz = told z rz in
    let b = nonempty (chain l) sz.front (form z.0.tree z.0.depth sz.nest) sz.produced in
    let whole : h ∷ us ≡ (b.first ∷ b.others) ++ z.1 = sz.split ∙ ap (λ l. l ++ z.1) b.is in
    let first : h.line ≡ b.first.line = ap line_of whole in
    let P : List Token → Type 0 = λ k. Stands s.limit s.room (chain l) k y.0 y.1 in
    let Q : List Token → Type 0 = λ k. Produces (before l) k (form z.0.tree z.0.depth sz.nest) in
    subst P (sym whole)
    (go b.first b.others z.0 sz.nest (sym first ∙ lined) (subst Q b.is (chain_before l sz.front (form z.0.tree z.0.depth sz.nest) again sz.produced))
    sz.shallow sz.narrow z.1 y e1)
go_on_sound s l line more go false again h hs us lined r told y e = told y e

more_by_sound : (s : Setting) (l : Level) (p : Reader) → Sound s.limit s.room (operand l) p →
    (at line : ℕ) (more : Formed → List Token → Answer (Formed × List Token)) → MoreSound s l line more → (h : Token) (hs : List Token) (f : Formed) (nest : ℕ)
    → h.line ≡ line → Produces (before l) (h ∷ hs) (form f.tree f.depth nest) → f.depth ≤ s.limit → nest ≤ s.room →
    (o : Token) (ts : List Token) (y : Formed × List Token) (found : Option Operator) → operator_among l (sign_of o.kind) ≡ found
    → reading.more_by s l p at line f o ts found more ≡ Ok y → Stands s.limit s.room (chain l) ((h ∷ hs) ++ o ∷ ts) y.0 y.1
more_by_sound s l p inner at line more go h hs f nest lined pf deep narrow o ts y None is e =
    begun_stands s.limit s.room l h hs (o ∷ ts) f nest pf deep narrow y e
more_by_sound s l p inner at line more go h hs f nest lined pf deep narrow o ts y (Some op) is e =
    go_on_sound s l line more go (repeats l) refl h hs (hs ++ o ∷ ts) lined (reading.operand_behind s p at line op f ts)
    (λ z r. let P : ℕ → Type 0 = λ n. reading.operand_behind s p at n op f ts ≡ Ok z in
    operation_sound s l p inner at h o hs f nest op pf narrow is ts z (subst P (sym lined) r))
    y e

more_sound : (s : Setting) (l : Level) (p : Reader) → Sound s.limit s.room (operand l) p → (n at line : ℕ) →
    MoreSound s l line (λ f ts. reading.more s l p n at line f ts)
unfolding reading.more
more_sound s l p inner zero at line h hs f nest lined pf deep narrow ts y e = begun_stands s.limit s.room l h hs ts f nest pf deep narrow y e
more_sound s l p inner (suc n) at line h hs f nest lined pf deep narrow [] y e = begun_stands s.limit s.room l h hs [] f nest pf deep narrow y e
more_sound s l p inner (suc n) at line h hs f nest lined pf deep narrow (o ∷ ts) y e =
    more_by_sound s l p inner at line (λ f ts. reading.more s l p n at line f ts) (more_sound s l p inner n at line) h hs f nest lined pf deep narrow o ts y
    (operator_among l (sign_of o.kind)) refl e

pub chain_sound : (s : Setting) (l : Level) (p : Reader) → Sound s.limit s.room (operand l) p → Sound s.limit s.room (chain l) (reading.chain s l p)
unfolding reading.chain
chain_sound s l p inner ts y e =
    let (x, ex, e1) = ok_then (p ts) (λ x. reading.more s l p (length x.1) (offset s.end ts) (line_of ts) x.0 x.1) y e in
    let sx = inner ts x ex in
    let b = nonempty (operand l) sx.front (form x.0.tree x.0.depth sx.nest) sx.produced in
    let whole : ts ≡ (b.first ∷ b.others) ++ x.1 = sx.split ∙ ap (λ l. l ++ x.1) b.is in
    let P : List Token → Type 0 = λ k. Stands s.limit s.room (chain l) k y.0 y.1 in
    let Q : List Token → Type 0 = λ k. Produces (before l) k (form x.0.tree x.0.depth sx.nest) in
    subst P (sym whole)
    (more_sound s l p inner (length x.1) (offset s.end ts) (line_of ts) b.first b.others x.0 sx.nest (sym (ap line_of whole))
    (subst Q b.is (operand_before l sx.front (form x.0.tree x.0.depth sx.nest) sx.produced)) sx.shallow sx.narrow x.1 y e1)

-- ---- all of it

pub disjunction_sound : (s : Setting) → 0 < s.limit → Sound s.limit (s.room - 1) expression s.inner →
    Sound s.limit s.room (chain level.Or) (reading.disjunction s)
unfolding reading.disjunction reading.conjunction reading.negation reading.comparison reading.sets reading.sums reading.products reading.unary
disjunction_sound s deep inner =
    chain_sound s level.Or _
    (chain_sound s level.And _
    (prefixes_sound s prefix.Not _ (chain_sound s level.Comparison _ (chain_sound s level.Sets _ (chain_sound s level.Sums _ (chain_sound s level.Products _
    (prefixes_sound s prefix.Minus _ (postfix_sound s deep inner))))))))

or_stands : (limit room : ℕ) (ts : List Token) (f : Formed) (rest : List Token) → Stands limit room (chain level.Or) ts f rest →
    Stands limit room expression ts f rest
or_stands limit room ts f rest s =
    record {
      front = s.front;
      nest = s.nest;
      split = s.split;
      produced = no_choice s.front (form f.tree f.depth s.nest) s.produced;
      shallow =
          s.shallow;
      narrow = s.narrow;
    }

pub expression_sound : (s : Setting) → 0 < s.limit → Sound s.limit (s.room - 1) expression s.inner → Sound s.limit s.room expression s.nested →
    Sound s.limit s.room expression (reading.expression s)
unfolding reading.expression
expression_sound s deep inner nested [] y e = or_stands s.limit s.room [] y.0 y.1 (disjunction_sound s deep inner [] y e)
expression_sound s deep inner nested (t ∷ ts) y e =
    elim (dotted (same_sign (sign_of t.kind) sign.If) (reading.chosen s t ts) (reading.disjunction s (t ∷ ts)) y e) [
      | inl (test, r) ↦ chosen_sound s nested t ts y (same_is (sign_of t.kind) sign.If test) r
      | inr (test, r) ↦ or_stands s.limit s.room (t ∷ ts) y.0 y.1 (disjunction_sound s deep inner (t ∷ ts) y r)
    ]

pub within_sound : (limit end : ℕ) → 0 < limit → (turns room : ℕ) → Sound limit room expression (reading.within limit end turns room)
unfolding reading.within
within_sound limit end deep zero room ts y e = let wrong : ⊥ = cc in absurd wrong
within_sound limit end deep (suc turns) room ts y e =
    expression_sound (reading.setting limit end turns room) deep (within_sound limit end deep turns (room - 1)) (within_sound limit end deep turns room) ts y e

-- ---- whole formulas

nothing_left : (end : ℕ) (f : Formed) (rest : List Token) (e : Tree) → ◌≡◌ {A = Answer Tree} (reading.nothing_behind end (f, rest)) (Ok e) →
    (rest ≡ []) × (f.tree ≡ e)
nothing_left end f [] e h = (refl, cc)
nothing_left end f (t ∷ ts) e h = let wrong : ⊥ = cc in absurd wrong

pub whole_sound : (end : ℕ) (ts : List Token) (e : Tree) → reading.whole_formula end ts ≡ Ok e → IsFormula ts e
unfolding reading.formula_at
whole_sound end ts e h =
    let (x, ex, e1) = ok_then (reading.formula_at 32 32 end ts) (reading.nothing_behind end) e h in
    let s = within_sound 32 end (omega arith) (length ts + 1) 32 ts x ex in
    let (none, is) = nothing_left end x.0 x.1 e e1 in
    let whole : s.front ≡ ts = sym (append-nil s.front) ∙ ap (λ l. s.front ++ l) (sym none) ∙ sym s.split in
    let P : List Token → Type 0 = λ l. Produces expression l (form e x.0.depth s.nest) in
    let Q : Tree → Type 0 = λ t. Produces expression s.front (form t x.0.depth s.nest) in
    record { depth = x.0.depth; nest = s.nest; produced = subst P whole (subst Q is s.produced); shallow = s.shallow; narrow = s.narrow }

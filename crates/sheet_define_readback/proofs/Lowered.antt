-- The formulas that tokens stand for, so many lines further down.
use Rattle.std.proofs.Common.{◌≡◌, ℕ, ◌+◌, max, List, [], ◌∷◌, ◌++◌, map, refl, sym, ap, ap₂, ◌∙◌, subst, true, false}
use Rattle.std.specs.Prelude.{Some}
use Rattle.std.proofs.lemmas.List.{map-append}
use Rattle.sheet_syntax_trees.specs.declared.token.Token.{Token}
use Rattle.sheet_syntax_trees.specs.declared.token.TokenKind.{TokenKind}
use Rattle.sheet_syntax_trees.specs.declared.token.TokenKind.TheVariants as kind
use Rattle.sheet_syntax_trees.specs.declared.sign.Sign.{Sign}
use Rattle.sheet_syntax_trees.specs.declared.sign.Sign.TheVariants as sign
use Rattle.sheet_syntax_trees.specs.declared.operators.Operator.{Operator}
use Rattle.sheet_syntax_trees.specs.declared.operators.Function.{Function}
use Rattle.sheet_syntax_trees.specs.declared.operators.Gathering.{Gathering}
use Rattle.sheet_syntax_trees.specs.declared.operators.Gathering.TheVariants as gathering
use Rattle.sheet_syntax_trees.specs.declared.operators.Quantifier.{Quantifier}
use Rattle.sheet_syntax_trees.specs.declared.operators.Prefix.{Prefix}
use Rattle.sheet_syntax_trees.specs.declared.operators.Prefix.TheVariants as prefix
use Rattle.sheet_syntax_trees.specs.declared.tree.Tree.{Tree, Number, Text, Truth, Root, This, Caller, Operator as OperatorWord, Name, Child', Up', Negate'}
use Rattle.sheet_syntax_trees.specs.declared.tree.Tree.{Not', Binary', If', Set', Call', Gather', GatherWhere', Test', Row_of-Tree, end_of-Tree as end}
use Rattle.sheet_syntax_trees.specs.declared.tree.Tree.{more_of-Tree as more}
use Rattle.sheet_syntax_trees.specs.declared.tree.Tree.TheVariants as tree
use Rattle.sheet_syntax_trees.specs.Signs.{sign_of}
use Rattle.sheet_syntax_trees.specs.Operators.{prefixed}
use Rattle.sheet_syntax_trees.specs.Grammar.{Nonterminal, expression, chain, postfix, atom, Form, form, Parts, Produces, AreParts, Gathers, a_choice, no_choice}
use Rattle.sheet_syntax_trees.specs.Grammar.{an_operand, an_operation, a_prefix, no_prefix, no_step, a_child, an_up, a_leaf, in_parentheses, no_set, a_set}
use Rattle.sheet_syntax_trees.specs.Grammar.{a_comprehension, a_sum, a_call, a_test, one_part, more_parts, all_values, chosen_values}
use Rattle.sheet_syntax_trees.specs.Reading.{leaf, leaf_of, line_of}
use Rattle.sheet_syntax_trees.specs.Texts.{on_one_line, all_on_one_line}
use Rattle.sheet_syntax_print.proofs.Laws.{line-Child, line-Up, line-Negate, line-Not, line-Binary, line-If, line-Call, line-Gather, line-GatherWhere}
use Rattle.sheet_syntax_print.proofs.Laws.{line-Test, line-Set}
use Rattle.sheet_define_readback.proofs.Moved.{down}

-- the tokens stand for this form, but for the lines
pub record Placed (nt : Nonterminal) (ts : List Token) (f : Form) : Type 0 where
  pub tree : Tree
  pub produced : Produces nt ts (form tree f.depth f.nest)
  pub same : on_one_line tree ≡ on_one_line f.tree

record PartsPlaced (ts : List Token) (p : Parts) : Type 0 where
  trees : List Tree
  are : AreParts ts (record { trees = trees; depth = p.depth; nest = p.nest })
  same : map on_one_line trees ≡ map on_one_line p.trees

record GathersPlaced (line : ℕ) (g : Gathering) (ts : List Token) (f : Form) : Type 0 where
  tree : Tree
  gathers : Gathers line g ts (form tree f.depth f.nest)
  same : on_one_line tree ≡ on_one_line f.tree

-- ---- forms of the same parts but for the lines

same-If : (l m : ℕ) (c x y d v w : Tree) → on_one_line c ≡ on_one_line d → on_one_line x ≡ on_one_line v → on_one_line y ≡ on_one_line w →
    on_one_line (tree.If l c x y) ≡ on_one_line (tree.If m d v w)
same-If l m c x y d v w a b e = let g = line-If l c x y in let h = line-If m d v w in cc

same-Binary : (l m : ℕ) (op : Operator) (x y v w : Tree) → on_one_line x ≡ on_one_line v → on_one_line y ≡ on_one_line w →
    on_one_line (tree.Binary l op x y) ≡ on_one_line (tree.Binary m op v w)
same-Binary l m op x y v w a b = let g = line-Binary l op x y in let h = line-Binary m op v w in cc

same_prefixed : (p : Prefix) (l m : ℕ) (x v : Tree) → on_one_line x ≡ on_one_line v → on_one_line (prefixed p l x) ≡ on_one_line (prefixed p m v)
same_prefixed prefix.Minus l m x v a = let g = line-Negate l x in let h = line-Negate m v in cc
same_prefixed prefix.Not l m x v a = let g = line-Not l x in let h = line-Not m v in cc

same-Child : (l m : ℕ) (x v : Tree) (name : List ℕ) → on_one_line x ≡ on_one_line v → on_one_line (tree.Child l x name) ≡ on_one_line (tree.Child m v name)
same-Child l m x v name a = let g = line-Child l x name in let h = line-Child m v name in cc

same-Up : (l m : ℕ) (x v : Tree) → on_one_line x ≡ on_one_line v → on_one_line (tree.Up l x) ≡ on_one_line (tree.Up m v)
same-Up l m x v a = let g = line-Up l x in let h = line-Up m v in cc

same-Call : (l m : ℕ) (f : Function) (x v : Tree) → on_one_line x ≡ on_one_line v → on_one_line (tree.Call l f x) ≡ on_one_line (tree.Call m f v)
same-Call l m f x v a = let g = line-Call l f x in let h = line-Call m f v in cc

same-Gather : (l m : ℕ) (g : Gathering) (name : List ℕ) (x y v w : Tree) → on_one_line x ≡ on_one_line v → on_one_line y ≡ on_one_line w →
    on_one_line (tree.Gather l g x name y) ≡ on_one_line (tree.Gather m g v name w)
same-Gather l m g name x y v w a b = let e = line-Gather l g x name y in let h = line-Gather m g v name w in cc

same-GatherWhere : (l m : ℕ) (g : Gathering) (name : List ℕ) (x y z v w u : Tree) → on_one_line x ≡ on_one_line v → on_one_line y ≡ on_one_line w →
    on_one_line z ≡ on_one_line u
    → on_one_line (tree.GatherWhere l g x name y z) ≡ on_one_line (tree.GatherWhere m g v name w u)
same-GatherWhere l m g name x y z v w u a b c = let e = line-GatherWhere l g x name y z in let h = line-GatherWhere m g v name w u in cc

same-Test : (l m : ℕ) (q : Quantifier) (name : List ℕ) (x y v w : Tree) → on_one_line x ≡ on_one_line v → on_one_line y ≡ on_one_line w →
    on_one_line (tree.Test l q name x y) ≡ on_one_line (tree.Test m q name v w)
same-Test l m q name x y v w a b = let e = line-Test l q name x y in let h = line-Test m q name v w in cc

same-Set : (l m : ℕ) (xs ys : List Tree) → map on_one_line xs ≡ map on_one_line ys → on_one_line (tree.Set l xs) ≡ on_one_line (tree.Set m ys)
same-Set l m xs ys a = let e = line-Set l xs in let h = line-Set m ys in cc

-- ---- one line twice

mutual
  pub twice : (e : Tree) → on_one_line (on_one_line e) ≡ on_one_line e
  twice (Number _ n) = refl
  twice (Text _ content) = refl
  twice (Truth _ b) = refl
  twice (Root _) = refl
  twice (This _) = refl
  twice (Caller _) = refl
  twice (OperatorWord _) = refl
  twice (Name _ name) = refl
  twice (Child' _ _ (more e end) name) = line-Child 1 (on_one_line e) name ∙ ap (λ x. tree.Child 1 x name) (twice e)
  twice (Up' _ _ (more e end)) = line-Up 1 (on_one_line e) ∙ ap (tree.Up 1) (twice e)
  twice (Negate' _ _ (more e end)) = line-Negate 1 (on_one_line e) ∙ ap (tree.Negate 1) (twice e)
  twice (Not' _ _ (more e end)) = line-Not 1 (on_one_line e) ∙ ap (tree.Not 1) (twice e)
  twice (Binary' _ op _ (more a end) _ (more b end)) = let e = line-Binary 1 op (on_one_line a) (on_one_line b) in let g = twice a in let h = twice b in cc
  twice (If' _ _ (more c end) _ (more a end) _ (more b end)) = let e = line-If 1 (on_one_line c) (on_one_line a) (on_one_line b) in let f = twice c in
      let g = twice a in let h = twice b in cc
  twice (Set' _ _ parts) = line-Set 1 (all_on_one_line parts) ∙ ap (tree.Set 1) (all_twice parts)
  twice (Call' _ f _ (more e end)) = line-Call 1 f (on_one_line e) ∙ ap (tree.Call 1 f) (twice e)
  twice (Gather' _ g _ (more f end) x _ (more s end)) = let e = line-Gather 1 g (on_one_line f) x (on_one_line s) in let p = twice f in let q = twice s in cc
  twice (GatherWhere' _ g _ (more f end) x _ (more s end) _ (more p end)) =
      let e = line-GatherWhere 1 g (on_one_line f) x (on_one_line s) (on_one_line p) in let u = twice f in let v = twice s in let w = twice p in cc
  twice (Test' _ q x _ (more s end) _ (more p end)) = let e = line-Test 1 q x (on_one_line s) (on_one_line p) in let u = twice s in let v = twice p in cc

  all_twice : {m : _} (r : Row_of-Tree m) → map on_one_line (all_on_one_line r) ≡ all_on_one_line r
  all_twice end = refl
  all_twice (more e rest) = ap₂ (λ x xs. x ∷ xs) (twice e) (all_twice rest)

-- ---- formulas of one token

leaf_sign : (l m : ℕ) (s : Sign) (e : Tree) → leaf_of l s ≡ Some e → (d : Tree) × (leaf_of m s ≡ Some d) × (on_one_line d ≡ on_one_line e)
leaf_sign l m sign.True e h = (tree.Truth m true, refl, (let same : tree.Truth l true ≡ e = cc in ap on_one_line same))
leaf_sign l m sign.False e h = (tree.Truth m false, refl, (let same : tree.Truth l false ≡ e = cc in ap on_one_line same))
leaf_sign l m sign.Root e h = (tree.Root m, refl, (let same : tree.Root l ≡ e = cc in ap on_one_line same))
leaf_sign l m sign.This e h = (tree.This m, refl, (let same : tree.This l ≡ e = cc in ap on_one_line same))
leaf_sign l m sign.Caller e h = (tree.Caller m, refl, (let same : tree.Caller l ≡ e = cc in ap on_one_line same))
leaf_sign l m sign.Operator e h = (tree.Operator m, refl, (let same : tree.Operator l ≡ e = cc in ap on_one_line same))
leaf_sign l m _ e h = let wrong : ⊥ = cc in absurd wrong

leaf_lower : (l m : ℕ) (k : TokenKind) (e : Tree) → leaf l k ≡ Some e → (d : Tree) × (leaf m k ≡ Some d) × (on_one_line d ≡ on_one_line e)
leaf_lower l m (kind.Name name) e h = (tree.Name m name, refl, (let same : tree.Name l name ≡ e = cc in ap on_one_line same))
leaf_lower l m (kind.Reserved word) e h = leaf_sign l m (sign_of (kind.Reserved word)) e h
leaf_lower l m (kind.Number z) e h = (tree.Number m z, refl, (let same : tree.Number l z ≡ e = cc in ap on_one_line same))
leaf_lower l m (kind.Text content) e h = (tree.Text m content, refl, (let same : tree.Text l content ≡ e = cc in ap on_one_line same))
leaf_lower l m (kind.Symbol s) e h = leaf_sign l m (sign_of (kind.Symbol s)) e h

-- ---- lists of tokens, in pieces

two_pieces : (n : ℕ) (xs : List Token) (o : Token) (ys : List Token) → map (down n) xs ++ down n o ∷ map (down n) ys ≡ map (down n) (xs ++ o ∷ ys)
two_pieces n xs o ys = sym (map-append (down n) xs (o ∷ ys))

three_pieces : (n : ℕ) (xs : List Token) (o : Token) (ys : List Token) (p : Token) (zs : List Token) →
    map (down n) xs ++ down n o ∷ (map (down n) ys ++ down n p ∷ map (down n) zs) ≡ map (down n) (xs ++ o ∷ (ys ++ p ∷ zs))
three_pieces n xs o ys p zs = ap (λ l. map (down n) xs ++ down n o ∷ l) (two_pieces n ys p zs) ∙ two_pieces n xs o (ys ++ p ∷ zs)

-- ---- all forms

mutual
  pub lower : (n : ℕ) (nt : Nonterminal) (ts : List Token) (f : Form) → Produces nt ts f → Placed nt (map (down n) ts) f
  lower n _ _ _ (a_choice i t e cs xs ys c x y a b d g h k) =
      let p = lower n _ cs c b in
      let q = lower n _ xs x g in
      let r = lower n _ ys y k in
      subst (λ l. Placed expression (down n i ∷ l)
      (form (tree.If i.line c.tree x.tree y.tree) (max c.depth (max x.depth y.depth) + 1) (max c.nest (max x.nest y.nest)))) (three_pieces n cs t xs e ys)
      (record {
        tree = tree.If (i.line + n) p.tree q.tree r.tree;
        produced = a_choice (down n i) (down n t) (down n e) (map (down n) cs) (map (down n) xs) (map (down n) ys) (form p.tree c.depth c.nest)
            (form q.tree x.depth x.nest) (form r.tree y.depth y.nest) a p.produced d q.produced h r.produced;
        same = same-If (i.line + n) i.line _ _ _ _ _ _ p.same q.same r.same;
      })
  lower n _ _ _ (no_choice ts f p) = let q = lower n _ ts f p in record { tree = q.tree; produced = no_choice _ _ q.produced; same = q.same }
  lower n _ _ _ (an_operand l ts f p) = let q = lower n _ ts f p in record { tree = q.tree; produced = an_operand l _ _ q.produced; same = q.same }
  lower n _ _ _ (an_operation l op o xs ys x y a is b) =
      let p = lower n _ xs x a in
      let q = lower n _ ys y b in
      subst (λ l'. Placed (chain l) l' (form (tree.Binary (line_of xs) op x.tree y.tree) (max x.depth y.depth + 1) (max x.nest y.nest))) (two_pieces n xs o ys)
      (record {
        tree = tree.Binary (line_of (map (down n) xs)) op p.tree q.tree;
        produced = an_operation l op (down n o) (map (down n) xs) (map (down n) ys) (form p.tree x.depth x.nest) (form q.tree y.depth y.nest) p.produced is
            q.produced;
        same = same-Binary (line_of (map (down n) xs)) (line_of xs) _ _ _ _ _ p.same q.same;
      })
  lower n _ _ _ (a_prefix p t ts f is a) =
      let q = lower n _ ts f a in
      record {
        tree = prefixed p (t.line + n) q.tree;
        produced = a_prefix p (down n t) (map (down n) ts) (form q.tree f.depth f.nest) is q.produced;
        same = same_prefixed p (t.line + n) t.line _ _ q.same;
      }
  lower n _ _ _ (no_prefix p ts f a) = let q = lower n _ ts f a in record { tree = q.tree; produced = no_prefix p _ _ q.produced; same = q.same }
  lower n _ _ _ (no_step ts f p) = let q = lower n _ ts f p in record { tree = q.tree; produced = no_step _ _ q.produced; same = q.same }
  lower n _ _ _ (a_child d t name ts f a b is) =
      let q = lower n _ ts f a in
      subst (λ l. Placed postfix l (form (tree.Child (line_of ts) f.tree name) (f.depth + 1) f.nest)) (two_pieces n ts d (t ∷ []))
      (record {
        tree = tree.Child (line_of (map (down n) ts)) q.tree name;
        produced = a_child (down n d) (down n t) name (map (down n) ts) (form q.tree f.depth f.nest) q.produced b is;
        same = same-Child (line_of (map (down n) ts)) (line_of ts) _ _ _ q.same;
      })
  lower n _ _ _ (an_up d t ts f a b is) =
      let q = lower n _ ts f a in
      subst (λ l. Placed postfix l (form (tree.Up (line_of ts) f.tree) (f.depth + 1) f.nest)) (two_pieces n ts d (t ∷ []))
      (record {
        tree = tree.Up (line_of (map (down n) ts)) q.tree;
        produced = an_up (down n d) (down n t) (map (down n) ts) (form q.tree f.depth f.nest) q.produced b is;
        same = same-Up (line_of (map (down n) ts)) (line_of ts) _ _ q.same;
      })
  lower n _ _ _ (a_leaf t e is) =
      let (d, known, same) = leaf_lower t.line (t.line + n) t.kind e is in
      record { tree = d; produced = a_leaf (down n t) d known; same = same }
  lower n _ _ _ (in_parentheses o c ts f a b d) =
      let q = lower n _ ts f b in
      subst (λ l. Placed atom (down n o ∷ l) (form f.tree f.depth (f.nest + 1))) (two_pieces n ts c [])
      (record { tree = q.tree; produced = in_parentheses (down n o) (down n c) (map (down n) ts) (form q.tree f.depth f.nest) a q.produced d; same = q.same })
  lower n _ _ _ (no_set o c a b) =
      record { tree = tree.Set (o.line + n) []; produced = no_set (down n o) (down n c) a b; same = same-Set (o.line + n) o.line [] [] refl }
  lower n _ _ _ (a_set o c ts p a b d) =
      let q = lower_parts n ts p b in
      subst (λ l. Placed atom (down n o ∷ l) (form (tree.Set o.line p.trees) (p.depth + 1) (p.nest + 1))) (two_pieces n ts c [])
      (record {
        tree = tree.Set (o.line + n) q.trees;
        produced = a_set (down n o) (down n c) (map (down n) ts) (record { trees = q.trees; depth = p.depth; nest = p.nest }) a q.are d;
        same = same-Set (o.line + n) o.line _ _ q.same;
      })
  lower n _ _ _ (a_comprehension o c ts g a b d) =
      let q = lower_gathers n o.line (o.line + n) gathering.Union ts g b in
      subst (λ l. Placed atom (down n o ∷ l) (form g.tree (g.depth + 1) (g.nest + 1))) (two_pieces n ts c [])
      (record { tree = q.tree; produced = a_comprehension (down n o) (down n c) (map (down n) ts) (form q.tree g.depth g.nest) a q.gathers d; same = q.same })
  lower n _ _ _ (a_sum w o c ts g a b d e) =
      let q = lower_gathers n w.line (w.line + n) gathering.Sum ts g d in
      subst (λ l. Placed atom (down n w ∷ down n o ∷ l) (form g.tree (g.depth + 1) (g.nest + 1))) (two_pieces n ts c [])
      (record {
        tree = q.tree;
        produced = a_sum (down n w) (down n o) (down n c) (map (down n) ts) (form q.tree g.depth g.nest) a b q.gathers e;
        same = q.same;
      })
  lower n _ _ _ (a_call w o c h ts f a b d e) =
      let q = lower n _ ts f d in
      subst (λ l. Placed atom (down n w ∷ down n o ∷ l) (form (tree.Call w.line h f.tree) (f.depth + 1) (f.nest + 1))) (two_pieces n ts c [])
      (record {
        tree = tree.Call (w.line + n) h q.tree;
        produced = a_call (down n w) (down n o) (down n c) h (map (down n) ts) (form q.tree f.depth f.nest) a b q.produced e;
        same = same-Call (w.line + n) w.line _ _ _ q.same;
      })
  lower n _ _ _ (a_test w o v i b c k name ss ps x p a1 a2 a3 a4 a5 a6 a7 a8) =
      let q = lower n _ ss x a5 in
      let r = lower n _ ps p a7 in
      subst (λ l. Placed atom (down n w ∷ down n o ∷ down n v ∷ down n i ∷ l)
      (form (tree.Test w.line k name x.tree p.tree) (max x.depth p.depth + 1) (max x.nest p.nest + 1))) (three_pieces n ss b ps c [])
      (record {
        tree = tree.Test (w.line + n) k name q.tree r.tree;
        produced = a_test (down n w) (down n o) (down n v) (down n i) (down n b) (down n c) k name (map (down n) ss) (map (down n) ps)
            (form q.tree x.depth x.nest) (form r.tree p.depth p.nest) a1 a2 a3 a4 q.produced a6 r.produced a8;
        same = same-Test (w.line + n) w.line _ _ _ _ _ _ q.same r.same;
      })

  lower_parts : (n : ℕ) (ts : List Token) (p : Parts) → AreParts ts p → PartsPlaced (map (down n) ts) p
  lower_parts n _ _ (one_part ts f a) =
      let q = lower n _ ts f a in
      record { trees = q.tree ∷ []; are = one_part _ (form q.tree f.depth f.nest) q.produced; same = ap (λ e. e ∷ []) q.same }
  lower_parts n _ _ (more_parts k xs ys p y a is b) =
      let q = lower_parts n xs p a in
      let r = lower n _ ys y b in
      subst (λ l. PartsPlaced l (record { trees = p.trees ++ y.tree ∷ []; depth = max p.depth y.depth; nest = max p.nest y.nest })) (two_pieces n xs k ys)
      (record {
        trees = q.trees ++ r.tree ∷ [];
        are = more_parts (down n k) (map (down n) xs) (map (down n) ys) (record { trees = q.trees; depth = p.depth; nest = p.nest })
            (form r.tree y.depth y.nest) q.are is r.produced;
        same = map-append on_one_line q.trees (r.tree ∷ []) ∙ ap (λ l. l ++ on_one_line r.tree ∷ []) q.same ∙ ap (λ e. map on_one_line p.trees ++ e ∷ []) r.same
            ∙ sym (map-append on_one_line p.trees (y.tree ∷ []));
      })

  lower_gathers : (n l m : ℕ) (g : Gathering) (ts : List Token) (f : Form) → Gathers l g ts f → GathersPlaced m g (map (down n) ts) f
  lower_gathers n _ m _ _ _ (all_values l g k v i name fs ss f x a1 a2 a3 a4 a5) =
      let q = lower n _ fs f a1 in
      let r = lower n _ ss x a5 in
      subst (λ t. GathersPlaced m g t (form (tree.Gather l g f.tree name x.tree) (max f.depth x.depth) (max f.nest x.nest))) (two_pieces n fs k (v ∷ i ∷ ss))
      (record {
        tree = tree.Gather m g q.tree name r.tree;
        gathers = all_values m g (down n k) (down n v) (down n i) name (map (down n) fs) (map (down n) ss) (form q.tree f.depth f.nest)
            (form r.tree x.depth x.nest) q.produced a2 a3 a4 r.produced;
        same = same-Gather m l _ _ _ _ _ _ q.same r.same;
      })
  lower_gathers n _ m _ _ _ (chosen_values l g k v i b name fs ss ps f x p a1 a2 a3 a4 a5 a6 a7) =
      let q = lower n _ fs f a1 in
      let r = lower n _ ss x a5 in
      let s = lower n _ ps p a7 in
      let split : map (down n) fs ++ down n k ∷ down n v ∷ down n i ∷ (map (down n) ss ++ down n b ∷ map (down n) ps) ≡ map (down n)
      (fs ++ k ∷ v ∷ i ∷ (ss ++ b ∷ ps)) =
      ap (λ t. map (down n) fs ++ down n k ∷ down n v ∷ down n i ∷ t) (two_pieces n ss b ps) ∙ two_pieces n fs k (v ∷ i ∷ (ss ++ b ∷ ps)) in
      subst (λ t. GathersPlaced m g t
      (form (tree.GatherWhere l g f.tree name x.tree p.tree) (max f.depth (max x.depth p.depth)) (max f.nest (max x.nest p.nest)))) split
      (record {
        tree = tree.GatherWhere m g q.tree name r.tree s.tree;
        gathers = chosen_values m g (down n k) (down n v) (down n i) (down n b) name (map (down n) fs) (map (down n) ss) (map (down n) ps)
            (form q.tree f.depth f.nest) (form r.tree x.depth x.nest) (form s.tree p.depth p.nest) q.produced a2 a3 a4 r.produced a6 s.produced;
        same = same-GatherWhere m l _ _ _ _ _ _ _ _ q.same r.same s.same;
      })

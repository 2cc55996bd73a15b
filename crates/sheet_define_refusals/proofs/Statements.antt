-- Statements and blocks stop at tokens that go on with none.
use Rattle.std.proofs.Common.{◌≡◌, ℕ, zero, suc, List, [], ◌∷◌, length, Some, None, Ok, Err, refl, sym, ap, ◌∙◌, subst, arith}
use Rattle.std.specs.Prelude.{Option}
use Rattle.sheet_syntax_trees.specs.declared.token.Token.{Token}
use Rattle.sheet_syntax_trees.specs.declared.token.SyntaxRefusal.TheVariants.{Expected, TooNested}
use Rattle.sheet_syntax_trees.specs.declared.tree.Tree.{Tree}
use Rattle.sheet_syntax_trees.specs.Reading.{Answer, ◌>>=◌, offset}
use Rattle.sheet_syntax_trees.proofs.Answering.{ok_then}
use Rattle.sheet_define_data.specs.declared.statement.Target.{Target}
use Rattle.sheet_define_data.specs.declared.statement.Statement.{Statement}
use Rattle.sheet_define_data.specs.declared.statement.Statement.TheVariants as statement
use Rattle.sheet_define_reading.specs.declared.mark.Mark.{Mark}
use Rattle.sheet_define_reading.specs.declared.mark.Mark.TheVariants as mark
use Rattle.sheet_define_reading.specs.Marks.{mark_of}
use Rattle.sheet_define_reading.specs.Reading as reading
use Rattle.sheet_define_reading.specs.Reading.{Bounds, Reader, Turn, after, expect, with_front, optional, mark_at}
use Rattle.sheet_define_refusals.proofs.Locality.{Ordered, ordered_behind, Det, Reads, Any, Loose, det_weaken, det_cons, det_nested, det_ok, det_last}
use Rattle.sheet_define_refusals.proofs.Locality.{det_steady, det_bind, det_seq, det_mark, det_env, head_of, Element, element, no_element}
use Rattle.sheet_define_refusals.proofs.Words.{wide, apart, det_name, text_det, same_after, after_same, after_is}
use Rattle.sheet_define_refusals.proofs.Formulas.{formula_det}
use Rattle.sheet_define_refusals.proofs.Targets.{target_det}
use Rattle.sheet_define_refusals.proofs.Blocks.{Ends, mark_loose, spelled_loose, Many, many_det}

module _ (end d n : ℕ) where
  abbrev W : Bounds
  W = wide end d n

  abbrev U : Bounds
  U = reading.usual end

  -- ---- a formula, and what stands behind it

  pub formula_with : (Y : Type 0) (ts : List Token) → Ordered end ts →
      Det Tree end (reading.formula U ts) (Reads Y Tree Loose (λ e vs. reading.formula W vs)) ts
  formula_with Y ts order = det_steady Tree Y Tree end Loose (reading.formula U ts) (λ vs. reading.formula W vs) ts (formula_det end d n ts order)

  pub last_formula : (B Y D : Type 0) (k : Tree → B) (f : Y → Tree → D) (ts : List Token) → Ordered end ts →
      Det B end (reading.formula U ts >>= (λ v. Ok (k v.0, v.1))) (Reads Y D Loose (λ e vs. reading.formula W vs >>= (λ v. Ok (f e v.0, v.1)))) ts
  last_formula B Y D k f ts order =
      det_bind Tree B Y Tree D end Loose Loose (reading.formula U ts) (λ v. Ok (k v.0, v.1)) (λ e vs. reading.formula W vs) (λ e v. Ok (f e v.0, v.1)) ts order
      (formula_with Y ts order)
      (λ e v us z ws h l. let both : (f e v, us) ≡ (z, ws) = cc in subst Loose (sym (ap (λ (p : D × List Token). p.1) both)) l)
      (λ v us e o. det_last B (Y × Tree) D end (k v) Loose (λ e. f e.0 e.1) us)

  -- a formula and a mark with which none goes on
  pub formula_mark : (B Y D : Type 0) (m : Mark) → Ends m →
      (L : List Token → Type 0) (k : Tree → List Token → Answer (B × List Token)) (g : Y → Tree → Reader D) (ts : List Token) → Ordered end ts
      → ((v : Tree) (us : List Token) → Ordered end us → Det B end (k v us) (Reads (Y × Tree) D L (λ e vs. g e.0 e.1 vs)) us)
      → Det B end (reading.formula U ts >>= (λ v. expect end m v.1 >>= (λ a. k v.0 a)))
      (Reads Y D L (λ e vs. reading.formula W vs >>= (λ v. expect end m v.1 >>= (λ a. g e v.0 a)))) ts
  formula_mark B Y D m h L k g ts order next =
      det_bind Tree B Y Tree D end Loose L (reading.formula U ts) (λ v. expect end m v.1 >>= (λ a. k v.0 a)) (λ e vs. reading.formula W vs)
      (λ e v. expect end m v.1 >>= (λ a. g e v.0 a)) ts order (formula_with Y ts order)
      (λ e v us z ws r l. mark_loose end m h us (λ a. g e v a) (z, ws) r)
      (λ v us e o. det_mark B (Y × Tree) D end m L (λ a. k v a) (λ e a. g e.0 e.1 a) us o (λ t xs split is o1. next v xs o1))

  pub target_with : (Y : Type 0) (ts : List Token) → Ordered end ts → Det Target end (reading.target U ts) (Reads Y Target Any (λ e vs. reading.target W vs)) ts
  target_with Y ts order = det_steady Target Y Target end Any (reading.target U ts) (λ vs. reading.target W vs) ts (target_det end d n ts order)

  pub last_target : (B Y D : Type 0) (k : Target → B) (f : Y → Target → D) (ts : List Token) → Ordered end ts →
      Det B end (reading.target U ts >>= (λ v. Ok (k v.0, v.1))) (Reads Y D Loose (λ e vs. reading.target W vs >>= (λ v. Ok (f e v.0, v.1)))) ts
  last_target B Y D k f ts order =
      det_seq Target B Y Target D end Loose (reading.target U ts) (λ v. Ok (k v.0, v.1)) (λ e vs. reading.target W vs) (λ e v. Ok (f e v.0, v.1)) ts order
      (target_with Y ts order)
      (λ v us e o. det_last B (Y × Target) D end (k v) Loose (λ e. f e.0 e.1) us)

  pub brace_ends : Ends mark.OpenBrace
  brace_ends = record { some = omega arith; ends = omega arith }

  -- ---- statements

  let_det : (w : Token) (ts : List Token) → Ordered end ts →
      Det Statement end (reading.let_statement U w ts) (Reads ℕ Statement Loose (λ e vs. reading.let_statement W w vs)) ts
  unfolding reading.let_statement
  let_det w ts order =
      det_name Statement ℕ Statement end Loose _
      (λ e name. expect end mark.Equals name.1 >>= (λ a. reading.formula W a >>= (λ v. Ok (statement.Let w.line name.0 v.0, v.1)))) ts order
      (λ name us shorter o.
      det_mark Statement ℕ Statement end mark.Equals Loose _ (λ e a. reading.formula W a >>= (λ v. Ok (statement.Let w.line name v.0, v.1))) us o
      (λ t xs split is o1.
      last_formula Statement ℕ Statement (λ v. statement.Let w.line name v) (λ e v. statement.Let w.line name v) xs o1))

  set_det : (w : Token) (ts : List Token) → Ordered end ts →
      Det Statement end (reading.set_statement U w ts) (Reads ℕ Statement Loose (λ e vs. reading.set_statement W w vs)) ts
  unfolding reading.set_statement
  set_det w ts order =
      det_seq Target Statement ℕ Target Statement end Loose (reading.target U ts) _ (λ e vs. reading.target W vs)
      (λ e t. expect end mark.Equals t.1 >>= (λ a. reading.formula W a >>= (λ v. Ok (statement.Set w.line t.0 v.0, v.1)))) ts order (target_with ℕ ts order)
      (λ t us e o. det_mark Statement (ℕ × Target) Statement end mark.Equals Loose _
      (λ e a. reading.formula W a >>= (λ v. Ok (statement.Set w.line e.1 v.0, v.1))) us o (λ u xs split is o1.
      last_formula Statement (ℕ × Target) Statement (λ v. statement.Set w.line t v) (λ e v. statement.Set w.line e.1 v) xs o1))

  add_det : (w : Token) (ts : List Token) → Ordered end ts →
      Det Statement end (reading.add_statement U w ts) (Reads ℕ Statement Loose (λ e vs. reading.add_statement W w vs)) ts
  unfolding reading.add_statement
  add_det w ts order =
      formula_mark Statement ℕ Statement mark.To (record { some = omega arith; ends = omega arith }) Loose
      (λ v a. reading.target U a >>= (λ t. Ok (statement.Add w.line v t.0, t.1)))
      (λ e v a. reading.target W a >>= (λ t. Ok (statement.Add w.line v t.0, t.1))) ts order
      (λ v us o. last_target Statement (ℕ × Tree) Statement (λ t. statement.Add w.line v t) (λ e t. statement.Add w.line e.1 t) us o)

  remove_det : (w : Token) (ts : List Token) → Ordered end ts →
      Det Statement end (reading.remove_statement U w ts) (Reads ℕ Statement Loose (λ e vs. reading.remove_statement W w vs)) ts
  unfolding reading.remove_statement
  remove_det w ts order =
      formula_mark Statement ℕ Statement mark.From (record { some = omega arith; ends = omega arith }) Loose
      (λ v a. reading.target U a >>= (λ t. Ok (statement.Remove w.line v t.0, t.1)))
      (λ e v a. reading.target W a >>= (λ t. Ok (statement.Remove w.line v t.0, t.1))) ts order
      (λ v us o. last_target Statement (ℕ × Tree) Statement (λ t. statement.Remove w.line v t) (λ e t. statement.Remove w.line e.1 t) us o)

  new_det : (w : Token) (ts : List Token) → Ordered end ts →
      Det Statement end (reading.new_statement U w ts) (Reads ℕ Statement Loose (λ e vs. reading.new_statement W w vs)) ts
  unfolding reading.new_statement
  new_det w ts order =
      det_name Statement ℕ Statement end Loose _
      (λ e name. expect end mark.Equals name.1 >>= (λ a. reading.target W a >>= (λ v. Ok (statement.New w.line name.0 v.0, v.1)))) ts order
      (λ name us shorter o.
      det_mark Statement ℕ Statement end mark.Equals Loose _ (λ e a. reading.target W a >>= (λ v. Ok (statement.New w.line name v.0, v.1))) us o
      (λ t xs split is o1.
      last_target Statement ℕ Statement (λ v. statement.New w.line name v) (λ e v. statement.New w.line name v) xs o1))

  delete_det : (w : Token) (ts : List Token) → Ordered end ts →
      Det Statement end (reading.delete_statement U w ts) (Reads ℕ Statement Loose (λ e vs. reading.delete_statement W w vs)) ts
  unfolding reading.delete_statement
  delete_det w ts order = last_formula Statement ℕ Statement (λ v. statement.Delete w.line v) (λ e v. statement.Delete w.line v) ts order

  check_det : (w : Token) (ts : List Token) → Ordered end ts →
      Det Statement end (reading.check_statement U w ts) (Reads ℕ Statement Loose (λ e vs. reading.check_statement W w vs)) ts
  unfolding reading.check_statement
  check_det w ts order =
      formula_mark Statement ℕ Statement mark.Else (record { some = omega arith; ends = omega arith }) Loose
      (λ v a. reading.text_at end a >>= (λ m. Ok (statement.Check w.line v m.0, m.1)))
      (λ e v a. reading.text_at end a >>= (λ m. Ok (statement.Check w.line v m.0, m.1))) ts order
      (λ v us o. det_seq (List ℕ) Statement (ℕ × Tree) (List ℕ) Statement end Loose (reading.text_at end us) (λ m. Ok (statement.Check w.line v m.0, m.1))
      (λ e vs. reading.text_at end vs) (λ e m. Ok (statement.Check w.line e.1 m.0, m.1)) us o
      (det_steady (List ℕ) (ℕ × Tree) (List ℕ) end Any (reading.text_at end us) (λ vs. reading.text_at end vs) us (text_det end d n us))
      (λ m xs e o1. det_last Statement ((ℕ × Tree) × List ℕ) Statement end (statement.Check w.line v m) Loose (λ e. statement.Check w.line e.0.1 e.1) xs))

  reply_det : (w : Token) (ts : List Token) → Ordered end ts →
      Det Statement end (reading.reply_statement U w ts) (Reads ℕ Statement Loose (λ e vs. reading.reply_statement W w vs)) ts
  unfolding reading.reply_statement
  reply_det w ts order = last_formula Statement ℕ Statement (λ v. statement.Reply w.line v) (λ e v. statement.Reply w.line v) ts order

  -- ---- statements with blocks

  abbrev pub Block : Type 0
  Block = List Statement

  abbrev pub Blocks : List Token → List Token → Type 0
  Blocks = Reads ℕ Block Any (λ e vs. reading.block W e vs)

  pub block_zero : (s : Bounds) (ts : List Token) → reading.block s zero ts ≡ (expect s.end mark.OpenBrace ts >>= (λ rest. Err (TooNested (offset s.end ts))))
  unfolding reading.block
  block_zero s ts = refl

  pub block_suc : (s : Bounds) (b : ℕ) (ts : List Token) →
      reading.block s (suc b)
      ts ≡ (expect s.end mark.OpenBrace ts >>= (λ a. reading.many s.end (reading.statement_by s (λ rest. reading.block s b rest)) (length a) a))
  unfolding reading.block
  block_suc s b ts = refl

  pub block_loose : (b : ℕ) (us : List Token) (y : Block × List Token) → reading.block W b us ≡ Ok y → Loose us
  block_loose zero us y h = mark_loose end mark.OpenBrace brace_ends us (λ rest. Err (TooNested (offset end us))) y (sym (block_zero W us) ∙ h)
  block_loose (suc b) us y h =
      mark_loose end mark.OpenBrace brace_ends us (λ a. reading.many end (reading.statement_by W (λ rest. reading.block W b rest)) (length a) a) y
      (sym (block_suc W b us) ∙ h)

  module _ (p : Reader Block) (inner : (ts : List Token) → Ordered end ts → Det Block end (p ts) Blocks ts) where
    block_with : (Y : Type 0) (f : Y → ℕ) (ts : List Token) → Ordered end ts → Det Block end (p ts) (Reads Y Block Any (λ e vs. reading.block W (f e) vs)) ts
    block_with Y f ts order = det_env Block Y ℕ Block end Any (p ts) (λ e vs. reading.block W e vs) f ts (inner ts order)

    -- behind the first block of an "if"
    otherwise_det : (w : Token) (v : Tree) (body : Block) (ts : List Token) → Ordered end ts → (o : Option (List Token)) → after mark.Else ts ≡ o
        → Det Statement end (reading.otherwise p w v body ts o)
        (Reads ((ℕ × Tree) × Block) Statement Loose (λ e vs. reading.otherwise (λ rest. reading.block W e.0.0 rest) w e.0.1 e.1 vs (after mark.Else vs))) ts
    otherwise_det w v body ts order None is =
        det_ok Statement end (statement.If w.line v body)
        (Reads ((ℕ × Tree) × Block) Statement Loose (λ e vs. reading.otherwise (λ rest. reading.block W e.0.0 rest) w e.0.1 e.1 vs (after mark.Else vs))) ts
        (λ vs ws s c.
        let there = sym (ap (reading.otherwise (λ rest. reading.block W c.which.0.0 rest) w c.which.0.1 c.which.1 vs) (same_after end d n mark.Else ts vs s is))
        ∙ c.is in
        let both : (statement.If w.line c.which.0.1 c.which.1, vs) ≡ (c.value, ws) = cc in
        sym (ap (λ (p : Statement × List Token). p.1) both))
    otherwise_det w v body [] order (Some rest) is = let wrong : ⊥ = cc in absurd wrong
    otherwise_det w v body (t ∷ ts) order (Some rest) is =
        let (test, same) = after_same end d n mark.Else t ts rest is in
        subst (λ l. Det Statement end (reading.otherwise p w v body (t ∷ ts) (Some l))
        (Reads ((ℕ × Tree) × Block) Statement Loose (λ e vs. reading.otherwise (λ rest. reading.block W e.0.0 rest) w e.0.1 e.1 vs (after mark.Else vs)))
        (t ∷ ts)) (sym same)
        (det_cons Statement end (p ts >>= (λ other. Ok (statement.IfElse w.line v body other.0, other.1)))
        (Reads ((ℕ × Tree) × Block) Statement Loose
        (λ e vs. reading.block W e.0.0 vs >>= (λ other. Ok (statement.IfElse w.line e.0.1 e.1 other.0, other.1))))
        (Reads ((ℕ × Tree) × Block) Statement Loose (λ e vs. reading.otherwise (λ rest. reading.block W e.0.0 rest) w e.0.1 e.1 vs (after mark.Else vs))) t ts
        (det_seq Block Statement ((ℕ × Tree) × Block) Block Statement end Loose (p ts) (λ other. Ok (statement.IfElse w.line v body other.0, other.1))
        (λ e vs. reading.block W e.0.0 vs) (λ e other. Ok (statement.IfElse w.line e.0.1 e.1 other.0, other.1)) ts
        (ordered_behind end (t ∷ ts) (t ∷ []) ts order refl)
        (block_with ((ℕ × Tree) × Block) (λ e. e.0.0) ts (ordered_behind end (t ∷ ts) (t ∷ []) ts order refl))
        (λ other us e o. det_last Statement (((ℕ × Tree) × Block) × Block) Statement end (statement.IfElse w.line v body other) Loose
        (λ e. statement.IfElse w.line e.0.0.1 e.0.1 e.1) us))
        (λ vs ws c. record {
          which = c.which;
          value = c.value;
          left = c.left;
          is = sym (ap (reading.otherwise (λ rest. reading.block W c.which.0.0 rest) w c.which.0.1 c.which.1 (t ∷ vs)) (after_is end d n mark.Else t vs test))
              ∙ c.is;
        }))

    if_det : (w : Token) (ts : List Token) → Ordered end ts →
        Det Statement end (reading.if_statement U p w ts) (Reads ℕ Statement Loose (λ e vs. reading.if_statement W (λ rest. reading.block W e rest) w vs)) ts
    unfolding reading.if_statement
    if_det w ts order =
        det_bind Tree Statement ℕ Tree Statement end Loose Loose (reading.formula U ts) _ (λ e vs. reading.formula W vs)
        (λ e v. reading.block W e v.1 >>= (λ body. reading.otherwise (λ rest. reading.block W e rest) w v.0 body.0 body.1 (after mark.Else body.1))) ts order
        (formula_with ℕ ts order)
        (λ e v us z ws h l. let (x, ex, e1) =
        ok_then (reading.block W e us) (λ body. reading.otherwise (λ rest. reading.block W e rest) w v body.0 body.1 (after mark.Else body.1)) (z, ws) h in
        block_loose e us x ex)
        (λ v us e o. det_seq Block Statement (ℕ × Tree) Block Statement end Loose (p us) _ (λ e vs. reading.block W e.0 vs)
        (λ e body. reading.otherwise (λ rest. reading.block W e.0 rest) w e.1 body.0 body.1 (after mark.Else body.1)) us o
        (block_with (ℕ × Tree) (λ e. e.0) us o)
        (λ body xs e o1. otherwise_det w v body xs o1 (after mark.Else xs) refl))

    for_det : (w : Token) (ts : List Token) → Ordered end ts →
        Det Statement end (reading.for_statement U p w ts) (Reads ℕ Statement Loose (λ e vs. reading.for_statement W (λ rest. reading.block W e rest) w vs)) ts
    unfolding reading.for_statement
    for_det w ts order =
        det_name Statement ℕ Statement end Loose _
        (λ e name. expect end mark.In
        name.1 >>= (λ a. reading.formula W a >>= (λ v. reading.block W e v.1 >>= (λ body. Ok (statement.For w.line name.0 v.0 body.0, body.1))))) ts order
        (λ name us shorter o.
        det_mark Statement ℕ Statement end mark.In Loose _
        (λ e a. reading.formula W a >>= (λ v. reading.block W e v.1 >>= (λ body. Ok (statement.For w.line name v.0 body.0, body.1)))) us o
        (λ t xs split is o1.
        det_bind Tree Statement ℕ Tree Statement end Loose Loose (reading.formula U xs) _ (λ e vs. reading.formula W vs)
        (λ e v. reading.block W e v.1 >>= (λ body. Ok (statement.For w.line name v.0 body.0, body.1))) xs o1 (formula_with ℕ xs o1)
        (λ e v us z ws h l. let (x, ex, e1) = ok_then (reading.block W e us) (λ body. Ok (statement.For w.line name v body.0, body.1)) (z, ws) h in
        block_loose e us x ex)
        (λ v vs e o2. det_seq Block Statement (ℕ × Tree) Block Statement end Loose (p vs) _ (λ e vs. reading.block W e.0 vs)
        (λ e body. Ok (statement.For w.line name e.1 body.0, body.1)) vs o2 (block_with (ℕ × Tree) (λ e. e.0) vs o2)
        (λ body ys e o3. det_last Statement ((ℕ × Tree) × Block) Statement end (statement.For w.line name v body) Loose
        (λ e. statement.For w.line name e.0.1 e.1) ys))))

    abbrev One : List Token → List Token → Type 0
    One = Reads ℕ Statement Loose (λ e. head_of (reading.statement_by W (λ rest. reading.block W e rest)))

    by_mark : (w : Token) (ts : List Token) (m : Mark) → mark_of w.kind ≡ m → (r : Answer (Statement × List Token)) →
        Det Statement end r (Reads ℕ Statement Loose (λ e vs. reading.statement_by W (λ rest. reading.block W e rest) w vs m)) ts →
        Element Statement end r One w ts
    by_mark w ts m is r det =
        element Statement end r (Reads ℕ Statement Loose (λ e vs. reading.statement_by W (λ rest. reading.block W e rest) w vs m)) One w ts det
        (λ vs ws c. record {
          which = c.which;
          value = c.value;
          is = sym (ap (reading.statement_by W (λ rest. reading.block W c.which rest) w vs) is) ∙ c.is;
          left = c.left;
        })

    statement_by_det : (w : Token) (ts : List Token) → Ordered end ts → (m : Mark) → mark_of w.kind ≡ m →
        Element Statement end (reading.statement_by U p w ts m) One w ts
    unfolding reading.statement_by
    statement_by_det w ts order mark.Let is = by_mark w ts mark.Let is _ (let_det w ts order)
    statement_by_det w ts order mark.Set is = by_mark w ts mark.Set is _ (set_det w ts order)
    statement_by_det w ts order mark.Add is = by_mark w ts mark.Add is _ (add_det w ts order)
    statement_by_det w ts order mark.Remove is = by_mark w ts mark.Remove is _ (remove_det w ts order)
    statement_by_det w ts order mark.New is = by_mark w ts mark.New is _ (new_det w ts order)
    statement_by_det w ts order mark.Delete is = by_mark w ts mark.Delete is _ (delete_det w ts order)
    statement_by_det w ts order mark.Check is = by_mark w ts mark.Check is _ (check_det w ts order)
    statement_by_det w ts order mark.Reply is = by_mark w ts mark.Reply is _ (reply_det w ts order)
    statement_by_det w ts order mark.If is = by_mark w ts mark.If is _ (if_det w ts order)
    statement_by_det w ts order mark.For is = by_mark w ts mark.For is _ (for_det w ts order)
    statement_by_det w ts order m is =
        no_element Statement end One w ts
        (λ vs ws c. apart (c.value, ws) (Expected w.start) (sym (ap (reading.statement_by W (λ rest. reading.block W c.which rest) w vs) is) ∙ c.is))

  -- a statement begins with a word with which no formula goes on
  statement_loose : (block : Reader Block) (w : Token) (ts : List Token) (m : Mark) (y : Statement × List Token) → mark_of w.kind ≡ m →
      reading.statement_by W block w ts m ≡ Ok y → Loose (w ∷ ts)
  unfolding reading.statement_by
  statement_loose block w ts mark.Let y is h = spelled_loose mark.Let (record { some = omega arith; ends = omega arith }) w ts is
  statement_loose block w ts mark.Set y is h = spelled_loose mark.Set (record { some = omega arith; ends = omega arith }) w ts is
  statement_loose block w ts mark.Add y is h = spelled_loose mark.Add (record { some = omega arith; ends = omega arith }) w ts is
  statement_loose block w ts mark.Remove y is h = spelled_loose mark.Remove (record { some = omega arith; ends = omega arith }) w ts is
  statement_loose block w ts mark.New y is h = spelled_loose mark.New (record { some = omega arith; ends = omega arith }) w ts is
  statement_loose block w ts mark.Delete y is h = spelled_loose mark.Delete (record { some = omega arith; ends = omega arith }) w ts is
  statement_loose block w ts mark.Check y is h = spelled_loose mark.Check (record { some = omega arith; ends = omega arith }) w ts is
  statement_loose block w ts mark.Reply y is h = spelled_loose mark.Reply (record { some = omega arith; ends = omega arith }) w ts is
  statement_loose block w ts mark.If y is h = spelled_loose mark.If (record { some = omega arith; ends = omega arith }) w ts is
  statement_loose block w ts mark.For y is h = spelled_loose mark.For (record { some = omega arith; ends = omega arith }) w ts is
  statement_loose block w ts m y is h = apart y (Expected w.start) h

  -- ---- blocks

  abbrev Opened : List Token → List Token → Type 0
  Opened = Reads (Many ℕ) Block Any
      (λ e vs. expect end mark.OpenBrace vs >>= (λ a. reading.many end (reading.statement_by W (λ rest. reading.block W e.inside rest)) e.turns a))

  opens : (vs ws : List Token) → Blocks vs ws → Opened vs ws
  opens vs ws c = by c.which c.is where
    by : (b : ℕ) → reading.block W b vs ≡ Ok (c.value, ws) → Opened vs ws
    by zero h =
        let (x, ex, e1) = ok_then (expect end mark.OpenBrace vs) (λ rest. Err (TooNested (offset end vs))) (c.value, ws) (sym (block_zero W vs) ∙ h) in
        apart (c.value, ws) (TooNested (offset end vs)) e1
    by (suc b) h =
        let (a, ea, e1) = ok_then (expect end mark.OpenBrace vs) (λ a. reading.many end (reading.statement_by W (λ rest. reading.block W b rest)) (length a) a)
        (c.value, ws) (sym (block_suc W b vs) ∙ h) in
        record {
          which = record { inside = b; turns = length a };
          value = c.value;
          is = ap (λ r. r >>= (λ x. reading.many end (reading.statement_by W (λ rest. reading.block W b rest)) (length a) x)) ea ∙ e1;
          left = refl;
        }

  pub block_det : (b : ℕ) (ts : List Token) → Ordered end ts → Det Block end (reading.block U b ts) Blocks ts
  block_det zero ts order =
      subst (λ r. Det Block end r Blocks ts) (sym (block_zero U ts))
      (det_weaken Block end _ Opened Blocks ts
      (det_mark Block (Many ℕ) Block end mark.OpenBrace Any (λ rest. Err (TooNested (offset end ts)))
      (λ e a. reading.many end (reading.statement_by W (λ rest. reading.block W e.inside rest)) e.turns a) ts order
      (λ t us split is o. det_nested Block end (offset end ts) _ us))
      (λ vs ws s c. opens vs ws c))
  block_det (suc b) ts order =
      subst (λ r. Det Block end r Blocks ts) (sym (block_suc U b ts))
      (det_weaken Block end _ Opened Blocks ts
      (det_mark Block (Many ℕ) Block end mark.OpenBrace Any (λ a. reading.many end (reading.statement_by U (λ rest. reading.block U b rest)) (length a) a)
      (λ e a. reading.many end (reading.statement_by W (λ rest. reading.block W e.inside rest)) e.turns a) ts order
      (λ t us split is o. many_det end Statement ℕ Statement (reading.statement_by U (λ rest. reading.block U b rest))
      (λ e. reading.statement_by W (λ rest. reading.block W e rest))
      (λ t us o. statement_by_det (λ rest. reading.block U b rest) (block_det b) t us (ordered_behind end (t ∷ us) (t ∷ []) us o refl) (mark_of t.kind) refl)
      (λ e t us y h. statement_loose (λ rest. reading.block W e rest) t us (mark_of t.kind) y refl h) (length us) us (omega arith) o))
      (λ vs ws s c. opens vs ws c))

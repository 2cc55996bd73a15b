-- Statements and blocks: what is read stands there, and where it is refused the tokens before begin it.
use Rattle.std.proofs.Common.{◌≡◌, ℕ, zero, suc, ◌+◌, ◌≤◌, List, [], ◌∷◌, ◌++◌, length, Some, None, Ok, Err, refl, sym, ap, ◌∙◌, subst, arith, inl, inr}
use Rattle.std.specs.Prelude.{Option}
use Rattle.sheet_syntax_trees.specs.declared.token.Token.{Token}
use Rattle.sheet_syntax_trees.specs.declared.token.TokenKind.TheVariants as kind
use Rattle.sheet_syntax_trees.specs.declared.token.SyntaxRefusal.{SyntaxRefusal}
use Rattle.sheet_syntax_trees.specs.declared.token.SyntaxRefusal.TheVariants.{TooNested}
use Rattle.sheet_syntax_trees.specs.declared.tree.Tree.{Tree}
use Rattle.sheet_syntax_trees.specs.Grammar.{expression}
use Rattle.sheet_syntax_trees.specs.Reading.{Answer, ◌>>=◌, offset}
use Rattle.sheet_define_data.specs.declared.statement.Target.{Target}
use Rattle.sheet_define_data.specs.declared.statement.Statement.{Statement}
use Rattle.sheet_define_data.specs.declared.statement.Statement.TheVariants as statement
use Rattle.sheet_define_reading.specs.declared.mark.Mark.{Mark}
use Rattle.sheet_define_reading.specs.declared.mark.Mark.TheVariants as mark
use Rattle.sheet_define_reading.specs.Marks.{mark_of}
use Rattle.sheet_define_reading.specs.Reading as reading
use Rattle.sheet_define_reading.specs.Reading.{Bounds, Reader, Turn, after, expect, with_front, optional, mark_at}
use Rattle.sheet_define_reading.proofs.MarkLemmas.{spelling, spelled}
use Rattle.std.specs.Prelude.{codes}
use Rattle.sheet_syntax_trees.proofs.Contexts.{zeros, spelled as dummy}
use Rattle.sheet_define_data.specs.Grammar.{IsSymbol, IsExpression, of_root, a_let, an_assignment, an_add, a_remove, a_new, a_delete, a_check, a_reply, an_if}
use Rattle.sheet_define_data.specs.Grammar.{an_if_else, a_for, no_statements, more_statements, IsBlock, a_block}
use Rattle.sheet_define_reading.proofs.Answering.{after_told}
use Rattle.sheet_define_reading.proofs.Soundness.{limits, formula_sound}
use Rattle.sheet_define_reading.proofs.StatementSoundness.{block_sound}
use Rattle.sheet_define_refusals.specs.Refusals.{OpensBlock, of_if, of_else, of_for, Holds, itself, within as holds_within}
use Rattle.sheet_define_refusals.proofs.Moving.{lim, Moved, moved_join, moved_tokens, Expr, Aim, Stmt, Stmts, Blck, block_moved}
use Rattle.sheet_define_refusals.proofs.Halting.{Sample, Context, a_block as for_block, Halt, lifted, known, halt_here, Behind, After, mark_err, name_dummy}
use Rattle.sheet_define_refusals.proofs.Halting.{word, zero_form}
use Rattle.sheet_define_refusals.proofs.Statements.{block_zero, block_suc}
use Rattle.sheet_define_refusals.proofs.Braces.{Braced, many_meets}
use Rattle.sheet_define_refusals.proofs.Meeting.{Meets, meets_ok, meets_none, meets_mark, meets_name, meets_mark_split, meets_name_split, meets_part}
use Rattle.sheet_define_refusals.proofs.Meeting.{meets_last, meets_behind, meets_known, formula_meets, target_meets, AText, text_meets}

-- a brace at that offset, before which so many blocks are open from the first token on
pub record Crowded (k : ℕ) (ts : List Token) (at : ℕ) : Type 0 where
  pub brace : Token
  pub rest : List Token
  pub holds : Holds k ts (brace ∷ rest)
  pub is : IsSymbol "{" brace
  pub here : at ≡ brace.start

-- the same for a block of the statement that begins there
pub record CrowdedIn (k : ℕ) (ts : List Token) (at : ℕ) : Type 0 where
  pub inner : List Token
  pub opens : OpensBlock ts inner
  pub crowded : Crowded k inner at

aim_name : (m : ℕ) (vs : List Token) → Aim m (name_dummy ∷ vs) vs
aim_name m vs l h = (_, of_root name_dummy (codes "x") vs refl)

pub empty_block : (m : ℕ) → 1 ≤ m → (vs : List Token) → Blck m (word mark.OpenBrace ∷ word mark.CloseBrace ∷ vs) vs
empty_block zero some vs l h = absurd (omega (arith, some))
empty_block (suc m) some vs l h =
    ([], a_block m (word mark.OpenBrace) (word mark.CloseBrace) (word mark.CloseBrace ∷ vs) vs [] refl (no_statements m (word mark.CloseBrace ∷ vs)) refl)

abbrev pub block_sample : Sample Blck
block_sample = record { tokens = word mark.OpenBrace ∷ word mark.CloseBrace ∷ []; least = 1; whole = empty_block }

module _ (end : ℕ) where
  abbrev U : Bounds
  U = reading.usual end

  module _ (B : ℕ → Type 0) (w : Token) where
    abbrev P : ℕ → List Token → List Token → Type 0
    P = Behind w Stmt

    let_meets : w.kind ≡ spelling mark.Let → (ts : List Token) → Meets P B end Statement (reading.let_statement U w ts) ts
    unfolding reading.let_statement
    let_meets is ts =
        meets_name P B end Statement ts _ (record {
          tokens = name_dummy ∷ word mark.Equals ∷ zeros;
          least = 1;
          whole = λ m some vs l h. let (v, f) =
              zero_form expression m some vs l h in (_, a_let m w name_dummy (word mark.Equals) (codes "x") (zeros ++ vs) vs v is refl refl f);
        })
        (λ n name us named.
        meets_mark (Behind n P) B end Statement mark.Equals (omega arith) us _
        (record {
          tokens = word mark.Equals ∷ zeros;
          least = 1;
          whole = λ m some vs l h. let (v, f) = zero_form expression m some vs l h in
              (_, a_let m w n (word mark.Equals) name (zeros ++ vs) vs v is named refl f);
        }) (λ q xs isq.
        meets_last (Behind q (Behind n P)) Expr B end Tree Statement xs (reading.formula U xs) (λ v. statement.Let w.line name v) (formula_meets end B xs)
        (λ m us vs e l h. let (v, f) = e l h in (_, a_let m w n q name us vs v is named isq f))))

    set_meets : w.kind ≡ spelling mark.Set → (ts : List Token) → Meets P B end Statement (reading.set_statement U w ts) ts
    unfolding reading.set_statement
    set_meets is ts =
        let sample : Sample (After Aim P) =
        record {
          tokens = word mark.Equals ∷ zeros;
          least = 1;
          whole = λ m some vs ys t l h. let (v, f) = zero_form expression m some vs l h in
              let (a, g) = t l h in (_, an_assignment m w (word mark.Equals) ys (zeros ++ vs) vs a v is g refl f);
        } in
        meets_part P Aim B end Target Statement ts (reading.target U ts) _ sample (target_meets end B ts) (λ t us e.
        meets_mark (After Aim P) B end Statement mark.Equals (omega arith) us _ sample (λ q xs isq.
        meets_last (Behind q (After Aim P)) Expr B end Tree Statement xs (reading.formula U xs) (λ v. statement.Set w.line t v) (formula_meets end B xs)
        (λ m us vs e ys t l h. let (v, f) = e l h in let (a, g) = t l h in (_, an_assignment m w q ys us vs a v is g isq f))))

    add_meets : w.kind ≡ spelling mark.Add → (ts : List Token) → Meets P B end Statement (reading.add_statement U w ts) ts
    unfolding reading.add_statement
    add_meets is ts =
        let sample : Sample (After Expr P) = record {
          tokens = word mark.To ∷ name_dummy ∷ [];
          least = 0;
          whole = λ m some vs ys e l h. let (v, f) = e l h in
              let (a, g) = aim_name m vs l h in (_, an_add m w (word mark.To) ys (name_dummy ∷ vs) vs a v is f refl g);
        } in
        meets_part P Expr B end Tree Statement ts (reading.formula U ts) _ sample (formula_meets end B ts) (λ v us e.
        meets_mark (After Expr P) B end Statement mark.To (omega arith) us _ sample (λ q xs isq.
        meets_last (Behind q (After Expr P)) Aim B end Target Statement xs (reading.target U xs) (λ t. statement.Add w.line v t) (target_meets end B xs)
        (λ m us vs t ys e l h. let (v, f) = e l h in let (a, g) = t l h in (_, an_add m w q ys us vs a v is f isq g))))

    remove_meets : w.kind ≡ spelling mark.Remove → (ts : List Token) → Meets P B end Statement (reading.remove_statement U w ts) ts
    unfolding reading.remove_statement
    remove_meets is ts =
        let sample : Sample (After Expr P) = record {
          tokens = word mark.From ∷ name_dummy ∷ [];
          least = 0;
          whole = λ m some vs ys e l h. let (v, f) = e l h in
              let (a, g) = aim_name m vs l h in (_, a_remove m w (word mark.From) ys (name_dummy ∷ vs) vs a v is f refl g);
        } in
        meets_part P Expr B end Tree Statement ts (reading.formula U ts) _ sample (formula_meets end B ts) (λ v us e.
        meets_mark (After Expr P) B end Statement mark.From (omega arith) us _ sample (λ q xs isq.
        meets_last (Behind q (After Expr P)) Aim B end Target Statement xs (reading.target U xs) (λ t. statement.Remove w.line v t) (target_meets end B xs)
        (λ m us vs t ys e l h. let (v, f) = e l h in let (a, g) = t l h in (_, a_remove m w q ys us vs a v is f isq g))))

    new_meets : w.kind ≡ spelling mark.New → (ts : List Token) → Meets P B end Statement (reading.new_statement U w ts) ts
    unfolding reading.new_statement
    new_meets is ts =
        meets_name P B end Statement ts _ (record {
          tokens = name_dummy ∷ word mark.Equals ∷ name_dummy ∷ [];
          least = 0;
          whole = λ m some vs l h. let (a, g) =
              aim_name m vs l h in (_, a_new m w name_dummy (word mark.Equals) (codes "x") (name_dummy ∷ vs) vs a is refl refl g);
        }) (λ n name us named.
        meets_mark (Behind n P) B end Statement mark.Equals (omega arith) us _
        (record {
          tokens = word mark.Equals ∷ name_dummy ∷ [];
          least = 0;
          whole = λ m some vs l h. let (a, g) = aim_name m vs l h in
              (_, a_new m w n (word mark.Equals) name (name_dummy ∷ vs) vs a is named refl g);
        }) (λ q xs isq.
        meets_last (Behind q (Behind n P)) Aim B end Target Statement xs (reading.target U xs) (λ t. statement.New w.line name t) (target_meets end B xs)
        (λ m us vs t l h. let (a, g) = t l h in (_, a_new m w n q name us vs a is named isq g))))

    delete_meets : w.kind ≡ spelling mark.Delete → (ts : List Token) → Meets P B end Statement (reading.delete_statement U w ts) ts
    unfolding reading.delete_statement
    delete_meets is ts =
        meets_last P Expr B end Tree Statement ts (reading.formula U ts) (λ v. statement.Delete w.line v) (formula_meets end B ts)
        (λ m us vs e l h. let (v, f) = e l h in (_, a_delete m w us vs v is f))

    check_meets : w.kind ≡ spelling mark.Check → (ts : List Token) → Meets P B end Statement (reading.check_statement U w ts) ts
    unfolding reading.check_statement
    check_meets is ts =
        let sample : Sample (After Expr P) = record {
          tokens = word mark.Else ∷ dummy (kind.Text []) ∷ [];
          least = 0;
          whole = λ m some vs ys e l h. let (v, f) =
              e l h in (_, a_check m w (word mark.Else) (dummy (kind.Text [])) [] ys vs v is f refl refl);
        } in
        meets_part P Expr B end Tree Statement ts (reading.formula U ts) _ sample (formula_meets end B ts) (λ v us e.
        meets_mark (After Expr P) B end Statement mark.Else (omega arith) us _ sample (λ q xs isq.
        meets_last (Behind q (After Expr P)) (AText end B) B end (List ℕ) Statement xs (reading.text_at end xs) (λ t. statement.Check w.line v t)
        (text_meets end B xs)
        (λ m us vs t ys e l h. let (v, f) = e l h in (_, a_check m w q t.0 t.1 ys vs v is (subst (λ k. IsExpression (lim l) ys v (q ∷ k)) t.2 f) isq t.3))))

    reply_meets : w.kind ≡ spelling mark.Reply → (ts : List Token) → Meets P B end Statement (reading.reply_statement U w ts) ts
    unfolding reading.reply_statement
    reply_meets is ts =
        meets_last P Expr B end Tree Statement ts (reading.formula U ts) (λ v. statement.Reply w.line v) (formula_meets end B ts) (λ m us vs e l h. let (v, f) =
        e l h in (_, a_reply m w us vs v is f))

  -- ---- statements with blocks

  reply_sample : Sample Stmt
  reply_sample = record {
    tokens = word mark.Reply ∷ zeros;
    least = 1;
    whole = λ m some vs l h. let (v, f) = zero_form expression m some vs l h in
        (_, a_reply m (word mark.Reply) (zeros ++ vs) vs v refl f);
  }

  for_whole : (w n i : Token) (name : List ℕ) → w.kind ≡ spelling mark.For → n.kind ≡ kind.Name name → i.kind ≡ spelling mark.In → (m : ℕ) → 1 ≤ m →
      (vs : List Token)
      → Stmt m (w ∷ n ∷ i ∷ ((zeros ++ word mark.OpenBrace ∷ word mark.CloseBrace ∷ []) ++ vs)) vs
  for_whole w n i name is named isi m some vs l h =
      let (v, f) = zero_form expression m some (word mark.OpenBrace ∷ word mark.CloseBrace ∷ vs) l h in
      let (xs, g) = empty_block m some vs l h in (
        _,
        a_for m w n i name (zeros ++ word mark.OpenBrace ∷ word mark.CloseBrace ∷ vs) (word mark.OpenBrace ∷ word mark.CloseBrace ∷ vs) vs v xs is named isi f
            g,
      )

  -- how blocks are met in which so many others may be opened
  abbrev BlockMeets : ℕ → Type 0
  BlockMeets b = (ts : List Token) → Meets Blck (Crowded b ts) end (List Statement) (reading.block U b ts) ts

  expression_read : (ts us : List Token) (v : Tree) → reading.formula U ts ≡ Ok (v, us) → IsExpression (limits U) ts v us
  expression_read ts us v e = formula_sound U (omega arith) ts (v, us) e

  block_read : (b : ℕ) (ts us : List Token) (xs : List Statement) → reading.block U b ts ≡ Ok (xs, us) → IsBlock (limits U) b ts xs us
  block_read b ts us xs e = block_sound U (omega arith) b ts (xs, us) e

  inside : (k : ℕ) (ts us : List Token) → OpensBlock ts us → (at : ℕ) → Crowded k us at → CrowdedIn k ts at
  inside k ts us opens at c = record { inner = us; opens = opens; crowded = c }

  module _ (b : ℕ) (again : BlockMeets b) (w : Token) where
    abbrev Q : ℕ → List Token → List Token → Type 0
    Q = Behind w Stmt

    begun : (ts : List Token) (r : Answer (Statement × List Token)) → Meets Q (CrowdedIn b (w ∷ ts)) end Statement r ts →
        Meets Stmt (CrowdedIn b (w ∷ ts)) end Statement r (w ∷ ts)
    begun ts r s = meets_behind Stmt (CrowdedIn b (w ∷ ts)) end Statement w ts r s

    otherwise_meets : w.kind ≡ spelling mark.If → (ts us vs : List Token) (v : Tree) (body : List Statement) → IsExpression (limits U) ts v us →
        IsBlock (limits U) b us body vs → (o : Option (List Token)) → after mark.Else vs ≡ o
        → Meets (After Blck (After Expr Q)) (CrowdedIn b (w ∷ ts)) end Statement (reading.otherwise (λ rest. reading.block U b rest) w v body vs o) vs
    otherwise_meets is ts us vs v body f g None missing =
        meets_ok (After Blck (After Expr Q)) (CrowdedIn b (w ∷ ts)) end Statement (statement.If w.line v body) vs (λ m vs ys k zs e l h. let (v, f) = e l h in
        let (xs, g) = k l h in (_, an_if m w zs ys vs v xs is f g))
    otherwise_meets is ts us vs v body f g (Some rest) some =
        let (q, split, isq) = after_told mark.Else (omega arith) vs rest some in
        let opens : OpensBlock (w ∷ ts) rest = of_else (limits U) b w q ts us rest v body is f (subst (λ l. IsBlock (limits U) b us body l) split g) isq in
        subst (λ l. Meets (After Blck (After Expr Q)) (CrowdedIn b (w ∷ ts)) end Statement
        (reading.block U b rest >>= (λ other. Ok (statement.IfElse w.line v body other.0, other.1))) l) (sym split)
        (meets_behind (After Blck (After Expr Q)) (CrowdedIn b (w ∷ ts)) end Statement q rest _
        (meets_last (Behind q (After Blck (After Expr Q))) Blck (CrowdedIn b (w ∷ ts)) end (List Statement) Statement rest (reading.block U b rest)
        (λ other. statement.IfElse w.line v body other)
        (meets_known Blck (Crowded b rest) (CrowdedIn b (w ∷ ts)) end (List Statement) rest (reading.block U b rest) (λ at c. inside b (w ∷ ts) rest opens at c)
        (again rest))
        (λ m us vs k ys j zs e l h. let (v, f) = e l h in let (xs, g) = j l h in let (others, g2) = k l h in
        (_, an_if_else m w q zs ys us vs v xs others is f g isq g2))))

    if_meets : w.kind ≡ spelling mark.If → (ts : List Token) →
        Meets Q (CrowdedIn b (w ∷ ts)) end Statement (reading.if_statement U (λ rest. reading.block U b rest) w ts) ts
    unfolding reading.if_statement
    if_meets is ts =
        meets_part Q Expr (CrowdedIn b (w ∷ ts)) end Tree Statement ts (reading.formula U ts) _
        (record {
          tokens = word mark.OpenBrace ∷ word mark.CloseBrace ∷ [];
          least = 1;
          whole = λ m some vs ys e l h. let (v, f) = e l h in
              let (xs, g) = empty_block m some vs l h in (_, an_if m w ys _ vs v xs is f g);
        })
        (formula_meets end (CrowdedIn b (w ∷ ts)) ts) (λ v us e.
        meets_part (After Expr Q) Blck (CrowdedIn b (w ∷ ts)) end (List Statement) Statement us (reading.block U b us) _
        (record { tokens = []; least = 0; whole = λ m some vs ys k zs e l h. let (v, f) = e l h in let (xs, g) = k l h in (_, an_if m w zs ys vs v xs is f g) })
        (meets_known Blck (Crowded b us) (CrowdedIn b (w ∷ ts)) end (List Statement) us (reading.block U b us)
        (λ at c. inside b (w ∷ ts) us (of_if (limits U) w ts us v is (expression_read ts us v e)) at c) (again us))
        (λ body vs k. otherwise_meets is ts us vs v body (expression_read ts us v e) (block_read b us vs body k) (after mark.Else vs) refl))

    for_meets : w.kind ≡ spelling mark.For → (ts : List Token) →
        Meets Q (CrowdedIn b (w ∷ ts)) end Statement (reading.for_statement U (λ rest. reading.block U b rest) w ts) ts
    unfolding reading.for_statement
    for_meets is ts =
        meets_name_split Q (CrowdedIn b (w ∷ ts)) end Statement ts _
        (record {
          tokens = name_dummy ∷ word mark.In ∷ (zeros ++ word mark.OpenBrace ∷ word mark.CloseBrace ∷ []);
          least = 1;
          whole = λ m some vs. for_whole w name_dummy (word mark.In) (codes "x") is refl refl m some vs;
        }) (λ n name us named split.
        meets_mark_split (Behind n Q) (CrowdedIn b (w ∷ ts)) end Statement mark.In (omega arith) us _
        (record {
          tokens = word mark.In ∷ (zeros ++ word mark.OpenBrace ∷ word mark.CloseBrace ∷ []);
          least = 1;
          whole = λ m some vs. for_whole w n (word mark.In) name is named refl m some vs;
        }) (λ i xs isi split2.
        meets_part (Behind i (Behind n Q)) Expr (CrowdedIn b (w ∷ ts)) end Tree Statement xs (reading.formula U xs) _
        (record {
          tokens = word mark.OpenBrace ∷ word mark.CloseBrace ∷ [];
          least = 1;
          whole = λ m some vs ys e l h. let (v, f) = e l h in
              let (ss, g) = empty_block m some vs l h in (_, a_for m w n i name ys _ vs v ss is named isi f g);
        })
        (formula_meets end (CrowdedIn b (w ∷ ts)) xs) (λ v vs e.
        meets_last (After Expr (Behind i (Behind n Q))) Blck (CrowdedIn b (w ∷ ts)) end (List Statement) Statement vs (reading.block U b vs)
        (λ body. statement.For w.line name v body)
        (meets_known Blck (Crowded b vs) (CrowdedIn b (w ∷ ts)) end (List Statement) vs (reading.block U b vs)
        (λ at c. inside b (w ∷ ts) vs
        (subst (λ l. OpensBlock (w ∷ l) vs) (sym (split ∙ ap (λ l. n ∷ l) split2))
        (of_for (limits U) w n i name xs vs v is named isi (expression_read xs vs v e))) at c) (again vs))
        (λ m us vs k ys e l h. let (v, f) = e l h in let (ss, g) = k l h in (_, a_for m w n i name ys us vs v ss is named isi f g)))))

    statement_by_meets : (ts : List Token) (m : Mark) → mark_of w.kind ≡ m →
        Meets Stmt (CrowdedIn b (w ∷ ts)) end Statement (reading.statement_by U (λ rest. reading.block U b rest) w ts m) (w ∷ ts)
    unfolding reading.statement_by
    statement_by_meets ts mark.Let is = begun ts _ (let_meets (CrowdedIn b (w ∷ ts)) w (spelled w.kind mark.Let is (omega arith)) ts)
    statement_by_meets ts mark.Set is = begun ts _ (set_meets (CrowdedIn b (w ∷ ts)) w (spelled w.kind mark.Set is (omega arith)) ts)
    statement_by_meets ts mark.Add is = begun ts _ (add_meets (CrowdedIn b (w ∷ ts)) w (spelled w.kind mark.Add is (omega arith)) ts)
    statement_by_meets ts mark.Remove is = begun ts _ (remove_meets (CrowdedIn b (w ∷ ts)) w (spelled w.kind mark.Remove is (omega arith)) ts)
    statement_by_meets ts mark.New is = begun ts _ (new_meets (CrowdedIn b (w ∷ ts)) w (spelled w.kind mark.New is (omega arith)) ts)
    statement_by_meets ts mark.Delete is = begun ts _ (delete_meets (CrowdedIn b (w ∷ ts)) w (spelled w.kind mark.Delete is (omega arith)) ts)
    statement_by_meets ts mark.Check is = begun ts _ (check_meets (CrowdedIn b (w ∷ ts)) w (spelled w.kind mark.Check is (omega arith)) ts)
    statement_by_meets ts mark.Reply is = begun ts _ (reply_meets (CrowdedIn b (w ∷ ts)) w (spelled w.kind mark.Reply is (omega arith)) ts)
    statement_by_meets ts mark.If is = begun ts _ (if_meets (spelled w.kind mark.If is (omega arith)) ts)
    statement_by_meets ts mark.For is = begun ts _ (for_meets (spelled w.kind mark.For is (omega arith)) ts)
    statement_by_meets ts _ is = meets_none Stmt (CrowdedIn b (w ∷ ts)) end Statement (w ∷ ts) w.start refl reply_sample

  -- ---- blocks

  -- the same for a block of some statement behind others
  record CrowdedAmong (k : ℕ) (ts : List Token) (at : ℕ) : Type 0 where
    statement : List Token
    before : Moved Stmts ts statement
    crowded : CrowdedIn k statement at

  no_stmts : (m : ℕ) (ts : List Token) → Stmts m ts ts
  no_stmts m ts l h = ([], no_statements m ts)

  more_stmts : (m : ℕ) (us vs ws : List Token) → Stmt m us vs → Stmts m vs ws → Stmts m us ws
  more_stmts m us vs ws s r l h = let (x, f) = s l h in let (xs, g) = r l h in (x ∷ xs, more_statements m us vs ws x xs f g)

  -- what is crowded in a block's statements is crowded in the block
  crowded_block : (k : ℕ) (o : Token) (ts : List Token) → IsSymbol "{" o → (at : ℕ) → CrowdedAmong k ts at → Crowded (suc k) (o ∷ ts) at
  crowded_block k o ts is at c =
      let m = c.before.least in
      let s : Stmts m ts c.statement = subst (λ l. Stmts m l c.statement) (sym c.before.split) (c.before.again m (omega arith) c.statement) in
      let (xs, are) = s m (omega arith) in
      let i = c.crowded.crowded in
      record {
        brace = i.brace;
        rest = i.rest;
        holds = holds_within k (lim m) m o ts c.statement c.crowded.inner (i.brace ∷ i.rest) xs is are c.crowded.opens i.holds;
        is = i.is;
        here = i.here;
      }

  -- at the brace of a block too many a block could stand
  full : (ts : List Token) (e : SyntaxRefusal) → reading.block U zero ts ≡ Err e → Halt Blck (Crowded 0 ts) end ts e
  full ts e h =
      elim (mark_err end mark.OpenBrace (omega arith) ts (λ rest. Err (TooNested (offset end ts))) e (sym (block_zero end 0 0 U ts) ∙ h)) [
        | inl is ↦ halt_here Blck (Crowded 0 ts) end ts e block_sample is
        | inr (o, us, split, is, r) ↦
            (let same : e ≡ TooNested (offset end ts) = cc in
            record {
              front = [];
              rest = ts;
              split = refl;
              more = block_sample.tokens;
              least = 1;
              whole = empty_block;
              cause = for_block (record { brace = o; rest = us; holds = subst (λ l. Holds 0 ts l) split (itself ts); is = is; here = ap (offset end) split })
                  same;
            })
      ]

  -- the statements of a block
  in_block : (o : Token) → IsSymbol "{" o → Context Blck (Braced Stmts) (o ∷ [])
  in_block o iso =
      record {
        more = [];
        least = 0;
        blocks = 1;
        whole = λ m some us vs r l h.
            let sum : suc m ≡ m + 1 = omega arith in
            let (xs, are) = r.holds l (omega (arith, h)) in
            (xs, subst (λ k. IsBlock (lim l) k (o ∷ us) xs vs) sum (a_block m o r.brace us vs xs iso are r.closes));
      }

  statements_meet : (b : ℕ) → BlockMeets b → (us : List Token) →
      Meets (Braced Stmts) (CrowdedAmong b us) end (List Statement) (reading.many end (reading.statement_by U (λ rest. reading.block U b rest)) (length us) us)
      us
  statements_meet b again us =
      many_meets Stmt Stmts no_stmts more_stmts end Statement (reading.statement_by U (λ rest. reading.block U b rest)) (CrowdedIn b) (CrowdedAmong b)
      (λ ts at c. record { statement = ts; before = moved_tokens Stmts [] ts (λ m vs. no_stmts m vs); crowded = c })
      (λ ts us p at c.
      record {
        statement = c.statement;
        before = moved_join Stmts Stmt Stmts [] ts us c.statement p c.before (λ m xs vs ws q r. more_stmts m xs vs ws q r);
        crowded = c.crowded;
      })
      (λ t ts. statement_by_meets b again t ts (mark_of t.kind) refl) (length us) us

  some_room : (b : ℕ) → BlockMeets b → (ts : List Token) (e : SyntaxRefusal) → reading.block U (suc b) ts ≡ Err e → Halt Blck (Crowded (suc b) ts) end ts e
  some_room b again ts e h =
      elim (mark_err end mark.OpenBrace (omega arith) ts (λ a. reading.many end (reading.statement_by U (λ rest. reading.block U b rest)) (length a) a) e
      (sym (block_suc end 0 0 U b ts) ∙ h)) [
        | inl is ↦ halt_here Blck (Crowded (suc b) ts) end ts e block_sample is
        | inr (o, us, split, is, r) ↦
            lifted Blck (Braced Stmts) (Crowded (suc b) ts) end (o ∷ []) us ts e (in_block o is) split
            (known (Braced Stmts) (CrowdedAmong b us) (Crowded (suc b) ts) end us e
            (λ at c. subst (λ l. Crowded (suc b) l at) (sym split) (crowded_block b o us is at c)) ((statements_meet b again us).halts e r))
      ]

  pub block_meets : (b : ℕ) → BlockMeets b
  block_meets zero ts = record { halts = λ e h. full ts e h; moves = λ xs us h. block_moved (limits U) zero ts us xs (block_read zero ts us xs h) }
  block_meets (suc b) ts =
      record { halts = λ e h. some_room b (block_meets b) ts e h; moves = λ xs us h. block_moved (limits U) (suc b) ts us xs (block_read (suc b) ts us xs h) }

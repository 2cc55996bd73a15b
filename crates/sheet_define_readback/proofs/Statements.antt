-- Statements are read back.
use Rattle.std.proofs.Common.{◌≡◌, ℕ, ◌≤◌, suc, List, [], ◌∷◌, ◌++◌, map, refl, sym, ap, ◌∙◌, subst}
use Rattle.std.specs.Prelude.{codes, flat_map}
use Rattle.sheet_syntax_trees.specs.declared.token.Token.{Token}
use Rattle.sheet_syntax_trees.specs.declared.token.TokenKind.TheVariants as kind
use Rattle.sheet_syntax_trees.proofs.Printable.{Lexable, Good}
use Rattle.sheet_syntax_trees.proofs.Seeing.{Ends}
use Rattle.sheet_syntax_trees.specs.declared.tree.Tree.{Tree}
use Rattle.sheet_syntax_trees.specs.Grammar.{expression}
use Rattle.sheet_syntax_trees.specs.Texts.{on_one_line}
use Rattle.sheet_define_data.specs.declared.statement.Target.{Target}
use Rattle.sheet_define_data.specs.declared.statement.Statement.{Statement}
use Rattle.sheet_define_data.specs.declared.statement.Statement.TheVariants as statement
use Rattle.sheet_define_data.specs.Grammar.{Limits, IsFormulaOf, IsTarget, IsStatement, a_let, an_assignment, an_add, a_remove, a_new, a_delete, a_check}
use Rattle.sheet_define_data.specs.Grammar.{a_reply, an_if, an_if_else, a_for, AreStatements, no_statements, more_statements, IsBlock, a_block}
use Rattle.sheet_define_data.specs.Printing.{line_at, inside, braced, statement_text}
use Rattle.sheet_syntax_print.proofs.Back.{named_word}
use Rattle.sheet_define_readback.specs.Lines.{target_on_one_line, statement_on_one_line}
use Rattle.sheet_define_readback.proofs.Heads.{target_back, retext}
use Rattle.sheet_define_readback.proofs.Nested.{text-If, text-IfElse, text-For, line-If, line-IfElse, line-For}
use Rattle.sheet_define_readback.proofs.Pieces.{name_written, text_written, expression_back, let_piece, set_piece, add_piece, remove_piece, new_piece}
use Rattle.sheet_define_readback.proofs.Pieces.{delete_piece, check_piece, reply_piece, if_piece, for_piece, to_piece, from_piece, else_piece, in_piece}
use Rattle.sheet_define_readback.proofs.Pieces.{equals_piece, open_brace_piece, close_brace_piece, close_brace_then_piece, else_word}
use Rattle.sheet_define_readback.proofs.Written.{Written, Any, Then, then, One, one, Read, both, behind, made, nothing, sure, Blank, wider, line}

-- ---- lines in braces

-- what stands before a brace, the brace, the statements in it, and the brace that closes it
module _ (l : Limits) (Q : List Token → List Token → Type 0) where
  block_made : (b : ℕ) (xs : List Statement) (ts us : List Token)
      → Then (Then (Then Q (One (kind.Symbol (codes "{")))) (Read (AreStatements l b) (map statement_on_one_line) xs)) (One (kind.Symbol (codes "}"))) ts us
      → Then Q (Read (IsBlock l (suc b)) (map statement_on_one_line) xs) ts us
  block_made b xs ts us (then _ _ _ (then _ _ _ (then _ _ _ q (one o vs io)) r) (one c _ ic)) =
      then _ _ _ q (record { thing = r.thing; stands = a_block b o c vs us r.thing io r.stands ic; same = r.same })

-- the statements in the braces, of which that many may still be opened
pub record Braced (l : Limits) (b : ℕ) (xs : List Statement) (margin : List ℕ) : Type 0 where
  pub within : ℕ
  pub count : suc within ≡ b
  pub lines : Written Any (Read (AreStatements l within) (map statement_on_one_line) xs) (flat_map (λ x. statement_text x (inside margin)) xs)

pub braced_written : (l : Limits) (b : ℕ) (xs : List Statement) (margin : List ℕ) {Q : List Token → List Token → Type 0} {opening : List ℕ} → Blank margin →
    Braced l b xs margin → Written Ends Q opening
    → Written Any (Then Q (Read (IsBlock l b) (map statement_on_one_line) xs)) (braced margin opening (flat_map (λ x. statement_text x (inside margin)) xs))
braced_written l b xs margin {Q} {opening} m s w =
    subst (λ n. Written Any (Then Q (Read (IsBlock l n) (map statement_on_one_line) xs))
    (braced margin opening (flat_map (λ x. statement_text x (inside margin)) xs))) s.count
    (made (block_made l Q s.within xs)
    (behind (behind (line margin m (sure (both w open_brace_piece (λ rest d. refl)))) s.lines) (line margin m (sure close_brace_piece))))

-- ---- each form

module _ (l : Limits) (b : ℕ) where
  let_made : (n : ℕ) (name : List ℕ) (v : Tree) (ts us : List Token) →
      Then (Then (Then (One (kind.Reserved (codes "let"))) (One (kind.Name name))) (One (kind.Symbol (codes "="))))
      (Read (IsFormulaOf l expression) on_one_line v) ts us
      → Read (IsStatement l b) statement_on_one_line (statement.Let n name v) ts us
  let_made n name v _ us (then _ _ _ (then _ _ _ (then _ _ _ (one w _ iw) (one x _ is)) (one e ts ie)) r) =
      record { thing = statement.Let w.line name r.thing; stands = a_let b w x e name ts us r.thing iw is ie r.stands; same = ap (statement.Let 1 name) r.same }

  set_made : (n : ℕ) (t : Target) (v : Tree) (ts us : List Token) →
      Then (Then (Then (One (kind.Reserved (codes "set"))) (Read (IsTarget l) target_on_one_line t)) (One (kind.Symbol (codes "="))))
      (Read (IsFormulaOf l expression) on_one_line v) ts us
      → Read (IsStatement l b) statement_on_one_line (statement.Set n t v) ts us
  set_made n t v _ us (then _ _ _ (then _ _ _ (then _ _ _ (one w ts iw) q) (one e vs ie)) r) =
      record {
        thing = statement.Set w.line q.thing r.thing;
        stands = an_assignment b w e ts vs us q.thing r.thing iw q.stands ie r.stands;
        same = ap (λ x. statement.Set 1 x (on_one_line r.thing)) q.same ∙ ap (statement.Set 1 (target_on_one_line t)) r.same;
      }

  add_made : (n : ℕ) (t : Target) (v : Tree) (ts us : List Token) →
      Then (Then (Then (One (kind.Reserved (codes "add"))) (Read (IsFormulaOf l expression) on_one_line v)) (One (kind.Reserved (codes "to"))))
      (Read (IsTarget l) target_on_one_line t) ts us
      → Read (IsStatement l b) statement_on_one_line (statement.Add n v t) ts us
  add_made n t v _ us (then _ _ _ (then _ _ _ (then _ _ _ (one w ts iw) q) (one o vs io)) r) =
      record {
        thing = statement.Add w.line q.thing r.thing;
        stands = an_add b w o ts vs us r.thing q.thing iw q.stands io r.stands;
        same = ap (λ x. statement.Add 1 x (target_on_one_line r.thing)) q.same ∙ ap (statement.Add 1 (on_one_line v)) r.same;
      }

  remove_made : (n : ℕ) (t : Target) (v : Tree) (ts us : List Token) →
      Then (Then (Then (One (kind.Reserved (codes "remove"))) (Read (IsFormulaOf l expression) on_one_line v)) (One (kind.Reserved (codes "from"))))
      (Read (IsTarget l) target_on_one_line t) ts us
      → Read (IsStatement l b) statement_on_one_line (statement.Remove n v t) ts us
  remove_made n t v _ us (then _ _ _ (then _ _ _ (then _ _ _ (one w ts iw) q) (one o vs io)) r) =
      record {
        thing = statement.Remove w.line q.thing r.thing;
        stands = a_remove b w o ts vs us r.thing q.thing iw q.stands io r.stands;
        same = ap (λ x. statement.Remove 1 x (target_on_one_line r.thing)) q.same ∙ ap (statement.Remove 1 (on_one_line v)) r.same;
      }

  new_made : (n : ℕ) (name : List ℕ) (t : Target) (ts us : List Token) →
      Then (Then (Then (One (kind.Reserved (codes "new"))) (One (kind.Name name))) (One (kind.Symbol (codes "=")))) (Read (IsTarget l) target_on_one_line t) ts
      us
      → Read (IsStatement l b) statement_on_one_line (statement.New n name t) ts us
  new_made n name t _ us (then _ _ _ (then _ _ _ (then _ _ _ (one w _ iw) (one x _ is)) (one e ts ie)) r) =
      record { thing = statement.New w.line name r.thing; stands = a_new b w x e name ts us r.thing iw is ie r.stands; same = ap (statement.New 1 name) r.same }

  delete_made : (n : ℕ) (v : Tree) (ts us : List Token) → Then (One (kind.Reserved (codes "delete"))) (Read (IsFormulaOf l expression) on_one_line v) ts us →
      Read (IsStatement l b) statement_on_one_line (statement.Delete n v) ts us
  delete_made n v _ us (then _ _ _ (one w ts iw) r) =
      record { thing = statement.Delete w.line r.thing; stands = a_delete b w ts us r.thing iw r.stands; same = ap (statement.Delete 1) r.same }

  check_made : (n : ℕ) (v : Tree) (message : List ℕ) (ts us : List Token) →
      Then (Then (Then (One (kind.Reserved (codes "check"))) (Read (IsFormulaOf l expression) on_one_line v)) (One (kind.Reserved (codes "else"))))
      (One (kind.Text message)) ts us
      → Read (IsStatement l b) statement_on_one_line (statement.Check n v message) ts us
  check_made n v message _ us (then _ _ _ (then _ _ _ (then _ _ _ (one w ts iw) r) (one e _ ie)) (one m _ im)) =
      record {
        thing = statement.Check w.line r.thing message;
        stands = a_check b w e m message ts us r.thing iw r.stands ie im;
        same = ap (λ x. statement.Check 1 x message) r.same;
      }

  reply_made : (n : ℕ) (v : Tree) (ts us : List Token) → Then (One (kind.Reserved (codes "reply"))) (Read (IsFormulaOf l expression) on_one_line v) ts us →
      Read (IsStatement l b) statement_on_one_line (statement.Reply n v) ts us
  reply_made n v _ us (then _ _ _ (one w ts iw) r) =
      record { thing = statement.Reply w.line r.thing; stands = a_reply b w ts us r.thing iw r.stands; same = ap (statement.Reply 1) r.same }

  if_made : (n : ℕ) (v : Tree) (body : List Statement) (ts us : List Token)
      → Then (Then (One (kind.Reserved (codes "if"))) (Read (IsFormulaOf l expression) on_one_line v)) (Read (IsBlock l b) (map statement_on_one_line) body) ts
      us
      → Read (IsStatement l b) statement_on_one_line (statement.If n v body) ts us
  if_made n v body _ us (then _ vs _ (then _ _ _ (one w ts iw) r) q) =
      record {
        thing = statement.If w.line r.thing q.thing;
        stands = an_if b w ts vs us r.thing q.thing iw r.stands q.stands;
        same = line-If w.line r.thing q.thing ∙ ap (λ x. statement.If 1 x (map statement_on_one_line q.thing)) r.same
            ∙ ap (statement.If 1 (on_one_line v)) q.same ∙ sym (line-If n v body);
      }

  if_else_made : (n : ℕ) (v : Tree) (body otherwise : List Statement) (ts us : List Token)
      → Then (Then (Then (One (kind.Reserved (codes "if"))) (Read (IsFormulaOf l expression) on_one_line v))
      (Read (IsBlock l b) (map statement_on_one_line) body))
      (Then (One (kind.Reserved (codes "else"))) (Read (IsBlock l b) (map statement_on_one_line) otherwise)) ts us
      → Read (IsStatement l b) statement_on_one_line (statement.IfElse n v body otherwise) ts us
  if_else_made n v body otherwise _ us (then _ _ _ (then _ vs _ (then _ _ _ (one w ts iw) r) q) (then _ _ _ (one e xs ie) p)) =
      record {
        thing = statement.IfElse w.line r.thing q.thing p.thing;
        stands = an_if_else b w e ts vs xs us r.thing q.thing p.thing iw r.stands q.stands ie p.stands;
        same = line-IfElse w.line r.thing q.thing p.thing
            ∙ ap (λ x. statement.IfElse 1 x (map statement_on_one_line q.thing) (map statement_on_one_line p.thing)) r.same
            ∙ ap (λ x. statement.IfElse 1 (on_one_line v) x (map statement_on_one_line p.thing)) q.same
            ∙ ap (statement.IfElse 1 (on_one_line v) (map statement_on_one_line body)) p.same ∙ sym (line-IfElse n v body otherwise);
      }

  for_made : (n : ℕ) (name : List ℕ) (v : Tree) (body : List Statement) (ts us : List Token)
      → Then (Then (Then (Then (One (kind.Reserved (codes "for"))) (One (kind.Name name))) (One (kind.Reserved (codes "in"))))
      (Read (IsFormulaOf l expression) on_one_line v)) (Read (IsBlock l b) (map statement_on_one_line) body) ts us
      → Read (IsStatement l b) statement_on_one_line (statement.For n name v body) ts us
  for_made n name v body _ us (then _ vs _ (then _ _ _ (then _ _ _ (then _ _ _ (one w _ iw) (one x _ is)) (one i ts ii)) r) q) =
      record {
        thing = statement.For w.line name r.thing q.thing;
        stands = a_for b w x i name ts vs us r.thing q.thing iw is ii r.stands q.stands;
        same = line-For w.line name r.thing q.thing ∙ ap (λ y. statement.For 1 name y (map statement_on_one_line q.thing)) r.same
            ∙ ap (statement.For 1 name (on_one_line v)) q.same ∙ sym (line-For n name v body);
      }

  more_made : (x : Statement) (xs : List Statement) (ts us : List Token) →
      Then (Read (IsStatement l b) statement_on_one_line x) (Read (AreStatements l b) (map statement_on_one_line) xs) ts us
      → Read (AreStatements l b) (map statement_on_one_line) (x ∷ xs) ts us
  more_made x xs _ _ (then ts vs us q r) =
      record {
        thing = q.thing ∷ r.thing;
        stands = more_statements b ts vs us q.thing r.thing q.stands r.stands;
        same = ap (λ y. y ∷ map statement_on_one_line r.thing) q.same ∙ ap (λ l. statement_on_one_line x ∷ l) r.same;
      }

-- ---- an if with an else, of which one brace closes the first block in the line that opens the second

module _ (l : Limits) (Q : List Token → List Token → Type 0) where
  else_made : (b : ℕ) (body otherwise : List Statement) (ts us : List Token)
      → Then (Then (Then Q (One (kind.Symbol (codes "{")))) (Read (AreStatements l b) (map statement_on_one_line) body))
      (Then (Then (One (kind.Symbol (codes "}"))) (One (kind.Reserved (codes "else")))) (Read (IsBlock l (suc b)) (map statement_on_one_line) otherwise)) ts us
      → Then (Then Q (Read (IsBlock l (suc b)) (map statement_on_one_line) body))
      (Then (One (kind.Reserved (codes "else"))) (Read (IsBlock l (suc b)) (map statement_on_one_line) otherwise)) ts us
  else_made b body otherwise ts us (then _ _ _ (then _ _ _ (then _ _ _ q (one o vs io)) r) (then _ _ _ (then _ _ _ (one c _ ic) (one e xs ie)) p)) =
      then _ _ _ (then _ _ _ q (record { thing = r.thing; stands = a_block b o c vs (e ∷ xs) r.thing io r.stands ic; same = r.same }))
      (then _ _ _ (one e xs ie) p)

else_written : (l : Limits) (b : ℕ) (xs ys : List Statement) (margin : List ℕ) {Q : List Token → List Token → Type 0} {opening : List ℕ} → Blank margin →
    Braced l b xs margin → Braced l b ys margin → Written Ends Q opening
    → Written Any (Then (Then Q (Read (IsBlock l b) (map statement_on_one_line) xs))
    (Then (One (kind.Reserved (codes "else"))) (Read (IsBlock l b) (map statement_on_one_line) ys)))
    (line_at margin (opening ++ codes " {") ++ flat_map (λ x. statement_text x (inside margin)) xs ++ braced margin (codes "} else")
    (flat_map (λ x. statement_text x (inside margin)) ys))
else_written l b xs ys margin {Q} {opening} m s t w =
    let lines = λ (zs : List Statement). flat_map (λ x. statement_text x (inside margin)) zs in
    let P : ℕ → Type 0 =
    λ n. Written Any
    (Then (Then Q (Read (IsBlock l n) (map statement_on_one_line) xs))
    (Then (One (kind.Reserved (codes "else"))) (Read (IsBlock l n) (map statement_on_one_line) ys)))
    (line_at margin (opening ++ codes " {") ++ lines xs ++ braced margin (codes "} else") (lines ys)) in
    let second : Written Any
    (Then (Then (One (kind.Symbol (codes "}"))) (One (kind.Reserved (codes "else")))) (Read (IsBlock l (suc s.within)) (map statement_on_one_line) ys))
    (braced margin (codes "} else") (lines ys)) =
    subst (λ n. Written Any
    (Then (Then (One (kind.Symbol (codes "}"))) (One (kind.Reserved (codes "else")))) (Read (IsBlock l n) (map statement_on_one_line) ys))
    (braced margin (codes "} else") (lines ys))) (sym s.count)
    (braced_written l b ys margin m t (behind close_brace_then_piece else_word)) in
    subst P s.count (made (else_made l Q s.within xs ys) (behind (behind (line margin m (sure (both w open_brace_piece (λ rest d. refl)))) s.lines) second))

-- ---- all statements

module _ (l : Limits) (fits : l.depth ≤ l.nest) where
  mutual
    pub statement_back : (b : ℕ) (ts us : List Token) (x : Statement) (margin : List ℕ) → Blank margin → IsStatement l b ts x us → Good ts →
        Good us × Written Any (Read (IsStatement l b) statement_on_one_line x) (statement_text x margin)
    statement_back _ _ _ _ margin m (a_let b w n e name ts rest v iw is ie a) good =
        let (word, free) = named_word n.kind name is good.1.0 in
        let (good1, r) = expression_back l fits ts rest v a good.1.1.1 in (
          good1,
          line margin m
              (made (let_made l b w.line name v) (behind (both (behind let_piece (name_written name word free)) equals_piece (λ rest d. refl)) r)),
        )
    statement_back _ _ _ _ margin m (an_assignment b w e ts us rest t v iw p ie a) good =
        let (good1, q) = target_back l fits ts (e ∷ us) t p good.1 in
        let (good2, r) = expression_back l fits us rest v a good1.1 in
        (good2, line margin m (made (set_made l b w.line t v) (behind (both (behind set_piece q) equals_piece (λ rest d. refl)) r)))
    statement_back _ _ _ _ margin m (an_add b w o ts us rest t v iw a io p) good =
        let (good1, r) = expression_back l fits ts (o ∷ us) v a good.1 in
        let (good2, q) = target_back l fits us rest t p good1.1 in
        (good2, line margin m (made (add_made l b w.line t v) (behind (both (behind add_piece r) to_piece (λ rest d. refl)) q)))
    statement_back _ _ _ _ margin m (a_remove b w o ts us rest t v iw a io p) good =
        let (good1, r) = expression_back l fits ts (o ∷ us) v a good.1 in
        let (good2, q) = target_back l fits us rest t p good1.1 in
        (good2, line margin m (made (remove_made l b w.line t v) (behind (both (behind remove_piece r) from_piece (λ rest d. refl)) q)))
    statement_back _ _ _ _ margin m (a_new b w n e name ts rest t iw is ie p) good =
        let (word, free) = named_word n.kind name is good.1.0 in
        let (good1, q) = target_back l fits ts rest t p good.1.1.1 in (
          good1,
          line margin m
              (made (new_made l b w.line name t) (behind (both (behind new_piece (name_written name word free)) equals_piece (λ rest d. refl)) q)),
        )
    statement_back _ _ _ _ margin m (a_delete b w ts rest v iw a) good =
        let (good1, r) = expression_back l fits ts rest v a good.1 in
        (good1, line margin m (made (delete_made l b w.line v) (behind delete_piece r)))
    statement_back _ _ _ _ margin m (a_check b w e k message ts rest p iw a ie im) good =
        let (good1, r) = expression_back l fits ts (e ∷ k ∷ rest) p a good.1 in
        let (short, bytes) = subst Lexable im good1.1.0 in (
          good1.1.1,
          line margin m
              (made (check_made l b w.line p message) (behind (both (behind check_piece r) else_piece (λ rest d. refl)) (text_written message short bytes))),
        )
    statement_back _ _ _ _ margin m (a_reply b w ts rest v iw a) good =
        let (good1, r) = expression_back l fits ts rest v a good.1 in
        (good1, line margin m (made (reply_made l b w.line v) (behind reply_piece r)))
    statement_back _ _ _ _ margin m (an_if b w ts us rest p body iw a q) good =
        let (good1, r) = expression_back l fits ts us p a good.1 in
        let (good2, s) = block_back b us rest body margin m q good1 in
        (good2, retext (sym (text-If w.line p body margin)) (made (if_made l b w.line p body) (braced_written l b body margin m s (behind if_piece r))))
    statement_back _ _ _ _ margin m (an_if_else b w e ts us vs rest p body otherwise iw a q ie o) good =
        let (good1, r) = expression_back l fits ts us p a good.1 in
        let (good2, s) = block_back b us (e ∷ vs) body margin m q good1 in
        let (good3, t) = block_back b vs rest otherwise margin m o good2.1 in (
          good3,
          retext (sym (text-IfElse w.line p body otherwise margin))
              (made (if_else_made l b w.line p body otherwise) (else_written l b body otherwise margin m s t (behind if_piece r))),
        )
    statement_back _ _ _ _ margin m (a_for b w n i name ts us rest v body iw is ii a q) good =
        let (word, free) = named_word n.kind name is good.1.0 in
        let (good1, r) = expression_back l fits ts us v a good.1.1.1 in
        let (good2, s) = block_back b us rest body margin m q good1 in (
          good2,
          retext (sym (text-For w.line name v body margin))
              (made (for_made l b w.line name v body)
              (braced_written l b body margin m s (behind (both (behind for_piece (name_written name word free)) in_piece (λ rest d. refl)) r))),
        )

    statements_back : (b : ℕ) (ts us : List Token) (xs : List Statement) (margin : List ℕ) → Blank margin → AreStatements l b ts xs us → Good ts
        → Good us × Written Any (Read (AreStatements l b) (map statement_on_one_line) xs) (flat_map (λ x. statement_text x margin) xs)
    statements_back _ _ _ _ margin m (no_statements b ts) good = (good, nothing (λ ts. record { thing = []; stands = no_statements b ts; same = refl }))
    statements_back _ _ _ _ margin m (more_statements b ts us rest x xs p q) good =
        let (good1, r) = statement_back b ts us x margin m p good in
        let (good2, s) = statements_back b us rest xs margin m q good1 in
        (good2, made (more_made l b x xs) (behind r s))

    pub block_back : (b : ℕ) (ts us : List Token) (xs : List Statement) (margin : List ℕ) → Blank margin → IsBlock l b ts xs us → Good ts →
        Good us × Braced l b xs margin
    block_back _ _ _ _ margin m (a_block b o c ts rest xs io p ic) good =
        let (good1, r) = statements_back b ts (c ∷ rest) xs (inside margin) (wider margin m) p good.1 in
        (good1.1, record { within = b; count = refl; lines = r })

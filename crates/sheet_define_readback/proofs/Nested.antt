-- The statements that hold statements, where those are lists: their texts, and the same in one line.
use Rattle.std.proofs.Common.{◌≡◌, refl, ap, ◌∙◌, ℕ, List, ◌∷◌, ◌++◌, map}
use Rattle.std.specs.Prelude.{codes}
use Rattle.std.specs.List.{flat_map}
use Rattle.sheet_syntax_trees.specs.declared.tree.Tree.{Tree}
use Rattle.sheet_syntax_trees.specs.Printing.{formula_text}
use Rattle.sheet_define_data.specs.declared.statement.Statement.{Statement, Row_of-Statement, end_of-Statement, more_of-Statement, items-the_row-Statement}
use Rattle.sheet_define_data.specs.declared.statement.Statement.{items_hidden-the_row-Statement-0}
use Rattle.sheet_define_data.specs.declared.statement.Statement.TheVariants as statement
use Rattle.sheet_define_data.specs.declared.statement.Statement.TheBlock.{hidden-the_row-Statement-0}
use Rattle.sheet_syntax_trees.specs.Texts.{on_one_line}
use Rattle.sheet_define_data.specs.Printing.{statement_text, statements_text, line_at, braced, inside}
use Rattle.sheet_define_readback.specs.Lines.{statement_on_one_line, statements_on_one_line}

-- the statements inside one more brace
abbrev lines : List Statement → List ℕ → List ℕ
lines xs margin = flat_map (λ x. statement_text x (inside margin)) xs

each_text : {m : _} (r : Row_of-Statement m) (margin : List ℕ) →
    statements_text r margin ≡ flat_map (λ x. statement_text x margin) (items-the_row-Statement m r)
each_text end_of-Statement margin = refl
each_text (more_of-Statement x rest) margin = ap (λ texts. statement_text x margin ++ texts) (each_text rest margin)

listed : (xs : List Statement) (margin : List ℕ) → statements_text (hidden-the_row-Statement-0 xs) (inside margin) ≡ lines xs margin
listed xs margin =
    each_text (hidden-the_row-Statement-0 xs) (inside margin) ∙ ap (flat_map (λ x. statement_text x (inside margin))) (items_hidden-the_row-Statement-0 xs)

pub text-If : (line : ℕ) (e : Tree) (body : List Statement) (margin : List ℕ)
    → statement_text (statement.If line e body) margin ≡ braced margin (codes "if " ++ formula_text e) (flat_map (λ x. statement_text x (inside margin)) body)
text-If line e body margin = ap (braced margin (codes "if " ++ formula_text e)) (listed body margin)

pub text-IfElse : (line : ℕ) (e : Tree) (body otherwise : List Statement) (margin : List ℕ)
    → statement_text (statement.IfElse line e body otherwise) margin
    ≡ line_at margin (codes "if " ++ formula_text e ++ codes " {") ++ flat_map (λ x. statement_text x (inside margin)) body
    ++ braced margin (codes "} else") (flat_map (λ x. statement_text x (inside margin)) otherwise)
text-IfElse line e body otherwise margin =
    let opening = line_at margin (codes "if " ++ formula_text e ++ codes " {") in
    ap (λ texts. opening ++ texts ++ braced margin (codes "} else") (statements_text (hidden-the_row-Statement-0 otherwise) (inside margin)))
    (listed body margin)
    ∙ ap (λ texts. opening ++ lines body margin ++ braced margin (codes "} else") texts) (listed otherwise margin)

pub text-For : (line : ℕ) (name : List ℕ) (e : Tree) (body : List Statement) (margin : List ℕ)
    → statement_text (statement.For line name e body) margin
    ≡ braced margin (codes "for " ++ name ++ codes " in " ++ formula_text e) (flat_map (λ x. statement_text x (inside margin)) body)
text-For line name e body margin = ap (braced margin (codes "for " ++ name ++ codes " in " ++ formula_text e)) (listed body margin)

each_line : {m : _} (r : Row_of-Statement m) → statements_on_one_line r ≡ map statement_on_one_line (items-the_row-Statement m r)
each_line end_of-Statement = refl
each_line (more_of-Statement x rest) = ap (λ xs. statement_on_one_line x ∷ xs) (each_line rest)

lined : (xs : List Statement) → statements_on_one_line (hidden-the_row-Statement-0 xs) ≡ map statement_on_one_line xs
lined xs = each_line (hidden-the_row-Statement-0 xs) ∙ ap (map statement_on_one_line) (items_hidden-the_row-Statement-0 xs)

pub line-If : (line : ℕ) (e : Tree) (body : List Statement) →
    statement_on_one_line (statement.If line e body) ≡ statement.If 1 (on_one_line e) (map statement_on_one_line body)
line-If line e body = ap (statement.If 1 (on_one_line e)) (lined body)

pub line-IfElse : (line : ℕ) (e : Tree) (body otherwise : List Statement)
    → statement_on_one_line (statement.IfElse line e body otherwise) ≡ statement.IfElse 1 (on_one_line e) (map statement_on_one_line body)
    (map statement_on_one_line otherwise)
line-IfElse line e body otherwise =
    ap (λ xs. statement.IfElse 1 (on_one_line e) xs (statements_on_one_line (hidden-the_row-Statement-0 otherwise))) (lined body)
    ∙ ap (statement.IfElse 1 (on_one_line e) (map statement_on_one_line body)) (lined otherwise)

pub line-For : (line : ℕ) (name : List ℕ) (e : Tree) (body : List Statement) →
    statement_on_one_line (statement.For line name e body) ≡ statement.For 1 name (on_one_line e) (map statement_on_one_line body)
line-For line name e body = ap (statement.For 1 name (on_one_line e)) (lined body)

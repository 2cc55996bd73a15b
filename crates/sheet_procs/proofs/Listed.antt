-- Blocks as lists.
use Rattle.std.proofs.Common.{◌≡◌, refl, ap, ◌∙◌, ℕ, List, [], ◌∷◌, ◌++◌, Some}
use Rattle.std.proofs.Math.Path.{fun_ext}
use Rattle.std.specs.Prelude.{if◌then◌else◌, Result}
use Rattle.sheet_values.specs.declared.value.Kind.{Kind}
use Rattle.sheet_values.specs.declared.value.Kind.TheVariants as kind
use Rattle.sheet_columns.specs.declared.fault.Place.TheVariants as place
use Rattle.sheet_columns.specs.declared.formula.Core.{Core}
use Rattle.sheet_columns.specs.declared.statement.CoreStatement.{CoreStatement, If, For, Row_of-CoreStatement, end_of-CoreStatement, more_of-CoreStatement}
use Rattle.sheet_columns.specs.declared.statement.CoreStatement.{items-the_row-CoreStatement, items_hidden-the_row-CoreStatement-0}
use Rattle.sheet_columns.specs.declared.statement.CoreStatement.TheBlock.{hidden-the_row-CoreStatement-0}
use Rattle.sheet_columns.specs.declared.statement.Statements.{Statements}
use Rattle.sheet_columns.specs.declared.tree.Node.{Node}
use Rattle.sheet_meaning.specs.Formula.{truth}
use Rattle.sheet_meaning.specs.Statements.{Point, Course, course_next, course_block, course_statements, course_turns, formula, from_run}
use Rattle.sheet_meaning.specs.Statements.{course, course_ended, run_statement}
use Rattle.sheet_meaning.specs.declared.refusal.Refusal.{Refusal}
use Rattle.sheet_meaning.specs.declared.workbook.Schema.{Schema}
use Rattle.sheet_types_rules.specs.Formulas.{kind_in, ◌>>◌}
use Rattle.sheet_types_rules.specs.Statements.{where_so, suits, behind, behind_all, behind_list}

each_course : {m : _} (row : Row_of-CoreStatement m) (s : Schema) (p : Point) → course_block row s p ≡ course_statements (items-the_row-CoreStatement m row) s p
each_course end_of-CoreStatement s p = refl
each_course (more_of-CoreStatement x rest) s p = ap (course_next (course x s p)) (fun_ext (λ q. each_course rest s q))

-- the course of a block is that of its statements
pub block_in : (xs : List CoreStatement) (s : Schema) → (λ (p : Point). course_block (hidden-the_row-CoreStatement-0 xs) s p) ≡ course_statements xs s
block_in xs s =
    fun_ext (λ p. each_course (hidden-the_row-CoreStatement-0 xs) s p ∙ ap (λ l. course_statements l s p) (items_hidden-the_row-CoreStatement-0 xs))

-- `if`
abbrev pub branch : Schema → ℕ → Core → (Point → Course) → (Point → Course) → Point → Result Point Refusal
branch s n e body otherwise p =
    from_run s (truth (place.Statement n) (formula s p n e)) p (λ holds q. (course_ended q (if holds then body q else otherwise q)).end)

pub run-If : (n : ℕ) (e : Core) (body otherwise : Statements) (s : Schema) (p : Point) →
    run_statement (If n e body otherwise) s p ≡ branch s n e (course_statements body.list s) (course_statements otherwise.list s) p
run-If n e body otherwise s p =
    ap (λ (g : Point → Course). branch s n e g (λ q. course_block (hidden-the_row-CoreStatement-0 otherwise.list) s q) p) (block_in body.list s)
    ∙ ap (λ (g : Point → Course). branch s n e (course_statements body.list s) g p) (block_in otherwise.list s)

-- `for`
abbrev pub repeat : Schema → ℕ → Core → (Point → Course) → Point → Result Point Refusal
repeat s n e body p = from_run s (formula s p n e) p (λ set q. (course_turns body set q).end)

pub run-For : (n : ℕ) (e : Core) (body : Statements) (s : Schema) (p : Point) →
    run_statement (For n e body) s p ≡ repeat s n e (course_statements body.list s) p
run-For n e body s p = ap (λ (g : Point → Course). repeat s n e g p) (block_in body.list s)

-- the types behind a block are those behind its statements
module _ (n : List Node) (k : List Kind) where
  each_behind : {m : _} (row : Row_of-CoreStatement m) (v : List Kind) → behind_all row n k v ≡ behind_list (items-the_row-CoreStatement m row) n k v
  each_behind end_of-CoreStatement v = refl
  each_behind (more_of-CoreStatement x rest) v = ap (λ f. behind x n k v >> f) (fun_ext (λ u. each_behind rest u))

  all_behind : (xs : List CoreStatement) (v : List Kind) → behind_all (hidden-the_row-CoreStatement-0 xs) n k v ≡ behind_list xs n k v
  all_behind xs v = each_behind (hidden-the_row-CoreStatement-0 xs) v ∙ ap (λ l. behind_list l n k v) (items_hidden-the_row-CoreStatement-0 xs)

  pub behind-If : (i : ℕ) (e : Core) (body otherwise : Statements) (v : List Kind) → behind (If i e body otherwise) n k v
      ≡ (where_so (suits kind.Truth (kind_in e n k v)) v >>
      (λ z. behind_list body.list n k v >> (λ x. behind_list otherwise.list n k v >> (λ y. Some v))))
  behind-If i e body otherwise v =
      ap (λ o. where_so (suits kind.Truth (kind_in e n k v)) v >>
      (λ z. o >> (λ x. behind_all (hidden-the_row-CoreStatement-0 otherwise.list) n k v >> (λ y. Some v)))) (all_behind body.list v)
      ∙ ap (λ o. where_so (suits kind.Truth (kind_in e n k v)) v >> (λ z. behind_list body.list n k v >> (λ x. o >> (λ y. Some v))))
      (all_behind otherwise.list v)

  pub behind-For : (i : ℕ) (e : Core) (body : Statements) (v : List Kind) → behind (For i e body) n k v
      ≡ (kind_in e n k v >> (λ x. behind_list body.list n k (v ++ x ∷ []) >> (λ u. Some v)))
  behind-For i e body v =
      ap (λ f. kind_in e n k v >> f) (fun_ext (λ x. ap (λ o. o >> (λ u. Some v)) (all_behind body.list (v ++ x ∷ []))))

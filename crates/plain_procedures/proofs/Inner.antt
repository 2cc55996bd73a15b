-- What the statements that hold blocks come to, where a block is a list.
use Rattle.std.proofs.Common.{◌≡◌, refl, sym, ap, ◌∙◌, ℕ, Bool, true, false, List, [], ◌∷◌, Ok}
use Rattle.std.specs.Prelude.{Result, if◌then◌else◌}
use Rattle.std.proofs.Math.Path.{fun_ext}
use Rattle.sheet_values.specs.declared.value.Value.{Value}
use Rattle.sheet_columns.specs.declared.fault.Place.TheVariants as place
use Rattle.sheet_columns.specs.declared.formula.Core.{Core}
use Rattle.sheet_columns.specs.declared.statement.CoreStatement.{CoreStatement, If, For, Row_of-CoreStatement, end_of-CoreStatement, more_of-CoreStatement}
use Rattle.sheet_columns.specs.declared.statement.CoreStatement.{items-the_row-CoreStatement, items_hidden-the_row-CoreStatement-0}
use Rattle.sheet_columns.specs.declared.statement.CoreStatement.TheBlock.{hidden-the_row-CoreStatement-0}
use Rattle.sheet_columns.specs.declared.statement.Statements.{Statements}
use Rattle.sheet_meaning.specs.declared.refusal.Refusal.{Refusal}
use Rattle.sheet_meaning.specs.declared.workbook.Schema.{Schema}
use Rattle.sheet_meaning.specs.Formula.{truth}
use Rattle.sheet_meaning.specs.Statements.{Point, Course, next, formula, from_run, ended, with_variable, is_present, still, course_ended, course_turns}
use Rattle.sheet_meaning.specs.Statements.{course_block, run_statement, run_block, run_statements}
use Rattle.plain_meaning.specs.declared.stop.Stop.{Stop}
use Rattle.plain_procedures.specs.declared.point.PlainPoint.{PlainPoint}
use Rattle.plain_procedures.specs.Points.{as_point, Ends, GoesOn}
use Rattle.plain_procedures.specs.Blocks.{turns}
use Rattle.plain_procedures.proofs.Going.{same_end, goes_on}

block_listed : {m : _} (row : Row_of-CoreStatement m) (s : Schema) (p : Point) → run_block row s p ≡ run_statements (items-the_row-CoreStatement m row) s p
block_listed end_of-CoreStatement s p = refl
block_listed (more_of-CoreStatement x rest) s p = ap (next (run_statement x s p)) (fun_ext (λ q. block_listed rest s q))

-- what turns and branches end in
turns_end : (body : Point → Course) (xs : List Value) (p : Point) → (course_turns body xs p).end ≡ turns (λ q. (body q).end) xs p
turns_end body [] p = refl
turns_end body (x ∷ xs) p =
    elim (is_present p.state x)
    as (λ b. next (if b then course_ended p (body (with_variable p (x ∷ []))) else still p (Ok p)).end (λ q. (course_turns body xs q).end) ≡ next
    (if b then ended p (body (with_variable p (x ∷ []))).end else Ok p) (turns (λ q. (body q).end) xs)) [
      | true ↦ ap (next (ended p (body (with_variable p (x ∷ []))).end)) (fun_ext (λ q. turns_end body xs q))
      | false ↦ turns_end body xs p
    ]

if_end : (b : Bool) (c d : Course) → (if b then c else d).end ≡ (if b then c.end else d.end)
if_end true c d = refl
if_end false c d = refl

-- `if`
abbrev branch : Schema → ℕ → Core → List CoreStatement → List CoreStatement → Point → Result Point Refusal
branch s n e body otherwise p =
    from_run s (truth (place.Statement n) (formula s p n e)) p (λ holds q. ended q (if holds then run_statements body s q else run_statements otherwise s q))

-- `for`
abbrev repeat : Schema → ℕ → Core → List CoreStatement → Point → Result Point Refusal
repeat s n e body p = from_run s (formula s p n e) p (λ set q. turns (run_statements body s) set q)

block_in : (xs : List CoreStatement) (s : Schema) → (λ (p : Point). run_block (hidden-the_row-CoreStatement-0 xs) s p) ≡ run_statements xs s
block_in xs s = fun_ext (λ p. block_listed (hidden-the_row-CoreStatement-0 xs) s p ∙ ap (λ l. run_statements l s p) (items_hidden-the_row-CoreStatement-0 xs))

run-If : (n : ℕ) (e : Core) (body otherwise : Statements) (s : Schema) (p : Point) →
    run_statement (If n e body otherwise) s p ≡ branch s n e body.list otherwise.list p
run-If n e body otherwise s p =
    let r = truth (place.Statement n) (formula s p n e) in
    let first = hidden-the_row-CoreStatement-0 body.list in
    let second = hidden-the_row-CoreStatement-0 otherwise.list in
    ap (from_run s r p) (fun_ext (λ holds. fun_ext (λ q. ap (ended q) (if_end holds (course_block first s q) (course_block second s q)))))
    ∙ ap
    (λ (g : Point → Result Point Refusal). from_run s (truth (place.Statement n) (formula s p n e)) p
    (λ holds q. ended q (if holds then g q else run_block (hidden-the_row-CoreStatement-0 otherwise.list) s q)))
    (block_in body.list s)
    ∙ ap
    (λ (g : Point → Result Point Refusal).
    from_run s (truth (place.Statement n) (formula s p n e)) p (λ holds q. ended q (if holds then run_statements body.list s q else g q)))
    (block_in otherwise.list s)

run-For : (n : ℕ) (e : Core) (body : Statements) (s : Schema) (p : Point) → run_statement (For n e body) s p ≡ repeat s n e body.list p
run-For n e body s p =
    ap (from_run s (formula s p n e) p) (fun_ext (λ set. fun_ext (λ q. turns_end (course_block (hidden-the_row-CoreStatement-0 body.list) s) set q)))
    ∙ ap (λ (g : Point → Result Point Refusal). from_run s (formula s p n e) p (λ set q. turns g set q)) (block_in body.list s)

module _ (s : Schema) (n : ℕ) (e : Core) (x : CoreStatement) (p : Point) (q : PlainPoint) (r : Result PlainPoint Stop) where
  -- an `if` whose condition holds, and one whose condition doesn't
  pub branch_then : (body otherwise : Statements) (holds : Bool) (read : List CoreStatement) → x ≡ If n e body otherwise →
      GoesOn s (truth (place.Statement n) (formula s p n e)) p (Ok (holds, q)) → holds ≡ true → read ≡ body.list →
      Ends r (ended (as_point q) (run_statements read s (as_point q))) → Ends r (run_statement x s p)
  branch_then body otherwise holds read is goes true_is same h =
      let f : Bool → Point → Result Point Refusal = λ b t. ended t (if b then run_statements body.list s t else run_statements otherwise.list s t) in
      same_end r
      (ap (λ l. ended (as_point q) (run_statements l s (as_point q))) same
      ∙ sym (ap (λ b. f b (as_point q)) true_is)
      ∙ sym (goes_on s (truth (place.Statement n) (formula s p n e)) p f holds q goes)
      ∙ sym (run-If n e body otherwise s p)
      ∙ sym (ap (λ y. run_statement y s p) is))
      h

  pub branch_else : (body otherwise : Statements) (holds : Bool) (read : List CoreStatement) → x ≡ If n e body otherwise →
      GoesOn s (truth (place.Statement n) (formula s p n e)) p (Ok (holds, q)) → holds ≡ false → read ≡ otherwise.list →
      Ends r (ended (as_point q) (run_statements read s (as_point q))) → Ends r (run_statement x s p)
  branch_else body otherwise holds read is goes false_is same h =
      let f : Bool → Point → Result Point Refusal = λ b t. ended t (if b then run_statements body.list s t else run_statements otherwise.list s t) in
      same_end r
      (ap (λ l. ended (as_point q) (run_statements l s (as_point q))) same
      ∙ sym (ap (λ b. f b (as_point q)) false_is)
      ∙ sym (goes_on s (truth (place.Statement n) (formula s p n e)) p f holds q goes)
      ∙ sym (run-If n e body otherwise s p)
      ∙ sym (ap (λ y. run_statement y s p) is))
      h

  pub for_turns : (body : Statements) (set values : List Value) (read : List CoreStatement) → x ≡ For n e body → GoesOn s (formula s p n e) p (Ok (set, q)) →
      read ≡ body.list → values ≡ set → Ends r (turns (run_statements read s) values (as_point q)) → Ends r (run_statement x s p)
  for_turns body set values read is goes same these h =
      let f : List Value → Point → Result Point Refusal = λ l t. turns (run_statements body.list s) l t in
      same_end r
      (ap (λ l. turns (run_statements l s) values (as_point q)) same
      ∙ ap (λ l. f l (as_point q)) these
      ∙ sym (goes_on s (formula s p n e) p f set q goes)
      ∙ sym (run-For n e body s p)
      ∙ sym (ap (λ y. run_statement y s p) is))
      h

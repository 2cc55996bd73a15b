-- How many statements there are, those inside others counted: blocks have fewer than the statements that hold them.
use Rattle.std.proofs.Common.{◌≡◌, refl, ap, ◌∙◌, ℕ, zero, suc, ◌+◌, ◌<◌, ◌≤◌, List, [], ◌∷◌, length, get_or, arith}
use Rattle.sheet_columns.specs.declared.formula.Core.{Core}
use Rattle.sheet_columns.specs.declared.statement.CoreStatement.{CoreStatement, Let, Change, New, Delete, Check, If, If', For, For', Reply, Row_of-CoreStatement}
use Rattle.sheet_columns.specs.declared.statement.CoreStatement.{end_of-CoreStatement, more_of-CoreStatement, items-the_row-CoreStatement}
use Rattle.sheet_columns.specs.declared.statement.CoreStatement.{items_hidden-the_row-CoreStatement-0}
use Rattle.sheet_columns.specs.declared.statement.CoreStatement.TheBlock.{hidden-the_row-CoreStatement-0}
use Rattle.sheet_columns.specs.declared.statement.Statements.{Statements}

abbrev mutual
  pub heft : CoreStatement → ℕ
  heft (Let n e) = 1
  heft (Change n how t e) = 1
  heft (New n t) = 1
  heft (Delete n e) = 1
  heft (Check n e message) = 1
  heft (If' n e _ body _ otherwise) = suc (heft_all body + heft_all otherwise)
  heft (For' n e _ body) = suc (heft_all body)
  heft (Reply n e) = 1

  pub heft_all : {m : _} → Row_of-CoreStatement m → ℕ
  heft_all end_of-CoreStatement = 0
  heft_all (more_of-CoreStatement x rest) = heft x + heft_all rest

abbrev pub heft_list : List CoreStatement → ℕ
heft_list [] = 0
heft_list (x ∷ xs) = heft x + heft_list xs

each_heft : {m : _} (row : Row_of-CoreStatement m) → heft_all row ≡ heft_list (items-the_row-CoreStatement m row)
each_heft end_of-CoreStatement = refl
each_heft (more_of-CoreStatement x rest) = ap (λ k. heft x + k) (each_heft rest)

all_heft : (xs : List CoreStatement) → heft_all (hidden-the_row-CoreStatement-0 xs) ≡ heft_list xs
all_heft xs = each_heft (hidden-the_row-CoreStatement-0 xs) ∙ ap heft_list (items_hidden-the_row-CoreStatement-0 xs)

pub heft_if : (n : ℕ) (e : Core) (body otherwise : Statements) → heft (If n e body otherwise) ≡ suc (heft_list body.list + heft_list otherwise.list)
heft_if n e body otherwise =
    ap (λ k. suc (k + heft_all (hidden-the_row-CoreStatement-0 otherwise.list))) (all_heft body.list)
    ∙ ap (λ k. suc (heft_list body.list + k)) (all_heft otherwise.list)

pub heft_for : (n : ℕ) (e : Core) (body : Statements) → heft (For n e body) ≡ suc (heft_list body.list)
heft_for n e body = ap suc (all_heft body.list)

pub heft_at : (xs : List CoreStatement) (i : ℕ) (x : CoreStatement) → i < length xs → x ≡ get_or xs i x → heft x ≤ heft_list xs
heft_at [] i x lt is = absurd (omega (arith, lt))
heft_at (y ∷ ys) zero x lt is = let same : heft x ≡ heft y = ap heft is in omega (arith, same)
heft_at (y ∷ ys) (suc i) x lt is = let rest = heft_at ys i x (omega (arith, lt)) is in omega (arith, rest)

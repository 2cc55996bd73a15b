-- What each kind of statement comes to, from a point.
use Rattle.std.specs.Prelude.{ℕ, if◌then◌else◌, List, [], ◌∷◌, fold, Result, Ok, Err}
use Rattle.std.specs.List.{filter_map}
use Rattle.sheet_values.specs.declared.value.Value.{Value}
use Rattle.sheet_columns.specs.declared.fault.Place.TheVariants as place
use Rattle.sheet_columns.specs.declared.formula.Core.{Core}
use Rattle.sheet_columns.specs.declared.statement.Change.{Change}
use Rattle.sheet_columns.specs.declared.statement.Target.{Target}
use Rattle.sheet_meaning.specs.declared.refusal.Refusal.{Refusal}
use Rattle.sheet_meaning.specs.declared.refusal.Refusal.TheVariants.{CheckFailed}
use Rattle.sheet_meaning.specs.declared.workbook.Schema.{Schema}
use Rattle.sheet_meaning.specs.Run.{both}
use Rattle.sheet_meaning.specs.Formula.{object_in, truth}
use Rattle.sheet_meaning.specs.Statements.{Point, next, formula, target_object, ended, from_run, with_variable, store, make, remove, answer, is_present}

-- `let`
abbrev pub bind : Schema → ℕ → Core → Point → Result Point Refusal
bind s n e p = from_run s (formula s p n e) p (λ set q. Ok (with_variable q set))

-- `set`, `add` and `remove`
abbrev pub change : Schema → ℕ → Change → Target → Core → Point → Result Point Refusal
change s n how t e p = from_run s (both (target_object s p n t) (formula s p n e)) p (λ x q. store s how x.0 t.column x.1 q)

-- `new`
abbrev pub create : Schema → ℕ → Target → Point → Result Point Refusal
create s n t p = from_run s (target_object s p n t) p (λ o q. make s t.column o q)

-- `delete`
abbrev pub delete : Schema → ℕ → Core → Point → Result Point Refusal
delete s n e p = from_run s (formula s p n e) p (λ set q. Ok (fold (remove s) q (filter_map object_in set)))

-- `check`
abbrev pub check : Schema → ℕ → Core → List ℕ → Point → Result Point Refusal
check s n e message p =
    from_run s (truth (place.Statement n) (formula s p n e)) p (λ holds q. if holds then Ok q else Err (CheckFailed n message))

-- `reply`
abbrev pub reply : Schema → ℕ → Core → Point → Result Point Refusal
reply s n e p = from_run s (formula s p n e) p (λ set q. answer set q)

-- a turn of `for` over a value, which is skipped where the value is an object that is no longer live
abbrev pub turn : (Point → Result Point Refusal) → Value → Point → Result Point Refusal
turn body x p = if is_present p.state x then ended p (body (with_variable p (x ∷ []))) else Ok p

-- a turn for each value in order
abbrev pub turns : (Point → Result Point Refusal) → List Value → Point → Result Point Refusal
turns body [] p = Ok p
turns body (x ∷ xs) p = next (turn body x p) (turns body xs)

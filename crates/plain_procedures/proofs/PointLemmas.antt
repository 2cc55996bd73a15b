-- What single statements come to.
use Rattle.std.proofs.Common.{◌≡◌, sym, ap, ◌∙◌, ℕ, true, false, List, Ok, Err}
use Rattle.std.specs.Prelude.{nat_lt, if◌then◌else◌}
use Rattle.sheet_values.specs.declared.value.Value.{Value}
use Rattle.sheet_values.specs.declared.value.Value.TheVariants.{Object}
use Rattle.sheet_columns.specs.declared.statement.Change.{Change}
use Rattle.sheet_meaning.specs.declared.refusal.Which.TheVariants as which
use Rattle.sheet_meaning.specs.declared.refusal.Refusal.TheVariants.{Full}
use Rattle.sheet_meaning.specs.declared.workbook.Schema.{Schema}
use Rattle.sheet_meaning.specs.declared.workbook.State.{State}
use Rattle.sheet_meaning.specs.WellFormed.{stored_values, max_values}
use Rattle.sheet_meaning.specs.Changes.{without_object}
use Rattle.sheet_meaning.specs.Statements.{Point, with_state, store, remove, is_present}
use Rattle.plain_procedures.specs.Points.{stored_in}

pub stored_within : (s : Schema) (how : Change) (o c : ℕ) (set : List Value) (p q : Point) (t : State) → t ≡ stored_in p.state how o c set →
    nat_lt max_values (stored_values t.cells) ≡ false → q ≡ with_state s p t → store s how o c set p ≡ Ok q
stored_within s how o c set p q t is within end =
    sym (ap (λ (u : State). if nat_lt max_values (stored_values u.cells) then Err (Full which.Values max_values) else Ok (with_state s p u)) is)
    ∙ ap (λ b. if b then Err (Full which.Values max_values) else Ok (with_state s p t)) within
    ∙ ap Ok (sym end)

pub removed : (s : Schema) (p q : Point) (o : ℕ) (t : State) → is_present p.state (Object o) ≡ true → t ≡ without_object p.state o → q ≡ with_state s p t →
    q ≡ remove s p o
removed s p q o t found is end = end ∙ ap (with_state s p) is ∙ sym (ap (λ b. if b then with_state s p (without_object p.state o) else p) found)

use Rattle.std.proofs.Common.{◌∙◌, sym, arith, false, []}
use Rattle.sheet_state_rows.specs.Rows.{set_row}
use Rattle.sheet_state_rows.specs.declared.row.SetRow.{SetRow}
use Rattle.sheet_state_references.specs.Order.{holds_reference}
use Rattle.sheet_state_references.proofs.Numbers.{none_before, none_behind, not_held}
use Rattle.sheet_state_references.proofs.references.is_held.Goals as goal

abbrev none : SetRow
none = record { object = 0; column = 0; live = false; set = [] }

pub loop-place-init : goal.loop-place-init
loop-place-init c =
    let r = c.args.reference.now in
    none_before (holds_reference r) c.args.cells.now none c.own_places-from.result.0
    (λ k lt fits. not_held r (set_row c.args.cells.now k) (λ e. let own = c.own_places-from.ensures.all k fits e in let low = own.0 in
    absurd (omega arith)))

pub returns : goal.returns
returns c =
    let r = c.args.reference.now in
    let at_end = c.loop-place-test.false in
    sym (sym (none_behind (holds_reference r) c.args.cells.now none c.loop-place.place
    (λ k le fits. not_held r (set_row c.args.cells.now k) (λ e. let own = c.own_places-from.ensures.all k fits e in let high = own.1 in
    absurd (omega arith)))) ∙ c.loop-place.invariant)

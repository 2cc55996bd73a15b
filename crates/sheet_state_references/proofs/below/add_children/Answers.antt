use Rattle.std.proofs.Common.{◌≡◌, ◌∙◌, sym, ap, arith, Bool, true, false, take, refl, []}
use Rattle.std.specs.Prelude.{◌||◌}
use Rattle.sheet_state_rows.specs.Rows.{set_row}
use Rattle.sheet_state_rows.specs.declared.row.SetRow.{SetRow}
use Rattle.sheet_state_references.specs.Below.{has, holds_under, stands_under}
use Rattle.sheet_state_references.proofs.Numbers.{none_before, none_behind, not_under}
use Rattle.sheet_state_references.proofs.below.add_children.Goals as goal

abbrev none : SetRow
none = record { object = 0; column = 0; live = false; set = [] }

or_false : (a b : Bool) → b ≡ false → a ≡ (a || b)
or_false true b e = refl
or_false false b e = sym e

pub loop-place-init : goal.loop-place-init
loop-place-init c = λ n.
    let rows = c.args.extents.now in
    or_false (has n c.args.waiting.now.keys) (stands_under (take c.own_places-from.result.0 rows) c.args.object n)
    (none_before (holds_under c.args.object n) rows none c.own_places-from.result.0
    (λ k lt fits. not_under c.args.object n (set_row rows k) (λ e. let own = c.own_places-from.ensures.all k fits e in let low = own.0 in
    absurd (omega arith))))

pub returns-clause-added : goal.returns-clause-added
returns-clause-added c = λ n.
    let rows = c.args.extents.now in
    let at_end = c.loop-place-test.false in
    c.loop-place.invariant n
    ∙ ap (λ b. has n c.args.waiting.now.keys || b)
    (none_behind (holds_under c.args.object n) rows none c.loop-place.place
    (λ k le fits. not_under c.args.object n (set_row rows k) (λ e. let own = c.own_places-from.ensures.all k fits e in let high = own.1 in
    absurd (omega arith))))

use Rattle.std.proofs.Common.{◌∙◌, sym, ap, rules, Some, None, [], false}
use Rattle.std.specs.Prelude.{if◌then◌else◌}
use Rattle.std.specs.Ordering.{nat_cmp, ordering_then}
use Rattle.std.proofs.lemmas.List.{get_or_default}
use Rattle.std.proofs.lemmas.List.Sorted.{answers_always}
use Rattle.sheet_state_rows.specs.declared.row.SetRow.{SetRow}
use Rattle.sheet_state.specs.Rows.{row_cmp}
use Rattle.sheet_state.proofs.Searching.{rows_follow, set_tests, found, missing}
use Rattle.sheet_state.proofs.lookup.set_place.Goals as goal

abbrev none : SetRow
none = record { object = 0; column = 0; live = false; set = [] }

pub returns-then-rows-place : goal.returns-then-rows-place
returns-then-rows-place c =
    let ord = λ (r : SetRow). ordering_then (nat_cmp r.object c.args.object) (nat_cmp r.column c.args.column) in
    let at = c.in-Ok.ensures.position (λ (r : SetRow). (r.object, r.column)) (answers_always _ _ _ (λ f a r g called. search rules)) in
    sym (sym (set_tests c.args.object c.args.column c.args.rows.now) ∙ found row_cmp ord (λ (r : SetRow). r.live) (rows_follow c.args.object c.args.column)
    c.args.rows.now c.in-Ok.place none c.requires c.in-Ok.ensures.bound (at none)
    ∙ ap (λ b. if b then Some c.in-Ok.place else None)
    (ap (λ (r : SetRow). r.live) (get_or_default c.args.rows.now c.in-Ok.place none c.index-rows-place.result c.in-Ok.ensures.bound)
    ∙ c.if-rows-place.true))

pub returns-else-rows-place : goal.returns-else-rows-place
returns-else-rows-place c =
    let ord = λ (r : SetRow). ordering_then (nat_cmp r.object c.args.object) (nat_cmp r.column c.args.column) in
    let at = c.in-Ok.ensures.position (λ (r : SetRow). (r.object, r.column)) (answers_always _ _ _ (λ f a r g called. search rules)) in
    sym (sym (set_tests c.args.object c.args.column c.args.rows.now) ∙ found row_cmp ord (λ (r : SetRow). r.live) (rows_follow c.args.object c.args.column)
    c.args.rows.now c.in-Ok.place none c.requires c.in-Ok.ensures.bound (at none)
    ∙ ap (λ b. if b then Some c.in-Ok.place else None)
    (ap (λ (r : SetRow). r.live) (get_or_default c.args.rows.now c.in-Ok.place none c.index-rows-place.result c.in-Ok.ensures.bound)
    ∙ c.if-rows-place.false))

pub returns-in-Err : goal.returns-in-Err
returns-in-Err c =
    let ord = λ (r : SetRow). ordering_then (nat_cmp r.object c.args.object) (nat_cmp r.column c.args.column) in
    let at = c.in-Err.ensures.position (λ (r : SetRow). (r.object, r.column)) (answers_always _ _ _ (λ f a r g called. search rules)) in
    sym (sym (set_tests c.args.object c.args.column c.args.rows.now) ∙ missing row_cmp ord (λ (r : SetRow). r.live) (rows_follow c.args.object c.args.column)
    c.args.rows.now c.in-Err.field-0 c.requires at)

use Rattle.std.proofs.Common.{◌∙◌, sym, ap, rules, Some, None, false}
use Rattle.std.specs.Prelude.{if◌then◌else◌}
use Rattle.std.specs.Ordering.{nat_cmp}
use Rattle.std.proofs.lemmas.List.Sorted.{answers_always}
use Rattle.sheet_state_rows.specs.declared.row.ObjectRow.{ObjectRow}
use Rattle.sheet_state.specs.Rows.{object_cmp}
use Rattle.sheet_state.proofs.Searching.{objects_follow, object_tests, found, missing}
use Rattle.sheet_state.proofs.lookup.object_place.Goals as goal

abbrev none : ObjectRow
none = record { number = 0; column = 0; parent = None; live = false }

pub returns-then-rows-place : goal.returns-then-rows-place
returns-then-rows-place c =
    let ord = λ (r : ObjectRow). nat_cmp r.number c.args.object in
    let at = c.in-Ok.ensures.position (λ (r : ObjectRow). r.number) (answers_always _ _ _ (λ f a r g called. search rules)) in
    sym (sym (object_tests c.args.object c.args.rows.now) ∙ found object_cmp ord (λ (r : ObjectRow). r.live) (objects_follow c.args.object) c.args.rows.now
    c.in-Ok.place none c.requires c.in-Ok.ensures.bound (at none) ∙ ap (λ b. if b then Some c.in-Ok.place else None) (c.if-rows-place.true))

pub returns-else-rows-place : goal.returns-else-rows-place
returns-else-rows-place c =
    let ord = λ (r : ObjectRow). nat_cmp r.number c.args.object in
    let at = c.in-Ok.ensures.position (λ (r : ObjectRow). r.number) (answers_always _ _ _ (λ f a r g called. search rules)) in
    sym (sym (object_tests c.args.object c.args.rows.now) ∙ found object_cmp ord (λ (r : ObjectRow). r.live) (objects_follow c.args.object) c.args.rows.now
    c.in-Ok.place none c.requires c.in-Ok.ensures.bound (at none) ∙ ap (λ b. if b then Some c.in-Ok.place else None) (c.if-rows-place.false))

pub returns-in-Err : goal.returns-in-Err
returns-in-Err c =
    let ord = λ (r : ObjectRow). nat_cmp r.number c.args.object in
    let at = c.in-Err.ensures.position (λ (r : ObjectRow). r.number) (answers_always _ _ _ (λ f a r g called. search rules)) in
    sym (sym (object_tests c.args.object c.args.rows.now) ∙ missing object_cmp ord (λ (r : ObjectRow). r.live) (objects_follow c.args.object) c.args.rows.now
    c.in-Err.field-0 c.requires at)

use Rattle.std.proofs.Common.{◌≡◌, rules, ◌∙◌, subst, Ok, Err}
use Rattle.sheet_define_data.specs.declared.definition.Part.{Part}
use Rattle.sheet_types_formulas.specs.Answers.{Answers}
use Rattle.sheet_types_bodies.specs.Calls.{here}
use Rattle.sheet_types_bodies.specs.Parts.{part_of, parts, numbers_of}
use Rattle.sheet_types_bodies.proofs.Steps.{turn_goes_on, turn_stops, turns_end}
use Rattle.sheet_types_bodies.proofs.part.parts.Goals as goal

pub loop-one-preserved : goal.loop-one-preserved
loop-one-preserved c =
    let vs = c.args.variables.now.items in
    let r = here c.args.sheet.now vs in
    let told : part_of c.one-item.result r c.loop-one.next ≡ Ok c.in-Ok.part =
    subst (λ us. part_of c.one-item.result (here c.args.sheet.now us) c.loop-one.next ≡ Ok c.in-Ok.part) c.loop-one.invariant.1 c.in-Ok.ensures.told in (
      turn_goes_on (λ (p : Part). part_of p r) numbers_of c.args.written.now c.loop-one.one-index c.loop-one.next c.loop-one.list (parts c.args.written.now r 1)
          c.loop-one.invariant.0
          c.one-item.result c.in-Ok.part _ _ c.loop-one-test.true c.one-item.is told (search rules) (search rules),
      c.in-Ok.ensures.same ∙ c.loop-one.invariant.1,
    )

pub returns-in-Err : goal.returns-in-Err
returns-in-Err c =
    let vs = c.args.variables.now.items in
    let r = here c.args.sheet.now vs in
    turn_stops (λ (p : Part). part_of p r) numbers_of c.args.written.now c.loop-one.one-index c.loop-one.next c.loop-one.list (parts c.args.written.now r 1)
    c.loop-one.invariant.0
    c.one-item.result c.in-Err.refusal c.loop-one-test.true c.one-item.is
    (subst (λ us. Answers (Err c.in-Err.refusal) (part_of c.one-item.result (here c.args.sheet.now us) c.loop-one.next)) c.loop-one.invariant.1
    c.in-Err.ensures.told)

pub returns : goal.returns
returns c =
    let r = here c.args.sheet.now c.args.variables.now.items in
    turns_end (λ (p : Part). part_of p r) numbers_of c.args.written.now c.loop-one.one-index c.loop-one.next c.loop-one.list (parts c.args.written.now r 1)
    c.loop-one.invariant.0
    c.loop-one-test.false

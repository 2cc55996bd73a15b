use Rattle.std.proofs.Common.{◌≡◌, ◌+◌, ◌≤◌, ◌∷◌, ◌∙◌, length, drop, sym, ap, subst, arith, Ok}
use Rattle.sheet_types_outline.specs.Columns.{objects_in}
use Rattle.sheet_types_outline.specs.Steps.{in_turn}
use Rattle.sheet_types_outline.proofs.StepLemmas.{drop_item, turned}
use Rattle.sheet_types.specs.Elaboration.{judge}
use Rattle.sheet_types.proofs.JudgingLemmas.{judged_grows, counted_behind}
use Rattle.sheet_types.proofs.bodies.judge_all.Goals as goal

pub loop-declaration-preserved : goal.loop-declaration-preserved
loop-declaration-preserved c =
    let ds = c.args.declarations.now in
    let columns = c.args.outline.now.columns in
    let i = c.loop-declaration.declaration-index in
    let x = c.declaration-item.result in
    let rest = drop (i + 1) ds in
    let split : drop i ds ≡ x ∷ rest = drop_item ds i x c.loop-declaration-test.true c.declaration-item.is in
    let step = judge c.args.outline.now c.args.kinds.now in
    let old = c.loop-declaration.bodies in
    let new = c.judge.new.self in
    let told : step old x ≡ Ok new = c.in-Ok.ensures in
    let grown = judged_grows c.args.outline.now c.args.kinds.now old new x told in
    record {
      turns = turned step old new x rest _ (ap (in_turn step old) (sym split) ∙ c.loop-declaration.invariant.turns) told;
      not_root = omega (arith, grown, c.loop-declaration.invariant.not_root);
      counted = counted_behind x rest (length old.formulas) (length new.formulas) (length columns) grown
          (subst (λ es. length old.formulas + length (objects_in es) ≤ length columns) split c.loop-declaration.invariant.counted);
    }

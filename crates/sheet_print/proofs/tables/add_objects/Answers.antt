use Rattle.std.proofs.Common.{sym, subst, get_or}
use Rattle.sheet_print.specs.Shown.{HasCells}
use Rattle.sheet_print.proofs.tables.add_objects.Goals as goal

pub object_fields-requires-clause-cells : goal.object_fields-requires-clause-cells
object_fields-requires-clause-cells g c =
    let o = get_or c.args.objects.now c.loop-object.object-index 0 in
    subst (λ s. HasCells c.args.columns.now s.present.state.objects c.args.cells.now o) (sym c.loop-object.invariant.state)
    (c.requires.cells c.loop-object.object-index 0 c.loop-object-test.true)

use Rattle.plain_procedures.proofs.ColumnLemmas.{object_gone}
use Rattle.plain_procedures.proofs.changes.without_object.Goals as goal

pub returns : goal.returns
returns c = object_gone c.args.state.now c.args.object _ _ _ _ _ _ c.as_slice-numbers.ensures.value c.as_slice-all.ensures c.in_ok-gone.ensures
    c.in_ok-objects.ensures c.as_slice-stored.ensures c.in_ok-cells.ensures

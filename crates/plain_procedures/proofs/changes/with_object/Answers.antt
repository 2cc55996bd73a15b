use Rattle.plain_procedures.proofs.ColumnLemmas.{object_made}
use Rattle.plain_procedures.proofs.changes.with_object.Goals as goal

pub returns : goal.returns
returns c = object_made c.args.schema.now c.args.state.now c.args.column c.args.parent c.args.next _ _ _ _ _ _ _ _ c.as_slice-under.ensures.value
    c.in_ok-columns.ensures c.as_slice-stored.ensures c.in_ok-old.ensures c.in_ok-cells.ensures c.as_slice-all.ensures c.in_ok-objects.ensures
    c.in_ok-push.ensures.ok

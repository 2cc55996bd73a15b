use Rattle.plain_procedures.proofs.ColumnLemmas.{root_alone}
use Rattle.plain_procedures.proofs.changes.started.Goals as goal

pub returns : goal.returns
returns c = root_alone c.args.schema.now _ _ _ _ _ _ c.as_slice.ensures.value c.in_ok-columns.ensures c.new.ensures c.in_ok-cells.ensures c.new-objects.ensures
    c.in_ok-push.ensures.ok

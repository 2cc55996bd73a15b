use Rattle.std.proofs.Common.{sym, subst}
use Rattle.sheet_state.specs.Stored.{IsStored}
use Rattle.sheet_print.proofs.Listed.{listed_have}
use Rattle.sheet_print.proofs.tables.column_objects.Goals as goal

pub objects_of-requires-clause-kept : goal.objects_of-requires-clause-kept
objects_of-requires-clause-kept c =
    subst (λ s. IsStored c.args.columns.now s) (sym c.state.ensures.state)
    (subst (λ n. IsStored n c.args.engine.now.state) (sym c.requires.columns) c.state.ensures.served.kept)

pub returns-clause-cells : goal.returns-clause-cells
returns-clause-cells c =
    listed_have c.args.columns.now c.args.engine.now.state.present.state.objects c.args.column c.state.ensures.served.kept.present.well_formed.rising

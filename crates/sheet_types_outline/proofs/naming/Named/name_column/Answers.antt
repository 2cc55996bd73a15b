use Rattle.std.proofs.Common.{◌∙◌, ap}
use Rattle.sheet_columns.specs.Tree.{column_of}
use Rattle.sheet_types_outline.proofs.NamingLemmas.{open_object}
use Rattle.sheet_types_outline.proofs.naming.Named.name_column.Goals as goal

pub name_under-requires-clause-above_object : goal.name_under-requires-clause-above_object
name_under-requires-clause-above_object c =
    ap (column_of c.args.self.now.columns) c.above-above.ensures
    ∙ open_object c.args.self.now.columns c.args.self.now.opened c.requires.objects c.args.column.now.depth c.requires.orderly.inside

use Rattle.std.proofs.Common.{refl}
use denote.Hole.Carrier.{hidden}
use Rattle.sheet_columns.specs.declared.formula.Core.TheBlock.{hidden-the_row-Core-0}
use Rattle.sheet_columns.specs.declared.statement.CoreStatement.TheBlock.{hidden-the_row-CoreStatement-0}
use Rattle.std.specs.Fmt.{digits}
use Rattle.serde_json.proofs.OnLiterals.{serde_json_on_literals}
use Rattle.sheet_machine_laws.specs.Act.{act}
use Rattle.sheet_machine_laws.proofs.law.worked_numbers.Goals as goal

pub returns : goal.returns
unfolding act digits serde_json_on_literals hidden hidden-the_row-Core-0 hidden-the_row-CoreStatement-0
returns c body is = record {
  first = rw is refl;
  counted = rw is refl;
  again = rw is refl;
  other = rw is refl;
  ahead = rw is refl;
}

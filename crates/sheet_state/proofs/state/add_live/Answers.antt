use Rattle.sheet_state.specs.Rows.{objects_in}
use Rattle.sheet_state.proofs.Living.{other_added}
use Rattle.sheet_state.proofs.state.add_live.Goals as goal

pub returns-in_default : goal.returns-in_default
returns-in_default c = other_added (objects_in c.args.rows.now) c.args.value.now c.args.live.now.keys c.in_default.not-Object

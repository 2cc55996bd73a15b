use Rattle.std.proofs.Common.{rules}
use Rattle.sheet_journal.proofs.Advancing.{enough}
use Rattle.sheet_journal.proofs.ahead.needs_more.Goals as goal

pub returns-in_default : goal.returns-in_default
returns-in_default c e =
    enough c.args.ahead.now c.judge_ahead.result (search rules) c.in_default.not-Torn c.judge_ahead.ensures.told c.judge_ahead.ensures.within

use Rattle.std.proofs.Common.{rules}
use Rattle.serde_json.proofs.OnLiterals.{serde_json_on_literals}
use Rattle.objsheet.proofs.trying.body_of.Goals as goal

pub returns-in-Refused-NoMemory : goal.returns-in-Refused-NoMemory
unfolding serde_json_on_literals
returns-in-Refused-NoMemory c = λ h is. search rules

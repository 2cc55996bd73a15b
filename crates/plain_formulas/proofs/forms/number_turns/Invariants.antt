use Rattle.std.proofs.Common.{◌≡◌}
use Rattle.plain_formulas.specs.Forms.{number_turns}
use Rattle.plain_formulas.proofs.forms.number_turns.Given as goal

abbrev pub invariant-loop-pair : goal.invariant-loop-pair
invariant-loop-pair l = l.list.items ≡ number_turns l.place l.yielded

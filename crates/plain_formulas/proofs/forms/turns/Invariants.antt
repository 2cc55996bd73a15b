use Rattle.std.proofs.Common.{◌≡◌}
use Rattle.plain_formulas.specs.Forms.{turns}
use Rattle.plain_formulas.proofs.forms.turns.Given as goal

abbrev pub invariant-loop-pair : goal.invariant-loop-pair
invariant-loop-pair l = l.list.items ≡ turns l.place l.yielded

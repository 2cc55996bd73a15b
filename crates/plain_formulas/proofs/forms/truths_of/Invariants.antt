use Rattle.std.proofs.Common.{◌≡◌}
use Rattle.plain_formulas.specs.Forms.{truths_of}
use Rattle.plain_formulas.proofs.forms.truths_of.Given as goal

abbrev pub invariant-loop-part : goal.invariant-loop-part
invariant-loop-part l = l.list.items ≡ truths_of l.place l.yielded

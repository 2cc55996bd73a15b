use Rattle.std.proofs.Common.{◌≡◌}
use Rattle.plain_formulas.specs.Forms.{singles}
use Rattle.plain_formulas.proofs.forms.single_parts.Given as goal

abbrev pub invariant-loop-part : goal.invariant-loop-part
invariant-loop-part g l = l.list.items ≡ singles l.yielded

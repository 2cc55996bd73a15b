use Rattle.std.proofs.Common.{◌≡◌, vec_len}
use Rattle.plain_formulas.specs.Forms.{all_joined}
use Rattle.plain_formulas.proofs.Joining.{joined_before}
use Rattle.plain_formulas.proofs.parts.all_joined.Given as goal

abbrev pub decreases-loop-part : goal.decreases-loop-part
decreases-loop-part g l = vec_len l.left

abbrev pub invariant-loop-part : goal.invariant-loop-part
invariant-loop-part g l = joined_before l.left.items l.all ≡ all_joined l.fn.parts.items

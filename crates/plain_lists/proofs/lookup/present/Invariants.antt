use Rattle.std.proofs.Common.{◌≡◌, [], take}
use Rattle.std.specs.Prelude.{filter}
use Rattle.sheet_meaning.specs.Formula.{is_read}
use Rattle.plain_lists.specs.Told.{scene}
use Rattle.plain_lists.proofs.lookup.present.Given as goal

abbrev pub invariant-loop-value : goal.invariant-loop-value
invariant-loop-value l = l.list ≡ filter (is_read (scene l.state [])) (take l.value-index l.values)

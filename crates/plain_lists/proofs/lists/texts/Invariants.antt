use Rattle.std.proofs.Common.{◌≡◌, take}
use Rattle.std.specs.List.{filter_map}
use Rattle.sheet_meaning.specs.Formula.{text_in}
use Rattle.plain_lists.proofs.lists.texts.Given as goal

abbrev pub invariant-loop-value : goal.invariant-loop-value
invariant-loop-value l = l.list.items ≡ filter_map text_in (take l.value-index l.values)

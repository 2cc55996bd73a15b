use Rattle.std.proofs.Common.{◌≡◌, length}
use Rattle.std.specs.Prelude.{map}
use Rattle.sheet_eval_sets.specs.Keys.{item_of}
use Rattle.sheet_eval_sets.specs.Noted.{with_items}
use Rattle.sheet_eval_sets.proofs.uses.tell_items.Given as goal

abbrev pub decreases-loop-key : goal.decreases-loop-key
decreases-loop-key l = length l.keys.keys

abbrev pub invariant-loop-key : goal.invariant-loop-key
invariant-loop-key l = with_items l.items (map item_of l.keys.keys) ≡ with_items l.fn.items (map item_of l.fn.keys.keys)

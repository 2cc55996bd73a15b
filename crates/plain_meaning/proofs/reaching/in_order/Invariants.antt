use Rattle.std.proofs.Common.{◌≡◌, length}
use Rattle.std.specs.Prelude.{fold}
use Rattle.sheet_values.specs.Sorted.{insert}
use Rattle.sheet_columns.specs.ItemOrder.{item_cmp}
use Rattle.sheet_meaning.specs.Support.{in_order}
use Rattle.plain_meaning.proofs.reaching.in_order.Given as goal

abbrev pub decreases-loop-item : goal.decreases-loop-item
decreases-loop-item l = length l.rest

abbrev pub invariant-loop-item : goal.invariant-loop-item
invariant-loop-item l = fold (λ xs i. insert item_cmp i xs) l.set l.rest ≡ in_order l.items

-- The order of items: by kind, then by object, then by column.
use Rattle.std.specs.Prelude.{◌≡◌, ℕ}
use Rattle.std.proofs.Common.{ap, refl, arith}
use Rattle.std.specs.declared.cmp.Ordering.{Ordering}
use Rattle.std.specs.declared.cmp.Ordering.TheVariants.{Less, Equal, Greater}
use Rattle.std.specs.Ordering.{nat_cmp, on, then_cmp, ordering_then}
use Rattle.std.specs.Cmp.{IsTotalOrder, then_total, on_total, nat_cmp_total}
use Rattle.std.specs.FinMap.{nat_cmp-IsAntisymmetric}
use Rattle.sheet_columns.specs.declared.item.Item.{Item}
use Rattle.sheet_columns.specs.declared.item.Item.TheVariants.{Live, Up, Extent, Stored}

-- where the kind of an item stands
abbrev pub kind_rank : Item → ℕ
kind_rank (Live o) = 0
kind_rank (Up o) = 1
kind_rank (Extent o c) = 2
kind_rank (Stored o c) = 3

abbrev pub object_of : Item → ℕ
object_of (Live o) = o
object_of (Up o) = o
object_of (Extent o c) = o
object_of (Stored o c) = o

-- the column, and 0 where the item has none
abbrev pub column_of : Item → ℕ
column_of (Live o) = 0
column_of (Up o) = 0
column_of (Extent o c) = c
column_of (Stored o c) = c

abbrev pub item_cmp : Item → Item → Ordering
item_cmp = then_cmp (on kind_rank nat_cmp) (then_cmp (on object_of nat_cmp) (on column_of nat_cmp))

-- the order is total
pub item_total : IsTotalOrder item_cmp
item_total = then_total (on_total kind_rank nat_cmp_total) (then_total (on_total object_of nat_cmp_total) (on_total column_of nat_cmp_total))

first_tied : (r s : Ordering) → ordering_then r s ≡ Equal → (r ≡ Equal) × (s ≡ Equal)
first_tied Less s e = cc
first_tied Equal s e = (refl, e)
first_tied Greater s e = cc

-- items that tie in kind, object and column
parts : (x y : Item) → item_cmp x y ≡ Equal → (kind_rank x ≡ kind_rank y) × (object_of x ≡ object_of y) × (column_of x ≡ column_of y)
parts x y e =
    let kind = first_tied (nat_cmp (kind_rank x) (kind_rank y)) _ e in
    let rest = first_tied (nat_cmp (object_of x) (object_of y)) _ kind.1 in
    (nat_cmp-IsAntisymmetric _ _ kind.0, nat_cmp-IsAntisymmetric _ _ rest.0, nat_cmp-IsAntisymmetric _ _ rest.1)

same_parts : (x y : Item) → kind_rank x ≡ kind_rank y → object_of x ≡ object_of y → column_of x ≡ column_of y → x ≡ y
same_parts (Live o) (Live p) k e f = ap Live e
same_parts (Live o) (Up p) k e f = absurd (omega arith)
same_parts (Live o) (Extent p d) k e f = absurd (omega arith)
same_parts (Live o) (Stored p d) k e f = absurd (omega arith)
same_parts (Up o) (Live p) k e f = absurd (omega arith)
same_parts (Up o) (Up p) k e f = ap Up e
same_parts (Up o) (Extent p d) k e f = absurd (omega arith)
same_parts (Up o) (Stored p d) k e f = absurd (omega arith)
same_parts (Extent o c) (Live p) k e f = absurd (omega arith)
same_parts (Extent o c) (Up p) k e f = absurd (omega arith)
same_parts (Extent o c) (Extent p d) k e f = cc
same_parts (Extent o c) (Stored p d) k e f = absurd (omega arith)
same_parts (Stored o c) (Live p) k e f = absurd (omega arith)
same_parts (Stored o c) (Up p) k e f = absurd (omega arith)
same_parts (Stored o c) (Extent p d) k e f = absurd (omega arith)
same_parts (Stored o c) (Stored p d) k e f = cc

-- only an item itself ties with it
pub item_same : (x y : Item) → item_cmp x y ≡ Equal → x ≡ y
item_same x y e = let p = parts x y e in same_parts x y p.0 p.1 p.2

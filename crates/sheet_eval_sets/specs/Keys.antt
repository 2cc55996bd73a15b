-- Items as keys in their order.
use Rattle.std.specs.Prelude.{◌≡◌, ℕ, ◌==◌, if◌then◌else◌, Bool, true, false, List, [], map, Option, Some, None}
use Rattle.std.specs.BTreeSet.{BTreeSet}
use Rattle.std.specs.List.{AllByRecursion}
use Rattle.sheet_columns.specs.ItemOrder.{kind_rank, object_of, column_of}
use Rattle.sheet_columns.specs.declared.item.Item.{Item}
use Rattle.sheet_columns.specs.declared.item.Item.TheVariants.{Live, Up, Extent, Stored}

abbrev pub Key : Type 0
Key = ℕ × ℕ × ℕ

-- the kind, the object and the column
abbrev pub key_of : Item → Key
key_of i = (kind_rank i, object_of i, column_of i)

-- the item of a key
abbrev pub item_of : Key → Item
item_of k =
    if k.0 == 0 then Live k.1
    else (if k.0 == 1 then Up k.1
    else (if k.0 == 2 then Extent k.1 k.2
    else Stored k.1 k.2))

abbrev pub IsKey : Key → Type 0
IsKey k = key_of (item_of k) ≡ k

-- whether items are noted
abbrev pub keys_noted : Option (BTreeSet Key) → Bool
keys_noted None = false
keys_noted (Some keys) = true

-- the items that are noted
abbrev pub items_noted : Option (BTreeSet Key) → List Item
items_noted None = []
items_noted (Some keys) = map item_of keys.keys

abbrev pub AreKeys : Option (BTreeSet Key) → Type 0
AreKeys None = Unit {0}
AreKeys (Some keys) = AllByRecursion IsKey keys.keys

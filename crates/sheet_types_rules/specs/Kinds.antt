-- Types of values: which agree, and which have an order.
use Rattle.std.specs.Prelude.{ℕ, ◌==◌, Bool, true, false, if◌then◌else◌, Option, Some, None}
use Rattle.sheet_values.specs.declared.value.Kind.{Kind}
use Rattle.sheet_values.specs.declared.value.Kind.TheVariants.{Unknown, Truth, Number, Text, Object}

-- whether two types are the same
abbrev pub same_kind : Kind → Kind → Bool
same_kind Unknown Unknown = true
same_kind Truth Truth = true
same_kind Number Number = true
same_kind Text Text = true
same_kind (Object c) (Object d) = c == d
same_kind k l = false

-- the type of two parts that must agree: both have it, or one has it and the other's isn't known
abbrev pub common : Kind → Kind → Option Kind
common Unknown l = Some l
common k Unknown = Some k
common k l = if same_kind k l then Some k else None

-- whether values of the type may be compared by size: numbers, texts, or values of a type that isn't known
abbrev pub has_order : Kind → Bool
has_order Unknown = true
has_order Truth = false
has_order Number = true
has_order Text = true
has_order (Object c) = false

-- the column of a type of objects
abbrev pub objects_in : Kind → Option ℕ
objects_in Unknown = None
objects_in Truth = None
objects_in Number = None
objects_in Text = None
objects_in (Object c) = Some c

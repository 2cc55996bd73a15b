use Rattle.std.proofs.Common.{◌≡◌, ◌++◌, ◌∷◌, true, length, map, drop}
use Rattle.sheet_types_outline.specs.Columns.{AreObjects, is_object_node, objects_in}
use Rattle.sheet_types_outline.specs.Orderly.{IsOrderlyFrom}
use Rattle.sheet_types_outline.specs.Naming.{name_declaration, nothing_named}
use Rattle.sheet_types_outline.specs.Steps.{in_turn}
use Rattle.sheet_types_outline.proofs.naming.name_all.Given as goal

abbrev pub invariant-loop-declaration : goal.invariant-loop-declaration
invariant-loop-declaration l = record {
  turns : in_turn name_declaration l.named (drop l.declaration-index l.declarations) ≡ in_turn name_declaration nothing_named l.declarations;
  objects : AreObjects l.named.columns l.named.opened;
  orderly : IsOrderlyFrom (length l.named.opened) (drop l.declaration-index l.declarations);
  sorts : map is_object_node l.named.columns ++ objects_in (drop l.declaration-index l.declarations) ≡ true ∷ objects_in l.declarations;
}

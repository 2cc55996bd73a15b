use Rattle.std.proofs.Common.{◌≡◌, ◌++◌, drop, map}
use Rattle.sheet_columns.specs.Contents.{holds_objects}
use Rattle.sheet_types_outline.specs.Columns.{AreFitting, is_object_node, objects_in}
use Rattle.sheet_types_outline.specs.Resolving.{resolve, nothing_resolved}
use Rattle.sheet_types_outline.specs.Steps.{in_turn}
use Rattle.sheet_types_outline.proofs.ResolvingLemmas.{AreUnsigned}
use Rattle.sheet_types_outline.proofs.resolving.resolve_all.Given as goal

abbrev pub invariant-loop-declaration : goal.invariant-loop-declaration
invariant-loop-declaration l = record {
  turns : in_turn (resolve l.columns) l.known (drop l.declaration-index l.declarations) ≡ in_turn (resolve l.columns) nothing_resolved l.declarations;
  unsigned : AreUnsigned (drop l.declaration-index l.declarations);
  sorts : map holds_objects l.known.contents ++ objects_in (drop l.declaration-index l.declarations) ≡ map is_object_node l.columns;
  fitting : AreFitting l.known.contents;
}

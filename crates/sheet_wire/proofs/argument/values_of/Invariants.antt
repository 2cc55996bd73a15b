use Rattle.std.proofs.Common.{◌≡◌, ◌++◌, drop}
use Rattle.std.specs.Prelude.{All, Ok}
use Rattle.serde_json.specs.View.{items_view}
use Rattle.sheet_requests.specs.Reading.{◌>>=◌, values_of}
use Rattle.sheet_wire.specs.Ranges.{IsArgument}
use Rattle.sheet_wire.proofs.argument.values_of.Given as goal

abbrev pub invariant-loop-item : goal.invariant-loop-item
invariant-loop-item l = record {
  told : values_of (items_view (drop l.item-index l.list)) >>= (λ vs. Ok (l.values ++ vs)) ≡ values_of (items_view l.list);
  fit : All IsArgument l.values;
}

use Rattle.std.proofs.Common.{◌≡◌, map, take}
use Rattle.serde_json.specs.View.{view}
use Rattle.sheet_requests.specs.Bodies.{item_data}
use Rattle.sheet_wire.proofs.reply.items_json.Given as goal

abbrev pub invariant-loop-item : goal.invariant-loop-item
invariant-loop-item l = map view l.list.items ≡ map (item_data l.columns) (take l.item-index l.items)

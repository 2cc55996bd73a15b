use Rattle.std.proofs.Common.{◌≡◌, map}
use Rattle.serde_json.specs.View.{members_view}
use Rattle.sheet_requests.specs.Reading.{has_only}
use Rattle.sheet_wire.specs.Fields.{field_name}
use Rattle.sheet_wire.proofs.form.has_only.Given as goal

abbrev pub invariant-loop-name : goal.invariant-loop-name
invariant-loop-name l =
    has_only (map field_name l.fields) (members_view l.members.entries) ≡ has_only (map field_name l.fields) (members_view l.name-iterator)

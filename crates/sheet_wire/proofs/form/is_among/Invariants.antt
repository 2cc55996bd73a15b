use Rattle.std.proofs.Common.{◌≡◌, take, false, bytes_eq}
use Rattle.std.specs.List.{list_any}
use Rattle.sheet_wire.specs.Fields.{field_name}
use Rattle.sheet_wire.proofs.form.is_among.Given as goal

abbrev pub invariant-loop-field : goal.invariant-loop-field
invariant-loop-field l = list_any (λ f. bytes_eq l.name (field_name f)) (take l.field-index l.fields) ≡ false

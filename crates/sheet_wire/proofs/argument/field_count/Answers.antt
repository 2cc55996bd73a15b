use Rattle.std.proofs.Common.{ap, sym, ◌∙◌}
use Rattle.serde_json.proofs.Views.{members_len-members_view}
use Rattle.serde_json.specs.View.{view, members_view}
use Rattle.sheet_wire.specs.Arguments.{fields}
use Rattle.sheet_wire.proofs.Parts.{is_object}
use Rattle.sheet_wire.proofs.argument.field_count.Goals as goal

pub returns-in-Some : goal.returns-in-Some
returns-in-Some c =
    let entries = c.in-Some.fields.now.entries in
    let object = is_object (view c.args.item.now) (members_view entries) (sym c.in-Some.ensures) in
    c.len.ensures.len ∙ sym (members_len-members_view entries) ∙ sym (ap (λ d. fields d) object)

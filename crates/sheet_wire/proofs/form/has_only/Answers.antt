use Rattle.std.proofs.Common.{◌≡◌, ◌∷◌, ◌∙◌, rules, ap, sym, map, true, false, bytes_eq, string_bytes}
use Rattle.std.specs.List.{list_any}
use Rattle.serde_json.proofs.Views.{Entry}
use Rattle.serde_json.specs.View.{members_view}
use Rattle.sheet_requests.specs.Reading.{has_only}
use Rattle.sheet_wire.specs.Fields.{field_name}
use Rattle.sheet_wire.proofs.Parts.{other_name, such_name}
use Rattle.sheet_wire.proofs.form.has_only.Goals as goal

pub returns-then-not-is_among : goal.returns-then-not-is_among
returns-then-not-is_among c =
    let e : Entry = (c.in-Some.name.now, c.in-Some.field-0-1.now) in
    let step : c.loop-name.name-iterator ≡ e ∷ c.next.new.self = c.in-Some.ensures.steps in
    let other : list_any (λ f. bytes_eq (string_bytes c.in-Some.name.now) (field_name f)) c.args.fields.now ≡ false = search rules in
    sym (c.loop-name.invariant ∙ ap (λ es. has_only (map field_name c.args.fields.now) (members_view es)) step
    ∙ other_name c.args.fields.now e c.next.new.self other)

pub loop-name-preserved : goal.loop-name-preserved
loop-name-preserved c =
    let e : Entry = (c.in-Some.name.now, c.in-Some.field-0-1.now) in
    let step : c.loop-name.name-iterator ≡ e ∷ c.next.new.self = c.in-Some.ensures.steps in
    let such : list_any (λ f. bytes_eq (string_bytes c.in-Some.name.now) (field_name f)) c.args.fields.now ≡ true = search rules in
    c.loop-name.invariant ∙ ap (λ es. has_only (map field_name c.args.fields.now) (members_view es)) step
    ∙ such_name c.args.fields.now e c.next.new.self such

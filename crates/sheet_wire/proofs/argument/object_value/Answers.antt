use Rattle.std.proofs.Common.{◌≡◌, rules, codes, Some, None, option_and_then, sym, subst}
use Rattle.serde_json.specs.Find.{get, as_number}
use Rattle.serde_json.specs.View.{view, number_view}
use Rattle.sheet_requests.specs.declared.request.WireRefusal.TheVariants.{BadShape}
use Rattle.sheet_wire.specs.Answers.{Answers}
use Rattle.sheet_wire.specs.Arguments.{fields, object_of}
use Rattle.sheet_wire.proofs.Parts.{object_is, no_object}
use Rattle.sheet_wire.proofs.Steps.{refused}
use Rattle.sheet_wire.proofs.argument.object_value.Goals as goal

pub returns-in-Some-clause-told : goal.returns-in-Some-clause-told
returns-in-Some-clause-told c =
    let d = view c.args.item.now in
    let one : fields d ≡ 1 = search rules in
    let some : option_and_then as_number (get (codes "object") d) ≡ Some (number_view c.in-Some.number.now) = search rules in
    subst (λ told. Answers c.numbered_object.result told) (sym (object_is d _ one some)) c.numbered_object.ensures.told

pub returns-in-None-clause-told : goal.returns-in-None-clause-told
returns-in-None-clause-told c =
    let d = view c.args.item.now in
    let one : fields d ≡ 1 = search rules in
    let none : option_and_then as_number (get (codes "object") d) ≡ None = search rules in
    refused c.bad_shape-in-None.result (BadShape (codes "with")) (object_of d) c.bad_shape-in-None.ensures (no_object d one none)

use Rattle.std.proofs.Common.{◌≡◌, ◌∙◌, [], ◌∷◌, Some, ap, sym, rules}
use Rattle.std.proofs.lemmas.List.{append-nil}
use Rattle.csv.specs.Records.{fields_of}
use Rattle.sheet_csv.specs.Rows.{arguments, with_value}
use Rattle.sheet_csv.specs.Turns.{with_values}
use Rattle.sheet_csv.proofs.RowLemmas.{no_slots, no_values, one_value}
use Rattle.sheet_csv.proofs.rows.read_arguments.Goals as goal

pub loop-slot-init : goal.loop-slot-init
loop-slot-init c =
    ap (λ v. with_values v (arguments c.args.slots.now (fields_of c.args.row.now))) c.new-values.ensures
    ∙ no_values (arguments c.args.slots.now (fields_of c.args.row.now))

pub loop-slot-preserved : goal.loop-slot-preserved
loop-slot-preserved c =
    let fields = fields_of c.args.row.now in
    let others = arguments c.in-Some.more.now fields in
    let front : c.loop-slot.rest.now ≡ c.in-Some.slot.now ∷ c.in-Some.more.now = search rules in
    ap (λ v. with_values v others) c.in_ok-push-in-Some-2.ensures.ok
    ∙ sym (one_value c.loop-slot.values c.in-Some-2.value others)
    ∙ ap (λ o. with_values c.loop-slot.values (with_value o others)) (sym c.in-Some-2.is ∙ c.in_ok-value.ensures)
    ∙ ap (λ r. with_values c.loop-slot.values (arguments r fields)) (sym front)
    ∙ c.loop-slot.invariant

pub returns-in-None : goal.returns-in-None
returns-in-None c =
    let fields = fields_of c.args.row.now in
    let others = arguments c.in-Some.more.now fields in
    let front : c.loop-slot.rest.now ≡ c.in-Some.slot.now ∷ c.in-Some.more.now = search rules in
    sym (ap (λ r. with_values c.loop-slot.values (arguments r fields)) front
    ∙ ap (λ o. with_values c.loop-slot.values (with_value o others)) (sym c.in_ok-value.ensures ∙ c.in-None.is))
    ∙ c.loop-slot.invariant

pub returns : goal.returns
returns c =
    let end : c.loop-slot.rest.now ≡ [] = no_slots c.loop-slot.rest.now c.in_default.ensures.cases in
    ap Some (sym (append-nil c.loop-slot.values))
    ∙ ap (λ r. with_values c.loop-slot.values (arguments r (fields_of c.args.row.now))) (sym end)
    ∙ c.loop-slot.invariant

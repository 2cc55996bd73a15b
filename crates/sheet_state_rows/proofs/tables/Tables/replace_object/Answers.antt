use Rattle.std.proofs.Common.{◌≡◌, ◌<◌, ◌∷◌, [], ◌++◌, refl, ap, ◌∙◌, rules, length, arith}
use Rattle.std.specs.Prelude.{slice_set}
use Rattle.std.proofs.lemmas.List.{length-set}
use Rattle.sheet_state_rows.specs.Rows.{with_objects}
use Rattle.sheet_state_rows.specs.Seen.{seen}
use Rattle.sheet_state_rows.specs.declared.edit.Edit.TheVariants.{ObjectReplaced}
use Rattle.sheet_state_rows.proofs.Undo.{set_back, past_kept, still_can}
use Rattle.sheet_state_rows.proofs.tables.Tables.replace_object.Goals as goal

pub invariant_of-self-2 : goal.invariant_of-self-2
invariant_of-self-2 c =
    let xs = c.self.inside.rows.objects.items in
    let t = seen c.self.inside.rows in
    let lt : c.args.place < length xs = search rules in
    let pushed : c.push_reserved.new.self.items ≡ c.self.inside.edits.items ++ ObjectReplaced c.args.place c.exchange-old.result ∷ [] = search rules in
    let back = ap (with_objects t) (ap (λ l. slice_set l c.args.place c.exchange-old.result) c.exchange-old.ensures.rows
    ∙ set_back xs c.args.place c.exchange-old.result c.args.row lt c.exchange-old.ensures.old) in
    let still : c.args.place < length c.exchange-old.new.rows.items =
    omega (arith, ap length c.exchange-old.ensures.rows, length-set xs c.args.place c.args.row) in
    still_can c.self.inside.edits.items c.push_reserved.new.self.items (ObjectReplaced c.args.place c.exchange-old.result) t _ pushed back (λ v vs. refl)
    c.self.inside.begun still c.self.invariant

pub returns-clause-earlier : goal.returns-clause-earlier
returns-clause-earlier c =
    let xs = c.self.inside.rows.objects.items in
    let t = seen c.self.inside.rows in
    let lt : c.args.place < length xs = search rules in
    let pushed : c.push_reserved.new.self.items ≡ c.self.inside.edits.items ++ ObjectReplaced c.args.place c.exchange-old.result ∷ [] = search rules in
    let back = ap (with_objects t) (ap (λ l. slice_set l c.args.place c.exchange-old.result) c.exchange-old.ensures.rows
    ∙ set_back xs c.args.place c.exchange-old.result c.args.row lt c.exchange-old.ensures.old) in
    past_kept c.self.inside.edits.items c.push_reserved.new.self.items (ObjectReplaced c.args.place c.exchange-old.result) t _ pushed back (λ v vs. refl)
    ∙ ap (λ v. v.earlier) c.self.view_is

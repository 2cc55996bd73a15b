use Rattle.std.proofs.Common.{◌≡◌, ◌<◌, ◌∷◌, [], ◌++◌, refl, ap, ◌∙◌, rules, length, arith, true, false, Bool}
use Rattle.std.specs.Prelude.{slice_set, not}
use Rattle.std.proofs.lemmas.List.{length-set}
use Rattle.sheet_values.specs.Sets.{contains}
use Rattle.sheet_values.specs.declared.value.Value.TheVariants.{Object}
use Rattle.sheet_state_rows.specs.Rows.{with_extents, set_row, joined, parted}
use Rattle.sheet_state_rows.specs.Seen.{seen}
use Rattle.sheet_state_rows.specs.declared.edit.Edit.TheVariants.{ExtentJoined}
use Rattle.sheet_state_rows.proofs.Undo.{join_back, past_kept, still_can}
use Rattle.sheet_state_rows.proofs.tables.Tables.join_extent.Goals as goal

absent : (a b : Bool) → a ≡ not b → a ≡ true → b ≡ false
absent true true e t = cc
absent true false e t = refl
absent false b e t = cc

pub invariant_of-self-then-branch : goal.invariant_of-self-then-branch
invariant_of-self-then-branch c =
    let xs = c.self.inside.rows.extents.items in
    let t = seen c.self.inside.rows in
    let k = c.args.place in
    let lt : k < length xs = search rules in
    let none = absent _ (contains (Object c.args.object) (set_row xs k).set) c.in_ok-join.ensures.is_new c.if-branch.true in
    let pushed : c.push_reserved.new.self.items ≡ c.self.inside.edits.items ++ ExtentJoined k c.args.object ∷ [] = search rules in
    let back = ap (with_extents t) (ap (λ l. slice_set l k (parted c.args.object (set_row l k))) c.in_ok-join.ensures.rows
    ∙ join_back xs k c.args.object lt none) in
    let still : k < length c.join.new.rows.items = omega (arith, ap length c.in_ok-join.ensures.rows, length-set xs k (joined c.args.object (set_row xs k))) in
    still_can c.self.inside.edits.items c.push_reserved.new.self.items (ExtentJoined k c.args.object) t _ pushed back (λ v vs. refl) c.self.inside.begun still
    c.self.invariant

pub returns-then-branch-clause-earlier : goal.returns-then-branch-clause-earlier
returns-then-branch-clause-earlier c =
    let xs = c.self.inside.rows.extents.items in
    let t = seen c.self.inside.rows in
    let k = c.args.place in
    let lt : k < length xs = search rules in
    let none = absent _ (contains (Object c.args.object) (set_row xs k).set) c.in_ok-join.ensures.is_new c.if-branch.true in
    let pushed : c.push_reserved.new.self.items ≡ c.self.inside.edits.items ++ ExtentJoined k c.args.object ∷ [] = search rules in
    let back = ap (with_extents t) (ap (λ l. slice_set l k (parted c.args.object (set_row l k))) c.in_ok-join.ensures.rows
    ∙ join_back xs k c.args.object lt none) in
    past_kept c.self.inside.edits.items c.push_reserved.new.self.items (ExtentJoined k c.args.object) t _ pushed back (λ v vs. refl)
    ∙ ap (λ v. v.earlier) c.self.view_is

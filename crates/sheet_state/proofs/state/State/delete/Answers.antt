use Rattle.std.proofs.Common.{◌≡◌, ◌∙◌, ap, subst}
use Rattle.std.specs.Prelude.{OnOk, is_some}
use Rattle.sheet_values.specs.Sets.{contains}
use Rattle.sheet_values.specs.declared.value.Value.TheVariants.{Object}
use Rattle.sheet_meaning.specs.Workbook.{object_at}
use Rattle.sheet_state.specs.Removals.{without_all}
use Rattle.sheet_state.proofs.Existing.{some_of}
use Rattle.sheet_state.proofs.Removed.{one_removed, no_root_in}
use Rattle.sheet_state.proofs.state.State.delete.Goals as goal

pub delete_all-requires-clause-not_root : goal.delete_all-requires-clause-not_root
delete_all-requires-clause-not_root c = ap (contains (Object 0)) c.in_ok-objects.ensures ∙ no_root_in c.args.object c.requires.not_root

pub returns-clause-state : goal.returns-clause-state
returns-clause-state c =
    let s = c.args.self.now.present.state in
    let o = c.args.object in
    subst (λ u. OnOk c.delete_all.result (c.delete_all.new.self.present.state ≡ u)) (ap (without_all s) c.in_ok-objects.ensures
    ∙ one_removed s o (ap is_some (some_of (object_at s.objects o) c.requires.live).1)) c.delete_all.ensures.state

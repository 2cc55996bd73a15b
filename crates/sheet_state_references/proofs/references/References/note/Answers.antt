use Rattle.std.proofs.Common.{◌≡◌, ◌∙◌, refl, ap, Bool, true, false, cond}
use Rattle.std.specs.Ordering.{is_eq}
use Rattle.sheet_values.specs.Sorted.{contains}
use Rattle.sheet_state_references.specs.Order.{reference_cmp}
use Rattle.sheet_state_references.proofs.references.References.note.Goals as goal

still : (a b : Bool) → b ≡ true → cond a true b ≡ true
still true b e = refl
still false b e = e

pub returns-clause-others : goal.returns-clause-others
returns-clause-others c = λ r h.
    c.in_ok-insert.ensures.updates.0 r
    ∙ still (is_eq (reference_cmp c.args.reference r)) (contains reference_cmp r c.self.inside.entries.keys) (ap (contains reference_cmp r) c.self.view_is ∙ h)

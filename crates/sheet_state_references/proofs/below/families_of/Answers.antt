use Rattle.std.proofs.Common.{◌≡◌, ℕ, sym, subst, ◌<◌, ◌^◌, ◌∷◌}
use Rattle.sheet_state_references.specs.Below.{has}
use Rattle.sheet_state_references.proofs.Searched.{Searched, remaining, turn, falls}
use Rattle.sheet_state_references.proofs.below.families_of.Goals as goal

pub loop-number-smaller : goal.loop-number-smaller
loop-number-smaller c =
    let m = c.in-Some.number in
    let fits : m < 2 ^ 64 = c.add_children.ensures.fits in
    let removal : c.loop-number.waiting.keys ≡ m ∷ c.pop_first.new.self.keys = c.in-Some.ensures.removal in
    subst (λ ks. remaining c.add_children.new.waiting.keys < remaining ks) (sym removal)
    (falls c.args.extents.now m c.pop_first.new.self.keys c.add_children.new.waiting.keys fits c.requires.descends c.in-Some.ensures.all_above
    c.in_ok-add_children.ensures.added)

pub loop-number-preserved : goal.loop-number-preserved
loop-number-preserved c =
    let m = c.in-Some.number in
    let removal : c.loop-number.waiting.keys ≡ m ∷ c.pop_first.new.self.keys = c.in-Some.ensures.removal in
    let p = λ (n : ℕ). has n c.args.starts.keys in
    subst (Searched c.args.extents.now p c.add_children.new.waiting.keys) (sym c.in_ok-insert.ensures.set)
    (turn c.args.extents.now p m c.pop_first.new.self.keys c.loop-number.families
    (subst (λ ks. Searched c.args.extents.now p ks c.loop-number.families) removal c.loop-number.invariant) c.add_children.new.waiting.keys
    c.in_ok-add_children.ensures.added)

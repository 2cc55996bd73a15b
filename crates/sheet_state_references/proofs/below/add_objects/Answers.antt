use Rattle.std.proofs.Common.{◌≡◌, ◌∙◌, sym, ap, ℕ, true, cond, take, get_or}
use Rattle.std.specs.Prelude.{◌||◌}
use Rattle.std.specs.Ordering.{is_eq, nat_cmp}
use Rattle.std.proofs.lemmas.List.Folds.{list_any_more}
use Rattle.sheet_values.specs.Order.{value_cmp}
use Rattle.sheet_values.specs.Sets.{contains}
use Rattle.sheet_values.specs.declared.value.Value.TheVariants.{Object}
use Rattle.sheet_state_references.specs.Below.{has}
use Rattle.sheet_state_references.proofs.Numbers.{ties_turned, has_more, same_again, no_object}
use Rattle.sheet_state_references.proofs.below.add_objects.Goals as goal
use Rattle.sheet_state_references.proofs.below.add_objects.Goals.{in-Object+in_ok-insert, in_default}

pub loop-value-preserved : goal.loop-value-preserved
loop-value-preserved c =
    let vs = c.as_slice-value-items.result.now in
    let i = c.loop-value.value-index in
    let v = c.value-item.result in
    elim c.match-value.branch [
      | in-Object+in_ok-insert w ↦ λ n.
          let m = w.in-Object.number in
          let is : get_or vs i v ≡ Object m = sym c.value-item.is ∙ w.in-Object.is in
          ap (λ s. has n s.keys) w.waiting-is
          ∙ w.in_ok-insert.ensures.updates.0 n
          ∙ ap (λ b. cond b true (has n c.loop-value.waiting.keys)) (ties_turned m n)
          ∙ ap (λ b. cond (is_eq (nat_cmp n m)) true b) (c.loop-value.invariant n)
          ∙ has_more (has n c.args.waiting.now.keys) (contains (Object n) (take i vs)) (is_eq (nat_cmp n m))
          ∙ ap (λ x. has n c.args.waiting.now.keys || (contains (Object n) (take i vs) || is_eq (value_cmp (Object n) x))) (sym is)
          ∙ ap (λ b. has n c.args.waiting.now.keys || b) (sym (list_any_more (λ y. is_eq (value_cmp (Object n) y)) vs i v c.loop-value-test.true))
      | in_default w ↦ λ n.
          let none : (m : ℕ) → get_or vs i v ≡ Object m → ⊥ = λ m e. w.in_default.not-Object m (c.value-item.is ∙ e) in
          ap (λ s. has n s.keys) w.waiting-is
          ∙ c.loop-value.invariant n
          ∙ same_again (has n c.args.waiting.now.keys) (contains (Object n) (take i vs)) (is_eq (value_cmp (Object n) (get_or vs i v)))
          (no_object n (get_or vs i v) none)
          ∙ ap (λ b. has n c.args.waiting.now.keys || b) (sym (list_any_more (λ y. is_eq (value_cmp (Object n) y)) vs i v c.loop-value-test.true))
    ]

use Rattle.std.proofs.Common.{◌≡◌, ℕ, ◌<◌, ◌≤◌, ◌+◌, length, arith, ◌⊎◌, inl, inr}
use Rattle.std.proofs.lemmas.Bool.{cases_lt}
use Rattle.sheet_state.specs.Places.{IsOwnRow}
use Rattle.sheet_state.proofs.Adding.{none_added, one_added, both_added, fewer}
use Rattle.sheet_state.proofs.places.add_own.Goals as goal

pub loop-place-init : goal.loop-place-init
loop-place-init c =
    none_added (λ k. (c.own_places-from.result.0 ≤ k) × (k < c.own_places-from.result.0)) (length c.args.rows.now) c.args.places.now.keys (λ k h. let low =
    h.0 in let high = h.1 in absurd (omega arith))

pub loop-place-preserved : goal.loop-place-preserved
loop-place-preserved c =
    let n = length c.args.rows.now in
    let from = c.own_places-from.result.0 in
    let p = c.loop-place.place in
    let lt : p < n = omega (arith, c.loop-place-test.true, c.own_places-from.ensures.within) in
    fewer (λ k. ((from ≤ k) × (k < p)) ⊎ (p ≡ k)) (λ k. (from ≤ k) × (k < p + 1)) n c.args.places.now.keys c.insert.new.self.keys
    (λ k h. split from p k h.0 h.1)
    (both_added (λ k. (from ≤ k) × (k < p)) (λ k. p ≡ k) n c.args.places.now.keys c.loop-place.places.keys c.insert.new.self.keys c.loop-place.invariant
    (one_added (λ k. p ≡ k) n p c.loop-place.places.keys c.insert.new.self.keys c.in_ok-insert.ensures.updates.0 lt (λ k e. e)))
  where
    split : (from p k : ℕ) → from ≤ k → k < p + 1 → ((from ≤ k) × (k < p)) ⊎ (p ≡ k)
    split from p k low high = elim (cases_lt k p) [ inl lt ↦ inl (low, lt) | inr ge ↦ inr (omega arith) ]

pub returns : goal.returns
returns c =
    let n = length c.args.rows.now in
    let from = c.own_places-from.result.0 in
    let at_end = c.loop-place-test.false in
    fewer (λ k. (from ≤ k) × (k < c.loop-place.place)) (IsOwnRow c.args.rows.now c.args.object) n c.args.places.now.keys c.loop-place.places.keys
    (λ k h. let own = c.own_places-from.ensures.all k h.0 h.1 in let high = own.1 in (own.0, omega arith)) c.loop-place.invariant

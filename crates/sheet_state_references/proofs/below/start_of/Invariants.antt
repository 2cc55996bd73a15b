use Rattle.std.proofs.Common.{ℕ, ◌<◌, ◌≤◌, ◌-◌, length}
use Rattle.sheet_state_rows.specs.Rows.{set_row}
use Rattle.sheet_state_references.proofs.below.start_of.Given as goal

abbrev pub invariant-loop-low : goal.invariant-loop-low
invariant-loop-low l = record {
  order : l.low ≤ l.high;
  within : l.high ≤ length l.rows;
  before : (k : ℕ) → k < l.low → (set_row l.rows k).object < l.number;
  behind : (k : ℕ) → l.high ≤ k → k < length l.rows → l.number ≤ (set_row l.rows k).object;
}

abbrev pub decreases-loop-low : goal.decreases-loop-low
decreases-loop-low l = l.high - l.low

use Rattle.std.proofs.Common.{◌≡◌, ◌+◌, drop}
use Rattle.sheet_syntax_trees.specs.Bytes.{run_length}
use Rattle.sheet_syntax_trees.specs.Runs.{goes_on}
use Rattle.sheet_syntax_trees.proofs.bytes.run_length.Given as goal

abbrev pub invariant-loop-byte : goal.invariant-loop-byte
invariant-loop-byte l = record {
  index : l.count ≡ l.byte-index;
  value : run_length (goes_on l.run) (drop l.byte-index l.bytes) + l.count ≡ run_length (goes_on l.run) l.bytes;
}

use Rattle.std.proofs.Common.{take, flat_map}
use Rattle.sheet_syntax_trees.specs.Printing.{escape}
use Rattle.sheet_define_length.specs.Counting.{Counts}
use Rattle.sheet_define_length.proofs.words.count_content.Given as goal

abbrev pub invariant-loop-byte : goal.invariant-loop-byte
invariant-loop-byte l = Counts l.total l.sum (flat_map escape (take l.byte-index l.content))

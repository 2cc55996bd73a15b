use Rattle.std.proofs.Common.{take}
use Rattle.std.specs.List.{flat_map}
use Rattle.sheet_define_data.specs.Printing.{show_text}
use Rattle.sheet_define_length.specs.Counting.{Counts}
use Rattle.sheet_define_length.proofs.definition.count_shows.Given as goal

abbrev pub invariant-loop-show : goal.invariant-loop-show
invariant-loop-show l = Counts l.total l.sum (flat_map (show_text l.margin) (take l.show-index l.shows))

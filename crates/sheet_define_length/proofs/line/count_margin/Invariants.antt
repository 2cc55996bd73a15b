use Rattle.sheet_define_data.specs.Printing.{margin}
use Rattle.sheet_define_length.specs.Counting.{Counts}
use Rattle.sheet_define_length.proofs.line.count_margin.Given as goal

abbrev pub invariant-loop : goal.invariant-loop
invariant-loop l = Counts l.total l.sum (margin l.counter)

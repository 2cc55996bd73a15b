use Rattle.std.proofs.Common.{◌≡◌, ◌++◌}
use Rattle.sheet_define_data.specs.Printing.{margin}
use Rattle.sheet_define_print.proofs.line.append_margin.Given as goal

abbrev pub invariant-loop : goal.invariant-loop
invariant-loop l = l.out.items ≡ l.fn.out.items ++ margin l.counter

use Rattle.sheet_procs_touched.specs.Touched.{is_new}
use Rattle.sheet_procs_touched.proofs.Adding.{AddsBelow}
use Rattle.sheet_procs_touched.proofs.touched.Touched.add_new.Given as goal

abbrev pub invariant-loop-number : goal.invariant-loop-number
invariant-loop-number l = AddsBelow (is_new l.columns l.object l.column) l.number l.fn.self l.self

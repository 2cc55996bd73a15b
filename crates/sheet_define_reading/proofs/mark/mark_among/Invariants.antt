use Rattle.std.proofs.Common.{◌≡◌, drop}
use Rattle.std.specs.Prelude.{map}
use Rattle.sheet_define_reading.specs.Marks.{mark_among}
use Rattle.sheet_define_reading.proofs.mark.mark_among.Given as goal

abbrev pub invariant-loop-spelled : goal.invariant-loop-spelled
invariant-loop-spelled l =
    mark_among (map (λ row. (row.0.now, row.1)) (drop l.spelled-index l.table)) l.word ≡ mark_among (map (λ row. (row.0.now, row.1)) l.table) l.word

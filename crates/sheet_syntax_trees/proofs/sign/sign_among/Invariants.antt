use Rattle.std.proofs.Common.{◌≡◌, drop}
use Rattle.std.specs.Prelude.{map}
use Rattle.sheet_syntax_trees.specs.Signs.{sign_among}
use Rattle.sheet_syntax_trees.proofs.sign.sign_among.Given as goal

abbrev pub invariant-loop-spelled : goal.invariant-loop-spelled
invariant-loop-spelled l =
    sign_among (map (λ row. (row.0.now, row.1)) (drop l.spelled-index l.table)) l.word ≡ sign_among (map (λ row. (row.0.now, row.1)) l.table) l.word

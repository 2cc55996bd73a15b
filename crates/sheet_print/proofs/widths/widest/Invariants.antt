use Rattle.std.proofs.Common.{◌≡◌, take}
use Rattle.std.specs.Prelude.{fold, map, max}
use Rattle.sheet_print.specs.Widths.{width_at}
use Rattle.sheet_print.proofs.widths.widest.Given as goal

abbrev pub invariant-loop-fields : goal.invariant-loop-fields
invariant-loop-fields l = l.most ≡ fold max 0 (map (width_at l.place) (take l.fields-index l.lines))

use Rattle.std.proofs.Common.{◌≡◌, ◌++◌, take}
use Rattle.std.specs.List.{flat_map}
use Rattle.sheet_define_data.specs.Printing.{show_text}
use Rattle.sheet_define_print.proofs.definition.append_shows.Given as goal

abbrev pub invariant-loop-show : goal.invariant-loop-show
invariant-loop-show l = l.out.items ≡ l.fn.out.items ++ flat_map (show_text l.margin) (take l.show-index l.shows)

use Rattle.std.proofs.Common.{◌≡◌, vec_len}
use Rattle.sheet_types_outline.specs.Columns.{AreAlike, AreFitting}
use Rattle.sheet_types_outline.specs.Outlines.{filled}
use Rattle.sheet_types_outline.proofs.contents.fill.Given as goal

abbrev pub invariant-loop-content : goal.invariant-loop-content
invariant-loop-content l = record {
  filled : filled l.columns l.contents.items ≡ filled l.initial.columns l.initial.contents.items;
  alike : AreAlike l.columns l.contents.items;
  fitting : AreFitting l.contents.items;
}

abbrev pub decreases-loop-content : goal.decreases-loop-content
decreases-loop-content l = vec_len l.contents

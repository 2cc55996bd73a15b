use Rattle.std.proofs.Common.{Ok, arith}
use Rattle.sheet_lines.specs.declared.reader.Part.TheVariants.{More, Feed}
use Rattle.sheet_lines.specs.declared.stop.ReadStop.{ReadStop}
use Rattle.sheet_lines.proofs.Parts.{told_pass, told_counts}
use Rattle.sheet_lines.proofs.reader.LineReader.pass_line.Goals as goal

pub parts-preserved : goal.parts-preserved
parts-preserved g c = record {
  line = told_pass ReadStop (Ok More) _ _ _ c.parts.invariant.line (rw c.in-More.is at c.in_ok-pass_part.ensures.part);
  counts = told_counts _ _ _ _ _ _ c.parts.invariant.counts c.pass_part.ensures.counts;
  later_use = omega arith;
  later = omega arith;
}

pub returns-in-Feed-clause-line : goal.returns-in-Feed-clause-line
returns-in-Feed-clause-line g c = told_pass ReadStop (Ok Feed) _ _ _ c.parts.invariant.line (rw c.in-Feed.is at c.in_ok-pass_part.ensures.part)

use Rattle.std.proofs.Common.{Ok, arith}
use Rattle.sheet_lines.specs.declared.reader.Part.TheVariants.{More}
use Rattle.sheet_lines.specs.declared.stop.ReadStop.{ReadStop}
use Rattle.sheet_lines.proofs.Parts.{told_part, told_counts, more_is_no_feed}
use Rattle.sheet_lines.proofs.reader.LineReader.take_line.Goals as goal

pub parts-preserved : goal.parts-preserved
parts-preserved g c =
    let kept = c.in_ok-part.ensures.exact (more_is_no_feed ReadStop c.in_ok-part.part c.in-More.is) in record {
      line = told_part ReadStop (Ok More) c.args.line.now.items c.parts.line.items c.take_part.new.line.items _ _ _ c.parts.invariant.line
          (rw c.in-More.is at c.in_ok-part.ensures.part);
      counts = told_counts _ _ _ _ _ _ c.parts.invariant.counts c.take_part.ensures.counts;
      kept = omega arith;
      grows = omega arith;
      exact = omega arith;
      later_use = omega arith;
      later = omega arith;
    }

pub returns-in_default-clause-line : goal.returns-in_default-clause-line
returns-in_default-clause-line g c =
    told_part ReadStop (Ok c.in_ok-part.part) c.args.line.now.items c.parts.line.items c.take_part.new.line.items _ _ _ c.parts.invariant.line
    c.in_ok-part.ensures.part

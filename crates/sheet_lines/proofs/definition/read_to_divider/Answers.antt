use Rattle.std.proofs.Common.{arith}
use Rattle.sheet_lines.specs.declared.stop.ReadStop.{ReadStop}
use Rattle.sheet_lines.proofs.Telling.{on_err}
use Rattle.sheet_lines.proofs.Parts.{told_counts}
use Rattle.sheet_lines.proofs.Dividing.{told_line_on, told_divided_on, told_stopped_on, line_is_short}
use Rattle.sheet_lines.proofs.definition.read_to_divider.Goals as goal

pub returns-in_err-definition_line-clause-stopped : goal.returns-in_err-definition_line-clause-stopped
returns-in_err-definition_line-clause-stopped g c =
    on_err c.from_residual.result _ (told_stopped_on ReadStop c.in_err-definition_line.field-0.0 c.lines.text.items c.definition_line.new.text.items _ _ _
    c.lines.invariant.dividing c.in_err-definition_line.ensures.growth)

pub lines-preserved : goal.lines-preserved
lines-preserved g c =
    let uses = c.in_ok-definition_line.ensures.line c.in-Line.is in
    let fits = c.in_ok-definition_line.ensures.within (line_is_short c.in_ok-definition_line.field-0 c.in-Line.is) in record {
      dividing = told_line_on ReadStop c.lines.text.items c.definition_line.new.text.items _ _ _ c.lines.invariant.dividing
          (rw c.in-Line.is at c.in_ok-definition_line.ensures.growth);
      counts = told_counts _ _ _ _ _ _ c.lines.invariant.counts c.definition_line.ensures.counts;
      within = omega (arith, c.definition_line.new.text.ok.0);
      exact = omega (arith, c.definition_line.new.text.ok.0, c.lines.text.ok.0);
      later = omega arith;
    }

pub returns-in-Divided-clause-text : goal.returns-in-Divided-clause-text
returns-in-Divided-clause-text g c =
    told_divided_on ReadStop c.lines.text.items c.definition_line.new.text.items _ _ _ c.lines.invariant.dividing
    (rw c.in-Divided.is at c.in_ok-definition_line.ensures.growth)

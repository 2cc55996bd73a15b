use Rattle.std.proofs.Common.{ℕ, List, Ok, ap, subst, arith}
use Rattle.sheet_outside.specs.Told.{WhereTold}
use Rattle.sheet_lines.specs.Reading.{TakesLine}
use Rattle.sheet_lines.specs.Unread.{rest}
use Rattle.sheet_lines.specs.declared.reader.Part.TheVariants.{Full}
use Rattle.sheet_lines.specs.declared.stop.ReadStop.{ReadStop}
use Rattle.sheet_lines.proofs.Parts.{told_full_line}
use Rattle.sheet_lines.proofs.reader.LineReader.next_line.Goals as goal

pub returns-in-Full-clause-line : goal.returns-in-Full-clause-line
returns-in-Full-clause-line g c =
    let P : List ℕ → Type 0 =
    λ kept. WhereTold (TakesLine {E = ReadStop} (Ok Full) kept c.take_line.new.line.items) (rest c.args.self.now (g.S.Source.left c.args.input.now))
    (rest c.take_line.new.self (g.S.Source.left c.take_line.new.input)) in
    let front : P c.clear.new.self.items = rw c.in-Full.is at c.in_ok-take_line.ensures.line in
    let full = c.in_ok-take_line.ensures.full (ap Ok c.in-Full.is) in
    told_full_line ReadStop c.args.most c.pass_line.result c.take_line.new.line.items _ _ _ c.pass_line.ensures.ends (omega (arith, c.take_line.new.line.ok.0))
    c.requires (subst P c.clear.ensures.items front) c.pass_line.ensures.line

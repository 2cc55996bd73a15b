use Rattle.std.proofs.Common.{◌≡◌, length, ◌≤◌, Ok, ap, arith}
use Rattle.sheet_lines.specs.declared.stop.ReadStop.{ReadStop}
use Rattle.sheet_lines.proofs.Dividing.{told_feed, told_full, told_end, told_stop}
use Rattle.sheet_lines.proofs.definition.definition_line.Goals as goal

pub returns-in-Err-clause-growth : goal.returns-in-Err-clause-growth
returns-in-Err-clause-growth g c =
    told_stop ReadStop ReadStop c.in-Err.stop c.in-Err.stop c.args.text.now.items c.take_line.new.line.items _ _ c.in-Err.ensures.line

pub returns-in-Feed-clause-growth : goal.returns-in-Feed-clause-growth
returns-in-Feed-clause-growth g c =
    let start : c.len-start.result ≡ length c.args.text.now.items = omega (arith, c.args.text.now.ok.0) in
    told_feed ReadStop c.add_line.result c.args.text.now.items c.take_line.new.line.items c.add_line.new.text.items c.len-start.result _ _ start
    (rw c.in-Feed.is at c.in-Ok.ensures.line) c.add_line.ensures.adds

pub returns-in-Full-clause-growth : goal.returns-in-Full-clause-growth
returns-in-Full-clause-growth g c =
    let full = c.in-Ok.ensures.full (ap Ok c.in-Full.is) in
    let within : length c.args.text.now.items ≤ 262144 = omega (arith, c.args.text.now.ok.0) in
    let all : length c.take_line.new.line.items ≡ 262148 = omega (arith, c.take_line.new.line.ok.0) in
    told_full ReadStop c.args.text.now.items c.take_line.new.line.items _ _ within all (rw c.in-Full.is at c.in-Ok.ensures.line)

pub returns-in_default-clause-growth : goal.returns-in_default-clause-growth
returns-in_default-clause-growth g c =
    let start : c.len-start.result ≡ length c.args.text.now.items = omega (arith, c.args.text.now.ok.0) in
    told_end ReadStop c.in-Ok.part c.add_last.result c.args.text.now.items c.take_line.new.line.items c.add_last.new.text.items c.len-start.result _ _
    c.in_default.not-Feed c.in_default.not-Full c.in-Ok.ensures.ends start c.in-Ok.ensures.line c.add_last.ensures

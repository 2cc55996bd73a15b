use Rattle.std.proofs.Common.{refl, ap}
use Rattle.objsheet_status.specs.Outside.{outside, seen}
use Rattle.objsheet.specs.Ran.Ran.{checks, tries, inits}
use Rattle.objsheet.proofs.Ran.{checked, tried}
use Rattle.objsheet.proofs.run.run.Goals as goal

pub returns-in-Some-Check-clause-ran : goal.returns-in-Some-Check-clause-ran
returns-in-Some-Check-clause-ran g c =
    let disk = seen (g.D.Disk.told c.args.disk.now) (g.D.Disk.faults c.args.disk.now) in
    let a = outside (seen (g.S.Source.left c.args.input.now) (g.S.Source.faults c.args.input.now))
    (seen (g.K.Sink.written c.args.output.now) (g.K.Sink.faults c.args.output.now)) disk in
    let b = outside (seen (g.S.Source.left c.check.new.input) (g.S.Source.faults c.check.new.input))
    (seen (g.K.Sink.written c.check.new.output) (g.K.Sink.faults c.check.new.output)) disk in
    let e = c.check.ensures in
    let named = rw c.in-Some-Check.field-0-is at c.in-Some-Check.ensures in
    checks named (checked a b c.check.result e.statuses e.good e.good_input e.refused e.refused_input e.source e.stopped e.unsaid e.sink e.sink_broken) refl

pub returns-in-Some-Try-clause-ran : goal.returns-in-Some-Try-clause-ran
returns-in-Some-Try-clause-ran g c =
    let a = outside (seen (g.S.Source.left c.args.input.now) (g.S.Source.faults c.args.input.now))
    (seen (g.K.Sink.written c.args.output.now) (g.K.Sink.faults c.args.output.now)) (seen (g.D.Disk.told c.args.disk.now) (g.D.Disk.faults c.args.disk.now)) in
    let b = outside (seen (g.S.Source.left c.try_lines.new.input) (g.S.Source.faults c.try_lines.new.input))
    (seen (g.K.Sink.written c.try_lines.new.output) (g.K.Sink.faults c.try_lines.new.output))
    (seen (g.D.Disk.told c.try_lines.new.disk) (g.D.Disk.faults c.try_lines.new.disk)) in
    let e = c.try_lines.ensures in
    let named = rw c.in-Some-Try.field-0-is at c.in-Some-Try.ensures in
    tries named (tried a b c.try_lines.result e.statuses e.done e.done_input e.refused e.refused_input e.source e.stopped e.sink e.sink_broken e.memory_broken)
    (ap (λ d. seen (g.D.Disk.told d) (g.D.Disk.faults d)) e.still)

pub returns-in-Some-Init-clause-ran : goal.returns-in-Some-Init-clause-ran
returns-in-Some-Init-clause-ran g c =
    let named = rw c.in-Some-Init.field-0-is at c.in-Some-Init.ensures in
    inits c.in-Some-Init.name.now c.in-Some-Init.key.now named c.init.ensures.inits

use Rattle.std.proofs.Common.{◌≡◌, ◌<◌, [], length, drop, arith}
use Rattle.std.proofs.lemmas.List.{drop_all}
use Rattle.std.proofs.lemmas.Result.{on_ok_weaker}
use Rattle.sheet_requests.specs.Bodies.{part_data}
use Rattle.sheet_wire.proofs.Sending.{all_sent, one_more}
use Rattle.sheet_wire.proofs.page.send_parts.Goals as goal

pub returns : goal.returns
returns g c =
    let xs = c.args.parts.now in
    let written = g.S.Serializer.written in
    let none : drop c.loop-part.part-index xs ≡ [] = drop_all c.loop-part.part-index xs (omega arith) in
    on_ok_weaker c.end_seq.result (λ e. all_sent (part_data c.args.columns.now) xs c.loop-part.part-index (written c.args.out.now) (written c.begin_seq.new.self) (written c.loop-part.out)
    (written c.end_seq.new.self) none c.in_ok-begin_seq.ensures c.loop-part.invariant e) c.end_seq.ensures

pub loop-part-preserved : goal.loop-part-preserved
loop-part-preserved g c =
    let xs = c.args.parts.now in
    let k = c.loop-part.part-index in
    let written = g.S.Serializer.written in
    let within : k < length xs = omega (arith, c.loop-part-test.true) in
    one_more (part_data c.args.columns.now) xs k c.part-item.result (written c.begin_seq.new.self) (written c.loop-part.out) (written c.send_part.new.out) within
    c.part-item.is c.loop-part.invariant (c.in_ok-send_part.ensures)

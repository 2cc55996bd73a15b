use Rattle.std.proofs.Common.{◌≡◌, ◌<◌, [], length, drop, arith}
use Rattle.std.proofs.lemmas.List.{drop_all}
use Rattle.std.proofs.lemmas.Result.{on_ok_weaker}
use Rattle.sheet_requests.specs.Bodies.{shown_data}
use Rattle.sheet_wire.proofs.Sending.{all_sent, one_more}
use Rattle.sheet_wire.proofs.page.send_shows.Goals as goal

pub returns : goal.returns
returns g c =
    let xs = c.args.shows.now in
    let written = g.S.Serializer.written in
    let none : drop c.loop-shown.shown-index xs ≡ [] = drop_all c.loop-shown.shown-index xs (omega arith) in
    on_ok_weaker c.end_seq.result (λ e. all_sent (shown_data c.args.columns.now) xs c.loop-shown.shown-index (written c.args.out.now) (written c.begin_seq.new.self) (written c.loop-shown.out)
    (written c.end_seq.new.self) none c.in_ok-begin_seq.ensures c.loop-shown.invariant e) c.end_seq.ensures

pub loop-shown-preserved : goal.loop-shown-preserved
loop-shown-preserved g c =
    let xs = c.args.shows.now in
    let k = c.loop-shown.shown-index in
    let written = g.S.Serializer.written in
    let within : k < length xs = omega (arith, c.loop-shown-test.true) in
    one_more (shown_data c.args.columns.now) xs k c.shown-item.result (written c.begin_seq.new.self) (written c.loop-shown.out) (written c.send_shown.new.out) within
    c.shown-item.is c.loop-shown.invariant (c.in_ok-send_shown.ensures)

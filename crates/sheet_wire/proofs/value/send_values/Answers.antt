use Rattle.std.proofs.Common.{◌≡◌, [], drop, arith}
use Rattle.std.proofs.lemmas.List.{drop_all}
use Rattle.std.proofs.lemmas.Result.{on_ok_weaker}
use Rattle.sheet_requests.specs.Bodies.{value_data}
use Rattle.sheet_wire.proofs.Sending.{all_sent}
use Rattle.sheet_wire.proofs.value.send_values.Goals as goal

pub returns : goal.returns
returns g c =
    let xs = c.args.values.now in
    let written = g.S.Serializer.written in
    let none : drop c.loop-value.value-index xs ≡ [] = drop_all c.loop-value.value-index xs (omega arith) in
    on_ok_weaker c.end_seq.result (λ e. all_sent value_data xs c.loop-value.value-index (written c.args.out.now) (written c.begin_seq.new.self) (written c.loop-value.out)
    (written c.end_seq.new.self) none c.in_ok-begin_seq.ensures c.loop-value.invariant e) c.end_seq.ensures

use Rattle.std.proofs.Common.{◌≡◌, [], drop, arith}
use Rattle.std.proofs.lemmas.List.{drop_all}
use Rattle.std.proofs.lemmas.Result.{on_ok_weaker}
use Rattle.serde_json.specs.Data.{string}
use Rattle.sheet_wire.proofs.Sending.{all_sent}
use Rattle.sheet_wire.proofs.page.send_names.Goals as goal

pub returns : goal.returns
returns g c =
    let xs = c.args.names.now in
    let written = g.S.Serializer.written in
    let none : drop c.loop-name.name-index xs ≡ [] = drop_all c.loop-name.name-index xs (omega arith) in
    on_ok_weaker c.end_seq.result (λ e. all_sent string xs c.loop-name.name-index (written c.args.out.now) (written c.begin_seq.new.self) (written c.loop-name.out)
    (written c.end_seq.new.self) none c.in_ok-begin_seq.ensures c.loop-name.invariant e) c.end_seq.ensures

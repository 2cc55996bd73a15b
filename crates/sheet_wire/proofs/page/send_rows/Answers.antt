use Rattle.std.proofs.Common.{◌≡◌, [], drop, arith}
use Rattle.std.proofs.lemmas.List.{drop_all}
use Rattle.std.proofs.lemmas.Result.{on_ok_weaker}
use Rattle.sheet_requests.specs.Bodies.{row_data}
use Rattle.sheet_wire.proofs.Sending.{all_sent}
use Rattle.sheet_wire.proofs.page.send_rows.Goals as goal

pub returns : goal.returns
returns g c =
    let xs = c.args.rows.now in
    let written = g.S.Serializer.written in
    let none : drop c.loop-row.row-index xs ≡ [] = drop_all c.loop-row.row-index xs (omega arith) in
    on_ok_weaker c.end_seq.result (λ e. all_sent (row_data c.args.columns.now) xs c.loop-row.row-index (written c.args.out.now) (written c.begin_seq.new.self) (written c.loop-row.out)
    (written c.end_seq.new.self) none c.in_ok-begin_seq.ensures c.loop-row.invariant e) c.end_seq.ensures

use Rattle.std.proofs.Common.{◌≡◌, ◌≤◌, length, arith}
use Rattle.sheet_procs_touched.proofs.OneCells.{no_root, past_all}
use Rattle.sheet_procs_touched.proofs.touched.must_hold_one.Goals as goal

pub returns-then-column-count : goal.returns-then-column-count
returns-then-column-count c =
    let le : length c.args.columns.now ≤ c.args.column = omega arith in
    past_all c.args.columns.now c.args.above c.args.column le

pub returns-then-column-eq0 : goal.returns-then-column-eq0
returns-then-column-eq0 c =
    let zero_is : c.args.column ≡ 0 = omega arith in
    no_root c.args.columns.now c.args.above c.args.column c.count.ensures.tree zero_is

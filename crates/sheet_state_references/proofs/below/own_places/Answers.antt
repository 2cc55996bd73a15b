use Rattle.std.proofs.Common.{◌≡◌, ◌≤◌, ◌<◌, arith}
use Rattle.sheet_state_references.proofs.below.own_places.Goals as goal

pub returns-clause-own : goal.returns-clause-own
returns-clause-own c k from to =
    let low = c.start_of-from.ensures.behind k from (omega (arith, to, c.start_of-end.ensures.within)) in
    let high = c.start_of-end.ensures.before k to in
    omega (arith, low, high, c.from-number.ensures)

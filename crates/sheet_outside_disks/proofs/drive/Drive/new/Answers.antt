use Rattle.std.proofs.Common.{map, sym, ap}
use Rattle.std.proofs.lemmas.Bool.{false≢true}
use Rattle.sheet_outside_disks.specs.Drive.{call_of, state}
use Rattle.sheet_outside_disks.proofs.drive.Drive.new.Goals as goal

pub invariant_of-result : goal.invariant_of-result
invariant_of-result c tells =
    record { is_open = ap (λ l. (state c.args.start (map call_of l)).is_open) (sym c.new.ensures.items); seen = λ o. absurd (false≢true o) }

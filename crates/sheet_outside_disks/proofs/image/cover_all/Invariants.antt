use Rattle.std.proofs.Common.{take, map}
use Rattle.sheet_outside_disks.specs.Drive.{range}
use Rattle.sheet_outside_disks.specs.Image.{IsFilled}
use Rattle.sheet_outside_disks.proofs.image.cover_all.Given as goal

abbrev pub invariant-loop-range : goal.invariant-loop-range
invariant-loop-range l = IsFilled l.initial.image.items (map range (take l.range-index l.ranges)) l.fill l.image.items

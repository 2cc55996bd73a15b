use Rattle.std.proofs.Common.{◌≡◌, length, map}
use Rattle.sheet_outside_disks.specs.Drive.{named, found}
use Rattle.sheet_outside_disks.proofs.files.Files.find.Given as goal

abbrev pub invariant-loop-named : goal.invariant-loop-named
invariant-loop-named l = found (map named l.rest) l.name ≡ found l.self l.name

abbrev pub decreases-loop-named : goal.decreases-loop-named
decreases-loop-named l = length l.rest

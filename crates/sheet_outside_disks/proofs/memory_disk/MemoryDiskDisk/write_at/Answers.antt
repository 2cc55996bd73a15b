use Rattle.std.proofs.Common.{◌≡◌, Err, subst, rules}
use Rattle.sheet_outside.specs.Told.{WhereTold}
use Rattle.sheet_outside.specs.DiskCalls.{Writes}
use Rattle.sheet_outside_disks.specs.Drive.{told}
use Rattle.sheet_outside_disks.proofs.memory_disk.MemoryDiskDisk.write_at.Goals as goal

pub returns-in-Err-clause-files : goal.returns-in-Err-clause-files
returns-in-Err-clause-files c =
    let same : c.self.inside.drive ≡ c.args.self.now.drive = search rules in
    subst (λ d. WhereTold (Writes c.args.place c.args.piece.now (Err c.in-Err.failed)) (told d) (told c.spoil.new.self)) same
    (c.spoil.ensures.files c.in-Err.failed)

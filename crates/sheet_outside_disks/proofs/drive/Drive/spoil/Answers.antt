use Rattle.std.proofs.Common.{◌≡◌, map, Err, refl, subst, rules}
use Rattle.sheet_outside.specs.Told.{WhereTold}
use Rattle.sheet_outside.specs.DiskCalls.{Writes}
use Rattle.sheet_outside_disks.specs.Drive.{Drive, call_of, spoils, told}
use Rattle.sheet_outside_disks.proofs.Turning.{disk_of, told_turn, spoilt_turn}
use Rattle.sheet_outside_disks.proofs.drive.Drive.spoil.Goals as goal

pub returns-clause-files : goal.returns-clause-files
returns-clause-files c failed =
    let old : Drive = record {
      start = c.self.inside.start;
      calls = map call_of c.self.inside.log.items;
      is_open = c.self.inside.is_open;
      tells =
          c.self.inside.tells;
    } in
    let same : old ≡ c.args.self.now = search rules in
    let new : Drive = record {
      start = c.self.inside.start;
      calls = map call_of c.note_spoilt-self-inside.new.log.items;
      is_open = c.self.inside.is_open;
      tells = c.note_spoilt-self-inside.result;
    } in
    subst (λ d. WhereTold (Writes c.args.place c.args.piece.now (Err failed)) (told d) (told new)) same
    (told_turn (Writes c.args.place c.args.piece.now (Err failed)) old new (spoils c.args.place c.args.piece.now) (refl, c.note_spoilt-self-inside.ensures)
    (λ t. spoilt_turn c.args.place c.args.piece.now (disk_of old)))

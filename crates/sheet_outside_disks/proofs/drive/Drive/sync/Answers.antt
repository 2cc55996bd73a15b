use Rattle.std.proofs.Common.{◌≡◌, map, Ok, refl, subst, rules}
use Rattle.sheet_outside.specs.declared.Failed.{Failed as TheFailed}
use Rattle.sheet_outside.specs.Told.{WhereTold}
use Rattle.sheet_outside.specs.DiskCalls.{Syncs}
use Rattle.sheet_outside_disks.specs.Drive.{Drive, call_of, syncs, told}
use Rattle.sheet_outside_disks.proofs.Turning.{disk_of, told_turn, synced_turn}
use Rattle.sheet_outside_disks.proofs.drive.Drive.sync.Goals as goal

pub returns-clause-files : goal.returns-clause-files
returns-clause-files c =
    let old : Drive = record {
      start = c.self.inside.start;
      calls = map call_of c.self.inside.log.items;
      is_open = c.self.inside.is_open;
      tells =
          c.self.inside.tells;
    } in
    let same : old ≡ c.args.self.now = search rules in
    let new : Drive = record {
      start = c.self.inside.start;
      calls = map call_of c.note-self-inside.new.log.items;
      is_open = c.self.inside.is_open;
      tells =
          c.note-self-inside.result;
    } in
    subst (λ d. WhereTold (Syncs {E = TheFailed} (Ok tt)) (told d) (told new)) same
    (told_turn (Syncs {E = TheFailed} (Ok tt)) old new syncs (refl, c.note-self-inside.ensures) (λ t. synced_turn (disk_of old)))

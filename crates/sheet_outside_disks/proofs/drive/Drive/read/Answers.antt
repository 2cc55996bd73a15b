use Rattle.std.proofs.Common.{◌≡◌, true, [], map, None, Ok, refl, sym, ◌∙◌, subst, rules}
use Rattle.sheet_outside.specs.declared.Failed.{Failed as TheFailed}
use Rattle.sheet_outside.specs.Told.{WhereTold}
use Rattle.sheet_outside.specs.DiskCalls.{Looks, GivesBytes}
use Rattle.sheet_outside_disks.specs.Drive.{Drive, call_of, looks, told}
use Rattle.sheet_outside_disks.proofs.Turning.{disk_of, told_turn, looked, read_as}
use Rattle.sheet_outside_disks.proofs.drive.Drive.read.Goals as goal

pub returns-clause-files : goal.returns-clause-files
returns-clause-files c =
    let old : Drive = record {
      start = c.self.inside.start;
      calls = map call_of c.self.inside.log.items;
      is_open = c.self.inside.is_open;
      tells =
          c.self.inside.tells;
    } in
    let same : old ≡ c.args.self.now = search rules in
    let o : c.self.inside.is_open ≡ true = search rules in
    let new : Drive = record {
      start = c.self.inside.start;
      calls = map call_of c.note-self-inside.new.log.items;
      is_open = c.self.inside.is_open;
      tells =
          c.note-self-inside.result;
    } in
    subst (λ d. WhereTold (Looks (GivesBytes {E = TheFailed} c.args.place (Ok c.read_from.result) c.read_from.new.piece)) (told d) (told new)) same
    (told_turn (Looks (GivesBytes {E = TheFailed} c.args.place (Ok c.read_from.result) c.read_from.new.piece)) old new looks
    (refl, c.note-self-inside.ensures) (λ t. looked (GivesBytes {E = TheFailed} c.args.place (Ok c.read_from.result) c.read_from.new.piece) (disk_of old)
    (λ file there. read_as c.args.place c.read_from.result c.read_from.new.piece (record { seen = c.deref.result.now; settled = None; written = [] }) file
    ((c.self.invariant t).seen o file there ∙ sym c.deref.ensures.value) c.read_from.ensures.bytes)))

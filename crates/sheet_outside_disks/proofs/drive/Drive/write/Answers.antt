use Rattle.std.proofs.Common.{◌≡◌, map, Ok, refl, subst, rules}
use Rattle.sheet_outside.specs.declared.Failed.{Failed as TheFailed}
use Rattle.sheet_outside.specs.Told.{WhereTold}
use Rattle.sheet_outside.specs.DiskCalls.{Writes}
use Rattle.sheet_outside_disks.specs.Drive.{Drive, call_of, writes, told}
use Rattle.sheet_outside_disks.proofs.Turning.{disk_of, told_turn, current_turn, wrote_turn, current_wrote}
use Rattle.sheet_outside_disks.proofs.drive.Drive.write.Goals as goal

pub returns-clause-files : goal.returns-clause-files
returns-clause-files c =
    let old : Drive = record {
      start = c.self.inside.start;
      calls = map call_of c.self.inside.log.items;
      is_open = c.self.inside.is_open;
      tells =
          c.self.inside.tells;
    } in
    let same : old ≡ c.args.self.now = search rules in
    let new : Drive = record {
      start = c.self.inside.start;
      calls = map call_of c.note_write-self-inside.new.log.items;
      is_open = c.self.inside.is_open;
      tells =
          c.note_write-self-inside.result;
    } in
    subst (λ d. WhereTold (Writes {E = TheFailed} c.args.place c.args.piece.now (Ok tt)) (told d) (told new)) same
    (told_turn (Writes {E = TheFailed} c.args.place c.args.piece.now (Ok tt)) old new (writes c.args.place c.args.piece.now)
    (refl, (λ t. ((c.write_current-tells.ensures (c.note_write-self-inside.ensures t).0).0, (c.note_write-self-inside.ensures t).1)))
    (λ t. wrote_turn c.args.place c.args.piece.now (disk_of old)))

pub invariant_of-self : goal.invariant_of-self
invariant_of-self c tells =
    let old : Drive = record {
      start = c.self.inside.start;
      calls = map call_of c.self.inside.log.items;
      is_open = c.self.inside.is_open;
      tells =
          c.self.inside.tells;
    } in
    let same : old ≡ c.args.self.now = search rules in
    let new : Drive = record {
      start = c.self.inside.start;
      calls = map call_of c.note_write-self-inside.new.log.items;
      is_open = c.self.inside.is_open;
      tells =
          c.note_write-self-inside.result;
    } in
    current_turn old new (writes c.args.place c.args.piece.now) c.self.inside.current.items c.write_current-tells.new.current.items
    (refl, (λ t. ((c.write_current-tells.ensures (c.note_write-self-inside.ensures t).0).0, (c.note_write-self-inside.ensures t).1))) refl c.self.invariant
    (λ current o file there. current_wrote c.args.place c.args.piece.now old c.self.inside.current.items c.write_current-tells.new.current.items
    (c.write_current-tells.ensures (c.note_write-self-inside.ensures tells).0).1 current o file there) tells

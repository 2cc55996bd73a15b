use Rattle.std.proofs.Common.{◌≡◌, false, map, refl, rules}
use Rattle.std.proofs.lemmas.Bool.{false≢true}
use Rattle.sheet_outside_disks.specs.Drive.{Drive, call_of, opens}
use Rattle.sheet_outside_disks.proofs.Turning.{current_turn}
use Rattle.sheet_outside_disks.proofs.drive.Drive.miss.Goals as goal

pub invariant_of-self : goal.invariant_of-self
invariant_of-self c tells =
    let old : Drive = record {
      start = c.self.inside.start;
      calls = map call_of c.self.inside.log.items;
      is_open = c.self.inside.is_open;
      tells =
          c.self.inside.tells;
    } in
    let same : old ≡ c.args.self.now = search rules in
    let new : Drive = record {
      start = c.self.inside.start;
      calls = map call_of c.note_open-self-inside.new.log.items;
      is_open = false;
      tells =
          c.note_open-self-inside.result;
    } in
    current_turn old new (opens c.args.name.now false) c.self.inside.current.items c.self.inside.current.items (refl, c.note_open-self-inside.ensures) refl
    c.self.invariant (λ current o file there. absurd (false≢true o)) tells

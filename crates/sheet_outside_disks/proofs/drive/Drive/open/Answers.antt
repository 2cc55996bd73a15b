use Rattle.std.proofs.Common.{◌≡◌, true, map, Some, None, Ok, refl, sym, ◌∙◌, ap, subst, rules}
use Rattle.sheet_outside.specs.declared.Failed.{Failed as TheFailed}
use Rattle.sheet_outside.specs.Told.{WhereTold}
use Rattle.sheet_outside.specs.DiskCalls.{Opens}
use Rattle.sheet_outside_disks.specs.Drive.{Drive, call_of, opens, told, state}
use Rattle.sheet_outside_disks.proofs.Turning.{disk_of, told_turn, found_turn, opened_none}
use Rattle.sheet_outside_disks.proofs.drive.Drive.open.Goals as goal

some_none : {A : Type 0} {x : A} → Some x ≡ None → ⊥
some_none e = cc

pub returns-in-Ok-Some-clause-files : goal.returns-in-Ok-Some-clause-files
returns-in-Ok-Some-clause-files c =
    let old : Drive = record {
      start = c.self.inside.start;
      calls = map call_of c.self.inside.log.items;
      is_open = c.self.inside.is_open;
      tells =
          c.self.inside.tells;
    } in
    let same : old ≡ c.args.self.now = search rules in
    let there : Some c.in-Ok-Some.file ≡ (disk_of old).now c.args.name.now = sym c.in-Ok-Some.field-0-is ∙ c.in-Ok-Some.ensures
    ∙ ap (λ l. (state c.self.inside.start (map call_of l)).disk.now c.args.name.now) c.deref.ensures.value in
    let new : Drive = record {
      start = c.self.inside.start;
      calls = map call_of c.note_open-self-inside.new.log.items;
      is_open = true;
      tells =
          c.note_open-self-inside.result;
    } in
    subst (λ d. WhereTold (Opens {E = TheFailed} c.args.name.now c.args.make (Ok true)) (told d) (told new)) same
    (told_turn (Opens {E = TheFailed} c.args.name.now c.args.make (Ok true)) old new (opens c.args.name.now true) (refl, c.note_open-self-inside.ensures)
    (λ t. found_turn c.args.name.now c.args.make (disk_of old) (λ none. absurd (some_none (there ∙ none)))))

pub returns-in-Ok-None-clause-files : goal.returns-in-Ok-None-clause-files
returns-in-Ok-None-clause-files c =
    let old : Drive = record {
      start = c.self.inside.start;
      calls = map call_of c.self.inside.log.items;
      is_open = c.self.inside.is_open;
      tells =
          c.self.inside.tells;
    } in
    let same : old ≡ c.args.self.now = search rules in
    let none : (disk_of old).now c.args.name.now ≡ None =
    sym (ap (λ l. (state c.self.inside.start (map call_of l)).disk.now c.args.name.now) c.deref.ensures.value) ∙ sym c.in-Ok-None.ensures
    ∙ c.in-Ok-None.field-0-is in
    let new : Drive = record {
      start = c.self.inside.start;
      calls = map call_of c.note_open-self-inside-in-Ok-None.new.log.items;
      is_open = c.args.make;
      tells =
          c.note_open-self-inside-in-Ok-None.result;
    } in
    subst (λ d. WhereTold (Opens {E = TheFailed} c.args.name.now c.args.make (Ok c.args.make)) (told d) (told new)) same
    (told_turn (Opens {E = TheFailed} c.args.name.now c.args.make (Ok c.args.make)) old new (opens c.args.name.now c.args.make)
    (refl, c.note_open-self-inside-in-Ok-None.ensures) (λ t. opened_none TheFailed c.args.name.now c.args.make (disk_of old) none))

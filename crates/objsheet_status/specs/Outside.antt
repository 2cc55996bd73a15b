-- What stands outside of the program, and the line that a command writes before it ends.
use Rattle.std.specs.Prelude.{◌≡◌, ℕ, List, Option}
use Rattle.sheet_outside.specs.Causes.{Rose}
use Rattle.sheet_outside.specs.Moments.{Contents}
use Rattle.sheet_outside.specs.Told.{Gains, WhereTold}
use Rattle.sheet_lines.specs.Told.{GainsFront}

-- what a thing outside tells of its contents, and how often a call of it failed
pub record Seen (A : Type 0) : Type 0 where
  pub told : Option A
  pub faults : ℕ

-- the thing that tells this and failed so often
abbrev pub seen : {A : Type 0} → Option A → ℕ → Seen A
seen told faults = record { told = told; faults = faults }

-- the bytes left of the input, those written to the output, and the disk
pub record Outside : Type 0 where
  pub input : Seen (List ℕ)
  pub output : Seen (List ℕ)
  pub disk : Seen Contents

-- the outside of these three
abbrev pub outside : Seen (List ℕ) → Seen (List ℕ) → Seen Contents → Outside
outside input output disk = record { input = input; output = output; disk = disk }

-- a call of it failed
abbrev pub Failed : {A : Type 0} → Seen A → Seen A → Type 0
Failed before after = Rose before.faults after.faults

-- A line that goes with a status was written, and this is the status; or the sink failed, a front of the line was written, and the
-- status is 4.
pub data Says (line : List ℕ) (due status : ℕ) (before after : Seen (List ℕ)) : Type 0 where
  is_said : status ≡ due → Gains before.told after.told line → Says line due status before after
  is_said_in_part : status ≡ 4 → Failed before after → WhereTold (GainsFront line) before.told after.told → Says line due status before after

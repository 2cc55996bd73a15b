-- The bytes that are answered.
use Rattle.std.specs.Prelude.{ℕ, Bool, true, false, List, [], if◌then◌else◌}
use Rattle.sheet_columns.specs.declared.tree.Node.{Node}
use Rattle.sheet_requests.specs.Bodies.{body}
use Rattle.sheet_requests.specs.declared.request.Request.{Request}
use Rattle.sheet_requests.specs.declared.request.Request.TheVariants.{Reads}
use Rattle.sheet_requests.specs.declared.reply.Reply.{Reply}
use Rattle.sheet_requests.specs.declared.reply.Reply.TheVariants.{Refused}
use Rattle.sheet_requests.specs.declared.reply.Refusal.TheVariants.{NoMemory}

-- whether a reply says that there was no memory
abbrev pub lacks_memory : Reply → Bool
lacks_memory (Refused NoMemory) = true
lacks_memory other = false

-- the printed reply; want of memory is printed by whoever sends it
abbrev pub told : List Node → Reply → List ℕ
told nodes reply = if lacks_memory reply then [] else body nodes reply

-- a request for anything but the items that a view rests on, which isn't served yet
abbrev pub AsksNoReads : Request → Type 0
AsksNoReads (Reads key name arguments) = ⊥
AsksNoReads other = Unit {0}

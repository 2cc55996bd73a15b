-- A request that isn't accepted changes nothing, and none is refused for a fault of the disk by itself.
use Rattle.std.specs.Prelude.{◌≡◌, false}
use Rattle.sheet_requests.specs.declared.request.Request.{Request}
use Rattle.sheet_requests.specs.declared.reply.Reply.TheVariants.{Refused}
use Rattle.sheet_requests.specs.declared.reply.Refusal.TheVariants.{DiskFault}
use Rattle.sheet_machine_laws.specs.Act.{act}
use Rattle.sheet_machine_laws.specs.Machine.{Holding}
use Rattle.sheet_machine_laws.specs.Step.{is_accepted}

-- the same is held, whatever results are kept
pub record HoldsSame (g h : Holding) : Type 0 where
  pub book : g.book ≡ h.book
  pub state : g.state ≡ h.state
  pub callers : g.callers ≡ h.callers
  pub accepted : g.accepted ≡ h.accepted

abbrev pub OnlyAcceptedChange : Type 0
OnlyAcceptedChange = (h : Holding) (q : Request) → is_accepted (act h q).1 ≡ false → HoldsSame (act h q).0 h

abbrev pub OnlyDisksFault : Type 0
OnlyDisksFault = (h : Holding) (q : Request) → (act h q).1 ≡ Refused DiskFault → ⊥

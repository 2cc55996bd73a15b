-- What a journal of the records of some events gives, whole and after a crash.
use Rattle.std.specs.Prelude.{◌≡◌, ◌⊎◌, ℕ, true, List, [], ◌∷◌, Option, Some, None, Ok}
use Rattle.sheet_requests.specs.Reading.{ReadsAs}
use Rattle.sheet_requests.specs.declared.request.Request.{Request}
use Rattle.sheet_requests.specs.declared.request.Route.TheVariants.{Line}
use Rattle.sheet_machine_laws.specs.Act.{act}
use Rattle.sheet_machine_laws.specs.Machine.{Holding, Doubt}
use Rattle.sheet_machine_laws.specs.Step.{is_accepted, Event, Took, Doubted}

-- a line holds a request that is accepted, and this is held after it
pub record Accepts (h : Holding) (line : List ℕ) (after : Holding) : Type 0 where
  pub request : Request
  pub reads : ReadsAs Line line (Ok request)
  pub accepted : is_accepted (act h request).1 ≡ true
  pub is : after ≡ (act h request).0

-- what is held after some events: each line that was taken is accepted, and so would each have been that came into doubt
abbrev pub Leads : Holding → List Event → Holding → Type 0
Leads h [] last = last ≡ h
Leads h (Took line ∷ events) last = (after : Holding) × Accepts h line after × Leads after events last
Leads h (Doubted line ∷ events) last = (after : Holding) × Accepts h line after × Leads h events last

-- the lines in the journal at a moment of some events: those that were taken up to then, and perhaps one more that was in doubt then
abbrev pub MayStand : List Event → List (List ℕ) → Type 0
MayStand [] lines = lines ≡ []
MayStand (Took line ∷ events) lines = (lines ≡ []) ⊎ ((more : List (List ℕ)) × (lines ≡ line ∷ more) × MayStand events more)
MayStand (Doubted line ∷ events) lines = (lines ≡ line ∷ []) ⊎ MayStand events lines

-- the request that is in doubt, as an event
abbrev pub in_doubt : Option Doubt → List Event
in_doubt None = []
in_doubt (Some d) = Doubted d.line ∷ []

-- Steps of the machine, and whole runs. Want of memory, and a disk that fails, are choices of the machine.
use Rattle.std.specs.Prelude.{◌≡◌, ℕ, List, [], ◌∷◌, ◌++◌, Bool, true, false, Some}
use Rattle.sheet_requests.specs.Lines.{request_line}
use Rattle.sheet_requests.specs.declared.request.Request.{Request}
use Rattle.sheet_requests.specs.declared.reply.Reply.{Reply}
use Rattle.sheet_requests.specs.declared.reply.Reply.TheVariants as reply
use Rattle.sheet_requests.specs.declared.reply.Refusal.TheVariants.{DiskFault, NoMemory}
use Rattle.sheet_machine_laws.specs.Machine.{Holding, Doubt, Machine, sure}
use Rattle.sheet_machine_laws.specs.Act.{act}

-- whether a request was accepted by this reply: it is taken into the journal
abbrev pub is_accepted : Reply → Bool
is_accepted (reply.Accepted n answer) = true
is_accepted (reply.Kept n answer) = false
is_accepted (reply.Page parts) = false
is_accepted (reply.Reads items) = false
is_accepted (reply.Stats accepted callers kept objects) = false
is_accepted (reply.Wire refusal) = false
is_accepted (reply.Refused refusal) = false

-- what is to be known of the journal: the request of a line was taken, so its record is there, or it came into doubt, and its record may
-- be there
pub data Event : Type 0 where
  Took : List ℕ → Event
  Doubted : List ℕ → Event

-- the lines that were taken, in order
abbrev pub taken : List Event → List (List ℕ)
taken [] = []
taken (Took line ∷ events) = line ∷ taken events
taken (Doubted line ∷ events) = taken events

-- the line of a request that is taken, or none
abbrev took_if : Request → Bool → List Event
took_if q true = Took (request_line q) ∷ []
took_if q false = []

-- an accepted request is taken
abbrev pub took : Request → Reply → List Event
took q r = took_if q (is_accepted r)

-- what a request comes to, where nothing is in doubt: it acts, or there was no memory, or the disk failed and it is in doubt
pub data Acts (h : Holding) (q : Request) : Reply → List Event → Machine → Type 0 where
  acts : Acts h q (act h q).1 (took q (act h q).1) (sure (act h q).0)
  no_memory : Acts h q (reply.Refused NoMemory) [] (sure h)
  disk_fault : is_accepted (act h q).1 ≡ true
      → Acts h q (reply.Refused DiskFault) (Doubted (request_line q) ∷ [])
      (record { held = h; doubt = Some (record { line = request_line q; held = (act h q).0 }) })

-- what was in doubt is settled: its record is in the journal, or it isn't
pub data Settles : Machine → List Event → Holding → Type 0 where
  nothing : (h : Holding) → Settles (sure h) [] h
  in_journal : (h : Holding) (d : Doubt) → Settles (record { held = h; doubt = Some d }) (Took d.line ∷ []) d.held
  not_there : (h : Holding) (d : Doubt) → Settles (record { held = h; doubt = Some d }) [] h

-- the replies where what is in doubt can't be settled
pub data IsUnsettled : Reply → Type 0 where
  fault : IsUnsettled (reply.Refused DiskFault)
  memory : IsUnsettled (reply.Refused NoMemory)

-- one step: a request, its reply, what is then known of the journal, and the machine behind it
pub data Step (m : Machine) (q : Request) : Reply → List Event → Machine → Type 0 where
  stays : (d : Doubt) (r : Reply) → m.doubt ≡ Some d → IsUnsettled r → Step m q r [] m
  goes_on : (before behind : List Event) (h : Holding) (r : Reply) (n : Machine)
      → Settles m before h → Acts h q r behind n → Step m q r (before ++ behind) n

-- a request and its reply
pub record Exchange : Type 0 where
  pub request : Request
  pub reply : Reply

-- a run: one step behind another
pub data Run : Machine → List Exchange → List Event → Machine → Type 0 where
  ended : (m : Machine) → Run m [] [] m
  one_more : (m n o : Machine) (before behind : List Event) (exchanges : List Exchange) (q : Request) (r : Reply)
      → Run m exchanges before n → Step n q r behind o → Run m (exchanges ++ record { request = q; reply = r } ∷ []) (before ++ behind) o

-- one step without a journal, where nothing is ever in doubt
pub data StepInMemory (h : Holding) (q : Request) : Reply → Holding → Type 0 where
  acts_there : StepInMemory h q (act h q).1 (act h q).0
  no_memory_there : StepInMemory h q (reply.Refused NoMemory) h

-- a run without a journal
pub data RunInMemory : Holding → List Exchange → Holding → Type 0 where
  ended_there : (h : Holding) → RunInMemory h [] h
  one_more_there : (g h i : Holding) (exchanges : List Exchange) (q : Request) (r : Reply)
      → RunInMemory g exchanges h → StepInMemory h q r i → RunInMemory g (exchanges ++ record { request = q; reply = r } ∷ []) i

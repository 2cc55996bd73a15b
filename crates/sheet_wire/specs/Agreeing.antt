-- What is read of lines that read back.
use Rattle.std.specs.Prelude.{◌≡◌, ◌⊎◌, ℕ, List, Result, Err}
use Rattle.sheet_requests.specs.Reading.{ReadsAs, served}
use Rattle.sheet_requests.specs.declared.request.Request.{Request}
use Rattle.sheet_requests.specs.declared.request.Route.TheVariants.{Line}
use Rattle.sheet_requests.specs.declared.request.WireRefusal.{WireRefusal}
use Rattle.sheet_requests.specs.declared.request.WireRefusal.TheVariants.{NoMemory}
use Rattle.sheet_wire.specs.Ranges.{ReadsBack}

-- a line that reads back as a request is answered as this request, where memory suffices
abbrev pub LinesReadBack : Type 0
LinesReadBack =
    (bytes : List ℕ) (request : Request) (answer : Result Request WireRefusal) → ReadsBack bytes request → ReadsAs Line bytes answer
    → (answer ≡ served request) ⊎ (answer ≡ Err NoMemory)

-- A line that reads back is read as its request.
use Rattle.std.proofs.Common.{◌≡◌, ◌⊎◌, inl, inr, List, ℕ, refl, sym, ap, ◌∙◌, Result, Err}
use Rattle.std.proofs.lemmas.Option.{same_Some}
use Rattle.sheet_requests.specs.Reading.{◌>>=◌, asked_of, served, ReadsAs, says, not_json, no_memory}
use Rattle.sheet_requests.specs.declared.request.Request.{Request}
use Rattle.sheet_requests.specs.declared.request.Route.TheVariants.{Line}
use Rattle.sheet_requests.specs.declared.request.WireRefusal.{WireRefusal}
use Rattle.sheet_requests.specs.declared.request.WireRefusal.TheVariants.{NoMemory}
use Rattle.sheet_wire.specs.Ranges.{ReadsBack}

pub read_back : (bytes : List ℕ) (request : Request) (answer : Result Request WireRefusal) → ReadsBack bytes request → ReadsAs Line bytes answer
    → (answer ≡ served request) ⊎ (answer ≡ Err NoMemory)
read_back bytes request _ back (says d s) =
    let same = same_Some d back.0 (sym s.1 ∙ back.1.1) in
    inl (ap (λ e. asked_of Line e >>= served) same ∙ ap (λ r. r >>= served) back.2)
read_back bytes request _ back (not_json none) = absurd (none back.0 back.1)
read_back bytes request _ back no_memory = inr refl

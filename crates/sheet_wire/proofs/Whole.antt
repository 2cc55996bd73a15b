-- What bytes say, by the answer of what reads their data.
use Rattle.std.proofs.Common.{◌≡◌, List, ℕ, sym, subst, ◌∙◌}
use Rattle.std.proofs.lemmas.Option.{none-some}
use Rattle.std.specs.Prelude.{Result, Ok, Err, None, IsUtf8}
use Rattle.serde_json.specs.Data.{Data}
use Rattle.serde_json.specs.Read.{read}
use Rattle.sheet_requests.specs.Reading.{Says, request_of, ReadsAs, says, not_json, no_memory}
use Rattle.sheet_requests.specs.declared.request.Route.{Route}
use Rattle.sheet_requests.specs.declared.request.Request.{Request}
use Rattle.sheet_requests.specs.declared.request.WireRefusal.{WireRefusal}
use Rattle.sheet_requests.specs.declared.request.WireRefusal.TheVariants.{NotJson, BadShape, NumberOutside, TextTooLong, LaterForm, NoMemory}
use Rattle.sheet_wire.specs.Answers.{Answers}

-- the bytes have data, which was read
pub reads_as : (r : Route) (bytes : List ℕ) (d : Data) (result : Result Request WireRefusal) → Says bytes d → Answers result (request_of r d)
    → ReadsAs r bytes result
reads_as r bytes d (Ok q) s h = subst (λ x. ReadsAs r bytes x) h (says d s)
reads_as r bytes d (Err NotJson) s h = subst (λ x. ReadsAs r bytes x) h (says d s)
reads_as r bytes d (Err (BadShape f)) s h = subst (λ x. ReadsAs r bytes x) h (says d s)
reads_as r bytes d (Err (NumberOutside f)) s h = subst (λ x. ReadsAs r bytes x) h (says d s)
reads_as r bytes d (Err (TextTooLong f)) s h = subst (λ x. ReadsAs r bytes x) h (says d s)
reads_as r bytes d (Err LaterForm) s h = subst (λ x. ReadsAs r bytes x) h (says d s)
reads_as r bytes d (Err NoMemory) s h = no_memory

-- they have none
pub no_json : (r : Route) (bytes : List ℕ) → (IsUtf8 bytes → read bytes ≡ None) → ReadsAs r bytes (Err NotJson)
no_json r bytes h = not_json (λ d s. none-some d (sym (h s.0) ∙ s.1))

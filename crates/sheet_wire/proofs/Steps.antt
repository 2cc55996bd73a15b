-- Refusals that are made, and what is told.
use Rattle.std.proofs.Common.{◌≡◌, sym, ap, ◌∙◌, Result, Err}
use Rattle.sheet_requests.specs.declared.request.WireRefusal.{WireRefusal}
use Rattle.sheet_requests.specs.declared.request.WireRefusal.TheVariants.{NotJson, BadShape, NumberOutside, TextTooLong, LaterForm, NoMemory}
use Rattle.sheet_wire.specs.Answers.{Answers, IsRefusal}

-- a refusal that is made is answered where it is told
pub refused : {A : Type 0} (r w : WireRefusal) (told : Result A WireRefusal)
    → IsRefusal r w → ◌≡◌ {A = Result A WireRefusal} told (Err w) → Answers (Err r) told
refused NotJson w told h e = e ∙ sym (ap (λ x. Err x) h)
refused (BadShape f) w told h e = e ∙ sym (ap (λ x. Err x) h)
refused (NumberOutside f) w told h e = e ∙ sym (ap (λ x. Err x) h)
refused (TextTooLong f) w told h e = e ∙ sym (ap (λ x. Err x) h)
refused LaterForm w told h e = e ∙ sym (ap (λ x. Err x) h)
refused NoMemory w told h e = tt

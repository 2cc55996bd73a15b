-- What single records come to.
use Rattle.std.proofs.Common.{◌≡◌, ◌≢◌, ◌⊎◌, refl, sym, ap, ◌∙◌, subst, ℕ, ◌+◌, true, false, List, None, Result, Ok, Err}
use Rattle.std.specs.Prelude.{IsSome}
use Rattle.std.proofs.lemmas.Bool.{true≢false}
use Rattle.sheet_define.specs.declared.read.DefinitionRefusal.{DefinitionRefusal}
use Rattle.sheet_define.specs.declared.read.DefinitionRefusal.TheVariants.{TooLong, NotUtf8, Syntax, NoMemory as NoMemoryToDefine}
use Rattle.sheet_define_reading.specs.Laws.{OneDefinition}
use Rattle.sheet_types.specs.Elaboration.{elaborated}
use Rattle.sheet_types_formulas.specs.declared.refusal.TypeRefusal.{TypeRefusal}
use Rattle.sheet_books.specs.declared.book.Contents.{Contents}
use Rattle.sheet_journal.specs.Layout.{Entry}
use Rattle.sheet_machine_records.specs.Records.{first_payload, TellsFirst}
use Rattle.sheet_requests.specs.Reading.{ReadsAs}
use Rattle.sheet_requests.specs.declared.request.Request.{Request}
use Rattle.sheet_requests.specs.declared.request.Route.TheVariants.{Line}
use Rattle.sheet_requests.specs.declared.request.WireRefusal.{WireRefusal}
use Rattle.sheet_requests.specs.declared.request.WireRefusal.TheVariants.{NotJson, BadShape, NumberOutside, TextTooLong, LaterForm, NoMemory as NoMemoryToRead}
use Rattle.sheet_machine_laws.specs.Act.{act}
use Rattle.sheet_machine_laws.specs.Judging.{Acted}
use Rattle.sheet_machine_laws.specs.Machine.{Holding}
use Rattle.sheet_machine_laws.specs.Ranges.{IsKey}
use Rattle.sheet_machine_laws.specs.Step.{is_accepted}
use Rattle.sheet_machine_laws.proofs.Leading.{one_request, no_request}
use Rattle.sheet_machine.specs.declared.answered.Answered.{Answered}
use Rattle.sheet_machine.specs.declared.held.Held.{Held}
use Rattle.sheet_machine.specs.declared.opening.OpenRefusal.{OpenRefusal}
use Rattle.sheet_machine.specs.declared.opening.OpenRefusal.TheVariants.{Journal as Unread, Damaged, NoMemory}
use Rattle.sheet_machine.specs.declared.starting.StartRefusal.{StartRefusal}
use Rattle.sheet_machine.specs.declared.starting.StartRefusal.TheVariants.{Definition as StandsForNone, Types, NoMemory as NoMemoryToStart}
use Rattle.sheet_machine.specs.Gives.{Settles, Suspends}
use Rattle.sheet_machine.specs.Held.{holding, taken_in, if_taken_in}
use Rattle.sheet_machine.specs.OpeningSteps.{start_refusal, line_refusal, BeginsWith, BeginsAs, AcceptsAs, GoesOnAs}
use Rattle.sheet_machine.specs.Recovering.{Begins, GoesOn}
use Rattle.sheet_machine.specs.Starts.{IsNoDefinition, HasNoBook, Opens}
use Rattle.sheet_machine.specs.StartsFrom.{StartsFrom}
use Rattle.sheet_machine.proofs.Outcomes.{settled_of, suspended_of}
use Rattle.sheet_machine.proofs.Recoveries.{same_first, begins_with}

-- ---- definitions

no_definition : (text key : List ℕ) (why : DefinitionRefusal) → IsNoDefinition text why → (h : Holding) → StartsFrom text key h → ⊥
no_definition text key (TooLong n) none h s = none.refused.0 s.definition s.stands
no_definition text key (NotUtf8 o) none h s = none.refused.0 s.definition s.stands
no_definition text key (Syntax refusal line) none h s = none.refused.0 s.definition s.stands
no_definition text key NoMemoryToDefine none h s = none.not_memory refl

not_a_book : (why : TypeRefusal) (b : Contents) → Err why ≡ Ok b → ⊥
not_a_book why b e = cc

no_book : OneDefinition → (text key : List ℕ) (why : TypeRefusal) → HasNoBook text why → (h : Holding) → StartsFrom text key h → ⊥
no_book law text key why none h s =
    not_a_book why s.book (sym none.refused ∙ ap elaborated (law text none.definition s.definition none.stands s.stands) ∙ s.elaborates)

pub refused_start : OneDefinition → (text key name : List ℕ) (refusal : StartRefusal) (r : OpenRefusal) → name ≡ key → r ≡ start_refusal refusal → Opens text name (Err refusal)
    → BeginsWith key text (Err r)
refused_start law text key name refusal r same e o = subst (λ q. BeginsWith key text (Err q)) (sym e) (by_refusal refusal (subst (λ k. Opens text k (Err refusal)) same o))
  where
    by_refusal : (f : StartRefusal) → Opens text key (Err f) → BeginsWith key text (Err (start_refusal f))
    by_refusal (StandsForNone why) p = (refl, λ h is_key s. no_definition text key why p h s)
    by_refusal (Types why) p = (refl, λ h is_key s. no_book law text key why p h s)
    by_refusal NoMemoryToStart p = tt

-- ---- the first record

pub begun_by : (first : Entry) (key definition : List ℕ) (result : Result Held OpenRefusal) → first.kind ≡ 0 → first.payload ≡ first_payload key definition
    → BeginsWith key definition result → BeginsAs first result
begun_by first key definition (Ok held) kind is b =
    (record { kind = kind; key = key; definition = definition; payload = is; is_key = b.0; starts = b.1 }, b.2)
begun_by first key definition (Err (Unread refusal)) kind is b = b
begun_by first key definition (Err (Damaged k)) kind is b =
    (b.0, λ h x. b.1 h (subst IsKey (same_first x.key x.definition key definition (sym x.payload ∙ is)).0 x.is_key) (begins_with first h key definition is x))
begun_by first key definition (Err NoMemory) kind is b = tt

pub no_parts : (first : Entry) → TellsFirst first.payload None → (h : Holding) → Begins first h → ⊥
no_parts first none h b = none b.key b.definition b.payload

pub no_first : (first : Entry) → first.kind ≢ 0 → (h : Holding) → Begins first h → ⊥
no_first first other h b = other b.kind

-- ---- requests

module _ (h : Holding) (q : Request) (mid : Held) (a : Answered) (gives : Settles (act h q) mid a ⊎ Suspends (act h q) h mid a) where
  -- it isn't accepted
  pub not_accepted : mid.pending ≡ None → is_accepted (act h q).1 ≡ false
  not_accepted none =
      let s = settled_of (act h q) h mid a gives none in
      ap (λ (x : Acted). is_accepted x.1) s.acts ∙ s.refused

  -- it is, and taken in
  pub accepted_again : (new : Held) → IsSome mid.pending → holding new ≡ if_taken_in mid mid.pending
      → (is_accepted (act h q).1 ≡ true) × (holding new ≡ (act h q).0) × (new.accepted ≡ h.accepted + 1)
  accepted_again new some is =
      let s = suspended_of (act h q) h mid a gives some in
      let held : holding new ≡ taken_in mid s.pending = is ∙ ap (if_taken_in mid) s.is in
      let before = ap (λ (x : Holding). x.accepted) s.was in (
        ap (λ (x : Acted). is_accepted x.1) s.acts ∙ s.accepted,
        held ∙ ap (λ (x : Acted). x.0) (sym s.acts),
        ap (λ (x : Holding). x.accepted) held ∙ ap (λ n. n + 1) before,
      )

-- ---- further records

both_ways : (h : Holding) (q p : Request) → q ≡ p → is_accepted (act h q).1 ≡ false → is_accepted (act h p).1 ≡ true → ⊥
both_ways h q p same isnt is = true≢false (sym is ∙ ap (λ x. is_accepted (act h x).1) (sym same) ∙ isnt)

pub goes_by : (h after : Holding) (entry : Entry) (q : Request) (result : Result Unit OpenRefusal) → entry.kind ≡ 1 → ReadsAs Line entry.payload (Ok q)
    → AcceptsAs h q after result → GoesOnAs h entry after result
goes_by h after entry q (Ok u) kind reads a =
    (record { kind = kind; accepts = record { request = q; reads = reads; accepted = a.0; is = a.1 } }, a.2)
goes_by h after entry q (Err (Unread refusal)) kind reads a = a
goes_by h after entry q (Err (Damaged k)) kind reads a =
    (a.0, λ other g. both_ways h q g.accepts.request (one_request entry.payload q g.accepts.request reads g.accepts.reads) a.1 g.accepts.accepted)
goes_by h after entry q (Err NoMemory) kind reads a = tt

holds_none : (h : Holding) (entry : Entry) (why : WireRefusal) → ReadsAs Line entry.payload (Err why) → why ≢ NoMemoryToRead
    → (other : Holding) → GoesOn h entry other → ⊥
holds_none h entry why reads apart other g = apart (no_request entry.payload g.accepts.request why g.accepts.reads reads)

pub of_another_kind : (h : Holding) (entry : Entry) → entry.kind ≢ 1 → (other : Holding) → GoesOn h entry other → ⊥
of_another_kind h entry apart other g = apart g.kind

pub refused_line : (h after : Holding) (entry : Entry) (line : List ℕ) (why : WireRefusal) (r : OpenRefusal) → line ≡ entry.payload → r ≡ line_refusal why (h.accepted + 2)
    → ReadsAs Line line (Err why) → GoesOnAs h entry after (Err r)
refused_line h after entry line why r same e reads =
    subst (λ q. GoesOnAs h entry after (Err q)) (sym e) (by_refusal why (subst (λ l. ReadsAs Line l (Err why)) same reads))
  where
    by_refusal : (w : WireRefusal) → ReadsAs Line entry.payload (Err w) → GoesOnAs h entry after (Err (line_refusal w (h.accepted + 2)))
    by_refusal NotJson p = (refl, holds_none h entry NotJson p (λ f. cc))
    by_refusal (BadShape n) p = (refl, holds_none h entry (BadShape n) p (λ f. cc))
    by_refusal (NumberOutside n) p = (refl, holds_none h entry (NumberOutside n) p (λ f. cc))
    by_refusal (TextTooLong n) p = (refl, holds_none h entry (TextTooLong n) p (λ f. cc))
    by_refusal LaterForm p = (refl, holds_none h entry LaterForm p (λ f. cc))
    by_refusal NoMemoryToRead p = tt

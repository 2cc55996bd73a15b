-- What the machine does with a request, where neither memory nor the disk fails.
use Rattle.std.specs.Prelude.{ℕ, ◌+◌, ◌==◌, nat_le, if◌then◌else◌, List, [], ◌∷◌, ◌++◌, length, Option, Some, None, Result, Ok, Err}
use Rattle.sheet_values.specs.declared.value.Value.{Value}
use Rattle.sheet_columns.specs.Statements.{statements_in}
use Rattle.sheet_columns.specs.declared.page.Part.{Part}
use Rattle.sheet_books.specs.declared.body.Procedure.{Procedure}
use Rattle.sheet_books.specs.declared.body.View.{View}
use Rattle.sheet_books.specs.Schemas.{schema_of}
use Rattle.sheet_meaning.specs.declared.workbook.Caller.{Caller as Who}
use Rattle.sheet_meaning.specs.declared.refusal.Which.TheVariants.{Requests}
use Rattle.sheet_meaning.specs.declared.refusal.Refusal.{Refusal as Stop}
use Rattle.sheet_meaning.specs.declared.refusal.Refusal.TheVariants as stop
use Rattle.sheet_meaning.specs.Statements.{Point}
use Rattle.sheet_meaning.specs.Procedure.{run_procedure}
use Rattle.sheet_meaning.specs.Page.{page, view_support, kept_by_view}
use Rattle.sheet_requests.specs.Lines.{request_line}
use Rattle.sheet_requests.specs.declared.request.Request.{Request}
use Rattle.sheet_requests.specs.declared.request.Request.TheVariants.{Do, See, Reads, Admit, Stats}
use Rattle.sheet_requests.specs.declared.reply.Reply.{Reply}
use Rattle.sheet_requests.specs.declared.reply.Reply.TheVariants as reply
use Rattle.sheet_requests.specs.declared.reply.Answer.{Answer}
use Rattle.sheet_requests.specs.declared.reply.Answer.TheVariants as answer
use Rattle.sheet_requests.specs.declared.reply.Refusal.{Refusal}
use Rattle.sheet_requests.specs.declared.reply.Refusal.TheVariants as refused
use Rattle.sheet_callers.specs.declared.admission.AdmitRefusal.{AdmitRefusal}
use Rattle.sheet_callers.specs.declared.admission.AdmitRefusal.TheVariants as admission
use Rattle.sheet_callers.specs.Admitting.{refused as refused_admission}
use Rattle.sheet_callers.specs.Callers.{Caller, new_caller}
use Rattle.sheet_callers.specs.Keeping.{keeping}
use Rattle.sheet_machine_laws.specs.Between.{kept_between}
use Rattle.sheet_machine_laws.specs.Judging.{Acted, refuse, for_caller, for_operator, where_fresh, for_procedure, for_view, where_live}
use Rattle.sheet_machine_laws.specs.Machine.{Holding, workbook_of}

-- why a procedure or a view is refused, as a reply's refusal
abbrev pub refusal_of : Stop → Refusal
refusal_of stop.Denied = refused.Denied
refusal_of (stop.CheckFailed k message) = refused.CheckFailed k message
refusal_of (stop.FormulaFault f) = refused.FormulaFault f
refusal_of (stop.Full which limit) = refused.Full which limit
refusal_of (stop.NotOneCell o c n) = refused.NotOneCell o c n

-- why no caller is admitted, as a reply's refusal
abbrev pub admission_refusal : AdmitRefusal → Refusal
admission_refusal (admission.KeyTaken c) = refused.KeyTaken c
admission_refusal (admission.NameTaken c) = refused.NameTaken c
admission_refusal (admission.TooMany n) = refused.TooMany n
admission_refusal admission.NoMemory = refused.NoMemory

-- how many requests may be accepted
abbrev pub most_requests : ℕ
most_requests = 1000000000

-- one more accepted request of a caller, with its answer, where there is room: else all is as it was
abbrev pub accept : Holding → Holding → ℕ → ℕ → List ℕ → Answer → Acted
accept old new caller n line given =
    if nat_le most_requests old.accepted then refuse old (refused.Full Requests most_requests)
    else (record new { callers = keeping new.callers caller n line given; accepted = old.accepted + 1 }, reply.Accepted n given)

-- who a caller is to procedures and views: its object, and whether it is the operator, who is caller 1
abbrev pub who : ℕ → Caller → Who
who k c = record { object = c.object; operator = k == 1 }

-- what is held where a procedure's run has ended
abbrev pub after_run : Holding → Point → Holding
after_run h p = record h { state = p.state; kept = kept_between p.kept }

-- a procedure's run, accepted with its reply or refused
abbrev pub by_run : Holding → ℕ → ℕ → List ℕ → Result Point Stop → Acted
by_run h caller n line (Err r) = refuse h (refusal_of r)
by_run h caller n line (Ok p) = accept h (after_run h p) caller n line (answer.Values p.reply)

-- the run of a procedure, by a caller with arguments
abbrev pub run_of : Holding → Procedure → Who → List Value → Result Point Stop
run_of h p w arguments = run_procedure (schema_of h.book) p.allow (statements_in p.body) w arguments h.state h.kept

-- a call of the procedure of that name
abbrev pub call : Holding → ℕ → Caller → List ℕ → ℕ → List ℕ → List Value → Acted
call h k c name n line arguments = for_procedure h name arguments (λ p. by_run h k n line (run_of h p (who k c) arguments))

-- one more caller at the end, unless there is a refusal
abbrev pub admit_unless : Holding → List ℕ → List ℕ → ℕ → ℕ → List ℕ → Option AdmitRefusal → Acted
admit_unless h newkey name n o line (Some r) = refuse h (admission_refusal r)
admit_unless h newkey name n o line None =
    accept h (record h { callers = h.callers ++ new_caller newkey name (Some o) ∷ [] }) 1 n line (answer.Caller (length h.callers + 1))

-- one more caller, for a live object of the callers' column
abbrev pub admit : Holding → List ℕ → List ℕ → ℕ → ℕ → List ℕ → Acted
admit h newkey name n o line = where_live h o (admit_unless h newkey name n o line (refused_admission h.callers newkey name))

-- what is held after a view was worked out
abbrev pub after_view : Holding → View → Who → List Value → Holding
after_view h v w arguments = record h { kept = kept_between (kept_by_view (workbook_of h) v.allow v.parts w arguments h.kept) }

-- the page of a view
abbrev pub page_of : Holding → View → Who → List Value → Result (List Part) Stop
page_of h v w arguments = page (workbook_of h) v.allow v.parts w arguments

-- the items that a view rests on
abbrev pub support_reply : Holding → View → Who → List Value → Reply
support_reply h v w arguments = reply.Reads (view_support (workbook_of h) v.allow v.parts w arguments)

-- a reply by a view's page, where there is one
abbrev pub by_page : Holding → View → Who → List Value → (List Part → Reply) → Result (List Part) Stop → Acted
by_page h v w arguments told (Err r) = refuse h (refusal_of r)
by_page h v w arguments told (Ok parts) = (after_view h v w arguments, told parts)

-- a look at the view of that name
abbrev pub see : Holding → Who → List ℕ → List Value → Acted
see h w name arguments = for_view h name arguments (λ v. by_page h v w arguments (λ parts. reply.Page parts) (page_of h v w arguments))

-- what the view of that name rests on, where it has a page
abbrev pub reads : Holding → Who → List ℕ → List Value → Acted
reads h w name arguments = for_view h name arguments (λ v. by_page h v w arguments (λ parts. support_reply h v w arguments) (page_of h v w arguments))

-- the four counts
abbrev pub counts : Holding → Reply
counts h = reply.Stats h.accepted (length h.callers) (length h.kept) (length h.state.objects)

-- what is held after a request, and its reply
unfoldable pub act : Holding → Request → Acted
act h (Do key name n arguments) =
    let line = request_line (Do key name n arguments) in
    for_caller h key (λ k c. where_fresh h c n line (call h k c name n line arguments))
act h (See key name arguments) = for_caller h key (λ k c. see h (who k c) name arguments)
act h (Reads key name arguments) = for_caller h key (λ k c. reads h (who k c) name arguments)
act h (Admit key newkey name n o) =
    let line = request_line (Admit key newkey name n o) in
    for_operator h key (λ c. where_fresh h c n line (admit h newkey name n o line))
act h (Stats key) = for_operator h key (λ c. (h, counts h))

-- How a request is judged before it acts: each test goes on where it is passed, and else refuses. Nothing changes where it refuses.
use Rattle.std.specs.Prelude.{ℕ, ◌==◌, if◌then◌else◌, List, slice_get, Option, Some, None}
use Rattle.sheet_values.specs.declared.value.Kind.{Kind}
use Rattle.sheet_values.specs.declared.value.Value.{Value}
use Rattle.sheet_columns.specs.Tree.{is_number}
use Rattle.sheet_books.specs.declared.book.Contents.{Contents}
use Rattle.sheet_books.specs.declared.body.Procedure.{Procedure}
use Rattle.sheet_books.specs.declared.body.View.{View}
use Rattle.sheet_books.specs.Books.{procedure_with_name, view_with_name}
use Rattle.sheet_meaning.specs.Arguments.{bad_argument}
use Rattle.sheet_meaning.specs.Workbook.{object_at, column_in}
use Rattle.sheet_requests.specs.declared.reply.Reply.{Reply}
use Rattle.sheet_requests.specs.declared.reply.Reply.TheVariants as reply
use Rattle.sheet_requests.specs.declared.reply.Refusal.{Refusal}
use Rattle.sheet_requests.specs.declared.reply.Refusal.TheVariants as refused
use Rattle.sheet_callers.specs.Callers.{Caller, caller_at, with_key}
use Rattle.sheet_callers.specs.Judging.{Judged, Fresh, Kept, Differs, Past, Ahead, judged}
use Rattle.sheet_machine_laws.specs.Machine.{Holding}

-- what is held afterwards, and the reply
abbrev pub Acted : Type 0
Acted = Holding × Reply

-- a refusal, after which all is as before
abbrev pub refuse : Holding → Refusal → Acted
refuse h r = (h, reply.Refused r)

-- the caller of that number
abbrev pub caller_numbered : Holding → ℕ → (ℕ → Caller → Acted) → Option Caller → Acted
caller_numbered h k go None = refuse h refused.UnknownKey
caller_numbered h k go (Some c) = go k c

-- the caller that was found
abbrev pub caller_found : Holding → (ℕ → Caller → Acted) → Option ℕ → Acted
caller_found h go None = refuse h refused.UnknownKey
caller_found h go (Some k) = caller_numbered h k go (caller_at h.callers k)

-- for the caller with that key, by its number
abbrev pub for_caller : Holding → List ℕ → (ℕ → Caller → Acted) → Acted
for_caller h key go = caller_found h go (with_key h.callers key)

-- for the operator alone, who is caller 1
abbrev pub for_operator : Holding → List ℕ → (Caller → Acted) → Acted
for_operator h key go = for_caller h key (λ k c. if k == 1 then go c else refuse h refused.NotOperator)

-- what a number comes to: only a fresh one acts, and a kept one is answered again
abbrev pub by_number : Holding → ℕ → Acted → Judged → Acted
by_number h n go Fresh = go
by_number h n go (Kept answer) = (h, reply.Kept n answer)
by_number h n go Differs = refuse h refused.Differs
by_number h n go (Past last) = refuse h (refused.Past last)
by_number h n go (Ahead last) = refuse h (refused.Ahead last)

-- where the caller's number is fresh, for a request with that line
abbrev pub where_fresh : Holding → Caller → ℕ → List ℕ → Acted → Acted
where_fresh h c n line go = by_number h n go (judged c n line)

-- where no argument is bad
abbrev pub where_good : Holding → Acted → Option ℕ → Acted
where_good h go None = go
where_good h go (Some k) = refuse h (refused.BadArgument k)

-- where the arguments fit these parameters
abbrev pub with_arguments : Holding → List (List ℕ × Kind) → List Value → Acted → Acted
with_arguments h parameters arguments go = where_good h go (bad_argument h.state parameters arguments)

-- the procedure of that number
abbrev pub procedure_at : Contents → Option ℕ → Option Procedure
procedure_at b None = None
procedure_at b (Some k) = slice_get b.procedures k

-- the procedure that was found, where the arguments fit it
abbrev pub procedure_found : Holding → List Value → (Procedure → Acted) → Option Procedure → Acted
procedure_found h arguments go None = refuse h refused.UnknownName
procedure_found h arguments go (Some p) = with_arguments h p.parameters arguments (go p)

-- for the procedure of that name, where the arguments fit it
abbrev pub for_procedure : Holding → List ℕ → List Value → (Procedure → Acted) → Acted
for_procedure h name arguments go = procedure_found h arguments go (procedure_at h.book (procedure_with_name h.book name))

-- the view of that number
abbrev pub view_at : Contents → Option ℕ → Option View
view_at b None = None
view_at b (Some k) = slice_get b.views k

-- the view that was found, where the arguments fit it
abbrev pub view_found : Holding → List Value → (View → Acted) → Option View → Acted
view_found h arguments go None = refuse h refused.UnknownName
view_found h arguments go (Some v) = with_arguments h v.parameters arguments (go v)

-- for the view of that name, where the arguments fit it
abbrev pub for_view : Holding → List ℕ → List Value → (View → Acted) → Acted
for_view h name arguments go = view_found h arguments go (view_at h.book (view_with_name h.book name))

-- where that object is a live one of the callers' column
abbrev pub where_live : Holding → ℕ → Acted → Acted
where_live h o go = if is_number h.book.callers (column_in (object_at h.state.objects o)) then go else refuse h (refused.BadArgument 1)

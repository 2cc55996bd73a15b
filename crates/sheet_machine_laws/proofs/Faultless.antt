-- No request is refused for a fault of the disk by itself: so for each test that it goes through.
use Rattle.std.proofs.Common.{◌≡◌, ◌+◌, ◌∷◌, ◌++◌, [], ℕ, Bool, true, false, if◌then◌else◌, List, length, Option, Some, None, Result, Ok, Err}
use Rattle.std.specs.Prelude.{nat_le}
use Rattle.sheet_values.specs.declared.value.Value.{Value}
use Rattle.sheet_columns.specs.Tree.{is_number}
use Rattle.sheet_columns.specs.declared.page.Part.{Part}
use Rattle.sheet_books.specs.declared.body.Procedure.{Procedure}
use Rattle.sheet_books.specs.declared.body.View.{View}
use Rattle.sheet_meaning.specs.Arguments.{bad_argument}
use Rattle.sheet_meaning.specs.Statements.{Point}
use Rattle.sheet_meaning.specs.Workbook.{object_at, column_in}
use Rattle.sheet_meaning.specs.declared.workbook.Caller.{Caller as Who}
use Rattle.sheet_meaning.specs.declared.refusal.Refusal.{Refusal as Stop}
use Rattle.sheet_meaning.specs.declared.refusal.Which.TheVariants.{Requests}
use Rattle.sheet_requests.specs.declared.reply.Answer.{Answer}
use Rattle.sheet_requests.specs.declared.reply.Answer.TheVariants as answer
use Rattle.sheet_requests.specs.declared.reply.Reply.{Reply}
use Rattle.sheet_requests.specs.declared.reply.Reply.TheVariants as reply
use Rattle.sheet_requests.specs.declared.reply.Refusal.{Refusal}
use Rattle.sheet_requests.specs.declared.reply.Refusal.TheVariants as refused
use Rattle.sheet_callers.specs.declared.admission.AdmitRefusal.{AdmitRefusal}
use Rattle.sheet_callers.specs.declared.admission.AdmitRefusal.TheVariants as admission
use Rattle.sheet_meaning.specs.declared.refusal.Refusal.TheVariants as stop
use Rattle.sheet_callers.specs.Admitting.{refused as refused_admission}
use Rattle.sheet_callers.specs.Callers.{Caller, new_caller, caller_at}
use Rattle.sheet_callers.specs.Judging.{Judged, Fresh, Kept, Differs, Past, Ahead}
use Rattle.sheet_callers.specs.Keeping.{keeping}
use Rattle.sheet_machine_laws.specs.Act.{refusal_of, admission_refusal, accept, most_requests, after_run, by_run, admit, admit_unless, by_page}
use Rattle.sheet_machine_laws.specs.Judging.{Acted, refuse, caller_numbered, caller_found, by_number, where_good, procedure_found, view_found}
use Rattle.sheet_machine_laws.specs.Machine.{Holding}

-- the reply isn't a fault of the disk
abbrev pub IsFaultless : Acted → Type 0
IsFaultless a = a.1 ≡ reply.Refused refused.DiskFault → ⊥

pub refusing : (h : Holding) (r : Refusal) → (r ≡ refused.DiskFault → ⊥) → IsFaultless (refuse h r)
refusing h r other e = let same : r ≡ refused.DiskFault = cc in other same

stops : (r : Stop) → refusal_of r ≡ refused.DiskFault → ⊥
stops stop.Denied e = cc
stops (stop.CheckFailed k message) e = cc
stops (stop.FormulaFault f) e = cc
stops (stop.Full which limit) e = cc
stops (stop.NotOneCell o c n) e = cc

bars : (r : AdmitRefusal) → admission_refusal r ≡ refused.DiskFault → ⊥
bars (admission.KeyTaken c) e = cc
bars (admission.NameTaken c) e = cc
bars (admission.TooMany n) e = cc
bars admission.NoMemory e = cc

pub either : (h : Holding) (b : Bool) (x y : Acted) → IsFaultless x → IsFaultless y → IsFaultless (if b then x else y)
either h true x y one other = one
either h false x y one other = other

accepting : (h new : Holding) (caller n : ℕ) (line : List ℕ) (given : Answer) → IsFaultless (accept h new caller n line given)
accepting h new caller n line given =
    either h (nat_le most_requests h.accepted) (refuse h (refused.Full Requests most_requests))
    (record new { callers = keeping new.callers caller n line given; accepted = h.accepted + 1 }, reply.Accepted n given)
    (refusing h (refused.Full Requests most_requests) (λ e. cc)) (λ e. cc)

numbered : (h : Holding) (k : ℕ) (go : ℕ → Caller → Acted) → ((j : ℕ) (c : Caller) → IsFaultless (go j c))
    → (o : Option Caller) → IsFaultless (caller_numbered h k go o)
numbered h k go keeps None = refusing h refused.UnknownKey (λ e. cc)
numbered h k go keeps (Some c) = keeps k c

pub found : (h : Holding) (go : ℕ → Caller → Acted) → ((j : ℕ) (c : Caller) → IsFaultless (go j c)) → (o : Option ℕ) → IsFaultless (caller_found h go o)
found h go keeps None = refusing h refused.UnknownKey (λ e. cc)
found h go keeps (Some k) = numbered h k go keeps (caller_at h.callers k)

pub fresh : (h : Holding) (n : ℕ) (go : Acted) → IsFaultless go → (j : Judged) → IsFaultless (by_number h n go j)
fresh h n go keeps Fresh = keeps
fresh h n go keeps (Kept given) = λ e. cc
fresh h n go keeps Differs = refusing h refused.Differs (λ e. cc)
fresh h n go keeps (Past last) = refusing h (refused.Past last) (λ e. cc)
fresh h n go keeps (Ahead last) = refusing h (refused.Ahead last) (λ e. cc)

good : (h : Holding) (go : Acted) → IsFaultless go → (o : Option ℕ) → IsFaultless (where_good h go o)
good h go keeps None = keeps
good h go keeps (Some k) = refusing h (refused.BadArgument k) (λ e. cc)

pub of_procedure : (h : Holding) (arguments : List Value) (go : Procedure → Acted) → ((p : Procedure) → IsFaultless (go p))
    → (o : Option Procedure) → IsFaultless (procedure_found h arguments go o)
of_procedure h arguments go keeps None = refusing h refused.UnknownName (λ e. cc)
of_procedure h arguments go keeps (Some p) = good h (go p) (keeps p) (bad_argument h.state p.parameters arguments)

pub of_view : (h : Holding) (arguments : List Value) (go : View → Acted) → ((v : View) → IsFaultless (go v))
    → (o : Option View) → IsFaultless (view_found h arguments go o)
of_view h arguments go keeps None = refusing h refused.UnknownName (λ e. cc)
of_view h arguments go keeps (Some v) = good h (go v) (keeps v) (bad_argument h.state v.parameters arguments)

pub running : (h : Holding) (caller n : ℕ) (line : List ℕ) (r : Result Point Stop) → IsFaultless (by_run h caller n line r)
running h caller n line (Err r) = refusing h (refusal_of r) (stops r)
running h caller n line (Ok p) = accepting h (after_run h p) caller n line (answer.Values p.reply)

pub showing : (h : Holding) (v : View) (w : Who) (arguments : List Value) (told : List Part → Reply) (tells : (parts : List Part) → told parts ≡ reply.Refused refused.DiskFault → ⊥) (r : Result (List Part) Stop)
    → IsFaultless (by_page h v w arguments told r)
showing h v w arguments told tells (Err r) = refusing h (refusal_of r) (stops r)
showing h v w arguments told tells (Ok parts) = tells parts

unless : (h : Holding) (newkey name : List ℕ) (n o : ℕ) (line : List ℕ) (r : Option AdmitRefusal) → IsFaultless (admit_unless h newkey name n o line r)
unless h newkey name n o line (Some r) = refusing h (admission_refusal r) (bars r)
unless h newkey name n o line None =
    accepting h (record h { callers = h.callers ++ new_caller newkey name (Some o) ∷ [] }) 1 n line (answer.Caller (length h.callers + 1))

pub admitting : (h : Holding) (newkey name : List ℕ) (n o : ℕ) (line : List ℕ) → IsFaultless (admit h newkey name n o line)
admitting h newkey name n o line =
    either h (is_number h.book.callers (column_in (object_at h.state.objects o)))
    (admit_unless h newkey name n o line (refused_admission h.callers newkey name)) (refuse h (refused.BadArgument 1))
    (unless h newkey name n o line (refused_admission h.callers newkey name)) (refusing h (refused.BadArgument 1) (λ e. cc))

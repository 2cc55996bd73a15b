use Rattle.std.proofs.Common.{◌==◌, ℕ, List, if◌then◌else◌}
use Rattle.sheet_values.specs.declared.value.Value.{Value}
use Rattle.sheet_books.specs.declared.body.Procedure.{Procedure}
use Rattle.sheet_books.specs.declared.body.View.{View}
use Rattle.sheet_books.specs.Books.{procedure_with_name, view_with_name}
use Rattle.sheet_requests.specs.Lines.{request_line}
use Rattle.sheet_requests.specs.declared.request.Request.TheVariants.{Do, See, Reads, Admit, Stats}
use Rattle.sheet_requests.specs.declared.reply.Reply.TheVariants as reply
use Rattle.sheet_requests.specs.declared.reply.Refusal.TheVariants as refused
use Rattle.sheet_callers.specs.Callers.{Caller, with_key}
use Rattle.sheet_callers.specs.Judging.{judged}
use Rattle.sheet_machine_laws.specs.Act.{act, who, call, run_of, by_run, admit, by_page, page_of, support_reply, see, reads, counts}
use Rattle.sheet_machine_laws.specs.Judging.{Acted, refuse, where_fresh, procedure_at, view_at}
use Rattle.sheet_machine_laws.specs.Machine.{Holding}
use Rattle.sheet_machine_laws.proofs.Faultless.{IsFaultless, refusing, either, found, fresh, of_procedure, of_view, running, showing, admitting}
use Rattle.sheet_machine_laws.proofs.law.only_disks_fault.Goals as goal

calling : (h : Holding) (k : ℕ) (c : Caller) (name : List ℕ) (n : ℕ) (line : List ℕ) (arguments : List Value) → IsFaultless (call h k c name n line arguments)
calling h k c name n line arguments =
    of_procedure h arguments (λ (p : Procedure). by_run h k n line (run_of h p (who k c) arguments))
    (λ p. running h k n line (run_of h p (who k c) arguments)) (procedure_at h.book (procedure_with_name h.book name))

seeing : (h : Holding) (k : ℕ) (c : Caller) (name : List ℕ) (arguments : List Value) → IsFaultless (see h (who k c) name arguments)
seeing h k c name arguments =
    of_view h arguments (λ (v : View). by_page h v (who k c) arguments (λ parts. reply.Page parts) (page_of h v (who k c) arguments))
    (λ v. showing h v (who k c) arguments (λ parts. reply.Page parts) (λ parts e. cc) (page_of h v (who k c) arguments)) (view_at h.book (view_with_name h.book name))

reading : (h : Holding) (k : ℕ) (c : Caller) (name : List ℕ) (arguments : List Value) → IsFaultless (reads h (who k c) name arguments)
reading h k c name arguments =
    of_view h arguments (λ (v : View). by_page h v (who k c) arguments (λ parts. support_reply h v (who k c) arguments) (page_of h v (who k c) arguments))
    (λ v. showing h v (who k c) arguments (λ parts. support_reply h v (who k c) arguments) (λ parts e. cc) (page_of h v (who k c) arguments))
    (view_at h.book (view_with_name h.book name))

pub returns : goal.returns
unfolding act
returns c h (Do key name n arguments) =
    let line = request_line (Do key name n arguments) in
    found h (λ k d. where_fresh h d n line (call h k d name n line arguments))
    (λ k d. fresh h n (call h k d name n line arguments) (calling h k d name n line arguments) (judged d n line)) (with_key h.callers key)
returns c h (See key name arguments) =
    found h (λ k d. see h (who k d) name arguments) (λ k d. seeing h k d name arguments) (with_key h.callers key)
returns c h (Reads key name arguments) =
    found h (λ k d. reads h (who k d) name arguments) (λ k d. reading h k d name arguments) (with_key h.callers key)
returns c h (Admit key newkey name n o) =
    let line = request_line (Admit key newkey name n o) in
    let go : Caller → Acted = λ d. where_fresh h d n line (admit h newkey name n o line) in
    found h (λ k d. if k == 1 then go d else refuse h refused.NotOperator)
    (λ k d. either h (k == 1) (go d) (refuse h refused.NotOperator)
    (fresh h n (admit h newkey name n o line) (admitting h newkey name n o line) (judged d n line)) (refusing h refused.NotOperator (λ e. cc)))
    (with_key h.callers key)
returns c h (Stats key) =
    found h (λ k d. if k == 1 then (h, counts h) else refuse h refused.NotOperator)
    (λ k d. either h (k == 1) (h, counts h) (refuse h refused.NotOperator)
    (λ e. cc) (refusing h refused.NotOperator (λ e. cc)))
    (with_key h.callers key)

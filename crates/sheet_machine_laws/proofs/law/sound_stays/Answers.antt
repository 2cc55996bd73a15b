use Rattle.std.proofs.Common.{◌≡◌, ◌==◌, Some, ℕ, Bool, true, false, if◌then◌else◌, refl, subst}
use Rattle.std.proofs.lemmas.Bool.{eqb-true}
use Rattle.sheet_books.specs.declared.body.View.{View}
use Rattle.sheet_books.specs.Books.{procedure_with_name, view_with_name}
use Rattle.sheet_requests.specs.Lines.{request_line}
use Rattle.sheet_requests.specs.declared.request.Request.TheVariants.{Do, See, Reads, Admit, Stats}
use Rattle.sheet_requests.specs.declared.reply.Reply.TheVariants as reply
use Rattle.sheet_requests.specs.declared.reply.Refusal.TheVariants as refused
use Rattle.sheet_callers.specs.Callers.{caller_at, with_key}
use Rattle.sheet_machine_laws.specs.Act.{act, who, call, admit, by_page, page_of, support_reply, see, reads, counts}
use Rattle.sheet_machine_laws.specs.Judging.{Acted, refuse, where_fresh, view_at}
use Rattle.sheet_machine_laws.specs.Machine.{Holding}
use Rattle.sheet_machine_laws.specs.Sound.{IsSound}
use Rattle.sheet_machine_laws.proofs.Lengths.{call_short, admission_short}
use Rattle.sheet_machine_laws.proofs.Soundness.{found, fresh, call_sound, admit_sound, of_view, shows_sound}
use Rattle.sheet_machine_laws.proofs.law.sound_stays.Goals as goal

-- the operator alone goes on
one_only : (h : Holding) → IsSound h → (k : ℕ) (x : Acted) → (k ≡ 1 → IsSound x.0) → IsSound (if k == 1 then x else refuse h refused.NotOperator).0
one_only h sound k x goes = by_test (k == 1) refl
  where
    by_test : (b : Bool) → (k == 1) ≡ b → IsSound (if b then x else refuse h refused.NotOperator).0
    by_test true e = goes (eqb-true k 1 e)
    by_test false e = sound

pub returns : goal.returns
unfolding act
returns c h (Do key name n arguments) sound range =
    let line = request_line (Do key name n arguments) in
    found h sound (λ k d. where_fresh h d n line (call h k d name n line arguments))
    (λ k d at. fresh h sound d n line (call h k d name n line arguments)
    (λ next. call_sound h sound k d name n line arguments (procedure_with_name h.book name) at next
    (λ few. call_short key name n arguments range.0 range.1 range.2 range.3 few)))
    (with_key h.callers key)
returns c h (See key name arguments) sound range =
    found h sound (λ k d. see h (who k d) name arguments)
    (λ k d at. of_view h sound arguments (λ (v : View). by_page h v (who k d) arguments (λ parts. reply.Page parts) (page_of h v (who k d) arguments))
    (λ v. shows_sound h sound v (who k d) arguments (λ parts. reply.Page parts) (page_of h v (who k d) arguments)) (view_at h.book (view_with_name h.book name)))
    (with_key h.callers key)
returns c h (Reads key name arguments) sound range =
    found h sound (λ k d. reads h (who k d) name arguments)
    (λ k d at. of_view h sound arguments
    (λ (v : View). by_page h v (who k d) arguments (λ parts. support_reply h v (who k d) arguments) (page_of h v (who k d) arguments))
    (λ v. shows_sound h sound v (who k d) arguments (λ parts. support_reply h v (who k d) arguments) (page_of h v (who k d) arguments))
    (view_at h.book (view_with_name h.book name)))
    (with_key h.callers key)
returns c h (Admit key newkey name n o) sound range =
    let line = request_line (Admit key newkey name n o) in
    found h sound (λ k d. if k == 1 then where_fresh h d n line (admit h newkey name n o line) else refuse h refused.NotOperator)
    (λ k d at. one_only h sound k (where_fresh h d n line (admit h newkey name n o line))
    (λ is. fresh h sound d n line (admit h newkey name n o line)
    (λ next. admit_sound h sound d newkey name n o line (subst (λ j. caller_at h.callers j ≡ Some d) is at) next
    (admission_short key newkey name n o range.0 range.1 range.2 range.3 range.4))))
    (with_key h.callers key)
returns c h (Stats key) sound range =
    found h sound (λ k d. if k == 1 then (h, counts h) else refuse h refused.NotOperator)
    (λ k d at. one_only h sound k (h, counts h) (λ is. sound)) (with_key h.callers key)

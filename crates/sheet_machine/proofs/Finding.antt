-- What the machine comes to where a caller, a procedure or a view was found, and by a number.
use Rattle.std.proofs.Common.{◌≡◌, refl, ap, sym, subst, ℕ, zero, suc, ◌<◌, ◌==◌, true, false, List, [], ◌∷◌, length, arith, Option, Some, None}
use Rattle.std.specs.Prelude.{IsSome, slice_get, if◌then◌else◌}
use Rattle.std.proofs.Common.{cond, ltb}
use Rattle.std.proofs.lemmas.Bool.{true≢false, eq-eqb, ne_eqb, ltb-true}
use Rattle.sheet_books.specs.Books.{procedure_with_name, view_with_name}
use Rattle.sheet_values.specs.declared.value.Value.{Value}
use Rattle.sheet_books.specs.declared.body.Procedure.{Procedure}
use Rattle.sheet_books.specs.declared.body.View.{View}
use Rattle.sheet_callers.specs.Callers.{Caller, caller_at, IsWithin}
use Rattle.sheet_callers.specs.Judging.{Judged, Fresh, Kept, Differs, Past, Ahead, judged, IsNext}
use Rattle.sheet_callers.proofs.CallerLemmas.{there}
use Rattle.sheet_requests.specs.declared.reply.Reply.{Reply}
use Rattle.sheet_requests.specs.declared.reply.Reply.TheVariants as reply
use Rattle.sheet_requests.specs.declared.reply.Refusal.TheVariants as refused
use Rattle.sheet_machine_laws.specs.Judging.{Acted, refuse, caller_numbered, caller_found, by_number, with_arguments, procedure_at, procedure_found, view_at, view_found}
use Rattle.sheet_machine_laws.specs.Machine.{Holding}
use Rattle.sheet_machine_laws.proofs.KeptCallers.{fresh_is_next}
use Rattle.sheet_machine.specs.Judging.{reply_unless_fresh}

got : {A : Type 0} (xs : List A) (i : ℕ) → i < length xs → (x : A) × (slice_get xs i ≡ Some x)
got [] i less = absurd (omega (arith, less))
got (x ∷ xs) zero less = (x, refl)
got (x ∷ xs) (suc i) less = got xs i (omega (arith, less))

some_of : {A : Type 0} (o : Option A) → IsSome o → (x : A) × (o ≡ Some x)
some_of None e = absurd (true≢false (sym e))
some_of (Some x) e = (x, refl)

-- the caller that was found
pub found_caller : (h : Holding) (go : ℕ → Caller → Acted) (o : Option ℕ) (k : ℕ) (P : Acted → Type 0) → o ≡ Some k → IsWithin h.callers k
    → ((c : Caller) → caller_at h.callers k ≡ Some c → P (go k c)) → P (caller_found h go o)
found_caller h go o k P e within f =
    let x = some_of (caller_at h.callers k) (there h.callers k within) in
    subst (λ p. P (caller_found h go p)) (sym e)
    (subst (λ q. P (caller_numbered h k go q)) (sym x.1) (f x.0 x.1))

-- the operator, and another one
pub the_operator : (h : Holding) (k : ℕ) (x : Acted) (P : Acted → Type 0) → k ≡ 1 → P x → P (if k == 1 then x else refuse h refused.NotOperator)
the_operator h k x P e p = subst (λ b. P (if b then x else refuse h refused.NotOperator)) (sym (eq-eqb k 1 e)) p

pub another : (h : Holding) (k : ℕ) (x : Acted) (P : Acted → Type 0) → (k ≡ 1 → ⊥) → P (refuse h refused.NotOperator)
    → P (if k == 1 then x else refuse h refused.NotOperator)
another h k x P e p = subst (λ b. P (if b then x else refuse h refused.NotOperator)) (sym (ne_eqb k 1 e)) p

place_within : (a n k : ℕ) → cond (ltb a n) (Some a) None ≡ Some k → k < n
place_within a n k e =
    elim (ltb a n) as (λ b. ltb a n ≡ b → cond b (Some a) None ≡ Some k → k < n) [
      | true ↦ λ t g. let same : a ≡ k = cc in subst (λ j. j < n) same (ltb-true a n t)
      | false ↦ λ t g. cc
    ] refl e

-- the view that was found
pub found_view : (h : Holding) (arguments : List Value) (go : View → Acted) (name : List ℕ) (k : ℕ) (P : Acted → Type 0) → view_with_name h.book name ≡ Some k
    → ((v : View) → slice_get h.book.views k ≡ Some v → P (with_arguments h v.parameters arguments (go v)))
    → P (view_found h arguments go (view_at h.book (view_with_name h.book name)))
found_view h arguments go name k P e f =
    let x = got h.book.views k (place_within _ _ k e) in
    subst (λ p. P (view_found h arguments go (view_at h.book p))) (sym e) (subst (λ q. P (view_found h arguments go q)) (sym x.1) (f x.0 x.1))

-- the procedure that was found
pub found_procedure : (h : Holding) (arguments : List Value) (go : Procedure → Acted) (name : List ℕ) (k : ℕ) (P : Acted → Type 0)
    → procedure_with_name h.book name ≡ Some k
    → ((p : Procedure) → slice_get h.book.procedures k ≡ Some p → P (with_arguments h p.parameters arguments (go p)))
    → P (procedure_found h arguments go (procedure_at h.book (procedure_with_name h.book name)))
found_procedure h arguments go name k P e f =
    let x = got h.book.procedures k (place_within _ _ k e) in
    subst (λ p. P (procedure_found h arguments go (procedure_at h.book p))) (sym e) (subst (λ q. P (procedure_found h arguments go q)) (sym x.1) (f x.0 x.1))

-- a number that isn't fresh is answered
pub replied : (h : Holding) (n : ℕ) (go : Acted) (j : Judged) (r : Reply) → Some r ≡ reply_unless_fresh n j → by_number h n go j ≡ (h, r)
replied h n go Fresh r e = cc
replied h n go (Kept answer) r e = let same : reply.Kept n answer ≡ r = cc in ap (λ x. (h, x)) same
replied h n go Differs r e = let same : reply.Refused refused.Differs ≡ r = cc in ap (λ x. (h, x)) same
replied h n go (Past last) r e = let same : reply.Refused (refused.Past last) ≡ r = cc in ap (λ x. (h, x)) same
replied h n go (Ahead last) r e = let same : reply.Refused (refused.Ahead last) ≡ r = cc in ap (λ x. (h, x)) same

-- a fresh one goes on
pub is_fresh : (n : ℕ) (j : Judged) → None ≡ reply_unless_fresh n j → j ≡ Fresh
is_fresh n Fresh e = refl
is_fresh n (Kept answer) e = cc
is_fresh n Differs e = cc
is_fresh n (Past last) e = cc
is_fresh n (Ahead last) e = cc

pub goes_on_fresh : (h : Holding) (n : ℕ) (go : Acted) (j : Judged) → None ≡ reply_unless_fresh n j → by_number h n go j ≡ go
goes_on_fresh h n go j e = ap (by_number h n go) (is_fresh n j e)

-- it is the next number of its caller
pub next_of_fresh : (cs : List Caller) (k n : ℕ) (line : List ℕ) → IsWithin cs k
    → ((c : Caller) → caller_at cs k ≡ Some c → None ≡ reply_unless_fresh n (judged c n line)) → IsNext (caller_at cs k) n
next_of_fresh cs k n line within fresh =
    let x = some_of (caller_at cs k) (there cs k within) in
    subst (λ o. IsNext o n) (sym x.1) (fresh_is_next x.0 n line (is_fresh n (judged x.0 n line) (fresh x.0 x.1)))

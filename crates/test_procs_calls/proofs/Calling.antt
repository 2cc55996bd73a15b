-- What a call needs, and what it leaves.
use Rattle.std.proofs.Common.{◌≡◌, sym, ap, ◌∙◌, subst, ℕ, true, nat_eq, List, [], ◌∷◌, Result, Option, Ok, Err, Some}
use Rattle.std.proofs.lemmas.Bool.{eqb-true}
use Rattle.sheet_values.specs.declared.value.Value.{Value}
use Rattle.sheet_values.specs.declared.value.Value.TheVariants as value
use Rattle.sheet_values.specs.declared.value.Kind.TheVariants as kind
use Rattle.sheet_books.specs.declared.book.Contents.{Contents}
use Rattle.sheet_books.specs.Schemas.{schema_of}
use Rattle.sheet_engine.specs.Seen.{Seen, workbook_in}
use Rattle.sheet_engine.specs.Started.{IsServed}
use Rattle.sheet_meaning.specs.Statements.{workbook}
use Rattle.sheet_meaning.specs.WellFormed.{IsFilled}
use Rattle.sheet_meaning.specs.Workbook.{object_at, column_in}
use Rattle.sheet_meaning.specs.declared.workbook.Caller.{Caller}
use Rattle.sheet_state.specs.Stored.{Stored, book}
use Rattle.sheet_procs_laws.specs.Keeping.{IsCallerIn}
use Rattle.sheet_procs_laws.proofs.Following.{set_drawn}
use Rattle.sheet_procs.specs.Acts.{ActsAs}
use Rattle.sheet_procs.specs.declared.refusal.ProcedureRefusal.{ProcedureRefusal}

-- a live object of the callers' column is a caller's
caller_in : (b : Contents) (k : Stored) (o c : ℕ) → IsServed b k → column_in (object_at k.present.state.objects o) ≡ Some c → c ≡ b.callers →
    IsCallerIn k.present.state b.callers (Some o)
caller_in b k o c served live is = (
  (set_drawn (book b.columns k.present.state) served.kept.present.well_formed (kind.Object c) (value.Object o ∷ []) (live, tt)).0,
  λ d e.
      let same : Some d ≡ Some c = sym e ∙ live in
      let d_is : d ≡ c = cc in
      d_is ∙ is,
)

-- the same, of what an engine's state and book tell
pub caller_told : (b : Contents) (k told : Stored) (caller : Option ℕ) (o c n : ℕ) → IsServed b k → told ≡ k →
    Some c ≡ column_in (object_at told.present.state.objects o) → nat_eq c n ≡ true → n ≡ b.callers → caller ≡ Some o → IsCallerIn k.present.state b.callers caller
caller_told b k told caller o c n served same live equal is some =
    subst (IsCallerIn k.present.state b.callers) (sym some)
    (caller_in b k o c served (sym (live ∙ ap (λ (m : Stored). column_in (object_at m.present.state.objects o)) same)) (eqb-true c n equal ∙ is))

-- a run leaves a filled workbook
pub stays_filled : (n : ℕ) (caller : Caller) (arguments : List Value) (result : Result (List Value) ProcedureRefusal) (old new : Seen) →
    ActsAs n caller arguments result old new → new.book ≡ old.book → IsFilled (workbook_in old) → IsFilled (workbook_in new)
stays_filled n caller arguments (Ok reply) old new a same filled = a.acts.2.filled
stays_filled n caller arguments (Err refusal) old new a same filled =
    let e : workbook_in old ≡ workbook_in new =
    ap (λ b. workbook (schema_of b) old.state.present.state) (sym same) ∙ ap (λ (k : Stored). workbook (schema_of new.book) k.present.state) (sym a.acts.1) in
    subst IsFilled e filled

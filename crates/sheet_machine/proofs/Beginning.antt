-- An App that has just started is ready.
use Rattle.std.proofs.Common.{◌≡◌, ap, sym, ◌∙◌, subst, ℕ, List, [], ◌∷◌, None}
use Rattle.sheet_columns.specs.Tree.{IsTree}
use Rattle.sheet_books.specs.declared.book.Contents.{Contents}
use Rattle.sheet_books.specs.Books.{IsWellTyped}
use Rattle.sheet_books.specs.Schemas.{schema_of}
use Rattle.sheet_callers.specs.Callers.{operator}
use Rattle.sheet_meaning.specs.Start.{start_state}
use Rattle.sheet_machine_laws.specs.Machine.{start}
use Rattle.sheet_machine_laws.specs.Sound.{IsSound}
use Rattle.sheet_machine_laws.specs.Staying.{StartsAreSound}
use Rattle.sheet_machine.specs.Held.{holding, IsReady}
use Rattle.sheet_machine.specs.declared.held.Held.{Held}

pub is_ready : (book : Contents) (key : List ℕ) (h : Held) → StartsAreSound → IsWellTyped book → IsTree book.columns → h.engine.book ≡ book
    → h.engine.state.present.state ≡ start_state (schema_of book) → h.engine.state.earlier ≡ [] → h.callers ≡ operator key ∷ [] → h.accepted ≡ 0 → h.pending ≡ None → IsReady h
is_ready book key h law typed tree eb es settled ec en none =
    let e : holding h ≡ start book key =
    ap (λ b. record (holding h) { book = b }) eb ∙ ap (λ s. record (holding h) { book = book; state = s }) es
    ∙ ap (λ cs. record (start book key) { callers = cs; accepted = h.accepted }) ec ∙ ap (λ n. record (start book key) { accepted = n }) en in
    record { sound = subst IsSound (sym e) (law book key typed tree); settled = settled; none = none }

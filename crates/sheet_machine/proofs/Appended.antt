-- What becomes of a pending request, by the append of its record.
use Rattle.std.proofs.Common.{◌≡◌, refl, sym, ap, ◌∙◌, subst, ℕ, ◌+◌, ◌-◌, List, [], ◌∷◌, length, length-append, arith, Option, Some, None, Ok, Err}
use Rattle.std.specs.Prelude.{IfSome}
use Rattle.sheet_outside.specs.Moments.{Contents}
use Rattle.sheet_outside.specs.Told.{WhereTold}
use Rattle.sheet_outside.proofs.Telling.{told_as}
use Rattle.sheet_journal.specs.Layout.{Entry, body, size}
use Rattle.sheet_journal.specs.Journal.{Journal, staged_of}
use Rattle.sheet_journal.specs.JournalCalls.{Appends, UsesUp}
use Rattle.sheet_machine_laws.specs.Step.{Took, Doubted}
use Rattle.sheet_machine.specs.declared.held.Held.{Held}
use Rattle.sheet_machine.specs.declared.held.Pending.{Pending}
use Rattle.sheet_machine.specs.Becoming.{CanRecord, TakesIn, ComesIntoDoubt}
use Rattle.sheet_machine.specs.Held.{holding, doubt_of, if_taken_in}
use Rattle.sheet_machine.specs.Recording.{Records}
use Rattle.sheet_machine.specs.Recovering.{entry_of}
use Rattle.sheet_machine.proofs.JournalFiles.{length-body}
use Rattle.sheet_machine.proofs.Moments.{records_in, records_doubt}

staged_size : (e : Entry) → length (staged_of e) - 1 ≡ size e
staged_size e = omega (arith, length-append (1 ∷ body e) (0 ∷ []), length-body e)

module _ (mid : Held) (j ready is : Journal) (disk later : Option Contents) (place : ready.place ≡ j.place) where
  module _ (p : Pending) (can : CanRecord mid p j) (staged : ready.staged ≡ staged_of (entry_of p.line.items)) where
    moves : length ready.staged - 1 ≡ size (entry_of p.line.items)
    moves = ap (λ (bytes : List ℕ). length bytes - 1) staged ∙ staged_size (entry_of p.line.items)

    taken : {E : Type 0} (u : Unit {0}) (new : Held) → mid.pending ≡ Some p → UsesUp {E = E} (Ok u) ready is → WhereTold (Appends {E = E} ready.place ready.staged (Ok u)) disk later
        → holding new ≡ if_taken_in mid mid.pending → new.engine.state.earlier ≡ [] → new.pending ≡ None → TakesIn p mid j new is disk later
    taken {E = E} u new at uses file held settled none =
        let line = p.line.items in
        let short = can.short in
        let behind : is.place ≡ j.place + size (entry_of line) = uses.written.0 ∙ ap (λ n. n + (length ready.staged - 1)) place ∙ ap (λ n. j.place + n) moves in
        record {
          held = held ∙ ap (if_taken_in mid) at;
          settled = settled;
          none = none;
          sure = uses.written.1;
          place = behind;
          file = subst (λ n. WhereTold (Records (Took line ∷ []) (record { place = j.place; doubt = None }) (record { place = n; doubt = None })) disk later) (sym behind)
              (subst (λ n. WhereTold (Records (Took line ∷ []) (record { place = n; doubt = None }) (record { place = n + size (entry_of line); doubt = None })) disk later) place
              (told_as (Appends {E = E} ready.place ready.staged (Ok u))
              (Records (Took line ∷ []) (record { place = ready.place; doubt = None }) (record { place = ready.place + size (entry_of line); doubt = None })) disk later
              (λ x y w. records_in line ready.place ready.staged staged (omega (arith, short)) x y u w) file));
        }

    doubted : {E : Type 0} (e : E) → UsesUp (Err e) ready is → WhereTold (Appends ready.place ready.staged (Err e)) disk later → ComesIntoDoubt p mid j mid is disk later
    doubted e uses file =
        let line = p.line.items in
        let short = can.short in
        let same : is.place ≡ j.place = uses.in_doubt.0 ∙ place in
        record {
          same = refl;
          doubt = uses.in_doubt.1 ∙ ap (λ n. Some n) moves;
          place = same;
          file = subst (λ n. WhereTold (Records (Doubted line ∷ []) (record { place = j.place; doubt = None }) (record { place = n; doubt = Some (doubt_of mid p) })) disk later)
              (sym same)
              (subst (λ n. WhereTold (Records (Doubted line ∷ []) (record { place = n; doubt = None }) (record { place = n; doubt = Some (doubt_of mid p) })) disk later) place
              (told_as (Appends ready.place ready.staged (Err e))
              (Records (Doubted line ∷ []) (record { place = ready.place; doubt = None }) (record { place = ready.place; doubt = Some (doubt_of mid p) })) disk later
              (λ x y w. records_doubt line ready.place ready.staged staged (omega (arith, short)) x y e (doubt_of mid p) refl w) file));
        }

  pub all_taken : {E : Type 0} (u : Unit {0}) (new : Held) → IfSome mid.pending (λ p. CanRecord mid p j)
      → IfSome mid.pending (λ p. ready.staged ≡ staged_of (entry_of p.line.items)) → UsesUp {E = E} (Ok u) ready is
      → WhereTold (Appends {E = E} ready.place ready.staged (Ok u)) disk later → holding new ≡ if_taken_in mid mid.pending → new.engine.state.earlier ≡ [] → new.pending ≡ None
      → IfSome mid.pending (λ p. TakesIn p mid j new is disk later)
  all_taken {E = E} u new can staged uses file held settled none = by_pending mid.pending refl can staged
    where
      by_pending : (o : Option Pending) → mid.pending ≡ o → IfSome o (λ p. CanRecord mid p j) → IfSome o (λ p. ready.staged ≡ staged_of (entry_of p.line.items))
          → IfSome o (λ p. TakesIn p mid j new is disk later)
      by_pending None e c s = tt
      by_pending (Some p) e c s = taken p c s u new e uses file held settled none

  pub all_doubted : {E : Type 0} (e : E) → IfSome mid.pending (λ p. CanRecord mid p j) → IfSome mid.pending (λ p. ready.staged ≡ staged_of (entry_of p.line.items))
      → UsesUp (Err e) ready is → WhereTold (Appends ready.place ready.staged (Err e)) disk later → IfSome mid.pending (λ p. ComesIntoDoubt p mid j mid is disk later)
  all_doubted {E = E} e can staged uses file = by_pending mid.pending can staged
    where
      by_pending : (o : Option Pending) → IfSome o (λ p. CanRecord mid p j) → IfSome o (λ p. ready.staged ≡ staged_of (entry_of p.line.items))
          → IfSome o (λ p. ComesIntoDoubt p mid j mid is disk later)
      by_pending None c s = tt
      by_pending (Some p) c s = doubted p c s e uses file

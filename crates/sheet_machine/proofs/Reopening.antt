-- How opening a journal goes on, call by call.
use Rattle.std.proofs.Common.{◌≡◌, inl, inr, refl, sym, ap, ◌∙◌, subst, ℕ, ◌+◌, ◌≤◌, true, false, List, [], ◌∷◌, ◌++◌, arith, length-append, Option, Some, None, Result, Ok, Err}
use Rattle.sheet_outside.specs.Causes.{Rose}
use Rattle.sheet_outside.specs.Crash.{File, at_rest}
use Rattle.sheet_outside.specs.Moments.{Files, Contents, Throughout}
use Rattle.sheet_outside.specs.Told.{WhereTold}
use Rattle.sheet_outside.proofs.Passing.{said_as, at_last}
use Rattle.sheet_outside.proofs.Telling.{told_then, told_as}
use Rattle.sheet_journal.specs.declared.journal.JournalRefusal.{JournalRefusal}
use Rattle.sheet_journal.specs.declared.journal.JournalRefusal.TheVariants.{DiskFault, AlreadyThere, NotAJournal, TornLayout, NoMemory as NoMemoryToRead}
use Rattle.sheet_journal.specs.declared.journal.Record.{Record}
use Rattle.sheet_journal.specs.Layout.{Reaches, Ends, IsBegun}
use Rattle.sheet_journal.specs.Journal.{Journal, journal_at, IsReading}
use Rattle.sheet_journal.specs.JournalCalls.{IsKept, Keeps, IsSameOrSynced, IsOpened, Finds, Advances, IsNext, Moves, IsCutShort, entry_of as entry_read}
use Rattle.sheet_define_reading.specs.Laws.{OneDefinition}
use Rattle.sheet_machine_laws.specs.Machine.{Holding}
use Rattle.sheet_machine.specs.declared.held.Held.{Held}
use Rattle.sheet_machine.specs.declared.opening.Opened.{Opened}
use Rattle.sheet_machine.specs.declared.opening.OpenRefusal.{OpenRefusal}
use Rattle.sheet_machine.specs.declared.opening.OpenRefusal.TheVariants.{Journal as Unread, Damaged, NoMemory}
use Rattle.sheet_machine.specs.Held.{holding}
use Rattle.sheet_machine.specs.Opening.{IsRead, Reopens, IsOpenRefusal}
use Rattle.sheet_machine.specs.OpeningSteps.{open_refusal, BeginsAs, GoesOnAs, IsUnderWay, IsAtEnd, Turns, Ends as EndsTurns, Goes}
use Rattle.sheet_machine.specs.Recovering.{Begins, GoesOn}
use Rattle.sheet_machine.proofs.JournalFiles.{keeps_then}
use Rattle.sheet_machine.proofs.JournalRecords.{not_empty}
use Rattle.sheet_machine.proofs.Recoveries.{recovers_more, bad_behind, bad_first}

-- ---- files

some_bytes : (a b : List ℕ) → Some (at_rest a) ≡ Some (at_rest b) → a ≡ b
some_bytes a b e = ap (λ (f : Option File). seen_of f) e
  where
    seen_of : Option File → List ℕ
    seen_of None = []
    seen_of (Some f) = f.seen

-- the same bytes, called otherwise
read_as : (b c : List ℕ) (before mid now : Option File) → IsRead b before mid → mid ≡ now → now ≡ Some (at_rest c) → IsRead c before now
read_as b c before mid now r same is =
    let bytes : b ≡ c = some_bytes b c (sym r.is ∙ same ∙ is) in
    record { was = r.was; there = r.there; seen = r.seen ∙ bytes; is = is }

-- calls that change nothing
kept_still : (of : List ℕ) (x y z : Contents) → Keeps of (IsSameOrSynced (x.now of)) x y → z.name ≡ y.name → Throughout (λ files. files ≡ y.now) y z
    → Keeps of (IsSameOrSynced (x.now of)) x z
kept_still of x y z a name all =
    let Q : Option File → Type 0 = IsSameOrSynced (x.now of) in
    let now : Q (y.now of) = (at_last (IsKept of Q x) x y a.moments).0 in
    let here : Q (y.now y.name) = subst (λ n. Q (y.now n)) (sym a.name) now in
    keeps_then of Q x y z a (record {
      name = name;
      moments = said_as (λ files. files ≡ y.now) (IsKept y.name Q y) y z
          (λ files e. (subst (λ (f : Files). Q (f y.name)) (sym e) here, λ other ne. ap (λ (f : Files). f other) e)) all;
    })

still_now : (of : List ℕ) (y z : Contents) → Throughout (λ files. files ≡ y.now) y z → y.now of ≡ z.now of
still_now of y z all = ap (λ (f : Files). f of) (sym (at_last (λ files. files ≡ y.now) y z all))

-- ---- the beginning

pub not_found : {T : Type 0} (P : T → Option File → Option File → Type 0) (of : List ℕ) (why : JournalRefusal) (x y : Contents) → Finds of (Err why) x y
    → Reopens P of (Err (open_refusal why)) x y
not_found P of DiskFault x y f = record { crash = f.crash; answer = tt }
not_found P of AlreadyThere x y f = absurd f.answer
not_found P of (NotAJournal count) x y f = record { crash = f.crash; answer = f.answer }
not_found P of (TornLayout at) x y f = absurd f.answer
not_found P of NoMemoryToRead x y f = record { crash = f.crash; answer = tt }

-- what was found, whose records are read from the first on
record IsBeginning (of : List ℕ) (j is : Journal) (result : Result (Option Record) JournalRefusal) (x z : Contents) : Type 0 where
  crash : Keeps of (IsSameOrSynced (x.now of)) x z
  opened : IsOpened (x.now of) (z.now of)
  answer : IsNext [] j is result (z.now of)

beginning : (of : List ℕ) (found j is : Journal) (result : Result (Option Record) JournalRefusal) (x y z : Contents) → Finds of (Ok found) x y → j ≡ journal_at 8
    → Advances j is result y z → IsBeginning of j is result x z
beginning of found j is result x y z f at a =
    let o = f.answer in
    let here : IsReading (y.now y.name) [] j = subst (λ k. IsReading (y.now y.name) [] k) (sym at) (subst (λ n. IsReading (y.now n) [] (journal_at 8)) (sym f.crash.name) o.reading) in
    let b = a.journal [] here in
    let same = still_now of y z b.same in
    record {
      crash = kept_still of x y z f.crash b.name b.same;
      opened = subst (IsOpened (x.now of)) same o;
      answer = subst (λ n. IsNext [] j is result (z.now n)) f.crash.name b.answer;
    }

first_read : (before now : Option File) (bytes : List ℕ) → IsOpened before now → now ≡ Some (at_rest bytes) → IsRead bytes before now
first_read before now bytes o is =
    record { was = o.was; there = o.is_was; seen = some_bytes o.was.seen bytes (sym o.is ∙ is); is = is }

-- the first record can't be read
pub not_begun : (of : List ℕ) (found j is : Journal) (why : JournalRefusal) (x y z : Contents) → Finds of (Ok found) x y → j ≡ journal_at 8 → Moves (Err why) j is
    → Advances j is (Err why) y z → Reopens IsUnderWay of (Err (open_refusal why)) x z
not_begun of found j is DiskFault x y z f at m a = record { crash = (beginning of found j is (Err DiskFault) x y z f at a).crash; answer = tt }
not_begun of found j is NoMemoryToRead x y z f at m a = record { crash = (beginning of found j is (Err NoMemoryToRead) x y z f at a).crash; answer = tt }
not_begun of found j is AlreadyThere x y z f at m a = absurd m
not_begun of found j is (NotAJournal count) x y z f at m a = absurd m
not_begun of found j is (TornLayout place) x y z f at m a =
    let b = beginning of found j is (Err (TornLayout place)) x y z f at a in
    let here : j.place ≡ place = sym m.1 in
    let cut = subst (IsCutShort (z.now of)) here b.answer in
    let r = b.opened.reading in
    let eight : 8 ≡ place = ap (λ (k : Journal). k.place) (sym at) ∙ here in
    record {
      crash = b.crash;
      answer = record {
        bytes = r.bytes;
        read = first_read (x.now of) (z.now of) r.bytes b.opened r.is;
        front = [];
        reaches = subst (Reaches r.bytes []) eight r.reaches;
        good = inl refl;
        cut = cut;
      };
    }

-- there is none, which can't be
pub none_begun : (of : List ℕ) (found j is : Journal) (k : ℕ) (x y z : Contents) → Finds of (Ok found) x y → j ≡ journal_at 8 → Advances j is (Ok None) y z
    → Reopens IsUnderWay of (Err (Damaged k)) x z
none_begun of found j is k x y z f at a =
    let b = beginning of found j is (Ok None) x y z f at a in
    let e = some_bytes b.opened.was.seen b.answer.bytes (sym b.opened.is ∙ b.answer.is) in
    absurd (not_empty b.answer.bytes j.place (subst IsBegun e b.opened.begun) b.answer.ends)

-- it begins with a workbook, or it doesn't
pub first_begun : (of : List ℕ) (found j is : Journal) (r : Record) (held : Held) (x y z : Contents) → Finds of (Ok found) x y → j ≡ journal_at 8
    → Advances j is (Ok (Some r)) y z → Begins (entry_read r) (holding held) → Reopens IsUnderWay of (Ok (record { held = held; journal = is })) x z
first_begun of found j is r held x y z f at a begins =
    let b = beginning of found j is (Ok (Some r)) x y z f at a in
    let none = ap (λ (h : Holding). h.accepted) begins.starts.is in
    record {
      crash = b.crash;
      answer = record {
        entries = entry_read r ∷ [];
        recovers = (holding held, begins, refl);
        reading = b.answer;
        read = first_read (x.now of) (z.now of) b.answer.bytes b.opened b.answer.is;
        count = omega (arith, none);
      };
    }

pub first_refused : (of : List ℕ) (found j is : Journal) (r : Record) (why : OpenRefusal) (x y z : Contents) → Finds of (Ok found) x y → j ≡ journal_at 8
    → Advances j is (Ok (Some r)) y z → BeginsAs (entry_read r) (Err why) → Reopens IsUnderWay of (Err why) x z
first_refused of found j is r (Unread refusal) x y z f at a none = absurd none
first_refused of found j is r NoMemory x y z f at a none = record { crash = (beginning of found j is (Ok (Some r)) x y z f at a).crash; answer = tt }
first_refused of found j is r (Damaged k) x y z f at a none =
    let b = beginning of found j is (Ok (Some r)) x y z f at a in
    record {
      crash = b.crash;
      answer = record {
        bytes = b.answer.bytes;
        read = first_read (x.now of) (z.now of) b.answer.bytes b.opened b.answer.is;
        front = [];
        bad = entry_read r;
        place = is.place;
        reaches = b.answer.reaches;
        count = none.0;
        good = inl refl;
        not = bad_first (entry_read r) none.1;
      };
    }

-- ---- further records

-- the next record is read behind those so far
record IsReadOn (of : List ℕ) (old : Opened) (is : Journal) (result : Result (Option Record) JournalRefusal) (x y z : Contents) : Type 0 where
  crash : Keeps of (IsSameOrSynced (x.now of)) x z
  so_far : IsUnderWay old (x.now of) (y.now of)
  same : y.now of ≡ z.now of
  answer : IsNext so_far.entries old.journal is result (z.now of)

read_on : (of : List ℕ) (old : Opened) (is : Journal) (result : Result (Option Record) JournalRefusal) (x y z : Contents) → Reopens IsUnderWay of (Ok old) x y
    → Advances old.journal is result y z → IsReadOn of old is result x y z
read_on of old is result x y z r a =
    let o = r.answer in
    let b = a.journal o.entries (subst (λ n. IsReading (y.now n) o.entries old.journal) (sym r.crash.name) o.reading) in
    record {
      crash = kept_still of x y z r.crash b.name b.same;
      so_far = o;
      same = still_now of y z b.same;
      answer = subst (λ n. IsNext o.entries old.journal is result (z.now n)) r.crash.name b.answer;
    }

-- it goes on with the record
pub one_more : (old : Opened) (held : Held) (is : Journal) (r : Record) (y z : Contents) → Advances old.journal is (Ok (Some r)) y z
    → GoesOn (holding old.held) (entry_read r) (holding held) → held.accepted ≡ old.held.accepted + 1
    → Turns old (record { held = held; journal = is }) (Ok true) y z
one_more old held is r y z a goes more = record {
  turns = λ of x so_far.
      let b = read_on of old is (Ok (Some r)) x y z so_far a in
      let o = b.so_far in
      record {
        crash = b.crash;
        answer = record {
          entries = o.entries ++ entry_read r ∷ [];
          recovers = recovers_more o.entries (entry_read r ∷ []) (holding old.held) (holding held) o.recovers (holding held, goes, refl);
          reading = b.answer;
          read = read_as o.reading.bytes b.answer.bytes (x.now of) (y.now of) (z.now of) o.read b.same b.answer.is;
          count = length-append o.entries (entry_read r ∷ []) ∙ ap (λ n. n + 1) o.count ∙ ap (λ n. n + 1) (sym more);
        };
      };
}

-- or it doesn't
pub no_more : OneDefinition → (old new : Opened) (is : Journal) (r : Record) (after : Holding) (why : OpenRefusal) (y z : Contents) → Advances old.journal is (Ok (Some r)) y z
    → GoesOnAs (holding old.held) (entry_read r) after (Err why) → Turns old new (Err why) y z
no_more law old new is r after (Unread refusal) y z a none = absurd none
no_more law old new is r after NoMemory y z a none = record {
  turns = λ of x so_far. record { crash = (read_on of old is (Ok (Some r)) x y z so_far a).crash; answer = tt };
}
no_more law old new is r after (Damaged k) y z a none = record {
  turns = λ of x so_far.
      let b = read_on of old is (Ok (Some r)) x y z so_far a in
      let o = b.so_far in
      let count = o.count in
      let number = none.0 in
      record {
        crash = b.crash;
        answer = record {
          bytes = b.answer.bytes;
          read = read_as o.reading.bytes b.answer.bytes (x.now of) (y.now of) (z.now of) o.read b.same b.answer.is;
          front = o.entries;
          bad = entry_read r;
          place = is.place;
          reaches = b.answer.reaches;
          count = omega (arith, count, number);
          good = inr (holding old.held, o.recovers);
          not = bad_behind law o.entries (holding old.held) (entry_read r) o.recovers none.1;
        };
      };
}

-- there is none
pub at_end : (old : Opened) (is : Journal) (y z : Contents) → Moves (Ok None) old.journal is → Advances old.journal is (Ok None) y z
    → Turns old (record { held = old.held; journal = is }) (Ok false) y z
at_end old is y z m a = record {
  turns = λ of x so_far.
      let b = read_on of old is (Ok None) x y z so_far a in
      let o = b.so_far in
      record {
        crash = b.crash;
        answer = record {
          entries = o.entries;
          recovers = o.recovers;
          ready = record { bytes = b.answer.bytes; is = b.answer.is; ends = subst (Ends b.answer.bytes o.entries) (sym m.0.place) b.answer.ends };
          read = read_as o.reading.bytes b.answer.bytes (x.now of) (y.now of) (z.now of) o.read b.same b.answer.is;
        };
      };
}

-- it can't be read
pub not_read : (old new : Opened) (is : Journal) (why : JournalRefusal) (y z : Contents) → Moves (Err why) old.journal is → Advances old.journal is (Err why) y z
    → Turns old new (Err (open_refusal why)) y z
not_read old new is DiskFault y z m a = record {
  turns = λ of x so_far. record { crash = (read_on of old is (Err DiskFault) x y z so_far a).crash; answer = tt };
}
not_read old new is NoMemoryToRead y z m a = record {
  turns = λ of x so_far. record { crash = (read_on of old is (Err NoMemoryToRead) x y z so_far a).crash; answer = tt };
}
not_read old new is AlreadyThere y z m a = absurd m
not_read old new is (NotAJournal count) y z m a = absurd m
not_read old new is (TornLayout at) y z m a = record {
  turns = λ of x so_far.
      let b = read_on of old is (Err (TornLayout at)) x y z so_far a in
      let o = b.so_far in
      let here : old.journal.place ≡ at = sym m.1 in
      record {
        crash = b.crash;
        answer = record {
          bytes = o.reading.bytes;
          read = read_as o.reading.bytes o.reading.bytes (x.now of) (y.now of) (z.now of) o.read b.same (sym b.same ∙ o.reading.is);
          front = o.entries;
          reaches = subst (Reaches o.reading.bytes o.entries) here o.reading.reaches;
          good = inr (holding old.held, o.recovers);
          cut = subst (IsCutShort (z.now of)) here b.answer;
        };
      };
}

-- ---- turns

pub no_turn : (o : Opened) (y : Contents) → Goes o o y y
no_turn o y = record { goes = λ of x so_far. so_far }

pub turn_more : (old mid new : Opened) (x y z : Contents) → Goes old mid x y → Turns mid new (Ok true) y z → Goes old new x z
turn_more old mid new x y z g t = record { goes = λ of w so_far. t.turns of w (g.goes of w so_far) }

pub turn_last : (old mid new : Opened) (x y z : Contents) → Goes old mid x y → Turns mid new (Ok false) y z → EndsTurns old new (Ok tt) x z
turn_last old mid new x y z g t = record { ends = λ of w so_far. t.turns of w (g.goes of w so_far) }

pub turn_refused : (old mid new : Opened) (why : OpenRefusal) (x y z : Contents) → Goes old mid x y → Turns mid new (Err why) y z → EndsTurns old new (Err why) x z
turn_refused old mid new why x y z g t = record { ends = λ of w so_far. t.turns of w (g.goes of w so_far) }

-- the whole
pub all_ended : (of : List ℕ) (old new : Opened) (x y z : Contents) → Reopens IsUnderWay of (Ok old) x y → EndsTurns old new (Ok tt) y z → Reopens IsAtEnd of (Ok new) x z
all_ended of old new x y z r e = e.ends of x r

pub all_refused : (of : List ℕ) (old new : Opened) (why : OpenRefusal) (x y z : Contents) → Reopens IsUnderWay of (Ok old) x y → EndsTurns old new (Err why) y z
    → Reopens IsAtEnd of (Err why) x z
all_refused of old new why x y z r e = e.ends of x r

pub not_begun_at_all : (of : List ℕ) (why : OpenRefusal) (x y : Contents) → Reopens IsUnderWay of (Err why) x y → Reopens IsAtEnd of (Err why) x y
not_begun_at_all of why x y r = record { crash = r.crash; answer = r.answer }

-- a count that rose in a later call
pub rose_later : (a b c : ℕ) → a ≤ b → Rose b c → Rose a c
rose_later a b c le rose = omega (arith, le, rose)

-- ---- as told

module _ (of : List ℕ) (found is : Journal) (at : found ≡ journal_at 8) (x y z : Option Contents) (f : WhereTold (Finds of (Ok found)) x y) where
  pub told_none : (o : Option Record) → o ≡ None → WhereTold (Advances found is (Ok o)) y z → WhereTold (Reopens IsUnderWay of (Err (Damaged 1))) x z
  told_none o e a = told_then (Finds of (Ok found)) (Advances found is (Ok None)) (Reopens IsUnderWay of (Err (Damaged 1))) x y z
      (λ u v w g b. none_begun of found found is 1 u v w g at b) f (subst (λ p. WhereTold (Advances found is (Ok p)) y z) e a)

  pub told_unread : (why : JournalRefusal) (r : OpenRefusal) → r ≡ open_refusal why → Moves (Err why) found is → WhereTold (Advances found is (Err why)) y z
      → WhereTold (Reopens IsUnderWay of (Err r)) x z
  told_unread why r e m a = subst (λ q. WhereTold (Reopens IsUnderWay of (Err q)) x z) (sym e)
      (told_then (Finds of (Ok found)) (Advances found is (Err why)) (Reopens IsUnderWay of (Err (open_refusal why))) x y z
      (λ u v w g b. not_begun of found found is why u v w g at m b) f a)

  pub told_begun : (o : Option Record) (r : Record) (held : Held) → o ≡ Some r → WhereTold (Advances found is (Ok o)) y z → Begins (entry_read r) (holding held)
      → WhereTold (Reopens IsUnderWay of (Ok (record { held = held; journal = is }))) x z
  told_begun o r held e a begins =
      told_then (Finds of (Ok found)) (Advances found is (Ok (Some r))) (Reopens IsUnderWay of (Ok (record { held = held; journal = is }))) x y z
      (λ u v w g b. first_begun of found found is r held u v w g at b begins) f (subst (λ p. WhereTold (Advances found is (Ok p)) y z) e a)

  pub told_refused : (o : Option Record) (r : Record) (why : OpenRefusal) → o ≡ Some r → WhereTold (Advances found is (Ok o)) y z → BeginsAs (entry_read r) (Err why)
      → WhereTold (Reopens IsUnderWay of (Err why)) x z
  told_refused o r why e a none =
      told_then (Finds of (Ok found)) (Advances found is (Ok (Some r))) (Reopens IsUnderWay of (Err why)) x y z
      (λ u v w g b. first_refused of found found is r why u v w g at b none) f (subst (λ p. WhereTold (Advances found is (Ok p)) y z) e a)

module _ (old : Opened) (is : Journal) (y z : Option Contents) where
  pub told_more : (o : Option Record) (r : Record) (held : Held) → o ≡ Some r → WhereTold (Advances old.journal is (Ok o)) y z
      → GoesOnAs (holding old.held) (entry_read r) (holding held) (Ok tt) → WhereTold (Turns old (record { held = held; journal = is }) (Ok true)) y z
  told_more o r held e a g = told_as (Advances old.journal is (Ok (Some r))) (Turns old (record { held = held; journal = is }) (Ok true)) y z
      (λ v w b. one_more old held is r v w b g.0 g.1) (subst (λ p. WhereTold (Advances old.journal is (Ok p)) y z) e a)

  pub told_no_more : OneDefinition → (o : Option Record) (r : Record) (new : Opened) (after : Holding) (why : OpenRefusal) → o ≡ Some r
      → WhereTold (Advances old.journal is (Ok o)) y z → GoesOnAs (holding old.held) (entry_read r) after (Err why) → WhereTold (Turns old new (Err why)) y z
  told_no_more law o r new after why e a g = told_as (Advances old.journal is (Ok (Some r))) (Turns old new (Err why)) y z
      (λ v w b. no_more law old new is r after why v w b g) (subst (λ p. WhereTold (Advances old.journal is (Ok p)) y z) e a)

  pub told_end : (o : Option Record) → o ≡ None → Moves (Ok o) old.journal is → WhereTold (Advances old.journal is (Ok o)) y z
      → WhereTold (Turns old (record { held = old.held; journal = is }) (Ok false)) y z
  told_end o e m a = told_as (Advances old.journal is (Ok None)) (Turns old (record { held = old.held; journal = is }) (Ok false)) y z
      (λ v w b. at_end old is v w (subst (λ p. Moves (Ok p) old.journal is) e m) b) (subst (λ p. WhereTold (Advances old.journal is (Ok p)) y z) e a)

  pub told_not_read : (new : Opened) (why : JournalRefusal) (r : OpenRefusal) → r ≡ open_refusal why → Moves (Err why) old.journal is
      → WhereTold (Advances old.journal is (Err why)) y z → WhereTold (Turns old new (Err r)) y z
  told_not_read new why r e m a = subst (λ q. WhereTold (Turns old new (Err q)) y z) (sym e)
      (told_as (Advances old.journal is (Err why)) (Turns old new (Err (open_refusal why))) y z (λ v w b. not_read old new is why v w m b) a)

-- ---- refusals

pub none_of_memory : {T : Type 0} (why : JournalRefusal) (r : OpenRefusal) → r ≡ open_refusal why → IsOpenRefusal {T = T} (Err r)
none_of_memory {T = T} why r is e = apart why (sym is ∙ ap (refusal_or r) e)
  where
    refusal_or : OpenRefusal → Result T OpenRefusal → OpenRefusal
    refusal_or other (Ok t) = other
    refusal_or other (Err x) = x

    apart : (w : JournalRefusal) → open_refusal w ≡ Unread NoMemoryToRead → ⊥
    apart DiskFault f = cc
    apart AlreadyThere f = cc
    apart (NotAJournal n) f = cc
    apart (TornLayout n) f = cc
    apart NoMemoryToRead f = cc

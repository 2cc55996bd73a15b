-- Answers of an App with a journal, put together of settling, acting and recording.
use Rattle.std.proofs.Common.{◌≡◌, inl, inr, refl, sym, ap, ◌∙◌, subst, ◌+◌, ◌-◌, ◌≤◌, [], ◌∷◌, ◌++◌, length, arith, Option, Some, None, Ok, Err, append_assoc}
use Rattle.std.specs.Prelude.{IsSome}
use Rattle.sheet_outside.specs.Moments.{Contents}
use Rattle.sheet_outside.specs.Told.{WhereTold}
use Rattle.sheet_outside.proofs.Telling.{told_then, told_as, told_same}
use Rattle.sheet_journal.specs.declared.journal.Settled.{Settled}
use Rattle.sheet_journal.specs.declared.journal.Settled.TheVariants.{In, Out}
use Rattle.sheet_journal.specs.Layout.{size}
use Rattle.sheet_journal.specs.Journal.{Journal}
use Rattle.sheet_journal.specs.JournalCalls.{Decides, Settles as Shifts}
use Rattle.sheet_requests.specs.declared.request.Request.{Request}
use Rattle.sheet_requests.specs.declared.reply.Reply.{Reply}
use Rattle.sheet_requests.specs.declared.reply.Reply.TheVariants as reply
use Rattle.sheet_requests.specs.declared.reply.Refusal.TheVariants as refused
use Rattle.sheet_machine_laws.specs.Leading.{Leads, in_doubt}
use Rattle.sheet_machine_laws.specs.Machine.{Holding, Doubt, Machine, sure}
use Rattle.sheet_machine_laws.specs.Step.{Took, Settles, nothing, in_journal, not_there, IsUnsettled as Unsettled, fault, memory, no_memory, Step, stays, goes_on}
use Rattle.sheet_machine_laws.specs.Sound.{IsSound}
use Rattle.sheet_machine_laws.proofs.Leading.{leads_on}
use Rattle.sheet_machine.specs.declared.held.Held.{Held}
use Rattle.sheet_machine.specs.declared.held.Pending.{Pending}
use Rattle.sheet_machine.specs.Becoming.{IsSure, IsInDoubt, IsBetween, IsSettled, IsUnsettled, IsActed}
use Rattle.sheet_machine.specs.Held.{holding, taken_in, left_out, doubt_of, machine_with, machine_of, if_taken_in, if_left_out}
use Rattle.sheet_machine.specs.Recording.{Records, spot_of, IsAnswered}
use Rattle.sheet_machine.specs.Recovering.{entry_of}
use Rattle.sheet_machine.proofs.Moments.{records_then, records_rest, settles_in, settles_out, settles_not}

-- ---- settling

not_some : (o : Option Pending) → o ≡ None → IsSome o → ⊥
not_some None e some = cc
not_some (Some p) e some = cc

pub is_in_doubt : (a : Held) (j : Journal) → IsBetween a j → IsSome a.pending → IsInDoubt a j
is_in_doubt a j (inl s) some = let is : a.pending ≡ None = s.ready.none in absurd (not_some a.pending is some)
is_in_doubt a j (inr d) some = d

pub is_sure : (a : Held) (j : Journal) → IsBetween a j → a.pending ≡ None → IsSure a j
is_sure a j (inl s) none = s
is_sure a j (inr d) none = let no : Some d.pending ≡ None = sym d.is ∙ none in cc

-- where nothing is in doubt
pub settled_at_once : (a : Held) (j : Journal) (disk : Option Contents) → IsSure a j → IsSettled a j a j disk disk
settled_at_once a j disk s =
    let e : sure (holding a) ≡ machine_of a = ap (machine_with a) (sym s.ready.none) in
    record {
      events = [];
      settles = subst (λ m. Settles m [] (holding a)) e (nothing (holding a));
      leads = subst (λ (m : Machine). Leads m.held (in_doubt m.doubt ++ []) (holding a)) e refl;
      sure = s;
      file = subst (λ (m : Machine). WhereTold (Records [] (spot_of j m) (record { place = j.place; doubt = None })) disk disk) e
          (told_same (Records [] (record { place = j.place; doubt = None }) (record { place = j.place; doubt = None })) disk
          (λ x. records_rest (record { place = j.place; doubt = None }) x (λ d e. cc)));
      book = refl;
    }

module _ (a : Held) (j : Journal) (disk later : Option Contents) (d : IsInDoubt a j) where
  abbrev p : Pending
  p = d.pending

  machine_is : machine_with a (Some p) ≡ machine_of a
  machine_is = ap (machine_with a) (sym d.is)

  -- the record is in the journal
  pub settled_in : (E : Type 0) (now : Held) (is : Journal) → holding now ≡ if_taken_in a a.pending → now.engine.state.earlier ≡ [] → now.pending ≡ None
      → j.doubt ≡ Some (is.place - j.place) → j.place ≤ is.place → is.doubt ≡ None
      → WhereTold (Decides {E = E} j.place j.doubt (Ok In)) disk later → IsSettled a j now is disk later
  settled_in E now is was settled none moves more sure_is file =
      let held : holding now ≡ taken_in a p = was ∙ ap (if_taken_in a) d.is in
      let by : Some (is.place - j.place) ≡ Some (size (entry_of p.line.items)) = sym moves ∙ d.doubt in
      let size_is : is.place - j.place ≡ size (entry_of p.line.items) = cc in
      let place : is.place ≡ j.place + size (entry_of p.line.items) = omega (arith, size_is, more) in
      let count = ap (λ (x : Holding). x.accepted) held in
      let room = d.room in
      let short = d.short in
      record {
        events = Took p.line.items ∷ [];
        settles = subst (λ m. Settles m (Took p.line.items ∷ []) (holding now)) machine_is
            (subst (Settles (machine_with a (Some p)) (Took p.line.items ∷ [])) (sym held) (in_journal (left_out a p) (doubt_of a p)));
        leads = subst (λ (m : Machine). Leads m.held (in_doubt m.doubt ++ Took p.line.items ∷ []) (holding now)) machine_is
            (taken_in a p, d.accepts, (taken_in a p, d.accepts, held));
        sure = record {
          ready = record { sound = subst IsSound (sym held) d.with_it; settled = settled; none = none };
          sure = sure_is;
          room = omega (arith, room, short, count, place);
        };
        file = subst (λ (m : Machine). WhereTold (Records (Took p.line.items ∷ []) (spot_of j m) (record { place = is.place; doubt = None })) disk later) machine_is
            (subst (λ n. WhereTold (Records (Took p.line.items ∷ []) (record { place = j.place; doubt = Some (doubt_of a p) }) (record { place = n; doubt = None })) disk later)
            (sym place)
            (told_as (Decides {E = E} j.place j.doubt (Ok In))
            (Records (Took p.line.items ∷ []) (record { place = j.place; doubt = Some (doubt_of a p) })
            (record { place = j.place + size (entry_of p.line.items); doubt = None })) disk later
            (λ x y w. settles_in (doubt_of a p) j.place j.doubt d.doubt (omega (arith, short)) x y w) file));
        book = ap (λ (x : Holding). x.book) held;
      }

  pub settled_as_in : (E : Type 0) (s : Settled) (now : Held) (is : Journal) → s ≡ In → holding now ≡ if_taken_in a a.pending → now.engine.state.earlier ≡ []
      → now.pending ≡ None → Shifts {E = E} (Ok s) j is → WhereTold (Decides {E = E} j.place j.doubt (Ok s)) disk later → IsSettled a j now is disk later
  settled_as_in E s now is e was settled none shifts file =
      let moved : Shifts {E = E} (Ok In) j is = subst (λ t. Shifts {E = E} (Ok t) j is) e shifts in
      settled_in E now is was settled none moved.0 moved.1 moved.2 (subst (λ t. WhereTold (Decides {E = E} j.place j.doubt (Ok t)) disk later) e file)

  -- it isn't
  pub settled_out : (E : Type 0) (now : Held) (is : Journal) → holding now ≡ if_left_out a a.pending → now.engine.state.earlier ≡ [] → now.pending ≡ None
      → is.place ≡ j.place → is.doubt ≡ None → WhereTold (Decides {E = E} j.place j.doubt (Ok Out)) disk later → IsSettled a j now is disk later
  settled_out E now is was settled none place sure_is file =
      let held : holding now ≡ left_out a p = was ∙ ap (if_left_out a) d.is in
      let count = ap (λ (x : Holding). x.accepted) held in
      let room = d.room in
      let short = d.short in
      record {
        events = [];
        settles = subst (λ m. Settles m [] (holding now)) machine_is (subst (Settles (machine_with a (Some p)) []) (sym held) (not_there (left_out a p) (doubt_of a p)));
        leads = subst (λ (m : Machine). Leads m.held (in_doubt m.doubt ++ []) (holding now)) machine_is (taken_in a p, d.accepts, held);
        sure = record {
          ready = record { sound = subst IsSound (sym held) d.without; settled = settled; none = none };
          sure = sure_is;
          room = omega (arith, room, count, place);
        };
        file = subst (λ (m : Machine). WhereTold (Records [] (spot_of j m) (record { place = is.place; doubt = None })) disk later) machine_is
            (subst (λ n. WhereTold (Records [] (record { place = j.place; doubt = Some (doubt_of a p) }) (record { place = n; doubt = None })) disk later) (sym place)
            (told_as (Decides {E = E} j.place j.doubt (Ok Out))
            (Records [] (record { place = j.place; doubt = Some (doubt_of a p) }) (record { place = j.place; doubt = None })) disk later
            (λ x y w. settles_out (doubt_of a p) j.place j.doubt d.doubt (omega (arith, short)) x y w) file));
        book = ap (λ (x : Holding). x.book) held;
      }

  pub settled_as_out : (E : Type 0) (s : Settled) (now : Held) (is : Journal) → s ≡ Out → holding now ≡ if_left_out a a.pending → now.engine.state.earlier ≡ []
      → now.pending ≡ None → Shifts {E = E} (Ok s) j is → WhereTold (Decides {E = E} j.place j.doubt (Ok s)) disk later → IsSettled a j now is disk later
  settled_as_out E s now is e was settled none shifts file =
      let moved : Shifts {E = E} (Ok Out) j is = subst (λ t. Shifts {E = E} (Ok t) j is) e shifts in
      settled_out E now is was settled none moved.0 moved.1 (subst (λ t. WhereTold (Decides {E = E} j.place j.doubt (Ok t)) disk later) e file)

  -- it couldn't be told
  pub settled_not : {E : Type 0} (e : E) (is : Journal) → is ≡ j → WhereTold (Decides j.place j.doubt (Err e)) disk later → IsUnsettled a j a is disk later
  settled_not e is same file =
      let short = d.short in
      record {
        doubt = d;
        held = refl;
        journal = same;
        file = subst (λ (m : Machine). WhereTold (Records [] (spot_of j m) (spot_of j m)) disk later) machine_is
            (told_as (Decides j.place j.doubt (Err e))
            (Records [] (record { place = j.place; doubt = Some (doubt_of a p) }) (record { place = j.place; doubt = Some (doubt_of a p) })) disk later
            (λ x y w. settles_not (doubt_of a p) j.place j.doubt d.doubt (omega (arith, short)) x y e w) file);
      }

-- ---- answers

-- settled, and then acted
pub is_answered : (a : Held) (j : Journal) (mid : Held) (mid_j : Journal) (now : Held) (is : Journal) (q : Request) (r : Reply) (disk between later : Option Contents)
    → IsSettled a j mid mid_j disk between → IsActed (holding mid) mid_j q r now is between later
    → IsAnswered (machine_of a) j q r (machine_of now) is disk later
is_answered a j mid mid_j now is q r disk between later s t = record {
  events = s.events ++ t.events;
  step = goes_on s.events t.events (holding mid) r (machine_of now) s.settles t.acts;
  leads = subst (λ es. Leads (machine_of a).held es (machine_of now).held) (append_assoc (in_doubt (machine_of a).doubt) s.events t.events)
      (leads_on (machine_of a).held (holding mid) (machine_of now).held (in_doubt (machine_of a).doubt ++ s.events) t.events s.leads t.leads);
  file = told_then (Records s.events (spot_of j (machine_of a)) (record { place = mid_j.place; doubt = None }))
      (Records t.events (record { place = mid_j.place; doubt = None }) (spot_of is (machine_of now)))
      (Records (s.events ++ t.events) (spot_of j (machine_of a)) (spot_of is (machine_of now))) disk between later
      (λ x y z u v. records_then s.events t.events (spot_of j (machine_of a)) (record { place = mid_j.place; doubt = None }) (spot_of is (machine_of now)) x y z refl u v)
      s.file t.file;
}

-- where an older one stays in doubt
pub stays_in_doubt : (a : Held) (j : Journal) (q : Request) (r : Reply) (disk later : Option Contents) → IsInDoubt a j → Unsettled r
    → WhereTold (Records [] (spot_of j (machine_of a)) (spot_of j (machine_of a))) disk later → IsAnswered (machine_of a) j q r (machine_of a) j disk later
stays_in_doubt a j q r disk later d why file =
    let e : machine_with a (Some d.pending) ≡ machine_of a = ap (machine_with a) (sym d.is) in
    record {
      events = [];
      step = stays (doubt_of a d.pending) r (ap (λ (m : Machine). m.doubt) (sym e)) why;
      leads = subst (λ (m : Machine). Leads m.held (in_doubt m.doubt ++ []) m.held) e (taken_in a d.pending, d.accepts, refl);
      file = file;
    }

-- where there is no memory for the bytes of an answer
pub is_starved_at_once : (a : Held) (j : Journal) (q : Request) (disk : Option Contents) → IsBetween a j
    → IsAnswered (machine_of a) j q (reply.Refused refused.NoMemory) (machine_of a) j disk disk
is_starved_at_once a j q disk (inr d) =
    let e : machine_with a (Some d.pending) ≡ machine_of a = ap (machine_with a) (sym d.is) in
    let short = d.short in
    stays_in_doubt a j q (reply.Refused refused.NoMemory) disk disk d memory
    (subst (λ (m : Machine). WhereTold (Records [] (spot_of j m) (spot_of j m)) disk disk) e
    (told_same (Records [] (record { place = j.place; doubt = Some (doubt_of a d.pending) }) (record { place = j.place; doubt = Some (doubt_of a d.pending) })) disk
    (λ x. records_rest (record { place = j.place; doubt = Some (doubt_of a d.pending) }) x (λ f is. of_doubt f is))))
  where
    of_doubt : (f : Doubt) → Some (doubt_of a d.pending) ≡ Some f → length f.line ≤ 1048576
    of_doubt f is = let same : doubt_of a d.pending ≡ f = cc in subst (λ (g : Doubt). length g.line ≤ 1048576) same (omega (arith, d.short))
is_starved_at_once a j q disk (inl s) =
    let e : sure (holding a) ≡ machine_of a = ap (machine_with a) (sym s.ready.none) in
    record {
      events = [];
      step = subst (λ m. Step m q (reply.Refused refused.NoMemory) [] m) e
          (goes_on [] [] (holding a) (reply.Refused refused.NoMemory) (sure (holding a)) (nothing (holding a)) no_memory);
      leads = subst (λ (m : Machine). Leads m.held (in_doubt m.doubt ++ []) m.held) e refl;
      file = subst (λ (m : Machine). WhereTold (Records [] (spot_of j m) (spot_of j m)) disk disk) e
          (told_same (Records [] (record { place = j.place; doubt = None }) (record { place = j.place; doubt = None })) disk
          (λ x. records_rest (record { place = j.place; doubt = None }) x (λ d f. cc)));
    }

pub is_unsettled : (a : Held) (j : Journal) (now : Held) (is : Journal) (q : Request) (disk later : Option Contents) → IsUnsettled a j now is disk later
    → IsAnswered (machine_of a) j q (reply.Refused refused.DiskFault) (machine_of now) is disk later
is_unsettled a j now is q disk later u =
    subst (λ x. IsAnswered (machine_of a) j q (reply.Refused refused.DiskFault) (machine_of x) is disk later) (sym u.held)
    (subst (λ x. IsAnswered (machine_of a) j q (reply.Refused refused.DiskFault) (machine_of a) x disk later) (sym u.journal)
    (stays_in_doubt a j q (reply.Refused refused.DiskFault) disk later u.doubt fault u.file))

-- the columns are the book's, whether a request is pending or not
pub columns_are : (a : Held) → a.engine.book.columns ≡ (machine_of a).held.book.columns
columns_are a = by_pending a.pending
  where
    by_pending : (o : Option Pending) → a.engine.book.columns ≡ (machine_with a o).held.book.columns
    by_pending None = refl
    by_pending (Some p) = refl

-- where nothing is in doubt, the machine is what is held
pub held_is : (a : Held) → (machine_of a).doubt ≡ None → (machine_of a).held ≡ holding a
held_is a = by_pending a.pending
  where
    by_pending : (o : Option Pending) → (machine_with a o).doubt ≡ None → (machine_with a o).held ≡ holding a
    by_pending None e = refl
    by_pending (Some p) e = cc

-- What a request comes to, by what it gave and what became of its record.
use Rattle.std.proofs.Common.{◌≡◌, ◌⊎◌, inl, inr, refl, sym, ap, ◌∙◌, subst, ℕ, ◌+◌, ◌*◌, ◌≤◌, true, false, List, [], ◌∷◌, length, arith, Option, Some, None, Ok}
use Rattle.std.specs.Prelude.{IsSome, IfSome}
use Rattle.sheet_outside.specs.Moments.{Contents}
use Rattle.sheet_outside.specs.Told.{WhereTold}
use Rattle.sheet_outside.proofs.Telling.{told_same}
use Rattle.sheet_journal.specs.Layout.{size}
use Rattle.sheet_journal.specs.Journal.{Journal}
use Rattle.sheet_columns.specs.declared.tree.Node.{Node}
use Rattle.sheet_requests.specs.Lines.{request_line}
use Rattle.sheet_requests.specs.Reading.{ReadsAs}
use Rattle.sheet_requests.specs.declared.request.Request.{Request}
use Rattle.sheet_requests.specs.declared.request.Route.TheVariants.{Line}
use Rattle.sheet_requests.specs.declared.reply.Reply.{Reply}
use Rattle.sheet_requests.specs.declared.reply.Reply.TheVariants as reply
use Rattle.sheet_requests.specs.declared.reply.Refusal.TheVariants as refused
use Rattle.sheet_callers.specs.Callers.{Caller, caller_at}
use Rattle.sheet_callers.specs.Judging.{IsNext}
use Rattle.sheet_machine_laws.specs.Act.{act}
use Rattle.sheet_machine_laws.specs.Judging.{Acted}
use Rattle.sheet_machine_laws.specs.Leading.{Accepts}
use Rattle.sheet_machine_laws.specs.Machine.{Holding, Machine, sure}
use Rattle.sheet_machine_laws.specs.Ranges.{IsInRange}
use Rattle.sheet_machine_laws.specs.Sound.{IsSound}
use Rattle.sheet_machine_laws.specs.Staying.{SoundStays}
use Rattle.sheet_machine_laws.specs.Step.{is_accepted, Took, Doubted, took, Acts, acts, no_memory, disk_fault}
use Rattle.sheet_machine_laws.specs.Unchanged.{HoldsSame, OnlyAcceptedChange}
use Rattle.sheet_machine_laws.proofs.Leading.{kept_line}
use Rattle.sheet_machine.specs.declared.answered.Answered.{Answered}
use Rattle.sheet_machine.specs.declared.held.Held.{Held}
use Rattle.sheet_machine.specs.declared.held.Pending.{Pending}
use Rattle.sheet_machine.specs.declared.recording.Recorded.{Recorded}
use Rattle.sheet_machine.specs.declared.recording.Recorded.TheVariants.{TakenIn, InDoubt, LeftOut}
use Rattle.sheet_machine.specs.Becoming.{IsInDoubt, CanRecord, TakesIn, ComesIntoDoubt, IsLeft, Becomes, IsChosen, IsActed}
use Rattle.sheet_machine.specs.Told.{told}
use Rattle.sheet_machine.specs.Gives.{Settles, Suspends}
use Rattle.sheet_machine.specs.Held.{holding, taken_in, left_out, doubt_of, machine_with, machine_of, IsPending, IsReady}
use Rattle.sheet_machine.specs.Recording.{Records, spot_of}
use Rattle.sheet_machine.specs.Recovering.{entry_of}
use Rattle.sheet_machine.proofs.Moments.{records_rest}

took_none : (q : Request) (r : Reply) → is_accepted r ≡ false → took q r ≡ []
took_none q r e = rw e refl

took_one : (q : Request) (r : Reply) → is_accepted r ≡ true → took q r ≡ Took (request_line q) ∷ []
took_one q r e = rw e refl

-- what was given, by whether a request is pending
pub settled_of : (x : Acted) (h : Holding) (new : Held) (a : Answered) → Settles x new a ⊎ Suspends x h new a → new.pending ≡ None → Settles x new a
settled_of x h new a (inl s) none = s
settled_of x h new a (inr s) none = let none_is : Some s.pending ≡ None = sym s.is ∙ none in cc

not_some : (o : Option Pending) → o ≡ None → IsSome o → ⊥
not_some None e some = cc
not_some (Some p) e some = cc

pub suspended_of : (x : Acted) (h : Holding) (new : Held) (a : Answered) → Settles x new a ⊎ Suspends x h new a → IsSome new.pending → Suspends x h new a
suspended_of x h new a (inl s) some = absurd (not_some new.pending s.none some)
suspended_of x h new a (inr s) some = s

-- the same is held
same_held : (a b : Held) → HoldsSame (holding a) (holding b) → holding a ≡ holding b
same_held a b s =
    ap (λ x. record (holding a) { book = x }) s.book ∙ ap (λ x. record (holding a) { book = b.engine.book; state = x }) s.state
    ∙ ap (λ x. record (holding b) { callers = x; accepted = a.accepted }) s.callers ∙ ap (λ n. record (holding b) { accepted = n }) s.accepted

-- where nothing is pending the machine is sure
sure_is : (new : Held) (h : Holding) → new.pending ≡ None → holding new ≡ h → sure h ≡ machine_of new
sure_is new h none is = ap sure (sym is) ∙ ap (machine_with new) (sym none)

spot_is : (new : Held) (j : Journal) (h : Holding) (place : ℕ) → new.pending ≡ None → holding new ≡ h → j.place ≡ place
    → record { place = place; doubt = None } ≡ spot_of j (machine_of new)
spot_is new j h place none is at =
    ap (λ (n : ℕ). record { place = n; doubt = None }) (sym at) ∙ ap (λ (m : Machine). record { place = j.place; doubt = m.doubt }) (sure_is new h none is)

-- the line of an accepted request is short
pub short_line : (new : Held) (p : Pending) → IsPending new p → IsSound (taken_in new p) → length p.line.items ≤ 1000000
short_line new p can sound = by_caller (caller_at new.callers p.caller) refl can.next
  where
    by_caller : (o : Option Caller) → caller_at new.callers p.caller ≡ o → IsNext o p.number → length p.line.items ≤ 1000000
    by_caller None e next = absurd next
    by_caller (Some c) e next = kept_line (taken_in new p) new.callers p.caller c p.number p.line.items p.kept e sound.each

module _ (before : Held) (q : Request) (j : Journal) (ready : IsReady before) (sure_j : j.doubt ≡ None) (room : j.place ≤ 9223372036854775807 + 1048582 * before.accepted) where
  abbrev h : Holding
  h = holding before

  -- nothing has changed, for want of memory
  pub is_starved : (new : Held) (is : Journal) (disk : Option Contents) → holding new ≡ h → new.engine.state.earlier ≡ [] → new.pending ≡ None → is.place ≡ j.place
      → is.doubt ≡ None → IsActed h j q (reply.Refused refused.NoMemory) new is disk disk
  is_starved new is disk same settled none place sure_is_j =
      let count = ap (λ (x : Holding). x.accepted) same in
      record {
        events = [];
        acts = subst (Acts h q (reply.Refused refused.NoMemory) []) (sure_is new h none same) no_memory;
        leads = ap (λ (m : Machine). m.held) (sym (sure_is new h none same));
        between = inl (record {
          ready = record { sound = subst IsSound (sym same) ready.sound; settled = settled; none = none };
          sure = sure_is_j;
          room = omega (arith, room, count, place);
        });
        file = subst (λ s. WhereTold (Records [] (record { place = j.place; doubt = None }) s) disk disk) (spot_is new is h j.place none same place)
            (told_same (Records [] (record { place = j.place; doubt = None }) (record { place = j.place; doubt = None })) disk
            (λ x. records_rest (record { place = j.place; doubt = None }) x (λ d e. cc)));
      }

  module _ (law : OnlyAcceptedChange) (stay : SoundStays) (range : IsInRange q) where
    -- a request that isn't accepted
    pub is_refused : (new : Held) (a : Answered) (disk : Option Contents) → Settles (act h q) new a → IsActed h j q a.reply new j disk disk
    is_refused new a disk s =
        let whole : HoldsSame (holding new) h =
        subst (λ (x : Acted). HoldsSame x.0 h) s.acts (law h q (ap (λ (x : Acted). is_accepted x.1) s.acts ∙ s.refused)) in
        let same : holding new ≡ h = same_held new before whole in
        let count = ap (λ (x : Holding). x.accepted) same in
        let step : Acts h q a.reply (took q a.reply) (sure (holding new)) = subst (λ (x : Acted). Acts h q x.1 (took q x.1) (sure x.0)) s.acts acts in
        record {
          events = [];
          acts = subst (Acts h q a.reply []) (sure_is new (holding new) s.none refl)
              (subst (λ es. Acts h q a.reply es (sure (holding new))) (took_none q a.reply s.refused) step);
          leads = ap (λ (m : Machine). m.held) (sym (sure_is new (holding new) s.none refl)) ∙ same;
          between = inl (record {
            ready = record { sound = subst IsSound (sym same) ready.sound; settled = s.settled; none = s.none };
            sure = sure_j;
            room = omega (arith, room, count);
          });
          file = subst (λ t. WhereTold (Records [] (record { place = j.place; doubt = None }) t) disk disk) (spot_is new j (holding new) j.place s.none refl refl)
              (told_same (Records [] (record { place = j.place; doubt = None }) (record { place = j.place; doubt = None })) disk
              (λ x. records_rest (record { place = j.place; doubt = None }) x (λ d e. cc)));
        }

    module _ (mid : Held) (a : Answered) (s : Suspends (act h q) h mid a) (line_is : s.pending.line.items ≡ request_line q)
        (reads : ReadsAs Line s.pending.line.items (Ok q)) where
      abbrev p : Pending
      p = s.pending

      after : taken_in mid p ≡ (act h q).0
      after = ap (λ (x : Acted). x.0) (sym s.acts)

      accepted : is_accepted (act h q).1 ≡ true
      accepted = ap (λ (x : Acted). is_accepted x.1) s.acts ∙ s.accepted

      accepts : Accepts h p.line.items (taken_in mid p)
      accepts = record { request = q; reads = reads; accepted = accepted; is = after }

      sound_in : IsSound (taken_in mid p)
      sound_in = subst IsSound (sym after) (stay h q ready.sound range)

      count : mid.accepted ≡ before.accepted
      count = ap (λ (x : Holding). x.accepted) s.was

      pub can_be_short : length p.line.items ≤ 1000000
      can_be_short = short_line mid p s.can sound_in

      -- its record is on the disk
      pub is_taken : (new : Held) (is : Journal) (disk later : Option Contents) → TakesIn p mid j new is disk later → IsActed h j q a.reply new is disk later
      is_taken new is disk later t =
          let step : Acts h q a.reply (took q a.reply) (sure (taken_in mid p)) = subst (λ (x : Acted). Acts h q x.1 (took q x.1) (sure x.0)) s.acts acts in
          let more = ap (λ (x : Holding). x.accepted) t.held in
          let short = can_be_short in
          let same = count in
          record {
            events = Took p.line.items ∷ [];
            acts = subst (λ l. Acts h q a.reply (Took l ∷ []) (machine_of new)) (sym line_is)
                (subst (Acts h q a.reply (Took (request_line q) ∷ [])) (sure_is new (taken_in mid p) t.none t.held)
                (subst (λ es. Acts h q a.reply es (sure (taken_in mid p))) (took_one q a.reply s.accepted) step));
            leads = (taken_in mid p, accepts, ap (λ (m : Machine). m.held) (sym (sure_is new (taken_in mid p) t.none t.held)));
            between = inl (record {
              ready = record { sound = subst IsSound (sym t.held) sound_in; settled = t.settled; none = t.none };
              sure = t.sure;
              room = omega (arith, room, more, same, short, t.place);
            });
            file = subst (λ n. WhereTold (Records (Took p.line.items ∷ []) (record { place = j.place; doubt = None }) n) disk later)
                (spot_is new is (taken_in mid p) is.place t.none t.held refl) t.file;
          }

      -- it may be on the disk
      pub is_in_doubt : (new : Held) (is : Journal) (disk later : Option Contents) → ComesIntoDoubt p mid j new is disk later
          → IsActed h j q (reply.Refused refused.DiskFault) new is disk later
      is_in_doubt new is disk later t =
          let short = can_be_short in
          let same = count in
          let pending : new.pending ≡ Some p = ap (λ (x : Held). x.pending) t.same ∙ s.is in
          let machine : machine_with mid (Some p) ≡ machine_of new = ap (λ x. machine_with x (Some p)) (sym t.same) ∙ ap (machine_with new) (sym pending) in
          let out : left_out mid p ≡ h = s.was in
          record {
            events = Doubted p.line.items ∷ [];
            acts = subst (Acts h q (reply.Refused refused.DiskFault) (Doubted p.line.items ∷ [])) machine
                (subst (λ x. Acts h q (reply.Refused refused.DiskFault) (Doubted p.line.items ∷ []) (record { held = x; doubt = Some (doubt_of mid p) })) (sym out)
                (subst (λ x. Acts h q (reply.Refused refused.DiskFault) (Doubted p.line.items ∷ [])
                (record { held = h; doubt = Some (record { line = p.line.items; held = x }) })) (sym after)
                (subst (λ l. Acts h q (reply.Refused refused.DiskFault) (Doubted l ∷ []) (record { held = h; doubt = Some (record { line = l; held = (act h q).0 }) }))
                (sym line_is) (disk_fault accepted))));
            leads = (taken_in mid p, accepts, ap (λ (m : Machine). m.held) (sym machine) ∙ out);
            between = inr (in_doubt_now new is (sym t.same) t.doubt t.place);
            file = subst (λ (m : Machine). WhereTold (Records (Doubted p.line.items ∷ []) (record { place = j.place; doubt = None }) (record { place = is.place; doubt = m.doubt })) disk later)
                machine t.file;
          }
        where
          in_doubt_now : (new : Held) (is : Journal) → mid ≡ new → is.doubt ≡ Some (size (entry_of p.line.items)) → is.place ≡ j.place → IsInDoubt new is
          in_doubt_now new is e doubt place = subst (λ x. IsInDoubt x is) e (record {
            pending = p;
            is = s.is;
            can = s.can;
            without = subst IsSound (sym s.was) ready.sound;
            with_it = sound_in;
            accepts = subst (λ x. Accepts x p.line.items (taken_in mid p)) (sym s.was) accepts;
            short = can_be_short;
            doubt = doubt;
            room = omega (arith, room, count, place);
          })

      -- there was no memory for it
      pub is_left : (new : Held) (is : Journal) (disk later : Option Contents) → IsLeft p mid j new is disk later
          → IsActed h j q (reply.Refused refused.NoMemory) new is disk later
      is_left new is disk later t =
          subst (λ x. IsActed h j q (reply.Refused refused.NoMemory) new is disk x) (sym t.same)
          (is_starved new is disk (t.held ∙ s.was) t.settled t.none t.place t.sure)

      -- its record can be written
      pub can_be_recorded : IfSome mid.pending (λ r. CanRecord mid r j)
      can_be_recorded =
          let same = count in
          let few = ready.sound.few in
          subst (λ (o : Option Pending). IfSome o (λ r. CanRecord mid r j)) (sym s.is)
          (record { can = s.can; short = can_be_short; sure = sure_j; room = omega (arith, room, few) })

      -- by what became of it
      pub is_chosen : (new : Held) (is : Journal) (disk later : Option Contents) (r : Recorded) (f b : Answered)
          → IfSome mid.pending (λ x. Becomes r x mid j new is disk later) → IsChosen r a f b → f.reply ≡ reply.Refused refused.DiskFault
          → IsActed h j q b.reply new is disk later
      is_chosen new is disk later r f b became chosen fault =
          by_outcome r (subst (λ (o : Option Pending). IfSome o (λ x. Becomes r x mid j new is disk later)) s.is became) chosen
        where
          by_outcome : (r : Recorded) → Becomes r s.pending mid j new is disk later → IsChosen r a f b → IsActed h j q b.reply new is disk later
          by_outcome TakenIn t e = subst (λ (x : Answered). IsActed h j q x.reply new is disk later) (sym e) (is_taken new is disk later t)
          by_outcome InDoubt t e =
              subst (λ x. IsActed h j q x new is disk later) (sym (ap (λ (x : Answered). x.reply) e ∙ fault)) (is_in_doubt new is disk later t)
          by_outcome LeftOut t e = subst (λ x. IsActed h j q x new is disk later) (sym e.0) (is_left new is disk later t)

-- the body of what is answered
pub chosen_body : (r : Recorded) (a f b : Answered) (nodes : List Node) → IsChosen r a f b → a.body.items ≡ told nodes a.reply → f.body.items ≡ told nodes f.reply
    → b.body.items ≡ told nodes b.reply
chosen_body TakenIn a f b nodes e one other = subst (λ (x : Answered). x.body.items ≡ told nodes x.reply) (sym e) one
chosen_body InDoubt a f b nodes e one other = subst (λ (x : Answered). x.body.items ≡ told nodes x.reply) (sym e) other
chosen_body LeftOut a f b nodes e one other = e.1 ∙ sym (ap (told nodes) e.0)

-- a fault of the disk is answered only where the record came into doubt
pub chosen_fault : (r : Recorded) (a f b : Answered) → IsChosen r a f b → (a.reply ≡ reply.Refused refused.DiskFault → ⊥) → b.reply ≡ reply.Refused refused.DiskFault → r ≡ InDoubt
chosen_fault TakenIn a f b e isnt is = absurd (isnt (sym (ap (λ (x : Answered). x.reply) e) ∙ is))
chosen_fault InDoubt a f b e isnt is = refl
chosen_fault LeftOut a f b e isnt is = let wrong : reply.Refused refused.NoMemory ≡ reply.Refused refused.DiskFault = sym e.0 ∙ is in cc

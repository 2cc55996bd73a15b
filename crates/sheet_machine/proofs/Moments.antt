-- How the file of an App's journal goes on.
use Rattle.std.proofs.Common.{◌≡◌, inl, inr, refl, sym, ap, ◌∙◌, subst, ℕ, ◌+◌, ◌≤◌, List, [], ◌∷◌, ◌++◌, length, Option, Some, None, Ok, Err, append_assoc}
use Rattle.std.proofs.lemmas.List.{append-nil}
use Rattle.sheet_outside.specs.Crash.{File}
use Rattle.sheet_outside.specs.Moments.{Contents}
use Rattle.sheet_outside.proofs.Passing.{no_call}
use Rattle.sheet_journal.specs.declared.journal.Settled.TheVariants.{In, Out}
use Rattle.sheet_journal.specs.Layout.{Entry, limit, size, IsImage, IsOldOrNew}
use Rattle.sheet_journal.specs.Journal.{staged_of, HasBytes, Whatever, IsUndecided}
use Rattle.sheet_journal.specs.JournalCalls.{IsKept, Keeps, Appends, Decides}
use Rattle.sheet_machine_laws.specs.Leading.{MayStand, in_doubt}
use Rattle.sheet_machine_laws.specs.Machine.{Doubt}
use Rattle.sheet_machine_laws.specs.Step.{Event, Took, Doubted, taken}
use Rattle.sheet_machine_laws.proofs.Leading.{taken_both, none_may_stand, may_stand_yet, may_stand_behind}
use Rattle.sheet_machine.specs.Recovering.{entry_of, entries_of}
use Rattle.sheet_machine.specs.Recording.{Spot, Holds, holds, IsMoment, Records}
use Rattle.sheet_machine.proofs.JournalFiles.{keeps_then, whatever_as, bytes_as, crash_as, rest_whatever, old_or_new}

pub entries_both : (a b : List (List ℕ)) → entries_of (a ++ b) ≡ entries_of a ++ entries_of b
entries_both [] b = refl
entries_both (line ∷ a) b = ap (λ es. entry_of line ∷ es) (entries_both a b)

-- ---- moments

old_moment : (entries : List Entry) (events : List Event) (bytes : List ℕ) → IsImage bytes entries → IsMoment entries events bytes
old_moment entries events bytes image = record { lines = []; may = none_may_stand events; image = subst (IsImage bytes) (sym (append-nil entries)) image }

one_moment : (entries : List Entry) (line : List ℕ) (events : List Event) (bytes : List ℕ) → MayStand events (line ∷ []) → IsOldOrNew entries (entry_of line) bytes
    → IsMoment entries events bytes
one_moment entries line events bytes may (inl image) = old_moment entries events bytes image
one_moment entries line events bytes may (inr image) = record { lines = line ∷ []; may = may; image = image }

doubt_takes_none : (d : Option Doubt) (es : List Event) → taken (in_doubt d ++ es) ≡ taken es
doubt_takes_none None es = refl
doubt_takes_none (Some d) es = refl

-- ---- calls one behind another

module _ (es fs : List Event) (a b c : Spot) (x y z : Contents) (sure : b.doubt ≡ None) (r : Records es a b x y) (s : Records fs b c y z) where
  yet : (entries : List Entry) (bytes : List ℕ) → IsMoment entries (in_doubt a.doubt ++ es) bytes → IsMoment entries (in_doubt a.doubt ++ (es ++ fs)) bytes
  yet entries bytes m = record {
    lines = m.lines;
    may = subst (λ events. MayStand events m.lines) (append_assoc (in_doubt a.doubt) es fs) (may_stand_yet (in_doubt a.doubt ++ es) fs m.lines m.may);
    image = m.image;
  }

  behind : (entries : List Entry) (bytes : List ℕ) → IsMoment (entries ++ entries_of (taken es)) (in_doubt b.doubt ++ fs) bytes
      → IsMoment entries (in_doubt a.doubt ++ (es ++ fs)) bytes
  behind entries bytes m =
      let may : MayStand fs m.lines = subst (λ d. MayStand (in_doubt d ++ fs) m.lines) sure m.may in
      record {
        lines = taken es ++ m.lines;
        may = subst (λ events. MayStand events (taken es ++ m.lines)) (append_assoc (in_doubt a.doubt) es fs)
            (subst (λ lines. MayStand ((in_doubt a.doubt ++ es) ++ fs) (lines ++ m.lines)) (doubt_takes_none a.doubt es)
            (may_stand_behind (in_doubt a.doubt ++ es) fs m.lines may));
        image = subst (IsImage bytes) (append_assoc entries (entries_of (taken es)) (entries_of m.lines)
            ∙ ap (λ l. entries ++ l) (sym (entries_both (taken es) m.lines))) m.image;
      }

  pub records_then : Records (es ++ fs) a c x z
  records_then = record {
    others = keeps_then x.name (λ file. Unit {0}) x y z r.others s.others;
    journal = λ entries there.
        let first = r.journal entries there in
        let mid = entries ++ entries_of (taken es) in
        let second = s.journal mid (subst (λ n. Holds b mid (y.now n)) (sym r.others.name) first.file) in
        record {
          crash = keeps_then x.name (Whatever (HasBytes (IsMoment entries (in_doubt a.doubt ++ (es ++ fs))))) x y z
              (crash_as x.name (IsMoment entries (in_doubt a.doubt ++ es)) (IsMoment entries (in_doubt a.doubt ++ (es ++ fs))) x y (yet entries) first.crash)
              (crash_as y.name (IsMoment mid (in_doubt b.doubt ++ fs)) (IsMoment entries (in_doubt a.doubt ++ (es ++ fs))) y z (behind entries) second.crash);
          file = subst (λ n. Holds c (entries ++ entries_of (taken (es ++ fs))) (z.now n)) r.others.name
              (subst (λ l. Holds c l (z.now y.name))
              (append_assoc entries (entries_of (taken es)) (entries_of (taken fs)) ∙ ap (λ l. entries ++ l) (sym (entries_both (taken es) (taken fs)))
              ∙ ap (λ l. entries ++ entries_of l) (sym (taken_both es fs))) second.file);
        };
  }

-- ---- no call

stays : (x : Contents) (Q : Option File → Type 0) → Q (x.now x.name) → Keeps x.name Q x x
stays x Q q = record { name = refl; moments = no_call (IsKept x.name Q x) x (q, λ other ne. refl) }

moment_now : (place : ℕ) (d : Option Doubt) (entries : List Entry) (file : Option File) → ((e : Doubt) → d ≡ Some e → length e.line ≤ limit)
    → holds place d entries file → Whatever (HasBytes (IsMoment entries (in_doubt d ++ []))) file
moment_now place None entries file short ready =
    subst (Whatever (HasBytes (IsMoment entries []))) (sym ready.is)
    (rest_whatever (IsMoment entries []) ready.bytes (old_moment entries [] ready.bytes (place, ready.ends)))
moment_now place (Some d) entries file short u =
    whatever_as (HasBytes (IsUndecided entries (entry_of d.line) place)) (HasBytes (IsMoment entries (Doubted d.line ∷ [])))
    (bytes_as (IsUndecided entries (entry_of d.line) place) (IsMoment entries (Doubted d.line ∷ []))
    (λ bytes w. one_moment entries d.line (Doubted d.line ∷ []) bytes (inl refl) (old_or_new entries place (entry_of d.line) (short d refl) bytes w))) file u

pub records_rest : (a : Spot) (x : Contents) → ((d : Doubt) → a.doubt ≡ Some d → length d.line ≤ limit) → Records [] a a x x
records_rest a x short = record {
  others = stays x (λ file. Unit {0}) tt;
  journal = λ entries there. record {
    crash = stays x (Whatever (HasBytes (IsMoment entries (in_doubt a.doubt ++ [])))) (moment_now a.place a.doubt entries (x.now x.name) short there);
    file = subst (λ l. Holds a l (x.now x.name)) (sym (append-nil entries)) there;
  };
}

-- ---- an append

module _ (line : List ℕ) (place : ℕ) (staged : List ℕ) (is : staged ≡ staged_of (entry_of line)) (short : length line ≤ limit) (x y : Contents) where
  pub records_in : {E : Type 0} (u : Unit {0}) → Appends {E = E} place staged (Ok u) x y
      → Records (Took line ∷ []) (record { place = place; doubt = None }) (record { place = place + size (entry_of line); doubt = None }) x y
  records_in u w = record {
    others = w.others;
    journal = λ entries there.
        let done = w.journal entries (entry_of line) is short there in
        record {
          crash = crash_as x.name (IsOldOrNew entries (entry_of line)) (IsMoment entries (Took line ∷ [])) x y
              (λ bytes. one_moment entries line (Took line ∷ []) bytes (inr ([], refl, refl))) done.crash;
          file = done.new;
        };
  }

  pub records_doubt : {E : Type 0} (e : E) (d : Doubt) → d.line ≡ line → Appends place staged (Err e) x y
      → Records (Doubted line ∷ []) (record { place = place; doubt = None }) (record { place = place; doubt = Some d }) x y
  records_doubt e d same w = record {
    others = w.others;
    journal = λ entries there.
        let done = w.journal entries (entry_of line) is short there in
        record {
          crash = crash_as x.name (IsOldOrNew entries (entry_of line)) (IsMoment entries (Doubted line ∷ [])) x y
              (λ bytes. one_moment entries line (Doubted line ∷ []) bytes (inl refl)) done.crash;
          file = subst (λ l. Whatever (HasBytes (IsUndecided (entries ++ []) (entry_of l) place)) (y.now x.name)) (sym same)
              (subst (λ l. Whatever (HasBytes (IsUndecided l (entry_of line) place)) (y.now x.name)) (sym (append-nil entries)) done.undecided);
        };
  }

-- ---- a settling

module _ {E : Type 0} (d : Doubt) (place : ℕ) (doubt : Option ℕ) (is : doubt ≡ Some (size (entry_of d.line))) (short : length d.line ≤ limit) (x y : Contents) where
  pub settles_in : Decides {E = E} place doubt (Ok In) x y
      → Records (Took d.line ∷ []) (record { place = place; doubt = Some d }) (record { place = place + size (entry_of d.line); doubt = None }) x y
  settles_in w = record {
    others = w.others;
    journal = λ entries there.
        let done = w.journal entries (entry_of d.line) is short there in
        record {
          crash = crash_as x.name (IsOldOrNew entries (entry_of d.line)) (IsMoment entries (Doubted d.line ∷ Took d.line ∷ [])) x y
              (λ bytes. one_moment entries d.line (Doubted d.line ∷ Took d.line ∷ []) bytes (inl refl)) done.crash;
          file = done.file;
        };
  }

  pub settles_out : Decides {E = E} place doubt (Ok Out) x y → Records [] (record { place = place; doubt = Some d }) (record { place = place; doubt = None }) x y
  settles_out w = record {
    others = w.others;
    journal = λ entries there.
        let done = w.journal entries (entry_of d.line) is short there in
        record {
          crash = crash_as x.name (IsOldOrNew entries (entry_of d.line)) (IsMoment entries (Doubted d.line ∷ [])) x y
              (λ bytes. one_moment entries d.line (Doubted d.line ∷ []) bytes (inl refl)) done.crash;
          file = subst (λ l. Holds (record { place = place; doubt = None }) l (y.now x.name)) (sym (append-nil entries)) done.file;
        };
  }

  pub settles_not : (e : E) → Decides place doubt (Err e) x y → Records [] (record { place = place; doubt = Some d }) (record { place = place; doubt = Some d }) x y
  settles_not e w = record {
    others = w.others;
    journal = λ entries there.
        let done = w.journal entries (entry_of d.line) is short there in
        record {
          crash = crash_as x.name (IsOldOrNew entries (entry_of d.line)) (IsMoment entries (Doubted d.line ∷ [])) x y
              (λ bytes. one_moment entries d.line (Doubted d.line ∷ []) bytes (inl refl)) done.crash;
          file = subst (λ l. Holds (record { place = place; doubt = Some d }) l (y.now x.name)) (sym (append-nil entries)) done.file;
        };
  }

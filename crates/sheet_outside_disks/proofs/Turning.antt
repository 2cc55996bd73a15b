-- One call more on a disk in memory.
use Rattle.std.proofs.Common.{◌≡◌, ◌≢◌, ◌⊎◌, inl, inr, ℕ, ◌+◌, ◌≤◌, Bool, true, false, cond, List, [], ◌∷◌, ◌++◌, length, take, drop, Option, Some, None, Ok}
use Rattle.std.proofs.Common.{option_map, bytes_eq, refl, sym, ◌∙◌, ap, subst, arith}
use Rattle.std.proofs.lemmas.Bool.{cond-true, cond-false, false≢true}
use Rattle.std.proofs.lemmas.List.Sums.{fold_push}
use Rattle.std.proofs.lemmas.Slice.Eq.{bytes_eq-Decides}
use Rattle.sheet_outside.specs.Crash.{File, made, put, wrote, synced, IsSpoilt}
use Rattle.sheet_outside.specs.Moments.{Files, Contents}
use Rattle.sheet_outside.specs.Told.{WhereTold}
use Rattle.sheet_outside.specs.DiskCalls.{Turns, Became, Finds, Looks, IsRead, Opens}
use Rattle.sheet_outside_disks.specs.Drive.{Call, opens, writes, spoils, syncs, looks, Drive, State, step, state, at_start, turned, is_made, spoilt, with_file}
use Rattle.sheet_outside_disks.specs.Drive.{files_after, name_after, open_after, told, IsCurrent, ReadsSame}

abbrev pub disk_of : Drive → Contents
disk_of d = (state d.start d.calls).disk

told_cond : (P : Contents → Contents → Type 0) (b c : Bool) (x y : Contents) → (c ≡ true → b ≡ true) → (c ≡ true → P x y) →
    WhereTold P (cond b (Some x) None) (cond c (Some y) None)
told_cond P b false x y back so = tt
told_cond P true true x y back so = so refl
told_cond P false true x y back so = absurd (false≢true (back refl))

-- what is noted of a call: it still tells only where it told before and noted the call
abbrev pub IsNoted : Drive → Call → Drive → Type 0
IsNoted old call new = (new.start ≡ old.start) × (new.tells ≡ true → (old.tells ≡ true) × (new.calls ≡ old.calls ++ call ∷ []))

state_after : (old new : Drive) (call : Call) → new.start ≡ old.start → new.calls ≡ old.calls ++ call ∷ [] →
    state new.start new.calls ≡ step (state old.start old.calls) call
state_after old new call start calls =
    ap (λ s. state s new.calls) start ∙ ap (λ c. state old.start c) calls ∙ fold_push step (at_start old.start) old.calls call

-- what the call does to the contents is what is told
pub told_turn : (P : Contents → Contents → Type 0) (old new : Drive) (call : Call) → IsNoted old call new →
    (old.tells ≡ true → P (disk_of old) (turned (disk_of old) call)) → WhereTold P (told old) (told new)
told_turn P old new call noted so =
    told_cond P old.tells new.tells (disk_of old) (disk_of new) (λ t. (noted.1 t).0)
    (λ t. subst (P (disk_of old)) (sym (ap (λ (s : State). s.disk) (state_after old new call noted.0 (noted.1 t).1))) (so (noted.1 t).0))

-- where nothing was called, and it may tell no longer
pub told_silent : (P : Contents → Contents → Type 0) (old new : Drive) → new.start ≡ old.start → new.calls ≡ old.calls → new.tells ≡ false →
    WhereTold P (told old) (told new)
told_silent P old new start calls silent =
    told_cond P old.tells new.tells (disk_of old) (disk_of new) (λ t. absurd (false≢true (sym silent ∙ t))) (λ t. absurd (false≢true (sym silent ∙ t)))

-- what the open file holds after a call
pub current_turn : (old new : Drive) (call : Call) (before now : List ℕ) → IsNoted old call new → new.is_open ≡ open_after call old.is_open
    → (old.tells ≡ true → IsCurrent old before)
    → (IsCurrent old before → new.is_open ≡ true → (file : File) →
    files_after call (disk_of old).name (disk_of old).now (name_after call (disk_of old).name) ≡ Some file → file.seen ≡ now)
    → new.tells ≡ true → IsCurrent new now
current_turn old new call before now noted is_open was so tells =
    let after = state_after old new call noted.0 (noted.1 tells).1 in
    let current = was (noted.1 tells).0 in
    record {
      is_open = is_open ∙ ap (λ b. open_after call b) current.is_open ∙ sym (ap (λ (s : State). s.is_open) after);
      seen = λ o file there. so current o file (sym (ap (λ (s : State). s.disk.now s.disk.name) after) ∙ there);
    }

pub with_file_here : (name : List ℕ) (f : Option File → Option File) (files : Files) → with_file name f files name ≡ f (files name)
with_file_here name f files = cond-true (bytes_eq name name) (f (files name)) (files name) ((bytes_eq-Decides name name).1 refl)

pub with_file_other : (name : List ℕ) (f : Option File → Option File) (files : Files) (other : List ℕ) → other ≢ name →
    with_file name f files other ≡ files other
with_file_other name f files other apart = elim (cases (bytes_eq other name)) [
  | inl same ↦ absurd (apart ((bytes_eq-Decides other name).0 same))
  | inr not_same ↦ cond-false (bytes_eq other name) (f (files other)) (files other) not_same
]
  where
    cases : (b : Bool) → (b ≡ true) ⊎ (b ≡ false)
    cases true = inl refl
    cases false = inr refl

-- a call on the file of the last `open`
turns_here : (R : Option File → Option File → Type 0) (c now : Contents) (f : Option File → Option File) → now.past ≡ c.past ++ c.now ∷ [] → now.name ≡ c.name →
    now.now ≡ with_file c.name f c.now → R (c.now c.name) (f (c.now c.name)) → Turns c.name R c now
turns_here R c now f past name is so = record {
  past = past;
  name = name;
  file = subst (R (c.now c.name)) (sym (ap (λ (g : Files). g c.name) is ∙ with_file_here c.name f c.now)) so;
  others = λ other apart. ap (λ (g : Files). g other) is ∙ with_file_other c.name f c.now other apart;
}

pub looked : (P : File → Type 0) (c : Contents) → ((file : File) → c.now c.name ≡ Some file → P file) → Looks P c (turned c looks)
looked P c so = record { past = refl; name = refl; files = refl; answer = so }

became : (g : File → File) (R : File → File → Type 0) → ((file : File) → R file (g file)) → (file : Option File) → Became R file (option_map g file)
became g R so None = refl
became g R so (Some file) = so file

pub synced_turn : (c : Contents) → Turns c.name (Became (λ file later. later ≡ synced file)) c (turned c syncs)
synced_turn c = turns_here _ c (turned c syncs) (option_map synced) refl refl refl
    (became synced (λ file later. later ≡ synced file) (λ file. refl) (c.now c.name))

pub wrote_turn : (place : ℕ) (piece : List ℕ) (c : Contents) →
    Turns c.name (Became (λ file later. later ≡ wrote place piece file)) c (turned c (writes place piece))
wrote_turn place piece c =
    turns_here _ c (turned c (writes place piece)) (option_map (wrote place piece)) refl refl refl
    (became (wrote place piece) (λ file later. later ≡ wrote place piece file) (λ file. refl) (c.now c.name))

pub spoilt_turn : (place : ℕ) (piece : List ℕ) (c : Contents) → Turns c.name (Became (IsSpoilt place piece)) c (turned c (spoils place piece))
spoilt_turn place piece c =
    turns_here _ c (turned c (spoils place piece)) (option_map (spoilt place piece)) refl refl refl
    (became (spoilt place piece) (IsSpoilt place piece)
    (λ file. record { settled = refl; written = refl; no_shorter = omega arith; no_longer = omega arith; others = λ i below out. refl }) (c.now c.name))

-- a failed `open` leaves all files as they were
pub missed_turn : (name : List ℕ) (make : Bool) (c : Contents) →
    Turns name (λ was is. (is ≡ was) ⊎ ((make ≡ true) × (was ≡ None) × (is ≡ Some made))) c (turned c (opens name false))
missed_turn name make c = record { past = refl; name = refl; file = inl refl; others = λ other apart. refl }

pub absent_turn : (name : List ℕ) (make : Bool) (c : Contents) → c.now name ≡ None → make ≡ false →
    Turns name (λ was is. (was ≡ None) × (is ≡ None) × (make ≡ false)) c (turned c (opens name false))
absent_turn name make c none unmade = record { past = refl; name = refl; file = (none, none, unmade); others = λ other apart. refl }

-- what is read of bytes is read of the file that has them
pub read_as : (place count : ℕ) (piece : List ℕ) (f g : File) → g.seen ≡ f.seen → IsRead place count piece f → IsRead place count piece g
read_as place count piece f g same r = record {
  bytes = r.bytes ∙ ap (λ (l : List ℕ). take count (drop place l)) (sym same);
  none = λ zero_read some. subst (λ (l : List ℕ). length l ≤ place) (sym same) (r.none zero_read some);
  within = λ some. subst (λ (l : List ℕ). place + count ≤ length l) (sym same) (r.within some);
}

finds : (make : Bool) (file : Option File) → (file ≡ None → make ≡ true) → Finds make file (is_made file)
finds make None so = (so refl, refl)
finds make (Some file) so = refl

pub found_turn : (name : List ℕ) (make : Bool) (c : Contents) → (c.now name ≡ None → make ≡ true) → Turns name (Finds make) c (turned c (opens name true))
found_turn name make c so = record {
  past = refl;
  name = refl;
  file = subst (Finds make (c.now name)) (sym (with_file_here name is_made c.now)) (finds make (c.now name) so);
  others = λ other apart. with_file_other name is_made c.now other apart;
}

-- an `open` of a file that isn't there
pub opened_none : (E : Type 0) (name : List ℕ) (make : Bool) (c : Contents) → c.now name ≡ None →
    Opens {E = E} name make (Ok make) c (turned c (opens name make))
opened_none E name true c none = found_turn name true c (λ e. refl)
opened_none E name false c none = absent_turn name false c none refl

-- what a read gives, where only what isn't read was changed
seen_kept : (g : File → File) → ((file : File) → (g file).seen ≡ file.seen) → (before : List ℕ) (was : Option File) (file : File) →
    ((old : File) → was ≡ Some old → old.seen ≡ before) → option_map g was ≡ Some file → file.seen ≡ before
seen_kept g same before None file so is = absurd cc
seen_kept g same before (Some old) file so is = ap (λ (f : Option File). seen_of f) (sym is) ∙ same old ∙ so old refl
  where
    seen_of : Option File → List ℕ
    seen_of None = []
    seen_of (Some f) = f.seen

pub current_synced : (d : Drive) (before : List ℕ) → IsCurrent d before → d.is_open ≡ true → (file : File) →
    with_file (disk_of d).name (option_map synced) (disk_of d).now (disk_of d).name ≡ Some file → file.seen ≡ before
current_synced d before current o file is =
    seen_kept synced (λ f. refl) before ((disk_of d).now (disk_of d).name) file (current.seen o)
    (sym (with_file_here (disk_of d).name (option_map synced) (disk_of d).now) ∙ is)

pub current_spoilt : (place : ℕ) (piece : List ℕ) (d : Drive) (before : List ℕ) → IsCurrent d before → d.is_open ≡ true → (file : File) →
    with_file (disk_of d).name (option_map (spoilt place piece)) (disk_of d).now (disk_of d).name ≡ Some file → file.seen ≡ before
current_spoilt place piece d before current o file is =
    seen_kept (spoilt place piece) (λ f. refl) before ((disk_of d).now (disk_of d).name) file (current.seen o)
    (sym (with_file_here (disk_of d).name (option_map (spoilt place piece)) (disk_of d).now) ∙ is)

seen_put : (place : ℕ) (piece before : List ℕ) (was : Option File) (file : File) → ((old : File) → was ≡ Some old → old.seen ≡ before) →
    option_map (wrote place piece) was ≡ Some file → file.seen ≡ put before place piece
seen_put place piece before None file so is = absurd cc
seen_put place piece before (Some old) file so is = ap (λ (f : Option File). seen_of f) (sym is) ∙ ap (λ (b : List ℕ). put b place piece) (so old refl)
  where
    seen_of : Option File → List ℕ
    seen_of None = []
    seen_of (Some f) = f.seen

pub current_wrote : (place : ℕ) (piece : List ℕ) (d : Drive) (before now : List ℕ) → now ≡ put before place piece → IsCurrent d before → d.is_open ≡ true →
    (file : File) → with_file (disk_of d).name (option_map (wrote place piece)) (disk_of d).now (disk_of d).name ≡ Some file → file.seen ≡ now
current_wrote place piece d before now is_now current o file is =
    seen_put place piece before ((disk_of d).now (disk_of d).name) file (current.seen o)
    (sym (with_file_here (disk_of d).name (option_map (wrote place piece)) (disk_of d).now) ∙ is) ∙ sym is_now

-- an `open` that answers false leaves no file open
pub current_opened : (name : List ℕ) (make : Bool) (before now : List ℕ) (d : Drive) → (disk_of d).now name ≡ None → now ≡ [] → IsCurrent d before →
    make ≡ true → (file : File) → files_after (opens name make) (disk_of d).name (disk_of d).now name ≡ Some file → file.seen ≡ now
current_opened name false before now d none empty current o file is = absurd (false≢true o)
current_opened name true before now d none empty current o file is = seen_made (sym (ap is_made none) ∙ sym (with_file_here name is_made (disk_of d).now) ∙ is)
  where
    seen_made : Some made ≡ Some file → file.seen ≡ now
    seen_made e = ap (λ (f : Option File). seen_or f) (sym e) ∙ sym empty
      where
        seen_or : Option File → List ℕ
        seen_or None = []
        seen_or (Some f) = f.seen

-- the file that an `open` found or made
pub current_found : (name : List ℕ) (file : File) (before now : List ℕ) (d : Drive) → Some file ≡ (disk_of d).now name → now ≡ file.seen → IsCurrent d before →
    (later : File) → with_file name is_made (disk_of d).now name ≡ Some later → later.seen ≡ now
current_found name file before now d there is_now current later is = same (ap is_made there ∙ sym (with_file_here name is_made (disk_of d).now) ∙ is)
  where
    seen_or : Option File → List ℕ
    seen_or None = []
    seen_or (Some f) = f.seen

    same : Some file ≡ Some later → later.seen ≡ now
    same e = ap (λ (f : Option File). seen_or f) (sym e) ∙ sym is_now

-- a failed write leaves what every file reads
pub spoilt_reads : (place : ℕ) (piece : List ℕ) (c : Contents) → ReadsSame c (turned c (spoils place piece))
spoilt_reads place piece c name = same (bytes_eq name c.name) (c.now name)
  where
    same : (b : Bool) (file : Option File) → option_map (λ f. f.seen) (cond b (option_map (spoilt place piece) file) file) ≡ option_map (λ f. f.seen) file
    same true None = refl
    same true (Some f) = refl
    same false file = refl

-- A file that is worked out from the calls of a disk.
use Rattle.std.proofs.Common.{◌≡◌, ℕ, ◌+◌, ◌<◌, ◌≤◌, Bool, true, false, cond, List, [], ◌∷◌, ◌++◌, length, take, drop, map, get_or, Option, Some, None}
use Rattle.std.proofs.Common.{option_map, bytes_eq, refl, sym, ◌∙◌, ap, arith}
use Rattle.std.proofs.lemmas.Bool.{false≢true}
use Rattle.std.proofs.Common.{take-append-drop, length-append}
use Rattle.std.specs.List.{fold}
use Rattle.std.proofs.lemmas.List.{length-take, get_or_past, get_or_push, get_or_append_left, get_or_default}
use Rattle.std.proofs.lemmas.List.Sums.{fold_push, fold-append}
use Rattle.sheet_outside.specs.Crash.{File, wrote, synced}
use Rattle.sheet_outside.specs.Moments.{Files, files_at}
use Rattle.sheet_outside_disks.specs.declared.event.Event.{Event}
use Rattle.sheet_outside_disks.specs.Drive.{Call, call_of, opens, writes, spoils, syncs, looks, Named, State, step, state, at_start, changed, is_made, spoilt}
use Rattle.sheet_outside_disks.specs.Drive.{here_after, files_after, name_after}
use Rattle.sheet_outside_disks.proofs.Mapping.{map_more}
use Rattle.sheet_outside_disks.proofs.Turning.{with_file_here}

-- where nothing is done in either case
same_either : {A : Type 0} (b : Bool) (x : A) → cond b x x ≡ x
same_either true x = refl
same_either false x = refl

-- the file of one name after a call
pub file_after : (call : Call) (name last : List ℕ) (files : Files) →
    files_after call last files name ≡ cond (here_after call name (bytes_eq name last)) (changed call (files name)) (files name)
file_after (opens opened true) name last files = refl
file_after (opens opened false) name last files = sym (same_either (bytes_eq name opened) (files name))
file_after (writes place piece) name last files = refl
file_after (spoils place piece) name last files = refl
file_after syncs name last files = refl
file_after looks name last files = sym (same_either (bytes_eq name last) (files name))

pub here_is : (call : Call) (name last : List ℕ) → bytes_eq name (name_after call last) ≡ here_after call name (bytes_eq name last)
here_is (opens opened found) name last = refl
here_is (writes place piece) name last = refl
here_is (spoils place piece) name last = refl
here_is syncs name last = refl
here_is looks name last = refl

-- the calls of a log so far, and one more
pub state_more : (start : List Named) (log : List Event) (i : ℕ) (event : Event) → i < length log → event ≡ get_or log i event →
    state start (map call_of (take (i + 1) log)) ≡ step (state start (map call_of (take i log))) (call_of event)
state_more start log i event below is =
    ap (λ (calls : List Call). state start calls) (map_more call_of log i event event below is)
    ∙ fold_push step (at_start start) (map call_of (take i log)) (call_of event)

-- the file so far, and whether it is the open one
pub record IsReplayed (start : List Named) (calls : List Call) (name : List ℕ) (here : Bool) (file : Option File) : Type 0 where
  pub is_here : here ≡ bytes_eq name (state start calls).disk.name
  pub is : file ≡ (state start calls).disk.now name

pub replayed_more : (start : List Named) (calls : List Call) (call : Call) (name : List ℕ) (was now : Bool) (before after : Option File) →
    IsReplayed start calls name was before
    → now ≡ here_after call name was → after ≡ cond now (changed call before) before → IsReplayed start (calls ++ call ∷ []) name now after
replayed_more start calls call name was now before after r is_now is_after =
    let pushed = fold_push step (at_start start) calls call in
    let d = (state start calls).disk in
    let here : now ≡ here_after call name (bytes_eq name d.name) = is_now ∙ ap (λ b. here_after call name b) r.is_here in
    record {
      is_here = here ∙ sym (here_is call name d.name) ∙ sym (ap (λ (s : State). bytes_eq name s.disk.name) pushed);
      is =
          is_after ∙ ap (λ b. cond b (changed call before) before) here
          ∙ ap (λ f. cond (here_after call name (bytes_eq name d.name)) (changed call f) f) r.is
          ∙ sym (file_after call name d.name d.now)
          ∙ sym (ap (λ (s : State). s.disk.now name) pushed);
    }

mapped_none : (g : File → File) (file : Option File) → option_map g file ≡ None → file ≡ None
mapped_none g None e = refl
mapped_none g (Some f) e = cc

-- an open file is there
IsThere : State → Type 0
IsThere s = s.is_open ≡ true → s.disk.now s.disk.name ≡ None → ⊥

there_after : (call : Call) (s : State) → IsThere s → IsThere (step s call)
unfolding IsThere
there_after (opens name true) s was o none = absurd (made_there (s.disk.now name) (sym (with_file_here name is_made s.disk.now) ∙ none))
  where
    made_there : (file : Option File) → is_made file ≡ None → ⊥
    made_there None e = cc
    made_there (Some f) e = cc
there_after (opens name false) s was o none = absurd (false≢true o)
there_after (writes place piece) s was o none =
    was o (mapped_none _ (s.disk.now s.disk.name) (sym (with_file_here s.disk.name (option_map (wrote place piece)) s.disk.now) ∙ none))
there_after (spoils place piece) s was o none =
    was o (mapped_none _ (s.disk.now s.disk.name) (sym (with_file_here s.disk.name (option_map (spoilt place piece)) s.disk.now) ∙ none))
there_after syncs s was o none = was o (mapped_none _ (s.disk.now s.disk.name) (sym (with_file_here s.disk.name (option_map synced) s.disk.now) ∙ none))
there_after looks s was o none = was o none

there_always : (calls : List Call) (s : State) → IsThere s → IsThere (fold step s calls)
there_always [] s was = was
there_always (call ∷ calls) s was = there_always calls (step s call) (there_after call s was)

pub open_there : (start : List Named) (calls : List Call) → (state start calls).is_open ≡ true →
    (state start calls).disk.now (state start calls).disk.name ≡ None → ⊥
unfolding IsThere
open_there start calls = there_always calls (at_start start) (λ o none. false≢true o)

-- the files after so many calls are those at that moment
at_moment : (calls : List Call) (s : State) → files_at (fold step s calls).disk (length s.disk.past) ≡ s.disk.now
at_moment [] s = get_or_past s.disk.past (length s.disk.past) s.disk.now (omega arith)
at_moment (call ∷ calls) s = earlier calls (step s call) (length s.disk.past) (omega (arith, length-append s.disk.past (s.disk.now ∷ [])))
    ∙ get_or_push s.disk.past s.disk.now (step s call).disk.now (length s.disk.past) refl
  where
    earlier : (calls : List Call) (s : State) (k : ℕ) → k < length s.disk.past → files_at (fold step s calls).disk k ≡ files_at s.disk k
    earlier [] s k below = refl
    earlier (call ∷ calls) s k below =
        earlier calls (step s call) k (omega (arith, below, length-append s.disk.past (s.disk.now ∷ [])))
        ∙ get_or_append_left s.disk.past (s.disk.now ∷ []) (step s call).disk.now k below
        ∙ get_or_default s.disk.past k (step s call).disk.now s.disk.now below

past_after : (calls : List Call) (s : State) → length (fold step s calls).disk.past ≡ length s.disk.past + length calls
past_after [] s = omega arith
past_after (call ∷ calls) s = past_after calls (step s call) ∙ omega (arith, length-append s.disk.past (s.disk.now ∷ []))

pub files_then : (start : List Named) (calls : List Call) (k : ℕ) → k ≤ length calls →
    files_at (state start calls).disk k ≡ (state start (take k calls)).disk.now
files_then start calls k within =
    let s = state start (take k calls) in
    let long : length s.disk.past ≡ k = past_after (take k calls) (at_start start) ∙ omega (arith, length-take k calls, within) in
    let parted : state start calls ≡ fold step s (drop k calls) = ap (λ (l : List Call). state start l) (sym (take-append-drop k calls))
    ∙ fold-append step (at_start start) (take k calls) (drop k calls) in
    ap (λ (t : State). files_at t.disk k) parted ∙ ap (λ n. files_at (fold step s (drop k calls)).disk n) (sym long) ∙ at_moment (drop k calls) s

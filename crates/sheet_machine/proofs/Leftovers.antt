-- What is left of a journal, and what it is opened with.
use Rattle.std.proofs.Common.{◌≡◌, inl, inr, refl, sym, ap, ◌∙◌, subst, ℕ, ◌+◌, List, [], ◌∷◌, ◌++◌, Option, Some, None, Result, Ok, Err}
use Rattle.std.specs.Prelude.{IfOk}
use Rattle.std.proofs.lemmas.Bool.{cases_eq}
use Rattle.sheet_outside.specs.Crash.{File, at_rest}
use Rattle.sheet_journal.specs.declared.journal.JournalRefusal.TheVariants.{DiskFault, AlreadyThere, NotAJournal, TornLayout}
use Rattle.sheet_journal.specs.declared.journal.JournalRefusal.TheVariants.{NoMemory as NoMemoryToRead}
use Rattle.sheet_journal.specs.Layout.{Entry, size, Reaches, IsImage, IsBegun}
use Rattle.sheet_journal.specs.Journal.{HasBytes, Whatever, IsUndecided}
use Rattle.sheet_journal.specs.JournalCalls.{IsCutShort}
use Rattle.sheet_define_reading.specs.Laws.{OneDefinition}
use Rattle.sheet_machine_laws.specs.Machine.{Holding, Doubt}
use Rattle.sheet_machine.specs.declared.opening.OpenRefusal.{OpenRefusal}
use Rattle.sheet_machine.specs.declared.opening.OpenRefusal.TheVariants.{Journal as Unread, Damaged, NoMemory}
use Rattle.sheet_machine.specs.Crashes.{IsLast, OpensWith}
use Rattle.sheet_machine.specs.Opening.{IsRead, OpensAs, IsRecoveredApp, IsSureApp}
use Rattle.sheet_machine.specs.Recording.{App, holds}
use Rattle.sheet_machine.specs.Recovering.{entry_of, Recovers}
use Rattle.sheet_machine.proofs.JournalFiles.{whatever_as, bytes_as, rest_whatever}
use Rattle.sheet_machine.proofs.JournalRecords.{records_begin, is_begun}
use Rattle.sheet_machine.proofs.Recoveries.{recovers_one, front_recovered}

-- ---- what may be left

last_of : (entries : List Entry) (place : ℕ) (d : Doubt) (bytes : List ℕ) → IsUndecided entries (entry_of d.line) place bytes → IsLast entries (Some d) bytes
last_of entries place d bytes u = elim (cases_eq u.reaches.gate 1) [
  | inl opened ↦ inr (d, refl, (place + size (entry_of d.line), u.whole opened))
  | inr shut ↦ inl (place, record { reaches = u.reaches; closed = shut })
]

pub all_stand : (entries : List Entry) (place : ℕ) (doubt : Option Doubt) (file : Option File) → holds place doubt entries file
    → Whatever (HasBytes (IsLast entries doubt)) file
all_stand entries place None file ready =
    subst (Whatever (HasBytes (IsLast entries None))) (sym ready.is) (rest_whatever (IsLast entries None) ready.bytes (inl (place, ready.ends)))
all_stand entries place (Some d) file u =
    whatever_as (HasBytes (IsUndecided entries (entry_of d.line) place)) (HasBytes (IsLast entries (Some d)))
    (bytes_as (IsUndecided entries (entry_of d.line) place) (IsLast entries (Some d)) (last_of entries place d)) file u

-- ---- what it is opened with

some_file : (a b : File) → Some a ≡ Some b → a ≡ b
some_file a b e = cc

-- the bytes that were read are those of the file
read_bytes : (file : File) (bytes : List ℕ) (now : Option File) → IsRead bytes (Some file) now → file.seen ≡ bytes
read_bytes file bytes now r = ap (λ (f : File). f.seen) (some_file file r.was r.there) ∙ r.seen

some_image : (bytes : List ℕ) (entries : List Entry) (h : Holding) → IsImage bytes entries → Recovers entries h → IsBegun bytes
some_image bytes [] h image r = absurd r
some_image bytes (e ∷ es) h image r = is_begun bytes e es image

module _ (one : OneDefinition) (one_list : (bytes : List ℕ) (some others : List Entry) → IsImage bytes some → IsImage bytes others → some ≡ others)
    (whole : (bytes : List ℕ) (front all : List Entry) (place : ℕ) → Reaches bytes front place → IsCutShort (Some (at_rest bytes)) place → IsImage bytes all → ⊥)
    (file : File) (now : Option File) (entries : List Entry) (h : Holding) (image : IsImage file.seen entries) (recovers : Recovers entries h) where
  image_of : (bytes : List ℕ) → IsRead bytes (Some file) now → IsImage bytes entries
  image_of bytes r = subst (λ b. IsImage b entries) (read_bytes file bytes now r) image

  pub opened_with : (result : Result App OpenRefusal) → OpensAs IsRecoveredApp result (Some file) now → IfOk result IsSureApp → OpensWith h result
  opened_with (Ok a) o sure =
      let r = o sure.journal sure.has in
      let same = one_list r.ready.bytes r.entries entries (sure.journal.place, r.ready.ends) (image_of r.ready.bytes r.read) in
      recovers_one one entries a.machine.held h (subst (λ es. Recovers es a.machine.held) same r.recovers) recovers
  opened_with (Err (Unread DiskFault)) o sure = tt
  opened_with (Err (Unread AlreadyThere)) o sure = o
  opened_with (Err (Unread (NotAJournal count))) o sure = o.1 (some_image file.seen entries h image recovers)
  opened_with (Err (Unread (TornLayout at))) o sure =
      whole o.bytes o.front entries at o.reaches (subst (λ f. IsCutShort f at) o.read.is o.cut) (image_of o.bytes o.read)
  opened_with (Err (Unread NoMemoryToRead)) o sure = o
  opened_with (Err (Damaged k)) o sure =
      let more = records_begin o.bytes (o.front ++ o.bad ∷ []) entries o.place o.reaches (image_of o.bytes o.read) in
      o.not (front_recovered (o.front ++ o.bad ∷ []) more.0 (inr (h, subst (λ es. Recovers es h) more.1 recovers)))
  opened_with (Err NoMemory) o sure = tt

-- What is said of a journal's file over several calls.
use Rattle.std.proofs.Common.{◌≡◌, inl, inr, ℕ, ◌+◌, ◌≤◌, List, ◌∷◌, length, length-append, Option, Some, None, sym, ◌∙◌, subst, arith}
use Rattle.std.proofs.lemmas.Bool.{cases_eq}
use Rattle.std.proofs.lemmas.List.{ext_get_or}
use Rattle.std.specs.Int.{to_be_bytes, w32}
use Rattle.sheet_outside.specs.Crash.{File, Leaves, at_rest}
use Rattle.sheet_outside.specs.Moments.{Contents}
use Rattle.sheet_outside.proofs.Passing.{joined, said_as, at_last}
use Rattle.sheet_journal.specs.Layout.{Entry, body, limit, size, IsOldOrNew}
use Rattle.sheet_journal.specs.Journal.{HasBytes, Whatever, IsUndecided}
use Rattle.sheet_journal.specs.JournalCalls.{IsKept, Keeps}

pub length-body : (entry : Entry) → length (1 ∷ body entry) ≡ size entry
length-body entry = omega (arith, length-append (to_be_bytes w32 (length entry.payload)) (entry.kind ∷ entry.payload))

-- one call behind another
pub keeps_then : (of : List ℕ) (Q : Option File → Type 0) (x y z : Contents) → Keeps of Q x y → Keeps y.name Q y z → Keeps of Q x z
keeps_then of Q x y z a b =
    let before = at_last (IsKept of Q x) x y a.moments in
    let c = subst (λ n. Keeps n Q y z) a.name b in
    record {
      name = c.name;
      moments = joined (IsKept of Q x) x y z a.moments
          (said_as (IsKept of Q y) (IsKept of Q x) y z (λ files p. (p.0, λ other ne. p.1 other ne ∙ before.1 other ne)) c.moments);
    }

-- what has P has Q
pub whatever_as : (P Q : Option (List ℕ) → Type 0) → ((left : Option (List ℕ)) → P left → Q left) → (file : Option File) → Whatever P file → Whatever Q file
whatever_as P Q so None p = so None p
whatever_as P Q so (Some file) w = (so (Some file.seen) w.0, λ left l. so left (w.1 left l))

pub bytes_as : (P Q : List ℕ → Type 0) → ((bytes : List ℕ) → P bytes → Q bytes) → (left : Option (List ℕ)) → HasBytes P left → HasBytes Q left
bytes_as P Q so None none = none
bytes_as P Q so (Some bytes) p = so bytes p

pub crash_as : (of : List ℕ) (P Q : List ℕ → Type 0) (x y : Contents) → ((bytes : List ℕ) → P bytes → Q bytes) → Keeps of (Whatever (HasBytes P)) x y
    → Keeps of (Whatever (HasBytes Q)) x y
crash_as of P Q x y so a =
    let passed : (file : Option File) → Whatever (HasBytes P) file → Whatever (HasBytes Q) file = whatever_as (HasBytes P) (HasBytes Q) (bytes_as P Q so) in
    record {
      name = a.name;
      moments = said_as (IsKept of (Whatever (HasBytes P)) x) (IsKept of (Whatever (HasBytes Q)) x) x y (λ files p. (passed (files of) p.0, p.1)) a.moments;
    }

-- a file on the disk is left as it is
pub rest_whatever : (P : List ℕ → Type 0) (bytes : List ℕ) → P bytes → Whatever (HasBytes P) (Some (at_rest bytes))
rest_whatever P bytes p = (p, after)
  where
    same : (left : List ℕ) → Leaves (Some (at_rest bytes)) (Some left) → left ≡ bytes
    same left l =
        ext_get_or 0 left bytes (omega (arith, l.no_shorter, l.no_longer)) (λ i below. l.others i (omega (arith, below, l.no_longer)) (λ none. none))

    after : (left : Option (List ℕ)) → Leaves (Some (at_rest bytes)) left → HasBytes P left
    after None none = absurd cc
    after (Some left) l = subst P (sym (same left l)) p

pub old_or_new : (entries : List Entry) (place : ℕ) (entry : Entry) (fits : length entry.payload ≤ limit) (bytes : List ℕ) → IsUndecided entries entry place bytes
    → IsOldOrNew entries entry bytes
old_or_new entries place entry fits bytes u = elim (cases_eq u.reaches.gate 1) [
  | inl opened ↦ inr (place + size entry, u.whole opened)
  | inr shut ↦ inl (place, record { reaches = u.reaches; closed = shut })
]

-- What lines say and which may stand in a journal.
use Rattle.std.proofs.Common.{◌≡◌, ◌⊎◌, inl, inr, refl, sym, ap, ◌∙◌, subst, ℕ, zero, suc, ◌-◌, ◌≤◌, List, [], ◌∷◌, ◌++◌, length, drop, arith, length-append}
use Rattle.std.proofs.Common.{Result, Ok, Err, Some}
use Rattle.std.specs.Prelude.{slice_get, slice_set}
use Rattle.std.specs.List.{AllByRecursion}
use Rattle.std.proofs.lemmas.Option.{same_Some}
use Rattle.sheet_requests.specs.Reading.{ReadsAs, says, not_json, no_memory, request_of}
use Rattle.sheet_requests.specs.declared.request.Request.{Request}
use Rattle.sheet_requests.specs.declared.request.Route.TheVariants.{Line}
use Rattle.sheet_requests.specs.declared.request.WireRefusal.{WireRefusal}
use Rattle.sheet_requests.specs.declared.request.WireRefusal.TheVariants.{NoMemory}
use Rattle.sheet_requests.specs.declared.reply.Answer.{Answer}
use Rattle.sheet_callers.specs.Callers.{Caller, KeptRequest, caller_at}
use Rattle.sheet_callers.specs.Keeping.{keeping, with_kept, most_kept}
use Rattle.sheet_machine_laws.specs.Act.{act}
use Rattle.sheet_machine_laws.specs.Leading.{Accepts, Leads, MayStand}
use Rattle.sheet_machine_laws.specs.Machine.{Holding}
use Rattle.sheet_machine_laws.specs.Sound.{IsCaller, IsKept}
use Rattle.sheet_machine_laws.specs.Step.{Event, Took, Doubted, taken}
use Rattle.sheet_machine_laws.proofs.KeptCallers.{kept_is}
use Rattle.sheet_machine_laws.proofs.Soundness.{all_got}

-- ---- lines

-- bytes are read alike, where there is memory
pub same_reading : (bytes : List ℕ) (x y : Result Request WireRefusal) → ReadsAs Line bytes x → ReadsAs Line bytes y
    → (x ≡ y) ⊎ ((x ≡ Err NoMemory) ⊎ (y ≡ Err NoMemory))
same_reading bytes _ _ (says d s) (says e t) = inl (ap (request_of Line) (same_Some d e (sym s.1 ∙ t.1)))
same_reading bytes _ _ (says d s) (not_json none) = absurd (none d s)
same_reading bytes _ y (says d s) no_memory = inr (inr refl)
same_reading bytes _ _ (not_json none) (says e t) = absurd (none e t)
same_reading bytes _ _ (not_json none) (not_json other) = inl refl
same_reading bytes _ _ (not_json none) no_memory = inr (inr refl)
same_reading bytes _ y no_memory other = inr (inl refl)

-- a line holds one request at most
pub one_request : (bytes : List ℕ) (q p : Request) → ReadsAs Line bytes (Ok q) → ReadsAs Line bytes (Ok p) → q ≡ p
one_request bytes q p x y = by_cases (Ok q) (Ok p) refl refl (same_reading bytes (Ok q) (Ok p) x y)
  where
    by_cases : (a b : Result Request WireRefusal) → a ≡ Ok q → b ≡ Ok p → (a ≡ b) ⊎ ((a ≡ Err NoMemory) ⊎ (b ≡ Err NoMemory)) → q ≡ p
    by_cases a b is was (inl e) = cc
    by_cases a b is was (inr (inl e)) = cc
    by_cases a b is was (inr (inr e)) = cc

-- a line that was refused holds none, unless it was for want of memory
pub no_request : (bytes : List ℕ) (q : Request) (why : WireRefusal) → ReadsAs Line bytes (Ok q) → ReadsAs Line bytes (Err why) → why ≡ NoMemory
no_request bytes q why x y = by_cases (Ok q) (Err why) refl refl (same_reading bytes (Ok q) (Err why) x y)
  where
    by_cases : (a b : Result Request WireRefusal) → a ≡ Ok q → b ≡ Err why → (a ≡ b) ⊎ ((a ≡ Err NoMemory) ⊎ (b ≡ Err NoMemory)) → why ≡ NoMemory
    by_cases a b is was (inl e) = cc
    by_cases a b is was (inr (inl e)) = cc
    by_cases a b is was (inr (inr e)) = cc

-- what is held after a line
pub one_after : (h : Holding) (line : List ℕ) (a b : Holding) → Accepts h line a → Accepts h line b → a ≡ b
one_after h line a b x y = x.is ∙ ap (λ q. (act h q).0) (one_request line x.request y.request x.reads y.reads) ∙ sym y.is

-- ---- events

pub taken_both : (es fs : List Event) → taken (es ++ fs) ≡ taken es ++ taken fs
taken_both [] fs = refl
taken_both (Took line ∷ es) fs = ap (λ ls. line ∷ ls) (taken_both es fs)
taken_both (Doubted line ∷ es) fs = taken_both es fs

-- some events behind others
pub leads_on : (g h i : Holding) (es fs : List Event) → Leads g es h → Leads h fs i → Leads g (es ++ fs) i
leads_on g h i [] fs x y = subst (λ k. Leads k fs i) x y
leads_on g h i (Took line ∷ es) fs x y = (x.0, x.1, leads_on x.0 h i es fs x.2 y)
leads_on g h i (Doubted line ∷ es) fs x y = (x.0, x.1, leads_on g h i es fs x.2 y)

pub none_may_stand : (es : List Event) → MayStand es []
none_may_stand [] = refl
none_may_stand (Took line ∷ es) = inl refl
none_may_stand (Doubted line ∷ es) = inr (none_may_stand es)

-- what may stand at a moment of some events may stand at one of more
pub may_stand_yet : (es fs : List Event) (lines : List (List ℕ)) → MayStand es lines → MayStand (es ++ fs) lines
may_stand_yet [] fs lines x = subst (MayStand fs) (sym x) (none_may_stand fs)
may_stand_yet (Took line ∷ es) fs lines (inl x) = inl x
may_stand_yet (Took line ∷ es) fs lines (inr x) = inr (x.0, x.1, may_stand_yet es fs x.0 x.2)
may_stand_yet (Doubted line ∷ es) fs lines (inl x) = inl x
may_stand_yet (Doubted line ∷ es) fs lines (inr x) = inr (may_stand_yet es fs lines x)

-- and behind those that were taken
pub may_stand_behind : (es fs : List Event) (lines : List (List ℕ)) → MayStand fs lines → MayStand (es ++ fs) (taken es ++ lines)
may_stand_behind [] fs lines x = x
may_stand_behind (Took line ∷ es) fs lines x = inr (taken es ++ lines, refl, may_stand_behind es fs lines x)
may_stand_behind (Doubted line ∷ es) fs lines x = inr (may_stand_behind es fs lines x)

-- ---- lengths

last_has : (P : KeptRequest → Type 0) (m : ℕ) (ks : List KeptRequest) (k : KeptRequest) → m ≤ length ks → AllByRecursion P (drop m (ks ++ k ∷ [])) → P k
last_has P zero [] k few x = x.0
last_has P zero (j ∷ ks) k few x = last_has P zero ks k (omega arith) x.1
last_has P (suc m) [] k few x = absurd (omega (arith, few))
last_has P (suc m) (j ∷ ks) k few x = last_has P m ks k (omega (arith, few)) x

set_there : (cs : List Caller) (j : ℕ) (c d : Caller) → slice_get cs j ≡ Some c → slice_get (slice_set cs j d) j ≡ Some d
set_there [] j c d at = cc
set_there (x ∷ xs) zero c d at = refl
set_there (x ∷ xs) (suc j) c d at = set_there xs j c d at

-- the line of a request that was just kept is short
pub kept_line : (h : Holding) (cs : List Caller) (k : ℕ) (c : Caller) (n : ℕ) (line : List ℕ) (given : Answer) → caller_at cs k ≡ Some c
    → AllByRecursion (IsCaller h) (keeping cs k n line given) → length line ≤ 1000000
kept_line h cs zero c n line given at each = cc
kept_line h cs (suc j) c n line given at each =
    let one : KeptRequest = record { number = n; line = line; answer = given } in
    let d = with_kept c n line given in
    let here = all_got (IsCaller h) (slice_set cs j d) j d (subst (AllByRecursion (IsCaller h)) (kept_is cs j c n line given at) each) (set_there cs j c d at) in
    let few = length-append c.kept (one ∷ []) in
    (last_has (IsKept h.state.next) (length (c.kept ++ one ∷ []) - most_kept) c.kept one (omega (arith, few)) here.kept).0

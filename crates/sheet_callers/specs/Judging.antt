-- The rule of numbers.
use Rattle.std.specs.Prelude.{◌≡◌, ℕ, ◌+◌, ◌-◌, ◌==◌, nat_le, List, find, if◌then◌else◌, Option, Some, None, bytes_eq}
use Rattle.sheet_requests.specs.declared.reply.Answer.{Answer}
use Rattle.sheet_callers.specs.Callers.{Caller, KeptRequest}
use Rattle.sheet_callers.specs.Keeping.{most_kept}
use Rattle.sheet_callers.specs.declared.judgement.Judgement.{Judgement}
use Rattle.sheet_callers.specs.declared.judgement.Judgement.TheVariants as judgement

-- what a number comes to
pub data Judged : Type 0 where
  Fresh : Judged
  Kept : Answer → Judged
  Differs : Judged
  Past : ℕ → Judged
  Ahead : ℕ → Judged

-- the kept request of that number
abbrev pub kept_at : List KeptRequest → ℕ → Option KeptRequest
kept_at ks n = find (λ (k : KeptRequest). k.number == n) ks

-- one of the last 16: it is kept where the request is equal, else it differs
abbrev pub judged_again : List ℕ → Option KeptRequest → Judged
judged_again line None = Differs
judged_again line (Some k) = if bytes_eq k.line line then Kept k.answer else Differs

-- a number behind the last one: the next is fresh, a greater one is ahead
abbrev pub judged_behind : ℕ → ℕ → Judged
judged_behind last n = if n == last + 1 then Fresh else Ahead last

-- what a number of the caller comes to, with that request line: past where it is at most the last one less 16, judged by what is kept where
-- it is one of the last 16, else fresh or ahead
abbrev pub judged : Caller → ℕ → List ℕ → Judged
judged c n line =
    if nat_le n (c.last - most_kept) then Past c.last
    else (if nat_le n c.last then judged_again line (kept_at c.kept n) else judged_behind c.last n)

-- what is answered of it
abbrev pub Tells : Judgement → Judged → Type 0
Tells judgement.Fresh j = j ≡ Fresh
Tells (judgement.Kept answer) j = j ≡ Kept answer.now
Tells judgement.Differs j = j ≡ Differs
Tells (judgement.Past last) j = j ≡ Past last
Tells (judgement.Ahead last) j = j ≡ Ahead last

-- the same of a caller, where there is one
abbrev pub JudgesIn : Option Caller → ℕ → List ℕ → Judgement → Type 0
JudgesIn None n line answer = ⊥
JudgesIn (Some c) n line answer = Tells answer (judged c n line)

-- the number behind the last accepted one of a caller, where there is one
abbrev pub IsNext : Option Caller → ℕ → Type 0
IsNext None n = ⊥
IsNext (Some c) n = n ≡ c.last + 1

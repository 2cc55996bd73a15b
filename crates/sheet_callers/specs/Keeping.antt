-- The accepted requests that are kept.
use Rattle.std.specs.Prelude.{◌≡◌, ℕ, zero, suc, ◌-◌, List, [], ◌∷◌, ◌++◌, length, map, drop, slice_set, Option, Some, None}
use Rattle.std.specs.List.{range_with_len}
use Rattle.sheet_requests.specs.declared.reply.Answer.{Answer}
use Rattle.sheet_callers.specs.Callers.{Caller, KeptRequest, caller_at}

-- how many accepted requests of a caller are kept
abbrev pub most_kept : ℕ
most_kept = 16

-- the last so many of a list
abbrev pub last_of : {A : Type 0} → ℕ → List A → List A
last_of n xs = drop (length xs - n) xs

-- one more accepted request of a caller: it is its last one, and of the kept ones the last 16 stay
abbrev pub with_kept : Caller → ℕ → List ℕ → Answer → Caller
with_kept c n line answer = record c {
  last = n;
  kept = last_of most_kept (c.kept ++ record { number = n; line = line; answer = answer } ∷ []);
}

-- the caller of that number has changed
abbrev pub with_caller : List Caller → ℕ → Caller → List Caller
with_caller cs zero c = cs
with_caller cs (suc k) c = slice_set cs k c

-- the same where there is such a caller
abbrev kept_in : List Caller → ℕ → ℕ → List ℕ → Answer → Option Caller → List Caller
kept_in cs caller n line answer None = cs
kept_in cs caller n line answer (Some c) = with_caller cs caller (with_kept c n line answer)

-- one more accepted request of the caller of that number
abbrev pub keeping : List Caller → ℕ → ℕ → List ℕ → Answer → List Caller
keeping cs caller n line answer = kept_in cs caller n line answer (caller_at cs caller)

-- the numbers of kept requests
abbrev pub numbers_of : List KeptRequest → List ℕ
numbers_of ks = map (λ (k : KeptRequest). k.number) ks

-- the kept requests are those of the last 16 accepted numbers in order, or of all where they are fewer
abbrev pub KeepsLast : Caller → Type 0
KeepsLast c = numbers_of c.kept ≡ last_of most_kept (range_with_len 1 c.last)

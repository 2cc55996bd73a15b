-- Callers as a plain list.
use Rattle.std.specs.Prelude.{ℕ, zero, suc, ◌+◌, ◌<◌, ◌≤◌, List, [], length, slice_get, position, codes, bytes_eq, Option, None, option_map, option_and_then}
use Rattle.sheet_requests.specs.declared.reply.Answer.{Answer}

-- an accepted request that is kept: its number, its printed line, and its answer
pub record KeptRequest : Type 0 where
  pub number : ℕ
  pub line : List ℕ
  pub answer : Answer

-- a caller: its key and name, its object, which the operator lacks, its last accepted number, and its kept requests
pub record Caller : Type 0 where
  pub key : List ℕ
  pub name : List ℕ
  pub object : Option ℕ
  pub last : ℕ
  pub kept : List KeptRequest

-- a caller of whom no request was accepted yet
abbrev pub new_caller : List ℕ → List ℕ → Option ℕ → Caller
new_caller key name object = record { key = key; name = name; object = object; last = 0; kept = [] }

-- the operator's name
abbrev pub operator_name : List ℕ
operator_name = codes "operator"

-- the operator with that key, at the start
abbrev pub operator : List ℕ → Caller
operator key = new_caller key operator_name None

-- the caller of that number; they are numbered from 1
abbrev pub caller_at : List Caller → ℕ → Option Caller
caller_at cs zero = None
caller_at cs (suc k) = slice_get cs k

-- the number of a caller, from 1 to the count
abbrev pub IsWithin : List Caller → ℕ → Type 0
IsWithin cs n = (0 < n) × (n ≤ length cs)

-- the number of the caller with that key
abbrev pub with_key : List Caller → List ℕ → Option ℕ
with_key cs key = option_map (λ k. k + 1) (position (λ (c : Caller). bytes_eq key c.key) cs)

-- the number of the caller with that name
abbrev pub with_name : List Caller → List ℕ → Option ℕ
with_name cs name = option_map (λ k. k + 1) (position (λ (c : Caller). bytes_eq name c.name) cs)

-- the object of the caller of that number
abbrev pub object_of : List Caller → ℕ → Option ℕ
object_of cs n = option_and_then (λ (c : Caller). c.object) (caller_at cs n)

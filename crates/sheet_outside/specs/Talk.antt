-- What a connection and a listener tell. `None` tells nothing, and what tells nothing never tells again.
use Rattle.std.specs.Prelude.{◌≡◌, ℕ, ◌<◌, List, [], ◌∷◌, ◌++◌, length, take, Option, Some, None, Result, Ok, Err}
use Rattle.sheet_outside.specs.Told.{WhereTold}

-- the bytes that are left to come, those that were received, and those that were sent
pub record Talk : Type 0 where
  pub left : List ℕ
  pub received : List ℕ
  pub sent : List ℕ

abbrev pub new_talk : List ℕ → Talk
new_talk bytes = record { left = bytes; received = []; sent = [] }

-- the bytes came from the front of those left; none came only at the end or for an empty piece
pub record Receives (count : ℕ) (piece : List ℕ) (old new : Talk) : Type 0 where
  pub left : old.left ≡ take count piece ++ new.left
  pub end : count ≡ 0 → 0 < length piece → new.left ≡ []
  pub received : new.received ≡ old.received ++ take count piece
  pub sent : new.sent ≡ old.sent

-- a call to receive; a failed one takes nothing
abbrev pub ReceiveTakes : {E : Type 0} → Option Talk → Option Talk → Result ℕ E → List ℕ → Type 0
ReceiveTakes before now (Ok count) piece = WhereTold (Receives count piece) before now
ReceiveTakes before now (Err e) piece = WhereTold (λ old new. new ≡ old) before now

-- the front of a piece was sent
pub record Sends (count : ℕ) (piece : List ℕ) (old new : Talk) : Type 0 where
  pub left : new.left ≡ old.left
  pub received : new.received ≡ old.received
  pub sent : new.sent ≡ old.sent ++ take count piece

abbrev pub SendAdds : {E : Type 0} → Option Talk → Option Talk → Result ℕ E → List ℕ → Type 0
SendAdds before now (Ok count) piece = WhereTold (Sends count piece) before now
SendAdds before now (Err e) piece = WhereTold (λ old new. new ≡ old) before now

-- a connection that is finished: what it told, and how often receiving and sending failed
pub record Finished : Type 0 where
  pub talk : Talk
  pub receive_faults : ℕ
  pub send_faults : ℕ

-- the bytes of each connection that will come, and the finished connections, each in order
pub record Door : Type 0 where
  pub to_come : List (List ℕ)
  pub finished : List Finished

-- what is told stays as it was
abbrev pub Same : {A : Type 0} → Option A → Option A → Type 0
Same before now = WhereTold (λ old new. new ≡ old) before now

-- the first connection that was to come is there, and nothing was received or sent on it yet
pub record Comes (talk : Option Talk) (old new : Door) : Type 0 where
  pub bytes : List ℕ
  pub came : old.to_come ≡ bytes ∷ new.to_come
  pub finished : new.finished ≡ old.finished
  pub told : talk ≡ Some (new_talk bytes)

-- no connection will come
pub record NoneComes (old new : Door) : Type 0 where
  pub none : old.to_come ≡ []
  pub same : new ≡ old

-- a call to accept; on a connection that it gives nothing has failed yet, whether or not anything is told
abbrev pub Accepts : {L E : Type 0} → (L → Option Talk) → (L → ℕ) → (L → ℕ) → Option Door → Option Door → Result (Option L) E → Type 0
Accepts told receive_faults send_faults before now (Ok (Some link)) =
    (receive_faults link ≡ 0) × (send_faults link ≡ 0) × WhereTold (Comes (told link)) before now
Accepts told receive_faults send_faults before now (Ok None) = WhereTold NoneComes before now
Accepts told receive_faults send_faults before now (Err e) = Same before now

-- A connection was finished: a listener that still tells was given back one that still tells.
pub record Finishes (talk : Option Talk) (receive_faults send_faults : ℕ) (old new : Door) : Type 0 where
  pub last : Talk
  pub told : talk ≡ Some last
  pub to_come : new.to_come ≡ old.to_come
  pub finished : new.finished ≡ old.finished ++ record { talk = last; receive_faults = receive_faults; send_faults = send_faults } ∷ []

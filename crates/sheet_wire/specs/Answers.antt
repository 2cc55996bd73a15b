-- What the steps of reading a request answer: what is told, or the first refusal.
use Rattle.std.specs.Prelude.{◌≡◌, Result, Ok, Err}
use Rattle.sheet_requests.specs.declared.request.WireRefusal.{WireRefusal}
use Rattle.sheet_requests.specs.declared.request.WireRefusal.TheVariants.{NoMemory}

-- a call answers what is told; want of memory is free
abbrev pub Answers : {A : Type 0} → Result A WireRefusal → Result A WireRefusal → Type 0
Answers (Ok x) told = told ≡ Ok x
Answers (Err NoMemory) told = Unit {0}
Answers (Err e) told = told ≡ Err e

-- a refusal is the one that is told; want of memory is free
abbrev pub IsRefusal : WireRefusal → WireRefusal → Type 0
IsRefusal NoMemory told = Unit {0}
IsRefusal e told = e ≡ told

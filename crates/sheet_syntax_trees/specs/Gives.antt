-- How a function answers that may lack memory.
use Rattle.std.specs.Prelude.{◌≡◌, Result, Ok, Err}

-- what a function gives is this, unless memory ran out
abbrev pub Gives : {X E : Type 0} → Result X E → X → Type 0
Gives (Ok x) told = x ≡ told
Gives (Err e) told = Unit {0}

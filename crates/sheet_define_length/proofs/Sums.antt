-- Counts add up.
use Rattle.std.proofs.Common.{◌≡◌, ℕ, ◌+◌, ◌^◌, ◌<◌, List, [], ◌++◌, length, arith, length-append}
use Rattle.sheet_define_length.specs.Counting.{Counts}

pub both : (s m e : ℕ) (a b : List ℕ) → Counts s m a → Counts m e b → Counts s e (a ++ b)
both s m e a b u v =
    let l : length (a ++ b) ≡ length a + length b = length-append a b in
    let g = u.exact in
    let h = v.exact in
    record { exact = omega (arith, l, g, h) }

pub none : (s : ℕ) → s < 2 ^ 64 → Counts s s []
none s h = record { exact = omega (arith, h) }

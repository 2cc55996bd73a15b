use Rattle.std.proofs.Common.{◌≡◌, [], drop, map, take}
use Rattle.sheet_csv.specs.Rows.{bad_field}
use Rattle.sheet_csv.proofs.header.bad_field.Given as goal

abbrev pub invariant-loop-k : goal.invariant-loop-k
invariant-loop-k l =
    bad_field l.parameters (map (λ t. t.now) (take l.k l.header)) (map (λ t. t.now) (drop l.k l.header)) ≡ bad_field l.parameters [] (map (λ t. t.now) l.header)

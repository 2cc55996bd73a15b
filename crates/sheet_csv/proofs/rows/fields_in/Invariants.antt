use Rattle.std.proofs.Common.{◌≡◌, map, take}
use Rattle.csv.specs.Records.{fields_of}
use Rattle.sheet_csv.proofs.rows.fields_in.Given as goal

abbrev pub invariant-loop-k : goal.invariant-loop-k
invariant-loop-k l = map (λ f. f.now) l.fields.items ≡ take l.k (fields_of l.row)

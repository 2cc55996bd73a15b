use Rattle.std.proofs.Common.{arith, ap, map, ◌∙◌, Bor, List, ℕ}
use Rattle.csv.specs.Records.{fields_of}
use Rattle.sheet_csv.proofs.HeaderLemmas.{pushed}
use Rattle.sheet_csv.proofs.rows.fields_in.Goals as goal

pub loop-k-preserved : goal.loop-k-preserved
loop-k-preserved c =
    ap (map (λ (t : Bor (List ℕ)). t.now)) c.in_ok-push.ensures.items
    ∙ pushed c.loop-k.fields.items c.field_at.result (fields_of c.args.row.now) c.loop-k.k (omega (arith, c.len-k-end.ensures)) c.loop-k.invariant c.field_at.ensures

use Rattle.std.proofs.Common.{arith, length, ap, ◌∙◌}
use Rattle.std.specs.Prelude.{reverse}
use Rattle.std.proofs.lemmas.List.{length-reverse, length_push}
use Rattle.sheet_state_rows.specs.Seen.{seen}
use Rattle.sheet_state_rows.proofs.Undo.{past_length}
use Rattle.sheet_state_rows.proofs.tables.Tables.begin.Goals as goal

pub prove-unreachable-requires : goal.prove-unreachable-requires
prove-unreachable-requires c =
    let few = past_length (reverse c.self.inside.edits.items) (seen c.self.inside.rows) in
    let as_many = length-reverse c.self.inside.edits.items in
    let counted = c.self.invariant.1 in
    let long = ap length c.in_ok-push.ensures.items ∙ length_push c.self.inside.edits.items _ in
    omega (arith, ap length c.as_slice-edits.ensures.value)

use Rattle.std.proofs.Common.{◌∙◌, sym, ap, length}
use Rattle.std.specs.Prelude.{reverse}
use Rattle.sheet_state_rows.specs.Seen.{seen}
use Rattle.sheet_state_rows.proofs.Undo.{past_counters, undo_counters}
use Rattle.sheet_state_rows.proofs.tables.Tables.count.Goals as goal

pub invariant_of-self : goal.invariant_of-self
invariant_of-self c =
    let es = reverse c.self.inside.edits.items in
    let t = seen c.self.inside.rows in
    (undo_counters es t c.args.counters c.self.invariant.0, c.self.invariant.1 ∙ ap length (sym (past_counters es t c.args.counters)))

pub returns-clause-earlier : goal.returns-clause-earlier
returns-clause-earlier c =
    past_counters (reverse c.self.inside.edits.items) (seen c.self.inside.rows) c.args.counters ∙ ap (λ v. v.earlier) c.self.view_is

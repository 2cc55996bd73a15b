use Rattle.std.proofs.Common.{◌∙◌, sym, ap, subst}
use Rattle.std.specs.Prelude.{filter, List}
use Rattle.sheet_state_rows.specs.declared.row.SetRow.{SetRow}
use Rattle.sheet_state_references.specs.Below.{NeverFalls}
use Rattle.sheet_state_references.specs.Order.{is_held}
use Rattle.sheet_state.specs.Places.{IsListed}
use Rattle.sheet_state.proofs.Listed.{listed_held}
use Rattle.sheet_state.proofs.Underneath.{never_falls}
use Rattle.sheet_state.proofs.state.purge.Goals as goal

pub keep_held-requires : goal.keep_held-requires
keep_held-requires c = subst NeverFalls (sym c.cells.ensures) (never_falls c.args.tables.now.present.cells c.requires.sound.cells)

pub returns-then-len-counters : goal.returns-then-len-counters
returns-then-len-counters c =
    subst (λ rs. IsListed rs c.args.tables.now.present)
    (sym (c.keep_held.ensures ∙ ap (λ (rows : List SetRow). filter (is_held rows) c.args.references.now) c.cells.ensures))
    (listed_held c.args.references.now c.args.tables.now.present c.requires.listed)

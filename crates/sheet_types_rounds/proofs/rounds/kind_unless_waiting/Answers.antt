use Rattle.std.proofs.Common.{rules, ◌≡◌, sym, false, true, ◌∷◌, []}
use Rattle.std.specs.Prelude.{codes}
use Rattle.sheet_types_rounds.specs.Mentions.{mentions}
use Rattle.sheet_types_rounds.specs.Rounds.{at_column}
use Rattle.sheet_types_rounds.specs.Waiting.{waits}
use Rattle.sheet_types_rounds.proofs.WaitLemmas.{blocked}
use Rattle.sheet_types_rounds.proofs.rounds.kind_unless_waiting.Goals as goal

pub returns-then-not-mentions : goal.returns-then-not-mentions
returns-then-not-mentions c =
    let late : waits c.args.tree.now false c.args.known.now ≡ true = search rules in
    let free : mentions c.args.tree.now (codes "this" ∷ []) ≡ false = search rules in
    sym (blocked c.args.tree.now false c.args.known.now c.args.columns.now c.args.kinds.now
    (at_column c.args.columns.now c.args.kinds.now c.args.column).variables c.requires.known (free, tt) late)

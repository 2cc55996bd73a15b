use Rattle.std.proofs.Common.{◌≡◌, rules, None}
use Rattle.std.specs.Prelude.{IsSome}
use Rattle.sheet_machine.proofs.Answering.{is_in_doubt, is_sure, settled_at_once}
use Rattle.sheet_machine.proofs.recording.settle.Goals as goal

pub settle_doubt-requires-clause-in_doubt : goal.settle_doubt-requires-clause-in_doubt
settle_doubt-requires-clause-in_doubt g c =
    let some : IsSome c.args.held.now.pending = search rules in
    is_in_doubt c.args.held.now c.args.journal.now c.requires.between some

pub returns-else-is_some-clause-settles : goal.returns-else-is_some-clause-settles
returns-else-is_some-clause-settles g c =
    let none : c.args.held.now.pending ≡ None = search rules in
    settled_at_once c.args.held.now c.args.journal.now _ (is_sure c.args.held.now c.args.journal.now c.requires.between none)

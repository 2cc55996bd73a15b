use Rattle.std.proofs.Common.{◌+◌, sym, subst}
use Rattle.sheet_types_rounds.specs.Waiting.{HoldKnownBelow}
use Rattle.sheet_types_rounds.proofs.KnownLemmas.{known_noted, known_open}
use Rattle.sheet_types_rounds.proofs.known.note_known.Goals as goal

pub returns-in_ok-add : goal.returns-in_ok-add
returns-in_ok-add c =
    subst (λ ns. HoldKnownBelow (c.args.number + 1) ns c.args.columns.now c.args.kinds.now) (sym c.in_ok-add.ensures)
    (known_noted c.args.number c.args.known.now c.name.result.now c.args.columns.now c.args.kinds.now c.requires.before c.name.ensures)

pub returns-else-has_type : goal.returns-else-has_type
returns-else-has_type c =
    known_open c.args.number c.args.known.now c.args.columns.now c.args.kinds.now c.requires.before (c.has_type.ensures c.if-has_type.false)

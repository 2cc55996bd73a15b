use Rattle.std.proofs.Common.{◌≡◌, drop}
use Rattle.sheet_types_outline.specs.Types.{follow}
use Rattle.sheet_types_outline.proofs.types.follow.Given as goal

abbrev pub invariant-loop-name : goal.invariant-loop-name
invariant-loop-name l = follow l.columns l.column (drop l.name-index l.names) ≡ follow l.columns 0 l.names

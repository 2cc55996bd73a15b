use Rattle.std.proofs.Common.{rules, arith}
use Rattle.objsheet_check.proofs.Pieces.{taken_none, taken_more, takes, on_err, read_to_end, read_long}
use Rattle.objsheet_check.proofs.checking.read_text.Goals as goal

pub pieces-init : goal.pieces-init
pieces-init g c = record { taken = taken_none _ _ (search rules); piece = search rules; later = search (rules, arith) }

pub returns-in_err-read_piece-clause-stopped : goal.returns-in_err-read_piece-clause-stopped
returns-in_err-read_piece-clause-stopped g c =
    on_err _ _ c.from_residual-in_err-read_piece.result _ (takes _ _ _ _ c.pieces.invariant.taken c.in_err-read_piece.ensures.stopped)

pub returns-then-not-branch-clause-read : goal.returns-then-not-branch-clause-read
returns-then-not-branch-clause-read g c =
    let end = c.in_ok-read_piece.ensures.end (search rules) in
    read_to_end _ _ _ _ (taken_more _ _ _ _ _ c.pieces.invariant.taken c.in_ok-read_piece.ensures.adds) end

pub pieces-preserved : goal.pieces-preserved
pieces-preserved g c = record {
  taken = taken_more _ _ _ _ _ c.pieces.invariant.taken c.in_ok-read_piece.ensures.adds;
  piece = omega (arith, c.pieces.invariant.piece, c.in_ok-read_piece.ensures.piece);
  later = omega (arith, c.pieces.invariant.later, c.in_ok-read_piece.ensures.later);
}

pub returns-clause-read : goal.returns-clause-read
returns-clause-read g c = read_long _ _ _ (search (rules, arith)) c.pieces.invariant.taken

use Rattle.std.proofs.Common.{Ok}
use Rattle.sheet_outside.specs.declared.Failed.{Failed}
use Rattle.sheet_outside.specs.DiskCalls.{Looks, TellsLength}
use Rattle.sheet_outside.proofs.Telling.{told_then}
use Rattle.sheet_journal.specs.JournalCalls.{Observes, GivesPiece, piece}
use Rattle.sheet_journal.proofs.Advancing.{piece_given}
use Rattle.sheet_journal.proofs.Looking.{observed, observes_then}
use Rattle.sheet_journal.proofs.ahead.read_piece.Goals as goal

pub returns-in-Ok-clause-file : goal.returns-in-Ok-clause-file
returns-in-Ok-clause-file g c =
    told_then (Looks (TellsLength {E = Failed} (Ok c.in-Ok.size))) (Observes (GivesPiece c.args.place c.count_ahead.result c.read_up_to.result))
    (Observes (GivesPiece c.args.place piece c.read_up_to.result)) _ _ _
    (λ x y z l o. observes_then (TellsLength {E = Failed} (Ok c.in-Ok.size)) (GivesPiece c.args.place c.count_ahead.result c.read_up_to.result)
    (GivesPiece c.args.place piece c.read_up_to.result) x y z
    (λ file p q. piece_given Failed c.args.place c.in-Ok.size c.count_ahead.result c.read_up_to.result file c.count_ahead.ensures p q)
    (observed (TellsLength {E = Failed} (Ok c.in-Ok.size)) (TellsLength {E = Failed} (Ok c.in-Ok.size)) x y (λ file p. p) l) o)
    c.in-Ok.ensures.files c.read_up_to.ensures.file

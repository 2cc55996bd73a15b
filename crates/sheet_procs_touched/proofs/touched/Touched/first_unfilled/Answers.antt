use Rattle.std.proofs.Common.{sym, subst}
use Rattle.sheet_state.specs.Stored.{book}
use Rattle.sheet_procs_touched.specs.Touched.{Covers}
use Rattle.sheet_procs_touched.proofs.Finding.{first_found}
use Rattle.sheet_procs_touched.proofs.touched.Touched.first_unfilled.Goals as goal

pub loop-cell-init : goal.loop-cell-init
loop-cell-init c =
    let w = book c.args.columns.now c.args.state.now.present.state in
    first_found w c.requires.formed c.self.inside.cells.keys c.self.invariant (subst (Covers w) (sym c.self.view_is) c.requires.covered)

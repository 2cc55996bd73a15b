use Rattle.std.proofs.Common.{subst}
use Rattle.sheet_columns.specs.declared.fault.Place.TheVariants as place
use Rattle.sheet_engine.specs.Started.{IsFoundAnswer}
use Rattle.sheet_engine.proofs.Results.{cell_comes, if_ok}
use Rattle.sheet_engine.proofs.scene.work_cell.Goals as goal

pub returns : goal.returns
returns g c = record {
  comes =
      if_ok c.evaluated.result
      (λ a h.
      cell_comes c.args.book.now c.args.state.now c.requires.served c.args.standings.now c.requires.results c.formula.result.now
      (c.args.object, c.args.column) c.requires.there c.formula.ensures.formula a
      (subst
      (λ v. IsFoundAnswer c.args.book.now c.args.state.now c.args.standings.now c.formula.result.now (place.Cell c.args.object c.args.column) v a)
      c.in_ok-this.ensures h))
      c.evaluated.ensures.answer;
}

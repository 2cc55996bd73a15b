use Rattle.std.proofs.Common.{sym, ap, ◌∙◌, drop, ◌+◌, ◌++◌}
use Rattle.std.specs.List.{filter_map}
use Rattle.std.specs.Option.{option_to_list as listed}
use Rattle.sheet_eval.proofs.Picking.{pick_none, pick_first, pick_second}
use Rattle.sheet_meaning.specs.Formula.{object_in}
use Rattle.sheet_procs.proofs.formulas.one_object.Goals as goal
use Rattle.sheet_procs.proofs.formulas.one_object.Goals.{in-None, in-Some+else-is_some}

pub returns-then-is_some : goal.returns-then-is_some
returns-then-is_some c =
    pick_second object_in c.args.set.now c.loop-k.k c.at.result.now c.at.ensures c.loop-k.found c.loop-k.invariant c.args.place (sym c.if-is_some.ensures)
    c.in-Some.held (sym c.in-Some.ensures)

pub loop-k-preserved : goal.loop-k-preserved
loop-k-preserved c =
    let rest = filter_map object_in (drop (c.loop-k.k + 1) c.args.set.now) in
    elim c.match-object_in.branch [
      | in-None w ↦
          pick_none object_in c.args.set.now c.loop-k.k c.at.result.now c.at.ensures c.loop-k.found c.loop-k.invariant (sym w.in-None.ensures)
          ∙ ap (λ o. listed o ++ rest) (sym w.found-is)
      | in-Some+else-is_some w ↦
          pick_first object_in c.args.set.now c.loop-k.k c.at.result.now c.at.ensures c.loop-k.found c.loop-k.invariant (sym w.if-is_some.ensures)
          w.in-Some.held (sym w.in-Some.ensures)
          ∙ ap (λ o. listed o ++ rest) (sym w.found-is)
    ]

use Rattle.std.proofs.Common.{rules, ◌≡◌, ◌<◌, ◌-◌, ◌∙◌, sym}
use Rattle.sheet_types_rounds.specs.Rounds.{formulas_of}
use Rattle.sheet_types_rounds.specs.Rounds.{round as round_of}
use Rattle.sheet_types_rounds.proofs.TypeLemmas.{one_round, still}
use Rattle.sheet_types_rounds.proofs.SteadyLemmas.{all_steady, steady_after}
use Rattle.sheet_types_rounds.proofs.rounds.final_kinds.Goals as goal

pub returns-then-is_same : goal.returns-then-is_same
returns-then-is_same c =
    let same : round_of c.args.columns.now (formulas_of c.as_slice-declarations.result.now) c.loop.kinds ≡ c.loop.kinds = search rules in
    let steady = still c.args.columns.now (formulas_of c.as_slice-declarations.result.now) c.loop.kinds same (c.count_formulas-end.result - c.loop.counter) in
    rw (sym c.as_slice-declarations.ensures) (sym steady ∙ c.loop.invariant.0)

pub loop-preserved : goal.loop-preserved
loop-preserved c =
    let grown : c.in_ok-next.next ≡ round_of c.args.columns.now (formulas_of c.as_slice-declarations.result.now) c.loop.kinds = search rules in
    let before : c.loop.counter < c.count_formulas-end.result = search rules in
    let one = one_round c.args.columns.now (formulas_of c.as_slice-declarations.result.now) c.loop.kinds c.count_formulas-end.result c.loop.counter before in (
      rw grown (sym one ∙ c.loop.invariant.0),
      steady_after c.args.columns.now c.loop.kinds c.in_ok-next.next c.in_ok-changed.changed.all c.in_ok-changed.changed.names.items
          (formulas_of c.as_slice-declarations.result.now) (search rules) (search rules) grown,
    )

pub loop-init : goal.loop-init
loop-init c = (search rules, search (rules, all_steady))

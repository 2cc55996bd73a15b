use Rattle.std.proofs.Common.{arith, ◌≡◌, ◌∙◌, length, sym, ap, true, false}
use Rattle.sheet_types.proofs.FillLemmas.{settled_count, all_settled, settled_turn, given, left}
use Rattle.sheet_types.proofs.elaboration.fill.Goals as goal
use Rattle.sheet_types.proofs.elaboration.fill.Goals.{in-Formula, in_default, then-matches, else-matches}

pub get-requires : goal.get-requires
get-requires c =
    let count = ap length c.loop-number.invariant ∙ settled_count c.args.kinds.now 0 c.loop-number.number c.args.columns.now in
    omega (arith, count, c.loop-number-test.true, c.count-number-end.ensures.count)

pub loop-number-preserved : goal.loop-number-preserved
loop-number-preserved c =
    let old = c.loop-number.columns in
    let k = c.loop-number.number in
    let x = c.get.result.now in
    settled_turn c.args.kinds.now c.args.columns.now old c.if-matches.columns k x c.loop-number.invariant c.get.ensures
    (elim c.if-matches.branch [
      | then-matches w ↦ elim c.match-matches.branch [
        | in-Formula v ↦ given c.args.kinds.now old c.if-matches.columns k x v.in-Formula.kind w.kind_at-kind.result v.in-Formula.is w.kind_at-kind.ensures
            (w.columns-is ∙ w.set.ensures)
        | in_default v ↦ let no : true ≡ false = sym w.if-matches.true ∙ v.matches-is in cc
      ]
      | else-matches w ↦ elim c.match-matches.branch [
        | in-Formula v ↦ let no : true ≡ false = sym v.matches-is ∙ w.if-matches.false in cc
        | in_default v ↦ left c.args.kinds.now old c.if-matches.columns k x c.get.ensures v.in_default.not-Formula w.columns-is
      ]
    ])

pub returns-clause-filled : goal.returns-clause-filled
returns-clause-filled c =
    c.loop-number.invariant
    ∙ all_settled c.args.kinds.now 0 c.loop-number.number c.args.columns.now (omega (arith, c.loop-number-test.false, c.count-number-end.ensures.count))

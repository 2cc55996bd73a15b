use Rattle.std.proofs.Common.{sym, subst, arith}
use Rattle.sheet_define_length.specs.Counting.{Counts}
use Rattle.sheet_define_readback.proofs.Closings.{closing_next, closing_none}
use Rattle.sheet_define_length.proofs.Sums.{both, none}
use Rattle.sheet_define_length.proofs.column.count_ends.Goals as goal

pub loop-left-preserved : goal.loop-left-preserved
loop-left-preserved c =
    let counted = c.count_end-sum.ensures in
    let exact = counted.exact in (
      omega (arith, exact),
      λ e h.
          c.loop-left.invariant.1 e
          (subst (λ t. Counts c.loop-left.sum e t) (sym (closing_next c.loop-left.left c.args.depth c.loop-left-test.true)) (both _ _ _ _ _ counted h)),
    )

pub returns : goal.returns
returns c =
    c.loop-left.invariant.1 c.loop-left.sum
    (subst (λ t. Counts c.loop-left.sum c.loop-left.sum t) (sym (closing_none c.loop-left.left c.args.depth c.loop-left-test.false))
    (none c.loop-left.sum c.loop-left.invariant.0))

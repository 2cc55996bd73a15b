use Rattle.std.proofs.Common.{arith}
use Rattle.sheet_outside.specs.declared.Failed.{Failed}
use Rattle.sheet_lines.proofs.Sending.{gains_more}
use Rattle.sheet_lines.proofs.send.write_all.Goals as goal

pub loop-at-preserved : goal.loop-at-preserved
loop-at-preserved g c = record {
  within = omega (arith, c.in_ok-count.ensures.bound);
  gained = gains_more Failed _ _ _ c.args.text.now c.split_at.result.1.now c.loop-at.at _ c.split_at.ensures.back c.loop-at.invariant.gained
      c.in_ok-count.ensures.bytes;
  later = omega arith;
}

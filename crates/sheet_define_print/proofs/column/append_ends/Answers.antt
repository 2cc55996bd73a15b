use Rattle.std.proofs.Common.{◌-◌, ◌++◌, sym, ap, ◌∙◌, append_assoc, append-nil}
use Rattle.std.specs.Prelude.{codes}
use Rattle.sheet_define_data.specs.Printing.{closings, line_at, margin}
use Rattle.sheet_define_readback.proofs.Closings.{closing_next, closing_none}
use Rattle.sheet_define_print.proofs.column.append_ends.Goals as goal

pub loop-left-preserved : goal.loop-left-preserved
loop-left-preserved c =
    let rest = closings ((c.loop-left.left - 1) - c.args.depth) c.args.depth in
    ap (λ l. l ++ rest) c.in_ok-append_end.ensures ∙ append_assoc c.loop-left.out.items (line_at (margin (c.loop-left.left - 1)) (codes "}")) rest
    ∙ ap (λ l. c.loop-left.out.items ++ l) (sym (closing_next c.loop-left.left c.args.depth c.loop-left-test.true)) ∙ c.loop-left.invariant

pub returns : goal.returns
returns c =
    sym (append-nil c.loop-left.out.items) ∙ ap (λ l. c.loop-left.out.items ++ l) (sym (closing_none c.loop-left.left c.args.depth c.loop-left-test.false))
    ∙ c.loop-left.invariant

use Rattle.std.proofs.Common.{sym, ap, ◌∙◌, []}
use Rattle.std.specs.Prelude.{fold}
use Rattle.sheet_values.specs.Sets.{union}
use Rattle.sheet_eval_sets.proofs.Unions.{last_apart}
use Rattle.sheet_eval_sets.proofs.gathering.Gathering.join.Goals as goal

pub loop-last-preserved-in_ok-part : goal.loop-last-preserved-in_ok-part
loop-last-preserved-in_ok-part c =
    ap (union (fold union [] c.pop_short.new.parts.items)) c.in_ok-part.ensures
    ∙ sym (last_apart _ _ _ _ c.in-Some.ensures)
    ∙ c.loop-last.invariant

pub loop-last-preserved : goal.loop-last-preserved
loop-last-preserved c =
    ap (union (fold union [] c.pop_short.new.parts.items)) c.in_ok-part.ensures
    ∙ sym (last_apart _ _ _ _ c.in-Some.ensures)
    ∙ c.loop-last.invariant

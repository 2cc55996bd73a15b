use Rattle.std.proofs.Common.{rules, ◌≡◌, ◌++◌, ◌∷◌, []}
use Rattle.sheet_types_rounds.proofs.TypeLemmas.{one_more, all_made}
use Rattle.sheet_types_rounds.proofs.first.column_kinds.Goals as goal

pub loop-number-preserved : goal.loop-number-preserved
loop-number-preserved c =
    let grown : c.push.new.self ≡ c.loop-number.kinds ++ c.kind_of_column.result ∷ [] = search rules in
    let more = one_more c.loop-number.kinds c.args.columns.now c.loop-number.number _ c.get.ensures c.loop-number.invariant in
    rw (grown, c.kind_of_column.ensures) more

pub returns-clause-kinds : goal.returns-clause-kinds
returns-clause-kinds c = all_made c.loop-number.kinds c.args.columns.now c.loop-number.number (search rules) c.loop-number.invariant

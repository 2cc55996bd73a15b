use Rattle.std.proofs.Common.{rules, ◌≡◌, ◌+◌, ◌++◌, ◌∷◌, [], Some, sym, subst}
use Rattle.sheet_columns.specs.Tree.{name_of}
use Rattle.sheet_types_rounds.specs.Mentions.{AgreeBelow}
use Rattle.sheet_types_rounds.proofs.SteadyLemmas.{agree_noted}
use Rattle.sheet_types_rounds.proofs.rounds.note_changed.Goals as goal

pub returns-in_ok-push : goal.returns-in_ok-push
returns-in_ok-push c =
    let noted : c.push.new.self.items ≡ c.args.names.now.items ++ c.in_ok-copy.field-0 ∷ [] = search rules in
    let is : name_of c.args.columns.now c.args.number ≡ Some c.in_ok-copy.field-0 = search rules in
    subst (λ names. AgreeBelow (c.args.number + 1) names c.args.columns.now c.args.old.now c.args.new.now) (sym noted)
    (agree_noted c.args.number c.args.names.now.items c.in_ok-copy.field-0 c.args.columns.now c.args.old.now c.args.new.now c.requires.before is)

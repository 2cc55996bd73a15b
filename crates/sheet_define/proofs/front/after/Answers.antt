use Rattle.std.proofs.Common.{◌≡◌, rules, Some, refl, sym, ◌∙◌, List, ◌∷◌}
use denote.Enum.Bare.{same_true}
use Rattle.sheet_syntax_trees.specs.declared.token.Token.{Token}
use Rattle.sheet_define_reading.specs.declared.mark.Mark.{Mark}
use Rattle.sheet_define_reading.specs.contracts.mark.Mark.{the_type}
use Rattle.sheet_define_reading.specs.Marks.{mark_of}
use Rattle.sheet_define_reading.specs.Reading.{after}
use Rattle.sheet_define_reading.proofs.MarkLemmas.{same_self}
use Rattle.sheet_define.proofs.front.after.Goals as goal

after_some : (m : Mark) (t : Token) (ts rest : List Token) → rest ≡ t ∷ ts → mark_of t.kind ≡ m → after m rest ≡ Some ts
after_some m t ts rest e is = let same = same_self (mark_of t.kind) m is in rw (e, same) refl

pub returns-in-Some : goal.returns-in-Some
returns-in-Some c =
    sym (after_some c.args.mark c.in-Some.token.now c.in-Some.behind.now c.args.rest.now c.in-Some.ensures.cases.0
    (sym c.mark_of.ensures ∙ same_true the_type (search rules) _ _ (sym c.if-eq.ensures)))

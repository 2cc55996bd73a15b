use Rattle.std.proofs.Common.{rules, subst, sym}
use Rattle.httparse.specs.Grammar.{HasNoSection, MayBecomeSection}
use Rattle.sheet_http.specs.Fronts.{AreFields}
use Rattle.sheet_http.proofs.FrontLemmas as lemma
use Rattle.sheet_http.proofs.front.are_fields.Goals as goal

pub returns-in-Ok-Partial : goal.returns-in-Ok-Partial
returns-in-Ok-Partial c =
    let none : HasNoSection c.args.lines.now = search rules in
    let may : MayBecomeSection c.args.lines.now = search rules in
    let lines = c.requires.1 in
    λ _. subst AreFields (sym lines) (lemma.are_fields c.requires.0 (subst HasNoSection lines none) (subst MayBecomeSection lines may))

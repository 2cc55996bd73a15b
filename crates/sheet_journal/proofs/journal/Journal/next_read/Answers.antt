use Rattle.std.proofs.Common.{◌≡◌, List, ℕ, refl, ◌∙◌, subst, rules}
use Rattle.sheet_journal.specs.declared.head.Head.TheVariants.{Torn}
use Rattle.sheet_journal.specs.Heads.{IsHead}
use Rattle.sheet_journal.proofs.journal.Journal.next_read.Goals as goal

pub returns-in-Torn-clause-reads : goal.returns-in-Torn-clause-reads
returns-in-Torn-clause-reads c =
    let ahead : c.self.inside.ahead ≡ c.args.self.now.ahead = search rules in
    let told : IsHead c.args.self.now.ahead 0 Torn = subst (λ (l : List ℕ). IsHead l 0 Torn) (c.as_slice.ensures ∙ ahead) c.in-Torn.ensures.told in
    (refl, search rules, told.0, told.1)

use Rattle.std.proofs.Common.{◌∙◌, ◌++◌, ◌∷◌, [], ap, refl}
use Rattle.sheet_columns.specs.Children.{number_of}
use Rattle.sheet_columns.proofs.ChildLemmas.{numbers_after}
use Rattle.sheet_columns.proofs.children.Siblings.add.Goals as goal

pub returns-clause-ok : goal.returns-clause-ok
returns-clause-ok c =
    numbers_after (λ k. k.items) _ c.self.inside.numbers c.insert.new.self c.args.name c.args.number (λ x. refl)
    (ap (λ es. number_of es c.args.name.items) c.self.view_is ∙ c.requires) c.in_ok-insert.ensures.entries
    ∙ ap (λ es. es ++ (c.args.name.items, c.args.number) ∷ []) c.self.view_is

use Rattle.std.proofs.Common.{◌∙◌, ap}
use Rattle.sheet_columns.specs.Children.{number_of}
use Rattle.sheet_columns.proofs.ChildLemmas.{number_lookup}
use Rattle.sheet_columns.proofs.children.Siblings.find.Goals as goal

pub returns : goal.returns
returns c =
    c.copied.ensures ∙ c.get.ensures.value ∙ number_lookup (λ k. k.items) c.args.name.now c.self.inside.numbers.entries
    ∙ ap (λ es. number_of es c.args.name.now) c.self.view_is

use Rattle.std.proofs.Common.{◌∙◌, ap, position, ◌++◌, ◌∷◌, [], refl}
use Rattle.std.specs.Prelude.{bytes_eq}
use Rattle.sheet_callers.proofs.IndexLemmas.{images-after-new}
use Rattle.sheet_callers.proofs.index.Index.add.Goals as goal

pub returns-clause-ok : goal.returns-clause-ok
returns-clause-ok c =
    images-after-new (λ a b. bytes_eq a.items b.items) (λ t. t.items) (bytes_eq c.args.text.items) c.self.inside.texts.keys
    c.args.text c.insert.new.self.keys (λ x. refl)
    (ap (position (bytes_eq c.args.text.items)) c.self.view_is ∙ c.requires) c.in_ok-insert.ensures.keys
    ∙ ap (λ ts. ts ++ c.args.text.items ∷ []) c.self.view_is

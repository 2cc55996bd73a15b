use Rattle.std.proofs.Common.{◌∙◌, sym, ap, position}
use Rattle.std.specs.Prelude.{bytes_eq}
use Rattle.sheet_callers.proofs.IndexLemmas.{position-map}
use Rattle.sheet_callers.proofs.index.Index.find.Goals as goal

pub returns : goal.returns
returns c =
    c.get_index_of.ensures.index ∙ sym (position-map (λ t. t.items) (bytes_eq c.args.text.now) c.self.inside.texts.keys)
    ∙ ap (position (bytes_eq c.args.text.now)) c.self.view_is

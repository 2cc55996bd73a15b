use Rattle.std.proofs.Common.{◌∙◌, sym, ap}
use Rattle.std.specs.List.{list_any}
use Rattle.std.specs.Str.{bytes_eq}
use Rattle.indexmap.specs.IndexSet.{keys}
use Rattle.sheet_types_rounds.proofs.KnownLemmas.{list_any-map}
use Rattle.sheet_types_rounds.proofs.known.KnownNames.contains.Goals as goal

pub returns : goal.returns
returns c =
    c.contains.ensures ∙ sym (list_any-map (λ k. k.items) (bytes_eq c.args.name.now) (keys c.self.inside.names))
    ∙ ap (list_any (bytes_eq c.args.name.now)) c.self.view_is

use Rattle.std.proofs.Common.{◌∙◌, sym, ap}
use Rattle.std.specs.List.{list_any}
use Rattle.std.specs.Str.{bytes_eq}
use Rattle.indexmap.specs.IndexSet.{keys}
use Rattle.sheet_types_outline.specs.Names.{is_among}
use Rattle.sheet_types_outline.proofs.NameLemmas.{list_any-map}
use Rattle.sheet_types_outline.proofs.name_table.NameTable.contains.Goals as goal

pub returns : goal.returns
returns c =
    c.contains.ensures ∙ sym (list_any-map (λ k. k.items) (bytes_eq c.bytes.result.now) (keys c.self.inside.names))
    ∙ ap (list_any (bytes_eq c.bytes.result.now)) c.self.view_is ∙ ap (is_among c.args.self.now) c.bytes.ensures.bytes

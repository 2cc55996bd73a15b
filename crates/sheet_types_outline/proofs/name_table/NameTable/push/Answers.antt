use Rattle.std.proofs.Common.{◌∙◌, ap, refl, ◌++◌, ◌∷◌, []}
use Rattle.std.specs.Str.{bytes_eq}
use Rattle.indexmap.specs.IndexSet.{keys}
use Rattle.sheet_types_outline.specs.Names.{is_among}
use Rattle.sheet_types_outline.proofs.NameLemmas.{keys_after}
use Rattle.sheet_types_outline.proofs.name_table.NameTable.push.Goals as goal

pub returns : goal.returns
returns c =
    keys_after (λ k. k.items) (λ a b. bytes_eq a.items b.items) (keys c.self.inside.names) (keys c.insert.new.self) c.in_ok-name.name c.args.name.now
    (λ x. refl) (c.in_ok-name.ensures.items ∙ c.bytes.ensures.bytes)
    (ap (λ ns. is_among ns c.args.name.now) c.self.view_is ∙ c.requires) c.in_ok-insert.ensures.keys
    ∙ ap (λ ns. ns ++ c.args.name.now ∷ []) c.self.view_is

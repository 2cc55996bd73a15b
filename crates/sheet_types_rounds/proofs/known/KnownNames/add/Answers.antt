use Rattle.std.proofs.Common.{◌∙◌, ap, refl}
use Rattle.std.specs.Str.{bytes_eq}
use Rattle.indexmap.specs.IndexSet.{keys}
use Rattle.sheet_types_rounds.specs.Waiting.{with_name}
use Rattle.sheet_types_rounds.proofs.KnownLemmas.{keys_with}
use Rattle.sheet_types_rounds.proofs.known.KnownNames.add.Goals as goal

pub returns : goal.returns
returns c =
    keys_with (λ k. k.items) (λ a b. bytes_eq a.items b.items) (keys c.self.inside.names) (keys c.insert.new.self) c.in_ok-name.name
    (λ x. refl) c.in_ok-insert.ensures.keys
    ∙ ap (with_name _) (c.in_ok-name.ensures.items ∙ c.bytes.ensures.bytes)
    ∙ ap (λ ns. with_name ns c.args.name.now) c.self.view_is
